-- The board at reset.
-- To audit: public contracts cite this.
use Rattle.std.specs.Prelude.{ℕ, Bool, ◌*◌, ◌-◌, ◌&&◌, nat_le, nat_lt, not, List, [], ◌∷◌, ◌++◌, length, Option, find}
use Rattle.std.specs.Option.{option_map}
use Rattle.rv_ram.specs.Bytes.{zeros}
use Rattle.rv_cache.specs.SlotCount.{is_slot_count}
use Rattle.rv_bus.specs.State.{bus_at_reset}
use Rattle.rv_hart.specs.Step.{machine_at_reset}
use Rattle.rv_board.specs.BoardState.{BoardState}
use Rattle.rv_board.specs.declared.event.BootFault.{BootFault}
use Rattle.rv_board.specs.declared.event.BootFault.TheVariants.{BadPages, BadSlots, ImageTooLarge}

-- the fault for which an image of that size can't be booted with these pages of memory and slots: the first that
-- applies. A page has 4096 bytes
unfoldable pub boot_fault : ℕ → ℕ → ℕ → Option BootFault
boot_fault image_size pages slots =
    option_map (λ (row : Bool × BootFault). row.1) (find (λ row. row.0)
    ((not (nat_le 1 pages && nat_le pages 4096), BadPages) ∷ (not (is_slot_count slots), BadSlots)
    ∷ (nat_lt (4096 * pages) image_size, ImageTooLarge) ∷ []))

-- the board at reset over `size` bytes of memory, which `boot` makes 4096 times the pages: the image, followed by
-- zeros
unfoldable pub board_at_reset : List ℕ → ℕ → BoardState
board_at_reset image size =
    record { machine = machine_at_reset (bus_at_reset (image ++ zeros (size - length image))); traps = []; steps = 0 }
