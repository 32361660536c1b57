-- To audit: public contracts cite this.
-- The interrupt controller (PLIC Specification 1.0) with 31 sources and one context.
use Rattle.std.specs.Prelude.{ℕ, Bool, ◌*◌, ◌%◌, ◌==◌, ◌&&◌, not, nat_lt, if◌then◌else◌, List, [], ◌∷◌, ◌++◌, map, slice_index, slice_set, Option, unwrap_or}
use Rattle.std.specs.List.{find, list_any}
use Rattle.std.specs.Option.{option_map_or}
use Rattle.std.specs.FinSet.{contains, remove}
use Rattle.rv_base.specs.Registers.{Register, register}
use Rattle.rv_plic.specs.Sources.{sources, sources_of, word_of}
pub use Rattle.rv_plic.specs.Gateways.{PlicState, plic_at_reset, with_line, forwarded}

-- ---- the best source
-- the priority of a source
abbrev pub priority_of : PlicState → ℕ → ℕ
priority_of plic source = slice_index plic.priorities source

-- whether a source asks above a level: it is pending and enabled, and its priority is above the level
abbrev pub asks_above : PlicState → ℕ → ℕ → Bool
asks_above p level s = contains p.pending s && contains p.enabled s && nat_lt level (priority_of p s)

-- whether any source does
abbrev pub any_asks_above : PlicState → ℕ → Bool
any_asks_above p level = list_any (asks_above p level) sources

-- the first source that asks above 0 while none asks above its priority ("Interrupt Priorities": 0 never
-- interrupts, and of equal priorities the lowest number goes first)
unfoldable pub best : PlicState → Option ℕ
best p = find (λ s. asks_above p 0 s && not (any_asks_above p (priority_of p s))) sources

-- whether the external line is high ("Interrupt Notifications", "Priority Thresholds")
unfoldable pub is_notified : PlicState → Bool
is_notified plic = any_asks_above plic plic.threshold

-- ---- the registers ("Memory Map"), each of which is one word
-- the controller after a claim: the best source is no longer pending. The threshold plays no part ("Interrupt
-- Claim Process")
abbrev pub claimed : PlicState → PlicState
claimed plic = option_map_or (λ source. record plic { pending = remove plic.pending source }) (best plic) plic

-- the controller after a completion, which frees the gateway of an enabled source. Any other word is ignored
-- ("Interrupt Completion")
abbrev pub completed : PlicState → ℕ → PlicState
completed p word = if contains p.enabled word then record p { outstanding = remove p.outstanding word } else p

-- the controller with another priority of a source
abbrev pub with_priority : PlicState → ℕ → ℕ → PlicState
with_priority p source priority = record p { priorities = slice_set p.priorities source priority }

-- the registers by their offsets: the priority of each source, the pending and the enabled sources, the
-- threshold, and claim and completion. Priorities and the threshold have three bits
unfoldable pub registers : List (ℕ × Register PlicState)
registers =
    map (λ s. (4 * s, register (λ p. priority_of p s) (λ p word. with_priority p s (word % 8)))) sources
    ++ (0x1000, register (λ p. word_of p.pending) (λ p word. p))
    ∷ (0x2000, register (λ p. word_of p.enabled) (λ p word. record p { enabled = sources_of word }))
    ∷ (0x200000, register (λ p. p.threshold) (λ p word. record p { threshold = word % 8 }))
    ∷ (0x200004, record { word = λ p. unwrap_or (best p) 0; loaded = claimed; stored = completed }) ∷ []

-- the register at an offset. Where there is none, a load returns 0 and a store changes nothing
unfoldable pub plic_register : ℕ → Register PlicState
plic_register off = option_map_or (λ row. row.1) (find (λ row. off == row.0) registers) (register (λ p. 0) (λ p word. p))
