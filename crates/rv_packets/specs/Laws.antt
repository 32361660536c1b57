-- Laws of the packets of gdb's remote protocol.
-- To audit: public contracts cite this.
use Rattle.std.specs.Prelude.{◌≡◌, ℕ, List, [], ◌∷◌, ◌++◌}
use Rattle.rv_packets.specs.declared.item.Item.TheVariants.{Packet}
use Rattle.rv_packets.specs.Items.{State, items, after, outside, framed}

-- a stream says in two pieces what it says as a whole
abbrev pub ItemsJoin : Type 0
ItemsJoin = (s : State) (xs ys : List ℕ) → items s (xs ++ ys) ≡ items s xs ++ items (after s xs) ys

-- contents that are framed are read as one packet of them
abbrev pub FramedIsRead : Type 0
FramedIsRead = (contents : List ℕ) → items outside (framed contents) ≡ Packet contents ∷ []
