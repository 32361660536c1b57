-- To audit: public contracts cite this.
-- Laws of the talk with gdb.
use Rattle.std.specs.Prelude.{◌≡◌, ℕ, List, ◌++◌}
use Rattle.rv_packets.specs.Items.{State, after, items}
use Rattle.rv_packets.specs.declared.item.Item.{Item}
use Rattle.rv_gdb.specs.Talk.{TalkState, Talks}

-- what a stream in two pieces leaves and appends, one after the other, it leaves and appends as a whole
abbrev pub PiecesJoin : Type 0
PiecesJoin = (s : State) (xs ys : List ℕ) (old mid new : TalkState) (before between done : List ℕ)
    → Talks (items s xs) old mid before between → Talks (items (after s xs) ys) mid new between done
    → Talks (items s (xs ++ ys)) old new before done

-- items only append to the output
abbrev pub OutputGrows : Type 0
OutputGrows = (is : List Item) (old new : TalkState) (before done : List ℕ)
    → Talks is old new before done → ((more : List ℕ) × (done ≡ before ++ more))
