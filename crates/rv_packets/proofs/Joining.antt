-- A stream in two pieces.
use Rattle.std.proofs.Common.{◌≡◌, ◌∙◌, ℕ, List, [], ◌∷◌, ◌++◌, refl, sym, ap, append_assoc}
use Rattle.std.specs.Prelude.{option_to_list}
use Rattle.rv_packets.specs.declared.item.Item.{Item}
use Rattle.rv_packets.specs.Items.{State, items, after, step}

pub joined : (s : State) (xs ys : List ℕ) → items s (xs ++ ys) ≡ items s xs ++ items (after s xs) ys
joined s [] ys = refl
joined s (x ∷ xs) ys =
    let new = option_to_list (step s.phase s x).item in
    let next = (step s.phase s x).state in
    ap (λ (l : List Item). new ++ l) (joined next xs ys)
    ∙ sym (append_assoc new (items next xs) (items (after next xs) ys))
