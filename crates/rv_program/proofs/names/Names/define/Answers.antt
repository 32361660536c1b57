use Rattle.std.proofs.Common.{rules, ◌≡◌, ◌∙◌, ap, [], ◌∷◌, ◌++◌, None, ap₂}
use Rattle.std.proofs.lemmas.Int.{to_z-of_z}
use lib.Pointwise.{pointwise}
use Rattle.std.specs.Prelude.{nat_eq}
use mir.Syntax.{w64}
use mir.Val.{SFits}
use Rattle.rv_base.specs.Tables.{lookup}
use Rattle.rv_program.specs.Support.Kept.{definitions_of}
use Rattle.indexmap.proofs.CallerLemmas.{insert_entry-new}
use Rattle.rv_program.proofs.Lookups.{lookup_value, definitions_of-push, AreWords-push}
use Rattle.rv_program.proofs.names.Names.define.Goals as goal
use Rattle.rv_program.proofs.names.Names.define.Goals.{In_ok-insert}

key_is : (c : In_ok-insert) → c.in_ok-key.key.items ≡ c.args.name.now
key_is c = c.in_ok-key.ensures.items_if_clones_equal (λ x y e. e)

entries_are : (c : In_ok-insert)
    → definitions_of c.insert.new.self.entries
    ≡ definitions_of c.self.inside.map.entries ++ (c.args.name.now, c.args.value) ∷ []
entries_are c =
    let absent : lookup c.in_ok-key.key.items (definitions_of c.self.inside.map.entries) ≡ None =
    rw (key_is c, c.self.view_is) c.requires.absent in
    let fits : SFits w64 c.args.value = search rules in
    let new =
    insert_entry-new (λ x y. pointwise nat_eq x.items y.items) c.self.inside.map c.in_ok-key.key _
    (lookup_value c.self.inside.map.entries c.in_ok-key.key.items ∙ absent) in
    let all =
    ap definitions_of (c.in_ok-insert.ensures.entries ∙ new)
    ∙ definitions_of-push c.self.inside.map.entries c.in_ok-key.key _ in
    all
    ∙ ap₂ (λ k v. definitions_of c.self.inside.map.entries ++ (k, v) ∷ []) (key_is c)
    (search (rules, to_z-of_z))

pub invariant_of-self-2 : goal.invariant_of-self-2
invariant_of-self-2 c =
    rw (entries_are c)
    (AreWords-push
    (definitions_of c.self.inside.map.entries) c.args.name.now c.args.value c.self.invariant c.requires.word)

pub returns-clause-ok : goal.returns-clause-ok
returns-clause-ok c = entries_are c ∙ ap (λ ds. ds ++ (c.args.name.now, c.args.value) ∷ []) c.self.view_is
