-- An argument with a default value has a value after each parse of a simple command, whatever the words are,
-- and the value passed the argument's parser.
use Rattle.std.proofs.Common.{arith, ◌≡◌, ◌∙◌, ◌<◌, ◌+◌, ◌==◌, ◌&&◌, ◌||◌, ap, subst, sym, refl, ℕ, Bool, true, false, not, zero, suc, List, [], ◌∷◌, length, map, is_some, Some, None, inl, inr}
use Rattle.std.proofs.lemmas.Bool.{false≢true}
use Rattle.std.proofs.lemmas.Bool.Decides.{nat_tests}
use Rattle.std.proofs.lemmas.Grind.{common_steps}
use Rattle.std.specs.Prelude.{codes, find, option_map, slice_get}
use Rattle.std.specs.List.{All, slice_index_or}
use Rattle.std.specs.Str.{bytes_eq}
use Rattle.std.specs.Borrow.{Bor}
use Rattle.std.proofs.Math.ListN.{get_or-map}
use Rattle.std.proofs.lemmas.List.{get_or_default, length-map}
use Rattle.std.proofs.lemmas.List.Elements.{All-head, All-tail}
use Rattle.std.proofs.lemmas.Slice.Eq.{bytes_eq-Decides}
use Rattle.clap.specs.Facts.{Entry, EntryPasses, HasIn, IsParsed, PassesArg, WantsDefault, args_of, groups_of}
use Rattle.clap.specs.Built.{IsAuto, IsParsedFrom, SameRules}
use Rattle.clap.specs.Matches.{first_value, found_of, has_subcommand, matched_of, one_text}
use Rattle.clap.specs.Values.{Accepts, read_as, reading_of}
use Rattle.clap.specs.Walk.{Rule, Text, is_empty, is_simple_arg, rule_of}
use Rattle.clap.specs.declared.builder.action.ArgAction.TheVariants.{Set}
use Rattle.clap.specs.declared.builder.arg.Arg.{Arg}
use Rattle.clap.specs.declared.builder.command.Command.{Command}
use Rattle.clap.specs.declared.builder.command.Command.TheViews.{out-Command}
use Rattle.clap.specs.declared.builder.value_parser.ValueParser.{ValueParser}
use Rattle.clap.specs.declared.parser.matches.ArgMatches.{ArgMatches}
use Rattle.clap.proofs.CallerLemmas.{default_present, same_rules_by_id}
use Rattle.clap.proofs.SimpleLemmas.{all_simple, is_nil, simple_groups}
use Rattle.clap.proofs.TakesLemmas.{each_rule}
use Rattle.clap.proofs.WalkLemmas.{both}

-- ---- lists

-- no rule has the id but the k-th of all, of which these are those from the i-th on
abbrev pub only_at : Text → ℕ → ℕ → List Rule → Bool
only_at id k i [] = true
only_at id k i (r ∷ rs) = (not (bytes_eq r.id id) || i == k) && only_at id k (suc i) rs

only_there : (xs : List Arg) (id : Text) (k i j : ℕ) (e : Arg) → only_at id k i (map rule_of xs) ≡ true → j < length xs
    → bytes_eq (slice_index_or xs j e).id.now id ≡ true → i + j ≡ k
only_there [] id k i j e h lt same = absurd (omega (arith, lt))
only_there (x ∷ xs) id k i zero e h lt same = grind (arith, nat_tests)
only_there (x ∷ xs) id k i (suc j) e h lt same =
    let rest = (both (not (bytes_eq x.id.now id) || i == k) (only_at id k (suc i) (map rule_of xs)) h).1 in
    let next : suc i + j ≡ k = only_there xs id k (suc i) j e rest (omega (arith, lt)) same in omega (arith, next)

nonempty_texts : (xs : List (Bor Text)) (ts : List Text) → map (λ s. s.now) xs ≡ ts → 0 < length ts → 0 < length xs
nonempty_texts [] ts e lt = let bad : 0 < 0 = rw (← e) at lt in absurd (omega arith)
nonempty_texts (x ∷ xs) ts e lt = omega arith

-- the entry of an id, which passes what all pass
abbrev EntryIn : (Entry → Type 0) → List Entry → Text → Type 0
EntryIn P xs id =
    (e : Entry) × (option_map (λ e. e.1) (find (λ e. bytes_eq e.0.now id) xs) ≡ Some e.1) × (e.0.now ≡ id) × P e

entry_by : (P : Entry → Type 0) (x : Entry) (xs : List Entry) (id : Text) → P x → (HasIn xs id → EntryIn P xs id) → (b : Bool)
    → bytes_eq x.0.now id ≡ b → (i : ℕ) → i < length (x ∷ xs)
    → ((d : Entry) → bytes_eq (slice_index_or (x ∷ xs) i d).0.now id ≡ true) → EntryIn P (x ∷ xs) id
entry_by P x xs id passes rest true is i lt has = (x, rw is refl, (bytes_eq-Decides x.0.now id).0 is, passes)
entry_by P x xs id passes rest false is zero lt has = absurd (false≢true (sym is ∙ has x))
entry_by P x xs id passes rest false is (suc i) lt has =
    let e = rest (i, omega (arith, lt), has) in (e.0, rw is e.1, e.2, e.3)

entry_of : (P : Entry → Type 0) (xs : List Entry) (id : Text) → All P xs → HasIn xs id → EntryIn P xs id
entry_of P [] id all has = let none = has.1 in absurd (omega arith)
entry_of P (x ∷ xs) id all has = entry_by P x xs id (All-head P x xs all) (entry_of P xs id (All-tail P x xs all))
    (bytes_eq x.0.now id) refl has.0 has.1 has.2

first_of : (P : Bor Text → Type 0) (vs : List (Bor Text)) → All P vs → 0 < length vs
    → (v : Bor Text) × (slice_get vs 0 ≡ Some v) × P v
first_of P [] all lt = absurd (omega (arith, lt))
first_of P (v ∷ vs) all lt = (v, refl, All-head P v vs all)

some_element : {X : Type 0} (xs : List X) (k : ℕ) → k < length xs → X
some_element [] k lt = absurd (omega arith)
some_element (x ∷ xs) k lt = x

-- ---- a parse of a simple command

-- the matches of a parse of the command with these rules
pub record IsParseOf (rules : List Rule) (old : Command) (m : ArgMatches) : Type 0 where
  pub rules_are : map rule_of (args_of old) ≡ rules
  pub simple : all_simple rules ≡ true
  pub groups : groups_of old ≡ []
  pub globals : (out-Command old).has_globals ≡ false
  pub parsed : IsParsedFrom old m

-- the k-th rule is of an option with a default value, and no other rule has its id
pub record HasDefaultAt (rules : List Rule) (k : ℕ) (r : Rule) : Type 0 where
  pub within : k < length rules
  pub at : slice_index_or rules k r ≡ r
  pub only : only_at r.id k 0 rules ≡ true
  pub action : r.action ≡ Some Set
  pub range : r.range ≡ None
  pub defaults : 0 < length r.defaults
  pub named : is_empty r.id ≡ false
  pub no_help : bytes_eq r.id (codes "help") ≡ false
  pub no_version : bytes_eq r.id (codes "version") ≡ false

module _ (rules : List Rule) (old : Command) (m : ArgMatches) (p : IsParseOf rules old m) (k : ℕ) (r : Rule)
    (h : HasDefaultAt rules k r) where
  within : k < length (args_of old)
  within = search (rules, arith, length-map)

  abbrev built : Command
  built = p.parsed.built

  abbrev arg : Arg
  arg = slice_index_or (args_of old) k (some_element (args_of old) k within)

  rule_is : rule_of arg ≡ r
  rule_is = grind (arith, nat_tests, common_steps, get_or-map, get_or_default)

  id_is : arg.id.now ≡ r.id
  id_is = ap (λ (x : Rule). x.id) rule_is

  simple : is_simple_arg arg ≡ true
  simple = each_rule (λ r. r.is_simple) (args_of old) (rw p.rules_are p.simple) k _ within

  wants : WantsDefault arg
  wants = search (rules, arith, simple, rule_is, both, is_nil, nonempty_texts)

  no_auto : IsAuto arg → ⊥
  no_auto auto = search (rules, arith, rule_is)

  only : (j : ℕ) (e : Arg) → j < length (args_of old) → bytes_eq (slice_index_or (args_of old) j e).id.now arg.id.now ≡ true
      → j ≡ k
  only j e l same =
      let at : 0 + j ≡ k = only_there (args_of old) arg.id.now k 0 j e (rw (id_is, p.rules_are) h.only) l same in omega (arith, at)

  -- an argument of the built command with its id has its rules
  same_rules : (j : ℕ) (y : Arg) → j < length (args_of built) → slice_index_or (args_of built) j y ≡ y
      → bytes_eq y.id.now arg.id.now ≡ true → SameRules arg y
  same_rules = same_rules_by_id old m p.parsed k _ within only no_auto

  is_parsed : IsParsed built (found_of m) (has_subcommand m)
  is_parsed = p.parsed.parsed (p.parsed.from.globals ∙ p.globals)

  entry : EntryIn (EntryPasses built) (found_of m).entries.items arg.id.now
  entry = entry_of (EntryPasses built) (found_of m).entries.items arg.id.now is_parsed.values
      (default_present old m p.parsed p.globals k _ within wants)

  -- it is none of a group
  no_group : entry.0.1.is_group ≡ true → ⊥
  no_group is = elim (entry.3.3 is) [
    | inl empty ↦ search (rules, arith, rule_is, entry)
    | inr some ↦
        let none : groups_of built ≡ [] = (p.parsed.from.same_groups (simple_groups old (rw p.rules_are p.simple))).1 ∙ p.groups in
        let bad : 0 < 0 = rw none at some in absurd (omega arith)
  ]

  first : (v : Bor Text) × (slice_get entry.0.1.vals.items 0 ≡ Some v) × PassesArg built arg.id.now v.now
  first = first_of (λ v. PassesArg built arg.id.now v.now) entry.0.1.vals.items all some
    where
      all : All (λ v. PassesArg built arg.id.now v.now) entry.0.1.vals.items
      all = elim entry.3.0 [
        | inl group ↦ absurd (no_group group)
        | inr vals ↦ subst (λ (t : Text). All (λ v. PassesArg built t v.now) entry.0.1.vals.items) entry.2 vals
      ]

      some : 0 < length entry.0.1.vals.items
      some = search (rules, arith, no_group, entry, same_rules, rule_is, simple, both, is_nil)

  matched : matched_of (found_of m) r.id ≡ Some entry.0.1
  matched = subst (λ (t : Text). matched_of (found_of m) t ≡ Some entry.0.1) id_is entry.1

  -- the entry of the argument has a value
  pub has_value : is_some (first_value (found_of m) r.id) ≡ true
  has_value = rw (matched, first.1) refl

  -- which is read as the argument's parser reads it, and passed that parser
  pub reads : (q : ValueParser) → r.parser ≡ Some q
      → (t : Text) × (one_text (found_of m) r.id ≡ Some (read_as (reading_of q) t)) × Accepts r.ignore_case q t
  reads q parser = (first.0.now, rw (matched, first.1, reading) refl, accepts)
    where
      parser_is : arg.value_parser ≡ Some q
      parser_is = ap (λ (x : Rule). x.parser) rule_is ∙ parser

      reading : entry.0.1.reading ≡ reading_of q
      reading = elim entry.3.4 [
        | inl group ↦ absurd (no_group group)
        | inr any ↦ search (rules, arith, same_rules, entry, parser_is)
      ]

      accepts : Accepts r.ignore_case q first.0.now
      accepts = search (rules, arith, same_rules, first, rule_is, parser_is)
