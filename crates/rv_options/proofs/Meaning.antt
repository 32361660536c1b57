-- The command of each usage is one of those of which `clap`'s meaning says the matches and the errors.
use Rattle.std.proofs.Common.{rules, arith, ◌≡◌, ap, refl, sym, ℕ, Bool, true, false, List, [], ◌∷◌, ◌++◌, map}
use Rattle.std.proofs.lemmas.List.{append-nil, append_assoc}
use Rattle.std.proofs.lemmas.List.Elements.{All-nil, All-cons, All-head, All-tail, All-append}
use Rattle.std.specs.List.{All, list_all, list_any}
use Rattle.clap.specs.Simple.{filled, filled_from, index_after, new_shape, with_index}
use Rattle.clap.specs.Walk.{is_early_multiple, is_multiple}
use Rattle.clap.specs.Words.{App, Rule, Text, is_simple, is_simple_and_free, with_rule}
use Rattle.clap.proofs.WalkLemmas.{both}
use Rattle.rv_options.specs.Usage.{argument_rule, usage_app, with_arguments}
use Rattle.rv_options.specs.declared.usage.Argument.{Argument}
use Rattle.rv_options.specs.declared.usage.Usage.{Usage}

-- ---- the rules

-- a rule that has no rule on others, and of which a use has one value at most
record IsPlainRule (r : Rule) : Type 0 where
  simple : r.is_simple ≡ true
  free : r.is_free ≡ true
  single : is_multiple (filled r) ≡ false

argument_plain : (a : Argument) → IsPlainRule (argument_rule a)
argument_plain a = search rules

arguments_plain : (xs : List Argument) → All IsPlainRule (map argument_rule xs)
arguments_plain [] = All-nil IsPlainRule
arguments_plain (a ∷ xs) = search (rules, arith, All-cons, argument_plain, arguments_plain xs)

with_flag : (rs : List Rule) (r : Rule) → IsPlainRule r → All IsPlainRule rs → All IsPlainRule (rs ++ r ∷ [])
with_flag rs r plain all = search (rules, arith, All-append, All-cons, All-nil)

-- ---- the rules that building gives

all_simple : (rs : List Rule) → All IsPlainRule rs → list_all (λ r. r.is_simple) rs ≡ true
all_simple [] all = refl
all_simple (r ∷ rs) all = rw (All-head IsPlainRule r rs all).simple (all_simple rs (All-tail IsPlainRule r rs all))

built_all : (p : Rule → Bool) → ((i : ℕ) (r : Rule) → IsPlainRule r → p (with_index i (filled r)) ≡ true) → (i : ℕ)
    → (rs : List Rule) → All IsPlainRule rs → list_all p (filled_from i rs) ≡ true
built_all p each i [] all = refl
built_all p each i (r ∷ rs) all = rw (each i r (All-head IsPlainRule r rs all))
    (built_all p each (index_after i r) rs (All-tail IsPlainRule r rs all))

built_simple : (i : ℕ) (rs : List Rule) → All IsPlainRule rs → list_all (λ r. r.is_simple) (filled_from i rs) ≡ true
built_simple i rs all = built_all (λ r. r.is_simple) (λ i r plain. plain.simple) i rs all

built_free : (i : ℕ) (rs : List Rule) → All IsPlainRule rs → list_all (λ r. r.is_free) (filled_from i rs) ≡ true
built_free i rs all = built_all (λ r. r.is_free) (λ i r plain. plain.free) i rs all

early : (n i : ℕ) (r : Rule) → is_multiple (filled r) ≡ false → is_early_multiple n (with_index i (filled r)) ≡ false
early n i r single = search (rules, arith)

built_single : (n i : ℕ) (rs : List Rule) → All IsPlainRule rs
    → list_any (is_early_multiple n) (filled_from i rs) ≡ false
built_single n i [] all = refl
built_single n i (r ∷ rs) all = rw (early n i r (All-head IsPlainRule r rs all).single)
    (built_single n (index_after i r) rs (All-tail IsPlainRule r rs all))

-- ---- the command

abbrev app_with : Text → Bool → List Rule → App
app_with name version rules = record { top = record (new_shape name) { has_version = version; rules = rules }; subs = [] }

app_meaning : (name : Text) (version : Bool) (rs : List Rule) → All IsPlainRule rs
    → is_simple_and_free (app_with name version rs) ≡ true
app_meaning name true rs all =
    search (rules, arith, with_flag, all_simple, built_simple, built_single, built_free)
app_meaning name false rs all =
    search (rules, arith, with_flag, all_simple, built_simple, built_single, built_free)

added : (app : App) (xs : List Argument)
    → with_arguments app xs ≡ record app { top = record app.top { rules = app.top.rules ++ map argument_rule xs } }
added app [] = ap (λ rs. record app { top = record app.top { rules = rs } }) (sym (append-nil app.top.rules))
added app (a ∷ xs) = search (rules, append_assoc, added (with_rule app (argument_rule a)) xs)

pub usage_meaning : (usage : Usage) → is_simple_and_free (usage_app usage) ≡ true
unfolding usage_app
usage_meaning usage = search (rules, added, app_meaning, arguments_plain)

-- so it is one of those of which that says the matches
pub usage_simple : (usage : Usage) → is_simple (usage_app usage) ≡ true
usage_simple usage = (both _ _ (usage_meaning usage)).0
