-- What the impls for lists send, as an array, and the text of what was sent.
use Rattle.std.proofs.Common.{◌≡◌, ℕ, suc, List, [], ◌∷◌, map, length, Some, false, refl, ap, subst}
use Rattle.std.specs.Prelude.{OnOk, Result, Ok, Err}
use Rattle.serde.specs.Event.{Log, Logs, WritesEach, WritesSeq, field_key, seq_ends, seq_begins}
use Rattle.serde.specs.declared.name.Case.TheVariants.{AsIs}
use Rattle.serde_json.specs.Data.{Data, Members, member}
use Rattle.serde_json.specs.View.{items_of}
use Rattle.serde_json.specs.Events.{SendsItems, items_len}
use Rattle.serde_json.specs.Sent.{IsTextOf}
use Rattle.serde_json.specs.Written.{compact_text, items_have_float}
use Rattle.serde_json.proofs.FreeTexts.{text_of_value}
use Rattle.rv_json.specs.Json.{list_data}
use Rattle.rv_json.specs.Support.Sends.{Sends, SendsAll}

len_of : {A : Type 0} (f : A → Data) (xs : List A) → length xs ≡ items_len (items_of (map f xs))
len_of f [] = refl
len_of f (x ∷ xs) = ap (λ n. suc n) (len_of f xs)

each_sent : {A : Type 0} (f : A → Data) (xs : List A) (old last new : Log) → WritesEach (λ x. Sends (f x)) xs old last
    → Logs last new seq_ends → SendsItems (items_of (map f xs)) old new
unfolding Sends
each_sent f [] old last new h e = subst (λ l. Logs l new seq_ends) h e
each_sent f (x ∷ xs) old last new h e = (h.0, h.1.1, each_sent f xs h.0 last new h.2 e)

each_plain : {A : Type 0} (f : A → Data) (xs : List A) (old last : Log) → WritesEach (λ x. Sends (f x)) xs old last
    → items_have_float (items_of (map f xs)) ≡ false
unfolding Sends
each_plain f [] old last h = refl
each_plain f (x ∷ xs) old last h = rw (h.1.0, each_plain f xs h.0 last h.2) refl

pub list_sent : {A : Type 0} (f : A → Data) (xs : List A) (old new : Log) → WritesSeq (λ x. Sends (f x)) xs old new
    → Sends (list_data f xs) old new
unfolding Sends list_data
list_sent f xs old new h = (
  each_plain f xs h.0 h.1 h.3,
  (h.0, subst (λ n. Logs old h.0 (seq_begins (Some n))) (len_of f xs) h.2, each_sent f xs h.0 h.1 new h.3 h.4),
)

pub text_of : (d : Data) (log : Log) (text : List ℕ) → Sends d (Some []) log → IsTextOf log text → text ≡ compact_text d
unfolding Sends
text_of d log text sent whole = text_of_value d log text sent.1 whole sent.0

-- a member that comes before others
pub member_sent : {A E : Type 0} (r : Result A E) (k : List ℕ) (d : Data) (ms : Members) (old named mid new : Log)
    → Logs old named (field_key k AsIs) → Sends d named mid → OnOk r (SendsAll ms mid new)
    → OnOk r (SendsAll (member k d ms) old new)
unfolding Sends SendsAll
member_sent (Err e) k d ms old named mid new key value rest = tt
member_sent (Ok u) k d ms old named mid new key value rest =
    (rw (value.0, rest.0) refl, (named, mid, key, value.1, rest.1))
