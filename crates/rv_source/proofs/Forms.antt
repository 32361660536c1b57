-- The form of a line is that of its labels and its body.
use Rattle.std.proofs.Common.{◌≡◌, ℕ, List, ◌∷◌, refl, sym, ◌∙◌, rules}
use Rattle.std.specs.Prelude.{Option, option_and_then, Result, Ok}
use Rattle.std.specs.Option.{option_map}
use Rattle.rv_tokens.specs.declared.token.Token.{Token}
use Rattle.rv_tokens.specs.declared.token.Token.TheVariants.{Name, Colon}
use Rattle.rv_tokens.specs.declared.fault.LineFault.{LineFault}
use Rattle.rv_tokens.specs.Faults.{Gives}
use Rattle.rv_source.specs.declared.line.Label.{Label}
use Rattle.rv_source.specs.declared.line.Body.{Body}
use Rattle.rv_source.specs.Support.Partial.{labels_of, body_of, form_by_parts}
use Rattle.rv_source.specs.Reading.{label_of, form, line_form}

abbrev Form : Type 0
Form = List Label × Body

-- a body after labels
abbrev after : ℕ → List Label × List Token → Option Form
after n p = option_map (λ body. (p.0, body)) (body_of n p.1)

more : (n : ℕ) (o : Option Label) (q : Option (List Label × List Token)) → ◌≡◌ {A = Option Form}
    (option_and_then (λ l. option_map {T = Form} (λ w. (l ∷ w.0, w.1)) (option_and_then (after n) q)) o)
    (option_and_then (after n) (option_and_then (λ l. option_map (λ p. (l ∷ p.0, p.1)) q) o))
more n o q = search rules

form_is : (n : ℕ) (ts : List Token) → form n ts ≡ option_and_then (after n) (labels_of ts)
unfolding form labels_of
form_is n (t ∷ Colon ∷ ts) = rw (form_is n ts) (more n (label_of t) (labels_of ts))
form_is n (Name word ∷ ts) = search rules
form_is n ts = refl

line_form_is : (line : List ℕ) → form_by_parts line ≡ line_form line
unfolding form_by_parts line_form
line_form_is line = search (rules, form_is)

pub as_line_form : (line : List ℕ) (r : Result Form LineFault) → Gives (λ l. l) r (form_by_parts line)
    → Gives (λ l. l) r (line_form line)
as_line_form line r h = rw (← line_form_is line) h

pub as_read : (line : List ℕ) (l : Form) → form_by_parts line ≡ Ok l → line_form line ≡ Ok l
as_read line l h = sym (line_form_is line) ∙ h
