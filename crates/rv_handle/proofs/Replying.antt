-- What is shown of a reply, by what it is.
use Rattle.std.proofs.Common.{◌≡◌, ◌∙◌, ℕ, List, ap}
use Rattle.rv_lab.specs.State.{LabState}
use Rattle.rv_lab.specs.declared.lab.Next.{Next}
use Rattle.rv_lab.specs.declared.lab.Reply.{Reply}
use Rattle.rv_handle.specs.Pages.{reply_text, told_as}

pub told_reply : (l : LabState) (r s : Reply) (text : List ℕ) → r ≡ s → text ≡ reply_text l r → text ≡ reply_text l s
told_reply l r s text is shown = shown ∙ ap (reply_text l) is

pub told_next : (r s : Reply) (n : Next) (code : ℕ) → r ≡ s → n ≡ r.next → code ≡ (told_as n).0
    → code ≡ (told_as s.next).0
told_next r s n code is next told = told ∙ (ap (λ m. (told_as m).0) next ∙ ap (λ x. (told_as x.next).0) is)
