-- Results that may be a fault.
-- To audit: public contracts cite this.
-- The language is this project's own: docs/ASSEMBLER.md.
use Rattle.std.specs.Prelude.{◌≡◌, Result, Ok, Err}
use Rattle.rv_tokens.specs.declared.fault.LineFault.{LineFault}
use Rattle.rv_tokens.specs.declared.fault.LineFault.TheVariants.{OutOfMemory}

-- a result, seen through a view, is the one meant, unless memory ran out
abbrev pub Gives : {A B : Type 0} → (A → B) → Result A LineFault → Result B LineFault → Type 0
Gives view (Ok x) meaning = meaning ≡ Ok (view x)
Gives view (Err OutOfMemory) meaning = Unit {0}
Gives view (Err fault) meaning = meaning ≡ Err fault

-- continue with the value, unless there is a fault
infixl 10 ◌>>=◌
abbrev pub ◌>>=◌ : {A B E : Type 0} → Result A E → (A → Result B E) → Result B E
(Ok x) >>= f = f x
(Err fault) >>= f = Err fault
