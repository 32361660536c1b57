-- Each control register that has a name can be read.
use Rattle.std.proofs.Common.{rules, arith, ◌≡◌, ℕ, Bool, true, List, [], ◌∷◌}
use Rattle.std.proofs.lemmas.Bool.{and_parts}
use Rattle.std.specs.Fmt.{digits}
use Rattle.std.specs.List.{list_all}
use Rattle.std.specs.Prelude.{Some, is_some, IsSome}
use Rattle.rv_base.specs.Tables.{lookup}
use Rattle.rv_isa.specs.Names.{csr_names}
use Rattle.rv_isa.specs.declared.Lines.{Lines}
use Rattle.rv_pmp.specs.Pmp.{read_register}
use Rattle.rv_pmp.specs.declared.mode.Mode.TheVariants.{Machine}
use Rattle.rv_csr.specs.Registers.{read}
use Rattle.rv_csr.specs.Support.RegisterCases.{register_at}
use Rattle.rv_csr.proofs.Table.{read_by_cases}
use Rattle.rv_csr.specs.State.{CsrState}
use Rattle.rv_board.specs.Support.State.{BoardState, csr_of}
use Rattle.rv_bus.specs.Access.{lines_of}

abbrev is_read : CsrState → Lines → ℕ → Bool
is_read state lines addr = is_some (read state addr Machine lines)

all_are_read : (state : CsrState) (lines : Lines) → list_all (λ e. is_read state lines e.1) csr_names ≡ true
unfolding csr_names digits register_at read_register
all_are_read state lines = simp read_by_cases

found : (p : ℕ → Bool) (name : List ℕ) (csr : ℕ) (es : List (List ℕ × ℕ)) → list_all (λ e. p e.1) es ≡ true →
    lookup name es ≡ Some csr → p csr ≡ true
found p name csr [] all is = absurd cc
found p name csr (e ∷ es) all is = search (rules, arith, and_parts, found p name csr es)

pub named_is_read : (b : BoardState) (name : List ℕ) (csr : ℕ) → lookup name csr_names ≡ Some csr →
    IsSome (csr_of b csr)
named_is_read b name csr is = found (is_read b.machine.csrs (lines_of b.machine.bus)) name csr csr_names
    (all_are_read b.machine.csrs (lines_of b.machine.bus)) is
