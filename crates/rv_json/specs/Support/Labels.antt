-- The labels of a listing that is lent. Only private contracts cite this.
use Rattle.std.specs.Prelude.{ℕ, List}
use Rattle.rv_asm.specs.Seen.{seen}
use Rattle.rv_json.specs.declared.names.Names.{Names}

abbrev pub labels : Names → List (List ℕ × ℕ)
labels n = (seen n.listing).labels
