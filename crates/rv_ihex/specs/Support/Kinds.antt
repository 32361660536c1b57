-- The numbers of the types of records. Private contracts cite this; the audited definition has the numbers.
use Rattle.std.specs.Prelude.{ℕ}
use Rattle.rv_ihex.specs.declared.record.Kind.{Kind}
use Rattle.rv_ihex.specs.declared.record.Kind.TheVariants.{Data, End, Upper}

abbrev pub number_of : Kind → ℕ
number_of Data = 0
number_of End = 1
number_of Upper = 4
