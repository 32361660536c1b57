-- A line as it is read is its form with the statement of its body, or the fault of one of them.
use Rattle.std.proofs.Common.{◌≡◌, ℕ, List, rules}
use Rattle.std.specs.Prelude.{Option, Ok, Err}
use Rattle.rv_tokens.specs.declared.fault.LineFault.{LineFault}
use Rattle.rv_tokens.specs.Support.Partial.{Fails}
use Rattle.rv_source.specs.declared.statement.Statement.{Statement}
use Rattle.rv_source.specs.Support.Partial.{LineForm}
use Rattle.rv_source.specs.Reading.{parsed, line_form, statement_of}

-- ---- a line that has a form

module _ (text : List ℕ) (read : LineForm) (w : line_form text ≡ Ok read) where
  pub as_parsed : (statement : Option Statement) → Ok statement ≡ statement_of read.1
      → parsed text ≡ Ok (record { labels = read.0; statement = statement })
  unfolding parsed
  as_parsed statement h = search (rules, w, h)

  pub statement_fails : (fault : LineFault) → Err fault ≡ statement_of read.1 → Fails fault (parsed text)
  unfolding parsed
  statement_fails fault h = search (rules, w)

-- ---- a line that has none

pub form_fails : (text : List ℕ) (fault : LineFault) → Fails fault (line_form text) → Fails fault (parsed text)
unfolding parsed
form_fails text fault h = search rules
