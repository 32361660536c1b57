use Rattle.rv_options.proofs.BoardParse.{board_free}
use Rattle.rv_options.proofs.laws.words_have_a_meaning.Goals as goal

pub returns : goal.returns
returns c = board_free
