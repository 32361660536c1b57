use Rattle.rv_isa.proofs.Meaning as meaning
use Rattle.rv_isa.proofs.encoding.words_differ.Goals as goal

pub returns : goal.returns
returns c = meaning.words_differ
