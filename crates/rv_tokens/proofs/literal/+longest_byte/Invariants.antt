use Rattle.rv_tokens.proofs.literal.+longest_byte.Given as goal

abbrev pub decreases-longest_byte : goal.decreases-longest_byte
decreases-longest_byte l = l.most
