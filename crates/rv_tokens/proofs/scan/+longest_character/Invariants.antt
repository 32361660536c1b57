use Rattle.rv_tokens.proofs.scan.+longest_character.Given as goal

abbrev pub decreases-longest_character : goal.decreases-longest_character
decreases-longest_character l = l.most
