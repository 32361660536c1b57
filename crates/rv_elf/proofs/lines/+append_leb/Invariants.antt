use Rattle.rv_elf.proofs.lines.+append_leb.Given as goal

abbrev pub decreases-append_leb : goal.decreases-append_leb
decreases-append_leb l = l.number
