-- Not to audit: private contracts alone cite this.
-- The registers by cases, as the code has them. proofs/ proves that these are the rows of the table.
use Rattle.std.specs.Prelude.{ℕ, ◌/◌, ◌%◌, ◌==◌, ◌&&◌, nat_lt, nat_le, if◌then◌else◌, Option, Some, None, unwrap_or}
use Rattle.rv_plic.specs.Gateways.{PlicState}
use Rattle.rv_plic.specs.Plic.{priority_of, best, claimed, completed, with_priority}
use Rattle.rv_plic.specs.Sources.{sources_of, word_of}
use Rattle.rv_plic.specs.declared.register.PlicReg.{PlicReg}
use Rattle.rv_plic.specs.declared.register.PlicReg.TheVariants.{Priority, Pending, Enables, Threshold, Claim}

-- the register at an offset
unfoldable pub reg_at : ℕ → Option PlicReg
reg_at off =
    if nat_le 4 off && nat_lt off 128 then Some (Priority (off / 4))
    else (if off == 0x1000 then Some Pending
    else (if off == 0x2000 then Some Enables
    else (if off == 0x200000 then Some Threshold
    else (if off == 0x200004 then Some Claim
    else None))))

-- the word of a register
abbrev pub word_at : PlicState → PlicReg → ℕ
word_at plic (Priority source) = priority_of plic source
word_at plic Pending = word_of plic.pending
word_at plic Enables = word_of plic.enabled
word_at plic Threshold = plic.threshold
word_at plic Claim = unwrap_or (best plic) 0

-- the controller after a word is stored in a register: priorities and the threshold keep three bits, and
-- there is no source 0 to enable
abbrev pub with_word : PlicState → PlicReg → ℕ → PlicState
with_word plic (Priority source) word =
    with_priority plic source (word % 8)
with_word plic Pending word = plic
with_word plic Enables word = record plic { enabled = sources_of word }
with_word plic Threshold word = record plic { threshold = word % 8 }
with_word plic Claim word = completed plic word

-- the controller after a load of a register, which changes it only by a claim
abbrev pub after_reading : PlicState → PlicReg → PlicState
after_reading plic (Priority source) = plic
after_reading plic Pending = plic
after_reading plic Enables = plic
after_reading plic Threshold = plic
after_reading plic Claim = claimed plic
