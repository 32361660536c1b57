use Rattle.std.proofs.Common.{◌++◌, ◌-◌, ◌≡◌, ◌<◌, ℕ, List, arith, take, drop}
use Rattle.std.proofs.KnownBytes.{Appends-trans}
use Rattle.std.proofs.Math.Seq.{take-add}
use Rattle.std.proofs.lemmas.Grind.{common_steps}
use Rattle.rv_io.proofs.text.write_whole.Goals as goal

-- the bytes from d up to n follow the first d
two_pieces : (d n : ℕ) (bytes : List ℕ) → d < n → take d bytes ++ take (n - d) (drop d bytes) ≡ take n bytes
two_pieces d n bytes after = grind (arith, common_steps, take-add {A = ℕ})

pub loop-done-preserved : goal.loop-done-preserved
loop-done-preserved g c =
    let d = c.loop-done.done in
    let n = c.in_ok-done.done in
    let bytes = c.args.bytes.now in
    let after = c.in_ok-done.ensures.ok.more in
    let within = c.in_ok-done.ensures.ok.within in
    let sound = c.in_ok-done.ensures.ok.sound in
    let took = Appends-trans _ _ _ (take d bytes) (take (n - d) (drop d bytes)) c.loop-done.invariant.took
    c.in_ok-done.ensures.ok.took in
    record { took = rw (two_pieces d n bytes after) at took; within = within; sound = sound }
