-- What is told.
use Rattle.std.proofs.Common.{◌≡◌, ℕ, ◌-◌, List, ◌++◌}
use Rattle.std.specs.Prelude.{None, Some}
use Rattle.rv_packets.specs.Items.{framed}
use Rattle.rv_replies.specs.declared.stops.Reason.{Reason}
use Rattle.rv_replies.specs.declared.stops.Reason.TheVariants.{Plain}
use Rattle.rv_gdb.specs.Moves.{IsPacket, Lands, Notes, lost_by, signal_of, state_packet, stop_packets, taken, went_back}
use Rattle.rv_gdb.specs.Target.{TargetState, console_text, note_packet}

pub packet : (contents before after : List ℕ) → after ≡ before ++ framed contents → IsPacket before after
unfolding IsPacket
packet contents before after e = (contents, e)

pub noted : (text before after : List ℕ) → after ≡ before ++ note_packet text → Notes before after
unfolding Notes
noted text before after e = (text, e)

-- where a move ends that led to no trap without a handler, and one that did
pub stays : (reason : Reason) (t : TargetState) (before after : List ℕ) → lost_by t ≡ None
    → after ≡ before ++ stop_packets 5 reason t → Lands reason t before after
unfolding Lands
stays reason t before after is e = rw is e

pub lost : (reason : Reason) (t new : TargetState) (cause : ℕ) (before told noted after : List ℕ) → lost_by t ≡ Some cause
    → told ≡ before ++ console_text t → Notes told noted → new ≡ went_back t (taken t - 1)
    → after ≡ noted ++ state_packet (signal_of cause) Plain new → Lands reason t before after
unfolding Lands
lost reason t new cause before told noted after is begins notes back e = rw is (noted, rw begins at notes, rw back at e)
