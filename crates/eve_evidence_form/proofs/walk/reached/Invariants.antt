use Rattle.std.proofs.Common.{◌≡◌, ◌-◌}
use Rattle.eve_views.specs.Form.{IsReached}
use Rattle.eve_evidence_form.proofs.FramesPassed.{IsPassed}
use Rattle.eve_evidence_form.proofs.walk.reached.Given as goal

abbrev pub invariant-frames : goal.invariant-frames
invariant-frames l = (r : IsReached l.bytes l.at) → r.head ≡ l.head → IsPassed l.bytes l.at r l.next l.so_far

abbrev pub decreases-frames : goal.decreases-frames
decreases-frames l = l.at - l.next
