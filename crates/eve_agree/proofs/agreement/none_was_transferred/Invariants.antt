use Rattle.std.proofs.Common.{◌≡◌, ℕ, ◌<◌, [], Some, slice_get}
use Rattle.eve_history.specs.SectionHistory.{SectionHistory}
use Rattle.eve_agree.proofs.agreement.none_was_transferred.Given as goal

abbrev pub invariant-loop-each : goal.invariant-loop-each
invariant-loop-each l = (e : ℕ) (h : SectionHistory) → e < l.each-index → slice_get l.histories e ≡ Some h
    → h.transfers ≡ []
