-- The attempt by which a replica committed a batch, from what its section tells.
use Rattle.std.proofs.Common.{◌≡◌, ℕ, Some, sym, ap, ◌∙◌}
use Rattle.eve_grammar.specs.Trace.{Trace}
use Rattle.eve_frames.specs.Decoded.{attempt_decoded}
use Rattle.eve_frames.specs.declared.attempt.AttemptView.{AttemptView}
use Rattle.eve_history.specs.SectionHistory.{ExecutedAttempt, SectionHistory, section_history}
use Rattle.eve_agree.specs.ByNumber.{told_at}
use Rattle.eve_agree.proofs.ByNumber.{told_item}
use Rattle.eve_evidence_outcomes.specs.inner.Committed.{IsCommittedBy}

pub committed_by : (t : Trace) (e n : ℕ) (h : SectionHistory) (a : AttemptView) → h ≡ section_history t e
    → (r : ExecutedAttempt) × (told_at h n ≡ Some r) × (a.offset ≡ r.offset) × (attempt_decoded a ≡ r.attempt)
    → IsCommittedBy t e n a
committed_by t e n h a is told =
    let got = told_item t e h n told.0 is told.1 in
    record {
      placed = got.0;
      committed = got.1;
      offset_is = told.2 ∙ ap (λ (r : ExecutedAttempt). r.offset) (sym got.2);
      decoded = told.3 ∙ ap (λ (r : ExecutedAttempt). r.attempt) (sym got.2);
    }
