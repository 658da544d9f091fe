-- From the balances after one committed batch to those after the next, record after record.
use Rattle.std.proofs.Common.{◌≡◌, ℕ, suc, Some, slice_get, ap, ◌∙◌}
use Rattle.eve_smallbank.specs.Access.{values_after}
use Rattle.eve_smallbank.specs.Chain.{values_of}
use Rattle.eve_smallbank.proofs.Chains.{values_of-table_after}
use Rattle.eve_smallbank.proofs.Members.{In, in_prefix}
use Rattle.eve_grammar.specs.Trace.{Trace}
use Rattle.eve_grammar.specs.Limits.{HasLimits}
use Rattle.eve_history.specs.Section.{Placed, ByAttempt, settled}
use Rattle.eve_history.specs.SectionHistory.{ordered, history, committed_at, IsRightSection}
use Rattle.eve_chains.specs.Visible.{rows_after}
use Rattle.eve_chains.specs.Committed.{path_to, values_to}
use Rattle.eve_chains.specs.Along.{entries_along}
use Rattle.eve_chains.proofs.AttemptRecords.{own}
use Rattle.eve_chains.proofs.LinkedPaths.{how_reached_by, in_attempts}
use Rattle.eve_chains.proofs.SerialSections.{rows_next}
use Rattle.eve_chains.proofs.LeftByRecords.{left_by_records, right_one, complete_one}

pub advance_along : (t : Trace) (e n : ℕ) (p : Placed) → HasLimits t → IsRightSection t e → committed_at t e (suc n)
    ≡ Some p
    → values_to t e (suc n) ≡ values_after (values_to t e n) (entries_along (ordered p.offset p.attempt))
advance_along t e n p limits right at =
    let how_reached = how_reached_by (slice_get (history t e).ways_reached n) p at in
    let i : In p (settled (history t e)) = in_prefix (history t e).discarded
    (in_attempts (history t e).ways_reached n p how_reached) in
    ap values_of (rows_next t (history t e).ways_reached n (ByAttempt p) how_reached
    ∙ left_by_records t p (right_one t e p right i) (complete_one t e p limits i) (rows_after t (path_to t e n)))
    ∙ values_of-table_after (rows_after t (path_to t e n)) (entries_along (own p))
