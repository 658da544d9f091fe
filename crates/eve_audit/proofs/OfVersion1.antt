-- What a yes says of a trace in which no state is transferred.
use Rattle.std.proofs.Common.{◌≡◌, ℕ, zero, suc, Some, ap}
use Rattle.std.specs.Prelude.{IsTrue, IsFalse}
use Rattle.eve_grammar.specs.Trace.{Trace}
use Rattle.eve_grammar.specs.Frames.{has_transfers}
use Rattle.eve_history.specs.Section.{Placed}
use Rattle.eve_history.specs.SectionHistory.{how_reached_at, committed_at, was_reached, is_reached}
use Rattle.eve_chains.specs.Committed.{bank_after}
use Rattle.eve_audit.specs.Audited.{IsAudited}
use Rattle.eve_audit.proofs.NumberLaws.{none_there, told_reached_by}

pub none_transferred_at_all : (version : ℕ) → version ≡ 1 → IsFalse (has_transfers version)
none_transferred_at_all version is = ap has_transfers is

committed_reached : (t : Trace) (e n : ℕ) (p : Placed) → committed_at t e n ≡ Some p → IsTrue (is_reached t e n)
committed_reached t e zero p at = none_there p at
committed_reached t e (suc n) p at = ap was_reached (told_reached_by (how_reached_at t e (suc n)) p at)

pub committed_agree : (t : Trace) (e f n : ℕ) (p q : Placed) → IsAudited t → committed_at t e n ≡ Some p
    → committed_at t f n ≡ Some q
    → (bank_after t e n ≡ bank_after t f n) × (p.attempt.replies ≡ q.attempt.replies)
committed_agree t e f n p q audited at also = (
  audited.agree e f n (committed_reached t e n p at) (committed_reached t f n q also),
  audited.same_replies e f n p q at also,
)
