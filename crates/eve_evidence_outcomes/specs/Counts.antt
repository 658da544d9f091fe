-- What a trace without a fault has, in numbers. docs/MODEL.md, "Section state, fate" and "Evidence".
use Rattle.std.specs.Prelude.{◌≡◌, ℕ, min, Bool, true, false, length}
use Rattle.std.specs.List.{count_by, sum_by}
use Rattle.eve_grammar.specs.Trace.{Trace}
use Rattle.eve_history.specs.declared.fate.Fate.{Fate}
use Rattle.eve_history.specs.declared.fate.Fate.TheVariants.{Committed, Discarded, Open}
use Rattle.eve_history.specs.SectionHistory.{SectionHistory, section_history}
use Rattle.eve_evidence.specs.declared.evidence.ReplicaCounts.{ReplicaCounts}
use Rattle.eve_evidence.specs.declared.evidence.Counts.{Counts}
use Rattle.eve_evidence_outcomes.specs.Places.{HoldsEach}

-- it is that fate
abbrev pub is_fate : Fate → Fate → Bool
is_fate Committed Committed = true
is_fate Discarded Discarded = true
is_fate Open Open = true
is_fate _ _ = false

-- a number as 32 bits hold it, which is itself wherever they can
abbrev pub counted : ℕ → ℕ
counted n = min n 4294967295

-- how many attempts came to that
abbrev pub fate_count : Fate → SectionHistory → ℕ
fate_count fate h = counted (count_by (is_fate fate) h.fates)

-- What a replica did, in numbers.
pub record IsReplicaCounts (h : SectionHistory) (c : ReplicaCounts) : Type 0 where
  pub committed_is : c.committed ≡ fate_count Committed h
  pub transferred_is : c.transferred ≡ counted (length h.transfers)
  pub discarded_is : c.discarded ≡ fate_count Discarded h
  pub open_is : c.open ≡ fate_count Open h
  pub rollbacks_is : c.rollbacks ≡ counted (length h.rollbacks)

-- What the trace has: the requests of all batches, and what each replica did, in their order.
pub record AreTraceCounts (t : Trace) (c : Counts) : Type 0 where
  pub requests_are : c.requests ≡ sum_by (λ b. length b.requests) t.batches
  pub as_many : c.many ≡ length t.sections
  pub each : HoldsEach (length t.sections) (λ e. IsReplicaCounts (section_history t e)) c.replicas
