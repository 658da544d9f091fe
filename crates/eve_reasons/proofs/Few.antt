-- Public: other crates cite these lemmas. There are few lines.
use Rattle.std.proofs.Common.{◌+◌, ◌≤◌, ℕ, Bool, true, false, List, ◌∷◌, ◌++◌, map, min, take, length, Option, None}
use Rattle.std.proofs.Common.{Some, arith, lit≤}
use Rattle.std.proofs.lemmas.List.{length-map, length-take}
use Rattle.std.proofs.lemmas.List.FromFn.{length-enumerate_from}
use Rattle.std.specs.List.{enumerate_from}
use Rattle.std.specs.Prelude.{codes}
use Rattle.eve_evidence.specs.declared.evidence.AccessFault.{AccessFault}
use Rattle.eve_evidence.specs.declared.evidence.AccessFault.TheVariants as access
use Rattle.eve_evidence.specs.declared.evidence.AttemptFault.{AttemptFault}
use Rattle.eve_evidence.specs.declared.evidence.AttemptFault.TheVariants as attempt
use Rattle.eve_evidence.specs.declared.evidence.CommitFault.{CommitFault}
use Rattle.eve_evidence.specs.declared.evidence.CommitFault.TheVariants as commit
use Rattle.eve_evidence.specs.declared.evidence.Counts.{Counts}
use Rattle.eve_evidence.specs.declared.evidence.Evidence.{Evidence}
use Rattle.eve_evidence.specs.declared.evidence.Evidence.TheVariants as shown
use Rattle.eve_evidence.specs.declared.evidence.GivenBy.{GivenBy}
use Rattle.eve_evidence.specs.declared.evidence.OutcomeFault.{OutcomeFault}
use Rattle.eve_evidence.specs.declared.evidence.OutcomeFault.TheVariants as outcome
use Rattle.eve_evidence.specs.declared.evidence.RecordFault.{RecordFault}
use Rattle.eve_evidence.specs.declared.evidence.RecordFault.TheVariants as record_fault
use Rattle.eve_evidence.specs.declared.evidence.RecordsBefore.{RecordsBefore}
use Rattle.eve_evidence.specs.declared.evidence.RestoreFault.{RestoreFault}
use Rattle.eve_evidence.specs.declared.evidence.RestoreFault.TheVariants as restore
use Rattle.eve_evidence.specs.declared.evidence.RollbackFault.{RollbackFault}
use Rattle.eve_evidence.specs.declared.evidence.RollbackFault.TheVariants as rollback
use Rattle.eve_evidence.specs.declared.evidence.SeenFrom.{SeenFrom}
use Rattle.eve_evidence.specs.declared.evidence.SentFault.{SentFault}
use Rattle.eve_evidence.specs.declared.evidence.SentFault.TheVariants as sent
use Rattle.eve_evidence.specs.declared.evidence.Source.{Source}
use Rattle.eve_evidence.specs.declared.evidence.StateFault.{StateFault}
use Rattle.eve_evidence.specs.declared.evidence.StateFault.TheVariants as state
use Rattle.eve_evidence.specs.declared.evidence.ToldSent.{ToldSent}
use Rattle.eve_evidence.specs.declared.evidence.TransferFault.{TransferFault}
use Rattle.eve_evidence.specs.declared.evidence.TransferFault.TheVariants as transfer
use Rattle.eve_reasons.specs.declared.lines.TheConstants.{MOST_LINES}
use Rattle.eve_reasons.specs.Attempts.{access_fault_lines, attempt_fault_lines, worker_lines}
use Rattle.eve_evidence.specs.declared.evidence.Numbers.{Numbers}
use Rattle.eve_reasons.specs.Counts.{count_lines, replica_line}
use Rattle.eve_reasons.specs.Form.{other_magic_lines, records_lines}
use Rattle.eve_reasons.specs.Outcomes.{difference_lines, sent_wrong_lines, state_lines}
use Rattle.eve_reasons.specs.Polls.{choice_line, vote_line}
use Rattle.eve_reasons.specs.Reasons.{reason_lines}
use Rattle.eve_reasons.specs.Records.{record_fault_lines, seen_by_lines, seen_from}
use Rattle.eve_reasons.specs.Rows.{restore_lines}
use Rattle.eve_reasons.specs.Words.{has_words, source_words}
use Rattle.eve_reasons.specs.Structure.{commit_lines, rollback_lines, transfer_fault_lines}

-- a line for each of as many items as a list has room for
few_of : {A : Type 0} (line_of : ℕ × A → List ℕ) (n most : ℕ) (items : List A)
    → length (map line_of (enumerate_from 0 (take (min n most) items))) ≤ most
few_of line_of n most items =
    let mapped = length-map (enumerate_from 0 (take (min n most) items)) line_of in
    let counted = length-enumerate_from 0 (take (min n most) items) in
    omega (arith, mapped, counted, length-take (min n most) items)

few_magic : (magic : Option (List ℕ)) → length (other_magic_lines magic) ≤ 1
few_magic None = lit≤ tt
few_magic (Some x) = lit≤ tt

few_records : (records : Option RecordsBefore) → length (records_lines records) ≤ 1
few_records None = lit≤ tt
few_records (Some x) = lit≤ tt

few_attempt : (wrong : AttemptFault) → length (attempt_fault_lines wrong) ≤ 3
few_attempt (attempt.Number is) = lit≤ tt
few_attempt _ = lit≤ tt

few_workers : (serial : Bool) (is : Numbers) → length (worker_lines serial is) ≤ 3
few_workers true is = lit≤ tt
few_workers false is = lit≤ tt

few_access : (serial : Bool) (wrong : AccessFault) → length (access_fault_lines serial wrong) ≤ 4
few_access serial (access.Worker is) = omega (arith, few_workers serial is)
few_access serial _ = lit≤ tt

few_commit : (wrong : CommitFault) → length (commit_lines wrong) ≤ 3
few_commit commit.NoneOpen = lit≤ tt
few_commit _ = lit≤ tt

few_rollback : (wrong : RollbackFault) → length (rollback_lines wrong) ≤ 3
few_rollback (rollback.To is) = lit≤ tt
few_rollback _ = lit≤ tt

few_transfer : (wrong : TransferFault) → length (transfer_fault_lines wrong) ≤ 3
few_transfer (transfer.Number is) = lit≤ tt
few_transfer _ = lit≤ tt

few_fields : (wrong : RecordFault) → length (record_fault_lines wrong) ≤ 3
few_fields (record_fault.Entries found due) = lit≤ tt
few_fields _ = lit≤ tt

few_sources : (by : Option Source) → length (seen_by_lines by) ≤ 1
few_sources None = lit≤ tt
few_sources (Some x) = lit≤ tt

few_from : (from : Option SeenFrom) (rest : List (List ℕ)) → length (seen_from from rest) ≤ length rest + 1
few_from None rest = omega arith
few_from (Some from) rest = omega arith

few_restores : (wrong : RestoreFault) → length (restore_lines wrong) ≤ 2
few_restores (restore.Missing s) = lit≤ tt
few_restores _ = lit≤ tt

few_differences : (wrong : OutcomeFault) → length (difference_lines wrong) ≤ 3
few_differences (outcome.Row row found due) = lit≤ tt
few_differences _ = lit≤ tt

few_states : (wrong : StateFault) → length (state_lines wrong) ≤ 4
few_states state.NoneCommitted = lit≤ tt
few_states _ = lit≤ tt

few_sent : (s : ToldSent) (given : Option GivenBy) (wrong : SentFault) → length (sent_wrong_lines s given wrong) ≤ 4
few_sent s given sent.NoRequest = lit≤ tt
few_sent s given _ = lit≤ tt

pub few_counts : (c : Counts) → length (count_lines c) ≤ MOST_LINES
few_counts c = omega (arith, few_of replica_line c.many 8 c.replicas)

pub few_reasons : (evidence : Evidence) → length (reason_lines evidence) ≤ MOST_LINES
few_reasons (shown.Length found wrong magic) = omega (arith, few_magic magic)
few_reasons (shown.Frame wrong due records) = omega (arith, few_records records)
few_reasons (shown.Attempt wrong) = omega (arith, few_attempt wrong)
few_reasons (shown.Access a at wrong) = omega (arith, few_access a.serial wrong)
few_reasons (shown.Commit wrong) = omega (arith, few_commit wrong)
few_reasons (shown.Rollback wrong) = omega (arith, few_rollback wrong)
few_reasons (shown.Transfer s wrong) = omega (arith, few_transfer wrong)
few_reasons (shown.Record a request at wrong) = omega (arith, few_fields wrong)
few_reasons (shown.Chain a request at wrong seen) =
    let rest = (codes "due: " ++ has_words wrong.due) ∷ (codes "left by: " ++ source_words wrong.left_by)
    ∷ seen_by_lines wrong.seen_by in
    omega (arith, few_from seen rest, few_sources wrong.seen_by)
few_reasons (shown.Restore wrong) = omega (arith, few_restores wrong)
few_reasons (shown.Majority poll) = omega (arith, few_of vote_line poll.verifiers 16 poll.votes)
few_reasons (shown.TransferMajority at poll) = omega (arith, few_of choice_line poll.verifiers 16 poll.votes)
few_reasons (shown.Outcome a first first_at wrong) = omega (arith, few_differences wrong)
few_reasons (shown.TransferState s wrong) = omega (arith, few_states wrong)
few_reasons (shown.Reply s wrong given) = omega (arith, few_sent s given wrong)
few_reasons _ = lit≤ tt
