-- The lines that say why a verdict is no, of each kind of evidence. docs/USING.md, "What `explain` prints".
use Rattle.std.specs.Prelude.{ℕ, List, []}
use Rattle.eve_evidence.specs.declared.evidence.Evidence.{Evidence}
use Rattle.eve_evidence.specs.declared.evidence.Evidence.TheVariants as shown
use Rattle.eve_reasons.specs.Form.{length_lines, magic_lines, head_lines, frame_fault_lines, body_lines}
use Rattle.eve_reasons.specs.Orders.{same_name_lines, same_request_lines}
use Rattle.eve_reasons.specs.Attempts.{attempt_fault_lines, certificate_lines, access_lines, worker_order_lines}
use Rattle.eve_reasons.specs.Structure.{commit_lines, rollback_lines, transfer_lines}
use Rattle.eve_reasons.specs.Records.{record_lines, chain_lines}
use Rattle.eve_reasons.specs.Rows.{restore_lines, token_lines}
use Rattle.eve_reasons.specs.Polls.{two_votes_lines, two_decisions_lines, poll_lines, transfer_poll_lines}
use Rattle.eve_reasons.specs.Outcomes.{outcome_lines, state_fault_lines, sent_fault_lines}

-- of votes, outcomes and replies; of a code that is not told there is none
abbrev pub agreement_lines : Evidence → List (List ℕ)
agreement_lines (shown.TwoVotes second) = two_votes_lines second
agreement_lines (shown.TwoDecisions batch first second verifiers) = two_decisions_lines batch first second verifiers
agreement_lines (shown.Majority poll) = poll_lines poll
agreement_lines (shown.TransferMajority at poll) = transfer_poll_lines at poll
agreement_lines (shown.Outcome attempt first first_at wrong) = outcome_lines attempt first first_at wrong
agreement_lines (shown.TransferState state wrong) = state_fault_lines state wrong
agreement_lines (shown.Reply sent wrong given) = sent_fault_lines sent wrong given
agreement_lines _ = []

-- of what a replica's section says, and of later phases
abbrev pub section_lines : Evidence → List (List ℕ)
section_lines (shown.Attempt wrong) = attempt_fault_lines wrong
section_lines (shown.Certificate attempt wrong) = certificate_lines attempt wrong
section_lines (shown.Access attempt at wrong) = access_lines attempt at wrong
section_lines (shown.WorkerOrder attempt at place) = worker_order_lines attempt at place
section_lines (shown.Commit wrong) = commit_lines wrong
section_lines (shown.Rollback wrong) = rollback_lines wrong
section_lines (shown.Transfer state wrong) = transfer_lines state wrong
section_lines (shown.Record attempt request at wrong) = record_lines attempt request at wrong
section_lines (shown.Chain attempt request at wrong seen) = chain_lines attempt request at wrong seen
section_lines (shown.Restore wrong) = restore_lines wrong
section_lines (shown.Token attempt found due matches) = token_lines attempt found.now due matches
section_lines evidence = agreement_lines evidence

-- the lines of evidence, without their line feeds: of form, of what stands twice, and of later phases
abbrev pub reason_lines : Evidence → List (List ℕ)
reason_lines (shown.Length found wrong magic) = length_lines found wrong magic
reason_lines (shown.Magic found) = magic_lines found
reason_lines (shown.Head field at found least most) = head_lines field at found least most
reason_lines (shown.Frame wrong due records) = frame_fault_lines wrong due records
reason_lines (shown.Body frame at field field_at) = body_lines frame at field field_at
reason_lines (shown.SameName name first first_at) = same_name_lines name.now first first_at
reason_lines (shown.SameRequest request first first_at) = same_request_lines request first first_at
reason_lines evidence = section_lines evidence
