use Rattle.std.proofs.Common.{◌≡◌, ℕ, ◌≤◌, List, [], length, map, sym, subst, ap, ◌∙◌, arith, rules}
use Rattle.std.proofs.lemmas.Bool.{cond-true}
use Rattle.std.proofs.lemmas.Option.{same_Some}
use Rattle.eve_smallbank.specs.Access.{Executed}
use Rattle.eve_smallbank.specs.SmallBank.{plain}
use Rattle.eve_grammar.specs.Trace.{Attempt, Batch}
use Rattle.eve_frames.specs.Views.{batch_in}
use Rattle.eve_history.specs.SectionHistory.{ExecutedAttempt}
use Rattle.eve_chains.specs.Records.{is_settled, records_along, HasRequests, IsLeastMismatch}
use Rattle.eve_chains.proofs.JudgedRecords.{ready_told, as_many, as_recorded}
use Rattle.eve_chains.proofs.records.judge_attempt.Goals as goal

pub batch-batch-requires-clause-from_one : goal.batch-batch-requires-clause-from_one
batch-batch-requires-clause-from_one c =
    let r = c.attempt.ensures.says.0 in
    let h = c.args.section.history.now in
    let ready = ready_told c.args.section.trace.now h.replica c.recall_limits.ensures c.requires.right h c.args.i r
    c.fate.result c.requires.told
    c.attempt.ensures.says.1 c.fate.ensures (sym c.is_settled.ensures ∙ c.if-not-is_settled.false) in
    let seq : c.seq.result ≡ r.attempt.seq = c.seq.ensures ∙ ap (λ (a : Attempt). a.seq) c.attempt.ensures.says.3 in
    let one : 1 ≤ r.attempt.seq = ready.from_one in
    omega arith

pub batch-batch-requires-clause-there : goal.batch-batch-requires-clause-there
batch-batch-requires-clause-there c =
    let r = c.attempt.ensures.says.0 in
    let h = c.args.section.history.now in
    let ready = ready_told c.args.section.trace.now h.replica c.recall_limits.ensures c.requires.right h c.args.i r
    c.fate.result c.requires.told
    c.attempt.ensures.says.1 c.fate.ensures (sym c.is_settled.ensures ∙ c.if-not-is_settled.false) in
    let seq : c.seq.result ≡ r.attempt.seq = c.seq.ensures ∙ ap (λ (a : Attempt). a.seq) c.attempt.ensures.says.3 in
    let there : r.attempt.seq ≤ length c.args.section.trace.now.batches = ready.there_is in
    omega arith

pub judge_records-requires-clause-requests : goal.judge_records-requires-clause-requests
judge_records-requires-clause-requests c r at =
    let t = c.args.section.trace.now in
    let own : c.attempt.ensures.says.0 ≡ r = same_Some c.attempt.ensures.says.0 r
    (sym c.attempt.ensures.says.1 ∙ at) in
    let h = c.args.section.history.now in
    let ready = ready_told t h.replica c.recall_limits.ensures c.requires.right h c.args.i r c.fate.result
    c.requires.told
    at c.fate.ensures (sym c.is_settled.ensures ∙ c.if-not-is_settled.false) in
    let seq : c.seq.result ≡ r.attempt.seq = c.seq.ensures ∙ ap (λ (a : Attempt). a.seq) c.attempt.ensures.says.3
    ∙ ap (λ (q : ExecutedAttempt). q.attempt.seq) own in
    let decoded : ℕ × (ℕ × Batch) = (c.batch-batch.result.offset, batch_in c.batch-batch.result.bytes.now) in
    let lent : c.deref.result.now ≡ c.in_ok-requests.requests.items = search rules in
    let read = ap (map plain) lent ∙ c.in_ok-requests.ensures in
    subst (λ (n : ℕ). HasRequests n r)
    (as_many t r c.seq.result decoded c.deref.result.now c.batch-batch.ensures.says seq read) ready.requests

pub returns : goal.returns
returns c r fate at its =
    let t = c.args.section.trace.now in
    let own : c.attempt.ensures.says.0 ≡ r = same_Some c.attempt.ensures.says.0 r
    (sym c.attempt.ensures.says.1 ∙ at) in
    let seq : c.seq.result ≡ r.attempt.seq = c.seq.ensures ∙ ap (λ (a : Attempt). a.seq) c.attempt.ensures.says.3
    ∙ ap (λ (q : ExecutedAttempt). q.attempt.seq) own in
    let decoded : ℕ × (ℕ × Batch) = (c.batch-batch.result.offset, batch_in c.batch-batch.result.bytes.now) in
    let lent : c.deref.result.now ≡ c.in_ok-requests.requests.items = search rules in
    let read = ap (map plain) lent ∙ c.in_ok-requests.ensures in
    let passes = ap is_settled (same_Some fate c.fate.result (sym its ∙ c.fate.ensures)) ∙ sym c.is_settled.ensures
    ∙ c.if-not-is_settled.false in
    subst (λ (xs : List (ℕ × Executed)). IsLeastMismatch c.args.names.now.items xs c.judge_records.result)
    (as_recorded t r c.seq.result decoded c.deref.result.now c.batch-batch.ensures.says seq read
    ∙ sym (cond-true (is_settled fate) (records_along t r) [] passes)) (c.judge_records.ensures r at)
