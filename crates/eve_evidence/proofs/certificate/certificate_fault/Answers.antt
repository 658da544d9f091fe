use Rattle.std.proofs.Common.{◌≡◌, ℕ, ◌-◌, ◌≤◌, length, sym, ap, subst, ◌∙◌, arith}
use Rattle.std.specs.Prelude.{IsTrue}
use Rattle.eve_grammar.specs.Trace.{Batch}
use Rattle.eve_grammar.specs.Certificate.{is_certificate}
use Rattle.eve_grammar.proofs.GroupOrder.{few_requests}
use Rattle.eve_frames.specs.Decoded.{attempt_decoded, batch_decoded}
use Rattle.eve_history.specs.Section.{batch_at, request_count, is_right_certificate}
use Rattle.eve_history.proofs.Lookups.{batch_fits}
use Rattle.eve_evidence.specs.Certificate.{IsCertificateFault}
use Rattle.eve_evidence.proofs.Lists.{if_some, if_none_weaker}
use Rattle.eve_evidence.proofs.PartsRead.{read_batch}
use Rattle.eve_evidence.proofs.certificate.certificate_fault.Goals as goal

pub returns-then-len-clause-right : goal.returns-then-len-clause-right
returns-then-len-clause-right c = λ count.
    let t = c.args.trace.now in
    let a = attempt_decoded c.args.attempt.now in
    let b : ℕ × (ℕ × Batch) = (c.batch-batch.result.offset, batch_decoded c.batch-batch.result) in
    let same : c.max-number.result - 1 ≡ a.seq - 1 = omega (arith, c.seq.ensures, c.max-number.ensures) in
    let batch : batch_at t a.seq ≡ b.1.1 = read_batch t a.seq c.max-number.result b same c.batch-batch.ensures.says in
    absurd (c.if-len.true (c.len.ensures.certificate ∙ count ∙ ap (λ (x : Batch). length x.requests) batch
    ∙ sym c.len-2.ensures))

pub fault_beside-requires : goal.fault_beside-requires
fault_beside-requires c =
    let t = c.args.trace.now in
    let a = attempt_decoded c.args.attempt.now in
    let b : ℕ × (ℕ × Batch) = (c.batch-batch.result.offset, batch_decoded c.batch-batch.result) in
    let few = few_requests b.1.1
    (batch_fits t c.max-number.result b c.recall_limits.ensures c.batch-batch.ensures.says) in
    let all : length b.1.1.requests ≤ 256 = omega (arith, few.0, few.1) in
    let count : length a.certificate ≡ length b.1.1.requests =
    sym c.len.ensures.certificate ∙ c.if-len.false ∙ c.len-2.ensures in
    subst (λ (n : ℕ). n ≤ 256) (sym count) all

pub returns-clause-told : goal.returns-clause-told
returns-clause-told c =
    let t = c.args.trace.now in
    let a = attempt_decoded c.args.attempt.now in
    let b : ℕ × (ℕ × Batch) = (c.batch-batch.result.offset, batch_decoded c.batch-batch.result) in
    let same : c.max-number.result - 1 ≡ a.seq - 1 = omega (arith, c.seq.ensures, c.max-number.ensures) in
    let batch : batch_at t a.seq ≡ b.1.1 = read_batch t a.seq c.max-number.result b same c.batch-batch.ensures.says in
    if_some c.fault_beside.result
    (IsCertificateFault b.1.1.sizes (length b.1.1.requests) a.serial a.certificate)
    (IsCertificateFault (batch_at t a.seq).sizes (request_count t a) a.serial a.certificate)
    (λ w told. subst (λ (x : Batch). IsCertificateFault x.sizes (length x.requests) a.serial a.certificate w)
    (sym batch)
    told) c.fault_beside.ensures.told

pub returns-clause-right : goal.returns-clause-right
returns-clause-right c =
    let t = c.args.trace.now in
    let a = attempt_decoded c.args.attempt.now in
    let b : ℕ × (ℕ × Batch) = (c.batch-batch.result.offset, batch_decoded c.batch-batch.result) in
    let same : c.max-number.result - 1 ≡ a.seq - 1 = omega (arith, c.seq.ensures, c.max-number.ensures) in
    let batch : batch_at t a.seq ≡ b.1.1 = read_batch t a.seq c.max-number.result b same c.batch-batch.ensures.says in
    if_none_weaker c.fault_beside.result
    (length a.certificate ≡ length b.1.1.requests
    → IsTrue (is_certificate b.1.1.sizes (length b.1.1.requests) a.serial a.certificate))
    (length a.certificate ≡ request_count t a → IsTrue (is_right_certificate t a))
    (λ right. subst (λ (x : Batch). length a.certificate ≡ length x.requests
    → IsTrue (is_certificate x.sizes (length x.requests) a.serial a.certificate)) (sym batch) right)
    c.fault_beside.ensures.right
