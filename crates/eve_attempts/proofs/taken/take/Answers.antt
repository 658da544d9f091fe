use Rattle.std.proofs.Common.{◌≡◌, ℕ, List, length, sym, ap, ◌∙◌, arith}
use Rattle.eve_grammar.specs.Certificate.{is_certificate}
use Rattle.eve_write.specs.Data.{batch as plain}
use Rattle.eve_attempts.proofs.PartLaws.{few_records, small_indexes, length_certificate, no_certificate}
use Rattle.eve_attempts.proofs.taken.take.Goals as goal

pub gather-requires-clause-few : goal.gather-requires-clause-few
gather-requires-clause-few c =
    let x = c.args.noted in
    few_records c.args.workers c.args.rows (plain x.batch.now) x.touched.now x.records.now
    (c.are_noted.ensures.0 c.if-not-are_noted.false) c.requires.batch

pub gather-requires-clause-indexes : goal.gather-requires-clause-indexes
gather-requires-clause-indexes c =
    let x = c.args.noted in
    small_indexes c.args.workers c.args.rows (plain x.batch.now) x.touched.now x.records.now
    (c.are_noted.ensures.0 c.if-not-are_noted.false) c.requires.batch

pub is_certificate-requires : goal.is_certificate-requires
is_certificate-requires c =
    let x = c.args.noted in
    let few = few_records c.args.workers c.args.rows (plain x.batch.now) x.touched.now x.records.now
    (c.are_noted.ensures.0 c.if-not-are_noted.false) c.requires.batch in
    let many = length_certificate c.args.noted.records.now c.in-Ok.taken c.in-Ok.ensures in
    let value : length c.as_slice.result.now ≡ length c.in-Ok.taken.certificate.items =
    ap (λ (is : List ℕ). length is) c.as_slice.ensures.value in
    omega arith

pub returns-then-not-is_certificate-clause-mismatch : goal.returns-then-not-is_certificate-clause-mismatch
returns-then-not-is_certificate-clause-mismatch c = λ _ ordered by_ticks noted certificate.
    let b = plain c.args.noted.batch.now in
    let long : length c.as_slice.result.now ≡ length b.requests =
    ap (λ (is : List ℕ). length is) c.as_slice.ensures.value
    ∙ length_certificate c.args.noted.records.now c.in-Ok.taken c.in-Ok.ensures ∙ noted.many in
    let is : c.is_certificate.result
    ≡ is_certificate b.sizes (length b.requests) c.args.serial c.in-Ok.taken.certificate.items =
    c.is_certificate.ensures b.sizes (λ i lt. c.groups_of.ensures i (omega arith))
    ∙ ap (λ (n : ℕ). is_certificate b.sizes n c.args.serial c.as_slice.result.now) long
    ∙ ap (is_certificate b.sizes (length b.requests) c.args.serial) c.as_slice.ensures.value in
    no_certificate b.sizes (length b.requests) c.args.serial c.args.noted.records.now ordered c.in-Ok.taken
    c.in-Ok.ensures by_ticks (sym is ∙ c.if-not-is_certificate.true) certificate

pub returns-clause-order : goal.returns-clause-order
returns-clause-order c =
    let b = plain c.args.noted.batch.now in
    let noted = c.are_noted.ensures.0 c.if-not-are_noted.false in
    let long : length c.as_slice.result.now ≡ length b.requests =
    ap (λ (is : List ℕ). length is) c.as_slice.ensures.value
    ∙ length_certificate c.args.noted.records.now c.in-Ok.taken c.in-Ok.ensures ∙ noted.many in
    let is : c.is_certificate.result
    ≡ is_certificate b.sizes (length b.requests) c.args.serial c.in-Ok.taken.certificate.items =
    c.is_certificate.ensures b.sizes (λ i lt. c.groups_of.ensures i (omega arith))
    ∙ ap (λ (n : ℕ). is_certificate b.sizes n c.args.serial c.as_slice.result.now) long
    ∙ ap (is_certificate b.sizes (length b.requests) c.args.serial) c.as_slice.ensures.value in
    sym is ∙ c.if-not-is_certificate.false
