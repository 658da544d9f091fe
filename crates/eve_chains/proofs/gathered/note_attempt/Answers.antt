use Rattle.std.proofs.Common.{◌≡◌, ◌≤◌, ◌++◌, List, length, flat_map, map, slice_get, [], true, subst, sym, ap, ◌∙◌}
use Rattle.std.proofs.Common.{append-nil}
use Rattle.std.proofs.Common.{arith}
use Rattle.std.proofs.lemmas.Bool.{cond-true}
use Rattle.std.proofs.lemmas.List.{take_all}
use Rattle.std.proofs.lemmas.Option.{same_Some}
use Rattle.eve_grammar.specs.Frames.{OfAccess}
use Rattle.eve_grammar.specs.Limits.{row_count}
use Rattle.eve_grammar.specs.Trace.{Attempt, head_of}
use Rattle.eve_views.specs.Lent.{HasBytesAt}
use Rattle.eve_frames.specs.Decoded.{access_decoded}
use Rattle.eve_history.specs.SectionHistory.{ExecutedAttempt, is_committed}
use Rattle.eve_chains.specs.Along.{decoded_at}
use Rattle.eve_chains.specs.Rows.{Noted, noted_by}
use Rattle.eve_chains.specs.Records.{is_settled}
use Rattle.eve_chains.specs.inner.Gathered.{as_noted, noted_along}
use Rattle.eve_chains.proofs.ByRow.{record_within, list_more, offset_small}
use Rattle.eve_chains.proofs.gathered.note_attempt.Goals as goal

pub loop-place-init : goal.loop-place-init
loop-place-init c = λ r at. sym (append-nil (map as_noted c.args.notes.now.items))

pub note_record-requires-clause-offset : goal.note_record-requires-clause-offset
note_record-requires-clause-offset c =
    let t = c.args.section.trace.now in
    let x = c.ordered-access.result in
    offset_small _ t x.offset (OfAccess (access_decoded x)) c.bytes-bytes.ensures
    (subst (HasBytesAt t x.offset) c.ordered-access.ensures.text
    (c.ordered-access.ensures.stands t c.args.section.history.now.replica c.requires.told))

pub note_record-requires-clause-within : goal.note_record-requires-clause-within
note_record-requires-clause-within c =
    let says = c.ordered-access.ensures.says in
    let rows = row_count (head_of c.args.section.trace.now) in (
      rows,
      record_within rows says.0.ordered c.loop-place.place (decoded_at c.ordered-access.result)
          (c.requires.within says.0 says.1) says.2,
    )

pub loop-place-preserved : goal.loop-place-preserved
loop-place-preserved c = λ r at.
    let says = c.ordered-access.ensures.says in
    let own : says.0 ≡ r = same_Some says.0 r (sym says.1 ∙ at) in
    let f = noted_by c.transferred_before.result c.view.result c.seq.result c.is_committed.result in
    c.in_ok-note_record.ensures
    ∙ ap (λ (ms : List Noted). ms ++ f (decoded_at c.ordered-access.result)) (c.loop-place.invariant r at)
    ∙ list_more f (map as_noted c.args.notes.now.items) r.ordered c.loop-place.place
    (decoded_at c.ordered-access.result)
    (ap (λ (q : ExecutedAttempt). slice_get q.ordered c.loop-place.place) (sym own) ∙ says.2)

pub returns : goal.returns
returns c = λ r transferred fate at as_many its.
    let says = c.attempt-attempt.ensures.says in
    let own : says.0 ≡ r = same_Some says.0 r (sym says.1 ∙ at) in
    let view : c.view.result ≡ r.attempt.view = c.view.ensures ∙ ap (λ (a : Attempt). a.view) says.3
    ∙ ap (λ (q : ExecutedAttempt). q.attempt.view) own in
    let number : c.seq.result ≡ r.attempt.seq = c.seq.ensures ∙ ap (λ (a : Attempt). a.seq) says.3
    ∙ ap (λ (q : ExecutedAttempt). q.attempt.seq) own in
    let before : c.transferred_before.result ≡ transferred =
    same_Some c.transferred_before.result transferred (sym c.transferred_before.ensures ∙ as_many) in
    let same : c.fate-fate.result ≡ fate = same_Some c.fate-fate.result fate (sym c.fate-fate.ensures ∙ its) in
    let commits : c.is_committed.result ≡ is_committed fate = c.is_committed.ensures ∙ ap is_committed same in
    let passes : is_settled fate ≡ true = ap is_settled (sym same) ∙ sym c.is_settled.ensures
    ∙ c.if-not-is_settled.false in
    let many : length r.ordered ≡ length r.attempt.certificate =
    ap (λ (q : ExecutedAttempt). length q.ordered) (sym own) ∙ says.4
    ∙ ap (λ (q : ExecutedAttempt). length q.attempt.certificate) own in
    let listed : c.len-place-end.result ≡ length r.attempt.certificate = c.len-place-end.ensures.certificate
    ∙ ap (λ (a : Attempt). length a.certificate) says.3
    ∙ ap (λ (q : ExecutedAttempt). length q.attempt.certificate) own in
    let over : length r.ordered ≤ c.loop-place.place = omega (arith, many, listed, c.loop-place-test.false) in
    c.loop-place.invariant r at
    ∙ ap (λ (ms : List Noted). map as_noted c.args.notes.now.items ++ ms)
    ((λ i. flat_map (noted_by (before i) (view i) (number i) (commits i))
    (take_all c.loop-place.place r.ordered over i))
    ∙ sym (cond-true (is_settled fate) (noted_along (r, transferred) fate) [] passes))
