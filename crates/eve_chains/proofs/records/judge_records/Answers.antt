use Rattle.std.proofs.Common.{◌≡◌, ℕ, ◌<◌, ◌+◌, Some, Option, length, map, take, slice_get, sym, subst, ap, ◌∙◌, arith}
use Rattle.std.proofs.lemmas.Option.{same_Some}
use Rattle.eve_smallbank.specs.declared.request.Reply.{Reply}
use Rattle.eve_smallbank.specs.SmallBank.{plain}
use Rattle.eve_smallbank.specs.Access.{Executed}
use Rattle.eve_grammar.specs.Trace.{Access, Attempt}
use Rattle.eve_frames.specs.Views.{access_in, attempt_in}
use Rattle.eve_history.specs.SectionHistory.{ExecutedAttempt}
use Rattle.eve_grammar.proofs.Lists.{all-slice_get}
use Rattle.eve_chains.specs.Records.{recorded, recorded_of, IsLeastMismatch}
use Rattle.eve_chains.proofs.Least.{least_next, recorded_at}
use Rattle.eve_chains.proofs.records.judge_records.Goals as goal

pub loop-place-preserved : goal.loop-place-preserved
loop-place-preserved c r at =
    let names = c.args.names.now.items in
    let requests = c.args.requests.now in
    let place = c.loop-place.place in
    let x : ℕ × Access = (c.ordered-access.result.offset, access_in c.ordered-access.result.bytes.now) in
    let y : Reply → ℕ × Executed = λ reply. (
      c.ordered-access.result.offset,
      recorded (plain c.index-requests-index.result) reply (access_in c.ordered-access.result.bytes.now).entries,
    ) in
    let own : c.ordered-access.ensures.says.0 ≡ r = same_Some c.ordered-access.ensures.says.0 r
    (sym c.ordered-access.ensures.says.1 ∙ at) in
    let its : c.attempt-attempt.ensures.says.0 ≡ r = same_Some c.attempt-attempt.ensures.says.0 r
    (sym c.attempt-attempt.ensures.says.1 ∙ at) in
    let decoded : attempt_in c.attempt-attempt.result.bytes.now ≡ r.attempt = c.attempt-attempt.ensures.says.3
    ∙ ap (λ (q : ExecutedAttempt). q.attempt) its in
    let listed : slice_get r.ordered place ≡ Some x =
    ap (λ (q : ExecutedAttempt). slice_get q.ordered place) (sym own) ∙ c.ordered-access.ensures.says.2 in
    let below : x.1.index < length requests =
    all-slice_get (λ z. z.1.index < length requests) r.ordered place x (c.requires.requests r at).there listed in
    let number : c.index-index.result ≡ x.1.index = c.index-index.ensures in
    let within : c.index-index.result < length requests = omega arith in
    let of : ℕ × Access → ℕ × Executed = recorded_of (map plain requests) r.attempt.replies in
    let is : (reply : Reply) → slice_get (attempt_in c.attempt-attempt.result.bytes.now).replies c.index-index.result
    ≡ Some reply → of x ≡ y reply = λ reply replied.
    recorded_at requests r.attempt.replies x c.index-index.result c.index-requests-index.result reply
    c.index-index.ensures within c.index-requests-index.is
    (ap (λ (a : Attempt). slice_get a.replies c.index-index.result) (sym decoded) ∙ replied) in
    let more : Option ℕ → Type 0 = λ least. IsLeastMismatch names (map of (take (place + 1) r.ordered)) least in
    subst more (sym c.lesser-least.ensures)
    (least_next names of r.ordered place x (y c.reply.result) c.loop-place.least c.judge_record-found.result listed
    (is c.reply.result c.reply.ensures) (c.loop-place.invariant r at) c.judge_record-found.ensures)
