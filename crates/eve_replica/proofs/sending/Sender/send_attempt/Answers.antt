use Rattle.std.proofs.Common.{◌≡◌, ◌++◌, ◌-◌, List, map, length, slice_get, option_map, Some, inl, inr, refl, sym, ap}
use Rattle.std.proofs.Common.{◌∙◌, arith}
use Rattle.std.proofs.lemmas.List.{length-map}
use Rattle.std.proofs.lemmas.Option.{slice_get-map, slice_get-get_or, slice_get_read}
use Rattle.eve_smallbank.specs.declared.request.Reply.{Reply}
use Rattle.eve_grammar.specs.Trace.{Asked, Batch}
use Rattle.eve_write.specs.Data.{asked, attempt, batch, sent}
use Rattle.eve_workload.specs.declared.mixer.MixedBatch.{MixedBatch}
use Rattle.eve_replica.specs.SentReplies.{answered, requests_numbered}
use Rattle.eve_replica.proofs.SentReplies.{all_answered, answered_more, asked_there, none_asked, one_ends}
use Rattle.eve_replica.proofs.sending.Sender.send_attempt.Goals as goal
use Rattle.eve_replica.proofs.sending.Sender.send_attempt.Goals.{then-seq-lt1-via-then-seq-lt1}
use Rattle.eve_replica.proofs.sending.Sender.send_attempt.Goals.{then-seq-lt1-via-else-seq-lt1+then-seq-self}

pub returns-then-seq-lt1-clause-sent : goal.returns-then-seq-lt1-clause-sent
returns-then-seq-lt1-clause-sent c =
    let given = c.args.self.now.batches.now in
    let place = c.args.self.now.place in
    let batches = map (λ m. batch m.batch) given in
    let a = attempt c.args.attempt.now in
    let before = map sent c.args.replies.now.items in
    elim c.then-seq-lt1.branch [
      | then-seq-lt1-via-then-seq-lt1 w ↦ none_asked batches place a before (inl (omega arith))
      | then-seq-lt1-via-else-seq-lt1+then-seq-self w ↦
          none_asked batches place a before (inr (omega (arith, length-map given (λ m. batch m.batch))))
    ]

pub loop-index-preserved : goal.loop-index-preserved
loop-index-preserved c =
    let requests = c.as_slice-requests.result.now in
    let answers = c.as_slice-answers.result.now in
    let i = c.loop-index.index in
    record {
      limits = c.send.ensures.limits;
      sent = answered_more c.args.self.now.place c.args.attempt.now.seq (map asked requests) answers i
          (asked c.index-requests-index.result) _ (map sent c.loop-index.replies.items)
          (map sent c.send.new.replies.items) _
          (slice_get-map asked requests i
          ∙ ap (option_map asked) (slice_get_read requests (length requests) i c.index-requests-index.result refl
          (omega arith) c.index-requests-index.is))
          (slice_get-get_or answers i _ (omega arith))
          c.send.ensures.sent c.loop-index.invariant.sent;
      room = omega (arith, c.loop-index.invariant.room);
    }

pub returns-clause-sent : goal.returns-clause-sent
returns-clause-sent c =
    let plain : MixedBatch → Batch = λ m. batch m.batch in
    let given = c.args.self.now.batches.now in
    let place = c.args.self.now.place in
    let a = attempt c.args.attempt.now in
    let before = map sent c.args.replies.now.items in
    let item : MixedBatch = c.index-self-seq.result in
    let asked_now = map asked c.as_slice-requests.result.now in
    let there : slice_get (map plain given) (a.seq - 1) ≡ Some (plain item) =
    slice_get-map plain given (a.seq - 1)
    ∙ ap (option_map plain) (slice_get_read given (length given) (a.seq - 1) item refl (omega arith)
    c.index-self-seq.is) in
    let requests : asked_now ≡ requests_numbered (map plain given) a.seq =
    ap (map asked) c.as_slice-requests.ensures.value
    ∙ ap (λ (m : MixedBatch). map asked m.batch.requests.items) (sym c.index-self-seq.is)
    ∙ sym (asked_there (map plain given) a.seq (plain item) (omega arith) there) in
    all_answered place a.seq asked_now c.as_slice-answers.result.now c.loop-index.index
    (map sent c.loop-index.replies.items) _
    (one_ends (length asked_now) (length c.as_slice-answers.result.now) c.loop-index.index
    (omega (arith, length-map c.as_slice-requests.result.now asked)))
    c.loop-index.invariant.sent
    ∙ ap (λ (qs : List Asked). before ++ answered place a.seq qs c.as_slice-answers.result.now) requests
    ∙ ap (λ (rs : List Reply). before ++ answered place a.seq (requests_numbered (map plain given) a.seq) rs)
    c.as_slice-answers.ensures.value
