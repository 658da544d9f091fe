use Rattle.std.proofs.Common.{◌++◌, ◌∷◌, [], map, take, sym, ap, ◌∙◌}
use Rattle.std.proofs.lemmas.List.{map_more}
use Rattle.eve_write.specs.AccessLists.{noted_access}
use Rattle.eve_attempts.specs.ClosedAttempts.{access_noted}
use Rattle.eve_attempts.proofs.replies.accesses_of.Goals as goal

pub loop-record-preserved : goal.loop-record-preserved
loop-record-preserved c =
    let rs = c.args.records.now in
    let r = c.record-item.result in
    let k = c.loop-record.record-index in
    let is = ap (λ n. noted_access n c.place.result c.index.result c.entries.result.now) c.worker.ensures
    ∙ ap (λ n. noted_access r.worker n c.index.result c.entries.result.now) c.place.ensures
    ∙ ap (λ n. noted_access r.worker r.place n c.entries.result.now) c.index.ensures
    ∙ ap (λ es. noted_access r.worker r.place r.index es) c.entries.ensures in
    c.in_ok-push.ensures.pushed
    ∙ ap (λ xs. xs ++ noted_access c.worker.result c.place.result c.index.result c.entries.result.now ∷ [])
    c.loop-record.invariant
    ∙ ap (λ x. map access_noted (take k rs) ++ x ∷ []) (is ∙ ap access_noted c.record-item.is)
    ∙ sym (map_more access_noted rs k r c.loop-record-test.true)
