use Rattle.std.proofs.Common.{◌≡◌, ℕ, ◌+◌, ◌*◌, ◌<◌, ◌≤◌, Bool, true, List, length, slice_index_or, subst, arith}
use Rattle.std.specs.Prelude.{IsTrue}
use Rattle.eve_views.specs.Cut.{part_start}
use Rattle.eve_agree.specs.SentReplies.{AreReplied}
use Rattle.eve_agree.proofs.RepliesSent.{all_replied, parts_replied}
use Rattle.eve_agree.proofs.sent_replies.are_all_replied.Goals as goal

pub returns-in-Ok : goal.returns-in-Ok
returns-in-Ok g c = λ yes.
    let t = c.args.trace.now in
    let many = length t.sent in
    let size = c.part_size-size.result in
    let threads = c.min-threads.result in
    let all = subst (λ (xs : List Bool). (i : ℕ) (d : Bool) → i < length xs → IsTrue (slice_index_or xs i d))
    c.deref.ensures.value (c.are_all.ensures yes) in
    let each : (i : ℕ) → i < threads → AreReplied t (part_start many size i) (part_start many size (i + 1)) =
    λ i lt.
    let there : i < length c.in-Ok.parts.items = omega (arith, c.in-Ok.ensures.len, lt) in
    c.in-Ok.ensures.each i true there (all i true there) in
    let enough : many ≤ threads * size = subst (λ (n : ℕ). n ≤ threads * size) c.sent_count-count.ensures
    c.part_size-size.ensures.all in
    let end : part_start many size threads ≡ many = omega (arith, enough) in
    all_replied t (part_start many size threads) end (parts_replied t size threads each)
