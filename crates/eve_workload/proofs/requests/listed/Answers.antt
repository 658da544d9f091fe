use Rattle.std.proofs.Common.{◌≡◌, ℕ, ◌<◌, [], ◌∷◌, ◌++◌, map, length, sym, ap, ◌∙◌, arith, rules}
use Rattle.std.specs.Prelude.{slice_index_or}
use Rattle.std.proofs.lemmas.List.{take_all, get_or-map}
use Rattle.eve_write.specs.Data.{asked}
use Rattle.eve_workload.specs.inner.Groups.{refused_request, listed}
use Rattle.eve_workload.proofs.ListedRequests.{listed_more}
use Rattle.eve_workload.proofs.requests.listed.Goals as goal

pub loop-index-preserved : goal.loop-index-preserved
loop-index-preserved c =
    let pushed : c.push_reserved.new.self.items ≡ c.loop-index.copies.items ++ c.index-requests-index.result ∷ [] =
    search rules in
    let index : ℕ = slice_index_or c.args.order.now c.loop-index.index-index 0 in
    let there : c.loop-index.index-index < length c.args.order.now = omega arith in
    let bound : index < length c.args.requests.now = c.requires c.loop-index.index-index 0 there in
    let at : asked c.index-requests-index.result ≡ slice_index_or (map asked c.args.requests.now) index refused_request
    =
    ap asked c.index-requests-index.is
    ∙ sym (get_or-map asked c.args.requests.now index c.index-requests-index.result refused_request bound) in
    record {
      copies = listed_more c.loop-index.copies.items c.index-requests-index.result (map asked c.args.requests.now)
          c.args.order.now c.loop-index.index-index refused_request c.push_reserved.new.self.items
          c.loop-index.invariant.copies pushed at there;
      len = omega (arith, c.push_reserved.ensures.len, c.loop-index.invariant.len);
      room = c.push_reserved.ensures.capacity ∙ c.loop-index.invariant.room;
    }

pub returns : goal.returns
returns c =
    c.loop-index.invariant.copies
    ∙ ap (listed (map asked c.args.requests.now)) (take_all c.loop-index.index-index c.args.order.now (omega arith))
