use Rattle.std.proofs.Common.{◌<◌, ◌∙◌, length, arith}
use Rattle.std.proofs.lemmas.Option.{slice_get-get_or}
use Rattle.eve_reasons.specs.Words.{kinds_words}
use Rattle.eve_reasons.proofs.KindLists.{puts_kind}
use Rattle.eve_reasons.proofs.kinds.put_kinds.Goals as goal

pub kinds-preserved : goal.kinds-preserved
unfolding kinds_words
kinds-preserved c =
    let kinds = c.frame_kinds-kinds.result in
    let within : c.kinds.i < length kinds = rw c.frame_kinds-kinds.ensures c.kinds-test.true in
    let told : c.kinds.i < length c.args.told.now = omega arith in
    record {
      items = puts_kind _ _ _ _ _ _ kinds c.args.told.now c.kinds.i (slice_get-get_or _ _ _ within)
          (slice_get-get_or _ _ _ told) c.put_kind_if-any.ensures.items c.put_kind_if-any.ensures.any
          ∙ c.kinds.invariant.items;
      room = omega arith;
    }
