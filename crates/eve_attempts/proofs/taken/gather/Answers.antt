use Rattle.std.proofs.Common.{List, map, ap, ◌∙◌, arith}
use Rattle.eve_attempts.specs.inner.RecordKeys.{Key}
use Rattle.eve_attempts.proofs.PartLaws.{indexes_are}
use Rattle.eve_attempts.proofs.taken.gather.Goals as goal

pub returns : goal.returns
returns c = record {
  same = c.in_ok-order.ensures.same;
  rising = c.in_ok-order.ensures.rising;
  there = c.in_ok-order.ensures.there;
  certificate = c.in_ok-certificate.ensures ∙ ap (λ (keys : List Key). map (λ k. k.1) keys) c.as_slice.ensures.value
      ∙ indexes_are c.args.records.now c.in_ok-order.order.items c.in_ok-order.ensures.there;
  replies = c.in_ok-replies_of.ensures.placed;
  limits = c.in_ok-replies_of.ensures.limits;
  accesses = c.in_ok-accesses_of.ensures;
  none = c.in_ok-with_capacity.ensures.items;
  empty = c.in_ok-with_capacity.ensures.len;
  room = omega (arith, c.in_ok-with_capacity.ensures.exact);
}
