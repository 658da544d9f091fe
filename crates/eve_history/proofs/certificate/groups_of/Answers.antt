use Rattle.std.proofs.Common.{ℕ, ◌+◌, ◌≤◌, ◌<◌, sum, sym, subst, arith}
use Rattle.eve_frames.specs.Views.{batch_in}
use Rattle.eve_grammar.proofs.GroupOrder.{Grouped, grouping_start, goes_further, grouped_further, grouped_here}
use Rattle.eve_grammar.proofs.GroupOrder.{grouping_more, first_size, some_size, some_end, few_requests}
use Rattle.eve_history.proofs.certificate.groups_of.Goals as goal
use Rattle.eve_history.proofs.certificate.groups_of.Goals.{then-index-end, else-index-end}

pub group-end-requires : goal.group-end-requires
group-end-requires c = first_size (batch_in c.args.batch.now.bytes.now).1 c.requires

pub loop-index-init : goal.loop-index-init
loop-index-init c = grouping_start (batch_in c.args.batch.now.bytes.now).1.sizes c.group-end.result c.group-end.ensures

pub overflow_add-group : goal.overflow_add-group
overflow_add-group c =
    let b = (batch_in c.args.batch.now.bytes.now).1 in
    let requests = few_requests b c.requires in
    let one = requests.0 in
    let two = requests.1 in
    let some = some_end b c.loop-index.group c.requires in
    let to = c.loop-index.invariant.to in
    let count = c.loop-index.invariant.count in
    record { fits = omega arith }

pub group-requires : goal.group-requires
group-requires c =
    let b = (batch_in c.args.batch.now.bytes.now).1 in
    let one = (few_requests b c.requires).0 in
    let further = goes_further b.sizes c.loop-index.index c.loop-index.group c.loop-index.end c.loop-index.groups
    c.loop-index.invariant c.if-index-end.true (omega arith) in
    omega arith

pub loop-index-preserved : goal.loop-index-preserved
loop-index-preserved c =
    let b = (batch_in c.args.batch.now.bytes.now).1 in
    let requests = few_requests b c.requires in
    let one = requests.0 in
    let two = requests.1 in
    let small : c.loop-index.index < 256 = omega arith in
    let grouped : Grouped b.sizes c.loop-index.index c.if-index-end.group c.if-index-end.end =
    elim c.if-index-end.branch [
      | then-index-end w ↦
          let some = some_end b c.loop-index.group c.requires in
          let to = c.loop-index.invariant.to in
          let first : 1 ≤ c.loop-index.end = omega arith in
          let lt : c.loop-index.index < sum b.sizes = omega arith in
          subst (λ (e : ℕ). Grouped b.sizes c.loop-index.index c.if-index-end.group e) (sym w.end-is)
          (subst (λ (g : ℕ). Grouped b.sizes c.loop-index.index g (c.loop-index.end + w.group.result)) (sym w.group-is)
          (grouped_further b.sizes c.loop-index.index c.loop-index.group c.loop-index.end w.group.result
          c.loop-index.groups c.loop-index.invariant w.if-index-end.true lt w.group.ensures
          (some_size b (c.loop-index.group + 1) w.group.result c.requires w.group.ensures) first))
      | else-index-end w ↦
          subst (λ (e : ℕ). Grouped b.sizes c.loop-index.index c.if-index-end.group e) (sym w.end-is)
          (subst (λ (g : ℕ). Grouped b.sizes c.loop-index.index g c.loop-index.end) (sym w.group-is)
          (grouped_here b.sizes c.loop-index.index c.loop-index.group c.loop-index.end c.loop-index.groups
          c.loop-index.invariant w.if-index-end.false))
    ] in
    grouping_more b.sizes c.loop-index.index c.if-index-end.group c.if-index-end.end c.loop-index.group c.loop-index.end
    c.loop-index.groups c.loop-index.invariant grouped small

pub returns : goal.returns
returns c = λ i lt. c.loop-index.invariant.entries i (omega arith)
