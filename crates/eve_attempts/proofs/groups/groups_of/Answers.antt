use Rattle.std.proofs.Common.{ℕ, ◌+◌, ◌≤◌, ◌<◌, sum, sym, subst, arith}
use Rattle.eve_write.specs.Data.{batch as plain}
use Rattle.eve_grammar.proofs.GroupOrder.{Grouped, grouping_start, goes_further, grouped_further, grouped_here}
use Rattle.eve_grammar.proofs.GroupOrder.{grouping_more, first_size, some_size, some_end, few_requests}
use Rattle.eve_attempts.proofs.groups.groups_of.Goals as goal
use Rattle.eve_attempts.proofs.groups.groups_of.Goals.{then-index-end, else-index-end}

pub size_of-end-requires : goal.size_of-end-requires
size_of-end-requires c = first_size (plain c.args.batch.now) c.requires

pub loop-index-init : goal.loop-index-init
loop-index-init c = grouping_start (plain c.args.batch.now).sizes c.size_of-end.result c.size_of-end.ensures

pub overflow_add-group : goal.overflow_add-group
overflow_add-group c =
    let b = (plain c.args.batch.now) in
    let requests = few_requests b c.requires in
    let one = requests.0 in
    let two = requests.1 in
    let len = c.count_of-index-end.ensures in
    let some = some_end b c.loop-index.group c.requires in
    let to = c.loop-index.invariant.to in
    let count = c.loop-index.invariant.count in
    record { fits = omega arith }

pub size_of-requires : goal.size_of-requires
size_of-requires c =
    let b = (plain c.args.batch.now) in
    let one = (few_requests b c.requires).0 in
    let len = c.count_of-index-end.ensures in
    let further = goes_further b.sizes c.loop-index.index c.loop-index.group c.loop-index.end c.loop-index.groups
    c.loop-index.invariant c.if-index-end.true (omega arith) in
    omega arith

pub loop-index-preserved : goal.loop-index-preserved
loop-index-preserved c =
    let b = (plain c.args.batch.now) in
    let requests = few_requests b c.requires in
    let one = requests.0 in
    let two = requests.1 in
    let len = c.count_of-index-end.ensures in
    let small : c.loop-index.index < 256 = omega arith in
    let grouped : Grouped b.sizes c.loop-index.index c.if-index-end.group c.if-index-end.end =
    elim c.if-index-end.branch [
      | then-index-end w ↦
          let some = some_end b c.loop-index.group c.requires in
          let to = c.loop-index.invariant.to in
          let first : 1 ≤ c.loop-index.end = omega arith in
          let lt : c.loop-index.index < sum b.sizes = omega arith in
          subst (λ (e : ℕ). Grouped b.sizes c.loop-index.index c.if-index-end.group e) (sym w.end-is)
          (subst (λ (g : ℕ). Grouped b.sizes c.loop-index.index g (c.loop-index.end + w.size_of.result))
          (sym w.group-is)
          (grouped_further b.sizes c.loop-index.index c.loop-index.group c.loop-index.end w.size_of.result
          c.loop-index.groups c.loop-index.invariant w.if-index-end.true lt w.size_of.ensures
          (some_size b (c.loop-index.group + 1) w.size_of.result c.requires w.size_of.ensures) first))
      | else-index-end w ↦
          subst (λ (e : ℕ). Grouped b.sizes c.loop-index.index c.if-index-end.group e) (sym w.end-is)
          (subst (λ (g : ℕ). Grouped b.sizes c.loop-index.index g c.loop-index.end) (sym w.group-is)
          (grouped_here b.sizes c.loop-index.index c.loop-index.group c.loop-index.end c.loop-index.groups
          c.loop-index.invariant w.if-index-end.false))
    ] in
    grouping_more b.sizes c.loop-index.index c.if-index-end.group c.if-index-end.end c.loop-index.group c.loop-index.end
    c.loop-index.groups c.loop-index.invariant grouped small

pub returns : goal.returns
returns c = λ i lt. let len = c.count_of-index-end.ensures in c.loop-index.invariant.entries i (omega arith)
