use Rattle.std.proofs.Common.{◌≡◌, ℕ, ◌<◌, List, [], length, sym, ap, subst, ◌∙◌, rules}
use Rattle.eve_history.specs.SectionHistory.{SectionHistory}
use Rattle.eve_chains.specs.CommittedValues.{settling}
use Rattle.eve_test_program.specs.inner.SectionHistories.{AreTold}
use Rattle.eve_test_program.proofs.Replicas.{none_told, told_more, all_told, all_settled, all_right}
use Rattle.eve_test_program.proofs.limits.together.read_replicas.Goals as goal

pub replicas-init : goal.replicas-init
replicas-init g c =
    let t = c.args.trace.now in
    subst (λ (tells : List SectionHistory). AreTold t 0 tells c.new-settled.result.items)
    (sym c.new-histories.ensures.items)
    (subst (AreTold t 0 []) (sym c.new-settled.ensures.items) (none_told t))

pub replicas-preserved : goal.replicas-preserved
replicas-preserved g c =
    let t = c.args.trace.now in
    let lt : c.replicas.e < length t.sections = search rules in
    told_more t c.replicas.e c.replicas.histories.items c.push.new.self.items c.replicas.settled.items
    c.push-in-replicas.new.self.items c.in_ok-history.history c.in_ok-wrote.wrote lt c.replicas.invariant
    c.in_ok-push.ensures.items c.in_ok-push-2.ensures.items c.in_ok-history.ensures.section_history
    (c.in_ok-wrote.ensures.settled ∙ ap (settling t) c.in_ok-history.ensures.replica) c.in_ok-history.ensures.right

pub returns-clause-histories : goal.returns-clause-histories
returns-clause-histories g c =
    let t = c.args.trace.now in
    let last : c.replicas.e ≡ length t.sections = search rules in
    all_told t c.replicas.histories.items c.replicas.settled.items
    (subst (λ (n : ℕ). AreTold t n c.replicas.histories.items c.replicas.settled.items) last c.replicas.invariant)

pub returns-clause-settled : goal.returns-clause-settled
returns-clause-settled g c =
    let t = c.args.trace.now in
    let last : c.replicas.e ≡ length t.sections = search rules in
    all_settled t c.replicas.histories.items c.replicas.settled.items
    (subst (λ (n : ℕ). AreTold t n c.replicas.histories.items c.replicas.settled.items) last c.replicas.invariant)

pub returns-clause-right : goal.returns-clause-right
returns-clause-right g c =
    let t = c.args.trace.now in
    let last : c.replicas.e ≡ length t.sections = search rules in
    all_right t c.replicas.histories.items c.replicas.settled.items
    (subst (λ (n : ℕ). AreTold t n c.replicas.histories.items c.replicas.settled.items) last c.replicas.invariant)
