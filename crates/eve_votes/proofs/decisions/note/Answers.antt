use Rattle.std.proofs.Common.{ℕ, arith, Option, ap, ◌∙◌, sym, subst}
use Rattle.eve_views.specs.Least.{lower}
use Rattle.eve_votes.specs.Decisions.{Judging, IsFound}
use Rattle.eve_votes.proofs.DecisionLaws.{decided_within, within_table, known_at, clash_judging, found_clash}
use Rattle.eve_votes.proofs.DecisionLaws.{first_judging, first_noted, found_first}
use Rattle.eve_votes.proofs.decisions.note.Goals as goal

pub index-requires : goal.index-requires
index-requires c =
    let within = decided_within c.args.trace.now c.recall_limits.ensures c.args.seq c.args.decision.view
    c.args.decision.token.now c.requires.decided in
    omega (arith, within_table c.requires.judging within)

pub batch-requires-clause-from_one : goal.batch-requires-clause-from_one
batch-requires-clause-from_one c = (decided_within c.args.trace.now c.recall_limits.ensures c.args.seq
    c.args.decision.view c.args.decision.token.now c.requires.decided).low

pub batch-requires-clause-there : goal.batch-requires-clause-there
batch-requires-clause-there c = (decided_within c.args.trace.now c.recall_limits.ensures c.args.seq
    c.args.decision.view c.args.decision.token.now c.requires.decided).high

pub returns-then-is_some-clause-found : goal.returns-then-is_some-clause-found
returns-then-is_some-clause-found c =
    let t = c.args.trace.now in
    let ds = c.args.decisions.now.items in
    let n = c.args.seq in
    let view = c.args.decision.view in
    let within = decided_within t c.recall_limits.ensures n view c.args.decision.token.now c.requires.decided in
    let known = known_at ds n c.index.result.now (within_table c.requires.judging within) c.index.ensures
    (sym c.is_some.ensures ∙ c.if-is_some.true) in
    subst (λ (o : Option ℕ). IsFound t ds o n view) (sym (c.lower.ensures ∙ ap (lower c.args.least) c.offset.ensures))
    (found_clash t ds c.args.least n view c.batch.result.offset _ known.0 known.1 within.low c.batch.ensures.says)

pub returns-then-is_some-clause-judging : goal.returns-then-is_some-clause-judging
returns-then-is_some-clause-judging c =
    let t = c.args.trace.now in
    let ds = c.args.decisions.now.items in
    let n = c.args.seq in
    let within = decided_within t c.recall_limits.ensures n c.args.decision.view c.args.decision.token.now
    c.requires.decided in
    let known = known_at ds n c.index.result.now (within_table c.requires.judging within) c.index.ensures
    (sym c.is_some.ensures ∙ c.if-is_some.true) in
    subst (Judging t ds) (sym (c.lower.ensures ∙ ap (lower c.args.least) c.offset.ensures))
    (clash_judging t ds c.args.least n c.args.decision.view c.batch.result.offset c.args.decision.token.now _
    known.0 known.1 c.requires.unnoted c.requires.decided within.low c.batch.ensures.says c.requires.judging)

pub index_mut-requires : goal.index_mut-requires
index_mut-requires c =
    let within = decided_within c.args.trace.now c.recall_limits.ensures c.args.seq c.args.decision.view
    c.args.decision.token.now c.requires.decided in
    omega (arith, within_table c.requires.judging within)

pub returns-clause-judging : goal.returns-clause-judging
returns-clause-judging c =
    let t = c.args.trace.now in
    let within = decided_within t c.recall_limits.ensures c.args.seq c.args.decision.view c.args.decision.token.now
    c.requires.decided in
    first_judging t c.args.decisions.now.items c.args.least c.args.seq c.args.decision
    (within_table c.requires.judging within) c.requires.decided within.size c.requires.judging

pub returns-clause-notes : goal.returns-clause-notes
returns-clause-notes c =
    let within = decided_within c.args.trace.now c.recall_limits.ensures c.args.seq c.args.decision.view
    c.args.decision.token.now c.requires.decided in
    first_noted c.args.decisions.now.items c.args.seq c.args.decision c.index.result.now
    (within_table c.requires.judging within) c.index.ensures (sym c.is_some.ensures ∙ c.if-is_some.false)

pub returns-clause-found : goal.returns-clause-found
returns-clause-found c =
    let within = decided_within c.args.trace.now c.recall_limits.ensures c.args.seq c.args.decision.view
    c.args.decision.token.now c.requires.decided in
    found_first c.args.trace.now c.args.decisions.now.items c.args.least c.args.seq c.args.decision
    (within_table c.requires.judging within)
