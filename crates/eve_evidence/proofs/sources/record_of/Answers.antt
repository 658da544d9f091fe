use Rattle.std.proofs.Common.{◌≢◌, ℕ, List, sym, subst, ◌∙◌, arith}
use Rattle.std.specs.List.{AllByRecursion}
use Rattle.std.proofs.lemmas.List.{take_all}
use Rattle.eve_grammar.specs.Trace.{Access}
use Rattle.eve_frames.specs.Decoded.{access_decoded}
use Rattle.eve_evidence.proofs.Lists.{all_more}
use Rattle.eve_evidence.proofs.RecordLookups.{with_at, with_none}
use Rattle.eve_evidence.proofs.sources.record_of.Goals as goal

pub returns-then-index-clause-found : goal.returns-then-index-clause-found
returns-then-index-clause-found c =
    with_at c.args.accesses.now c.loop-i.i (c.get-access.result.offset, access_decoded c.get-access.result) c.args.index
    c.get-access.ensures.says c.loop-i.invariant (sym c.index.ensures ∙ c.if-index.true)

pub loop-i-preserved : goal.loop-i-preserved
loop-i-preserved c =
    all_more (λ (z : ℕ × Access). z.1.index ≢ c.args.index) c.args.accesses.now c.loop-i.i
    (c.get-access.result.offset, access_decoded c.get-access.result) c.get-access.ensures.says c.loop-i.invariant
    (λ e. c.if-index.false (c.index.ensures ∙ e))

pub returns-clause-none : goal.returns-clause-none
returns-clause-none c =
    with_none c.args.accesses.now c.args.index
    (subst (λ (xs : List (ℕ × Access)). AllByRecursion (λ z. z.1.index ≢ c.args.index) xs)
    (take_all c.loop-i.i c.args.accesses.now (omega (arith, c.len-i-end.ensures, c.loop-i-test.false)))
    c.loop-i.invariant)
