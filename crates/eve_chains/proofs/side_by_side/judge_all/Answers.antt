use Rattle.std.proofs.Common.{Result, IfOk, subst, ap, ◌∙◌}
use Rattle.std.specs.List.{AllZip}
use Rattle.std.specs.declared.alloc.AllocError.{AllocError}
use Rattle.rayon.proofs.ToStd.{slice-AllZip}
use Rattle.eve_chains.specs.inner.Judged.{IsFoundIn}
use Rattle.eve_chains.specs.declared.side_by_side.Judged.{Judged}
use Rattle.eve_chains.specs.declared.stretch.Stretch.{Stretch}
use Rattle.eve_chains.proofs.CollectedParts.{collected}
use Rattle.eve_chains.proofs.side_by_side.judge_all.Goals as goal

pub returns : goal.returns
returns g c =
    let f = c.map.result.f in
    let s = f.1.now in
    let names = ap (λ f. f.2.now.items) c.map.ensures.f in
    let trace = ap (λ f. f.1.now.trace.now) c.map.ensures.f in
    let history = ap (λ f. f.1.now.history.now) c.map.ensures.f in
    let gave = c.in_ok-collect.ensures in
    let chain = gave.1 in
    let slice = ap (λ it. it.base.slice.now) c.map.ensures.base ∙ ap (λ it. it.slice.now) c.with_min_len.ensures.base
    ∙ c.par_iter.ensures in
    subst (λ (R : Stretch → Judged → Type 0). IfOk c.in_ok-collect.field-0
    (λ made. AllZip R c.args.stretches.now made.items))
    (λ i. IsFoundIn (names i) (trace i) (history i))
    (collected (IsFoundIn f.2.now.items s.trace.now s.history.now) c.args.stretches.now gave.0 c.in_ok-collect.field-0
    gave.2
    (slice-AllZip chain.0 c.args.stretches.now (chain.1 ∙ slice)
    (λ x (u : Result Judged AllocError). IfOk u (IsFoundIn f.2.now.items s.trace.now s.history.now x)) gave.0 chain.2))
