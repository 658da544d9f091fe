use Rattle.std.proofs.Common.{Result, IfOk, subst, ap, ◌∙◌}
use Rattle.std.specs.List.{AllZip}
use Rattle.std.specs.declared.alloc.AllocError.{AllocError}
use Rattle.rayon.proofs.ToStd.{slice-AllZip}
use Rattle.eve_chains.specs.inner.Walked.{IsWalkedRange}
use Rattle.eve_chains.specs.declared.rows.WalkedRange.{WalkedRange}
use Rattle.eve_chains.specs.declared.stretch.Stretch.{Stretch}
use Rattle.eve_chains.proofs.CollectedParts.{collected}
use Rattle.eve_chains.proofs.rows.walk_all.Goals as goal

pub returns : goal.returns
returns g c =
    let s = c.map.result.f.1.now.section in
    let trace = ap (λ f. f.1.now.section.trace.now) c.map.ensures.f in
    let history = ap (λ f. f.1.now.section.history.now) c.map.ensures.f in
    let gave = c.in_ok-collect.ensures in
    let chain = gave.1 in
    let slice = ap (λ it. it.base.slice.now) c.map.ensures.base ∙ ap (λ it. it.slice.now) c.with_min_len.ensures.base
    ∙ c.par_iter.ensures in
    subst (λ (R : Stretch → WalkedRange → Type 0). IfOk c.in_ok-collect.field-0
    (λ made. AllZip R c.args.ranges.now made.items))
    (λ i. IsWalkedRange (trace i) (history i).replica)
    (collected (IsWalkedRange s.trace.now s.history.now.replica) c.args.ranges.now gave.0 c.in_ok-collect.field-0 gave.2
    (slice-AllZip chain.0 c.args.ranges.now (chain.1 ∙ slice)
    (λ x (u : Result WalkedRange AllocError). IfOk u (IsWalkedRange s.trace.now s.history.now.replica x)) gave.0
    chain.2))
