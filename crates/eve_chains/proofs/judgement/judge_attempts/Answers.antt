use Rattle.std.proofs.Common.{ℕ, List, subst}
use Rattle.std.specs.List.{AllZip}
use Rattle.rayon.proofs.ListFacts.{IfOk-then}
use Rattle.eve_chains.specs.inner.Judged.{IsFoundIn}
use Rattle.eve_chains.specs.inner.Stretches.{AreBetween}
use Rattle.eve_chains.specs.declared.stretch.Stretch.{Stretch}
use Rattle.eve_chains.proofs.judgement.judge_attempts.Goals as goal

pub returns : goal.returns
returns g c =
    let t = c.args.section.trace.now in
    let h = c.args.section.history.now in
    let xs = c.in_ok-stretches.stretches.items in
    let cut = subst (λ (n : ℕ). AreBetween 0 n xs) c.attempts.ensures.attempts c.in_ok-stretches.ensures.all in
    IfOk-then c.judge_all.result _ _ c.judge_all.ensures (λ js each. record {
      stretches = xs;
      cut = record { reaches = cut.reaches; within = cut.within };
      each = subst (λ (ns : List (List ℕ)). AllZip (IsFoundIn ns t h) xs js.items) c.requires.names
          (subst (λ (ys : List Stretch). AllZip (IsFoundIn c.args.names.now.items t h) ys js.items)
          c.deref.ensures.value each);
    })
