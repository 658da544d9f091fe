use Rattle.std.proofs.Common.{ℕ, List, [], ◌∷◌, ◌++◌, refl, sym, ap, subst, ◌∙◌, append_assoc}
use Rattle.std.proofs.lemmas.List.{append-nil}
use Rattle.eve_grammar.specs.Trace.{Step}
use Rattle.eve_grammar.proofs.Lists.{all-push}
use Rattle.eve_views.specs.StepKinds.{IsStep}
use Rattle.eve_evidence.specs.Seen.{IsFirstAmong, IsFirstIn, NoneAmong, NoneIn}
use Rattle.eve_evidence.proofs.Lists.{if_none, if_some}
use Rattle.eve_evidence.proofs.prefix.first_among.Goals as goal

pub loop-step-init : goal.loop-step-init
loop-step-init c = ([], refl, tt)

pub returns-then-is_some-clause-first : goal.returns-then-is_some-clause-first
returns-then-is_some-clause-first c =
    let done = c.loop-step.invariant in
    let some = c.in-Some.ensures.some in
    if_some c.first_in-found.result
    (λ s. (is : ℕ × Step) → IsStep c.in-Some.step is → IsFirstIn c.args.row c.args.left.now is s)
    (IsFirstAmong c.args.row c.args.left.now c.args.steps.now)
    (λ s own. record {
      before = done.0;
      item = some.0;
      rest = c.next.new.self;
      is = done.1 ∙ ap (λ (xs : List (ℕ × Step)). done.0 ++ xs) some.1;
      holds = (done.2, own some.0 some.2);
    }) c.first_in-found.ensures.first

pub loop-step-preserved : goal.loop-step-preserved
loop-step-preserved c =
    let done = c.loop-step.invariant in
    let some = c.in-Some.ensures.some in
    let none = if_none c.first_in-found.result
    ((is : ℕ × Step) → IsStep c.in-Some.step is → NoneIn c.args.row c.args.left.now is) c.if-is_some.ensures
    c.first_in-found.ensures.none in (
      done.0 ++ some.0 ∷ [],
      done.1 ∙ ap (λ (xs : List (ℕ × Step)). done.0 ++ xs) some.1
          ∙ sym (append_assoc done.0 (some.0 ∷ []) c.next.new.self),
      all-push (NoneIn c.args.row c.args.left.now) done.0 some.0 done.2 (none some.0 some.2),
    )

pub returns-clause-none : goal.returns-clause-none
returns-clause-none c =
    let done = c.loop-step.invariant in
    subst (NoneAmong c.args.row c.args.left.now)
    (sym (done.1 ∙ ap (λ (xs : List (ℕ × Step)). done.0 ++ xs) c.in_default.ensures.none ∙ append-nil done.0)) done.2
