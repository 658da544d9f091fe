use Rattle.std.proofs.Common.{refl, sym, ◌∙◌, arith}
use Rattle.std.proofs.lemmas.Bool.{false≢true}
use Rattle.eve_smallbank.proofs.DecisionEntries.{all_noted, noted_at}
use Rattle.eve_smallbank.proofs.fit.are_noted.Goals as goal

pub returns-then-not-is_noted : goal.returns-then-not-is_noted
returns-then-not-is_noted c = (
  λ e. absurd (false≢true e),
  λ all. absurd (false≢true (sym c.if-not-is_noted.true ∙ c.is_noted.ensures.1
      (noted_at c.args.rows.now c.args.entries.now c.args.effects.now c.loop-place.place c.at-in-loop-place.result
      c.at.result c.at-in-loop-place-2.result c.at-in-loop-place.ensures c.at.ensures c.at-in-loop-place-2.ensures
      all))),
)

pub returns : goal.returns
returns c = (
  λ _. all_noted c.args.rows.now c.args.entries.now c.args.effects.now c.requires.entries c.requires.effects
      (λ j below r e f x y z. c.loop-place.invariant j (omega arith) r e f x y z),
  λ _. refl,
)
