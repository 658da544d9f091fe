use Rattle.std.proofs.Common.{ℕ, List, [], length, sym, ap, subst, arith}
use Rattle.eve_views.specs.inner.PartStarts.{no_starts}
use Rattle.eve_views.specs.inner.WalkProgress.{Walking}
use Rattle.eve_views.specs.declared.starts.Starts.{Starts}
use Rattle.eve_views.proofs.WalkSteps.{walking_start}
use Rattle.eve_grammar.specs.declared.place.Place.{Place}
use Rattle.eve_views.proofs.progress.Progress.start.Goals as goal

pub returns : goal.returns
returns c = λ bytes header.
    let h = c.args.head in
    let w = walking_start h bytes header in
    let one = subst (λ (q : Place). Walking h bytes 32 q [] no_starts) (sym c.start.ensures.place) w in
    let two = subst (λ (s : Starts). Walking h bytes 32 c.start.result.place [] s) (sym c.new-2.ensures) one in
    record {
      head = c.start.ensures.head;
      within = header;
      few = omega (arith, ap length c.new.ensures.items);
      walking = λ _. subst (λ (xs : List ℕ). Walking h bytes 32 c.start.result.place xs c.new-2.result)
          (sym c.new.ensures.items) two;
    }
