use Rattle.std.proofs.Common.{◌+◌, ◌-◌, get_or, sym, subst, ◌∙◌, arith}
use Rattle.std.proofs.lemmas.Option.{slice_get-get_or}
use Rattle.eve_history.specs.declared.repeats.Arrival.{Arrival}
use Rattle.eve_history.proofs.SortedRequests.{Seen, seen_same, seen_other, seen_none, seen_first}
use Rattle.eve_history.proofs.repeats.first_twice.Goals as goal
use Rattle.eve_history.proofs.repeats.first_twice.Goals.{then-is_same, else-is_same}

abbrev none : Arrival
none = record { number = 0; client = 0; batch = 0 }

pub loop-i-preserved : goal.loop-i-preserved
loop-i-preserved c =
    let xs = c.args.arrivals.now in
    let i = c.loop-i.i in
    let a = get_or xs (i - 1) none in
    let b = get_or xs i none in
    let former = slice_get-get_or xs (i - 1) none (omega arith) in
    let later = slice_get-get_or xs i none (omega arith) in
    elim c.if-is_same.branch [
      | then-is_same w ↦
          subst (Seen xs (i + 1)) (sym (w.first-is ∙ w.lower-first.ensures))
          (seen_same xs i c.loop-i.first a b (omega arith) former later c.loop-i.invariant
          (sym c.is_same.ensures ∙ w.if-is_same.true))
      | else-is_same w ↦
          subst (Seen xs (i + 1)) (sym w.first-is)
          (seen_other xs i c.loop-i.first a b (omega arith) former later c.loop-i.invariant
          (sym c.is_same.ensures ∙ w.if-is_same.false))
    ]

pub returns-clause-none : goal.returns-clause-none
returns-clause-none c =
    seen_none c.args.arrivals.now c.requires c.loop-i.i (omega arith) c.loop-i.first c.loop-i.invariant

pub returns-clause-first : goal.returns-clause-first
returns-clause-first c =
    seen_first c.args.arrivals.now c.requires c.loop-i.i (omega arith) c.loop-i.first c.loop-i.invariant
