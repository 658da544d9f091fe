use Rattle.std.proofs.Common.{sym, ◌≡◌, ◌<◌, IfSome, subst}
use Rattle.std.specs.Prelude.{List, Option}
use Rattle.std.proofs.lemmas.Option.{IfSome_then}
use Rattle.eve_recorder.specs.RecorderViews.{recorder_id, Noter, Places, IsNoterOf, AreNotersSeated}
use Rattle.eve_recorder.specs.SeatTables.{seats_in_table}
use Rattle.eve_recorder.proofs.SeatTable.{own_of, seated_without}
use Rattle.eve_recorder.proofs.seats.Seats.worker.Goals as goal

pub invariant_of-self : goal.invariant_of-self
invariant_of-self c = let i = c.self.invariant in let s = c.self.inside in let here =
    recorder_id s.main.table_id s.workers in
    let seated = seated_without (IsNoterOf here) (seats_in_table s.table) c.args.w i.3 in
    (i.0, i.1, i.2, subst (λ (l : List (Option Noter)). AreNotersSeated here l) (sym c.take.ensures.rest) seated, i.4)

pub returns-clause-own : goal.returns-clause-own
returns-clause-own c = let s = c.self.inside in let here = recorder_id s.main.table_id s.workers in
    subst (λ (p : Places). IfSome c.take.result (λ s. (s.recorder ≡ p.recorder) × (s.worker ≡ c.args.w)
    × (c.args.w < p.recorder.workers))) c.self.view_is
    (IfSome_then c.take.result
    (own_of (IsNoterOf here) (seats_in_table s.table) c.args.w c.take.result c.self.invariant.3 c.take.ensures.out)
    (λ s h. (h.0, h.1, h.2)))
