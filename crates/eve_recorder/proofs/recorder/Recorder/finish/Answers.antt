use Rattle.std.proofs.Common.{◌≡◌, ◌≤◌, List, ap, sym, ◌∙◌, subst, arith}
use Rattle.std.specs.Prelude.{slice_get}
use Rattle.crossbeam_queue.specs.Passes.{view}
use Rattle.eve_stamps.specs.Applied.{Applied}
use Rattle.eve_recorder.specs.Noted.{of_worker}
use Rattle.eve_recorder.specs.declared.passes.Knowledge.{Knowledge}
use Rattle.eve_recorder.specs.RecorderViews.{RecorderId, recorder_id, Places, Taker, IsTakerAt, noted_on, noted_on_all}
use Rattle.eve_recorder.specs.SeatTables.{seats_in_table}
use Rattle.eve_recorder.proofs.QueueSteps.{merges_taker}
use Rattle.eve_recorder.proofs.SeatTable.{all_gathered}
use Rattle.eve_recorder.proofs.JoinedPass.{own_at, tied, noted_at, noted_past, from_seated}
use Rattle.eve_recorder.proofs.recorder.Recorder.finish.Goals as goal

pub put_back-requires-clause-own : goal.put_back-requires-clause-own
put_back-requires-clause-own c = own_at _ (seats_in_table c.seats.inside.table) 0
    (tied c.seats.view_is c.requires.own c.self.view_is) c.seats.invariant.3

pub put_back-requires-2-clause-own : goal.put_back-requires-2-clause-own
put_back-requires-2-clause-own c = own_at _ (seats_in_table c.seats.inside.table) 1
    (tied c.seats.view_is c.requires.own c.self.view_is) c.seats.invariant.3

pub put_back-requires-3-clause-own : goal.put_back-requires-3-clause-own
put_back-requires-3-clause-own c = own_at _ (seats_in_table c.seats.inside.table) 2
    (tied c.seats.view_is c.requires.own c.self.view_is) c.seats.invariant.3

pub put_back-requires-4-clause-own : goal.put_back-requires-4-clause-own
put_back-requires-4-clause-own c = own_at _ (seats_in_table c.seats.inside.table) 3
    (tied c.seats.view_is c.requires.own c.self.view_is) c.seats.invariant.3

pub put_back-requires-5-clause-own : goal.put_back-requires-5-clause-own
put_back-requires-5-clause-own c = own_at _ (seats_in_table c.seats.inside.table) 4
    (tied c.seats.view_is c.requires.own c.self.view_is) c.seats.invariant.3

pub put_back-requires-6-clause-own : goal.put_back-requires-6-clause-own
put_back-requires-6-clause-own c = own_at _ (seats_in_table c.seats.inside.table) 5
    (tied c.seats.view_is c.requires.own c.self.view_is) c.seats.invariant.3

pub put_back-requires-7-clause-own : goal.put_back-requires-7-clause-own
put_back-requires-7-clause-own c = own_at _ (seats_in_table c.seats.inside.table) 6
    (tied c.seats.view_is c.requires.own c.self.view_is) c.seats.invariant.3

pub put_back-requires-8-clause-own : goal.put_back-requires-8-clause-own
put_back-requires-8-clause-own c = own_at _ (seats_in_table c.seats.inside.table) 7
    (tied c.seats.view_is c.requires.own c.self.view_is) c.seats.invariant.3

noted : (c : goal.After-absorb) → noted_on_all (seats_in_table c.seats.inside.table) ≡ (view c.absorb.new.pass).noted
noted c = let n : Knowledge → List Applied = λ h. h.noted in let r = c.seats.inside.table in
    all_gathered noted_on _ _ _ _ _ _ _ _ _ r.s0 r.s1 r.s2 r.s3 r.s4 r.s5 r.s6 r.s7 (ap n c.seats.invariant.1)
    (ap n c.put_back.ensures.main) (ap n c.put_back-2.ensures.main) (ap n c.put_back-3.ensures.main)
    (ap n c.put_back-4.ensures.main)
    (ap n c.put_back-5.ensures.main) (ap n c.put_back-6.ensures.main) (ap n c.put_back-7.ensures.main)
    (ap n c.put_back-8.ensures.main)
    ∙ sym (ap n c.absorb.ensures.rule)

pub absorb-requires-clause-rule : goal.absorb-requires-clause-rule
absorb-requires-clause-rule c =
    let here : RecorderId = recorder_id c.seats.inside.main.table_id c.seats.inside.workers in
    let own : c.in-Some.taker.recorder ≡ here = subst (IsTakerAt here) c.in-Some.is c.seats.invariant.4 in
    let many = ap (λ (t : Taker). t.recorder.workers) c.taker.view_is ∙ ap (λ (r : RecorderId). r.workers) own
    ∙ sym (ap (λ (h : Knowledge). h.workers) c.put_back-8.ensures.main) in
    merges_taker _ _ _ _ (ap (λ (h : Knowledge). h.takes) c.taker.invariant.1) many

pub returns-clause-noted : goal.returns-clause-noted
returns-clause-noted c k x e = ap (of_worker k) (sym (noted c))
    ∙ noted_at 0 k k (seats_in_table c.seats.inside.table) x (omega arith)
    (from_seated _ (seats_in_table c.seats.inside.table) c.seats.invariant.3)
    (ap (λ (p : Places). slice_get p.seats k) c.seats.view_is ∙ e)

pub returns-clause-others : goal.returns-clause-others
returns-clause-others c k le = ap (of_worker k) (sym (noted c))
    ∙ noted_past _ (seats_in_table c.seats.inside.table) k c.seats.invariant.3
    (subst (λ (p : Places). p.recorder.workers ≤ k) (sym c.seats.view_is) le)
