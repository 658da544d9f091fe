use Rattle.std.proofs.Common.{◌<◌, length, arith, rules}
use Rattle.eve_agree.proofs.AtNumber.{as_many_histories, as_many_settled, as_many_balances, history_here, settled_here}
use Rattle.eve_agree.proofs.AtNumber.{after_here, balances_here}
use Rattle.eve_agree.proofs.replica.replica_at.Goals as goal

pub bounds-histories-e : goal.bounds-histories-e
bounds-histories-e c =
    let count = as_many_histories c.args.trace.now c.args.replicas c.requires.all in
    omega (arith, count, c.requires.there)

pub offset_bounds-histories-e : goal.offset_bounds-histories-e
offset_bounds-histories-e c =
    let count = as_many_histories c.args.trace.now c.args.replicas c.requires.all in
    let lt : c.args.e < length c.args.replicas.histories.now = omega (arith, count, c.requires.there) in
    search rules

pub bounds-settled-e : goal.bounds-settled-e
bounds-settled-e c =
    let count = as_many_settled c.args.trace.now c.args.replicas c.requires.all in
    omega (arith, count, c.requires.there)

pub offset_bounds-settled-e : goal.offset_bounds-settled-e
offset_bounds-settled-e c =
    let count = as_many_settled c.args.trace.now c.args.replicas c.requires.all in
    let lt : c.args.e < length c.args.replicas.settled.now = omega (arith, count, c.requires.there) in
    search rules

pub bounds-balances-e : goal.bounds-balances-e
bounds-balances-e c =
    let count = as_many_balances c.args.trace.now c.args.replicas c.requires.all in
    omega (arith, count, c.requires.there)

pub offset_bounds-balances-e : goal.offset_bounds-balances-e
offset_bounds-balances-e c =
    let count = as_many_balances c.args.trace.now c.args.replicas c.requires.all in
    let lt : c.args.e < length c.args.replicas.balances.now = omega (arith, count, c.requires.there) in
    search rules

pub returns : goal.returns
returns c =
    let t = c.args.trace.now in
    let all = c.args.replicas in
    record {
      history = history_here t all c.requires.all c.args.e c.requires.there _ c.index-histories-e.is;
      settled = settled_here t all c.requires.all c.args.e c.requires.there _ c.index-settled-e.is;
      after = after_here t all c.requires.all c.args.e c.requires.there _ _ c.index-settled-e.is c.index-balances-e.is;
      balances = balances_here t all c.requires.all c.args.e c.requires.there _ c.index-balances-e.is;
    }
