use Rattle.std.proofs.Common.{rules, ◌≡◌, All, Vec, Global, sym, subst, arith}
use Rattle.std.proofs.lemmas.List.Elements.{All-push}
use Rattle.eve_write.specs.declared.vote.VoteData.{VoteData}
use Rattle.eve_replica.proofs.running.copies_of.Goals as goal

pub loop-number-preserved : goal.loop-number-preserved
loop-number-preserved c = record {
  many = omega arith;
  each = subst (All (λ (v : Vec VoteData Global). v.items ≡ c.args.votes.now)) (sym c.push_reserved.ensures.items)
      (All-push (λ (v : Vec VoteData Global). v.items ≡ c.args.votes.now) c.loop-number.copies.items c.in_ok-copy.copy
      c.loop-number.invariant.each (search rules));
  room = omega arith;
}

pub returns-clause-each : goal.returns-clause-each
returns-clause-each c = c.loop-number.invariant.each
