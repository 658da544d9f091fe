use Rattle.std.proofs.Common.{ℕ, List, Bor, sym, ap, subst, ◌∙◌, arith}
use Rattle.std.specs.Option.{option_map}
use Rattle.eve_grammar.specs.Trace.{ForCommit}
use Rattle.eve_votes.specs.Votes.{IsDecided, backers}
use Rattle.eve_votes.proofs.DecisionLaws.{decided_within}
use Rattle.eve_votes.proofs.sorted_votes.decision_from.Goals as goal

pub returns-in_default-clause-none : goal.returns-in_default-clause-none
returns-in_default-clause-none c token decided =
    let found = (c.decided_in.ensures token).0 decided in
    absurd (let none = sym found ∙ ap (option_map (λ (r : Bor (List ℕ)). r.now)) c.in_default.is in cc)

pub array_of-requires : goal.array_of-requires
array_of-requires c =
    let t = c.args.trace.now in
    let token = c.in-Some.token.now in
    let decided : IsDecided t c.args.ballot.seq c.args.ballot.view token =
    (c.decided_in.ensures token).1 (ap (option_map (λ (r : Bor (List ℕ)). r.now)) c.in-Some.is) in
    (decided_within t c.recall_limits.ensures c.args.ballot.seq c.args.ballot.view token decided).size

pub returns-clause-is : goal.returns-clause-is
returns-clause-is c =
    let t = c.args.trace.now in
    let n = c.args.ballot.seq in
    let view = c.args.ballot.view in
    let token = c.in-Some.token.now in
    record {
      after = omega arith;
      decided = subst (IsDecided t n view) (sym c.array_of.ensures)
          ((c.decided_in.ensures token).1 (ap (option_map (λ (r : Bor (List ℕ)). r.now)) c.in-Some.is));
      votes_are = c.backers_from-votes.ensures
          ∙ ap (λ (token : List ℕ). backers t n view (ForCommit token)) (sym c.array_of.ensures);
    }
