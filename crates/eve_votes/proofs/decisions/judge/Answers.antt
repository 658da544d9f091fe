use Rattle.std.proofs.Common.{ℕ, List, Bor, sym, ap, ◌∙◌}
use Rattle.std.specs.Option.{option_map}
use Rattle.eve_votes.proofs.DecisionLaws.{none_noted}
use Rattle.eve_votes.proofs.decisions.judge.Goals as goal

pub note-requires-clause-decided : goal.note-requires-clause-decided
note-requires-clause-decided c = (c.decided_in.ensures c.in-Some.token.now).1
    (ap (option_map (λ (r : Bor (List ℕ)). r.now)) c.in-Some.is)

pub returns-in-None-clause-agrees : goal.returns-in-None-clause-agrees
returns-in-None-clause-agrees c token decided =
    let found = (c.decided_in.ensures token).0 decided in
    absurd (let none = sym found ∙ ap (option_map (λ (r : Bor (List ℕ)). r.now)) c.in-None.is in cc)

pub returns-in-None-clause-notes : goal.returns-in-None-clause-notes
returns-in-None-clause-notes c = none_noted c.args.decisions.now.items c.args.ballot.seq c.args.ballot.view
