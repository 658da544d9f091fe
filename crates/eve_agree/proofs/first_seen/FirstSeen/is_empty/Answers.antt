use Rattle.std.proofs.Common.{sym, ap, ◌∙◌}
use Rattle.std.proofs.lemmas.Bool.{eq-eqb, false≢true}
use Rattle.eve_agree.specs.Marks.{marked_count}
use Rattle.eve_agree.proofs.MarkLaws.{some_marked}
use Rattle.eve_agree.proofs.first_seen.FirstSeen.is_empty.Goals as goal

pub returns-clause-some : goal.returns-clause-some
returns-clause-some c = λ no. some_marked c.args.self.now
    (λ e. false≢true (sym no ∙ eq-eqb c.self.inside.count 0 (c.self.invariant ∙ ap marked_count c.self.view_is ∙ e)))
