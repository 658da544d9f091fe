use Rattle.std.proofs.Common.{subst}
use Rattle.eve_grammar.specs.Trace.{Trace}
use Rattle.eve_evidence_outcomes.specs.Counts.{AreTraceCounts}
use Rattle.eve_explain.proofs.explaining.explained_yes.Goals as goal

pub returns-clause-explained : goal.returns-clause-explained
returns-clause-explained c = λ bytes read t spelled.
    subst (λ (u : Trace). AreTraceCounts u c.counts-counts.result)
    (c.bytes_spell_one_trace.ensures bytes c.args.accepted.now.trace t read spelled) c.counts-counts.ensures
