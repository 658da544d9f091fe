use Rattle.std.proofs.Common.{◌≡◌, leb, sym, ap, ◌∙◌, subst}
use Rattle.std.specs.Prelude.{◌↔◌, IsTrue}
use Rattle.std.proofs.lemmas.Bool.{leb-true, le-leb}
use Rattle.eve_grammar.specs.Trace.{ForRollback, Trace}
use Rattle.eve_votes.specs.Votes.{backers, IsRolledBack}
use Rattle.eve_votes.proofs.tally.Tally.rolled_back.Goals as goal

pub returns : goal.returns
returns c =
    let t = c.self.inside.trace.now in
    let same : t ≡ c.args.self.now = c.self.view_is in
    let told : c.is_quorum.result ≡ leb t.head.quorum (backers t c.args.n c.args.view ForRollback) =
    c.is_quorum.ensures ∙ ap (leb t.head.quorum) c.backers-votes.ensures in
    subst (λ (u : Trace). IsTrue c.is_quorum.result ↔ IsRolledBack u c.args.n c.args.view) same (
      λ given. leb-true t.head.quorum (backers t c.args.n c.args.view ForRollback) (sym told ∙ given),
      λ backed. told
          ∙ le-leb t.head.quorum (backers t c.args.n c.args.view ForRollback) backed,
    )
