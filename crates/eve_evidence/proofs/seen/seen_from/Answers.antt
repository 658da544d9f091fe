use Rattle.std.proofs.Common.{◌≡◌, ℕ, ◌∷◌, ◌++◌, sym, subst}
use Rattle.eve_grammar.specs.Trace.{Attempts}
use Rattle.eve_grammar.specs.Spelling.{steps_at}
use Rattle.eve_evidence.specs.Seen.{look, IsSeenFrom, NoneNear}
use Rattle.eve_evidence.proofs.seen.seen_from.Goals as goal

pub elsewhere-requires-clause-look : goal.elsewhere-requires-clause-look
elsewhere-requires-clause-look c =
    let t = c.args.site.trace.now in
    let is = c.requires.look in (
      is.0,
      is.1,
      is.2,
      c.args.index,
      subst (λ (n : ℕ). steps_at t c.args.e ≡ is.0 ++ (n, Attempts is.2) ∷ is.1) (sym c.offset.ensures) is.3,
      subst (λ (n : ℕ). NoneNear t (look is.0 is.1 n is.2 c.args.index c.args.row c.args.saw.now))
          (sym c.offset.ensures)
          (c.in-None.ensures.none is.0 is.1 is.2 is.4 is.5 is.6),
    )

pub returns-in-None : goal.returns-in-None
returns-in-None c = λ prefix behind a split course decoded xs.
    let t = c.args.site.trace.now in
    subst (λ (n : ℕ). IsSeenFrom t (look prefix behind n a c.args.index c.args.row c.args.saw.now) c.elsewhere.result)
    c.offset.ensures
    (c.elsewhere.ensures prefix behind a c.args.index
    (subst (λ (n : ℕ). steps_at t c.args.e ≡ prefix ++ (n, Attempts a) ∷ behind) (sym c.offset.ensures) split)
    (subst (λ (n : ℕ). NoneNear t (look prefix behind n a c.args.index c.args.row c.args.saw.now))
    (sym c.offset.ensures)
    (c.in-None.ensures.none prefix behind a course decoded xs)))
