use Rattle.std.proofs.Common.{ℕ, [], ◌∷◌, ◌++◌, Some, refl, sym, ap, subst, ◌∙◌}
use Rattle.std.proofs.lemmas.Bool.{false≢true}
use Rattle.eve_frames.specs.Decoded.{transfer_decoded}
use Rattle.eve_grammar.specs.Trace.{Transfers}
use Rattle.eve_evidence.specs.declared.evidence.Source.TheVariants as source
use Rattle.eve_evidence.specs.declared.prefix.Since.TheVariants as since
use Rattle.eve_evidence.specs.inner.LastSource.{IsLastSource, last_with, since_discarded}
use Rattle.eve_evidence.proofs.LastSources.{last_is_it, last_kept}
use Rattle.eve_evidence.proofs.prefix.last_after_state.Goals as goal

pub returns-then-is_in : goal.returns-then-is_in
returns-then-is_in c = λ t before is.
    let x = transfer_decoded c.args.state.now in
    let at = c.args.state.now.offset in
    subst (λ (n : ℕ). IsLastSource t c.args.row c.args.left.now (before ++ (at, Transfers x) ∷ []) (Some (record {
      source = source.Transfer n;
      since = since.Settled;
    })))
    (sym c.offset-at.ensures)
    (last_is_it c.args.row before at x t c.args.left.now (c.if-is_in.ensures.0 refl, refl))

pub returns : goal.returns
returns c = λ t before is.
    let x = transfer_decoded c.args.state.now in
    let at = c.args.state.now.offset in
    subst (IsLastSource t c.args.row c.args.left.now (before ++ (at, Transfers x) ∷ []))
    (ap (λ (n : ℕ). last_with (since_discarded (since.Discarded n)) c.args.last) (sym c.offset-at.ensures)
    ∙ sym c.last_after_discard.ensures)
    (last_kept c.args.row before at x t c.args.left.now c.args.last
    (λ has. false≢true (c.if-is_in.ensures.1 has)) is)
