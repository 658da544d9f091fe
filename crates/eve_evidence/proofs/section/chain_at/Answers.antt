use Rattle.std.proofs.Common.{◌≡◌, ℕ, sym, subst, ◌∙◌}
use Rattle.std.proofs.lemmas.Option.{same_Some}
use Rattle.eve_grammar.specs.Trace.{Access}
use Rattle.eve_frames.specs.Decoded.{access_decoded}
use Rattle.eve_views.specs.Form.{SomePlace}
use Rattle.eve_chains.specs.Visible.{visible_to}
use Rattle.eve_chains.specs.Along.{SeesAnother}
use Rattle.eve_evidence.specs.Told.{placed_in}
use Rattle.eve_evidence.proofs.Lists.{no_place_of_all}
use Rattle.eve_evidence.proofs.section.chain_at.Goals as goal

pub returns-in_default-clause-none : goal.returns-in_default-clause-none
returns-in_default-clause-none c = λ x got s a is decoded xs.
    let y : ℕ × Access = (c.get-access.result.offset, access_decoded c.get-access.result) in
    let same : y ≡ x = same_Some y x (sym c.get-access.ensures.says ∙ got) in
    subst (λ (z : ℕ × Access). ¬ SomePlace z.1.entries (λ _ e. SeesAnother c.args.code
    (visible_to c.args.site.trace.now (placed_in s c.args.site.attempt.now.offset a) z.1.index e.row) e)) same
    (no_place_of_all (λ e. SeesAnother c.args.code
    (visible_to c.args.site.trace.now (placed_in s c.args.site.attempt.now.offset a) y.1.index e.row) e) y.1.entries
    (c.in_default.ensures.none s a is decoded xs))
