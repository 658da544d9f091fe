use Rattle.std.proofs.Common.{ℕ, [], ◌∷◌, ◌++◌, None, Some, sym, subst}
use Rattle.eve_grammar.specs.Trace.{Transfers}
use Rattle.eve_frames.specs.Decoded.{transfer_decoded}
use Rattle.eve_evidence.specs.inner.LastSource.{IsPrefix}
use Rattle.eve_evidence.proofs.LastSources.{prefix_state}
use Rattle.eve_evidence.proofs.prefix.after_state.Goals as goal

pub returns : goal.returns
returns c = λ t before is.
    let x = transfer_decoded c.args.state.now in
    let at = c.args.state.now.offset in
    subst (λ (n : ℕ). IsPrefix t c.args.row c.args.left.now (before ++ (at, Transfers x) ∷ []) (record {
      pending = 0;
      base = Some n;
      restored = None;
      last = c.last_after_state.result;
    }))
    (sym c.offset.ensures)
    (prefix_state c.args.row before at x t c.args.left.now c.last_after_state.result
    (c.last_after_state.ensures t before is.last_is))
