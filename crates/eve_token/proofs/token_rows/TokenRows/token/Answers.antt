use Rattle.std.proofs.Common.{◌∙◌, ap, sym, List, ℕ}
use Rattle.eve_token.specs.declared.token_rows.Kept.{Kept}
use Rattle.eve_token.specs.Token.{token_of, token_from_root}
use Rattle.eve_token.specs.TokenRows.{TokenRows}
use Rattle.eve_token.specs.HeldBalances.{token_rows_of}
use Rattle.eve_token.proofs.token_rows.TokenRows.token.Goals as goal
use Rattle.eve_token.proofs.token_rows.TokenRows.token.Goals.{in-Flat, in-Tree}

pub returns-clause-token : goal.returns-clause-token
unfolding token_of
returns-clause-token c = elim c.match-self.branch [
  | in-Flat w ↦ w.result-is ∙ w.hash_flat.ensures
      ∙ ap (λ (k : Kept). token_of (token_rows_of k).version c.args.seq (token_rows_of k).balances c.args.replies.now)
      (sym w.in-Flat.is)
      ∙ ap (λ (t : TokenRows). token_of t.version c.args.seq t.balances c.args.replies.now) c.self.view_is
  | in-Tree w ↦ w.result-is ∙ w.token_of.ensures
      ∙ ap (λ (root : List ℕ). token_from_root c.args.seq root c.args.replies.now) w.root.ensures.root
      ∙ ap (λ (k : Kept). token_of (token_rows_of k).version c.args.seq (token_rows_of k).balances c.args.replies.now)
      (sym w.in-Tree.is)
      ∙ ap (λ (t : TokenRows). token_of t.version c.args.seq t.balances c.args.replies.now) c.self.view_is
]
