use Rattle.std.proofs.Common.{◌≡◌, ◌==◌, false, List, ℕ, if◌then◌else◌, sym, ap, ◌∙◌, inl, inr}
use Rattle.std.proofs.lemmas.Bool.Decides.{eqb_tells}
use Rattle.eve_token.specs.Token.{flat_token, token_from_root, rows_root, token_of}
use Rattle.eve_agree.specs.inner.HashedRows.{balances_in}
use Rattle.eve_agree.specs.declared.hashed_rows.HashedRows.{HashedRows}
use Rattle.eve_agree.proofs.hashed_rows.HashedRows.token.Goals as goal

not_first : (version : ℕ) → (version ≡ 1 → ⊥) → (version == 1) ≡ false
not_first version other = elim (eqb_tells version 1) [ inl first ↦ absurd (other first.1) | inr off ↦ off.0 ]

pub returns-clause-token : goal.returns-clause-token
unfolding token_of
returns-clause-token c replies is =
    let b = balances_in c.args.self.now in
    c.token_of_root_and_spelled.ensures replies is
    ∙ ap (λ (root : List ℕ). token_from_root c.args.seq root replies) c.root.ensures.root
    ∙ ap (λ (rows : HashedRows). token_from_root c.args.seq (rows_root (balances_in rows)) replies) (sym c.in-Tree.is)
    ∙ (λ i. if sym (not_first c.args.version c.if-version-eq1.false) i then flat_token c.args.seq b replies
    else token_from_root c.args.seq (rows_root b) replies)
