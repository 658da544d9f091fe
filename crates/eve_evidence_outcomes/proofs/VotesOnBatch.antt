-- The votes on one batch in one view, one after another.
use Rattle.std.proofs.Common.{◌≡◌, ℕ, ◌+◌, ◌≤◌, true, false, List, [], ◌∷◌, length, drop, slice_get, Some, ap, ◌∙◌}
use Rattle.std.proofs.lemmas.List.{drop_all}
use Rattle.eve_grammar.specs.Trace.{Vote}
use Rattle.eve_grammar.proofs.Lists.{drop_here, filter_kept, filter_dropped}
use Rattle.eve_votes.specs.Votes.{is_vote_on}
use Rattle.eve_evidence_outcomes.specs.Polls.{votes_on}

module _ (n view : ℕ) (ws : List (ℕ × Vote)) (i : ℕ) where
  pub on_yes : (w : ℕ × Vote) → slice_get ws i ≡ Some w → is_vote_on n view w.1 ≡ true
      → votes_on n view (drop i ws) ≡ w ∷ votes_on n view (drop (i + 1) ws)
  on_yes w got on =
      ap (votes_on n view) (drop_here ws i w got)
      ∙ filter_kept (λ (z : ℕ × Vote). is_vote_on n view z.1) w (drop (i + 1) ws) on

  pub on_no : (w : ℕ × Vote) → slice_get ws i ≡ Some w → is_vote_on n view w.1 ≡ false
      → votes_on n view (drop i ws) ≡ votes_on n view (drop (i + 1) ws)
  on_no w got off =
      ap (votes_on n view) (drop_here ws i w got)
      ∙ filter_dropped (λ (z : ℕ × Vote). is_vote_on n view z.1) w (drop (i + 1) ws) off

  pub on_past : length ws ≤ i → votes_on n view (drop i ws) ≡ []
  on_past past = ap (votes_on n view) (drop_all i ws past)
