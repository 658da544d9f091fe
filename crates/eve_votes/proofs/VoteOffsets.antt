-- Votes with offsets.
use Rattle.std.proofs.Common.{◌≡◌, ℕ, ◌+◌, ◌≤◌, List, [], map, filter, length}
use Rattle.std.proofs.Common.{sym, ap, ◌∙◌}
use Rattle.std.specs.Prelude.{slice_get}
use Rattle.std.proofs.lemmas.List.{get_or_past}
use Rattle.eve_grammar.specs.Trace.{Vote, Trace}
use Rattle.eve_grammar.specs.Frames.{OfVote, OfVerifier}
use Rattle.eve_grammar.specs.Spelling.{votes_of, votes_at, located, frame_text, verifier_start}
use Rattle.eve_votes.specs.Votes.{is_vote_on}
use Rattle.eve_votes.proofs.Places.{get_place}
use Rattle.eve_votes.specs.Faults.{IsFurther}
use Rattle.eve_views.specs.Form.{SomePlace}

-- the votes on a batch in a view among votes with offsets
abbrev pub votes_on : ℕ → ℕ → List (ℕ × Vote) → List Vote
votes_on n view xs = filter (is_vote_on n view) (map (λ x. x.1) xs)

-- ---- verifiers

-- after the last verifier there are no votes
pub none_behind : (t : Trace) (v at : ℕ) → length t.verifiers ≤ v
    → SomePlace (votes_at t v) (λ before w. (w.0 ≡ at) × IsFurther before w) → ⊥
unfolding votes_at
none_behind t v at past s =
    let none : votes_of t v ≡ [] = get_or_past t.verifiers v [] past in
    let found = get_place (votes_at t v) s in
    let empty : votes_at t v ≡ [] =
    ap (located (λ w. frame_text (OfVote w)) (verifier_start t v + length (frame_text (OfVerifier v)))) none in
    let gone = ap (λ (xs : List (ℕ × Vote)). slice_get xs (length s.before)) empty in
    absurd (let e = sym found ∙ gone in cc)
