-- Whether a verifier's only vote is for this.
use Rattle.std.proofs.Common.{◌≡◌, ℕ, ◌+◌, ◌<◌, Bool, true, false, List, [], ◌∷◌, length, take, filter, count_by, Some}
use Rattle.std.proofs.Common.{refl, sym, ap, ◌∙◌}
use Rattle.std.specs.Prelude.{slice_get}
use Rattle.std.proofs.lemmas.List.Sums.{count_by_more_yes, count_by_more_no}
use Rattle.eve_grammar.specs.Trace.{Choice, Vote, Trace}
use Rattle.eve_grammar.specs.Spelling.{votes_of}
use Rattle.eve_votes.specs.Votes.{same_choice, is_vote_on, is_only}
use Rattle.eve_votes.specs.Ballots.{IsStart, IsOnly, HasCast}
use Rattle.eve_votes.specs.declared.ballots.Ballot.{Ballot}
use Rattle.eve_votes.proofs.VoteOrder.{at, Alike, none_among}

only_none : (c : Choice) (ws : List Vote) → ((w : Vote) → ws ≡ w ∷ [] → ⊥) → is_only c ws ≡ false
only_none c [] lone = refl
only_none c (w ∷ []) lone = absurd (lone w refl)
only_none c (w ∷ x ∷ ws) lone = refl

abbrev pub backs : ℕ → ℕ → Choice → List Vote → Bool
backs n view c votes = is_only c (filter (is_vote_on n view) votes)

-- the verifier's only vote is here
pub backs_here : (t : Trace) (n view v : ℕ) (c : Choice) (b : Ballot) (w : Vote) → IsOnly t b →
    Alike b (at n view v) → slice_get (votes_of t b.verifier) b.place ≡ Some w
    → backs n view c (votes_of t v) ≡ same_choice w.choice c
backs_here t n view v c b w only alike got =
    let is : Some only.vote ≡ Some w = sym only.there ∙ got in
    let same : only.vote ≡ w = cc in
    (λ k. is_only c (filter (is_vote_on (sym alike.seq k) (sym alike.view k)) (votes_of t (sym alike.verifier k))))
    ∙ ap (is_only c) only.only ∙ ap (λ (x : Vote). same_choice x.choice c) same

-- it isn't, so there is none
pub backs_nowhere : (t : Trace) (xs : List Ballot) (s n view v : ℕ) (c : Choice) → HasCast t xs → IsStart xs s n view v
    → ((b : Ballot) → slice_get xs s ≡ Some b → Alike b (at n view v) → ⊥) → backs n view c (votes_of t v) ≡ false
backs_nowhere t xs s n view v c cast start none =
    only_none c (filter (is_vote_on n view) (votes_of t v)) (λ w is.
    (let found = cast.all n view v w is in
    none_among xs cast.order s n view v start none found.0 found.1 found.2
    (record { seq = found.3; view = found.4; verifier = found.5 })))

pub one_more : (t : Trace) (n view v : ℕ) (c : Choice) → v < length t.verifiers → backs n view c (votes_of t v) ≡ true
    → count_by (backs n view c) (take (v + 1) t.verifiers) ≡ count_by (backs n view c) (take v t.verifiers) + 1
one_more t n view v c there is = count_by_more_yes (backs n view c) t.verifiers v [] there is

pub none_more : (t : Trace) (n view v : ℕ) (c : Choice) → v < length t.verifiers → backs n view c (votes_of t v) ≡ false
    → count_by (backs n view c) (take (v + 1) t.verifiers) ≡ count_by (backs n view c) (take v t.verifiers)
none_more t n view v c there not = count_by_more_no (backs n view c) t.verifiers v [] there not
