-- The token that leads, vote by vote.
use Rattle.std.proofs.Common.{◌≡◌, ◌≢◌, ℕ, ◌+◌, ◌*◌, ◌<◌, ◌≤◌, Bool, true, false, List, length, take, count_by}
use Rattle.std.proofs.Common.{refl, sym, subst, ◌∙◌, arith}
use Rattle.std.specs.Prelude.{◌==◌}
use Rattle.std.specs.Cmp.Lexicographic.{pointwise, same_text, other_text}
use Rattle.std.proofs.lemmas.List.{take_all}
use Rattle.eve_grammar.specs.Trace.{ForCommit, Vote, Trace}
use Rattle.eve_grammar.specs.Spelling.{votes_of}
use Rattle.eve_votes.specs.Votes.{same_choice, backers}
use Rattle.eve_votes.specs.inner.Majority.{HasLead, IsOneMore}
use Rattle.eve_votes.specs.declared.majority.Lead.{Lead}
use Rattle.eve_votes.proofs.OnlyVotes.{backs, one_more, none_more}

-- how many of the first verifiers vote for a token
abbrev pub votes_before : Trace → ℕ → ℕ → ℕ → List ℕ → ℕ
votes_before t n view v token = count_by (backs n view (ForCommit token)) (take v t.verifiers)

pub start_leads : (t : Trace) (n view : ℕ) (lead : Lead) → lead.by ≡ 0 → HasLead (votes_before t n view 0) 0 lead
start_leads t n view lead none = record { low = omega arith; this = omega arith; others = λ token apart. omega arith }

-- the next verifier votes for no token
pub still_leads : (t : Trace) (n view v : ℕ) (lead : Lead) → v < length t.verifiers
    → ((token : List ℕ) → backs n view (ForCommit token) (votes_of t v) ≡ false)
    → HasLead (votes_before t n view v) v lead → HasLead (votes_before t n view (v + 1)) (v + 1) lead
still_leads t n view v lead there none leads = record {
  low = omega (arith, leads.low);
  this = omega (
    arith,
    leads.this,
    none_more t n view v (ForCommit lead.token.now) there (none lead.token.now),
  );
  others = λ token apart. omega (
    arith,
    leads.others token apart,
    none_more t n view v (ForCommit token) there (none token),
  );
}

same_commit : (token : List ℕ) → same_choice (ForCommit token) (ForCommit token) ≡ true
same_commit token = by (pointwise ◌==◌ token token) refl
  where
    by : (t : Bool) → pointwise ◌==◌ token token ≡ t → t ≡ true
    by true e = refl
    by false e = absurd (other_text token token (sym e) refl)

other_commit : (token other : List ℕ) → other ≢ token → same_choice (ForCommit token) (ForCommit other) ≡ false
other_commit token other apart = by (pointwise ◌==◌ token other) refl
  where
    by : (t : Bool) → pointwise ◌==◌ token other ≡ t → t ≡ false
    by true e = absurd (apart (sym (same_text token other (sym e))))
    by false e = refl

-- the next verifier votes for this token
pub one_more_for : (t : Trace) (n view v : ℕ) (token : List ℕ) → v < length t.verifiers
    → ((other : List ℕ) → backs n view (ForCommit other) (votes_of t v)
    ≡ same_choice (ForCommit token) (ForCommit other))
    → IsOneMore (votes_before t n view v) (votes_before t n view (v + 1)) token
one_more_for t n view v token there is = record {
  this = one_more t n view v (ForCommit token) there (is token ∙ same_commit token);
  others = λ other apart. none_more t n view v (ForCommit other) there (is other ∙ other_commit token other apart);
}

-- all have voted
pub all_lead : (t : Trace) (n view v : ℕ) (lead : Lead) → length t.verifiers ≡ v
    → HasLead (votes_before t n view v) v lead
    → HasLead (λ token. backers t n view (ForCommit token)) (length t.verifiers) lead
all_lead t n view v lead many leads =
    subst (λ (voters : List (List Vote)). HasLead (λ token. count_by (backs n view (ForCommit token)) voters)
    (length t.verifiers) lead) (take_all v t.verifiers (omega arith))
    (subst (λ (k : ℕ). HasLead (votes_before t n view v) k lead) (sym many) leads)

-- what has a quorum leads
pub quorum_leads : (votes : List ℕ → ℕ) (voters quorum : ℕ) (lead : Lead) → HasLead votes voters lead
    → voters < 2 * quorum → (token : List ℕ) → quorum ≤ votes token → (token ≡ lead.token.now) × (1 ≤ lead.by)
quorum_leads votes voters quorum lead leads most token many = by (pointwise ◌==◌ token lead.token.now) refl
  where
    by : (t : Bool) → pointwise ◌==◌ token lead.token.now ≡ t → (token ≡ lead.token.now) × (1 ≤ lead.by)
    by true e =
        let same = same_text token lead.token.now (sym e) in
        let enough : quorum ≤ votes lead.token.now = subst (λ (x : List ℕ). quorum ≤ votes x) same many in
        (same, omega (arith, leads.this, enough, most))
    by false e =
        absurd (omega (arith, leads.others token (λ same. other_text token lead.token.now (sym e) same), many, most))
