-- From what was found to the tally.
use Rattle.std.proofs.Common.{◌≡◌, ℕ, ◌+◌, ◌<◌, ◌≤◌, Bool, true, false, cond, List, [], ◌∷◌, ◌++◌, length, get_or}
use Rattle.std.proofs.Common.{filter, Option, Some, None, IfSome, IfNone, refl, sym, ap, subst, ◌∙◌, append_assoc}
use Rattle.std.proofs.Common.{arith, ◌⊎◌, inl, inr}
use Rattle.std.specs.Prelude.{◌==◌, ◌||◌, nat_lt, ◌↔◌, IsTrue, if◌then◌else◌}
use Rattle.std.specs.List.{list_any}
use Rattle.std.specs.Option.{option_map}
use Rattle.std.proofs.Math.Bool.{or-true}
use Rattle.std.proofs.lemmas.Bool.{ltb-true, ltb-false, cases_lt, and_parts, eqb-true}
use Rattle.std.proofs.lemmas.List.{get_or_past}
use Rattle.std.proofs.lemmas.List.Folds.{list_any-append}
use Rattle.eve_grammar.specs.Trace.{Vote, Trace}
use Rattle.eve_grammar.specs.Frames.{OfVote, OfVerifier}
use Rattle.eve_grammar.specs.Spelling.{votes_of, votes_at, frame_text, verifier_start}
use Rattle.eve_views.specs.Form.{IsUpTo, IsLeast, HasNone, IsFaultOutside, SomePlace}
use Rattle.eve_views.specs.First.{is_before, first_of}
use Rattle.eve_views.specs.declared.fault.Code.{Code}
use Rattle.eve_views.specs.declared.fault.Code.TheVariants as code
use Rattle.eve_views.specs.declared.fault.Fault.{Fault}
use Rattle.eve_votes.specs.Votes.{is_vote_on, IsDecided}
use Rattle.eve_views.proofs.Firsts.{before_precedes, behind_precedes, precedes-refl, up_to_from, first_of_two}
use Rattle.eve_votes.specs.Faults.{IsFurther, StandsInVotes, outside, AreVotesSound}
use Rattle.eve_views.specs.Least.{IsBelow}
use Rattle.eve_votes.specs.inner.Least.{IsBelowAll, IsLowest}
use Rattle.eve_votes.specs.Decisions.{decision_decoded, decision_on, IsKnown, AreDecisions}
use Rattle.eve_votes.specs.declared.decisions.Decision.{Decision}
use Rattle.eve_votes.proofs.Places.{located_values}
use Rattle.eve_votes.proofs.VoteOffsets.{votes_on}
use Rattle.eve_votes.proofs.DecisionLaws.{decision_at}

-- ---- the first fault

-- what comes no later than a fault comes no later than one of its code at a later offset
up_to_later : (f : Fault) (c : Code) (at b : ℕ) → IsUpTo f (outside c at) → at ≤ b → IsUpTo f (outside c b)
up_to_later f c at b (inl less) up = inl (omega (arith, less, up))
up_to_later f c at b (inr same) up = by_order (cases_lt at b)
  where
    by_order : (at < b) ⊎ (b ≤ at) → IsUpTo f (outside c b)
    by_order (inl less) = inl (omega (arith, same.0, less))
    by_order (inr past) = inr (omega (arith, same.0, up, past), same.1)

up_to_own : (c : Code) (at b : ℕ) → at ≤ b → IsUpTo (outside c at) (outside c b)
up_to_own c at b up = up_to_later f c at b (up_to_from f f refl (precedes-refl f)) up
  where
    f : Fault
    f = outside c at

least_fault : (t : Trace) (c : Code) (at : ℕ) → StandsInVotes c t at
    → ((b : ℕ) → StandsInVotes code.TwoVotes t b → IsUpTo (outside c at) (outside code.TwoVotes b))
    → ((b : ℕ) → StandsInVotes code.TwoDecisions t b → IsUpTo (outside c at) (outside code.TwoDecisions b))
    → IsLeast (IsFaultOutside StandsInVotes t) (outside c at)
least_fault t c at stands votes decisions = record {
  is = record { stands = stands; outside = refl };
  least = λ g fault. by g.code g.offset fault.stands;
}
  where
    by : (d : Code) (b : ℕ) → StandsInVotes d t b → IsUpTo (outside c at) (outside d b)
    by code.TwoVotes b s = votes b s
    by code.TwoDecisions b s = decisions b s
    by _ b s = absurd s

-- the first of further votes and of two decisions
abbrev pub first_of_both : Option ℕ → Option ℕ → Option Fault
first_of_both again apart = first_of (option_map (outside code.TwoVotes) again)
    (option_map (outside code.TwoDecisions) apart)

pub first_is_least : (t : Trace) (again apart : Option ℕ) → IsLowest (StandsInVotes code.TwoVotes t) again
    → IsLowest (StandsInVotes code.TwoDecisions t) apart
    → IfSome (first_of_both again apart) (IsLeast (IsFaultOutside StandsInVotes t))
first_is_least t None None votes decisions = tt
first_is_least t (Some a) None votes decisions = least_fault t code.TwoVotes a votes.stands
    (λ b s. up_to_own code.TwoVotes a b (votes.below b s)) (λ b s. absurd (decisions.below b s))
first_is_least t None (Some d) votes decisions = least_fault t code.TwoDecisions d decisions.stands
    (λ b s. absurd (votes.below b s)) (λ b s. up_to_own code.TwoDecisions d b (decisions.below b s))
first_is_least t (Some a) (Some d) votes decisions = by_test (is_before g f) refl
  where
    f : Fault
    f = outside code.TwoVotes a

    g : Fault
    g = outside code.TwoDecisions d

    by_test : (x : Bool) → is_before g f ≡ x
        → IfSome (if x then Some g else Some f) (IsLeast (IsFaultOutside StandsInVotes t))
    by_test true is = least_fault t code.TwoDecisions d decisions.stands
        (λ b s. up_to_later g code.TwoVotes a b (up_to_from g f refl (before_precedes g f is)) (votes.below b s))
        (λ b s. up_to_own code.TwoDecisions d b (decisions.below b s))
    by_test false is = least_fault t code.TwoVotes a votes.stands
        (λ b s. up_to_own code.TwoVotes a b (votes.below b s))
        (λ b s. up_to_later f code.TwoDecisions d b (up_to_from f g refl (behind_precedes g f is))
        (decisions.below b s))

-- where there is no first fault nothing was found
none_found : (again apart : Option ℕ) → first_of_both again apart ≡ None → (again ≡ None) × (apart ≡ None)
none_found None None e = (refl, refl)
none_found (Some a) None e = absurd cc
none_found None (Some d) e = absurd cc
none_found (Some a) (Some d) e =
    let two = first_of_two (outside code.TwoVotes a) (outside code.TwoDecisions d) in
    absurd (let clash = sym two.1 ∙ e in cc)

pub not_apart : (again apart : Option ℕ) (P : Type 0) → first_of_both again apart ≡ None → IfNone apart P → P
not_apart again apart P none given = at apart (none_found again apart none).1 given
  where
    at : (o : Option ℕ) → o ≡ None → IfNone o P → P
    at None e given = given
    at (Some x) e given = absurd cc

no_fault : (t : Trace) → ((b : ℕ) → StandsInVotes code.TwoVotes t b → ⊥)
    → ((b : ℕ) → StandsInVotes code.TwoDecisions t b → ⊥) → (c : Code) (b : ℕ) → StandsInVotes c t b → ⊥
no_fault t votes decisions code.TwoVotes b s = votes b s
no_fault t votes decisions code.TwoDecisions b s = decisions b s
no_fault t votes decisions _ b s = absurd s

none_below : (P : ℕ → Type 0) (least : Option ℕ) → least ≡ None → IsBelowAll P least → (b : ℕ) → P b → ⊥
none_below P least none all b p = (let below = subst (λ (o : Option ℕ). IsBelow o b) none (all b p) in absurd below)

pub none_stands : (t : Trace) (again apart : Option ℕ) → IsLowest (StandsInVotes code.TwoVotes t) again
    → IsLowest (StandsInVotes code.TwoDecisions t) apart → first_of_both again apart ≡ None
    → HasNone (IsFaultOutside StandsInVotes t)
none_stands t again apart votes decisions none f fault =
    let both = none_found again apart none in
    no_fault t (none_below (StandsInVotes code.TwoVotes t) again both.0 votes.below)
    (none_below (StandsInVotes code.TwoDecisions t) apart both.1 decisions.below) f.code f.offset fault.stands

-- ---- where each votes once

abbrev Further : List (ℕ × Vote) → Type 0
Further xs = (at : ℕ) × SomePlace xs (λ before w. (w.0 ≡ at) × IsFurther before w)

shifted : (before : List (ℕ × Vote)) (x : ℕ × Vote) (xs : List (ℕ × Vote)) → Further ((before ++ x ∷ []) ++ xs)
    → Further (before ++ x ∷ xs)
shifted before x xs f = (
  f.0,
  subst (λ (zs : List (ℕ × Vote)). SomePlace zs (λ before w. (w.0 ≡ f.0) × IsFurther before w))
      (append_assoc before (x ∷ []) xs)
      f.1,
)

-- an earlier vote, and one more
one_further : (n view : ℕ) (before xs : List (ℕ × Vote)) → list_any (λ u. is_vote_on n view u.1) before ≡ true
    → 1 ≤ length (votes_on n view xs) → Further (before ++ xs)
one_further n view before [] any some = absurd (omega arith)
one_further n view before (x ∷ xs) any some =
    by_test (is_vote_on n view x.1) refl some
    (λ more. shifted before x xs (one_further n view (before ++ x ∷ []) xs still more))
  where
    still : list_any (λ u. is_vote_on n view u.1) (before ++ x ∷ []) ≡ true
    still = list_any-append (λ u. is_vote_on n view u.1) before (x ∷ [])
        ∙ ap (λ (b : Bool). b || list_any (λ u. is_vote_on n view u.1) (x ∷ [])) any

    by_test : (b : Bool) → is_vote_on n view x.1 ≡ b
        → 1 ≤ length (cond b (x.1 ∷ votes_on n view xs) (votes_on n view xs))
        → (1 ≤ length (votes_on n view xs) → Further (before ++ x ∷ xs)) → Further (before ++ x ∷ xs)
    by_test true on more tail =
        let parts = and_parts (x.1.seq == n) (x.1.view == view) on in
        let here : IsFurther before x =
        subst (λ (s : ℕ). IsTrue (list_any (λ u. is_vote_on x.1.seq s u.1) before))
        (sym (eqb-true x.1.view view parts.1))
        (subst (λ (s : ℕ). IsTrue (list_any (λ u. is_vote_on s view u.1) before)) (sym (eqb-true x.1.seq n parts.0))
        any) in
        (x.0, record { before = before; item = x; rest = xs; is = refl; holds = (refl, here) })
    by_test false on more tail = tail more

two_further : (n view : ℕ) (before xs : List (ℕ × Vote)) → 2 ≤ length (votes_on n view xs) → Further (before ++ xs)
two_further n view before [] some = absurd (omega arith)
two_further n view before (x ∷ xs) some =
    by_test (is_vote_on n view x.1) refl some
    (λ more. shifted before x xs (two_further n view (before ++ x ∷ []) xs more))
  where
    by_test : (b : Bool) → is_vote_on n view x.1 ≡ b
        → 2 ≤ length (cond b (x.1 ∷ votes_on n view xs) (votes_on n view xs))
        → (2 ≤ length (votes_on n view xs) → Further (before ++ x ∷ xs)) → Further (before ++ x ∷ xs)
    by_test true on more tail =
        let last : list_any (λ u. is_vote_on n view u.1) (x ∷ []) ≡ true = ap (λ (b : Bool). b || false) on in
        let still : list_any (λ u. is_vote_on n view u.1) (before ++ x ∷ []) ≡ true =
        list_any-append (λ u. is_vote_on n view u.1) before (x ∷ [])
        ∙ ap (λ (b : Bool). list_any (λ u. is_vote_on n view u.1) before || b) last
        ∙ or-true (list_any (λ u. is_vote_on n view u.1) before) in
        shifted before x xs (one_further n view (before ++ x ∷ []) xs still (omega arith))
    by_test false on more tail = tail more

pub votes_once : (t : Trace) → ((b : ℕ) → StandsInVotes code.TwoVotes t b → ⊥) → (v n view : ℕ)
    → length (filter (is_vote_on n view) (votes_of t v)) ≤ 1
unfolding votes_at
votes_once t none v n view = by_order (cases_lt 1 (length (filter (is_vote_on n view) (votes_of t v))))
  where
    by_order : (1 < length (filter (is_vote_on n view) (votes_of t v)))
        ⊎ (length (filter (is_vote_on n view) (votes_of t v)) ≤ 1)
        → length (filter (is_vote_on n view) (votes_of t v)) ≤ 1
    by_order (inr few) = few
    by_order (inl many) =
        let same = located_values (λ w. frame_text (OfVote w)) (verifier_start t v + length (frame_text (OfVerifier v)))
        (votes_of t v) in
        let two : 2 ≤ length (votes_on n view (votes_at t v)) =
        subst (λ (ws : List Vote). 2 ≤ length (filter (is_vote_on n view) ws)) (sym same) (omega arith) in
        let further = two_further n view [] (votes_at t v) two in
        absurd (none further.0 (v, further.1))

pub votes_sound : (t : Trace) (ds : List (Option Decision)) (again apart : Option ℕ)
    → IsLowest (StandsInVotes code.TwoVotes t) again → first_of_both again apart ≡ None
    → AreDecisions t ds → AreVotesSound t
votes_sound t ds again apart votes none are =
    let both = none_found again apart none in
    record {
      once = votes_once t (none_below (StandsInVotes code.TwoVotes t) again both.0 votes.below);
      one_view = λ n view other token other_token d e. ap view_of
          (sym (are.all n view token d) ∙ are.all n other other_token e);
      one_token = λ n view other token other_token d e. ap token_in
          (sym (are.all n view token d) ∙ are.all n other other_token e);
    }
  where
    view_of : Option (ℕ × List ℕ) → ℕ
    view_of None = 0
    view_of (Some d) = d.0

    token_in : Option (ℕ × List ℕ) → List ℕ
    token_in None = []
    token_in (Some d) = d.1

-- ---- what is decided

pub decided_is : (t : Trace) (ds : List (Option Decision)) (n : ℕ) (x : Option (ℕ × List ℕ)) → AreDecisions t ds
    → decision_on ds n ≡ x → (view : ℕ) (token : List ℕ) → IsDecided t n view token ↔ (x ≡ Some (view, token))
decided_is t ds n x are is view token = (
  λ decided. sym is ∙ are.all n view token decided,
  λ e. (let known : IsKnown t n (view, token) = subst (λ (o : Option (ℕ × List ℕ)). IfSome o (IsKnown t n)) (is ∙ e)
      (are.known n) in known.decided),
)

pub decision_past : (ds : List (Option Decision)) (n : ℕ) → nat_lt n (length ds) ≡ false → decision_on ds n ≡ None
unfolding decision_on
decision_past ds n past = ap (option_map decision_decoded) (get_or_past ds n None (ltb-false n (length ds) past))

pub decision_of : (ds : List (Option Decision)) (n : ℕ) (x : Option Decision) → nat_lt n (length ds) ≡ true
    → x ≡ get_or ds n x → decision_on ds n ≡ option_map decision_decoded x
decision_of ds n x there read = decision_at ds n x (ltb-true n (length ds) there) read

pub token_size : (t : Trace) (ds : List (Option Decision)) (n : ℕ) (d : ℕ × List ℕ) → AreDecisions t ds
    → decision_on ds n ≡ Some d → length d.1 ≡ 32
token_size t ds n d are is =
    (let known : IsKnown t n d = subst (λ (o : Option (ℕ × List ℕ)). IfSome o (IsKnown t n)) is (are.known n) in
    known.token)
