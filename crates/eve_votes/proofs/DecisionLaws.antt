-- Public: other crates cite these lemmas. What was decided, batch by batch and view by view.
use Rattle.std.proofs.Common.{◌≡◌, ◌≢◌, ℕ, ◌+◌, ◌-◌, ◌*◌, ◌<◌, ◌≤◌, Bool, true, false, filter}
use Rattle.std.proofs.Common.{List, [], ◌∷◌, length, get_or, set}
use Rattle.std.proofs.Common.{Option, Some, None, is_some, IfSome, IfNone, refl, sym, ap, subst, ◌∙◌, arith, ◌⊎◌, inl}
use Rattle.std.proofs.Common.{inr}
use Rattle.std.specs.Prelude.{◌==◌, ◌&&◌, slice_get, IsTrue, nat_le}
use Rattle.std.specs.List.{All, list_all}
use Rattle.std.specs.Option.{option_map}
use Rattle.std.proofs.lemmas.Bool.{and_parts, leb-true, eqb-true, cases_eq, cases_lt, false≢true}
use Rattle.std.proofs.lemmas.List.{get_or-set_same, get_or-set_other, get_or_read, length-set, get_or_past}
use Rattle.std.proofs.lemmas.Option.{slice_get_within, slice_get-get_or}
use Rattle.eve_grammar.specs.Trace.{Choice, ForCommit, Vote, Batch, Trace, head_of}
use Rattle.eve_grammar.specs.Frames.{OfVote, OfVerifier}
use Rattle.eve_grammar.specs.Spelling.{votes_of, votes_at, batches_at, batches_start, batch_text, frame_text}
use Rattle.eve_grammar.specs.Spelling.{verifier_start}
use Rattle.eve_grammar.specs.Limits.{HasLimits, is_vote, is_between, is_number, is_choice, is_token}
use Rattle.eve_views.specs.declared.fault.Code.TheVariants as code
use Rattle.eve_votes.specs.Votes.{is_vote_on, is_only, IsDecided}
use Rattle.eve_votes.specs.Faults.{HasTwoDecisions, StandsInVotes}
use Rattle.eve_views.specs.Least.{lower, IsBelow, Lowers}
use Rattle.eve_votes.specs.inner.Least.{IsBelowAll}
use Rattle.eve_votes.specs.Ballots.{IsStart, Continues, IsAmong, HasCast}
use Rattle.eve_votes.specs.declared.ballots.Ballot.{Ballot}
use Rattle.eve_votes.specs.Decisions.{decision_decoded, decision_on, IsKnown, Judging, IsUnnoted, Notes, IsBatchAt}
use Rattle.eve_votes.specs.Decisions.{IsClash}
use Rattle.eve_votes.specs.Decisions.{IsFound, Agrees, AreDecisions}
use Rattle.eve_votes.specs.declared.decisions.Decision.{Decision}
use Rattle.eve_votes.proofs.Places.{place_at, get_place, numbered}
use Rattle.eve_votes.proofs.VoteOrder.{fellow_is}
use Rattle.eve_views.proofs.LeastNumbers.{lower_at, lower_stands}
use Rattle.eve_votes.proofs.Backers.{counted, decided_backs, one_token}
use Rattle.eve_grammar.proofs.GroupOrder.{all_at}
use Rattle.eve_grammar.proofs.HeadLimits.{head_has_limits}
use Rattle.eve_views.proofs.FrameOffsets.{length-located, located_get}

-- ---- the votes of a trace

pub vote_got : (t : Trace) (v i o : ℕ) (w : Vote) → slice_get (votes_at t v) i ≡ Some (o, w)
    → slice_get (votes_of t v) i ≡ Some w
unfolding votes_at
vote_got t v i o w got = located_get (λ w. frame_text (OfVote w))
    (verifier_start t v + length (frame_text (OfVerifier v))) (votes_of t v) i (o, w) got

pub vote_count : (t : Trace) (v : ℕ) → length (votes_at t v) ≡ length (votes_of t v)
unfolding votes_at
vote_count t v = length-located (λ w. frame_text (OfVote w)) (verifier_start t v + length (frame_text (OfVerifier v)))
    (votes_of t v)

-- a vote within the limits: its batch is there, and a commit's token has 32 bytes
pub record IsRight (n : ℕ) (w : Vote) : Type 0 where
  pub low : 1 ≤ w.seq
  pub high : w.seq ≤ n
  pub token : (token : List ℕ) → w.choice ≡ ForCommit token → length token ≡ 32

pub right_vote : (n : ℕ) (w : Vote) → IsTrue (is_vote n w) → IsRight n w
right_vote n w right =
    let parts = and_parts (is_between 1 n w.seq) (is_number 4 w.view && is_choice w.choice) right in
    let between = and_parts (nat_le 1 w.seq) (nat_le w.seq n) parts.0 in
    let inner = and_parts (is_number 4 w.view) (is_choice w.choice) parts.1 in
    record {
      low = leb-true 1 w.seq between.0;
      high = leb-true w.seq n between.1;
      token = λ token e.
          let test : is_token token ≡ true = sym (ap is_choice e) ∙ inner.1 in
          let sizes = and_parts (length token == 32) (list_all (is_number 1) token) test in
          eqb-true (length token) 32 sizes.0;
    }

-- ---- batches by number

pub batch_at : (t : Trace) (n offset : ℕ) (b : ℕ × Batch) → 1 ≤ n → slice_get (batches_at t) (n - 1) ≡ Some (offset, b)
    → b.0 ≡ n
unfolding batches_at
batch_at t n offset b low got =
    (let number = numbered batch_text (batches_start t) 1 t.batches (n - 1) (offset, b) got in omega arith)

pub batch_offset : (t : Trace) (n offset : ℕ) (b : ℕ × Batch) (at : ℕ) → 1 ≤ n → slice_get (batches_at t) (n - 1)
    ≡ Some (offset, b) → IsBatchAt t n at → at ≡ offset
unfolding batches_at
batch_offset t n offset b at low got s =
    let found = get_place (batches_at t) s in
    let number = numbered batch_text (batches_start t) 1 t.batches (length s.before) s.item found in
    let place : length s.before ≡ n - 1 = (let is = s.holds.1 in omega arith) in
    let same : Some s.item ≡ Some (offset, b) = sym found ∙ ap (slice_get (batches_at t)) place ∙ got in
    sym s.holds.0 ∙ (let first = ap (option_map (λ (x : ℕ × (ℕ × Batch)). x.0)) same in cc)

-- two decisions stand at the batch
pub decisions_stand : (t : Trace) (n offset : ℕ) (b : ℕ × Batch) → 1 ≤ n → slice_get (batches_at t) (n - 1)
    ≡ Some (offset, b) → HasTwoDecisions t n → StandsInVotes code.TwoDecisions t offset
decisions_stand t n offset b low got two =
    place_at (λ _ x. (x.0 ≡ offset) × HasTwoDecisions t x.1.0) (batches_at t) (n - 1) (offset, b) got
    (refl, subst (HasTwoDecisions t) (sym (batch_at t n offset b low got)) two)

-- ---- the table

abbrev Table : Type 0
Table = List (Option Decision)

pub decision_at : (ds : Table) (n : ℕ) (x : Option Decision) → n < length ds → x ≡ get_or ds n x → decision_on ds n
    ≡ option_map decision_decoded x
unfolding decision_on
decision_at ds n x there read = ap (option_map decision_decoded) (sym (get_or_read ds n x there read None))

pub decision_set_here : (ds : Table) (n : ℕ) (d : Decision) → n < length ds → decision_on (set ds n (Some d)) n
    ≡ Some (decision_decoded d)
unfolding decision_on
decision_set_here ds n d there = ap (option_map decision_decoded) (get_or-set_same ds n (Some d) None there)

pub decision_set_other : (ds : Table) (n m : ℕ) (d : Decision) → m ≢ n → decision_on (set ds n (Some d)) m
    ≡ decision_on ds m
unfolding decision_on
decision_set_other ds n m d apart = ap (option_map decision_decoded) (get_or-set_other ds n m (Some d) None apart)

-- ---- a decision that is noted

-- one is known
pub known_at : (ds : Table) (n : ℕ) (x : Option Decision) → n < length ds → x ≡ get_or ds n x → is_some x ≡ true
    → (known : ℕ × List ℕ) × (decision_on ds n ≡ Some known)
known_at ds n None there read some = absurd (false≢true some)
known_at ds n (Some known) there read some = (decision_decoded known, decision_at ds n (Some known) there read)

-- it is of another view
pub clash_judging : (t : Trace) (ds : Table) (least : Option ℕ) (n view offset : ℕ) (token : List ℕ) (b : ℕ × Batch)
    (known : ℕ × List ℕ) → decision_on ds n ≡ Some known → IsUnnoted ds n view → IsDecided t n view token → 1 ≤ n
    → slice_get (batches_at t) (n - 1) ≡ Some (offset, b) → Judging t ds least → Judging t ds (lower least offset)
clash_judging t ds least n view offset token b known is unnoted decided low got judging =
    let earlier : IsKnown t n known = subst (λ (o : Option (ℕ × List ℕ)). IfSome o (IsKnown t n)) is (judging.known n)
    in
    let two : HasTwoDecisions t n = (known.0, view, known.1, token, unnoted known is, earlier.decided, decided) in
    record {
      long = judging.long;
      known = judging.known;
      stands = lower_stands (StandsInVotes code.TwoDecisions t) least offset judging.stands
          (decisions_stand t n offset b low got two);
    }

pub found_clash : (t : Trace) (ds : Table) (least : Option ℕ) (n view offset : ℕ) (b : ℕ × Batch) (known : ℕ × List ℕ)
    → decision_on ds n ≡ Some known → 1 ≤ n → slice_get (batches_at t) (n - 1) ≡ Some (offset, b)
    → IsFound t ds (lower least offset) n view
found_clash t ds least n view offset b known is low got =
    let clash : IsClash t n (lower least offset) = record {
      offset = offset;
      only = λ at s. batch_offset t n offset b at low got s;
      below = lower_at least offset;
    } in
    record { found = known; is = is; same = inr clash }

pub none_noted : (ds : Table) (n view : ℕ) → Notes ds ds n view
none_noted ds n view = record { keeps = λ m d is. is; adds = λ m d is. inl is }

-- nothing is known yet
pub first_judging : (t : Trace) (ds : Table) (least : Option ℕ) (n : ℕ) (d : Decision) → n < length ds
    → IsDecided t n d.view d.token.now → length d.token.now ≡ 32 → Judging t ds least
    → Judging t (set ds n (Some d)) least
first_judging t ds least n d there decided size judging = record {
  long = length-set ds n (Some d) ∙ judging.long;
  known = λ m. at_number m (cases_eq m n);
  stands = judging.stands;
}
  where
    here : IsKnown t n (decision_decoded d)
    here = record { decided = decided; token = size }

    at_number : (m : ℕ) → (m ≡ n) ⊎ (m ≡ n → ⊥) → IfSome (decision_on (set ds n (Some d)) m) (IsKnown t m)
    at_number m (inl e) = subst (λ (k : ℕ). IfSome (decision_on (set ds n (Some d)) k) (IsKnown t k)) (sym e)
        (subst (λ (o : Option (ℕ × List ℕ)). IfSome o (IsKnown t n)) (sym (decision_set_here ds n d there)) here)
    at_number m (inr apart) = subst (λ (o : Option (ℕ × List ℕ)). IfSome o (IsKnown t m))
        (sym (decision_set_other ds n m d apart)) (judging.known m)

pub first_noted : (ds : Table) (n : ℕ) (d : Decision) (x : Option Decision) → n < length ds → x ≡ get_or ds n x
    → is_some x ≡ false → Notes ds (set ds n (Some d)) n d.view
first_noted ds n d x there read none = record {
  keeps = λ m y is. kept m y is (cases_eq m n);
  adds = λ m y is. added m y is (cases_eq m n);
}
  where
    nothing : (o : Option Decision) → is_some o ≡ false → option_map decision_decoded o ≡ None
    nothing None e = refl
    nothing (Some z) e = absurd cc

    kept : (m : ℕ) (y : ℕ × List ℕ) → decision_on ds m ≡ Some y → (m ≡ n) ⊎ (m ≡ n → ⊥)
        → decision_on (set ds n (Some d)) m ≡ Some y
    kept m y is (inl e) =
        let none_there : decision_on ds m ≡ None = ap (decision_on ds) e ∙ decision_at ds n x there read
        ∙ nothing x none in
        absurd (let clash = sym is ∙ none_there in cc)
    kept m y is (inr apart) = decision_set_other ds n m d apart ∙ is

    added : (m : ℕ) (y : ℕ × List ℕ) → decision_on (set ds n (Some d)) m ≡ Some y → (m ≡ n) ⊎ (m ≡ n → ⊥)
        → (decision_on ds m ≡ Some y) ⊎ ((m ≡ n) × (y.0 ≡ d.view))
    added m y is (inl e) =
        let noted = ap (decision_on (set ds n (Some d))) e ∙ decision_set_here ds n d there in
        let here : Some (decision_decoded d) ≡ Some y = sym noted ∙ is in
        inr (e, view_of here)
      where
        view_of : Some (decision_decoded d) ≡ Some y → y.0 ≡ d.view
        view_of same = (let equal : y ≡ decision_decoded d = cc in ap (λ (z : ℕ × List ℕ). z.0) equal)
    added m y is (inr apart) = inl (sym (decision_set_other ds n m d apart) ∙ is)

pub found_first : (t : Trace) (ds : Table) (least : Option ℕ) (n : ℕ) (d : Decision) → n < length ds
    → IsFound t (set ds n (Some d)) least n d.view
found_first t ds least n d there = record {
  found = decision_decoded d;
  is = decision_set_here ds n d there;
  same = inl refl;
}

-- ---- further on

-- what was found stays so
found_later : (t : Trace) (ds es : Table) (least now : Option ℕ) (m u n view : ℕ) → Notes ds es m u
    → Lowers least now → IsFound t ds least n view → IsFound t es now n view
found_later t ds es least now m u n view notes lowers found = record {
  found = found.found;
  is = notes.keeps n found.found found.is;
  same = elim found.same [
    | inl same ↦ inl same
    | inr clash
        ↦ inr (record { offset = clash.offset; only = clash.only; below = lowers clash.offset clash.below })
  ];
}

-- a vote on the batch in this view stands before this place
pub record IsVotedOnBefore (xs : List Ballot) (i n u : ℕ) : Type 0 where
  pub place : ℕ
  pub vote : Ballot
  pub early : place < i
  pub there : slice_get xs place ≡ Some vote
  pub seq : vote.seq ≡ n
  pub view : vote.view ≡ u

-- the votes before this place agree, and what was found was found at them
pub record AreJudged (t : Trace) (xs : List Ballot) (i : ℕ) (ds : Table) (least : Option ℕ) : Type 0 where
  pub agree : (j : ℕ) (b : Ballot) → j < i → slice_get xs j ≡ Some b → Agrees t ds least b.seq b.view
  pub found : (n : ℕ) (d : ℕ × List ℕ) → decision_on ds n ≡ Some d → IsVotedOnBefore xs i n d.0

-- those of a batch in a view begin at this place, so nothing was found of it before
pub unnoted_there : (t : Trace) (xs : List Ballot) (i n view : ℕ) (ds : Table) (least : Option ℕ)
    → IsStart xs i n view 0 → AreJudged t xs i ds least → IsUnnoted ds n view
unnoted_there t xs i n view ds least start judged d is same =
    let at = judged.found n d is in
    let before = start.before at.place at.vote at.early at.there in
    let seq = at.seq in
    let of_view = at.view in
    let past = before.verifier (omega arith) (omega arith) in
    omega arith

later : (xs : List Ballot) (i n view : ℕ) → IsVotedOnBefore xs i n view → IsVotedOnBefore xs (i + 1) n view
later xs i n view at = record {
  place = at.place;
  vote = at.vote;
  early = (let early = at.early in omega arith);
  there = at.there;
  seq = at.seq;
  view = at.view;
}

-- and were judged
pub judged_there : (t : Trace) (xs : List Ballot) (i : ℕ) (b : Ballot) (ds es : Table) (least now : Option ℕ)
    → slice_get xs i ≡ Some b → Notes ds es b.seq b.view → Lowers least now → Agrees t es now b.seq b.view
    → AreJudged t xs i ds least → AreJudged t xs (i + 1) es now
judged_there t xs i b ds es least now got notes lowers agrees before = record {
  agree = λ j c less at_c. agreeing j c less at_c (cases_lt j i);
  found = λ n d is. elim (notes.adds n d is) [
    | inl old ↦ later xs i n d.0 (before.found n d old)
    | inr new ↦ record {
      place = i;
      vote = b;
      early = omega arith;
      there = got;
      seq = sym new.0;
      view = sym new.1;
    }
  ];
}
  where
    agreeing : (j : ℕ) (c : Ballot) → j < i + 1 → slice_get xs j ≡ Some c → (j < i) ⊎ (i ≤ j)
        → Agrees t es now c.seq c.view
    agreeing j c less at_c (inl earlier) = λ token decided.
        found_later t ds es least now b.seq b.view c.seq c.view notes lowers
        (before.agree j c earlier at_c token decided)
    agreeing j c less at_c (inr past) =
        let same : i ≡ j = omega arith in
        let is : Some b ≡ Some c = sym got ∙ ap (slice_get xs) same ∙ at_c in
        let equal : b ≡ c = cc in
        subst (λ (x : Ballot). Agrees t es now x.seq x.view) equal agrees

-- the one before this place is on the same
pub judged_further : (t : Trace) (xs : List Ballot) (i : ℕ) (ds : Table) (least : Option ℕ) → Continues xs i
    → AreJudged t xs i ds least → AreJudged t xs (i + 1) ds least
judged_further t xs i ds least h before = record {
  agree = λ j c less at_c. agreeing j c less at_c (cases_lt j i);
  found = λ n d is. later xs i n d.0 (before.found n d is);
}
  where
    agreeing : (j : ℕ) (c : Ballot) → j < i + 1 → slice_get xs j ≡ Some c → (j < i) ⊎ (i ≤ j)
        → Agrees t ds least c.seq c.view
    agreeing j c less at_c (inl earlier) = before.agree j c earlier at_c
    agreeing j c less at_c (inr past) =
        let some = h.some in
        let same : i ≡ j = omega arith in
        let is : Some h.later ≡ Some c = sym h.later_is ∙ ap (slice_get xs) same ∙ at_c in
        let equal : h.later ≡ c = cc in
        let both = fellow_is h.former h.later h.alike in
        subst (λ (x : Ballot). Agrees t ds least x.seq x.view) equal
        (subst (λ (s : ℕ). Agrees t ds least s h.later.view) both.0
        (subst (λ (v : ℕ). Agrees t ds least h.former.seq v) both.1
        (before.agree (i - 1) h.former (omega arith) h.former_is)))

-- nothing is known at first
pub none_known : (ds : Table) → All (λ d. d ≡ None) ds → (n : ℕ) → decision_on ds n ≡ None
unfolding decision_on
none_known ds none n = by_order (cases_lt n (length ds))
  where
    by_order : (n < length ds) ⊎ (length ds ≤ n) → option_map decision_decoded (get_or ds n None) ≡ None
    by_order (inl there) = ap (option_map decision_decoded) (none n None there)
    by_order (inr past) = ap (option_map decision_decoded) (get_or_past ds n None past)

pub start_judged : (t : Trace) (xs : List Ballot) (ds : Table) → All (λ d. d ≡ None) ds → AreJudged t xs 0 ds None
start_judged t xs ds none = record {
  agree = λ j b less got. absurd (omega arith);
  found = λ n d is. absurd (let clash = sym is ∙ none_known ds none n in cc);
}

pub first_judged : (t : Trace) (ds : Table) → length ds ≡ length t.batches + 1 → All (λ d. d ≡ None) ds
    → Judging t ds None
first_judged t ds long none =
    record {
      long = long;
      known = λ n. subst (λ (o : Option (ℕ × List ℕ)). IfSome o (IsKnown t n))
          (sym (none_known ds none n)) tt;
      stands = tt;
    }

pub IfNone_from : (o : Option ℕ) (P : Type 0) → (o ≡ None → P) → IfNone o P
IfNone_from None P given = given refl
IfNone_from (Some x) P given = tt

-- a quorum is more than half of the verifiers, and not more than all
pub quorum_limits : (t : Trace) → HasLimits t
    → (t.head.quorum ≤ length t.verifiers) × (length t.verifiers < 2 * t.head.quorum)
quorum_limits t limits = let head = head_has_limits (head_of t) limits.head in (head.quorum, head.majority)

-- ---- what is decided

votes_right : (t : Trace) → HasLimits t → (v : ℕ) → v < length t.verifiers
    → All (IsRight (length t.batches)) (votes_of t v)
votes_right t limits v there k d lt =
    let own : IsTrue (list_all (is_vote (length t.batches)) (votes_of t v)) =
    all_at (list_all (is_vote (length t.batches))) t.verifiers v (votes_of t v) limits.votes
    (slice_get-get_or t.verifiers v [] there) in
    right_vote (length t.batches) (get_or (votes_of t v) k d)
    (all_at (is_vote (length t.batches)) (votes_of t v) k (get_or (votes_of t v) k d) own
    (slice_get-get_or (votes_of t v) k d lt))

-- the batch is there, and the token has 32 bytes
pub record IsWithin (t : Trace) (n : ℕ) (token : List ℕ) : Type 0 where
  pub low : 1 ≤ n
  pub high : n ≤ length t.batches
  pub size : length token ≡ 32

pub decided_within : (t : Trace) → HasLimits t → (n view : ℕ) (token : List ℕ) → IsDecided t n view token
    → IsWithin t n token
decided_within t limits n view token decided =
    let most = (quorum_limits t limits).1 in
    let some : 1 ≤ t.head.quorum = omega (arith, most) in
    let back = decided_backs t (IsRight (length t.batches)) n view token some
    (λ v early. votes_right t limits v (omega (arith, some, early))) decided in
    record {
      low = subst (λ (m : ℕ). 1 ≤ m) back.seq back.holds.low;
      high = subst (λ (m : ℕ). m ≤ length t.batches) back.seq back.holds.high;
      size = back.holds.token token back.commit;
    }

pub within_table : {t : Trace} {ds : Table} {least : Option ℕ} {n : ℕ} {token : List ℕ} → Judging t ds least
    → IsWithin t n token → n < length ds
within_table judging within = (let long = judging.long in let high = within.high in omega arith)

-- a verifier's only vote is for it
pub decided_among : (t : Trace) (xs : List Ballot) (n view : ℕ) (token : List ℕ) → HasCast t xs → 1 ≤ t.head.quorum
    → IsDecided t n view token → (v : ℕ) × IsAmong xs n view v
decided_among t xs n view token cast some decided =
    let p : List Vote → Bool = λ votes. is_only (ForCommit token) (filter (is_vote_on n view) votes) in
    let one = counted p t.head.quorum t.verifiers some decided in
    let alone = single (ForCommit token) (filter (is_vote_on n view) (votes_of t one.place)) (one.is []) in
    (one.place, cast.all n view one.place alone.0 alone.1)
  where
    single : (c : Choice) (ws : List Vote) → is_only c ws ≡ true → (w : Vote) × (ws ≡ w ∷ [])
    single c [] e = absurd cc
    single c (w ∷ []) e = (w, refl)
    single c (w ∷ x ∷ ws) e = absurd cc

-- ---- in the end

-- each decision was found
abbrev pub AllFound : Trace → Table → Option ℕ → Type 0
AllFound t ds least = (n view : ℕ) (token : List ℕ) → IsDecided t n view token → IsFound t ds least n view

pub all_found : (t : Trace) (xs : List Ballot) (ds : Table) (least : Option ℕ) → HasLimits t → HasCast t xs
    → AreJudged t xs (length xs) ds least → AllFound t ds least
all_found t xs ds least limits cast judged n view token decided =
    let most = (quorum_limits t limits).1 in
    let found = (decided_among t xs n view token cast (omega (arith, most)) decided).1 in
    let b = found.1 in
    let there : IsDecided t b.seq b.view token = subst (λ (s : ℕ). IsDecided t s b.view token) (sym found.3)
    (subst (λ (v : ℕ). IsDecided t n v token) (sym found.4) decided) in
    let is = judged.agree found.0 b (slice_get_within xs found.0 b found.2) found.2 token there in
    subst (λ (s : ℕ). IsFound t ds least s view) found.3 (subst (λ (v : ℕ). IsFound t ds least b.seq v) found.4 is)

pub clashes_below : (t : Trace) (ds : Table) (least : Option ℕ) → AllFound t ds least
    → IsBelowAll (StandsInVotes code.TwoDecisions t) least
clashes_below t ds least all at s =
    let n = s.item.1.0 in
    let two = s.holds.1 in
    let place : IsBatchAt t n at =
    record { before = s.before; item = s.item; rest = s.rest; is = s.is; holds = (s.holds.0, refl) } in
    let first = all n two.0 two.2 two.5 in
    let second = all n two.1 two.3 two.6 in
    let same : first.found.0 ≡ second.found.0 = ap (λ (o : Option (ℕ × List ℕ)). view_of o) (sym first.is ∙ second.is)
    in
    let clashed : IsClash t n least → IsBelow least at = λ (c : IsClash t n least). subst (IsBelow least)
    (sym (c.only at place)) c.below in
    elim first.same [
      | inl e ↦ elim second.same [ inl f ↦ absurd (two.4 (sym e ∙ same ∙ f)) | inr c ↦ clashed c ]
      | inr c ↦ clashed c
    ]
  where
    view_of : Option (ℕ × List ℕ) → ℕ
    view_of None = 0
    view_of (Some d) = d.0

pub decisions_exact : (t : Trace) (ds : Table) (least : Option ℕ) → HasLimits t → AllFound t ds least
    → Judging t ds least → least ≡ None → AreDecisions t ds
decisions_exact t ds least limits all judging none = record {
  known = judging.known;
  all = λ n view token decided.
      let found = all n view token decided in
      let known : IsKnown t n found.found = subst (λ (o : Option (ℕ × List ℕ)). IfSome o (IsKnown t n)) found.is
      (judging.known n) in
      let in_view : found.found.0 ≡ view =
      elim found.same [
        | inl e ↦ e
        | inr c
            ↦ absurd (let below = subst (λ (o : Option ℕ). IsBelow o c.offset) none c.below in below)
      ] in
      let token_is : found.found.1 ≡ token = one_token t n view found.found.1 token
      (quorum_limits t limits).1
      (subst (λ (v : ℕ). IsDecided t n v found.found.1) in_view known.decided) decided in
      found.is ∙ ap (λ (v : ℕ). Some (v, found.found.1)) in_view ∙ ap (λ (d : List ℕ). Some (view, d)) token_is;
}
