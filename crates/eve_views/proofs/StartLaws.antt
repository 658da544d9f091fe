-- Which frames begin the parts of a trace.
use Rattle.std.proofs.Common.{◌≡◌, ◌≢◌, ℕ, suc, ◌+◌, ◌<◌, ◌≤◌, Bool, true, false, ◌||◌, cond, not, List, [], ◌∷◌}
use Rattle.std.proofs.Common.{◌++◌, length, get_or, set, Some, refl, sym, ap, subst, ◌∙◌, arith, inl, inr}
use Rattle.std.proofs.Common.{get_or-set_same, get_or-set_other}
use Rattle.std.specs.Prelude.{slice_get}
use Rattle.std.proofs.lemmas.Bool.{cases_lt, eqb-true}
use Rattle.std.proofs.lemmas.Bool.Decides.{nat_tests}
use Rattle.std.proofs.lemmas.List.{length-append, length-set}
use Rattle.eve_grammar.specs.Frames.{Frame, OfCustomer, OfBatch, OfReplica, OfAttempt, OfAccess, OfCommit, OfRollback}
use Rattle.eve_grammar.specs.Frames.{OfTransfer, OfVerifier, OfVote, OfSent, End, start_place, next_place, kind_of}
use Rattle.eve_grammar.specs.Frames.{is_allowed}
use Rattle.eve_grammar.specs.Limits.{FitsAt}
use Rattle.eve_grammar.proofs.Lists.{get_in_prefix}
use Rattle.eve_grammar.proofs.FramePlaces.{not_ended}
use Rattle.eve_grammar.specs.declared.head.Head.{Head}
use Rattle.eve_grammar.specs.declared.place.Place.{Place}
use Rattle.eve_views.specs.declared.starts.Starts.{Starts}
use Rattle.eve_views.specs.inner.PartStarts.{no_starts, noted}
use Rattle.eve_views.specs.Indexes.{is_last, frames_before_sent, AreStarts}
use Rattle.eve_views.specs.inner.WalkProgress.{has_last, Started}
use Rattle.eve_views.proofs.FrameLaws.{true_false}

-- ---- what an allowed kind says of the place

pub replica_below : (h : Head) (p : Place) → is_allowed h p 16 ≡ true → (p.verifiers ≡ 0) × (p.replicas < h.replicas)
replica_below h p e = (grind (arith, nat_tests), grind (arith, nat_tests))

pub verifier_below : (h : Head) (p : Place) → is_allowed h p 32 ≡ true → (0 < p.verifiers → p.verifiers < h.verifiers)
    × (p.verifiers ≡ 0 → p.replicas ≡ h.replicas)
verifier_below h p e = ((λ some. grind (arith, nat_tests)), (λ none. grind (arith, nat_tests)))

pub end_full : (h : Head) (p : Place) → is_allowed h p 127 ≡ true → (0 < p.verifiers) × (p.verifiers ≡ h.verifiers)
end_full h p e = (grind (arith, nat_tests), grind (arith, nat_tests))

-- ---- one more frame

pub slice_get_last : (fs : List Frame) (f : Frame) → slice_get (fs ++ f ∷ []) (length fs) ≡ Some f
slice_get_last [] f = refl
slice_get_last (g ∷ fs) f = slice_get_last fs f

-- the first of the last frames stays where it is
pub sent_stays : (fs : List Frame) (f : Frame) → frames_before_sent fs < length fs → frames_before_sent (fs ++ f ∷ [])
    ≡ frames_before_sent fs
sent_stays [] f lt = absurd (omega arith)
sent_stays (g ∷ fs) f lt = by (is_last g) (λ below. sent_stays fs f below) lt
  where
    by : (b : Bool) → (frames_before_sent fs < length fs → frames_before_sent (fs ++ f ∷ []) ≡ frames_before_sent fs)
        → cond b 0 (frames_before_sent fs + 1) < suc (length fs) → cond b 0 (frames_before_sent (fs ++ f ∷ []) + 1)
        ≡ cond b 0 (frames_before_sent fs + 1)
    by true rest lt = refl
    by false rest lt = ap (λ (k : ℕ). k + 1) (rest (omega arith))

-- or a frame is the first
pub sent_begins : (fs : List Frame) (f : Frame) → frames_before_sent fs ≡ length fs → frames_before_sent (fs ++ f ∷ [])
    ≡ length fs + cond (is_last f) 0 1
sent_begins [] f e = by (is_last f)
  where
    by : (b : Bool) → cond b 0 (0 + 1) ≡ 0 + cond b 0 1
    by true = refl
    by false = refl
sent_begins (g ∷ fs) f e = by (is_last g) (λ before. sent_begins fs f before) e
  where
    by : (b : Bool) → (frames_before_sent fs ≡ length fs → frames_before_sent (fs ++ f ∷ []) ≡ length fs + cond
        (is_last f) 0 1)
        → cond b 0 (frames_before_sent fs + 1) ≡ suc (length fs) → cond b 0 (frames_before_sent (fs ++ f ∷ []) + 1)
        ≡ suc (length fs) + cond (is_last f) 0 1
    by true rest e = absurd (omega arith)
    by false rest e = let r = rest (omega arith) in omega arith

pub started_start : (h : Head) → Started h [] start_place no_starts
started_start h = record {
  eight = refl;
  sixteen = refl;
  sections = λ e lt. absurd (omega arith);
  verifiers = λ v lt. absurd (omega arith);
  sent = λ e. absurd cc;
  unsent = λ e. refl;
  some = λ lt. absurd (omega arith);
  full = λ e. absurd cc;
}

-- a frame that begins nothing
record Keeps (p q : Place) : Type 0 where
  replicas : q.replicas ≡ p.replicas
  verifiers : q.verifiers ≡ p.verifiers
  sending : q.sending ≡ p.sending
  ended : q.ended ≡ p.ended

kept_last : (p q : Place) → Keeps p q → has_last q ≡ has_last p
kept_last p q k = rw (k.sending, k.ended) refl

started_same : (h : Head) (fs : List Frame) (p q : Place) (s : Starts) (f : Frame) → Started h fs p s → Keeps p q
    → is_last f ≡ false → Started h (fs ++ f ∷ []) q s
started_same h fs p q s f st k plain = record {
  eight = st.eight;
  sixteen = st.sixteen;
  sections = λ e lt. get_in_prefix fs (f ∷ []) _ (OfReplica e) (st.sections e (subst (λ (n : ℕ). e < n) k.replicas lt));
  verifiers = λ v lt. get_in_prefix fs (f ∷ []) _ (OfVerifier v)
      (st.verifiers v (subst (λ (n : ℕ). v < n) k.verifiers lt));
  sent = λ e.
      let t = st.sent (sym (kept_last p q k) ∙ e) in
      let stays = sent_stays fs f t.1 in
      (t.0 ∙ sym stays, omega (arith, stays, t.1, length-append fs (f ∷ [])));
  unsent = λ e. sent_begins fs f (st.unsent (sym (kept_last p q k) ∙ e))
      ∙ rw plain (omega (arith, length-append fs (f ∷ [])));
  some = λ lt. k.replicas ∙ st.some (subst (λ (n : ℕ). 0 < n) k.verifiers lt);
  full = λ e. let t = st.full (sym k.ended ∙ e) in (k.verifiers ∙ t.0, subst (λ (n : ℕ). 0 < n) (sym k.verifiers) t.1);
}

-- one more entry of a table of starts
table_more : (fs : List Frame) (f : Frame) (xs : List ℕ) (count : ℕ) (of : ℕ → Frame) → count < length xs → f ≡ of count
    → ((e : ℕ) → e < count → slice_get fs (get_or xs e 0) ≡ Some (of e))
    → (e : ℕ) → e < count + 1 → slice_get (fs ++ f ∷ []) (get_or (set xs count (length fs)) e 0) ≡ Some (of e)
table_more fs f xs count of room is before e lt =
    elim (cases_lt e count) [
      | inl below ↦
          let other : e ≢ count = omega arith in
          rw (get_or-set_other xs count e (length fs) 0 other) (get_in_prefix fs (f ∷ []) _ (of e) (before e below))
      | inr le ↦
          let same : e ≡ count = omega arith in
          rw (same, get_or-set_same xs count (length fs) 0 room) (slice_get_last fs f ∙ ap Some is)
    ]

started_replica : (h : Head) (fs : List Frame) (p : Place) (s : Starts) (n : ℕ) → Started h fs p s → p.replicas < 8
    → n ≡ p.replicas → p.verifiers ≡ 0 → p.ended ≡ false
    → Started h (fs ++ OfReplica n ∷ []) (next_place p (OfReplica n))
    (record s { sections = set s.sections p.replicas (length fs) })
started_replica h fs p s n st few is none going = record {
  eight = length-set s.sections p.replicas (length fs) ∙ st.eight;
  sixteen = st.sixteen;
  sections = table_more fs (OfReplica n) s.sections p.replicas OfReplica (omega (arith, st.eight))
      (ap OfReplica is) st.sections;
  verifiers = λ v lt. absurd (omega (arith, none));
  sent = λ e.
      let t = st.sent e in
      let stays = sent_stays fs (OfReplica n) t.1 in
      (t.0 ∙ sym stays, omega (arith, stays, t.1, length-append fs (OfReplica n ∷ [])));
  unsent = λ e. sent_begins fs (OfReplica n) (st.unsent e) ∙ omega (arith, length-append fs (OfReplica n ∷ []));
  some = λ lt. absurd (omega (arith, none));
  full = λ e. absurd (true_false p.ended e going);
}

started_verifier : (h : Head) (fs : List Frame) (p : Place) (s : Starts) (n : ℕ) → Started h fs p s → p.verifiers < 16
    → n ≡ p.verifiers → p.replicas ≡ h.replicas → p.ended ≡ false
    → Started h (fs ++ OfVerifier n ∷ []) (next_place p (OfVerifier n))
    (record s { verifiers = set s.verifiers p.verifiers (length fs) })
started_verifier h fs p s n st few is all going = record {
  eight = st.eight;
  sixteen = length-set s.verifiers p.verifiers (length fs) ∙ st.sixteen;
  sections = λ e lt. get_in_prefix fs (OfVerifier n ∷ []) _ (OfReplica e) (st.sections e lt);
  verifiers = table_more fs (OfVerifier n) s.verifiers p.verifiers OfVerifier (omega (arith, st.sixteen))
      (ap OfVerifier is) st.verifiers;
  sent = λ e.
      let t = st.sent e in
      let stays = sent_stays fs (OfVerifier n) t.1 in
      (t.0 ∙ sym stays, omega (arith, stays, t.1, length-append fs (OfVerifier n ∷ [])));
  unsent = λ e. sent_begins fs (OfVerifier n) (st.unsent e) ∙ omega (arith, length-append fs (OfVerifier n ∷ []));
  some = λ lt. all;
  full = λ e. absurd (true_false p.ended e going);
}

-- a reply sent, or the end
started_last : (h : Head) (fs : List Frame) (p q : Place) (s : Starts) (f : Frame) → Started h fs p s → is_last f ≡ true
    → p.ended ≡ false → q.replicas ≡ p.replicas → q.verifiers ≡ p.verifiers → has_last q ≡ true
    → (q.ended ≡ true → (p.verifiers ≡ h.verifiers) × (0 < p.verifiers))
    → Started h (fs ++ f ∷ []) q (cond p.sending s (record s { sent = length fs }))
started_last h fs p q s f st last going replicas verifiers has full = by p.sending refl
  where
    sections : (e : ℕ) → e < q.replicas → slice_get (fs ++ f ∷ []) (get_or s.sections e 0) ≡ Some (OfReplica e)
    sections e lt = get_in_prefix fs (f ∷ []) _ (OfReplica e) (st.sections e (subst (λ (n : ℕ). e < n) replicas lt))

    others : (v : ℕ) → v < q.verifiers → slice_get (fs ++ f ∷ []) (get_or s.verifiers v 0) ≡ Some (OfVerifier v)
    others v lt = get_in_prefix fs (f ∷ []) _ (OfVerifier v) (st.verifiers v (subst (λ (n : ℕ). v < n) verifiers lt))

    all : 0 < q.verifiers → q.replicas ≡ h.replicas
    all lt = replicas ∙ st.some (subst (λ (n : ℕ). 0 < n) verifiers lt)

    whole : q.ended ≡ true → (q.verifiers ≡ h.verifiers) × (0 < q.verifiers)
    whole e = let t = full e in (verifiers ∙ t.0, subst (λ (n : ℕ). 0 < n) (sym verifiers) t.1)

    by : (b : Bool) → p.sending ≡ b → Started h (fs ++ f ∷ []) q (cond b s (record s { sent = length fs }))
    by true sending =
        let had : has_last p ≡ true = rw sending refl in
        let t = st.sent had in
        let stays = sent_stays fs f t.1 in
        record {
          eight = st.eight;
          sixteen = st.sixteen;
          sections = sections;
          verifiers = others;
          sent = λ e. (t.0 ∙ sym stays, omega (arith, stays, t.1, length-append fs (f ∷ [])));
          unsent = λ e. absurd (true_false (has_last q) has e);
          some = all;
          full = whole;
        }
    by false sending =
        let had : has_last p ≡ false = rw (sending, going) refl in
        let begins : frames_before_sent (fs ++ f ∷ []) ≡ length fs = sent_begins fs f (st.unsent had)
        ∙ rw last (omega arith) in
        record {
          eight = st.eight;
          sixteen = st.sixteen;
          sections = sections;
          verifiers = others;
          sent = λ e. (sym begins, omega (arith, begins, length-append fs (f ∷ [])));
          unsent = λ e. absurd (true_false (has_last q) has e);
          some = all;
          full = whole;
        }

same_place : (p : Place) → Keeps p p
same_place p = record { replicas = refl; verifiers = refl; sending = refl; ended = refl }

sent_noted : (b : Bool) (s t : Starts) → cond (not b) t s ≡ cond b s t
sent_noted true s t = refl
sent_noted false s t = refl

either_verifier : (h : Head) (p : Place) → (0 < p.verifiers → p.replicas ≡ h.replicas) → is_allowed h p 32 ≡ true
    → p.replicas ≡ h.replicas
either_verifier h p some e =
    elim (cases_lt 0 p.verifiers) [ inl lt ↦ some lt | inr le ↦ (verifier_below h p e).1 (omega arith) ]

pub few_verifiers : (h : Head) (p : Place) → is_allowed h p 32 ≡ true → 1 ≤ h.verifiers → p.verifiers < h.verifiers
few_verifiers h p e one = elim (cases_lt 0 p.verifiers) [ inl lt ↦ (verifier_below h p e).0 lt | inr le ↦ omega arith ]

pub record HasRoom (h : Head) : Type 0 where
  pub replicas : h.replicas ≤ 8
  pub verifiers : h.verifiers ≤ 16
  pub one : 1 ≤ h.verifiers

pub started_more : (h : Head) (fs : List Frame) (p : Place) (s : Starts) (f : Frame) → HasRoom h → Started h fs p s
    → FitsAt h p f → Started h (fs ++ f ∷ []) (next_place p f) (noted s p (kind_of f) (length fs))
started_more h fs p s (OfCustomer c) room st fits = started_same h fs p (next_place p (OfCustomer c)) s
    (OfCustomer c) st
    (record { replicas = refl; verifiers = refl; sending = refl; ended = refl }) refl
started_more h fs p s (OfBatch n b) room st fits = started_same h fs p (next_place p (OfBatch n b)) s (OfBatch n b) st
    (record { replicas = refl; verifiers = refl; sending = refl; ended = refl }) refl
started_more h fs p s (OfReplica n) room st fits =
    let below = replica_below h p fits.allowed in
    started_replica h fs p s n st (omega (arith, below.1, room.replicas)) (eqb-true n p.replicas fits.body) below.0
    (not_ended h p 16 fits.allowed)
started_more h fs p s (OfAttempt a) room st fits = started_same h fs p (next_place p (OfAttempt a)) s (OfAttempt a) st
    (record { replicas = refl; verifiers = refl; sending = refl; ended = refl }) refl
started_more h fs p s (OfAccess x) room st fits = started_same h fs p (next_place p (OfAccess x)) s (OfAccess x) st
    (record { replicas = refl; verifiers = refl; sending = refl; ended = refl }) refl
started_more h fs p s (OfCommit c) room st fits = started_same h fs p p s (OfCommit c) st (same_place p) refl
started_more h fs p s (OfRollback r) room st fits = started_same h fs p p s (OfRollback r) st (same_place p) refl
started_more h fs p s (OfTransfer x) room st fits = started_same h fs p p s (OfTransfer x) st (same_place p) refl
started_more h fs p s (OfVerifier n) room st fits =
    started_verifier h fs p s n st
    (let below = few_verifiers h p fits.allowed room.one in omega (arith, below, room.verifiers))
    (eqb-true n p.verifiers fits.body) (either_verifier h p st.some fits.allowed) (not_ended h p 32 fits.allowed)
started_more h fs p s (OfVote v) room st fits = started_same h fs p p s (OfVote v) st (same_place p) refl
started_more h fs p s (OfSent x) room st fits =
    let going = not_ended h p 48 fits.allowed in
    subst (Started h (fs ++ OfSent x ∷ []) (next_place p (OfSent x)))
    (sym (sent_noted p.sending s (record s { sent = length fs })))
    (started_last h fs p (next_place p (OfSent x)) s (OfSent x) st refl going refl refl refl
    (λ e. absurd (true_false p.ended e going)))
started_more h fs p s End room st fits =
    let full = end_full h p fits.allowed in
    subst (Started h (fs ++ End ∷ []) (next_place p End)) (sym (sent_noted p.sending s (record s { sent = length fs })))
    (started_last h fs p (next_place p End) s End st refl (not_ended h p 127 fits.allowed) refl refl
    (or_last p.sending)
    (λ e. (full.1, full.0)))
  where
    or_last : (b : Bool) → (b || true) ≡ true
    or_last true = refl
    or_last false = refl

-- at the end
pub started_end : (h : Head) (fs : List Frame) (p : Place) (s : Starts) → Started h fs p s → p.ended ≡ true
    → AreStarts h fs s
started_end h fs p s st ended =
    let full = st.full ended in
    let all : p.replicas ≡ h.replicas = st.some full.1 in
    record {
      sections = λ e lt. st.sections e (subst (λ (n : ℕ). e < n) (sym all) lt);
      verifiers = λ v lt. st.verifiers v (subst (λ (n : ℕ). v < n) (sym full.0) lt);
      sent = (st.sent (or_last p.sending p.ended ended)).0;
    }
  where
    or_last : (b c : Bool) → c ≡ true → (b || c) ≡ true
    or_last true c e = refl
    or_last false c e = e
