-- The access records with which frames end, a frame more.
use Rattle.std.proofs.Common.{◌≡◌, ◌≢◌, ℕ, ◌+◌, ◌<◌, ◌≤◌, List, [], ◌∷◌, ◌++◌, length, map, Option, Some, None}
use Rattle.std.proofs.Common.{refl, sym, ap, ◌∙◌, inl, inr, append_assoc, arith}
use Rattle.std.specs.Prelude.{◌⊎◌, IfSome}
use Rattle.std.proofs.lemmas.List.{length-append, length-map, map-append}
use Rattle.eve_grammar.specs.Frames.{Frame, OfCustomer, OfBatch, OfReplica, OfAttempt, OfAccess, OfCommit, OfRollback}
use Rattle.eve_grammar.specs.Frames.{OfTransfer, OfVerifier, OfVote, OfSent, End, kind_of}
use Rattle.eve_grammar.specs.Spelling.{frame_text, frames_text}
use Rattle.eve_grammar.specs.Trace.{Access, Attempt}
use Rattle.eve_grammar.proofs.Lists.{same_first, same_others}
use Rattle.eve_views.proofs.FrameLaws.{length-frame_text}
use Rattle.eve_views.specs.inner.Places.{accesses_in}
use Rattle.eve_evidence.specs.declared.evidence.RecordsBefore.{RecordsBefore}
use Rattle.eve_evidence_form.specs.Records.{TellsRecords, records_after}

-- ---- the last of a list

-- two lists with one more are the same where both parts are
same_last : {A : Type 0} (xs ys : List A) (x y : A) → xs ++ x ∷ [] ≡ ys ++ y ∷ [] → (xs ≡ ys) × (x ≡ y)
same_last [] [] x y e = (refl, same_first x y [] [] e)
same_last [] (z ∷ ys) x y e =
    absurd (omega (arith, ap length e, length-append ys (y ∷ [])))
same_last (w ∷ xs) [] x y e =
    absurd (omega (arith, ap length e, length-append xs (x ∷ [])))
same_last (w ∷ xs) (z ∷ ys) x y e =
    let rest = same_last xs ys x y (same_others w z (xs ++ x ∷ []) (ys ++ y ∷ []) e) in
    (λ i. same_first w z (xs ++ x ∷ []) (ys ++ y ∷ []) e i ∷ rest.0 i, rest.1)

-- a list is empty or has a last
with_last : {A : Type 0} (xs : List A) → (xs ≡ []) ⊎ ((ys : List A) × (y : A) × (xs ≡ ys ++ y ∷ []))
with_last [] = inl refl
with_last (x ∷ xs) = elim (with_last xs) [
  | inl none ↦ inr ([], x, ap (λ (zs : List _). x ∷ zs) none)
  | inr some ↦ inr (x ∷ some.0, some.1, ap (λ (zs : List _). x ∷ zs) some.2)
]

-- no frames end with none
pub no_records : TellsRecords [] None
no_records [] a xs e = cc
no_records (f ∷ before) a xs e = cc

-- ---- a frame more

module _ (prefix : List Frame) (f : Frame) where
  -- the last of an attempt and its records is the attempt or a record
  last_frame : (before : List Frame) (a : Attempt) (xs : List Access)
      → prefix ++ f ∷ [] ≡ before ++ OfAttempt a ∷ map OfAccess xs
      → (f ≡ OfAttempt a)
      ⊎ ((ys : List Access) × (y : Access) × (f ≡ OfAccess y) × (prefix ≡ before ++ OfAttempt a ∷ map OfAccess ys))
  last_frame before a xs e = elim (with_last xs) [
    | inl none ↦ inl (same_last prefix before f (OfAttempt a)
        (e ∙ ap (λ (zs : List Access). before ++ OfAttempt a ∷ map OfAccess zs) none)).1
    | inr some ↦
        let parts = same_last prefix (before ++ OfAttempt a ∷ map OfAccess some.0) f (OfAccess some.1)
        (e ∙ ap (λ (zs : List Access). before ++ OfAttempt a ∷ map OfAccess zs) some.2
        ∙ ap (λ (zs : List Frame). before ++ OfAttempt a ∷ zs) (map-append OfAccess some.0 (some.1 ∷ []))
        ∙ sym (append_assoc before (OfAttempt a ∷ map OfAccess some.0) (OfAccess some.1 ∷ []))) in
        inr (some.0, some.1, parts.1, parts.0)
  ]

  -- behind another frame there are none
  neither : ((a : Attempt) → f ≢ OfAttempt a) → ((x : Access) → f ≢ OfAccess x) → TellsRecords (prefix ++ f ∷ []) None
  neither no_attempt no_access before a xs e = elim (last_frame before a xs e) [
    | inl attempt ↦ no_attempt a attempt
    | inr access ↦ no_access access.1 access.2
  ]

-- behind a record there are none where there were none before
none_before : (prefix : List Frame) (x : Access) → TellsRecords prefix None
    → TellsRecords (prefix ++ OfAccess x ∷ []) None
none_before prefix x none before a xs e = elim (last_frame prefix (OfAccess x) before a xs e) [
  | inl attempt ↦ absurd cc
  | inr access ↦ none before a access.0 access.3
]

pub told_after : (prefix : List Frame) (f : Frame) (records : Option RecordsBefore) (at : ℕ)
    → at ≡ 32 + length (frames_text prefix) → TellsRecords prefix records
    → TellsRecords (prefix ++ f ∷ []) (records_after records (kind_of f) at (accesses_in f))
told_after prefix (OfAttempt a) records at is told = record {
  before = prefix;
  attempt = a;
  accesses = [];
  is = refl;
  attempt_is = is;
  due_is = refl;
  found_is = refl;
}
told_after prefix (OfAccess x) None at is told = none_before prefix x told
told_after prefix (OfAccess x) (Some r) at is told = record {
  before = told.before;
  attempt = told.attempt;
  accesses = told.accesses ++ x ∷ [];
  is = ap (λ (fs : List Frame). fs ++ OfAccess x ∷ []) told.is
      ∙ append_assoc told.before (OfAttempt told.attempt ∷ map OfAccess told.accesses) (OfAccess x ∷ [])
      ∙ ap (λ (fs : List Frame). told.before ++ OfAttempt told.attempt ∷ fs)
      (sym (map-append OfAccess told.accesses (x ∷ [])));
  attempt_is = told.attempt_is;
  due_is = told.due_is;
  found_is = omega (arith, told.found_is, length-append told.accesses (x ∷ []));
}
told_after prefix (OfCustomer d) records at is told = neither prefix (OfCustomer d) (λ a e. cc) (λ x e. cc)
told_after prefix (OfBatch n b) records at is told = neither prefix (OfBatch n b) (λ a e. cc) (λ x e. cc)
told_after prefix (OfReplica n) records at is told = neither prefix (OfReplica n) (λ a e. cc) (λ x e. cc)
told_after prefix (OfCommit d) records at is told = neither prefix (OfCommit d) (λ a e. cc) (λ x e. cc)
told_after prefix (OfRollback r) records at is told = neither prefix (OfRollback r) (λ a e. cc) (λ x e. cc)
told_after prefix (OfTransfer x) records at is told = neither prefix (OfTransfer x) (λ a e. cc) (λ y e. cc)
told_after prefix (OfVerifier n) records at is told = neither prefix (OfVerifier n) (λ a e. cc) (λ x e. cc)
told_after prefix (OfVote v) records at is told = neither prefix (OfVote v) (λ a e. cc) (λ x e. cc)
told_after prefix (OfSent s) records at is told = neither prefix (OfSent s) (λ a e. cc) (λ x e. cc)
told_after prefix End records at is told = neither prefix End (λ a e. cc) (λ x e. cc)

-- ---- how many there are

frames_long : (fs : List Frame) → length fs ≤ length (frames_text fs)
frames_long [] = omega arith
frames_long (f ∷ fs) =
    omega (arith, frames_long fs, length-frame_text f, length-append (frame_text f) (frames_text fs))

-- no more than bytes
pub few_found : (prefix : List Frame) (records : Option RecordsBefore) (at : ℕ) → at ≡ 32 + length (frames_text prefix)
    → TellsRecords prefix records → IfSome records (λ r. r.found < at)
few_found prefix None at is told = tt
few_found prefix (Some r) at is told =
    omega (
      arith,
      is,
      frames_long prefix,
      ap length told.is,
      length-append told.before (OfAttempt told.attempt ∷ map OfAccess told.accesses),
      length-map told.accesses OfAccess,
      told.found_is,
    )
