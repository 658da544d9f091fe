-- Where no fault of records and chains stands.
use Rattle.std.proofs.Common.{◌≡◌, ◌≢◌, ℕ, ℤ, ◌+◌, List, [], ◌∷◌, ◌++◌, length, refl, sym, subst, ap, ◌∙◌, inl, inr}
use Rattle.std.proofs.Common.{Some}
use Rattle.std.proofs.lemmas.Bool.{cases_Bool, cases_eq, false≢true}
use Rattle.std.proofs.lemmas.Bool.Decides.{Decides-int_eq}
use Rattle.std.specs.Ordering.{int_eq}
use Rattle.std.specs.List.{AllByRecursion}
use Rattle.eve_smallbank.specs.declared.entry.Entry.{Entry}
use Rattle.eve_smallbank.specs.Access.{Fits}
use Rattle.eve_smallbank.specs.Chain.{Sees}
use Rattle.eve_smallbank.proofs.Members.{In, here, there, all_in, all_from_in, in_middle}
use Rattle.eve_grammar.specs.Trace.{Access, Trace}
use Rattle.eve_grammar.specs.Frames.{OfAttempt, OfAccess}
use Rattle.eve_grammar.specs.Spelling.{frame_text, located, accesses_at}
use Rattle.eve_views.specs.declared.fault.Code.{Code}
use Rattle.eve_views.specs.declared.fault.Code.TheVariants as code
use Rattle.eve_views.specs.declared.fault.Fault.{Fault}
use Rattle.eve_history.specs.Section.{Placed, settled}
use Rattle.eve_history.specs.SectionHistory.{history, names_of}
use Rattle.eve_views.specs.Form.{SomePlace}
use Rattle.eve_chains.specs.Visible.{executed_by, visible_to}
use Rattle.eve_chains.specs.Sound.{OfSettledAccesses, RecordsFit, EntriesSee}
use Rattle.eve_chains.specs.Faults.{AtSettledAccess, StandsInRecords, StandsInChains, HasNoFault}

-- ---- places

pub in_place : {A : Type 0} {P : List A → A → Type 0} (xs : List A) (place : SomePlace xs P) → In place.item xs
in_place xs place = subst (In place.item) (sym place.is) (in_middle place.item place.before place.rest)

-- where a member stands
pub record Standing {A : Type 0} (xs : List A) (x : A) : Type 0 where
  pub before : List A
  pub rest : List A
  pub is : xs ≡ before ++ x ∷ rest

pub standing : {A : Type 0} {x : A} (xs : List A) → In x xs → Standing xs x
standing [] i = elim i [ ]
standing (x ∷ xs) here = record { before = []; rest = xs; is = refl }
standing (y ∷ xs) (there i) = let s = standing xs i in
    record { before = y ∷ s.before; rest = s.rest; is = ap (λ zs. y ∷ zs) s.is }

pub place_of : {A : Type 0} {x : A} (P : A → Type 0) (xs : List A) → In x xs → P x → SomePlace xs (λ _ y. P y)
place_of {A} {x} P xs i h = let s = standing xs i in
    record { before = s.before; item = x; rest = s.rest; is = s.is; holds = h }

pub in_located : {A : Type 0} (text : A → List ℕ) (at : ℕ) (xs : List A) (x : ℕ × A) → In x (located text at xs)
    → In x.1 xs
in_located text at [] x i = elim i [ ]
in_located text at (y ∷ xs) x here = here
in_located text at (y ∷ xs) x (there i) = there (in_located text (at + length (text y)) xs x i)

-- a member has an offset
record Offset {A : Type 0} (text : A → List ℕ) (at : ℕ) (xs : List A) (x : A) : Type 0 where
  offset : ℕ
  there_is : In (offset, x) (located text at xs)

offset_of : {A : Type 0} {x : A} (text : A → List ℕ) (at : ℕ) (xs : List A) → In x xs → Offset text at xs x
offset_of text at [] i = elim i [ ]
offset_of text at (x ∷ xs) here = record { offset = at; there_is = here }
offset_of text at (y ∷ xs) (there i) = let o = offset_of text (at + length (text y)) xs i in
    record { offset = o.offset; there_is = there o.there_is }

-- ---- from what holds of all to nowhere

-- what holds of each access of a settled attempt leaves no place where it doesn't
nowhere : (t : Trace) (e at : ℕ) (P Q : Placed → Access → Type 0) → ((p : Placed) (x : Access) → P p x → Q p x → ⊥)
    → OfSettledAccesses t e P
    → AtSettledAccess t e at Q → ⊥
nowhere t e at P Q apart all place =
    apart place.item place.holds.item.1
    (all_in (P place.item) (all_in (λ p. AllByRecursion (P p) p.attempt.accesses) all
    (in_place (settled (history t e)) place))
    (in_located (λ x. frame_text (OfAccess x)) (place.item.offset + length (frame_text (OfAttempt place.item.attempt)))
    place.item.attempt.accesses place.holds.item
    (in_place (accesses_at place.item.offset place.item.attempt) place.holds)))
    place.holds.holds.1

no_record : (t : Trace) (e at : ℕ) (c : Code) → RecordsFit t e → StandsInRecords c t e at → ⊥
no_record t e at code.Record fits stands =
    nowhere t e at (λ p x. Fits (names_of t) (executed_by t p.attempt x))
    (λ p x. ¬ Fits (names_of t) (executed_by t p.attempt x)) (λ p x h k. k h) fits stands
no_record t e at _ fits stands = absurd stands

no_chain : (t : Trace) (e at : ℕ) (c : Code) → EntriesSee t e → StandsInChains c t e at → ⊥
no_chain t e at code.Version sees stands =
    nowhere t e at (λ p x. AllByRecursion (Sees (visible_to t p x.index)) x.entries)
    (λ p x. SomePlace x.entries (λ _ y. y.version ≢ (visible_to t p x.index y.row).version))
    (λ p x h k. k.holds (all_in (Sees (visible_to t p x.index)) h (in_place x.entries k)).version) sees stands
no_chain t e at code.Value sees stands =
    nowhere t e at (λ p x. AllByRecursion (Sees (visible_to t p x.index)) x.entries)
    (λ p x. SomePlace x.entries (λ _ y. y.seen ≢ (visible_to t p x.index y.row).value))
    (λ p x h k. k.holds (all_in (Sees (visible_to t p x.index)) h (in_place x.entries k)).value) sees stands
no_chain t e at _ sees stands = absurd stands

pub has_no_fault : (t : Trace) (e : ℕ) → RecordsFit t e → EntriesSee t e → HasNoFault t e
has_no_fault t e fits sees = record {
  records = λ f is. no_record t e f.offset f.code fits is.stands;
  chains = λ f is. no_chain t e f.offset f.code sees is.stands;
}

-- ---- and back

-- an access record of a settled attempt has a frame at which a fault could stand
at_access : (t : Trace) (e : ℕ) (p : Placed) (x : Access) (Q : Placed → Access → Type 0) → In p (settled (history t e))
    → In x p.attempt.accesses → Q p x
    → (at : ℕ) × AtSettledAccess t e at Q
at_access t e p x Q i j h =
    let o = offset_of (λ y. frame_text (OfAccess y)) (p.offset + length (frame_text (OfAttempt p.attempt)))
    p.attempt.accesses j in (
      o.offset,
      place_of (λ q. SomePlace (accesses_at q.offset q.attempt) (λ _ y. (y.0 ≡ o.offset) × Q q y.1))
          (settled (history t e)) i
          (place_of (λ y. (y.0 ≡ o.offset) × Q p y.1) (accesses_at p.offset p.attempt) o.there_is (refl, h)),
    )

same_nat : (m n : ℕ) → (m ≢ n → ⊥) → m ≡ n
same_nat m n h = elim (cases_eq m n) [ inl e ↦ e | inr other ↦ absurd (h other) ]

same_int : (m n : ℤ) → (m ≢ n → ⊥) → m ≡ n
same_int m n h =
    elim (cases_Bool (int_eq m n)) [
      | inl e ↦ (Decides-int_eq m n).0 e
      | inr other ↦ absurd (h (λ e. false≢true (sym other ∙ (Decides-int_eq m n).1 e)))
    ]

-- a fault in replica e
fault_at : ℕ → Code → ℕ → Fault
fault_at e c at = record { code = c; offset = at; replica = Some e }

module _ (t : Trace) (e : ℕ) (none : HasNoFault t e) (p : Placed) (i : In p (settled (history t e))) (x : Access)
    (j : In x p.attempt.accesses) (y : Entry) (k : In y x.entries) where
  sees_version : y.version ≡ (visible_to t p x.index y.row).version
  unfolding fault_at
  sees_version = same_nat y.version (visible_to t p x.index y.row).version (λ other.
      let at = at_access t e p x
      (λ q z. SomePlace z.entries (λ _ w. w.version ≢ (visible_to t q z.index w.row).version)) i j
      (place_of (λ w. w.version ≢ (visible_to t p x.index w.row).version) x.entries k other) in
      none.chains (fault_at e code.Version at.0) (record { stands = at.1; inside = refl }))

  sees_value : y.seen ≡ (visible_to t p x.index y.row).value
  unfolding fault_at
  sees_value = same_int y.seen (visible_to t p x.index y.row).value (λ other.
      let at = at_access t e p x (λ q z. SomePlace z.entries (λ _ w. w.seen ≢ (visible_to t q z.index w.row).value)) i j
      (place_of (λ w. w.seen ≢ (visible_to t p x.index w.row).value) x.entries k other) in
      none.chains (fault_at e code.Value at.0) (record { stands = at.1; inside = refl }))

pub entries_see_without_fault : (t : Trace) (e : ℕ) → HasNoFault t e → EntriesSee t e
entries_see_without_fault t e none =
    all_from_in (λ p. AllByRecursion (λ x. AllByRecursion (Sees (visible_to t p x.index)) x.entries) p.attempt.accesses)
    (settled (history t e)) (λ p i.
    all_from_in (λ x. AllByRecursion (Sees (visible_to t p x.index)) x.entries) p.attempt.accesses (λ x j.
    all_from_in (Sees (visible_to t p x.index)) x.entries (λ y k.
    record { version = sees_version t e none p i x j y k; value = sees_value t e none p i x j y k })))

-- no record of a settled attempt misses its request
pub mismatch_nowhere : (t : Trace) (e : ℕ) → HasNoFault t e
    → OfSettledAccesses t e (λ p x. ¬ ¬ Fits (names_of t) (executed_by t p.attempt x))
unfolding fault_at
mismatch_nowhere t e none =
    all_from_in (λ p. AllByRecursion (λ x. ¬ ¬ Fits (names_of t) (executed_by t p.attempt x)) p.attempt.accesses)
    (settled (history t e)) (λ p i.
    all_from_in (λ x. ¬ ¬ Fits (names_of t) (executed_by t p.attempt x)) p.attempt.accesses (λ x j mismatch.
    let at = at_access t e p x (λ q z. ¬ Fits (names_of t) (executed_by t q.attempt z)) i j mismatch in
    none.records (fault_at e code.Record at.0) (record { stands = at.1; inside = refl })))
