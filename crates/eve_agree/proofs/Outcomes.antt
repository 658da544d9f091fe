-- What a batch came to in a replica, and which replica was the first to commit it.
use Rattle.std.proofs.Common.{◌≡◌, ℕ, zero, suc, ◌+◌, ◌-◌, ◌<◌, ◌≤◌, ℤ, Bool, true, false, List, [], ◌∷◌}
use Rattle.std.proofs.Common.{map, length, take, slice_get, get_or, Option, Some, None, refl, sym, ap, subst, ◌∙◌}
use Rattle.std.proofs.Common.{inl, inr, arith, take_all}
use Rattle.std.specs.List.{enumerate_from, find}
use Rattle.std.specs.Option.{is_some, option_map}
use Rattle.std.specs.Prelude.{IsTrue}
use Rattle.std.proofs.lemmas.Bool.{cases_lt, false≢true}
use Rattle.std.proofs.lemmas.List.{length-map}
use Rattle.std.proofs.lemmas.List.FromFn.{length-enumerate_from}
use Rattle.std.proofs.lemmas.Option.{slice_get_within, same_Some}
use Rattle.eve_smallbank.specs.declared.request.Reply.{Reply}
use Rattle.eve_grammar.specs.Trace.{Attempt, Trace}
use Rattle.eve_grammar.proofs.Numbered.{numbered_at}
use Rattle.eve_history.specs.Section.{Placed}
use Rattle.eve_history.specs.SectionHistory.{ExecutedAttempt, SectionHistory, section_history}
use Rattle.eve_history.specs.SectionHistory.{section_histories, history, committed_at}
use Rattle.eve_chains.specs.Committed.{first_rows, values_to, balances_to}
use Rattle.eve_chains.specs.CommittedValues.{Settling, settling, settlings, values_in}
use Rattle.eve_history.proofs.RightSections.{as_many_told, section_history_at}
use Rattle.eve_chains.proofs.LinkedPaths.{none≢some}
use Rattle.eve_agree.proofs.TokensInOrder.{rows_are, rows_told}
use Rattle.eve_agree.specs.ByNumber.{told_at}
use Rattle.eve_agree.specs.Agreement.{first_to_commit, HaveSameOutcome}
use Rattle.eve_agree.specs.inner.NumbersJudged.{NoneBefore, IsAfter, AreAfter}
use Rattle.eve_agree.proofs.ByNumber.{told_item, told_none, told_same, replica_there, some_there, there_some}

-- ---- of each replica

module _ (t : Trace) where
  pub section_history_is : (hs : List SectionHistory) (e : ℕ) (h : SectionHistory) → hs ≡ section_histories t
      → slice_get hs e ≡ Some h → h ≡ section_history t e
  section_history_is hs e h is got =
      let here : slice_get (section_histories t) e ≡ Some h = ap (λ (xs : List SectionHistory). slice_get xs e) (sym is)
      ∙ got in
      let lt = slice_get_within (section_histories t) e h here in
      let count = as_many_told t in
      same_Some h (section_history t e) (sym here ∙ section_history_at t e (omega arith))

  pub settlings_count : length (settlings t) ≡ length t.sections
  unfolding settlings
  settlings_count = length-map (enumerate_from 0 t.sections) (λ s. settling t s.0)
      ∙ length-enumerate_from 0 t.sections

  pub settling_at : (e : ℕ) → e < length t.sections → slice_get (settlings t) e ≡ Some (settling t e)
  unfolding settlings
  settling_at e lt = numbered_at (settling t) t.sections e lt

-- ---- how many batches

module _ (t : Trace) (e : ℕ) where
  pub last_told : (h : SectionHistory) → h ≡ section_history t e → h.committed ≡ (history t e).last
  unfolding section_history history
  last_told h is = ap (λ (x : SectionHistory). x.committed) is

  pub replica_told : (h : SectionHistory) → h ≡ section_history t e → h.replica ≡ e
  unfolding section_history
  replica_told h is = ap (λ (x : SectionHistory). x.replica) is

-- ---- the attempt

-- this offset and these replies are those of the attempt by which replica e committed batch n
pub record IsOf (t : Trace) (e n offset : ℕ) (replies : List Reply) : Type 0 where
  pub item : Placed
  pub at : committed_at t e n ≡ Some item
  pub offset_is : offset ≡ item.offset
  pub replies_are : replies ≡ item.attempt.replies

pub outcome_of : (t : Trace) (e n offset : ℕ) (decoded : Attempt) (h : SectionHistory) → h ≡ section_history t e
    → (r : ExecutedAttempt) × (told_at h n ≡ Some r) × (offset ≡ r.offset) × (decoded ≡ r.attempt)
    → IsOf t e n offset decoded.replies
outcome_of t e n offset decoded h is got =
    let found = told_item t e h n got.0 is got.1 in
    record {
      item = found.0;
      at = found.1;
      offset_is = got.2 ∙ sym (ap (λ (x : ExecutedAttempt). x.offset) found.2);
      replies_are = ap (λ (a : Attempt). a.replies) (got.3 ∙ sym (ap (λ (x : ExecutedAttempt). x.attempt) found.2));
    }

-- ---- the balances

pub balances_are : (t : Trace) (e n : ℕ) (b : List ℤ) → IsAfter (settling t e) n b → values_in (settling t e) n
    ≡ values_to t e n → b ≡ balances_to t e n
balances_are t e n b after law = rows_are b
    ∙ (λ k. first_rows ((after.rows ∙ rows_told t e) k) ((after.values ∙ law) k))

-- past the last batch nothing changes
pub values_past : (s : Settling) (n : ℕ) → length s.numbers < n → values_in s (n - 1) ≡ values_in s n
unfolding values_in
values_past s n past =
    let less : take (n - 1) s.numbers ≡ s.numbers = take_all (n - 1) s.numbers (omega arith) in
    let all : take n s.numbers ≡ s.numbers = take_all n s.numbers (omega arith) in
    rw (less, all) refl

-- ---- both

pub same_outcome : (t : Trace) (e f n o q : ℕ) (rs ss : List Reply) (b c : List ℤ) → IsOf t e n o rs → IsOf t f n q ss
    → b ≡ balances_to t e n → c ≡ balances_to t f n → (b ≡ c) × (rs ≡ ss) → HaveSameOutcome t e f n
same_outcome t e f n o q rs ss b c own other is it same = record {
  balances = sym is ∙ same.0 ∙ it;
  replies = ap (option_map (λ p. p.attempt.replies)) own.at
      ∙ ap (λ (xs : List Reply). Some xs) (sym own.replies_are ∙ same.1 ∙ other.replies_are)
      ∙ sym (ap (option_map (λ p. p.attempt.replies)) other.at);
}

pub outcome_same : (t : Trace) (e f n o q : ℕ) (rs ss : List Reply) (b c : List ℤ) → IsOf t e n o rs → IsOf t f n q ss
    → b ≡ balances_to t e n → c ≡ balances_to t f n → HaveSameOutcome t e f n → (b ≡ c) × (rs ≡ ss)
outcome_same t e f n o q rs ss b c own other is it same = (
  is ∙ same.balances ∙ sym it,
  own.replies_are
      ∙ same_Some own.item.attempt.replies other.item.attempt.replies
      (sym (ap (option_map (λ p. p.attempt.replies)) own.at) ∙ same.replies
      ∙ ap (option_map (λ p. p.attempt.replies)) other.at)
      ∙ sym other.replies_are,
)

-- ---- the first replica

find_first : {A : Type 0} (test : ℕ → Bool) (k : ℕ) (xs : List A) (i : ℕ) → i < length xs → test (k + i) ≡ true
    → ((j : ℕ) → j < i → test (k + j) ≡ false) → find test (map (λ s. s.0) (enumerate_from k xs)) ≡ Some (k + i)
find_first test k [] i lt here none = absurd (omega arith)
find_first test k (x ∷ xs) zero lt here none = let same : k + 0 ≡ k = omega arith in let found : test k ≡ true =
    ap test (sym same) ∙ here in rw (found, same) refl
find_first test k (x ∷ xs) (suc i) lt here none =
    let zeroth : k + 0 ≡ k = omega arith in
    let same : k + 1 + i ≡ k + suc i = omega arith in
    let not_here : test k ≡ false = ap test (sym zeroth) ∙ none 0 (omega arith) in
    rw not_here (find_first test (k + 1) xs i (omega arith) (ap test same ∙ here)
    (λ j less. let next : k + 1 + j ≡ k + suc j = omega arith in ap test next ∙ none (suc j) (omega arith))
    ∙ ap (λ (m : ℕ). Some m) same)

find_none : {A : Type 0} (test : ℕ → Bool) (k : ℕ) (xs : List A) → ((j : ℕ) → j < length xs → test (k + j) ≡ false)
    → find test (map (λ s. s.0) (enumerate_from k xs)) ≡ None
find_none test k [] none = refl
find_none test k (x ∷ xs) none =
    let zeroth : k + 0 ≡ k = omega arith in
    let not_here : test k ≡ false = ap test (sym zeroth) ∙ none 0 (omega arith) in
    rw not_here (find_none test (k + 1) xs (λ j less. let next : k + 1 + j ≡ k + suc j = omega arith in ap test next
    ∙ none (suc j) (omega arith)))

pub none_more : (hs : List SectionHistory) (n e : ℕ) (h : SectionHistory) → NoneBefore hs n e → slice_get hs e ≡ Some h
    → told_at h n ≡ None → NoneBefore hs n (e + 1)
none_more hs n e h none got less i g lt here = elim (cases_lt i e) [
  | inl before ↦ none i g before here
  | inr last ↦
      let same : i ≡ e = omega arith in
      let is : g ≡ h = same_Some g h (sym here ∙ ap (slice_get hs) same ∙ got) in
      subst (λ (x : SectionHistory). told_at x n ≡ None) (sym is) less
]

module _ (t : Trace) (hs : List SectionHistory) (told : hs ≡ section_histories t) (n : ℕ) where
  not_committed : (e i : ℕ) → e ≤ length t.sections → NoneBefore hs n e → i < e → is_some (committed_at t i n) ≡ false
  not_committed e i le none lt =
      let got : slice_get hs i ≡ Some (section_history t i) = ap (λ (xs : List SectionHistory). slice_get xs i) told
      ∙ section_history_at t i (omega arith) in
      ap is_some (told_none t i (section_history t i) n refl (none i (section_history t i) lt got))

  pub first_is : (e : ℕ) (h : SectionHistory) → slice_get hs e ≡ Some h → IsTrue (is_some (told_at h n))
      → NoneBefore hs n e → first_to_commit t n ≡ Some e
  first_is e h got some none =
      let count : length hs ≡ length t.sections = ap length told ∙ as_many_told t in
      let lt = slice_get_within hs e h got in
      let here : is_some (committed_at t e n) ≡ true = sym (told_same t e h n (section_history_is t hs e h told got))
      ∙ some in
      let zeroth : 0 + e ≡ e = omega arith in
      find_first (λ i. is_some (committed_at t i n)) 0 t.sections e (omega arith)
      (ap (λ (i : ℕ). is_some (committed_at t i n)) zeroth ∙ here)
      (λ j less. let same : 0 + j ≡ j = omega arith in ap (λ (i : ℕ). is_some (committed_at t i n)) same
      ∙ not_committed e j (omega arith) none less)
      ∙ ap (λ (i : ℕ). Some i) zeroth

  pub first_none : (e : ℕ) → length hs ≤ e → NoneBefore hs n e → first_to_commit t n ≡ None
  first_none e past none =
      let count : length hs ≡ length t.sections = ap length told ∙ as_many_told t in
      find_none (λ i. is_some (committed_at t i n)) 0 t.sections
      (λ j less. let same : 0 + j ≡ j = omega arith in ap (λ (i : ℕ). is_some (committed_at t i n)) same
      ∙ not_committed (length t.sections) j (omega arith) (λ i h lt got. none i h (omega arith) got) less)

none_found : {A : Type 0} (test : ℕ → Bool) (k : ℕ) (xs : List A) (i : ℕ) → i < length xs
    → find test (map (λ s. s.0) (enumerate_from k xs)) ≡ None → test (k + i) ≡ false
none_found test k [] i lt none = absurd (omega arith)
none_found test k (x ∷ xs) i lt none = by (test k) refl i lt (λ j less e. none_found test (k + 1) xs j less e)
  where
    nothing : (m : ℕ) → ◌≡◌ {A = Option ℕ} (Some m) None → ⊥
    nothing m e = cc

    by : (b : Bool) → test k ≡ b → (i : ℕ) → i < suc (length xs)
        → ((j : ℕ) → j < length xs → find test (map (λ s. s.0) (enumerate_from (k + 1) xs)) ≡ None → test (k + 1 + j)
        ≡ false) → test (k + i) ≡ false
    by true is i lt more = absurd (nothing k (sym (rw is refl) ∙ none))
    by false is zero lt more = let zeroth : k + 0 ≡ k = omega arith in ap test zeroth ∙ is
    by false is (suc j) lt more = let same : k + suc j ≡ k + 1 + j = omega arith in ap test same
        ∙ more j (omega arith) (sym (rw is refl) ∙ none)

-- a batch that some replica committed has a first that did
pub first_there : (t : Trace) (e n : ℕ) (p : Placed) → committed_at t e n ≡ Some p → (f : ℕ)
    × (first_to_commit t n ≡ Some f)
first_there t e n p at = by (first_to_commit t n) refl
  where
    by : (o : Option ℕ) → first_to_commit t n ≡ o → (f : ℕ) × (first_to_commit t n ≡ Some f)
    by (Some f) is = (f, is)
    by None is =
        let zeroth : 0 + e ≡ e = omega arith in
        let out : is_some (committed_at t e n) ≡ false = ap (λ (i : ℕ). is_some (committed_at t i n)) (sym zeroth)
        ∙ none_found (λ i. is_some (committed_at t i n)) 0 t.sections e (replica_there t e n p at) is in
        absurd (false≢true (sym out ∙ there_some (committed_at t e n) p at))

-- what was found passes, and nothing before it does
find_passes : {A : Type 0} (test : ℕ → Bool) (k : ℕ) (xs : List A) (f : ℕ)
    → find test (map (λ s. s.0) (enumerate_from k xs)) ≡ Some f → test f ≡ true
find_passes test k [] f found = none≢some f found
find_passes {A = A} test k (x ∷ xs) f found = by (test k) refl (λ later. find_passes test (k + 1) xs f later)
  where
    by : (b : Bool) → test k ≡ b
        → (find test (map (λ s. s.0) (enumerate_from (k + 1) xs)) ≡ Some f → test f ≡ true) → test f ≡ true
    by true is more = let same : k ≡ f = same_Some k f (sym (rw is refl) ∙ found) in ap test (sym same) ∙ is
    by false is more = more (sym (rw is refl) ∙ found)

find_low : {A : Type 0} (test : ℕ → Bool) (k : ℕ) (xs : List A) (f i : ℕ) → i < length xs → test (k + i) ≡ true
    → find test (map (λ s. s.0) (enumerate_from k xs)) ≡ Some f → f ≤ k + i
find_low test k [] f i lt passes found = absurd (omega arith)
find_low {A = A} test k (x ∷ xs) f i lt passes found =
    by (test k) refl i lt passes (λ j less here later. find_low test (k + 1) xs f j less here later)
  where
    by : (b : Bool) → test k ≡ b → (i : ℕ) → i < suc (length xs) → test (k + i) ≡ true
        → ((j : ℕ) → j < length xs → test (k + 1 + j) ≡ true
        → find test (map (λ s. s.0) (enumerate_from (k + 1) xs)) ≡ Some f → f ≤ k + 1 + j) → f ≤ k + i
    by true is i lt passes more = let same : k ≡ f = same_Some k f (sym (rw is refl) ∙ found) in omega arith
    by false is zero lt passes more =
        let zeroth : k + 0 ≡ k = omega arith in
        absurd (false≢true (sym is ∙ ap test (sym zeroth) ∙ passes))
    by false is (suc j) lt passes more =
        let same : k + suc j ≡ k + 1 + j = omega arith in
        let low = more j (omega arith) (ap test (sym same) ∙ passes) (sym (rw is refl) ∙ found) in
        omega arith

-- the first that committed a batch did so
pub first_committed : (t : Trace) (n f : ℕ) → first_to_commit t n ≡ Some f → (p : Placed)
    × (committed_at t f n ≡ Some p)
first_committed t n f first =
    some_there (committed_at t f n) (find_passes (λ e. is_some (committed_at t e n)) 0 t.sections f first)

-- and is no later than any that did
pub first_low : (t : Trace) (n e f : ℕ) (p : Placed) → committed_at t e n ≡ Some p → first_to_commit t n ≡ Some f
    → f ≤ e
first_low t n e f p at first =
    let zeroth : 0 + e ≡ e = omega arith in
    let low = find_low (λ i. is_some (committed_at t i n)) 0 t.sections f e (replica_there t e n p at)
    (ap (λ (i : ℕ). is_some (committed_at t i n)) zeroth ∙ there_some (committed_at t e n) p at) first in
    omega arith

-- an item that is there is read whatever stands for those that aren't
pub read_default : {A : Type 0} (xs : List A) (i : ℕ) (x y : A) → i < length xs → get_or xs i x ≡ get_or xs i y
read_default [] i x y lt = absurd (omega arith)
read_default (z ∷ xs) zero x y lt = refl
read_default (z ∷ xs) (suc i) x y lt = read_default xs i x y (omega arith)

-- the balances of one replica among those of all
pub is_after : (t : Trace) (e n : ℕ) (all : List (List ℤ)) (b : List ℤ) → AreAfter (settlings t) n all
    → e < length t.sections → b ≡ get_or all e b → IsAfter (settling t e) n b
is_after t e n all b after there is =
    let count = settlings_count t in
    let many = after.as_many in
    let within : e < length all = omega arith in
    subst (IsAfter (settling t e) n) (sym (is ∙ read_default all e b [] within))
    (after.each e (settling t e) (settling_at t e there))

pub all_balances : (t : Trace) (e n : ℕ) (all : List (List ℤ)) (b : List ℤ) → AreAfter (settlings t) n all
    → values_in (settling t e) n ≡ values_to t e n → e < length t.sections → b ≡ get_or all e b → b ≡ balances_to t e n
all_balances t e n all b after law there is = balances_are t e n b (is_after t e n all b after there is) law

-- ---- lists that agree in front
