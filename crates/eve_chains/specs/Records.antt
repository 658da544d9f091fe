-- Records, each by itself; those of settled attempts, one after another; and the first that doesn't fit its request.
-- docs/MODEL.md, "A record fits its request".
use Rattle.std.specs.Prelude.{◌≡◌, ℕ, ◌<◌, ◌≤◌, nat_lt, Bool, ◌||◌, if◌then◌else◌, List, [], ◌∷◌, ◌++◌, map}
use Rattle.std.specs.Prelude.{length, Option, Some, None, slice_get, slice_index_or}
use Rattle.std.specs.List.{AllByRecursion, slice_range}
use Rattle.eve_smallbank.specs.declared.request.Reply.{Reply}
use Rattle.eve_smallbank.specs.declared.request.Reply.TheVariants.{Done}
use Rattle.eve_smallbank.specs.SmallBank.{Request, Balance}
use Rattle.eve_smallbank.specs.Access.{Executed, Fits}
use Rattle.eve_grammar.specs.Trace.{Access, Trace}
use Rattle.eve_history.specs.declared.fate.Fate.{Fate}
use Rattle.eve_history.specs.SectionHistory.{ExecutedAttempt, SectionHistory, section_history, IsRightSection}
use Rattle.eve_history.specs.SectionHistory.{is_committed, is_discarded}
use Rattle.eve_views.specs.Form.{SomePlace}
use Rattle.eve_chains.specs.Visible.{executed_by}
use Rattle.eve_smallbank.specs.declared.entry.Entry.{Entry}
use Rattle.eve_chains.specs.declared.stretch.Stretch.{Stretch}

-- a request with its reply and its entries
abbrev pub recorded : Request → Reply → List Entry → Executed
recorded request reply entries = record { request = request; reply = reply; entries = entries }

-- ---- the records, each with the offset of its frame

-- of these requests with these replies
abbrev pub recorded_of : List Request → List Reply → ℕ × Access → ℕ × Executed
recorded_of requests replies x =
    (x.0, recorded (slice_index_or requests x.1.index (Balance [])) (slice_index_or replies x.1.index Done) x.1.entries)

-- of an attempt, in its certificate's order
abbrev pub records_along : Trace → ExecutedAttempt → List (ℕ × Executed)
records_along t r = map (λ x. (x.0, executed_by t r.attempt x.1)) r.ordered

-- as many requests as its certificate lists, and one for each record's index
pub record HasRequests (count : ℕ) (r : ExecutedAttempt) : Type 0 where
  pub as_many : length r.attempt.certificate ≡ count
  pub there : AllByRecursion (λ x. x.1.index < count) r.ordered

abbrev pub is_settled : Fate → Bool
is_settled fate = is_committed fate || is_discarded fate

-- of an attempt that is settled
abbrev pub records_if_settled : Trace → ExecutedAttempt → Fate → List (ℕ × Executed)
records_if_settled t r fate = if is_settled fate then records_along t r else []

-- of attempts with these fates, one after another
abbrev pub by_fates : {A B : Type 0} → (B → Fate → List A) → List B → List Fate → List A
by_fates of [] fates = []
by_fates of (x ∷ xs) [] = []
by_fates of (x ∷ xs) (fate ∷ fates) = of x fate ++ by_fates of xs fates

-- of those from one place up to another
abbrev pub by_fates_between : {A B : Type 0} → (B → Fate → List A) → List B → List Fate → ℕ → ℕ → List A
by_fates_between of xs fates from to = by_fates of (slice_range xs from to) (slice_range fates from to)

-- of the settled ones among attempts with these fates
abbrev pub settled_records : Trace → List ExecutedAttempt → List Fate → List (ℕ × Executed)
settled_records t rs fates = by_fates (records_if_settled t) rs fates

-- of those from one place up to another
abbrev pub records_between : Trace → SectionHistory → ℕ → ℕ → List (ℕ × Executed)
records_between t h from to = by_fates_between (records_if_settled t) h.attempts h.fates from to

-- ---- the first that doesn't fit

-- each fits its request, or this is the least offset of those that don't
abbrev pub IsLeastMismatch : List (List ℕ) → List (ℕ × Executed) → Option ℕ → Type 0
IsLeastMismatch names xs None = AllByRecursion (λ x. Fits names x.1) xs
IsLeastMismatch names xs (Some at) =
    SomePlace xs (λ _ x. (x.0 ≡ at) × ¬ Fits names x.1) × AllByRecursion (λ x. ¬ Fits names x.1 → at ≤ x.0) xs

-- the same of those of a stretch of attempts
abbrev pub IsSearched : List (List ℕ) → Trace → SectionHistory → Stretch → Option ℕ → Type 0
IsSearched names t h x least = IsLeastMismatch names (records_between t h x.from x.to) least

-- the attempt at this place is one of those that a right section tells
pub record CanBeJudged (t : Trace) (h : SectionHistory) (i : ℕ) : Type 0 where
  pub told : h ≡ section_history t h.replica
  pub right : IsRightSection t h.replica
  pub attempt : i < length h.attempts
  pub fate : i < length h.fates

-- the same of the records of the attempt at this place
abbrev pub IsLeastOfAttempt : List (List ℕ) → Trace → SectionHistory → ℕ → Option ℕ → Type 0
IsLeastOfAttempt names t h i least =
    (r : ExecutedAttempt) (fate : Fate) → slice_get h.attempts i ≡ Some r → slice_get h.fates i ≡ Some fate
    → IsLeastMismatch names (records_if_settled t r fate) least

abbrev pub lesser : Option ℕ → Option ℕ → Option ℕ
lesser None other = other
lesser (Some m) None = Some m
lesser (Some m) (Some n) = if nat_lt n m then Some n else Some m
