-- Stretches of a replica's committed batches, each judged by itself. docs/ARCHITECTURE.md, "Threads of an audit".
use Rattle.std.specs.Prelude.{◌≡◌, ℕ, ◌≤◌, List, [], ◌∷◌, length, Option, Some, None, All, IsTrue}
use Rattle.eve_grammar.specs.Trace.{Trace}
use Rattle.eve_history.specs.SectionHistory.{SectionHistory, section_history}
use Rattle.eve_chains.specs.CommittedValues.{Settling, settling}
use Rattle.eve_agree.specs.inner.HashedRows.{balances_in, can_hash}
use Rattle.eve_agree.specs.inner.NumbersJudged.{IsAfter}
use Rattle.eve_agree.specs.DueTokens.{IsFirstWrong}
use Rattle.eve_agree.specs.declared.due_tokens.Stretch.{Stretch}

-- the history is that of one of the trace's sections, and these are its settled values
pub record AreOfSection (t : Trace) (h : SectionHistory) (s : Settling) : Type 0 where
  pub history : h ≡ section_history t h.replica
  pub settled : s ≡ settling t h.replica

-- it has the balances before it, and its batches are there
pub record IsComingStretch (s : Settling) (x : Stretch) : Type 0 where
  pub rising : x.before ≤ x.last
  pub there : x.last ≤ length s.numbers
  pub balances : IsAfter s x.before (balances_in x.rows)

-- and it has what the version's tokens are hashed of
pub record IsReadyStretch (version : ℕ) (s : Settling) (x : Stretch) : Type 0 where
  pub coming : IsComingStretch s x
  pub can : IsTrue (can_hash version x.rows)

-- it was judged
pub record IsJudgedStretch (t : Trace) (e : ℕ) (old new : Stretch) : Type 0 where
  pub before : new.before ≡ old.before
  pub last : new.last ≡ old.last
  pub wrong : IsFirstWrong t e old.before old.last new.wrong

-- the stretches follow one another, the first after the given number of batches, and reach to the last
abbrev pub ReachesBatch : ℕ → ℕ → List Stretch → Type 0
ReachesBatch before last [] = before ≡ last
ReachesBatch before last (x ∷ xs) = (x.before ≡ before) × ReachesBatch x.last last xs

-- they follow one another, from the first batch up to this one, and are ready
pub record AreReadyStretches (version : ℕ) (s : Settling) (last : ℕ) (xs : List Stretch) : Type 0 where
  pub reaches : ReachesBatch 0 last xs
  pub ready : All (IsReadyStretch version s) xs

abbrev pub or_else : Option ℕ → Option ℕ → Option ℕ
or_else None other = other
or_else (Some at) other = Some at

-- the first that was found
abbrev pub first_found : List Stretch → Option ℕ
first_found [] = None
first_found (x ∷ xs) = or_else x.wrong (first_found xs)
