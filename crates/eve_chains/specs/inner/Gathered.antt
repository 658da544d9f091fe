-- The entries of attempts, gathered row by row along the section. docs/MODEL.md, "What an entry must see".
use Rattle.std.specs.Prelude.{◌≡◌, ℕ, ◌<◌, if◌then◌else◌, List, [], ◌∷◌, ◌++◌, All, map}
use Rattle.std.specs.List.{flat_map}
use Rattle.eve_smallbank.specs.declared.entry.Entry.{Entry}
use Rattle.eve_history.specs.declared.fate.Fate.{Fate}
use Rattle.eve_history.specs.SectionHistory.{ExecutedAttempt, SectionHistory, is_committed}
use Rattle.eve_chains.specs.inner.Grouped.{standing_at, HasGroups}
use Rattle.eve_chains.specs.Rows.{Noted, noted_by, of_row}
use Rattle.eve_chains.specs.Records.{is_settled, by_fates_between}
use Rattle.eve_chains.specs.declared.note.Note.{Note}
use Rattle.eve_chains.specs.declared.gathered.Noting.{Noting}
use Rattle.eve_chains.specs.declared.grouped.Grouped.{Grouped}

-- ---- one entry

-- a note, as the row's walk meets it
abbrev pub as_noted : Note → Noted
as_noted n = record {
  offset = n.at;
  transferred = n.transferred;
  view = n.view;
  number = n.number;
  commits = n.commits;
  entry = record { version = n.version; seen = n.seen; after = n.after; row = n.row; kind = n.kind };
}

-- what is noted of an entry of a record at this offset
abbrev pub noted_of_entry : Noting → ℕ → Entry → Noted
noted_of_entry x at e = record {
  offset = at;
  transferred = x.transferred;
  view = x.view;
  number = x.number;
  commits = x.commits;
  entry = e;
}

-- ---- of attempts, by what becomes of them

-- attempts, each with how many states were transferred before it
abbrev pub with_transferred : List ExecutedAttempt → List ℕ → List (ExecutedAttempt × ℕ)
with_transferred [] counts = []
with_transferred (r ∷ rs) [] = []
with_transferred (r ∷ rs) (transferred ∷ counts) = (r, transferred) ∷ with_transferred rs counts

-- of records of an attempt with this view, number and fate
abbrev pub noted_along : ExecutedAttempt × ℕ → Fate → List Noted
noted_along x fate = flat_map (noted_by x.1 x.0.attempt.view x.0.attempt.seq (is_committed fate)) x.0.ordered

-- of an attempt that is settled
abbrev pub noted_if_settled : ExecutedAttempt × ℕ → Fate → List Noted
noted_if_settled x fate = if is_settled fate then noted_along x fate else []

-- of the settled ones among attempts from one place up to another
abbrev pub notes_between : SectionHistory → ℕ → ℕ → List Noted
notes_between h from to = by_fates_between noted_if_settled (with_transferred h.attempts h.transferred) h.fates from to

-- ---- row by row

-- a row's own entries in a part
abbrev pub own_in : ℕ → Grouped Note → List Noted
own_in row part = map as_noted (standing_at row part)

-- and in parts, one after another
abbrev pub own_along : ℕ → List (Grouped Note) → List Noted
own_along row parts = flat_map (own_in row) parts

-- in the parts stand, row by row, these entries, and nothing else
pub record AreGathered (rows : ℕ) (ns : List Noted) (parts : List (Grouped Note)) : Type 0 where
  pub own : (row : ℕ) → row < rows → own_along row parts ≡ of_row row ns
  pub groups : All (HasGroups rows) parts

-- and in the parts and then in these notes
pub record HasGathered (rows : ℕ) (ns : List Noted) (parts : List (Grouped Note)) (notes : List Note) : Type 0 where
  pub own : (row : ℕ) → row < rows → own_along row parts ++ of_row row (map as_noted notes) ≡ of_row row ns
  pub groups : All (HasGroups rows) parts
