-- What a request must see, and who left it, by what was found on the way to it.
use Rattle.std.proofs.Common.{◌≡◌, ℕ, List, [], ◌++◌, map, take, Option, sym, subst, ap, ◌∙◌}
use Rattle.std.specs.List.{flat_map}
use Rattle.eve_smallbank.specs.declared.versioned.Versioned.{Versioned}
use Rattle.eve_smallbank.specs.Chain.{Table}
use Rattle.eve_grammar.specs.Trace.{Access, Attempt, Transfer, Trace}
use Rattle.eve_grammar.specs.Frames.{without_accesses}
use Rattle.eve_grammar.specs.Spelling.{accesses_at}
use Rattle.eve_grammar.proofs.Lists.{all-append}
use Rattle.eve_history.specs.Section.{SectionState}
use Rattle.eve_chains.specs.Visible.{before_index, visible_to}
use Rattle.eve_evidence.specs.declared.course.Course.{Course}
use Rattle.eve_evidence.specs.declared.evidence.Source.{Source}
use Rattle.eve_evidence.specs.declared.sources.Left.{Left}
use Rattle.eve_evidence.specs.Course.{placed_on, last_state, standing, state_decoded, IsCourse}
use Rattle.eve_evidence.specs.Told.{placed_in}
use Rattle.eve_evidence.specs.Sources.{Passed, passed, passed_in, way_to, IsWriter, NoneWrites, IsLeftBy}
use Rattle.eve_evidence.specs.Sources.{state_table, table_after_way}
use Rattle.eve_evidence.specs.inner.Lasts.{IsLast}
use Rattle.eve_evidence.proofs.LastWrites.{last_inside, last_behind, last_table, left_of_last, kept_along}
use Rattle.eve_evidence.proofs.Ways.{way_table}

module _ (t : Trace) (s : SectionState) (course : Course) (decoded a : Attempt) (xs : List (ℕ × Access))
    (at index place row : ℕ) (is : IsCourse s course) (decoded_is : decoded ≡ without_accesses a)
    (xs_are : xs ≡ accesses_at at a)
    (before : take place decoded.certificate ≡ before_index index decoded.certificate) where
  abbrev pub own : List Passed
  own = passed decoded.seq xs (take place decoded.certificate)

  abbrev pub path : List Passed
  path = flat_map passed_in (map placed_on course.path.items)

  own_is : own ≡ passed a.seq (accesses_at at a) (before_index index a.certificate)
  own_is =
      ap (passed decoded.seq xs) before
      ∙ ap (λ (b : Attempt). passed b.seq xs (before_index index b.certificate)) decoded_is
      ∙ ap (λ (ys : List (ℕ × Access)). passed a.seq ys (before_index index a.certificate)) xs_are

  pub whole : path ++ own ≡ way_to (standing s) at a index
  whole i = flat_map passed_in (is.path i) ++ own_is i

  abbrev state : Option (ℕ × Transfer)
  state = last_state s.ways_reached

  from_last : (l : Left) → IsLast row (path ++ own) l → IsLeftBy state row (way_to (standing s) at a index) l.by
  from_last l last =
      subst (λ (w : List Passed). IsLeftBy state row w l.by) whole (left_of_last row state (path ++ own) l last)

  seen : visible_to t (placed_in s at a) index row ≡ table_after_way (state_table t state) (path ++ own) row
  seen =
      ap (λ (table : Table). table row) (way_table t s at a index)
      ∙ ap (λ (w : List Passed). table_after_way (state_table t state) w row) (sym whole)

  -- one of its own records left it
  pub by_own : (l : Left) → IsLast row own l → IsLeftBy state row (way_to (standing s) at a index) l.by
  by_own l last = from_last l (last_behind row path own l last)

  pub has_own : (l : Left) → IsLast row own l → l.has ≡ visible_to t (placed_in s at a) index row
  has_own l last = sym (seen ∙ last_table row (path ++ own) l (state_table t state) (last_behind row path own l last))

  -- a record on the path did
  pub by_path : (l : Left) → IsLast row path l → NoneWrites row own
      → IsLeftBy state row (way_to (standing s) at a index) l.by
  by_path l last none = from_last l (last_inside row [] path own l last none)

  pub has_path : (l : Left) → IsLast row path l → NoneWrites row own
      → l.has ≡ visible_to t (placed_in s at a) index row
  has_path l last none =
      sym (seen ∙ last_table row (path ++ own) l (state_table t state) (last_inside row [] path own l last none))

  -- none did
  none_all : NoneWrites row path → NoneWrites row own → NoneWrites row (path ++ own)
  none_all none_path none_own = all-append (λ (x : Passed). ¬ IsWriter row x) path own none_path none_own

  pub by_first : (by : Source)
      → ((way : List Passed) → NoneWrites row way → IsLeftBy (state_decoded course.transferred) row way by)
      → NoneWrites row path → NoneWrites row own → IsLeftBy state row (way_to (standing s) at a index) by
  by_first by left none_path none_own =
      subst (λ (st : Option (ℕ × Transfer)). IsLeftBy st row (way_to (standing s) at a index) by) is.transferred
      (subst (λ (w : List Passed). IsLeftBy (state_decoded course.transferred) row w by) whole
      (left (path ++ own) (none_all none_path none_own)))

  pub has_first : (v : Versioned) → v ≡ state_table t (state_decoded course.transferred) row → NoneWrites row path
      → NoneWrites row own → v ≡ visible_to t (placed_in s at a) index row
  has_first v v_is none_path none_own =
      v_is ∙ ap (λ (st : Option (ℕ × Transfer)). state_table t st row) is.transferred
      ∙ sym (seen ∙ kept_along row (path ++ own) (state_table t state) (none_all none_path none_own))
