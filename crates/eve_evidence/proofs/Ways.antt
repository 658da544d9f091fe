-- The way to a record, and what the rows have at its end.
use Rattle.std.proofs.Common.{◌≡◌, ℕ, ◌+◌, Bool, true, false, cond, ◌==◌, List, [], ◌∷◌, ◌++◌, map, length, fold}
use Rattle.std.proofs.Common.{Option, Some, None, refl, sym, ap, ◌∙◌}
use Rattle.std.specs.List.{flat_map}
use Rattle.std.proofs.lemmas.List.{map-append}
use Rattle.std.proofs.lemmas.List.Sums.{fold-append}
use Rattle.eve_smallbank.specs.declared.entry.Entry.{Entry}
use Rattle.eve_smallbank.specs.Chain.{Table, table_after, table_after_all}
use Rattle.eve_grammar.specs.Trace.{Access, Attempt, Transfer, Trace}
use Rattle.eve_grammar.specs.Frames.{OfAccess, OfAttempt}
use Rattle.eve_grammar.specs.Spelling.{frame_text, located, accesses_at}
use Rattle.eve_history.specs.Section.{Came, Ran, Placed, HowReached, ByAttempt, ByTransfer, Skipped, came_by}
use Rattle.eve_history.specs.Section.{SectionState, path_of}
use Rattle.eve_history.specs.SectionHistory.{access_with, placed_at}
use Rattle.eve_chains.specs.Visible.{entries_with, executed_in, with_came, rows_after, opening_table}
use Rattle.eve_chains.specs.Visible.{before_index, visible_to}
use Rattle.eve_evidence.specs.Course.{later_state, last_state, with_reached, attempts_behind, standing}
use Rattle.eve_evidence.specs.Told.{placed_in}
use Rattle.eve_evidence.specs.Sources.{passed, passed_in, way_to, state_table, table_after_way}
use Rattle.eve_evidence.proofs.LastWrites.{along-append}

abbrev access_text : Access → List ℕ
access_text x = frame_text (OfAccess x)

same_entries : (at : ℕ) (xs : List Access) (i : ℕ) → (access_with (located access_text at xs) i).1.entries
    ≡ entries_with xs i
same_entries at [] i = refl
same_entries at (x ∷ xs) i = by (x.index == i) (same_entries (at + length (access_text x)) xs i)
  where
    by : (b : Bool) → (access_with (located access_text (at + length (access_text x)) xs) i).1.entries ≡ entries_with
        xs i
        → (cond b (at, x) (access_with (located access_text (at + length (access_text x)) xs) i)).1.entries
        ≡ cond b x.entries (entries_with xs i)
    by true rest = refl
    by false rest = rest

abbrev ran : Placed → Came
ran p = Ran p.attempt

module _ (t : Trace) where
  order_table : (table : Table) (at : ℕ) (a : Attempt) (order : List ℕ)
      → table_after_all table (executed_in t a order)
      ≡ table_after_way table (passed a.seq (accesses_at at a) order)
  order_table table at a [] = refl
  order_table table at a (i ∷ order) =
      ap (λ (es : List Entry). table_after_all (table_after table es) (executed_in t a order))
      (sym (same_entries (at + length (frame_text (OfAttempt a))) a.accesses i))
      ∙ order_table (table_after table (access_with (accesses_at at a) i).1.entries) at a order

  path_table : (table : Table) (ps : List Placed) → fold (with_came t) table (map ran ps)
      ≡ table_after_way table (flat_map passed_in (map placed_at ps))
  path_table table [] = refl
  path_table table (p ∷ ps) =
      let own = passed_in (placed_at p) in
      ap (λ (now : Table). fold (with_came t) now (map ran ps))
      (order_table table p.offset p.attempt p.attempt.certificate)
      ∙ path_table (table_after_way table own) ps
      ∙ sym (along-append 0 table own (flat_map passed_in (map placed_at ps)))

  -- what came by numbers that were reached is what their last state has, and what the attempts behind it did
  ways_reached_table : (state : Option (ℕ × Transfer)) (ps : List Placed) (ls : List HowReached)
      → fold (with_came t) (fold (with_came t) (state_table t state) (map ran ps)) (flat_map came_by ls)
      ≡ fold (with_came t) (state_table t (fold later_state state ls)) (map ran (fold with_reached ps ls))
  ways_reached_table state ps [] = refl
  ways_reached_table state ps (ByAttempt p ∷ ls) =
      ap (λ (now : Table). fold (with_came t) now (flat_map came_by ls))
      (sym (fold-append (with_came t) (state_table t state) (map ran ps) (ran p ∷ []))
      ∙ ap (fold (with_came t) (state_table t state)) (sym (map-append ran ps (p ∷ []))))
      ∙ ways_reached_table state (ps ++ p ∷ []) ls
  ways_reached_table state ps (ByTransfer at x ∷ ls) = ways_reached_table (Some (at, x)) [] ls
  ways_reached_table state ps (Skipped ∷ ls) = ways_reached_table state ps ls

  path_rows : (s : SectionState) → rows_after t (path_of s)
      ≡ fold (with_came t) (state_table t (last_state s.ways_reached))
      (map ran (attempts_behind s.ways_reached ++ s.pending))
  path_rows s =
      let first = state_table t (last_state s.ways_reached) in
      fold-append (with_came t) (opening_table t) (flat_map came_by s.ways_reached) (map ran s.pending)
      ∙ ap (λ (now : Table). fold (with_came t) now (map ran s.pending)) (ways_reached_table None [] s.ways_reached)
      ∙ sym (fold-append (with_came t) first (map ran (attempts_behind s.ways_reached)) (map ran s.pending))
      ∙ ap (fold (with_came t) first) (sym (map-append ran (attempts_behind s.ways_reached) s.pending))

  -- what an entry must see is what the records on its way leave
  pub way_table : (s : SectionState) (at : ℕ) (a : Attempt) (index : ℕ)
      → visible_to t (placed_in s at a) index
      ≡ table_after_way (state_table t (last_state s.ways_reached)) (way_to (standing s) at a index)
  way_table s at a index =
      let own = before_index index a.certificate in
      let first = state_table t (last_state s.ways_reached) in
      ap (λ (now : Table). table_after_all now (executed_in t a own))
      (path_rows s ∙ path_table first (attempts_behind s.ways_reached ++ s.pending))
      ∙ order_table (table_after_way first (flat_map passed_in (standing s))) at a own
      ∙ sym (along-append 0 first (flat_map passed_in (standing s)) (passed a.seq (accesses_at at a) own))
