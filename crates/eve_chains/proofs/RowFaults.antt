-- What is wrong on the rows, each walked by itself, is what is said of chains.
use Rattle.std.proofs.Common.{◌≡◌, inl, inr, ℕ, ◌+◌, ◌||◌, Some, length, ◌==◌, Bool, true, List, [], ◌∷◌, ◌++◌}
use Rattle.std.proofs.Common.{map, filter, flat_map, refl, sym, subst, ap, ◌∙◌, append_assoc, append-nil}
use Rattle.std.proofs.lemmas.Bool.{eqb-true, eq-eqb, ne_eqb}
use Rattle.std.proofs.lemmas.List.{map-append}
use Rattle.std.proofs.lemmas.Grind.{flat_map-append}
use Rattle.std.specs.List.{AllByRecursion}
use Rattle.std.proofs.lemmas.List.Elements.{filter-append}
use Rattle.eve_smallbank.specs.declared.entry.Entry.{Entry}
use Rattle.eve_smallbank.specs.Chain.{Table, Sees}
use Rattle.eve_smallbank.proofs.Members.{In, all_in, all_from_in, in_middle}
use Rattle.eve_smallbank.proofs.Unique.{AreDistinct, entries_are_rows}
use Rattle.eve_smallbank.specs.Access.{Fits}
use Rattle.eve_smallbank.specs.declared.versioned.Versioned.{Versioned}
use Rattle.eve_grammar.specs.Limits.{HasLimits}
use Rattle.eve_grammar.specs.Trace.{Access, Trace}
use Rattle.eve_views.specs.declared.fault.Code.{Code}
use Rattle.eve_views.specs.declared.fault.Code.TheVariants as code
use Rattle.eve_views.specs.declared.fault.Fault.{Fault}
use Rattle.eve_views.specs.Form.{SomePlace, IsFaultIn}
use Rattle.eve_history.specs.Section.{Placed, attempts_by, settled}
use Rattle.eve_history.specs.SectionHistory.{history, names_of, IsRightSection, is_committed, is_discarded}
use Rattle.eve_history.specs.declared.fate.Fate.{Fate}
use Rattle.eve_history.specs.declared.fate.Fate.TheVariants.{Committed, Discarded, Open}
use Rattle.eve_grammar.specs.Frames.{OfAccess, OfAttempt}
use Rattle.eve_grammar.specs.Spelling.{frame_text, accesses_at}
use Rattle.eve_grammar.proofs.Lists.{filter_kept, filter_dropped}
use Rattle.eve_chains.specs.Visible.{executed_by, visible_to}
use Rattle.eve_chains.specs.Sound.{RecordsFit, EntriesSee}
use Rattle.eve_chains.specs.Faults.{AtSettledAccess, StandsInChains}
use Rattle.eve_chains.specs.Along.{SeesAnother}
use Rattle.eve_chains.proofs.Distinct.{in_map, in_source, in_split}
use Rattle.eve_chains.proofs.Faultless.{Standing, place_of, in_place, standing, in_located}
use Rattle.eve_chains.proofs.LeftByRecords.{left_before, right_one, complete_one}
use Rattle.eve_chains.proofs.Attempts.{in_ordered, from_ordered, located_in}
use Rattle.eve_chains.specs.Rows.{Fated, told_of, settles, Noted, noted_by, noted_in, all_noted, of_row}
use Rattle.eve_chains.specs.Rows.{due_on_row}
use Rattle.eve_chains.specs.Rows.{bases_of, pair_after, IsWrongOnRow, EachSees}
use Rattle.eve_chains.proofs.AttemptRecords.{own}
use Rattle.eve_chains.proofs.Paths.{all_placed, view_of, number_of, committed_told, discarded_told}
use Rattle.eve_chains.proofs.EntriesAlongWalks.{settled_there, meets_visible}
use Rattle.eve_chains.proofs.Cuts.{filter_cut, flat_cut, map_cut}

abbrev noted_entry : ℕ → ℕ → ℕ → ℕ → Bool → Entry → Noted
noted_entry at transferred view number commits e =
    record { offset = at; transferred = transferred; view = view; number = number; commits = commits; entry = e }

-- what stands between a prefix and a back is there
in_cut : {A : Type 0} (xs prefix : List A) (x : A) (back : List A) → xs ≡ prefix ++ x ∷ back → In x xs
in_cut xs prefix x back is = subst (In x) (sym is) (in_middle x prefix back)

-- of a request's entries on distinct rows none before this one is of its row
none_before : (at transferred view number : ℕ) (commits : Bool) (row : ℕ) (before : List Entry) (e : Entry)
    (rest : List Entry)
    → AreDistinct (map (λ d. d.row) (before ++ e ∷ rest)) → e.row ≡ row
    → of_row row (map (noted_entry at transferred view number commits) before) ≡ []
none_before at transferred view number commits row [] e rest apart its = refl
none_before at transferred view number commits row (d ∷ before) e rest apart its =
    filter_dropped (λ (n : Noted). n.entry.row == row) (noted_entry at transferred view number commits d)
    (map (noted_entry at transferred view number commits) before) (ne_eqb d.row row other)
    ∙ none_before at transferred view number commits row before e rest apart.1 its
  where
    other : d.row ≡ row → ⊥
    other same = all_in (λ n. ¬ (n ≡ d.row)) apart.0
        (in_map (λ (x : Entry). x.row) (before ++ e ∷ rest) (in_middle e before rest)) (its ∙ sym same)

-- an entry of a settled attempt's record at this offset sees something else than it must
abbrev SeesAnotherAt : Trace → ℕ → Code → ℕ → Type 0
SeesAnotherAt t e c at = AtSettledAccess t e at (λ p x. SomePlace x.entries
    (λ _ y. SeesAnother c (visible_to t p x.index y.row) y))

chain_stands : (t : Trace) (e : ℕ) (c : Code) (at : ℕ) → SeesAnotherAt t e c at → StandsInChains c t e at
chain_stands t e code.Version at other = other
chain_stands t e code.Value at other = other
chain_stands t e _ at other = absurd other.holds.holds.1.holds

other_seen : (t : Trace) (e : ℕ) (c : Code) (at : ℕ) → StandsInChains c t e at → SeesAnotherAt t e c at
other_seen t e code.Version at stands = stands
other_seen t e code.Value at stands = stands
other_seen t e _ at stands = absurd stands

-- where an attempt stands among those told
record ToldAt (told : List Fated) (p : Placed) : Type 0 where
  prefix : List Fated
  item : Fated
  back : List Fated
  is : told ≡ prefix ++ item ∷ back
  passes : settles item ≡ true
  same : item.placed ≡ p

told_at : (told : List Fated) (test : Fate → Bool)
    → ((f : Fate) → test f ≡ true → (is_committed f || is_discarded f) ≡ true) → (p : Placed)
    → In p (all_placed (filter (λ y. test y.fate) told)) → ToldAt told p
told_at told test only p i =
    let s = in_source (λ (y : Fated). y.placed) (filter (λ y. test y.fate) told) i in
    let z = standing (filter (λ y. test y.fate) told) s.there_is in
    let c = filter_cut (λ y. test y.fate) told z.before s.item z.rest z.is in
    record {
      prefix = c.prefix;
      item = s.item;
      back = c.back;
      is = c.is;
      passes = only s.item.fate c.passes;
      same = sym s.is;
    }

committed_settles : (f : Fate) → is_committed f ≡ true → (is_committed f || is_discarded f) ≡ true
committed_settles f e = ap (λ (b : Bool). b || is_discarded f) e

discarded_settles : (f : Fate) → is_discarded f ≡ true → (is_committed f || is_discarded f) ≡ true
discarded_settles Committed e = refl
discarded_settles Discarded e = refl
discarded_settles Open e = e

module _ (t : Trace) (e : ℕ) (limits : HasLimits t) (right : IsRightSection t e)
    (apart : (y : Fated) → In y (told_of t e) → settles y ≡ true → (x : ℕ × Access) → In x (own y.placed)
    → AreDistinct (map (λ d. d.row) x.1.entries)) where
  -- a record of a settled attempt has a frame
  record_framed : (y : Fated) → In y (told_of t e) → settles y ≡ true → (x : ℕ × Access) → In x (own y.placed)
      → In x (accesses_at y.placed.offset y.placed.attempt)
  record_framed y i done x j =
      let there_is = settled_there t e limits right y i done in
      from_ordered t y.placed (right_one t e y.placed right there_is) (complete_one t e y.placed limits there_is) x j

  -- what the row's walk meets at an entry of a record is what the record's entries must see
  meets_must : (prefix : List Fated) (y : Fated) (back : List Fated) → told_of t e ≡ prefix ++ y ∷ back → settles y
      ≡ true
      → (xs : List (ℕ × Access)) (x : ℕ × Access) (zs : List (ℕ × Access)) → own y.placed ≡ xs ++ x ∷ zs
      → (row : ℕ) (n : Noted) → n.transferred ≡ y.transferred → n.view ≡ view_of y
      → due_on_row (bases_of t e row) (pair_after (bases_of t e row)
      (of_row row (all_noted prefix ++ flat_map (noted_by y.transferred (view_of y) (number_of y) (is_committed y.fate))
      xs))) n
      ≡ visible_to t y.placed x.1.index row
  meets_must prefix y back is done xs x zs its row n as_many same =
      let there_is = settled_there t e limits right y (in_cut (told_of t e) prefix y back is) done in
      meets_visible t e limits right prefix y back is done xs row n as_many same
      ∙ ap (λ (table : Table). table row)
      (left_before t y.placed (right_one t e y.placed right there_is) (complete_one t e y.placed limits there_is) xs
      x zs
      its)

  -- a fault on a row stands at some record
  pub row_fault_stands : (row : ℕ) (f : Fault)
      → IsWrongOnRow e (bases_of t e row) (of_row row (all_noted (told_of t e))) f → IsFaultIn StandsInChains t e f
  row_fault_stands row f wrong =
      let place = wrong.stands in
      let n = place.item in
      let a = filter_cut (λ (m : Noted). m.entry.row == row) (all_noted (told_of t e)) place.before n place.rest
      place.is in
      let b = flat_cut noted_in (filter settles (told_of t e)) a.prefix n a.back a.is in
      let c = filter_cut settles (told_of t e) b.earlier b.item b.later b.is in
      let d = flat_cut (noted_by b.item.transferred (view_of b.item) (number_of b.item) (is_committed b.item.fate))
      (own b.item.placed) b.prefix n b.back
      b.inner in
      let m = map_cut (noted_entry d.item.0 b.item.transferred (view_of b.item) (number_of b.item)
      (is_committed b.item.fate)) d.item.1.entries d.prefix n
      d.back d.inner in
      let its : n.entry.row ≡ row = eqb-true n.entry.row row a.passes in
      let same : n.entry ≡ m.item = ap (λ (k : Noted). k.entry) m.it in
      let there_is : In b.item (told_of t e) = in_cut (told_of t e) c.prefix b.item c.back c.is in
      let record_there : In d.item (own b.item.placed) =
      in_cut (own b.item.placed) d.earlier d.item d.later d.is in
      let none : of_row row d.prefix ≡ [] =
      ap (of_row row) m.same ∙ none_before d.item.0 b.item.transferred (view_of b.item) (number_of b.item)
      (is_committed b.item.fate) row m.earlier m.item
      m.later
      (subst (λ (es : List Entry). AreDistinct (map (λ k. k.row) es)) m.is
      (apart b.item there_is c.passes d.item record_there)) (ap (λ (k : Entry). k.row) (sym same) ∙ its) in
      let mine = flat_map (noted_by b.item.transferred (view_of b.item) (number_of b.item) (is_committed b.item.fate))
      d.earlier in
      let all : a.prefix ≡ (all_noted c.prefix ++ mine) ++ d.prefix =
      b.same ∙ (λ i. flat_map noted_in (sym c.same i) ++ d.same i)
      ∙ sym (append_assoc (all_noted c.prefix) mine d.prefix) in
      let before : place.before ≡ of_row row (all_noted c.prefix ++ mine) =
      sym a.same ∙ ap (of_row row) all ∙ filter-append (λ (k : Noted). k.entry.row == row) (all_noted c.prefix ++ mine)
      d.prefix
      ∙ ap (λ (ks : List Noted). of_row row (all_noted c.prefix ++ mine) ++ ks) none
      ∙ append-nil (of_row row (all_noted c.prefix ++ mine)) in
      let table : Table = visible_to t b.item.placed d.item.1.index in
      let checked : due_on_row (bases_of t e row) (pair_after (bases_of t e row) place.before) n
      ≡ table n.entry.row =
      ap (λ (ks : List Noted). due_on_row (bases_of t e row) (pair_after (bases_of t e row) ks) n) before
      ∙ meets_must c.prefix b.item c.back c.is c.passes d.earlier d.item d.later d.is row n
      (ap (λ (k : Noted). k.transferred) m.it) (ap (λ (k : Noted). k.view) m.it) ∙ ap table (sym its) in
      let other : SeesAnother f.code (table n.entry.row) n.entry =
      subst (λ (v : Versioned). SeesAnother f.code v n.entry) checked place.holds.1 in
      let member : In n.entry d.item.1.entries = subst (λ (k : Entry). In k d.item.1.entries) (sym same)
      (in_cut d.item.1.entries m.earlier m.item m.later m.is) in
      record {
        stands = chain_stands t e f.code f.offset
            (place_of (λ p. SomePlace (accesses_at p.offset p.attempt) (λ _ x. (x.0 ≡ f.offset) × SomePlace x.1.entries
            (λ _ z. SeesAnother f.code (visible_to t p x.1.index z.row) z)))
            (settled (history t e)) (settled_there t e limits right b.item there_is c.passes)
            (place_of (λ x. (x.0 ≡ f.offset) × SomePlace x.1.entries
            (λ _ z. SeesAnother f.code (visible_to t b.item.placed x.1.index z.row) z))
            (accesses_at b.item.placed.offset b.item.placed.attempt)
            (record_framed b.item there_is c.passes d.item record_there) (
              sym (ap (λ (k : Noted). k.offset) m.it) ∙ place.holds.0,
              place_of (λ z. SeesAnother f.code (table z.row) z) d.item.1.entries member other,
            )));
        inside = wrong.inside;
      }

  its_place : (p : Placed) → In p (settled (history t e)) → ToldAt (told_of t e) p
  its_place p i =
      elim (in_split (attempts_by (history t e).ways_reached) (history t e).discarded i) [
        | inl j ↦ told_at (told_of t e) is_committed committed_settles p
            (subst (In p) (sym (committed_told t e right)) j)
        | inr j ↦ told_at (told_of t e) is_discarded discarded_settles p
            (subst (In p) (sym (discarded_told t e right)) j)
      ]

  -- where what is noted at an entry stands
  module _ (prefix : List Fated) (y : Fated) (back : List Fated) (is : told_of t e ≡ prefix ++ y ∷ back)
      (done : settles y ≡ true)
      (xs : List (ℕ × Access)) (x : ℕ × Access) (zs : List (ℕ × Access)) (its : own y.placed ≡ xs ++ x ∷ zs)
      (before : List Entry) (en : Entry) (rest : List Entry) (entries_is : x.1.entries ≡ before ++ en ∷ rest) where
    abbrev note : Noted
    note = noted_entry x.0 y.transferred (view_of y) (number_of y) (is_committed y.fate) en

    abbrev mine : List Noted
    mine = flat_map (noted_by y.transferred (view_of y) (number_of y) (is_committed y.fate)) xs

    abbrev own_before : List Noted
    own_before = map (noted_entry x.0 y.transferred (view_of y) (number_of y) (is_committed y.fate)) before

    abbrev others : List Noted
    others =
        map (noted_entry x.0 y.transferred (view_of y) (number_of y) (is_committed y.fate)) rest ++
        (flat_map (noted_by y.transferred (view_of y) (number_of y) (is_committed y.fate)) zs ++ all_noted back)

    in_record : noted_by y.transferred (view_of y) (number_of y) (is_committed y.fate) x
        ≡ own_before ++ note ∷ map (noted_entry x.0 y.transferred (view_of y) (number_of y) (is_committed y.fate)) rest
    in_record = ap (map (noted_entry x.0 y.transferred (view_of y) (number_of y) (is_committed y.fate))) entries_is
        ∙ map-append (noted_entry x.0 y.transferred (view_of y) (number_of y) (is_committed y.fate)) before (en ∷ rest)

    in_attempt : noted_in y ≡ mine ++
        (noted_by y.transferred (view_of y) (number_of y) (is_committed y.fate) x ++ flat_map
        (noted_by y.transferred (view_of y) (number_of y) (is_committed y.fate)) zs)
    in_attempt = ap (flat_map (noted_by y.transferred (view_of y) (number_of y) (is_committed y.fate))) its
        ∙ flat_map-append (noted_by y.transferred (view_of y) (number_of y) (is_committed y.fate)) xs (x ∷ zs)

    in_all : all_noted (told_of t e) ≡ all_noted prefix ++ (noted_in y ++ all_noted back)
    in_all =
        ap all_noted is ∙ ap (flat_map noted_in) (filter-append settles prefix (y ∷ back)
        ∙ ap (λ ys. filter settles prefix ++ ys) (filter_kept settles y back done))
        ∙ flat_map-append noted_in (filter settles prefix) (y ∷ filter settles back)

    all_is : all_noted (told_of t e) ≡ ((all_noted prefix ++ mine) ++ own_before) ++ note ∷ others
    all_is =
        in_all ∙ ap (λ ns. all_noted prefix ++ (ns ++ all_noted back))
        (in_attempt ∙ ap (λ ns. mine ++
        (ns ++ flat_map (noted_by y.transferred (view_of y) (number_of y) (is_committed y.fate)) zs)) in_record)
        ∙ ap (λ ns. all_noted prefix ++ ns)
        (append_assoc mine ((own_before ++ note ∷ map
        (noted_entry x.0 y.transferred (view_of y) (number_of y) (is_committed y.fate)) rest)
        ++ flat_map (noted_by y.transferred (view_of y) (number_of y) (is_committed y.fate)) zs) (all_noted back))
        ∙ sym (append_assoc (all_noted prefix) mine
        (((own_before ++ note ∷ map (noted_entry x.0 y.transferred (view_of y) (number_of y) (is_committed y.fate))
        rest)
        ++ flat_map
        (noted_by y.transferred (view_of y) (number_of y) (is_committed y.fate)) zs) ++ all_noted back))
        ∙ ap (λ ns. (all_noted prefix ++ mine) ++ ns)
        (append_assoc (own_before ++ note ∷ map
        (noted_entry x.0 y.transferred (view_of y) (number_of y) (is_committed y.fate)) rest)
        (flat_map (noted_by y.transferred (view_of y) (number_of y) (is_committed y.fate)) zs) (all_noted back)
        ∙ append_assoc own_before (note ∷ map
        (noted_entry x.0 y.transferred (view_of y) (number_of y) (is_committed y.fate)) rest)
        (flat_map (noted_by y.transferred (view_of y) (number_of y) (is_committed y.fate)) zs ++ all_noted back))
        ∙ sym (append_assoc (all_noted prefix ++ mine) own_before (note ∷ others))

    there_is : In y (told_of t e)
    there_is = subst (In y) (sym is) (in_middle y prefix back)

    record_there : In x (own y.placed)
    record_there = subst (In x) (sym its) (in_middle x xs zs)

    row_is : of_row en.row (all_noted (told_of t e)) ≡ of_row en.row (all_noted prefix ++ mine) ++ note ∷ of_row en.row
        others
    row_is =
        ap (of_row en.row) all_is ∙ filter-append (λ (n : Noted). n.entry.row == en.row)
        ((all_noted prefix ++ mine) ++ own_before) (note ∷ others)
        ∙ (λ i. prefix_is i ++ filter_kept (λ (n : Noted). n.entry.row == en.row) note others
        (eq-eqb en.row en.row refl)
        i)
      where
        prefix_is : of_row en.row ((all_noted prefix ++ mine) ++ own_before) ≡ of_row en.row (all_noted prefix ++ mine)
        prefix_is =
            filter-append (λ (n : Noted). n.entry.row == en.row) (all_noted prefix ++ mine) own_before
            ∙ ap (λ ns. of_row en.row (all_noted prefix ++ mine) ++ ns)
            (none_before x.0 y.transferred (view_of y) (number_of y) (is_committed y.fate) en.row before en rest
            (subst (λ (es : List Entry). AreDistinct (map (λ k. k.row) es)) entries_is
            (apart y there_is done x record_there)) refl)
            ∙ append-nil (of_row en.row (all_noted prefix ++ mine))

    checked : due_on_row (bases_of t e en.row)
        (pair_after (bases_of t e en.row) (of_row en.row (all_noted prefix ++ mine))) note
        ≡ visible_to t y.placed x.1.index en.row
    checked = meets_must prefix y back is done xs x zs its en.row note refl refl

    found_there : (f : Fault) → x.0 ≡ f.offset → SeesAnother f.code (visible_to t y.placed x.1.index en.row) en
        → f.replica ≡ Some e
        → IsWrongOnRow e (bases_of t e en.row) (of_row en.row (all_noted (told_of t e))) f
    found_there f at other inside = record {
      stands = record {
        before = of_row en.row (all_noted prefix ++ mine);
        item = note;
        rest = of_row en.row others;
        is = row_is;
        holds = (at, subst (λ (w : Versioned). SeesAnother f.code w en) (sym checked) other);
      };
      inside = inside;
    }

    sees_there : EachSees (bases_of t e en.row) (of_row en.row (all_noted (told_of t e)))
        → Sees (visible_to t y.placed x.1.index) en
    sees_there each =
        let own_seen = each (of_row en.row (all_noted prefix ++ mine)) note (of_row en.row others) row_is in
        record {
          version = own_seen.0 ∙ ap (λ (w : Versioned). w.version) checked;
          value = own_seen.1 ∙ ap (λ (w : Versioned). w.value) checked;
        }

  -- where a framed record of a settled attempt stands among its own
  stands_own : (p : Placed) → In p (settled (history t e)) → (x : ℕ × Access) → In x (accesses_at p.offset p.attempt)
      → Standing (own p) x
  stands_own p i x j = standing (own p) (in_ordered t p (right_one t e p right i) x j)

  -- a fault of chains stands on a row
  pub fault_on_row : (f : Fault) → IsFaultIn StandsInChains t e f → (row : ℕ)
      × IsWrongOnRow e (bases_of t e row) (of_row row (all_noted (told_of t e))) f
  fault_on_row f fault =
      let wrong = other_seen t e f.code f.offset fault.stands in
      let i = in_place (settled (history t e)) wrong in
      let p = its_place wrong.item i in
      let x = wrong.holds.item in
      let o = subst (λ q. Standing (own q) x) (sym p.same)
      (stands_own wrong.item i x (in_place (accesses_at wrong.item.offset wrong.item.attempt) wrong.holds)) in
      let at = wrong.holds.holds.1 in (
        at.item.row,
        found_there p.prefix p.item p.back p.is p.passes o.before x o.rest o.is at.before at.item at.rest at.is f
            wrong.holds.holds.0
            (subst (λ q. SeesAnother f.code (visible_to t q x.1.index at.item.row) at.item) (sym p.same) at.holds)
            fault.inside,
      )

  -- where each row's entries see what its walk meets, each entry sees what it must
  pub all_rows_see : ((row : ℕ) → EachSees (bases_of t e row) (of_row row (all_noted (told_of t e)))) → EntriesSee t e
  all_rows_see each =
      all_from_in (λ p. AllByRecursion (λ x. AllByRecursion (Sees (visible_to t p x.index)) x.entries)
      p.attempt.accesses) (settled (history t e)) (λ p i.
      all_from_in (λ x. AllByRecursion (Sees (visible_to t p x.index)) x.entries) p.attempt.accesses (λ x j.
      all_from_in (Sees (visible_to t p x.index)) x.entries (λ en k.
      let q = its_place p i in
      let framed = located_in (p.offset + length (frame_text (OfAttempt p.attempt))) p.attempt.accesses j in
      let o = subst (λ r. Standing (own r) (framed.0, x)) (sym q.same) (stands_own p i (framed.0, x) framed.1) in
      let s = standing x.entries k in
      subst (λ r. Sees (visible_to t r x.index) en) q.same
      (sees_there q.prefix q.item q.back q.is q.passes o.before (framed.0, x) o.rest o.is s.before en s.rest s.is
      (each en.row)))))

-- ---- one row each

-- the entries of a record that fits are on distinct rows
pub rows_apart : (t : Trace) (e : ℕ) → HasLimits t → IsRightSection t e → RecordsFit t e → (y : Fated)
    → In y (told_of t e) → settles y ≡ true → (x : ℕ × Access) → In x (own y.placed)
    → AreDistinct (map (λ d. d.row) x.1.entries)
rows_apart t e limits right fits y i done x j =
    let there_is = settled_there t e limits right y i done in
    let frame = from_ordered t y.placed (right_one t e y.placed right there_is)
    (complete_one t e y.placed limits there_is) x j in
    let all = all_in (λ q. AllByRecursion (λ z. Fits (names_of t) (executed_by t q.attempt z)) q.attempt.accesses) fits
    there_is in
    let access = in_located (λ z. frame_text (OfAccess z))
    (y.placed.offset + length (frame_text (OfAttempt y.placed.attempt))) y.placed.attempt.accesses x frame in
    (entries_are_rows (names_of t) (executed_by t y.placed.attempt x.1)
    (all_in (λ z. Fits (names_of t) (executed_by t y.placed.attempt z)) all access)).distinct
