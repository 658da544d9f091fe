-- Where what an entry saw comes from, on its way or behind it in its own attempt.
use Rattle.std.proofs.Common.{◌≡◌, ◌≢◌, ℕ, suc, ◌+◌, ◌≤◌, ◌==◌, cond, Bool, true, false, List, [], ◌∷◌, ◌++◌, length}
use Rattle.std.proofs.Common.{take, drop}
use Rattle.std.proofs.Common.{Option, refl, sym, ap, subst, ◌∙◌, inl, inr, arith}
use Rattle.std.specs.Prelude.{IsTrue, IsFalse}
use Rattle.std.proofs.lemmas.List.{append-nil, length-take-le, take_all, drop_all}
use Rattle.eve_smallbank.specs.declared.versioned.Versioned.{Versioned}
use Rattle.eve_grammar.specs.Trace.{Access, Attempt, Step, Trace, Transfer}
use Rattle.eve_grammar.specs.Frames.{without_accesses}
use Rattle.eve_grammar.specs.Spelling.{accesses_at}
use Rattle.eve_grammar.proofs.Lists.{all-append, no_item}
use Rattle.eve_history.specs.Section.{SectionState, start, state_after}
use Rattle.eve_chains.specs.Visible.{before_index}
use Rattle.eve_evidence.specs.declared.course.Course.{Course}
use Rattle.eve_evidence.specs.declared.evidence.Source.{Source}
use Rattle.eve_evidence.specs.declared.evidence.Source.TheVariants as source
use Rattle.eve_evidence.specs.declared.evidence.SeenFrom.TheVariants as seen
use Rattle.eve_evidence.specs.declared.sought.Sought.{Sought}
use Rattle.eve_evidence.specs.declared.sought.Sought.TheVariants.{Left}
use Rattle.eve_evidence.specs.Course.{IsCourse, state_decoded}
use Rattle.eve_evidence.specs.Sources.{Passed, passed, state_table, NoneWrites, IsLeftBy}
use Rattle.eve_evidence.specs.Sought.{RecordMeets, NoneFound, IsFirstFound, IsLastFound}
use Rattle.eve_evidence.specs.Seen.{Look, look, IsBase, NoneOnWay, IsSeenFrom, behind_index, records_behind, way_of}
use Rattle.eve_evidence.proofs.VisibleRows.{own, path, whole}
use Rattle.eve_evidence.proofs.RecordsMet.{found_inside}

-- ---- behind an index

pub behind_is : (index : ℕ) (order : List ℕ) → behind_index index order
    ≡ drop (length (before_index index order) + 1) order
behind_is index order =
    let count = length (before_index index order) in
    let next : suc count ≡ count + 1 = omega arith in
    by order ∙ ap (λ (n : ℕ). drop n order) next
  where
    by : (order : List ℕ) → behind_index index order ≡ drop (suc (length (before_index index order))) order
    by [] = refl
    by (j ∷ order) = elim (j == index) as (λ b. cond b order (behind_index index order)
        ≡ drop (suc (length (cond b [] (j ∷ before_index index order)))) (j ∷ order))
        [ true ↦ refl | false ↦ by order ]

-- the base is told, by who left what no record wrote
base_of_left : (state : Option (ℕ × Transfer)) (row : ℕ) (by : Source) → IsLeftBy state row [] by → IsBase state by
base_of_left state row source.Opening left = left.0
base_of_left state row (source.Transfer at) left = left.0
base_of_left state row (source.Write index batch at) left =
    absurd (no_item left.1.before left.0 left.1.behind left.1.is)

module _ (t : Trace) (prefix behind : List (ℕ × Step)) (course : Course) (decoded a : Attempt) (xs : List (ℕ × Access))
    (at index place row : ℕ) (has : Versioned) (is : IsCourse (state_after start prefix) course)
    (decoded_is : decoded ≡ without_accesses a) (xs_are : xs ≡ accesses_at at a)
    (before : take place decoded.certificate ≡ before_index index decoded.certificate) where
  abbrev s : SectionState
  s = state_after start prefix

  abbrev l : Look
  l = look prefix behind at a index row has

  abbrev sought : Sought
  sought = Left row has

  abbrev its_own : List Passed
  its_own = own t s course decoded a xs at index place row is decoded_is xs_are before

  abbrev its_path : List Passed
  its_path = path t s course decoded a xs at index place row is decoded_is xs_are before

  way_is : its_path ++ its_own ≡ way_of l
  way_is = whole t s course decoded a xs at index place row is decoded_is xs_are before

  pub by_own : (source : Source) → IsLastFound sought its_own source → IsSeenFrom t l (seen.Overwritten source)
  by_own source last = inl (subst (λ (w : List Passed). IsLastFound sought w source)
      (ap (λ (ws : List Passed). its_path ++ ws) (append-nil its_own) ∙ way_is)
      (found_inside sought its_path its_own [] source last tt))

  pub by_path : (source : Source) → IsLastFound sought its_path source → NoneFound sought its_own
      → IsSeenFrom t l (seen.Overwritten source)
  by_path source last none =
      inl (subst (λ (w : List Passed). IsLastFound sought w source) way_is
      (found_inside sought [] its_path its_own source last
      none))

  none_on : NoneFound sought its_path → NoneFound sought its_own → NoneFound sought (way_of l)
  none_on none_path none_own =
      subst (NoneFound sought) way_is
      (all-append (λ (x : Passed). ¬ RecordMeets sought x) its_path its_own none_path none_own)

  pub by_base : (v : Versioned) (source : Source)
      → ((way : List Passed) → NoneWrites row way → IsLeftBy (state_decoded course.transferred) row way source)
      → v ≡ state_table t (state_decoded course.transferred) row → v ≡ has → NoneFound sought its_path
      → NoneFound sought its_own
      → IsSeenFrom t l (seen.Overwritten source)
  by_base v source left v_is gives none_path none_own = inr (
    subst (λ (st : Option (ℕ × Transfer)). IsBase st source) is.transferred
        (base_of_left (state_decoded course.transferred) row source (left [] tt)),
    ap (λ (st : Option (ℕ × Transfer)). state_table t st row) (sym is.transferred) ∙ sym v_is ∙ gives,
    none_on none_path none_own,
  )

  pub none_there : (v : Versioned) → v ≡ state_table t (state_decoded course.transferred) row → v ≢ has
      → NoneFound sought its_path → NoneFound sought its_own → NoneOnWay t l
  none_there v v_is other none_path none_own = record {
    base = λ gives. other (v_is ∙ ap (λ (st : Option (ℕ × Transfer)). state_table t st row) is.transferred ∙ gives);
    way = none_on none_path none_own;
  }

  -- ---- behind it

  serial_is : decoded.serial ≡ a.serial
  serial_is = ap (λ (b : Attempt). b.serial) decoded_is

  -- in a serial attempt none is behind it
  pub none_serial : IsTrue decoded.serial → NoneFound sought (records_behind l)
  none_serial serial = by a.serial (sym serial_is ∙ serial)
    where
      by : (b : Bool) → b ≡ true → NoneFound sought (cond b []
          (passed a.seq (accesses_at at a) (behind_index index a.certificate)))
      by true e = tt
      by false e = absurd cc

  module _ (within : place ≤ length decoded.certificate) (n : ℕ) (whole_is : n ≡ length decoded.certificate) where
    place_is : length (before_index index decoded.certificate) ≡ place
    place_is = ap length (sym before) ∙ length-take-le place decoded.certificate within

    -- those behind it in its certificate
    behind_here : IsFalse decoded.serial
        → passed decoded.seq xs (drop (place + 1) (take n decoded.certificate)) ≡ records_behind l
    behind_here parallel =
        ap (λ (ys : List ℕ). passed decoded.seq xs (drop (place + 1) ys))
        (take_all n decoded.certificate (omega (arith, whole_is)))
        ∙ ap (λ (k : ℕ). passed decoded.seq xs (drop (k + 1) decoded.certificate)) (sym place_is)
        ∙ ap (passed decoded.seq xs) (sym (behind_is index decoded.certificate))
        ∙ ap (λ (b : Attempt). passed b.seq xs (behind_index index b.certificate)) decoded_is
        ∙ ap (λ (ys : List (ℕ × Access)). passed a.seq ys (behind_index index a.certificate)) xs_are
        ∙ by a.serial (sym serial_is ∙ parallel)
      where
        by : (b : Bool) → b ≡ false → passed a.seq (accesses_at at a) (behind_index index a.certificate)
            ≡ cond b [] (passed a.seq (accesses_at at a) (behind_index index a.certificate))
        by true e = absurd cc
        by false e = refl

    pub by_behind : (source : Source) → IsFalse decoded.serial → NoneOnWay t l
        → IsFirstFound sought (passed decoded.seq xs (drop (place + 1) (take n decoded.certificate)))
        source → IsSeenFrom t l (seen.BehindIt source)
    by_behind source parallel none first =
        (none, subst (λ (w : List Passed). IsFirstFound sought w source) (behind_here parallel) first)

    pub none_behind : IsFalse decoded.serial
        → NoneFound sought (passed decoded.seq xs (drop (place + 1) (take n decoded.certificate)))
        → NoneFound sought (records_behind l)
    none_behind parallel none = subst (NoneFound sought) (behind_here parallel) none

    -- at the end none is
    pub none_at_end : n ≤ place → NoneFound sought (records_behind l)
    none_at_end past = by decoded.serial refl
      where
        by : (b : Bool) → decoded.serial ≡ b → NoneFound sought (records_behind l)
        by true e = none_serial e
        by false e = none_behind e (subst (λ (ys : List ℕ). NoneFound sought (passed decoded.seq xs ys))
            (sym (drop_all (place + 1) (take n decoded.certificate)
            (omega (arith, past, whole_is, length-take-le n decoded.certificate (omega (arith, whole_is)))))) tt)
