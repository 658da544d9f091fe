-- Records that left something in a row, or saw it, found one after another.
use Rattle.std.proofs.Common.{◌≡◌, ℕ, zero, suc, ◌+◌, List, [], ◌∷◌, ◌++◌, length, take, drop, slice_get}
use Rattle.std.proofs.Common.{Option, None, Some, refl, sym, ap, subst, ◌∙◌, append_assoc, arith}
use Rattle.std.specs.List.{AllByRecursion}
use Rattle.std.proofs.lemmas.List.{map-append, take-append-drop, take_all}
use Rattle.std.specs.Prelude.{IfSome, IfNone}
use Rattle.eve_smallbank.specs.declared.versioned.Versioned.{Versioned}
use Rattle.eve_grammar.specs.Trace.{Access, Attempt, Attempts}
use Rattle.eve_grammar.specs.Frames.{without_accesses}
use Rattle.eve_grammar.specs.Spelling.{accesses_at}
use Rattle.eve_grammar.proofs.Lists.{all-append, all-push, drop_here, take_one_more}
use Rattle.eve_history.specs.SectionHistory.{access_with}
use Rattle.eve_history.proofs.Places.{no_place}
use Rattle.eve_evidence.specs.declared.course.OnPath.{OnPath}
use Rattle.eve_evidence.specs.declared.evidence.Source.{Source}
use Rattle.eve_evidence.specs.declared.sought.Sought.{Sought}
use Rattle.eve_evidence.specs.declared.sought.Sought.TheVariants.{Left}
use Rattle.eve_evidence.specs.inner.LastSource.{IsSourceFound}
use Rattle.eve_evidence.specs.Course.{placed_on}
use Rattle.eve_evidence.specs.Sources.{Passed, passed_by, passed, passed_in}
use Rattle.eve_evidence.specs.Sought.{MeetsIn, RecordMeets, NoneFound, IsFoundAlone, IsFirstFound, IsLastFound}
use Rattle.eve_evidence.proofs.RecordLookups.{with_kept, on_way, parts_on_way}

-- where no record has one, the one of an index doesn't
pub none_found : (s : Sought) (seq : ℕ) (xs : List (ℕ × Access)) (order : List ℕ)
    → AllByRecursion (λ x. ¬ MeetsIn s x.1.entries) xs → NoneFound s (passed seq xs order)
none_found s seq xs [] all = tt
none_found s seq xs (i ∷ order) all = (
  with_kept (λ (x : ℕ × Access). ¬ MeetsIn s x.1.entries) (λ place. no_place _ place) xs i all,
  none_found s seq xs order all,
)

module _ (s : Sought) where
  -- the last inside is the last where none follows
  pub found_inside : (xs ys zs : List Passed) (source : Source) → IsLastFound s ys source → NoneFound s zs
      → IsLastFound s (xs ++ (ys ++ zs)) source
  found_inside xs ys zs source last none = record {
    before = xs ++ last.before;
    item = last.item;
    behind = last.behind ++ zs;
    is = ap (λ (ws : List Passed). xs ++ (ws ++ zs)) last.is
        ∙ ap (λ (ws : List Passed). xs ++ ws) (append_assoc last.before (last.item ∷ last.behind) zs)
        ∙ sym (append_assoc xs last.before (last.item ∷ (last.behind ++ zs)));
    has = last.has;
    none = all-append (λ (x : Passed). ¬ RecordMeets s x) last.behind zs last.none none;
    source_is = last.source_is;
  }

  -- ---- along a certificate

  module _ (seq : ℕ) (xs : List (ℕ × Access)) (order : List ℕ) (k index : ℕ)
      (got : slice_get order k ≡ Some index) where
    split : passed seq xs order ≡ passed seq xs (take k order) ++ passed_by seq (access_with xs index)
        ∷ passed seq xs (drop (k + 1) order)
    split =
        ap (passed seq xs) (sym (take-append-drop k order))
        ∙ map-append (λ (i : ℕ). passed_by seq (access_with xs i)) (take k order) (drop k order)
        ∙ ap (λ (ys : List ℕ). passed seq xs (take k order) ++ passed seq xs ys) (drop_here order k index got)

    pub last_here : (source : Source) → IsFoundAlone s (passed_by seq (access_with xs index)) source
        → NoneFound s (passed seq xs (drop (k + 1) order)) → IsLastFound s (passed seq xs order) source
    last_here source own none = record {
      before = passed seq xs (take k order);
      item = passed_by seq (access_with xs index);
      behind = passed seq xs (drop (k + 1) order);
      is = split;
      has = own.has;
      none = none;
      source_is = own.source_is;
    }

    pub none_back : (RecordMeets s (passed_by seq (access_with xs index)) → ⊥)
        → NoneFound s (passed seq xs (drop (k + 1) order)) → NoneFound s (passed seq xs (drop k order))
    none_back own none = subst (λ (ys : List ℕ). NoneFound s (passed seq xs ys)) (sym (drop_here order k index got))
        (own, none)

    pub first_here : (source : Source) → IsFoundAlone s (passed_by seq (access_with xs index)) source
        → NoneFound s (passed seq xs (take k order)) → IsFirstFound s (passed seq xs order) source
    first_here source own none = record {
      before = passed seq xs (take k order);
      item = passed_by seq (access_with xs index);
      behind = passed seq xs (drop (k + 1) order);
      is = split;
      has = own.has;
      none = none;
      source_is = own.source_is;
    }

    pub none_ahead : NoneFound s (passed seq xs (take k order))
        → (RecordMeets s (passed_by seq (access_with xs index)) → ⊥) → NoneFound s (passed seq xs (take (k + 1) order))
    none_ahead none own =
        let longer : passed seq xs (take (k + 1) order)
        ≡ passed seq xs (take k order) ++ passed_by seq (access_with xs index) ∷ [] =
        ap (passed seq xs) (take_one_more order k index got)
        ∙ map-append (λ (i : ℕ). passed_by seq (access_with xs i)) (take k order) (index ∷ []) in
        subst (NoneFound s) (sym longer)
        (all-push (λ (x : Passed). ¬ RecordMeets s x) (passed seq xs (take k order))
        (passed_by seq (access_with xs index))
        none own)

  -- ---- along attempts

  module _ (os : List OnPath) (k : ℕ) (o : OnPath) (got : slice_get os k ≡ Some o)
      (none : NoneFound s (on_way (drop (k + 1) os))) where
    pub last_found_on : (source : Source) → IsLastFound s (passed_in (placed_on o)) source
        → IsLastFound s (on_way os) source
    last_found_on source last = subst (λ (w : List Passed). IsLastFound s w source) (sym (parts_on_way os k o got))
        (found_inside (on_way (take k os)) (passed_in (placed_on o)) (on_way (drop (k + 1) os)) source last none)

    pub none_found_on : NoneFound s (passed_in (placed_on o)) → NoneFound s (on_way (drop k os))
    none_found_on own = subst (λ (ps : List OnPath). NoneFound s (on_way ps)) (sym (drop_here os k o got))
        (all-append (λ (x : Passed). ¬ RecordMeets s x) (passed_in (placed_on o)) (on_way (drop (k + 1) os)) own none)

-- ---- a stretch of a certificate

pub get_dropped : {A : Type 0} (xs : List A) (n k : ℕ) → slice_get (drop n xs) k ≡ slice_get xs (n + k)
get_dropped xs zero k = let same : k ≡ 0 + k = omega arith in ap (λ (m : ℕ). slice_get xs m) same
get_dropped [] (suc n) k = refl
get_dropped {A} (x ∷ xs) (suc n) k =
    let next : suc n + k ≡ suc (n + k) = omega arith in
    get_dropped xs n k ∙ ap (λ (m : ℕ). slice_get (x ∷ xs) m) (sym next)

-- ---- a whole attempt

-- the last source of an attempt, by what was found in the whole of its certificate
pub source_found : (row : ℕ) (has : Versioned) (at : ℕ) (decoded a : Attempt) (xs : List (ℕ × Access)) (n : ℕ)
    (found : Option Source) → decoded ≡ without_accesses a → xs ≡ accesses_at at a → n ≡ length decoded.certificate
    → IfSome found (IsLastFound (Left row has) (passed decoded.seq xs (take n decoded.certificate)))
    → IfNone found (NoneFound (Left row has) (passed decoded.seq xs (take n decoded.certificate)))
    → IsSourceFound row has (at, Attempts a) found
source_found row has at decoded a xs n found decoded_is xs_are whole some none = by found some none
  where
    same : passed decoded.seq xs (take n decoded.certificate) ≡ passed_in (at, a)
    same =
        ap (passed decoded.seq xs) (take_all n decoded.certificate (omega (arith, whole)))
        ∙ ap (λ (b : Attempt). passed b.seq xs b.certificate) decoded_is
        ∙ ap (λ (ys : List (ℕ × Access)). passed a.seq ys a.certificate) xs_are

    by : (o : Option Source)
        → IfSome o (IsLastFound (Left row has) (passed decoded.seq xs (take n decoded.certificate)))
        → IfNone o (NoneFound (Left row has) (passed decoded.seq xs (take n decoded.certificate)))
        → IsSourceFound row has (at, Attempts a) o
    by None some none = subst (NoneFound (Left row has)) same none
    by (Some s) some none = subst (λ (w : List Passed). IsLastFound (Left row has) w s) same some
