-- What is noted of records, one entry after another.
use Rattle.std.proofs.Common.{◌≡◌, ℕ, ◌<◌, List, [], ◌∷◌, ◌++◌, map, length}
use Rattle.std.proofs.Common.{sym, subst, ap, ◌∙◌, append-nil, append_assoc, arith}
use Rattle.std.proofs.Common.{◌+◌, ◌≤◌, ◌^◌, zero, suc, take, drop, flat_map, slice_get, Some, IsTrue}
use Rattle.std.proofs.Common.{length-append}
use Rattle.std.specs.List.{list_all}
use Rattle.std.proofs.lemmas.Bool.{and_parts}
use Rattle.std.proofs.lemmas.Option.{same_Some}
use Rattle.std.proofs.lemmas.Grind.{flat_map-append}
use Rattle.std.proofs.lemmas.List.{length-drop, map-append}
use Rattle.eve_smallbank.specs.declared.entry.Entry.{Entry}
use Rattle.eve_grammar.specs.Trace.{Access, Trace}
use Rattle.eve_grammar.specs.Frames.{Frame, frames_of}
use Rattle.eve_grammar.specs.Limits.{is_entry}
use Rattle.eve_grammar.specs.FrameOrder.{Spells}
use Rattle.eve_grammar.specs.Spelling.{frame_text, frames_text, head_text, length_of, spelling}
use Rattle.eve_grammar.proofs.HeaderParts.{length-head_text}
use Rattle.eve_grammar.proofs.Lists.{take_one_more}
use Rattle.eve_views.specs.Lent.{HasBytesAt}
use Rattle.eve_chains.specs.Along.{AreWithin}
use Rattle.eve_chains.proofs.LinkedPaths.{none≢some}
use Rattle.eve_chains.specs.Rows.{Noted}

-- ---- a record's entries, one after another

-- an entry of a list that lies within the limits
pub entry_within : (rows : ℕ) (es : List Entry) (k : ℕ) (e : Entry) → IsTrue (list_all (is_entry rows) es)
    → slice_get es k ≡ Some e → IsTrue (is_entry rows e)
entry_within rows [] k e within at = none≢some e at
entry_within rows (d ∷ es) zero e within at =
    subst (λ (x : Entry). IsTrue (is_entry rows x)) (same_Some d e at)
    (and_parts (is_entry rows d) (list_all (is_entry rows) es) within).0
entry_within rows (d ∷ es) (suc k) e within at =
    entry_within rows es k e (and_parts (is_entry rows d) (list_all (is_entry rows) es) within).1 at

-- what is noted of one item more
pub one_more : {A : Type 0} (f : A → Noted) (ns : List Noted) (xs : List A) (k : ℕ) (x : A) → slice_get xs k ≡ Some x
    → (ns ++ map f (take k xs)) ++ f x ∷ [] ≡ ns ++ map f (take (k + 1) xs)
one_more f ns xs k x at =
    append_assoc ns (map f (take k xs)) (f x ∷ [])
    ∙ ap (λ (ms : List Noted). ns ++ ms)
    (sym (ap (map f) (take_one_more xs k x at) ∙ map-append f (take k xs) (x ∷ [])))

-- and of one list more
pub list_more : {A : Type 0} (f : A → List Noted) (ns : List Noted) (xs : List A) (k : ℕ) (x : A)
    → slice_get xs k ≡ Some x → (ns ++ flat_map f (take k xs)) ++ f x ≡ ns ++ flat_map f (take (k + 1) xs)
list_more f ns xs k x at =
    append_assoc ns (flat_map f (take k xs)) (f x)
    ∙ ap (λ (ms : List Noted). ns ++ ms)
    (ap (λ (ms : List Noted). flat_map f (take k xs) ++ ms) (sym (append-nil (f x)))
    ∙ sym (ap (flat_map f) (take_one_more xs k x at) ∙ flat_map-append f (take k xs) (x ∷ [])))

-- a record among those that lie within the limits
pub record_within : (rows : ℕ) (xs : List (ℕ × Access)) (k : ℕ) (x : ℕ × Access) → AreWithin rows xs
    → slice_get xs k ≡ Some x → IsTrue (list_all (is_entry rows) x.1.entries)
record_within rows [] k x within at = none≢some x at
record_within rows (y ∷ xs) zero x within at =
    subst (λ (z : ℕ × Access). IsTrue (list_all (is_entry rows) z.1.entries)) (same_Some y x at)
    (and_parts (list_all (is_entry rows) y.1.entries) (list_all (λ z. list_all (is_entry rows) z.1.entries) xs)
    within).0
record_within rows (y ∷ xs) (suc k) x within at =
    record_within rows xs k x
    (and_parts (list_all (is_entry rows) y.1.entries) (list_all (λ z. list_all (is_entry rows) z.1.entries) xs)
    within).1 at

-- the offset of a frame is a number of four bytes
pub offset_small : (bytes : List ℕ) (t : Trace) (at : ℕ) (f : Frame) → Spells bytes t → HasBytesAt t at (frame_text f)
    → at < 2 ^ 32
unfolding spelling length_of
offset_small bytes t at f spells stands =
    let few = spells.short in
    let whole : length (spelling t) ≤ 2 ^ 30 = omega (
      arith,
      few,
      length-append (head_text t.head (length_of t)) (frames_text (frames_of t)),
      length-head_text t.head (length_of t),
    ) in
    let here : length (drop at (spelling t)) ≡ length (frame_text f ++ stands.behind) = ap length stands.is in
    omega (
      arith,
      whole,
      here,
      length-drop at (spelling t),
      length-append (frame_text f) stands.behind,
    )
