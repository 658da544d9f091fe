-- Accesses whose entries stand in one list.
use Rattle.std.proofs.Common.{◌≡◌, ℕ, suc, zero, ◌+◌, ◌*◌, ◌<◌, ◌≤◌, ◌&&◌, IsTrue, List, [], ◌∷◌, ◌++◌, length, get_or}
use Rattle.std.proofs.Common.{take, drop, refl, sym, ◌∙◌, ap, arith, leb, leb-true, length-append, length-drop}
use Rattle.std.proofs.Common.{drop-drop}
use Rattle.std.specs.List.{flat_map, list_all, sum_by}
use Rattle.std.proofs.lemmas.Bool.{and_parts, le-leb}
use Rattle.std.proofs.lemmas.List.{nil_from_length, take_all, take-append-le, drop-append-le, take-append-drop}
use Rattle.std.proofs.lemmas.List.{length-take-le}
use Rattle.std.proofs.lemmas.List.Folds.{list_all-append}
use Rattle.std.proofs.lemmas.List.Sums.{sum_by-cons, sum_by_more, sum_by_more_le}
use Rattle.eve_smallbank.specs.declared.entry.Entry.{Entry}
use Rattle.eve_grammar.specs.Trace.{Access}
use Rattle.byteorder.specs.Endian.{big_bytes}
use Rattle.eve_grammar.specs.Frames.{OfAccess}
use Rattle.eve_grammar.specs.Spelling.{entry_text, body_text}
use Rattle.eve_grammar.specs.Limits.{is_number, is_entry, is_access}
use Rattle.eve_grammar.proofs.Scans.{text_length}
use Rattle.eve_write.specs.declared.access_list.AccessNote.{AccessNote}
use Rattle.eve_write.specs.AccessLists.{noted_access, accesses_listed, ShareEntries, access_text, note_text, is_note}
use Rattle.eve_write.proofs.PartTests.{and_true}

-- how many entries notes have together
abbrev pub counted : List AccessNote → ℕ
counted notes = sum_by (λ n. n.count) notes

-- an access is its note with its entries
abbrev pub noted : AccessNote → List Entry → Access
noted n entries = noted_access n.worker n.place n.index entries

-- the first note's entries stand in the list, and those of the others behind them
first_within : (n : AccessNote) (ns : List AccessNote) (entries : List Entry) → counted (n ∷ ns) ≡ length entries
    → n.count ≤ length entries
first_within n ns entries all = omega (arith, all, sum_by-cons (λ x. x.count) n ns)

others_counted : (n : AccessNote) (ns : List AccessNote) (entries : List Entry) → counted (n ∷ ns) ≡ length entries
    → counted ns ≡ length (drop n.count entries)
others_counted n ns entries all =
    omega (arith, all, sum_by-cons (λ x. x.count) n ns, length-drop n.count entries)

-- one access more, whose entries stand behind the others
pub accesses-push : (notes : List AccessNote) (entries more : List Entry) (note : AccessNote)
    → counted notes ≡ length entries → note.count ≡ length more
    → accesses_listed (notes ++ note ∷ []) (entries ++ more) ≡ accesses_listed notes entries ++ noted note more ∷ []
accesses-push [] entries more note all count =
    let none : entries ≡ [] = nil_from_length entries (sym all) in
    let own : take note.count more ≡ more = take_all note.count more (omega (arith, count)) in
    ap (λ es. accesses_listed (note ∷ []) (es ++ more)) none ∙ ap (λ es. noted note es ∷ []) own
accesses-push (n ∷ ns) entries more note all count =
    let within = first_within n ns entries all in
    let rest = others_counted n ns entries all in
    ap (λ es. noted n es ∷ accesses_listed (ns ++ note ∷ []) (drop n.count (entries ++ more)))
    (take-append-le n.count entries more within)
    ∙ ap (λ es. noted n (take n.count entries) ∷ accesses_listed (ns ++ note ∷ []) es)
    (drop-append-le n.count entries more within)
    ∙ ap (λ xs. noted n (take n.count entries) ∷ xs) (accesses-push ns (drop n.count entries) more note rest count)

pub length-accesses : (notes : List AccessNote) (entries : List Entry) → length (accesses_listed notes entries)
    ≡ length notes
length-accesses [] entries = refl
length-accesses (n ∷ ns) entries = ap (λ k. suc k) (length-accesses ns (drop n.count entries))

-- the entries of all accesses are the list
pub accesses-entries : (notes : List AccessNote) (entries : List Entry) → counted notes ≡ length entries
    → flat_map (λ x. x.entries) (accesses_listed notes entries) ≡ entries
accesses-entries [] entries all = sym (nil_from_length entries (sym all))
accesses-entries (n ∷ ns) entries all =
    ap (λ es. take n.count entries ++ es) (accesses-entries ns (drop n.count entries) (others_counted n ns entries all))
    ∙ take-append-drop n.count entries

pub length-access_text : (x : Access) → length (access_text x) ≡ 11 + 29 * length x.entries
length-access_text x = omega (arith, text_length 29 entry_text (λ e. refl) x.entries)

-- how long the frames are
pub length-texts : (notes : List AccessNote) (entries : List Entry) → counted notes ≡ length entries
    → length (flat_map access_text (accesses_listed notes entries)) ≡ 11 * length notes + 29 * length entries
length-texts [] entries all = omega (arith, all)
length-texts (n ∷ ns) entries all =
    let first = noted n (take n.count entries) in
    let others = accesses_listed ns (drop n.count entries) in
    omega (
      arith,
      length-append (access_text first) (flat_map access_text others),
      length-access_text first,
      length-take-le n.count entries (first_within n ns entries all),
      length-drop n.count entries,
      first_within n ns entries all,
      length-texts ns (drop n.count entries) (others_counted n ns entries all),
    )

-- the access at a place
pub accesses-at : (notes : List AccessNote) (entries : List Entry) (i : ℕ) (d : AccessNote) (e : Access)
    → i < length notes
    → get_or (accesses_listed notes entries) i e
    ≡ noted (get_or notes i d) (take (get_or notes i d).count (drop (counted (take i notes)) entries))
accesses-at [] entries i d e within = elim within [ ]
accesses-at (n ∷ ns) entries zero d e within = refl
accesses-at (n ∷ ns) entries (suc i) d e within =
    let x = get_or ns i d in
    accesses-at ns (drop n.count entries) i d e (omega (arith, within))
    ∙ ap (λ es. noted x (take x.count es)) (drop-drop (counted (take i ns)) n.count entries)
    ∙ ap (λ k. noted x (take x.count (drop k entries))) (sym (sum_by-cons (λ y. y.count) n (take i ns)))

-- an access lies within the limits where its entries do
access-within : (rows : ℕ) (n : AccessNote) (entries : List Entry) → IsTrue (is_note n) → length entries ≤ 3
    → list_all (is_entry rows) entries ≡ is_access rows (noted n entries)
access-within rows n entries fits few =
    let right = list_all (is_entry rows) entries in
    let p = and_parts (is_number 1 n.worker) (is_number 2 n.place && is_number 2 n.index) fits in
    let q = and_parts (is_number 2 n.place) (is_number 2 n.index) p.1 in
    let e = and_true (leb (length entries) 3) right (le-leb _ _ few) in
    let f = and_true (is_number 2 n.index) (leb (length entries) 3 && right) q.1 in
    let g = and_true (is_number 2 n.place) (is_number 2 n.index && (leb (length entries) 3 && right)) q.0 in
    let h = and_true (is_number 1 n.worker)
    (is_number 2 n.place && (is_number 2 n.index && (leb (length entries) 3 && right))) p.0 in
    sym (h ∙ g ∙ f ∙ e)

-- accesses lie within the limits where all entries do
pub accesses-within : (rows : ℕ) (notes : List AccessNote) (entries : List Entry) → ShareEntries notes entries
    → IsTrue (list_all is_note notes)
    → list_all (is_entry rows) entries ≡ list_all (is_access rows) (accesses_listed notes entries)
accesses-within rows [] entries are fits = ap (list_all (is_entry rows)) (nil_from_length entries (sym are.all))
accesses-within rows (n ∷ ns) entries are fits =
    let within = first_within n ns entries are.all in
    let p = and_parts (is_note n) (list_all is_note ns) fits in
    let few = and_parts (leb n.count 3) (list_all (λ x. leb x.count 3) ns) are.few in
    let prefix = take n.count entries in
    let back = drop n.count entries in
    let one = access-within rows n prefix p.0
    (omega (arith, length-take-le n.count entries within, leb-true n.count 3 few.0)) in
    let rest = accesses-within rows ns back (record { all = others_counted n ns entries are.all; few = few.1 }) p.1 in
    ap (list_all (is_entry rows)) (sym (take-append-drop n.count entries))
    ∙ list_all-append (is_entry rows) prefix back
    ∙ ap (λ b. b && list_all (is_entry rows) back) one
    ∙ ap (λ b. is_access rows (noted n prefix) && b) rest

-- a note and its entries are the frame
pub noted_text : (n : AccessNote) (entries : List Entry) → length entries ≡ n.count
    → note_text n ++ flat_map entry_text entries ≡ access_text (noted n entries)
noted_text n entries many =
    let long : 6 + 29 * n.count ≡ length (body_text (OfAccess (noted n entries))) =
    omega (arith, many, text_length 29 entry_text (λ e. refl) entries) in
    let texts = flat_map entry_text entries in
    ap (λ k. 18 ∷ (big_bytes 4 k ++ (big_bytes 1 n.worker
    ++ (big_bytes 2 n.place ++ (big_bytes 2 n.index ++ (big_bytes 1 n.count ++ texts)))))) long
    ∙ ap (λ k. 18 ∷ (big_bytes 4 (length (body_text (OfAccess (noted n entries)))) ++ (big_bytes 1 n.worker
    ++ (big_bytes 2 n.place ++ (big_bytes 2 n.index ++ (big_bytes 1 k ++ texts)))))) (sym many)

-- the same notes of the same entries
pub ShareEntries-same : {ns ms : List AccessNote} {es fs : List Entry} → ns ≡ ms → es ≡ fs → ShareEntries ms fs
    → ShareEntries ns es
ShareEntries-same {ns = ns} notes entries are = record {
  all = ap counted notes ∙ are.all ∙ sym (ap length entries);
  few = ap (list_all (λ n. leb n.count 3)) notes ∙ are.few;
}

-- what is left has the entries of the note at a place
pub note-within : (notes : List AccessNote) (entries : List Entry) (i : ℕ) (d : AccessNote) → ShareEntries notes entries
    → i < length notes → (get_or notes i d).count ≤ length (drop (counted (take i notes)) entries)
note-within notes entries i d are within =
    omega (
      arith,
      are.all,
      sum_by_more_le (λ n. n.count) notes i d within,
      length-drop (counted (take i notes)) entries,
    )

-- what is left behind the note at a place
pub left-behind : (notes : List AccessNote) (entries : List Entry) (i : ℕ) (d : AccessNote) → i < length notes
    → drop (get_or notes i d).count (drop (counted (take i notes)) entries)
    ≡ drop (counted (take (i + 1) notes)) entries
left-behind notes entries i d within =
    drop-drop (get_or notes i d).count (counted (take i notes)) entries
    ∙ ap (λ k. drop k entries) (sym (sum_by_more (λ n. n.count) notes i d within))
