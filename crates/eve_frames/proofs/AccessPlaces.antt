-- Where an Access frame's fields stand.
use Rattle.std.proofs.Common.{◌≡◌, ℕ, ◌+◌, ◌-◌, ◌*◌, ◌≤◌, leb, List, length, get_or, take, drop, Some, sym, ap, subst}
use Rattle.std.proofs.Common.{◌∙◌, arith}
use Rattle.std.specs.Prelude.{IsTrue}
use Rattle.std.proofs.lemmas.Bool.{leb-true}
use Rattle.std.proofs.lemmas.List.{length-drop}
use Rattle.byteorder.specs.Endian.{big_number}
use Rattle.eve_grammar.specs.Trace.{Access}
use Rattle.eve_grammar.specs.Limits.{is_entry}
use Rattle.eve_grammar.specs.Readers.{number_at, signed_at, both, made, made_if, only, many_at, kind_from, entry_from}
use Rattle.eve_grammar.specs.Readers.{entry_fields_at, entry_at, access_from, entries_at, access_of}
use Rattle.eve_grammar.proofs.Scans.{many_length}
use Rattle.eve_grammar.specs.declared.limits.TheConstants.{MOST_ROWS}
use Rattle.eve_frames.specs.Views.{has_access_body, access_in}
use Rattle.eve_frames.proofs.Places.{Takes, found, number_from, number_some, made_some, only_some, whole_some}
use Rattle.eve_frames.proofs.Places.{both_some, led_some, Takes-number, Takes-signed, Takes-only, Takes-made}
use Rattle.eve_frames.proofs.Places.{Takes-made_if, Takes-both, byte_at}
use Rattle.eve_frames.proofs.Lists.{Takes-many, Stand}

pub Takes-entry : (rows : ℕ) → Takes 29 (entry_at rows)
unfolding entry_at entry_fields_at
Takes-entry rows =
    Takes-only 29 (is_entry rows)
    (made entry_from (both (number_at 4)
    (both (made_if kind_from (number_at 1)) (both (number_at 8) (both signed_at signed_at)))))
    (Takes-made 29 entry_from
    (both (number_at 4) (both (made_if kind_from (number_at 1)) (both (number_at 8) (both signed_at signed_at))))
    (Takes-both 4 25 (number_at 4)
    (both (made_if kind_from (number_at 1)) (both (number_at 8) (both signed_at signed_at))) (Takes-number 4)
    (Takes-both 1 24 (made_if kind_from (number_at 1)) (both (number_at 8) (both signed_at signed_at))
    (Takes-made_if 1 kind_from (number_at 1) (Takes-number 1))
    (Takes-both 8 16 (number_at 8) (both signed_at signed_at) (Takes-number 8)
    (Takes-both 8 8 signed_at signed_at Takes-signed Takes-signed)))))

-- with n entries
pub record AccessAt (bytes : List ℕ) (n : ℕ) (x : Access) : Type 0 where
  pub long : length bytes ≡ 11 + 29 * n
  pub few : n ≤ 3
  pub worker : x.worker ≡ get_or bytes 5 0
  pub place : x.place ≡ big_number 2 (drop 6 bytes)
  pub index : x.index ≡ big_number 2 (drop 8 bytes)
  pub count : n ≡ get_or bytes 10 0
  pub entries : Stand 29 n 11 (entry_at MOST_ROWS) bytes x.entries

pub access_at : (bytes : List ℕ) (x : Access) → access_of MOST_ROWS (drop 5 bytes) ≡ Some x → (n : ℕ)
    × AccessAt bytes n x
unfolding access_of entries_at
access_at bytes x e =
    let list_at = entries_at MOST_ROWS in
    let w = whole_some (made access_from (both (number_at 1) (both (number_at 2) (both (number_at 2) list_at))))
    (drop 5 bytes) x e in
    let m = made_some access_from (both (number_at 1) (both (number_at 2) (both (number_at 2) list_at))) (drop 5 bytes)
    (x, w.0) w.1 in
    let p = both_some 1 5 (number_at 1) (both (number_at 2) (both (number_at 2) list_at)) (Takes-number 1) bytes
    (m.0, w.0) m.1 in
    let q = both_some 2 6 (number_at 2) (both (number_at 2) list_at) (Takes-number 2) bytes (m.0.1, w.0) p.1 in
    let r = both_some 2 8 (number_at 2) list_at (Takes-number 2) bytes (m.0.1.1, w.0) q.1 in
    let t = led_some 1 10 (only (λ count. leb count 3) (number_at 1)) (many_at (entry_at MOST_ROWS))
    (Takes-only 1 (λ count. leb count 3) (number_at 1) (Takes-number 1)) bytes (m.0.1.1.1, w.0) r.1 in
    let n = t.0 in
    let small = only_some (λ count. leb count 3) (number_at 1) (drop 10 bytes) (n, drop 11 bytes) t.1 in
    let worker = number_some 1 (drop 5 bytes) (m.0.0, drop 6 bytes) p.0 in
    let place = number_some 2 (drop 6 bytes) (m.0.1.0, drop 8 bytes) q.0 in
    let index = number_some 2 (drop 8 bytes) (m.0.1.1.0, drop 10 bytes) r.0 in
    let count = number_some 1 (drop 10 bytes) (n, drop 11 bytes) small.0 in
    let entries = (Takes-many 29 (entry_at MOST_ROWS) (Takes-entry MOST_ROWS) n).by (drop 11 bytes)
    (m.0.1.1.1, w.0) t.2 in
    let room = entries.0 in
    let before = count.0 in
    let size : length bytes ≡ 11 + 29 * n =
    omega (
      arith,
      room,
      before,
      w.2,
      ap length entries.1,
      length-drop (29 * n) (drop 11 bytes),
      length-drop 11 bytes,
      length-drop 10 bytes,
    ) in (
      n,
      record {
        long = size;
        few = leb-true n 3 small.1;
        worker = ap (λ (y : Access). y.worker) m.2 ∙ worker.1 ∙ byte_at 5 bytes;
        place = ap (λ (y : Access). y.place) m.2 ∙ place.1;
        index = ap (λ (y : Access). y.index) m.2 ∙ index.1;
        count = count.1 ∙ byte_at 10 bytes;
        entries = subst (λ (y : Access). Stand 29 n 11 (entry_at MOST_ROWS) bytes y.entries) (sym m.2)
            (record {
              fixed = Takes-entry MOST_ROWS;
              count = many_length (entry_at MOST_ROWS) n (drop 11 bytes)
                  (m.0.1.1.1, w.0) t.2;
              long = omega (arith, size);
              rest = w.0;
              read = t.2;
            });
      },
    )

pub access_read : (bytes : List ℕ) → IsTrue (has_access_body bytes) → access_of MOST_ROWS (drop 5 bytes)
    ≡ Some (access_in bytes)
unfolding access_in
access_read bytes there = found (access_of MOST_ROWS (drop 5 bytes)) _ there

-- how many entries
abbrev pub entries_of : List ℕ → ℕ
entries_of bytes = length (access_in bytes).entries

pub access_placed : (bytes : List ℕ) → IsTrue (has_access_body bytes)
    → AccessAt bytes (entries_of bytes) (access_in bytes)
access_placed bytes there =
    let p = access_at bytes (access_in bytes) (access_read bytes there) in
    subst (λ (n : ℕ). AccessAt bytes n (access_in bytes)) (sym p.1.entries.count) p.1

pub access_long : (bytes : List ℕ) → IsTrue (has_access_body bytes) → length bytes ≡ 11 + 29 * entries_of bytes
access_long bytes there = (access_placed bytes there).long

pub access_few : (bytes : List ℕ) → IsTrue (has_access_body bytes) → entries_of bytes ≤ 3
access_few bytes there = (access_placed bytes there).few

pub access_worker : (bytes : List ℕ) → IsTrue (has_access_body bytes) → (access_in bytes).worker ≡ get_or bytes 5 0
access_worker bytes there = (access_placed bytes there).worker

pub access_place : (bytes : List ℕ) → IsTrue (has_access_body bytes) → (access_in bytes).place
    ≡ big_number 2 (take (length bytes - 6) (drop 6 bytes))
access_place bytes there = (access_placed bytes there).place ∙ number_from 2 6 bytes

pub access_index : (bytes : List ℕ) → IsTrue (has_access_body bytes) → (access_in bytes).index
    ≡ big_number 2 (take (length bytes - 8) (drop 8 bytes))
access_index bytes there = (access_placed bytes there).index ∙ number_from 2 8 bytes

pub access_count : (bytes : List ℕ) → IsTrue (has_access_body bytes) → entries_of bytes ≡ get_or bytes 10 0
access_count bytes there = (access_placed bytes there).count

pub ruleset access_laws =
    (access_read, access_long, access_few, access_worker, access_place, access_index, access_count)
