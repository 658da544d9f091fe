-- Where a Transfer frame's fields stand.
use Rattle.std.proofs.Common.{◌≡◌, ℕ, ◌+◌, ◌-◌, ◌*◌, List, [], length, take, drop, Some, is_some, unwrap_or}
use Rattle.std.proofs.Common.{sym, ap, subst, ◌∙◌, arith}
use Rattle.std.specs.Prelude.{IsTrue}
use Rattle.std.proofs.lemmas.List.{length-drop}
use Rattle.byteorder.specs.Endian.{big_number}
use Rattle.eve_grammar.specs.Trace.{Transfer}
use Rattle.eve_grammar.specs.Limits.{is_versioned, are_no_debts}
use Rattle.eve_grammar.specs.Readers.{number_at, signed_at, both, made, only, many_at, versioned_from}
use Rattle.eve_grammar.specs.Readers.{versioned_fields_at, versioned_at, state_rows_at, transfer_from, transfer_of}
use Rattle.eve_grammar.proofs.Scans.{many_length}
use Rattle.eve_frames.specs.Views.{has_transfer_body, state_rows_in, transfer_in}
use Rattle.eve_frames.proofs.Places.{Takes, found, number_from, number_some, made_some, only_some, whole_some}
use Rattle.eve_frames.proofs.Places.{both_some, Takes-number, Takes-signed, Takes-only, Takes-made, Takes-both}
use Rattle.eve_frames.proofs.Lists.{Takes-many, Stand}

pub Takes-versioned : Takes 16 versioned_at
unfolding versioned_at versioned_fields_at
Takes-versioned =
    Takes-only 16 is_versioned (made versioned_from (both (number_at 8) signed_at))
    (Takes-made 16 versioned_from (both (number_at 8) signed_at)
    (Takes-both 8 8 (number_at 8) signed_at (Takes-number 8) Takes-signed))

-- with n rows
pub record TransferAt (bytes : List ℕ) (n : ℕ) (x : Transfer) : Type 0 where
  pub long : length bytes ≡ 13 + 16 * n
  pub seq : x.seq ≡ big_number 4 (drop 5 bytes)
  pub view : x.view ≡ big_number 4 (drop 9 bytes)
  pub rows : Stand 16 n 13 versioned_at bytes x.rows

pub transfer_at : (bytes : List ℕ) (n : ℕ) (x : Transfer) → transfer_of n (drop 5 bytes) ≡ Some x
    → TransferAt bytes n x
unfolding transfer_of state_rows_at
transfer_at bytes n x e =
    let list_at = many_at versioned_at n in
    let w = whole_some (made transfer_from (both (number_at 4) (both (number_at 4) (only (are_no_debts 0) list_at))))
    (drop 5 bytes) x e in
    let m = made_some transfer_from (both (number_at 4) (both (number_at 4) (only (are_no_debts 0) list_at)))
    (drop 5 bytes) (x, w.0) w.1 in
    let p = both_some 4 5 (number_at 4) (both (number_at 4) (only (are_no_debts 0) list_at)) (Takes-number 4) bytes
    (m.0, w.0) m.1 in
    let q = both_some 4 9 (number_at 4) (only (are_no_debts 0) list_at) (Takes-number 4) bytes (m.0.1, w.0) p.1 in
    let all = only_some (are_no_debts 0) list_at (drop 13 bytes) (m.0.1.1, w.0) q.1 in
    let seq = number_some 4 (drop 5 bytes) (m.0.0, drop 9 bytes) p.0 in
    let view = number_some 4 (drop 9 bytes) (m.0.1.0, drop 13 bytes) q.0 in
    let rows = (Takes-many 16 versioned_at Takes-versioned n).by (drop 13 bytes) (m.0.1.1, w.0) all.0 in
    let room = rows.0 in
    let before = view.0 in
    let size : length bytes ≡ 13 + 16 * n =
    omega (
      arith,
      room,
      before,
      w.2,
      ap length rows.1,
      length-drop (16 * n) (drop 13 bytes),
      length-drop 13 bytes,
      length-drop 9 bytes,
    ) in
    record {
      long = size;
      seq = ap (λ (y : Transfer). y.seq) m.2 ∙ seq.1;
      view = ap (λ (y : Transfer). y.view) m.2 ∙ view.1;
      rows = subst (λ (y : Transfer). Stand 16 n 13 versioned_at bytes y.rows) (sym m.2)
          (record {
            fixed = Takes-versioned;
            count = many_length versioned_at n (drop 13 bytes) (m.0.1.1, w.0) all.0;
            long = omega (arith, size);
            rest = w.0;
            read = all.0;
          });
    }

pub transfer_read : (bytes : List ℕ) → IsTrue (has_transfer_body bytes)
    → transfer_of (state_rows_in bytes) (drop 5 bytes) ≡ Some (transfer_in bytes)
unfolding transfer_in
transfer_read bytes there = found (transfer_of (state_rows_in bytes) (drop 5 bytes)) _ there

-- how many rows
abbrev pub transferred_rows : List ℕ → ℕ
transferred_rows bytes = length (transfer_in bytes).rows

pub transfer_placed : (bytes : List ℕ) → IsTrue (has_transfer_body bytes)
    → TransferAt bytes (transferred_rows bytes) (transfer_in bytes)
transfer_placed bytes there =
    let p = transfer_at bytes (state_rows_in bytes) (transfer_in bytes) (transfer_read bytes there) in
    subst (λ (n : ℕ). TransferAt bytes n (transfer_in bytes)) (sym p.rows.count) p

pub transfer_long : (bytes : List ℕ) → IsTrue (has_transfer_body bytes) → length bytes ≡ 13
    + 16 * transferred_rows bytes
transfer_long bytes there = (transfer_placed bytes there).long

pub transfer_seq : (bytes : List ℕ) → IsTrue (has_transfer_body bytes) → (transfer_in bytes).seq
    ≡ big_number 4 (take (length bytes - 5) (drop 5 bytes))
transfer_seq bytes there = (transfer_placed bytes there).seq ∙ number_from 4 5 bytes

pub transfer_view : (bytes : List ℕ) → IsTrue (has_transfer_body bytes) → (transfer_in bytes).view
    ≡ big_number 4 (take (length bytes - 9) (drop 9 bytes))
transfer_view bytes there = (transfer_placed bytes there).view ∙ number_from 4 9 bytes

-- a body for this many rows has their length
pub transfer_rows : (rows : ℕ) (bytes : List ℕ) → IsTrue (is_some (transfer_of rows (drop 5 bytes)))
    → state_rows_in bytes ≡ rows
transfer_rows rows bytes there =
    let none : Transfer = record { seq = 0; view = 0; rows = [] } in
    let x = unwrap_or (transfer_of rows (drop 5 bytes)) none in
    let long = (transfer_at bytes rows x (found (transfer_of rows (drop 5 bytes)) none there)).long in
    omega (arith, long, length-drop 5 bytes)

pub ruleset transfer_laws = (transfer_read, transfer_long, transfer_seq, transfer_view)
