-- Where a Rollback frame's fields stand.
use Rattle.std.proofs.Common.{◌≡◌, ℕ, ◌+◌, ◌-◌, ◌*◌, List, length, take, drop, Some, sym, ap, subst, ◌∙◌, arith}
use Rattle.std.specs.Prelude.{IsTrue}
use Rattle.std.proofs.lemmas.List.{length-drop}
use Rattle.byteorder.specs.Endian.{big_number}
use Rattle.eve_grammar.specs.Trace.{Rollback}
use Rattle.eve_grammar.specs.Limits.{is_restore, is_rising}
use Rattle.eve_grammar.specs.Readers.{number_at, signed_at, both, led_by, made, only, many_at, restore_from}
use Rattle.eve_grammar.specs.Readers.{restore_fields_at, restore_at, restores_at, rollback_from, rollback_of}
use Rattle.eve_grammar.proofs.Scans.{many_length}
use Rattle.eve_grammar.specs.declared.limits.TheConstants.{MOST_ROWS}
use Rattle.eve_frames.specs.Views.{has_rollback_body, rollback_in}
use Rattle.eve_frames.proofs.Places.{Takes, found, number_from, number_some, made_some, only_some, whole_some}
use Rattle.eve_frames.proofs.Places.{both_some, led_some, Takes-number, Takes-signed, Takes-only, Takes-made}
use Rattle.eve_frames.proofs.Places.{Takes-both}
use Rattle.eve_frames.proofs.Lists.{Takes-many, Stand}

pub Takes-restore : (rows : ℕ) → Takes 20 (restore_at rows)
unfolding restore_at restore_fields_at
Takes-restore rows =
    Takes-only 20 (is_restore rows) (made restore_from (both (number_at 4) (both (number_at 8) signed_at)))
    (Takes-made 20 restore_from (both (number_at 4) (both (number_at 8) signed_at))
    (Takes-both 4 16 (number_at 4) (both (number_at 8) signed_at) (Takes-number 4)
    (Takes-both 8 8 (number_at 8) signed_at (Takes-number 8) Takes-signed)))

-- with n restores
pub record RollbackAt (bytes : List ℕ) (n : ℕ) (r : Rollback) : Type 0 where
  pub long : length bytes ≡ 17 + 20 * n
  pub to : r.to ≡ big_number 4 (drop 5 bytes)
  pub view : r.view ≡ big_number 4 (drop 9 bytes)
  pub count : n ≡ big_number 4 (drop 13 bytes)
  pub restores : Stand 20 n 17 (restore_at MOST_ROWS) bytes r.restores

pub rollback_at : (bytes : List ℕ) (r : Rollback) → rollback_of MOST_ROWS (drop 5 bytes) ≡ Some r → (n : ℕ)
    × RollbackAt bytes n r
unfolding rollback_of restores_at
rollback_at bytes r e =
    let list_at = led_by (number_at 4) (many_at (restore_at MOST_ROWS)) in
    let w = whole_some (made rollback_from (both (number_at 4) (both (number_at 4) (only is_rising list_at))))
    (drop 5 bytes) r e in
    let m = made_some rollback_from (both (number_at 4) (both (number_at 4) (only is_rising list_at))) (drop 5 bytes)
    (r, w.0) w.1 in
    let p = both_some 4 5 (number_at 4) (both (number_at 4) (only is_rising list_at)) (Takes-number 4) bytes
    (m.0, w.0) m.1 in
    let q = both_some 4 9 (number_at 4) (only is_rising list_at) (Takes-number 4) bytes (m.0.1, w.0) p.1 in
    let rising = only_some is_rising list_at (drop 13 bytes) (m.0.1.1, w.0) q.1 in
    let t = led_some 4 13 (number_at 4) (many_at (restore_at MOST_ROWS)) (Takes-number 4) bytes (m.0.1.1, w.0) rising.0
    in
    let n = t.0 in
    let to = number_some 4 (drop 5 bytes) (m.0.0, drop 9 bytes) p.0 in
    let view = number_some 4 (drop 9 bytes) (m.0.1.0, drop 13 bytes) q.0 in
    let count = number_some 4 (drop 13 bytes) (n, drop 17 bytes) t.1 in
    let restores = (Takes-many 20 (restore_at MOST_ROWS) (Takes-restore MOST_ROWS) n).by (drop 17 bytes)
    (m.0.1.1, w.0) t.2 in
    let room = restores.0 in
    let before = count.0 in
    let size : length bytes ≡ 17 + 20 * n =
    omega (
      arith,
      room,
      before,
      w.2,
      ap length restores.1,
      length-drop (20 * n) (drop 17 bytes),
      length-drop 17 bytes,
      length-drop 13 bytes,
    ) in (
      n,
      record {
        long = size;
        to = ap (λ (y : Rollback). y.to) m.2 ∙ to.1;
        view = ap (λ (y : Rollback). y.view) m.2 ∙ view.1;
        count = count.1;
        restores = subst (λ (y : Rollback). Stand 20 n 17 (restore_at MOST_ROWS) bytes y.restores) (sym m.2)
            (record {
              fixed = Takes-restore MOST_ROWS;
              count = many_length (restore_at MOST_ROWS) n (drop 17 bytes)
                  (m.0.1.1, w.0) t.2;
              long = omega (arith, size);
              rest = w.0;
              read = t.2;
            });
      },
    )

pub rollback_read : (bytes : List ℕ) → IsTrue (has_rollback_body bytes) → rollback_of MOST_ROWS (drop 5 bytes)
    ≡ Some (rollback_in bytes)
unfolding rollback_in
rollback_read bytes there = found (rollback_of MOST_ROWS (drop 5 bytes)) _ there

-- how many restores
abbrev pub restores_of : List ℕ → ℕ
restores_of bytes = length (rollback_in bytes).restores

pub rollback_placed : (bytes : List ℕ) → IsTrue (has_rollback_body bytes)
    → RollbackAt bytes (restores_of bytes) (rollback_in bytes)
rollback_placed bytes there =
    let p = rollback_at bytes (rollback_in bytes) (rollback_read bytes there) in
    subst (λ (n : ℕ). RollbackAt bytes n (rollback_in bytes)) (sym p.1.restores.count) p.1

pub rollback_long : (bytes : List ℕ) → IsTrue (has_rollback_body bytes) → length bytes ≡ 17 + 20 * restores_of bytes
rollback_long bytes there = (rollback_placed bytes there).long

pub rollback_to : (bytes : List ℕ) → IsTrue (has_rollback_body bytes) → (rollback_in bytes).to
    ≡ big_number 4 (take (length bytes - 5) (drop 5 bytes))
rollback_to bytes there = (rollback_placed bytes there).to ∙ number_from 4 5 bytes

pub rollback_view : (bytes : List ℕ) → IsTrue (has_rollback_body bytes) → (rollback_in bytes).view
    ≡ big_number 4 (take (length bytes - 9) (drop 9 bytes))
rollback_view bytes there = (rollback_placed bytes there).view ∙ number_from 4 9 bytes

pub rollback_count : (bytes : List ℕ) → IsTrue (has_rollback_body bytes) → restores_of bytes
    ≡ big_number 4 (take (length bytes - 13) (drop 13 bytes))
rollback_count bytes there = (rollback_placed bytes there).count ∙ number_from 4 13 bytes

pub ruleset rollback_laws = (rollback_read, rollback_long, rollback_to, rollback_view, rollback_count)
