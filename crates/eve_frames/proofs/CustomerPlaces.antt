-- Where a Customer frame's fields stand.
use Rattle.std.proofs.Common.{◌≡◌, ℕ, ℤ, ◌+◌, ◌-◌, ◌≤◌, true, ◌&&◌, leb, List, length, get_or, take, drop, Some, sym}
use Rattle.std.proofs.Common.{ap, subst, ◌∙◌, arith}
use Rattle.std.specs.Prelude.{IsTrue}
use Rattle.std.specs.List.{list_all}
use Rattle.std.specs.Int.{w64, cast_signed}
use Rattle.std.proofs.lemmas.Bool.{leb-true, and_parts}
use Rattle.std.proofs.lemmas.List.{take_rest, length-take, length-drop, drop-drop}
use Rattle.byteorder.specs.Endian.{big_number}
use Rattle.eve_accounts.specs.Money.{is_balance, is_saving}
use Rattle.eve_accounts.specs.Names.{is_name, is_printable}
use Rattle.eve_grammar.specs.Trace.{Customer}
use Rattle.eve_grammar.specs.Readers.{number_at, bytes_at, signed_at, both, led_by, made, only, name_at, saving_at}
use Rattle.eve_grammar.specs.Readers.{balance_at, customer_from, customer_of}
use Rattle.eve_frames.specs.Views.{has_customer_body, customer_in}
use Rattle.eve_frames.proofs.Places.{found, number_some, bytes_some, made_some, only_some, whole_some, both_some}
use Rattle.eve_frames.proofs.Places.{both_any, led_some, Takes-number, Takes-signed, Takes-only, byte_at}

-- the balance in the eight bytes at a place
abbrev pub signed_from : ℕ → List ℕ → ℤ
signed_from at bytes = cast_signed w64 (big_number 8 (take (length bytes - at) (drop at bytes)))

-- with a name of n bytes
pub record CustomerAt (bytes : List ℕ) (n : ℕ) (c : Customer) : Type 0 where
  pub long : length bytes ≡ 22 + n
  pub few : n ≤ 24
  pub named : length c.name ≡ n
  pub count : n ≡ get_or bytes 5 0
  pub name : c.name ≡ take n (drop 6 bytes)
  pub saving : c.saving ≡ signed_from (6 + n) bytes
  pub saved : IsTrue (is_balance c.saving)
  pub checking : c.checking ≡ signed_from (14 + n) bytes
  pub owed : IsTrue (is_balance c.checking)

-- money at a place
signed_some : (at : ℕ) (bytes : List ℕ) (x : ℤ × List ℕ) → signed_at (drop at bytes) ≡ Some x
    → (x.0 ≡ signed_from at bytes) × (8 ≤ length (drop at bytes)) × (x.1 ≡ drop (at + 8) bytes)
signed_some at bytes x e =
    let m = made_some (cast_signed w64) (number_at 8) (drop at bytes) x e in
    let k = number_some 8 (drop at bytes) (m.0, x.1) m.1 in (
      m.2 ∙ ap (cast_signed w64) k.1 ∙ ap (λ (b : List ℕ). cast_signed w64 (big_number 8 b)) (sym (take_rest bytes at)),
      k.0,
      k.2 ∙ drop-drop 8 at bytes,
    )

short : (name : List ℕ) → is_name name ≡ true → length name ≤ 24
short name fits =
    let p = and_parts (leb 1 (length name)) (leb (length name) 24 && list_all is_printable name) fits in
    leb-true (length name) 24 (and_parts (leb (length name) 24) (list_all is_printable name) p.1).0

pub customer_at : (bytes : List ℕ) (c : Customer) → customer_of (drop 5 bytes) ≡ Some c → (n : ℕ) × CustomerAt bytes n c
unfolding customer_of name_at saving_at balance_at
customer_at bytes c e =
    let named_at = only is_name (led_by (number_at 1) bytes_at) in
    let saved_at = only is_saving signed_at in
    let owed_at = only is_balance signed_at in
    let w = whole_some (made customer_from (both named_at (both saved_at owed_at))) (drop 5 bytes) c e in
    let m = made_some customer_from (both named_at (both saved_at owed_at)) (drop 5 bytes) (c, w.0) w.1 in
    let p = both_any named_at (both saved_at owed_at) (drop 5 bytes) (m.0, w.0) m.1 in
    let o = only_some is_name (led_by (number_at 1) bytes_at) (drop 5 bytes) (m.0.0, p.0) p.1 in
    let t = led_some 1 5 (number_at 1) bytes_at (Takes-number 1) bytes (m.0.0, p.0) o.0 in
    let n = t.0 in
    let count = number_some 1 (drop 5 bytes) (n, drop 6 bytes) t.1 in
    let name = bytes_some n (drop 6 bytes) (m.0.0, p.0) t.2 in
    let behind : p.0 ≡ drop (6 + n) bytes = name.2 ∙ drop-drop n 6 bytes in
    let money : both saved_at owed_at (drop (6 + n) bytes) ≡ Some (m.0.1, w.0) = ap (both saved_at owed_at) (sym behind)
    ∙ p.2 in
    let q = both_some 8 (6 + n) saved_at owed_at (Takes-only 8 is_saving signed_at Takes-signed) bytes
    (m.0.1, w.0) money in
    let a = only_some is_saving signed_at (drop (6 + n) bytes) (m.0.1.0, drop (6 + n + 8) bytes) q.0 in
    let b = only_some is_balance signed_at (drop (6 + n + 8) bytes) (m.0.1.1, w.0) q.1 in
    let saving = signed_some (6 + n) bytes (m.0.1.0, drop (6 + n + 8) bytes) a.0 in
    let checking = signed_some (6 + n + 8) bytes (m.0.1.1, w.0) b.0 in
    let place : 6 + n + 8 ≡ 14 + n = omega arith in
    let room = name.0 in
    let last = checking.1 in
    let long : length bytes ≡ 22 + n =
    omega (arith, last, w.2, ap length checking.2, length-drop (6 + n + 8 + 8) bytes, length-drop (6 + n + 8) bytes)
    in (
      n,
      subst (λ (x : Customer). CustomerAt bytes n x) (sym m.2) (record {
        long = long;
        few = omega (arith, short m.0.0 o.1, ap length name.1, length-take n (drop 6 bytes), length-drop 6 bytes, room);
        named = omega (arith, ap length name.1, length-take n (drop 6 bytes), room);
        count = count.1 ∙ byte_at 5 bytes;
        name = name.1;
        saving = saving.0;
        saved = (and_parts (is_balance m.0.1.0) _ a.1).0;
        checking = checking.0 ∙ ap (λ (k : ℕ). signed_from k bytes) place;
        owed = b.1;
      }),
    )

pub customer_read : (bytes : List ℕ) → IsTrue (has_customer_body bytes) → customer_of (drop 5 bytes)
    ≡ Some (customer_in bytes)
unfolding customer_in
customer_read bytes there = found (customer_of (drop 5 bytes)) _ there

-- the length of the name
abbrev pub name_length : List ℕ → ℕ
name_length bytes = length (customer_in bytes).name

pub customer_placed : (bytes : List ℕ) → IsTrue (has_customer_body bytes)
    → CustomerAt bytes (name_length bytes) (customer_in bytes)
customer_placed bytes there =
    let p = customer_at bytes (customer_in bytes) (customer_read bytes there) in
    subst (λ (n : ℕ). CustomerAt bytes n (customer_in bytes)) (sym p.1.named) p.1

pub customer_long : (bytes : List ℕ) → IsTrue (has_customer_body bytes) → length bytes ≡ 22 + name_length bytes
customer_long bytes there = (customer_placed bytes there).long

pub customer_few : (bytes : List ℕ) → IsTrue (has_customer_body bytes) → name_length bytes ≤ 24
customer_few bytes there = (customer_placed bytes there).few

pub customer_count : (bytes : List ℕ) → IsTrue (has_customer_body bytes) → name_length bytes ≡ get_or bytes 5 0
customer_count bytes there = (customer_placed bytes there).count

pub customer_name : (bytes : List ℕ) → IsTrue (has_customer_body bytes) → (customer_in bytes).name
    ≡ take (name_length bytes) (drop 6 bytes)
customer_name bytes there = (customer_placed bytes there).name

pub ruleset customer_laws = (customer_read, customer_long, customer_few, customer_count)

-- the balances, where the name ends at this place
pub customer_saving : (bytes : List ℕ) (end : ℕ) → IsTrue (has_customer_body bytes) → end ≡ 6 + name_length bytes
    → signed_from end bytes ≡ (customer_in bytes).saving
customer_saving bytes end there e = ap (λ (k : ℕ). signed_from k bytes) e ∙ sym (customer_placed bytes there).saving

pub customer_saved : (bytes : List ℕ) (end : ℕ) → IsTrue (has_customer_body bytes) → end ≡ 6 + name_length bytes
    → IsTrue (is_balance (signed_from end bytes))
customer_saved bytes end there e = ap is_balance (customer_saving bytes end there e)
    ∙ (customer_placed bytes there).saved

pub customer_checking : (bytes : List ℕ) (end : ℕ) → IsTrue (has_customer_body bytes) → end ≡ 6 + name_length bytes
    → signed_from (end + 8) bytes ≡ (customer_in bytes).checking
customer_checking bytes end there e =
    let place : end + 8 ≡ 14 + name_length bytes = omega (arith, e) in
    ap (λ (k : ℕ). signed_from k bytes) place ∙ sym (customer_placed bytes there).checking

pub customer_owed : (bytes : List ℕ) (end : ℕ) → IsTrue (has_customer_body bytes) → end ≡ 6 + name_length bytes
    → IsTrue (is_balance (signed_from (end + 8) bytes))
customer_owed bytes end there e = ap is_balance (customer_checking bytes end there e)
    ∙ (customer_placed bytes there).owed
