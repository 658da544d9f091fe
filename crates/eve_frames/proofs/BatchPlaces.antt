-- Public: other crates cite these lemmas. Where a Batch frame's fields stand.
use Rattle.std.proofs.Common.{◌≡◌, ℕ, ◌+◌, ◌-◌, ◌*◌, ◌<◌, ◌≤◌, ◌&&◌, leb, List, length, take, drop, sum, Some, sym, ap}
use Rattle.std.proofs.Common.{subst, ◌∙◌, arith}
use Rattle.std.specs.Prelude.{IsTrue, slice_get}
use Rattle.std.proofs.lemmas.Option.{get_or_from_slice_get}
use Rattle.std.proofs.lemmas.List.Sums.{sum_by_more, sum_by_more_le}
use Rattle.std.specs.List.{list_all}
use Rattle.std.proofs.lemmas.Bool.{leb-true, and_parts}
use Rattle.std.proofs.lemmas.List.{length-drop, drop-drop}
use Rattle.byteorder.specs.Endian.{big_number}
use Rattle.eve_grammar.specs.Trace.{Batch}
use Rattle.eve_grammar.specs.Readers.{number_at, both, both_by, led_by, made, only, many_at, asked_at, are_sizes}
use Rattle.eve_grammar.specs.Readers.{sizes_at, batch_from, batch_of}
use Rattle.eve_grammar.proofs.Scans.{many_length}
use Rattle.eve_frames.specs.Views.{has_batch_body, batch_in}
use Rattle.eve_frames.proofs.Places.{found, number_from, number_some, made_some, only_some, whole_some, both_some}
use Rattle.eve_frames.proofs.Places.{by_some, led_some, Takes-number}
use Rattle.eve_frames.proofs.Lists.{Takes-many, Stand}

-- with this many sizes
pub record BatchAt (bytes : List ℕ) (groups : ℕ) (b : ℕ × Batch) : Type 0 where
  pub seq : b.0 ≡ big_number 4 (drop 5 bytes)
  pub count : groups ≡ big_number 2 (drop 9 bytes)
  pub sizes : Stand 2 groups 11 (number_at 2) bytes b.1.sizes
  pub few : sum b.1.sizes ≤ 256
  pub total : length b.1.requests ≡ sum b.1.sizes
  pub rest : List ℕ
  pub requests : many_at asked_at (sum b.1.sizes) (drop (11 + 2 * groups) bytes) ≡ Some (b.1.requests, rest)

sizes_stand : (bytes : List ℕ) (groups : ℕ) (sizes rest : List ℕ) → 2 ≤ length (drop 9 bytes)
    → many_at (number_at 2) groups (drop 11 bytes) ≡ Some (sizes, rest) → Stand 2 groups 11 (number_at 2) bytes sizes
sizes_stand bytes groups sizes rest before e =
    let twos = (Takes-many 2 (number_at 2) (Takes-number 2) groups).by (drop 11 bytes) (sizes, rest) e in
    let room = twos.0 in
    record {
      fixed = Takes-number 2;
      count = many_length (number_at 2) groups (drop 11 bytes) (sizes, rest) e;
      long = omega (arith, room, before, length-drop 11 bytes, length-drop 9 bytes);
      rest = rest;
      read = e;
    }

sizes_behind : (bytes : List ℕ) (groups : ℕ) (sizes rest : List ℕ) → many_at (number_at 2) groups (drop 11 bytes)
    ≡ Some (sizes, rest) → rest ≡ drop (11 + 2 * groups) bytes
sizes_behind bytes groups sizes rest e =
    let twos = (Takes-many 2 (number_at 2) (Takes-number 2) groups).by (drop 11 bytes) (sizes, rest) e in
    twos.1 ∙ drop-drop (2 * groups) 11 bytes

pub batch_at : (bytes : List ℕ) (b : ℕ × Batch) → batch_of (drop 5 bytes) ≡ Some b → (groups : ℕ)
    × BatchAt bytes groups b
unfolding batch_of sizes_at
batch_at bytes b e =
    let list_at = led_by (number_at 2) (many_at (number_at 2)) in
    let parts_at = both_by (only are_sizes list_at) (λ sizes. many_at asked_at (sum sizes)) in
    let w = whole_some (both (number_at 4) (made batch_from parts_at)) (drop 5 bytes) b e in
    let p = both_some 4 5 (number_at 4) (made batch_from parts_at) (Takes-number 4) bytes (b, w.0) w.1 in
    let m = made_some batch_from parts_at (drop 9 bytes) (b.1, w.0) p.1 in
    let q = by_some (only are_sizes list_at) (λ sizes. many_at asked_at (sum sizes)) (drop 9 bytes) (m.0, w.0) m.1 in
    let o = only_some are_sizes list_at (drop 9 bytes) (m.0.0, q.0) q.1 in
    let t = led_some 2 9 (number_at 2) (many_at (number_at 2)) (Takes-number 2) bytes (m.0.0, q.0) o.0 in
    let groups = t.0 in
    let seq = number_some 4 (drop 5 bytes) (b.0, drop 9 bytes) p.0 in
    let count = number_some 2 (drop 9 bytes) (groups, drop 11 bytes) t.1 in
    let stand : Stand 2 groups 11 (number_at 2) bytes m.0.0 = sizes_stand bytes groups m.0.0 q.0 count.0 t.2 in
    let behind : q.0 ≡ drop (11 + 2 * groups) bytes = sizes_behind bytes groups m.0.0 q.0 t.2 in
    let small = and_parts (leb 1 (length m.0.0)) (list_all (leb 1) m.0.0 && leb (sum m.0.0) 256) o.1 in
    let total = leb-true (sum m.0.0) 256 (and_parts (list_all (leb 1) m.0.0) (leb (sum m.0.0) 256) small.1).1 in
    let requests : many_at asked_at (sum m.0.0) (drop (11 + 2 * groups) bytes) ≡ Some (m.0.1, w.0) =
    ap (many_at asked_at (sum m.0.0)) (sym behind) ∙ q.2 in (
      groups,
      subst (λ (x : Batch). BatchAt bytes groups (b.0, x)) (sym m.2) (record {
        seq = seq.1;
        count = count.1;
        sizes = stand;
        few = total;
        total = many_length asked_at (sum m.0.0) (drop (11 + 2 * groups) bytes) (m.0.1, w.0) requests;
        rest = w.0;
        requests = requests;
      }),
    )

pub batch_read : (bytes : List ℕ) → IsTrue (has_batch_body bytes) → batch_of (drop 5 bytes) ≡ Some (batch_in bytes)
unfolding batch_in
batch_read bytes there = found (batch_of (drop 5 bytes)) _ there

-- how many parallelBatches
abbrev pub groups_of : List ℕ → ℕ
groups_of bytes = length (batch_in bytes).1.sizes

pub batch_placed : (bytes : List ℕ) → IsTrue (has_batch_body bytes) → BatchAt bytes (groups_of bytes) (batch_in bytes)
batch_placed bytes there =
    let p = batch_at bytes (batch_in bytes) (batch_read bytes there) in
    subst (λ (n : ℕ). BatchAt bytes n (batch_in bytes)) (sym p.1.sizes.count) p.1

pub batch_long : (bytes : List ℕ) → IsTrue (has_batch_body bytes) → 11 + 2 * groups_of bytes ≤ length bytes
batch_long bytes there = (batch_placed bytes there).sizes.long

pub batch_few : (bytes : List ℕ) → IsTrue (has_batch_body bytes) → sum (batch_in bytes).1.sizes ≤ 256
batch_few bytes there = (batch_placed bytes there).few

pub batch_total : (bytes : List ℕ) → IsTrue (has_batch_body bytes) → length (batch_in bytes).1.requests
    ≡ sum (batch_in bytes).1.sizes
batch_total bytes there = (batch_placed bytes there).total

pub batch_seq : (bytes : List ℕ) → IsTrue (has_batch_body bytes) → (batch_in bytes).0
    ≡ big_number 4 (take (length bytes - 5) (drop 5 bytes))
batch_seq bytes there = (batch_placed bytes there).seq ∙ number_from 4 5 bytes

pub batch_count : (bytes : List ℕ) → IsTrue (has_batch_body bytes) → groups_of bytes
    ≡ big_number 2 (take (length bytes - 9) (drop 9 bytes))
batch_count bytes there = (batch_placed bytes there).count ∙ number_from 2 9 bytes

pub ruleset batch_laws = (batch_read, batch_long, batch_few, batch_total, batch_seq, batch_count)

-- the sum of the sizes up to one, and of that one
pub sum_more : (sizes : List ℕ) (i size : ℕ) → i < length sizes → slice_get sizes i ≡ Some size
    → sum (take i sizes) + size ≡ sum (take (i + 1) sizes)
sum_more sizes i size lt e = ap (λ (k : ℕ). sum (take i sizes) + k) (sym (get_or_from_slice_get sizes i size 0 e))
    ∙ sym (sum_by_more (λ (x : ℕ). x) sizes i 0 lt)

pub sum_more_le : (sizes : List ℕ) (i size : ℕ) → i < length sizes → slice_get sizes i ≡ Some size
    → sum (take i sizes) + size ≤ sum sizes
sum_more_le sizes i size lt e =
    let h = sum_by_more_le (λ (x : ℕ). x) sizes i 0 lt in
    omega (arith, h, get_or_from_slice_get sizes i size 0 e)
