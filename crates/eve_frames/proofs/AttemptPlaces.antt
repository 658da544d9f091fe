-- Public: other crates cite these lemmas. Where an Attempt frame's fields stand.
use Rattle.std.proofs.Common.{◌≡◌, ℕ, ◌+◌, ◌-◌, ◌*◌, ◌≤◌, Bool, true, false, cond, leb, eqb, List, ◌++◌, length, get_or}
use Rattle.std.proofs.Common.{take, drop, Some, None, refl, sym, ap, subst, ◌∙◌, arith}
use Rattle.std.specs.Prelude.{IsTrue}
use Rattle.std.specs.List.{flat_map}
use Rattle.std.proofs.Math.Seq.{take-append_seam}
use Rattle.std.proofs.lemmas.Bool.{eqb-true, leb-true, and_parts}
use Rattle.std.proofs.lemmas.List.{length-drop, drop-drop}
use Rattle.byteorder.specs.Endian.{big_number}
use Rattle.eve_grammar.specs.Trace.{Attempt}
use Rattle.eve_grammar.specs.Limits.{is_between}
use Rattle.eve_grammar.specs.Readers.{number_at, both, made, made_if, only, many_at, reply_at, serial_from}
use Rattle.eve_grammar.specs.Readers.{attempt_from, certified_at, token_at, attempt_of}
use Rattle.eve_smallbank.specs.Spelling.{reply_text}
use Rattle.eve_grammar.specs.Limits.{is_reply}
use Rattle.eve_grammar.proofs.Codec.{IsBytes, IsBytes-drop, Codec-many}
use Rattle.eve_grammar.proofs.PartCodecs.{reply_length, Codec-reply}
use Rattle.eve_grammar.proofs.Scans.{many_length, text_length}
use Rattle.eve_frames.specs.Views.{has_attempt_body, attempt_in}
use Rattle.eve_frames.proofs.Places.{found, number_from, number_some, bytes_some, made_some, made_if_some}
use Rattle.eve_grammar.proofs.Codec.{some_is}
use Rattle.eve_frames.proofs.Places.{only_some, whole_some, both_some, both_any, led_some, Takes-number, Takes-only}
use Rattle.eve_frames.proofs.Places.{Takes-made_if, byte_at}
use Rattle.eve_frames.proofs.Lists.{Takes-many, Stand}
use Rattle.eve_frames.proofs.SentPlaces.{Takes-reply}

-- with n requests
pub record AttemptAt (bytes : List ℕ) (n : ℕ) (a : Attempt) : Type 0 where
  pub long : length bytes ≡ 48 + 11 * n
  pub some : 1 ≤ n
  pub few : n ≤ 256
  pub seq : a.seq ≡ big_number 4 (drop 5 bytes)
  pub view : a.view ≡ big_number 4 (drop 9 bytes)
  pub serial : a.serial ≡ eqb (get_or bytes 13 0) 1
  pub count : n ≡ big_number 2 (drop 14 bytes)
  pub certificate : Stand 2 n 16 (number_at 2) bytes a.certificate
  pub replies : Stand 9 n (16 + 2 * n) reply_at bytes a.replies
  pub token : a.token ≡ take 32 (drop (16 + 11 * n) bytes)

serial_is : (mode : ℕ) (serial : Bool) → serial_from mode ≡ Some serial → serial ≡ eqb mode 1
serial_is mode serial e = by (eqb mode 0) (eqb mode 1) refl refl e
  where
    by : (zero one : Bool) → eqb mode 0 ≡ zero → eqb mode 1 ≡ one → cond zero (Some false) (cond one (Some true) None)
        ≡ Some serial → serial ≡ eqb mode 1
    by true one z o e = sym (some_is false serial e) ∙ ap (λ (k : ℕ). eqb k 1) (sym (eqb-true mode 0 z))
    by false true z o e = sym (some_is true serial e) ∙ sym o
    by false false z o e = absurd cc

pub attempt_at : (bytes : List ℕ) (a : Attempt) → attempt_of (drop 5 bytes) ≡ Some a → (n : ℕ) × AttemptAt bytes n a
unfolding attempt_of certified_at token_at
attempt_at bytes a e =
    let serial_at = made_if serial_from (number_at 1) in
    let w = whole_some (made attempt_from
    (both (number_at 4) (both (number_at 4) (both serial_at (both certified_at token_at))))) (drop 5 bytes) a e in
    let m = made_some attempt_from
    (both (number_at 4) (both (number_at 4) (both serial_at (both certified_at token_at)))) (drop 5 bytes)
    (a, w.0) w.1 in
    let p = both_some 4 5 (number_at 4) (both (number_at 4) (both serial_at (both certified_at token_at)))
    (Takes-number 4) bytes (m.0, w.0) m.1 in
    let q = both_some 4 9 (number_at 4) (both serial_at (both certified_at token_at)) (Takes-number 4) bytes
    (m.0.1, w.0) p.1 in
    let r = both_some 1 13 serial_at (both certified_at token_at)
    (Takes-made_if 1 serial_from (number_at 1) (Takes-number 1)) bytes (m.0.1.1, w.0) q.1 in
    let s = both_any certified_at token_at (drop 14 bytes) (m.0.1.1.1, w.0) r.1 in
    let lists = m.0.1.1.1.0 in
    let t = led_some 2 14 (only (is_between 1 256) (number_at 2))
    (λ count. both (many_at (number_at 2) count) (many_at reply_at count))
    (Takes-only 2 (is_between 1 256) (number_at 2) (Takes-number 2)) bytes (lists, s.0) s.1 in
    let n = t.0 in
    let between = only_some (is_between 1 256) (number_at 2) (drop 14 bytes) (n, drop 16 bytes) t.1 in
    let u = both_some (2 * n) 16 (many_at (number_at 2) n) (many_at reply_at n)
    (Takes-many 2 (number_at 2) (Takes-number 2) n) bytes (lists, s.0) t.2 in
    let seq = number_some 4 (drop 5 bytes) (m.0.0, drop 9 bytes) p.0 in
    let view = number_some 4 (drop 9 bytes) (m.0.1.0, drop 13 bytes) q.0 in
    let mode = made_if_some serial_from (number_at 1) (drop 13 bytes) (m.0.1.1.0, drop 14 bytes) r.0 in
    let code = number_some 1 (drop 13 bytes) (mode.0, drop 14 bytes) mode.1 in
    let count = number_some 2 (drop 14 bytes) (n, drop 16 bytes) between.0 in
    let token = bytes_some 32 s.0 (m.0.1.1.1.1, w.0) s.2 in
    let nines = (Takes-many 9 reply_at Takes-reply n).by (drop (16 + 2 * n) bytes) (lists.1, s.0) u.1 in
    let more = token.0 in
    let room = nines.0 in
    let sum : 16 + 2 * n + 9 * n ≡ 16 + 11 * n = omega arith in
    let behind : s.0 ≡ drop (16 + 11 * n) bytes = nines.1 ∙ drop-drop (9 * n) (16 + 2 * n) bytes
    ∙ ap (λ (k : ℕ). drop k bytes) sum in
    let size : length bytes ≡ 48 + 11 * n =
    omega (
      arith,
      more,
      w.2,
      ap length token.2,
      length-drop 32 s.0,
      ap length behind,
      length-drop (16 + 11 * n) bytes,
    ) in (
      n,
      record {
        long = size;
        some = leb-true 1 n (and_parts (leb 1 n) (leb n 256) between.1).0;
        few = leb-true n 256 (and_parts (leb 1 n) (leb n 256) between.1).1;
        seq = ap (λ (x : Attempt). x.seq) m.2 ∙ seq.1;
        view = ap (λ (x : Attempt). x.view) m.2 ∙ view.1;
        serial = ap (λ (x : Attempt). x.serial) m.2 ∙ serial_is mode.0 m.0.1.1.0 mode.2
            ∙ ap (λ (k : ℕ). eqb k 1) (code.1 ∙ byte_at 13 bytes);
        count = count.1;
        certificate = subst (λ (x : Attempt). Stand 2 n 16 (number_at 2) bytes x.certificate) (sym m.2)
            (record {
              fixed = Takes-number 2;
              count = many_length (number_at 2) n (drop 16 bytes)
                  (lists.0, drop (16 + 2 * n) bytes) u.0;
              long = omega (arith, size);
              rest = drop (16 + 2 * n) bytes;
              read = u.0;
            });
        replies = subst (λ (x : Attempt). Stand 9 n (16 + 2 * n) reply_at bytes x.replies) (sym m.2)
            (record {
              fixed = Takes-reply;
              count = many_length reply_at n (drop (16 + 2 * n) bytes) (lists.1, s.0) u.1;
              long = omega (arith, size);
              rest = s.0;
              read = u.1;
            });
        token = ap (λ (x : Attempt). x.token) m.2 ∙ token.1 ∙ ap (take 32) behind;
      },
    )

pub attempt_read : (bytes : List ℕ) → IsTrue (has_attempt_body bytes) → attempt_of (drop 5 bytes)
    ≡ Some (attempt_in bytes)
unfolding attempt_in
attempt_read bytes there = found (attempt_of (drop 5 bytes)) _ there

-- how many requests
abbrev pub requests_of : List ℕ → ℕ
requests_of bytes = length (attempt_in bytes).certificate

pub attempt_placed : (bytes : List ℕ) → IsTrue (has_attempt_body bytes)
    → AttemptAt bytes (requests_of bytes) (attempt_in bytes)
attempt_placed bytes there =
    let p = attempt_at bytes (attempt_in bytes) (attempt_read bytes there) in
    subst (λ (n : ℕ). AttemptAt bytes n (attempt_in bytes)) (sym p.1.certificate.count) p.1

pub attempt_long : (bytes : List ℕ) → IsTrue (has_attempt_body bytes) → length bytes ≡ 48 + 11 * requests_of bytes
attempt_long bytes there = (attempt_placed bytes there).long

pub attempt_few : (bytes : List ℕ) → IsTrue (has_attempt_body bytes) → requests_of bytes ≤ 256
attempt_few bytes there = (attempt_placed bytes there).few

pub attempt_seq : (bytes : List ℕ) → IsTrue (has_attempt_body bytes) → (attempt_in bytes).seq
    ≡ big_number 4 (take (length bytes - 5) (drop 5 bytes))
attempt_seq bytes there = (attempt_placed bytes there).seq ∙ number_from 4 5 bytes

pub attempt_view : (bytes : List ℕ) → IsTrue (has_attempt_body bytes) → (attempt_in bytes).view
    ≡ big_number 4 (take (length bytes - 9) (drop 9 bytes))
attempt_view bytes there = (attempt_placed bytes there).view ∙ number_from 4 9 bytes

pub attempt_serial : (bytes : List ℕ) → IsTrue (has_attempt_body bytes) → (attempt_in bytes).serial
    ≡ eqb (get_or bytes 13 0) 1
attempt_serial bytes there = (attempt_placed bytes there).serial

pub attempt_count : (bytes : List ℕ) → IsTrue (has_attempt_body bytes) → requests_of bytes
    ≡ big_number 2 (take (length bytes - 14) (drop 14 bytes))
attempt_count bytes there = (attempt_placed bytes there).count ∙ number_from 2 14 bytes

-- a reply for each index
pub attempt_even : (bytes : List ℕ) → IsTrue (has_attempt_body bytes) → length (attempt_in bytes).replies
    ≡ requests_of bytes
attempt_even bytes there = (attempt_placed bytes there).replies.count

-- one at least
pub attempt_some : (bytes : List ℕ) → IsTrue (has_attempt_body bytes) → 1 ≤ length (attempt_in bytes).replies
attempt_some bytes there =
    let some = (attempt_placed bytes there).some in
    let even = attempt_even bytes there in
    omega arith

pub attempt_token : (bytes : List ℕ) → IsTrue (has_attempt_body bytes) → (attempt_in bytes).token
    ≡ take 32 (drop (16 + 11 * requests_of bytes) bytes)
attempt_token bytes there = (attempt_placed bytes there).token

-- the replies' spelling
pub attempt_replies : (bytes : List ℕ) → IsTrue (has_attempt_body bytes) → IsBytes bytes
    → take (9 * requests_of bytes) (drop (16 + 2 * requests_of bytes) bytes)
    ≡ flat_map reply_text (attempt_in bytes).replies
attempt_replies bytes there fits =
    let n = requests_of bytes in
    let replies = (attempt_in bytes).replies in
    let at : ℕ = 16 + 2 * n in
    let stand = (attempt_placed bytes there).replies in
    let taken = (Codec-many reply_text is_reply reply_at Codec-reply n).takes (drop at bytes) (replies, stand.rest)
    (IsBytes-drop at bytes fits) stand.read in
    let long : 9 * n ≡ length (flat_map reply_text replies) = ap (λ (k : ℕ). 9 * k) (sym stand.count)
    ∙ sym (text_length 9 reply_text reply_length replies) in
    ap (take (9 * n)) taken.0.parts ∙ ap (λ (k : ℕ). take k (flat_map reply_text replies ++ stand.rest)) long
    ∙ take-append_seam (flat_map reply_text replies) stand.rest

pub ruleset attempt_laws = (
  attempt_read,
  attempt_long,
  attempt_few,
  attempt_seq,
  attempt_view,
  attempt_serial,
  attempt_count,
  attempt_even,
  attempt_token,
)
