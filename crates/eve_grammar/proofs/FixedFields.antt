-- Fields of a fixed length, read at their places.
use Rattle.std.proofs.Common.{◌≡◌, ℕ, ◌+◌, ◌^◌, ◌<◌, ◌≤◌, Bool, true, false, ◌&&◌, ◌||◌, cond, ltb, leb, eqb, List}
use Rattle.std.proofs.Common.{length, get_or, drop, Option, Some, None, is_some, refl, ap, ◌∙◌, arith}
use Rattle.std.specs.Ordering.{int_eq}
use Rattle.std.proofs.lemmas.Bool.{ltb-false, ltb-true, le-ltb, eqb-true, eqb-false, eq-eqb}
use Rattle.std.proofs.lemmas.List.{length-append, length-drop, drop-drop, get_or-drop}
use Rattle.eve_grammar.specs.Places.{bytes_from, number_in, signed_in}
use Rattle.eve_accounts.specs.Money.{is_balance, balance_of}
use Rattle.eve_smallbank.specs.Access.{is_write}
use Rattle.eve_smallbank.specs.declared.request.Reply.{Reply}
use Rattle.eve_smallbank.specs.declared.entry.Kind.{Kind}
use Rattle.eve_smallbank.specs.declared.entry.Entry.{Entry}
use Rattle.eve_grammar.specs.Limits.{is_between, is_entry, is_head}
use Rattle.eve_grammar.specs.Trace.{Sent}
use Rattle.eve_grammar.specs.Frames.{OfSent}
use Rattle.eve_grammar.specs.Spelling.{body_text, entry_text, restore_text, versioned_text}
use Rattle.eve_grammar.specs.Readers.{Reader, ◌>>=◌, number_at, signed_at, both, behind, made, made_if, only, head_from}
use Rattle.eve_grammar.specs.Readers.{header_of, reply_from, reply_at, sent_of, kind_from, entry_fields_at, entry_at}
use Rattle.eve_grammar.specs.Readers.{restore_fields_at, restore_at, versioned_fields_at, versioned_at}
use Rattle.eve_grammar.proofs.Codec.{IsBytes, Codec}
use Rattle.eve_grammar.proofs.BodyCodecs.{Exact-sent}
use Rattle.eve_grammar.proofs.FrameLaws.{Exact-header}
use Rattle.eve_grammar.proofs.PartCodecs.{reply_length, Codec-reply, is_written, entry_length, Codec-entry_fields}
use Rattle.eve_grammar.proofs.PartCodecs.{is_restored, restore_length, Codec-restore_fields}
use Rattle.eve_grammar.proofs.PartCodecs.{is_fielded, versioned_length, Codec-versioned_fields}
use Rattle.eve_grammar.specs.declared.head.Head.{Head}
use Rattle.eve_grammar.specs.declared.restore.Restore.{Restore}
use Rattle.eve_smallbank.specs.declared.versioned.Versioned.{Versioned}

-- what is shorter than each of its spellings is not read
pub too_short : {A : Type 0} (n : ℕ) (ta : A → List ℕ) (fa : A → Bool) (ra : Reader A) → Codec ta fa ra
    → ((a : A) → length (ta a) ≡ n) → (bytes : List ℕ) → IsBytes bytes → length bytes < n → ra bytes ≡ None
too_short {A = A} n ta fa ra one len bytes fits lt = by (ra bytes) refl
  where
    by : (r : Option (A × List ℕ)) → ra bytes ≡ r → r ≡ None
    by None e = refl
    by (Some x) e =
        let t = (one.takes bytes x fits e).0 in
        absurd (omega (arith, len x.0, ap length t.parts, length-append (ta x.0) x.1))

number_at_in : (n k : ℕ) (bytes : List ℕ) → k + n ≤ length bytes → number_at n (drop k bytes)
    ≡ Some (number_in n k bytes, drop (k + n) bytes)
unfolding number_in
number_at_in n k bytes le =
    let long : ltb (length (drop k bytes)) n ≡ false = le-ltb _ _ (omega (arith, length-drop k bytes)) in
    rw (long, drop-drop n k bytes) refl

byte_in : (k : ℕ) (bytes : List ℕ) → number_in 1 k bytes ≡ get_or bytes k 0
unfolding number_in
byte_in k bytes = let e : get_or (drop k bytes) 0 0 ≡ get_or bytes (k + 0) 0 = get_or-drop k bytes 0 0 in let z : k + 0
    ≡ k = omega arith in omega (arith, e, ap (λ (i : ℕ). get_or bytes i 0) z)

signed_at_in : (k : ℕ) (bytes : List ℕ) → k + 8 ≤ length bytes → signed_at (drop k bytes)
    ≡ Some (signed_in k bytes, drop (k + 8) bytes)
unfolding signed_in number_in
signed_at_in k bytes le = rw (number_at_in 8 k bytes le) refl

both_at : {A B : Type 0} (one : Reader A) (two : Reader B) (bytes more rest : List ℕ) (a : A) (b : B)
    → one bytes ≡ Some (a, more) → two more ≡ Some (b, rest) → both one two bytes ≡ Some ((a, b), rest)
both_at one two bytes more rest a b p q = rw (p, q) refl

both_none : {A B : Type 0} (one : Reader A) (two : Reader B) (bytes more : List ℕ) (a : A) → one bytes ≡ Some (a, more)
    → two more ≡ None → both one two bytes ≡ None
both_none one two bytes more a p q = rw (p, q) refl

first_none : {A B : Type 0} (one : Reader A) (two : Reader B) (bytes : List ℕ) → one bytes ≡ None → both one two bytes
    ≡ None
first_none one two bytes p = rw p refl

-- ---- replies

abbrev pub reply_in : List ℕ → Option (Reply × List ℕ)
reply_in bytes = reply_from (get_or bytes 0 0, signed_in 1 bytes) >>= λ r. Some (r, bytes_from 9 bytes)

reply_long : (bytes : List ℕ) → 9 ≤ length bytes → reply_at bytes ≡ reply_in bytes
unfolding reply_at bytes_from
reply_long bytes le =
    let read = both_at (number_at 1) signed_at bytes (drop 1 bytes) (drop 9 bytes) (number_in 1 0 bytes)
    (signed_in 1 bytes) (number_at_in 1 0 bytes (omega arith)) (signed_at_in 1 bytes (omega arith)) in
    rw (read, byte_in 0 bytes) refl

pub reply_is : (bytes : List ℕ) → IsBytes bytes → reply_at bytes ≡ cond (ltb (length bytes) 9) None (reply_in bytes)
reply_is bytes fits = by (ltb (length bytes) 9) refl
  where
    by : (short : Bool) → ltb (length bytes) 9 ≡ short → reply_at bytes ≡ cond short None (reply_in bytes)
    by true e = too_short 9 _ _ reply_at Codec-reply reply_length bytes fits (ltb-true _ _ e)
    by false e = reply_long bytes (ltb-false _ _ e)

-- ---- replies sent

-- what stands at the places of a reply sent is within the limits
abbrev pub sent_fits : ℕ → ℕ → List ℕ → Bool
sent_fits replicas batches bytes =
    ltb (get_or bytes 12 0) replicas
    && (is_between 1 batches (number_in 4 13 bytes) && is_some (reply_from (get_or bytes 17 0, signed_in 18 bytes)))

abbrev some_number : ℕ → List ℕ → Option (ℕ × List ℕ)
some_number n rest = Some (n, rest)

reply_behind : (bytes : List ℕ) → 26 ≤ length bytes → reply_at (drop 17 bytes)
    ≡ (reply_from (get_or bytes 17 0, signed_in 18 bytes) >>= λ r. Some (r, drop 26 bytes))
unfolding reply_at
reply_behind bytes le =
    let read = both_at (number_at 1) signed_at (drop 17 bytes) (drop 18 bytes) (drop 26 bytes) (number_in 1 17 bytes)
    (signed_in 18 bytes) (number_at_in 1 17 bytes (omega arith)) (signed_at_in 18 bytes (omega arith)) in
    rw (read, byte_in 17 bytes) refl

sent_long : (replicas batches : ℕ) (bytes : List ℕ) → length bytes ≡ 26 → is_some (sent_of replicas batches bytes)
    ≡ sent_fits replicas batches bytes
unfolding sent_of
sent_long replicas batches bytes len =
    by (ltb (get_or bytes 12 0) replicas) (is_between 1 batches (number_in 4 13 bytes))
    (reply_from (get_or bytes 17 0, signed_in 18 bytes)) refl refl refl
  where
    client : number_at 4 bytes ≡ Some (number_in 4 0 bytes, drop 4 bytes)
    client = number_at_in 4 0 bytes (omega (arith, len))

    number : number_at 8 (drop 4 bytes) ≡ Some (number_in 8 4 bytes, drop 12 bytes)
    number = number_at_in 8 4 bytes (omega (arith, len))

    replica : number_at 1 (drop 12 bytes) ≡ Some (get_or bytes 12 0, drop 13 bytes)
    replica = number_at_in 1 12 bytes (omega (arith, len))
        ∙ ap (λ (n : ℕ). some_number n (drop 13 bytes)) (byte_in 12 bytes)

    seq : number_at 4 (drop 13 bytes) ≡ Some (number_in 4 13 bytes, drop 17 bytes)
    seq = number_at_in 4 13 bytes (omega (arith, len))

    nothing : eqb (length (drop 26 bytes)) 0 ≡ true
    nothing = eq-eqb _ _ (omega (arith, length-drop 26 bytes, len))

    by : (a b : Bool) (r : Option Reply) → ltb (get_or bytes 12 0) replicas ≡ a
        → is_between 1 batches (number_in 4 13 bytes) ≡ b → reply_from (get_or bytes 17 0, signed_in 18 bytes) ≡ r
        → is_some (sent_of replicas batches bytes) ≡ (a && (b && is_some r))
    by true true (Some r) p q e =
        let reply : reply_at (drop 17 bytes) ≡ Some (r, drop 26 bytes) =
        reply_behind bytes (omega (arith, len)) ∙ rw e refl in
        rw (client, number, replica, p, seq, q, reply, nothing) refl
    by true true None p q e =
        let reply : reply_at (drop 17 bytes) ≡ None = reply_behind bytes (omega (arith, len)) ∙ rw e refl in
        rw (client, number, replica, p, seq, q, reply) refl
    by true false r p q e = rw (client, number, replica, p, seq, q) refl
    by false b r p q e = rw (client, number, replica, p) refl

sent_size : (s : Sent) → length (body_text (OfSent s)) ≡ 26
sent_size s = omega (arith, reply_length s.reply)

sent_other : (replicas batches : ℕ) (bytes : List ℕ) → replicas ≤ 256 → batches < 2 ^ 32 → IsBytes bytes
    → (length bytes ≡ 26 → ⊥) → is_some (sent_of replicas batches bytes) ≡ false
sent_other replicas batches bytes r b fits other = by (sent_of replicas batches bytes) refl
  where
    by : (o : Option Sent) → sent_of replicas batches bytes ≡ o → is_some o ≡ false
    by None e = refl
    by (Some s) e = absurd (other (ap length ((Exact-sent replicas batches r b).takes bytes s fits e).0 ∙ sent_size s))

pub sent_is : (replicas batches : ℕ) (bytes : List ℕ) → replicas ≤ 256 → batches < 2 ^ 32 → IsBytes bytes
    → is_some (sent_of replicas batches bytes) ≡ cond (eqb (length bytes) 26) (sent_fits replicas batches bytes) false
sent_is replicas batches bytes r b fits = by (eqb (length bytes) 26) refl
  where
    by : (t : Bool) → eqb (length bytes) 26 ≡ t
        → is_some (sent_of replicas batches bytes) ≡ cond t (sent_fits replicas batches bytes) false
    by true e = sent_long replicas batches bytes (eqb-true _ _ e)
    by false e = sent_other replicas batches bytes r b fits (eqb-false _ _ e)

-- ---- entries

abbrev pub entry_of : List ℕ → Kind → Entry
entry_of bytes kind = record {
  row = number_in 4 0 bytes;
  kind = kind;
  version = number_in 8 5 bytes;
  seen = signed_in 13 bytes;
  after = signed_in 21 bytes;
}

abbrev pub entry_found : List ℕ → Kind → Option (Entry × List ℕ)
entry_found bytes kind = Some (entry_of bytes kind, bytes_from 29 bytes)

-- the entry, if it is within limits
abbrev pub entry_if : ℕ → List ℕ → Kind → Option (Entry × List ℕ)
entry_if rows bytes kind =
    balance_of (signed_in 13 bytes) >>= λ seen. balance_of (signed_in 21 bytes) >>= λ after.
    cond (ltb (number_in 4 0 bytes) rows)
    (cond (leb (number_in 8 5 bytes) 1099511627776)
    (cond (is_write kind || int_eq after seen) (entry_found bytes kind) None) None) None

abbrev pub entry_in : ℕ → List ℕ → Option (Entry × List ℕ)
entry_in rows bytes = kind_from (get_or bytes 4 0) >>= entry_if rows bytes

kind_at : Reader Kind
kind_at = made_if kind_from (number_at 1)

entry_fields_long : (bytes : List ℕ) → 29 ≤ length bytes → (k : Option Kind) → kind_from (get_or bytes 4 0) ≡ k
    → entry_fields_at bytes ≡ (k >>= λ kind. Some (entry_of bytes kind, bytes_from 29 bytes))
unfolding entry_fields_at kind_at bytes_from
entry_fields_long bytes le None e =
    let none : kind_at (drop 4 bytes) ≡ None = rw (number_at_in 1 4 bytes (omega arith), byte_in 4 bytes, e) refl in
    rw (both_none (number_at 4) (both kind_at (both (number_at 8) (both signed_at signed_at))) bytes (drop 4 bytes)
    (number_in 4 0 bytes) (number_at_in 4 0 bytes (omega arith))
    (first_none kind_at (both (number_at 8) (both signed_at signed_at)) (drop 4 bytes) none)) refl
entry_fields_long bytes le (Some kind) e =
    let some : kind_at (drop 4 bytes) ≡ Some (kind, drop 5 bytes) =
    rw (number_at_in 1 4 bytes (omega arith), byte_in 4 bytes, e) refl in
    let values = both_at signed_at signed_at (drop 13 bytes) (drop 21 bytes) (drop 29 bytes) (signed_in 13 bytes)
    (signed_in 21 bytes) (signed_at_in 13 bytes (omega arith)) (signed_at_in 21 bytes (omega arith)) in
    let versioned = both_at (number_at 8) (both signed_at signed_at) (drop 5 bytes) (drop 13 bytes) (drop 29 bytes)
    (number_in 8 5 bytes) (signed_in 13 bytes, signed_in 21 bytes) (number_at_in 8 5 bytes (omega arith)) values in
    let kinded = both_at kind_at (both (number_at 8) (both signed_at signed_at)) (drop 4 bytes) (drop 5 bytes)
    (drop 29 bytes) kind (number_in 8 5 bytes, (signed_in 13 bytes, signed_in 21 bytes)) some versioned in
    rw (both_at (number_at 4) (both kind_at (both (number_at 8) (both signed_at signed_at))) bytes (drop 4 bytes)
    (drop 29 bytes) (number_in 4 0 bytes) (kind, (number_in 8 5 bytes, (signed_in 13 bytes, signed_in 21 bytes)))
    (number_at_in 4 0 bytes (omega arith)) kinded) refl

entry_long : (rows : ℕ) (bytes : List ℕ) → 29 ≤ length bytes → entry_at rows bytes ≡ entry_in rows bytes
unfolding entry_at
entry_long rows bytes le =
    by (kind_from (get_or bytes 4 0)) (entry_fields_long bytes le (kind_from (get_or bytes 4 0)) refl)
  where
    tested : (kind : Kind) (a b c d e : Bool) → is_balance (signed_in 13 bytes) ≡ a → is_balance (signed_in 21 bytes)
        ≡ b → ltb (number_in 4 0 bytes) rows ≡ c → leb (number_in 8 5 bytes) 1099511627776 ≡ d
        → (is_write kind || int_eq (signed_in 21 bytes) (signed_in 13 bytes)) ≡ e
        → cond (c && (d && (a && (b && e)))) (entry_found bytes kind) None
        ≡ (cond a (Some (signed_in 13 bytes)) None >>= λ seen. cond b (Some (signed_in 21 bytes)) None >>= λ after. cond
        c (cond d (cond (is_write kind || int_eq after seen) (entry_found bytes kind) None) None) None)
    tested kind true true true true e p q r s t = rw t refl
    tested kind true true true false e p q r s t = refl
    tested kind true true false d e p q r s t = refl
    tested kind true false true true e p q r s t = refl
    tested kind true false true false e p q r s t = refl
    tested kind true false false d e p q r s t = refl
    tested kind false b true true e p q r s t = refl
    tested kind false b true false e p q r s t = refl
    tested kind false b false d e p q r s t = refl

    by : (k : Option Kind) → entry_fields_at bytes ≡ (k >>= λ kind. Some (entry_of bytes kind, bytes_from 29 bytes))
        → only (is_entry rows) entry_fields_at bytes ≡ (k >>= entry_if rows bytes)
    by None e = rw e refl
    by (Some kind) e = rw e (tested kind _ _ _ _ _ refl refl refl refl refl)

entry_short : (rows : ℕ) (bytes : List ℕ) → IsBytes bytes → length bytes < 29 → entry_at rows bytes ≡ None
unfolding entry_at
entry_short rows bytes fits lt =
    rw (too_short 29 entry_text is_written entry_fields_at Codec-entry_fields entry_length bytes fits lt) refl

pub entry_is : (rows : ℕ) (bytes : List ℕ) → IsBytes bytes → entry_at rows bytes ≡ cond (ltb (length bytes) 29) None
    (entry_in rows bytes)
entry_is rows bytes fits = by (ltb (length bytes) 29) refl
  where
    by : (b : Bool) → ltb (length bytes) 29 ≡ b → entry_at rows bytes ≡ cond b None (entry_in rows bytes)
    by true e = entry_short rows bytes fits (ltb-true _ _ e)
    by false e = entry_long rows bytes (ltb-false _ _ e)

-- ---- restores

abbrev pub restore_of : List ℕ → Restore
restore_of bytes = record { row = number_in 4 0 bytes; version = number_in 8 4 bytes; value = signed_in 12 bytes }

abbrev pub restore_found : List ℕ → Option (Restore × List ℕ)
restore_found bytes = Some (restore_of bytes, bytes_from 20 bytes)

abbrev pub restore_in : ℕ → List ℕ → Option (Restore × List ℕ)
restore_in rows bytes =
    balance_of (signed_in 12 bytes) >>= λ value.
    cond (ltb (number_in 4 0 bytes) rows) (cond (leb (number_in 8 4 bytes) 1099511627776) (restore_found bytes) None)
    None

restore_fields_long : (bytes : List ℕ) → 20 ≤ length bytes → restore_fields_at bytes
    ≡ Some (restore_of bytes, bytes_from 20 bytes)
unfolding restore_fields_at bytes_from
restore_fields_long bytes le =
    let versioned = both_at (number_at 8) signed_at (drop 4 bytes) (drop 12 bytes) (drop 20 bytes) (number_in 8 4 bytes)
    (signed_in 12 bytes) (number_at_in 8 4 bytes (omega arith)) (signed_at_in 12 bytes (omega arith)) in
    rw (both_at (number_at 4) (both (number_at 8) signed_at) bytes (drop 4 bytes) (drop 20 bytes) (number_in 4 0 bytes)
    (number_in 8 4 bytes, signed_in 12 bytes) (number_at_in 4 0 bytes (omega arith)) versioned) refl

restore_long : (rows : ℕ) (bytes : List ℕ) → 20 ≤ length bytes → restore_at rows bytes ≡ restore_in rows bytes
unfolding restore_at
restore_long rows bytes le =
    rw (restore_fields_long bytes le)
    (tested (is_balance (signed_in 12 bytes)) (ltb (number_in 4 0 bytes) rows)
    (leb (number_in 8 4 bytes) 1099511627776))
  where
    tested : (a c d : Bool) → cond (c && (d && a)) (restore_found bytes) None
        ≡ (cond a (Some (signed_in 12 bytes)) None >>= λ value. cond c (cond d (restore_found bytes) None) None)
    tested true true true = refl
    tested true true false = refl
    tested true false d = refl
    tested false true true = refl
    tested false true false = refl
    tested false false d = refl

restore_short : (rows : ℕ) (bytes : List ℕ) → IsBytes bytes → length bytes < 20 → restore_at rows bytes ≡ None
unfolding restore_at
restore_short rows bytes fits lt =
    rw (too_short 20 restore_text is_restored restore_fields_at Codec-restore_fields restore_length bytes fits lt) refl

pub restore_is : (rows : ℕ) (bytes : List ℕ) → IsBytes bytes → restore_at rows bytes ≡ cond (ltb (length bytes) 20) None
    (restore_in rows bytes)
restore_is rows bytes fits = by (ltb (length bytes) 20) refl
  where
    by : (b : Bool) → ltb (length bytes) 20 ≡ b → restore_at rows bytes ≡ cond b None (restore_in rows bytes)
    by true e = restore_short rows bytes fits (ltb-true _ _ e)
    by false e = restore_long rows bytes (ltb-false _ _ e)

-- ---- versions and values

abbrev pub versioned_in : List ℕ → Versioned
versioned_in bytes = record { version = number_in 8 0 bytes; value = signed_in 8 bytes }

abbrev pub versioned_found : List ℕ → Option (Versioned × List ℕ)
versioned_found bytes = Some (versioned_in bytes, bytes_from 16 bytes)

abbrev pub versioned_if : List ℕ → Option (Versioned × List ℕ)
versioned_if bytes =
    balance_of (signed_in 8 bytes) >>= λ value.
    cond (leb (number_in 8 0 bytes) 1099511627776) (versioned_found bytes) None

versioned_fields_long : (bytes : List ℕ) → 16 ≤ length bytes → versioned_fields_at bytes ≡ versioned_found bytes
unfolding versioned_fields_at bytes_from
versioned_fields_long bytes le =
    rw (both_at (number_at 8) signed_at bytes (drop 8 bytes) (drop 16 bytes) (number_in 8 0 bytes) (signed_in 8 bytes)
    (number_at_in 8 0 bytes (omega arith)) (signed_at_in 8 bytes (omega arith))) refl

versioned_long : (bytes : List ℕ) → 16 ≤ length bytes → versioned_at bytes ≡ versioned_if bytes
unfolding versioned_at
versioned_long bytes le =
    rw (versioned_fields_long bytes le)
    (tested (leb (number_in 8 0 bytes) 1099511627776) (is_balance (signed_in 8 bytes)))
  where
    tested : (a b : Bool) → cond (a && b) (versioned_found bytes) None
        ≡ (cond b (Some (signed_in 8 bytes)) None >>= λ value. cond a (versioned_found bytes) None)
    tested true true = refl
    tested true false = refl
    tested false true = refl
    tested false false = refl

versioned_short : (bytes : List ℕ) → IsBytes bytes → length bytes < 16 → versioned_at bytes ≡ None
unfolding versioned_at
versioned_short bytes fits lt =
    let none = too_short 16 versioned_text is_fielded versioned_fields_at Codec-versioned_fields versioned_length in
    rw (none bytes fits lt) refl

pub versioned_is : (bytes : List ℕ) → IsBytes bytes → versioned_at bytes ≡ cond (ltb (length bytes) 16) None
    (versioned_if bytes)
versioned_is bytes fits = by (ltb (length bytes) 16) refl
  where
    by : (b : Bool) → ltb (length bytes) 16 ≡ b → versioned_at bytes ≡ cond b None (versioned_if bytes)
    by true e = versioned_short bytes fits (ltb-true _ _ e)
    by false e = versioned_long bytes (ltb-false _ _ e)

-- ---- the header

abbrev pub head_in : List ℕ → Head
head_in bytes =
    record {
      version = number_in 2 0 bytes;
      replicas = get_or bytes 2 0;
      verifiers = get_or bytes 3 0;
      quorum = get_or bytes 4 0;
      window = get_or bytes 5 0;
      workers = get_or bytes 6 0;
      customers = number_in 4 10 bytes;
      batches =
          number_in 4 14 bytes;
    }

abbrev pub head_if : List ℕ → Option Head
head_if bytes = cond (is_head (head_in bytes)) (Some (head_in bytes)) None

abbrev pub header_in : List ℕ → Option Head
header_in bytes = cond (eqb (number_in 3 7 bytes) 0) (head_if bytes) None

-- a byte and what is read after it
byte_then : {A : Type 0} (two : Reader A) (k : ℕ) (bytes rest : List ℕ) (a : A) → k + 1 ≤ length bytes
    → two (drop (k + 1) bytes) ≡ Some (a, rest) → both (number_at 1) two (drop k bytes)
    ≡ Some ((get_or bytes k 0, a), rest)
byte_then two k bytes rest a le e = rw (number_at_in 1 k bytes le, byte_in k bytes, e) refl

byte_none : {A : Type 0} (two : Reader A) (k : ℕ) (bytes : List ℕ) → k + 1 ≤ length bytes → two (drop (k + 1) bytes)
    ≡ None → both (number_at 1) two (drop k bytes) ≡ None
byte_none two k bytes le e = rw (number_at_in 1 k bytes le, e) refl

zeros_some : (bytes : List ℕ) → 18 ≤ length bytes → eqb (number_in 3 7 bytes) 0 ≡ true
    → behind 3 0 (both (number_at 4) (number_at 4)) (drop 7 bytes)
    ≡ Some ((number_in 4 10 bytes, number_in 4 14 bytes), drop 18 bytes)
zeros_some bytes le zero_is =
    rw (number_at_in 3 7 bytes (omega arith), zero_is)
    (both_at (number_at 4) (number_at 4) (drop 10 bytes) (drop 14 bytes) (drop 18 bytes) (number_in 4 10 bytes)
    (number_in 4 14 bytes) (number_at_in 4 10 bytes (omega arith)) (number_at_in 4 14 bytes (omega arith)))

zeros_none : (bytes : List ℕ) → 18 ≤ length bytes → eqb (number_in 3 7 bytes) 0 ≡ false
    → behind 3 0 (both (number_at 4) (number_at 4)) (drop 7 bytes) ≡ None
zeros_none bytes le zero_is = rw (number_at_in 3 7 bytes (omega arith), zero_is) refl

-- the seven numbers after the version
counts_at : Reader (ℕ × (ℕ × (ℕ × (ℕ × (ℕ × (ℕ × ℕ))))))
counts_at = both (number_at 1)
    (both (number_at 1) (both (number_at 1)
    (both (number_at 1) (both (number_at 1) (behind 3 0 (both (number_at 4) (number_at 4)))))))

counts_some : (bytes : List ℕ) → 18 ≤ length bytes → eqb (number_in 3 7 bytes) 0 ≡ true
    → counts_at (drop 2 bytes)
    ≡ Some (
      (
        get_or bytes 2 0,
        (
          get_or bytes 3 0,
          (
            get_or bytes 4 0,
            (get_or bytes 5 0, (get_or bytes 6 0, (number_in 4 10 bytes, number_in 4 14 bytes))),
          ),
        ),
      ),
      drop 18 bytes,
    )
unfolding counts_at
counts_some bytes le zero_is =
    byte_then _ 2 bytes (drop 18 bytes) _ (omega arith)
    (byte_then _ 3 bytes (drop 18 bytes) _ (omega arith) (byte_then _ 4 bytes (drop 18 bytes) _ (omega arith)
    (byte_then _ 5 bytes (drop 18 bytes) _ (omega arith)
    (byte_then _ 6 bytes (drop 18 bytes) _ (omega arith) (zeros_some bytes le zero_is)))))

counts_none : (bytes : List ℕ) → 18 ≤ length bytes → eqb (number_in 3 7 bytes) 0 ≡ false → counts_at (drop 2 bytes)
    ≡ None
unfolding counts_at
counts_none bytes le zero_is =
    byte_none _ 2 bytes (omega arith)
    (byte_none _ 3 bytes (omega arith)
    (byte_none _ 4 bytes (omega arith)
    (byte_none _ 5 bytes (omega arith) (byte_none _ 6 bytes (omega arith) (zeros_none bytes le zero_is)))))

-- and with it
numbers_at : Reader (ℕ × (ℕ × (ℕ × (ℕ × (ℕ × (ℕ × (ℕ × ℕ)))))))
numbers_at = both (number_at 2) counts_at

numbers_some : (bytes : List ℕ) → 18 ≤ length bytes → eqb (number_in 3 7 bytes) 0 ≡ true
    → made head_from numbers_at bytes ≡ Some (head_in bytes, drop 18 bytes)
unfolding numbers_at
numbers_some bytes le zero_is = rw (number_at_in 2 0 bytes (omega arith), counts_some bytes le zero_is) refl

numbers_none : (bytes : List ℕ) → 18 ≤ length bytes → eqb (number_in 3 7 bytes) 0 ≡ false
    → made head_from numbers_at bytes ≡ None
unfolding numbers_at
numbers_none bytes le zero_is = rw (number_at_in 2 0 bytes (omega arith), counts_none bytes le zero_is) refl

abbrev some_head : Head → List ℕ → Option (Head × List ℕ)
some_head h rest = Some (h, rest)

header_long : (bytes : List ℕ) → length bytes ≡ 18 → header_of bytes ≡ header_in bytes
unfolding header_of numbers_at counts_at
header_long bytes len = zeros (eqb (number_in 3 7 bytes) 0) refl
  where
    nothing : eqb (length (drop 18 bytes)) 0 ≡ true
    nothing = eq-eqb _ _ (omega (arith, length-drop 18 bytes, len))

    tested : (b : Bool) → (cond b (some_head (head_in bytes) (drop 18 bytes)) None >>= λ x. cond (eqb (length x.1) 0)
        (Some x.0) None) ≡ cond b (Some (head_in bytes)) None
    tested true = rw nothing refl
    tested false = refl

    zeros : (b : Bool) → eqb (number_in 3 7 bytes) 0 ≡ b
        → (only is_head (made head_from numbers_at) bytes >>= λ x. cond (eqb (length x.1) 0) (Some x.0) None)
        ≡ cond b (head_if bytes) None
    zeros true e = rw (numbers_some bytes (omega (arith, len)) e) (tested (is_head (head_in bytes)))
    zeros false e = rw (numbers_none bytes (omega (arith, len)) e) refl

pub header_is : (bytes : List ℕ) → IsBytes bytes → header_of bytes ≡ cond (eqb (length bytes) 18) (header_in bytes) None
header_is bytes fits = by (eqb (length bytes) 18) refl
  where
    none : (r : Option Head) → header_of bytes ≡ r → (length bytes ≡ 18 → ⊥) → r ≡ None
    none None e other = refl
    none (Some h) e other = absurd (other (ap length (Exact-header.takes bytes h fits e).0))

    by : (b : Bool) → eqb (length bytes) 18 ≡ b → header_of bytes ≡ cond b (header_in bytes) None
    by true e = header_long bytes (eqb-true _ _ e)
    by false e = none (header_of bytes) refl (eqb-false _ _ e)
