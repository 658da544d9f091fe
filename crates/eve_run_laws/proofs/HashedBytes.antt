-- The messages that are hashed for a token, and the hashes themselves, are lists of bytes.
use Rattle.std.proofs.Common.{ℕ, ℤ, pos, zero, suc, ◌/◌, ◌%◌, ◌^◌, List, [], ◌∷◌, ◌++◌, refl, ◌∙◌, arith}
use Rattle.std.proofs.Common.{codes}
use Rattle.std.specs.Prelude.{IsTrue, slice_index, ◌==◌, length}
use Rattle.std.specs.Int.{w32, w64, cast_unsigned, byte_at, to_be_bytes}
use Rattle.std.specs.List.{list_all, flat_map}
use Rattle.std.proofs.lemmas.Bool.{lt-ltb, eq-eqb, and_from}
use Rattle.std.proofs.lemmas.List.Folds.{list_all-append}
use Rattle.byteorder.specs.Endian.{big_bytes}
use Rattle.sha2.specs.Sha256.{sha256, digest_bytes, final_hash, initial_hash_256}
use Rattle.sha2.proofs.Facts256.{length-sha256}
use Rattle.eve_smallbank.specs.Spelling.{money_text, reply_text}
use Rattle.eve_smallbank.specs.declared.request.Reply.{Reply}
use Rattle.eve_smallbank.specs.declared.request.Reply.TheVariants.{Done, Total, Aborted}
use Rattle.eve_smallbank.specs.declared.request.Abort.TheVariants.{NoSuchName, BadAmount, Insufficient, OutOfRange}
use Rattle.eve_grammar.specs.Limits.{is_number, is_token}
use Rattle.eve_run_laws.specs.Hashed.{flat_message, leaf_message, node_message}

-- ---- numbers and lists

byte_below : (i n : ℕ) → IsTrue (is_number 1 (byte_at i n))
byte_below zero n = lt-ltb (n % 256) 256 (omega arith)
byte_below (suc i) n = lt-ltb (n / 256 ^ suc i % 256) 256 (omega arith)

pub big_bytes_below : (k n : ℕ) → IsTrue (list_all (is_number 1) (big_bytes k n))
big_bytes_below zero n = refl
big_bytes_below (suc k) n =
    and_from (is_number 1 (byte_at k n)) (list_all (is_number 1) (big_bytes k n)) (byte_below k n) (big_bytes_below k n)

pub joined_below : (xs ys : List ℕ) → IsTrue (list_all (is_number 1) xs) → IsTrue (list_all (is_number 1) ys)
    → IsTrue (list_all (is_number 1) (xs ++ ys))
joined_below xs ys first second =
    list_all-append (is_number 1) xs ys
    ∙ and_from (list_all (is_number 1) xs) (list_all (is_number 1) ys) first second

all_below : {A : Type 0} (text : A → List ℕ) → ((x : A) → IsTrue (list_all (is_number 1) (text x))) → (xs : List A)
    → IsTrue (list_all (is_number 1) (flat_map text xs))
all_below text each [] = refl
all_below text each (x ∷ xs) = joined_below (text x) (flat_map text xs) (each x) (all_below text each xs)

-- ---- money and replies

pub money_below : (z : ℤ) → IsTrue (list_all (is_number 1) (money_text z))
money_below z = big_bytes_below 8 (cast_unsigned w64 z)

pub reply_below : (r : Reply) → IsTrue (list_all (is_number 1) (reply_text r))
reply_below Done = money_below (pos 0)
reply_below (Total sum) = money_below sum
reply_below (Aborted NoSuchName) = money_below (pos 0)
reply_below (Aborted BadAmount) = money_below (pos 0)
reply_below (Aborted Insufficient) = money_below (pos 0)
reply_below (Aborted OutOfRange) = money_below (pos 0)

-- ---- hashes

digest_below : (h : List ℕ) (n : ℕ) → IsTrue (list_all (is_number 1) (digest_bytes h n))
unfolding digest_bytes
digest_below h zero = refl
digest_below h (suc n) =
    joined_below (digest_bytes h n) (to_be_bytes w32 (slice_index h n)) (digest_below h n)
    (big_bytes_below 4 (slice_index h n))

hash_below : (m : List ℕ) → IsTrue (list_all (is_number 1) (sha256 m))
unfolding sha256
hash_below m = digest_below (final_hash initial_hash_256 m) 8

-- a hash has 32 bytes
pub is_hash : (m : List ℕ) → IsTrue (is_token (sha256 m))
is_hash m = and_from (length (sha256 m) == 32) (list_all (is_number 1) (sha256 m))
    (eq-eqb (length (sha256 m)) 32 (length-sha256 m)) (hash_below m)

-- ---- messages

pub flat_below : (n : ℕ) (bs : List ℤ) (rs : List Reply) → IsTrue (list_all (is_number 1) (flat_message n bs rs))
flat_below n bs rs =
    joined_below (codes "EVESB1") (big_bytes 4 n ++ (flat_map money_text bs ++ flat_map reply_text rs)) refl
    (joined_below (big_bytes 4 n) (flat_map money_text bs ++ flat_map reply_text rs) (big_bytes_below 4 n)
    (joined_below (flat_map money_text bs) (flat_map reply_text rs) (all_below money_text money_below bs)
    (all_below reply_text reply_below rs)))

pub leaf_below : (number : ℕ) (text : List ℕ) → IsTrue (list_all (is_number 1) text)
    → IsTrue (list_all (is_number 1) (leaf_message number text))
leaf_below number text bytes = joined_below (big_bytes 4 number) text (big_bytes_below 4 number) bytes

pub node_below : (left right : List ℕ) → IsTrue (list_all (is_number 1) left) → IsTrue (list_all (is_number 1) right)
    → IsTrue (list_all (is_number 1) (node_message left right))
node_below left right = joined_below left right
