-- A header whose numbers lie within their ranges says a head.
use Rattle.std.proofs.Common.{◌≡◌, ℕ, ◌+◌, ◌/◌, ◌<◌, ◌≤◌, List, [], ◌∷◌, ◌++◌, length, take, drop, sym, ap, ◌∙◌, arith}
use Rattle.std.specs.Prelude.{IsTrue}
use Rattle.std.specs.List.{AllByRecursion}
use Rattle.std.proofs.Math.Seq.{take-add}
use Rattle.std.proofs.lemmas.Nat.{be_bytes_2}
use Rattle.std.proofs.lemmas.List.{append-nil, drop-drop, length-drop, length-take, take_at}
use Rattle.byteorder.specs.Endian.{big_bytes, big_number}
use Rattle.byteorder.specs.Numbers.{big_from-take}
use Rattle.eve_grammar.specs.declared.head.Head.{Head}
use Rattle.eve_grammar.specs.Spelling.{head_text}
use Rattle.eve_grammar.specs.Limits.{is_head}
use Rattle.eve_grammar.proofs.Codec.{IsBytes, IsBytes-drop, IsBytes-take}
use Rattle.eve_grammar.proofs.FrameLaws.{limits_text}
use Rattle.eve_grammar.proofs.HeaderParts.{header_parts, length-limits_text, behind_magic}
use Rattle.eve_grammar.proofs.HeadLimits.{head_from_limits}
use Rattle.eve_views.specs.Form.{head_bytes, SaysHead}
use Rattle.eve_views.proofs.Bytes.{number_back}
use Rattle.eve_evidence_form.specs.Header.{decoded, head_numbers, LiesWithin}

-- ---- bytes spell the numbers that they are

one_back : (bytes : List ℕ) → IsBytes bytes → 1 ≤ length bytes → big_bytes 1 (big_number 1 bytes) ≡ take 1 bytes
one_back [] fits long = absurd (omega arith)
one_back (b ∷ bs) fits long = ap (λ (n : ℕ). n ∷ []) (omega (arith, fits 0))

two_back : (bytes : List ℕ) → IsBytes bytes → 2 ≤ length bytes → big_bytes 2 (big_number 2 bytes) ≡ take 2 bytes
two_back bytes fits long =
    let same : big_number 2 (take 2 bytes) ≡ big_number 2 bytes = big_from-take 0 2 2 bytes (omega arith) in
    ap (big_bytes 2) (sym same) ∙ be_bytes_2 (take 2 bytes) _ (omega (arith, length-take 2 bytes))
    (IsBytes-take 2 bytes fits) (omega arith)

-- a number, and the bytes behind it
chunk : (n m at : ℕ) (bytes prefix behind : List ℕ) → prefix ≡ take n (drop at bytes)
    → behind ≡ take m (drop (at + n) bytes) → prefix ++ behind ≡ take (n + m) (drop at bytes)
chunk n m at bytes prefix behind e f =
    (λ i. e i ++ f i) ∙ ap (λ (ys : List ℕ). take n (drop at bytes) ++ take m ys) (sym (drop-drop n at bytes))
    ∙ sym (take-add n m (drop at bytes))

one_at : (at m : ℕ) (bytes behind : List ℕ) → IsBytes bytes → at < length bytes → behind ≡ take m (drop (at + 1) bytes)
    → big_bytes 1 (decoded 1 at bytes) ++ behind ≡ take (1 + m) (drop at bytes)
one_at at m bytes behind fits long e =
    chunk 1 m at bytes (big_bytes 1 (decoded 1 at bytes)) behind
    (one_back (drop at bytes) (IsBytes-drop at bytes fits) (omega (arith, length-drop at bytes))) e

zero_at : (at m : ℕ) (bytes behind : List ℕ) → IsBytes bytes → at < length bytes → decoded 1 at bytes ≤ 0
    → behind ≡ take m (drop (at + 1) bytes) → big_bytes 1 0 ++ behind ≡ take (1 + m) (drop at bytes)
zero_at at m bytes behind fits long zero e =
    let none : 0 ≡ decoded 1 at bytes = omega arith in
    ap (λ (n : ℕ). big_bytes 1 n ++ behind) none ∙ one_at at m bytes behind fits long e

four_at : (at : ℕ) (bytes : List ℕ) → IsBytes bytes → at + 4 ≤ length bytes
    → big_bytes 4 (decoded 4 at bytes) ≡ take 4 (drop at bytes)
four_at at bytes fits long = number_back (drop at bytes) (IsBytes-drop at bytes fits) (omega
    (arith, length-drop at bytes))

-- ---- the header

-- what a header says
abbrev pub head_in : List ℕ → Head
head_in bytes = record {
  version = decoded 2 6 bytes;
  replicas = decoded 1 8 bytes;
  verifiers = decoded 1 9 bytes;
  quorum = decoded 1 10 bytes;
  window = decoded 1 11 bytes;
  workers = decoded 1 12 bytes;
  customers = decoded 4 16 bytes;
  batches = decoded 4 20 bytes;
}

is_right : (bytes : List ℕ) → AllByRecursion LiesWithin (head_numbers bytes) → IsTrue (is_head (head_in bytes))
is_right bytes (
  version,
  (
    replicas,
    (
      verifiers,
      (
        quorum,
        (
          window,
          (
            workers,
            (
              z,
              (
                y,
                (
                  x,
                  (
                    customers,
                    (batches, end),
                  ),
                ),
              ),
            ),
          ),
        ),
      ),
    ),
  ),
) =
    head_from_limits (head_in bytes) (record {
      some_version = version.0;
      known_version = version.1;
      some_replicas = replicas.0;
      few_replicas = replicas.1;
      some_verifiers = verifiers.0;
      few_verifiers = verifiers.1;
      quorum = quorum.1;
      majority = (let above : decoded 1 9 bytes / 2 + 1 ≤ decoded 1 10 bytes = quorum.0 in omega arith);
      some_window = window.0;
      few_window = window.1;
      some_workers = workers.0;
      few_workers = workers.1;
      some_customers = customers.0;
      few_customers = customers.1;
      few_batches = batches.1;
    })

limits_decoded : (bytes : List ℕ) → IsBytes bytes → 24 ≤ length bytes → AllByRecursion LiesWithin (head_numbers bytes)
    → limits_text (head_in bytes) ≡ head_bytes bytes
limits_decoded bytes fits long (version, (replicas, (verifiers, (quorum, (window, (workers, (z, (y, (x, rest))))))))) =
    let batches = four_at 20 bytes fits (omega arith) in
    let customers = chunk 4 4 16 bytes _ _ (four_at 16 bytes fits (omega arith)) batches in
    let zeros = zero_at 13 10 bytes _ fits (omega arith) z.1 (zero_at 14 9 bytes _ fits (omega arith) y.1
    (zero_at 15 8 bytes _ fits (omega arith) x.1 customers)) in
    chunk 2 16 6 bytes _ _ (two_back (drop 6 bytes) (IsBytes-drop 6 bytes fits) (omega (arith, length-drop 6 bytes)))
    (one_at 8 15 bytes _ fits (omega arith) (one_at 9 14 bytes _ fits (omega arith)
    (one_at 10 13 bytes _ fits (omega arith) (one_at 11 12 bytes _ fits (omega arith)
    (one_at 12 11 bytes _ fits (omega arith) zeros)))))

pub head_bytes_text : (h : Head) → head_bytes (head_text h 0) ≡ limits_text h
head_bytes_text h =
    ap head_bytes (sym (append-nil (head_text h 0)) ∙ header_parts h 0 []) ∙ ap (take 18) (behind_magic h 0 [])
    ∙ take_at (limits_text h) (big_bytes 8 0 ++ []) 18 (length-limits_text h)

pub says_head : (bytes : List ℕ) → IsBytes bytes → 24 ≤ length bytes → AllByRecursion LiesWithin (head_numbers bytes)
    → SaysHead bytes (head_in bytes)
says_head bytes fits long all = record {
  limits = is_right bytes all;
  decoded = sym (limits_decoded bytes fits long all) ∙ sym (head_bytes_text (head_in bytes));
}
