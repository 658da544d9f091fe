-- Replies that stand spelled, nine bytes each.
use Rattle.std.proofs.Common.{◌≡◌, ℕ, ℤ, zero, suc, ◌+◌, ◌*◌, ◌/◌, List, [], ◌∷◌, ◌++◌, length, take, drop, refl, sym}
use Rattle.std.proofs.Common.{ap, ◌∙◌, arith, length-append}
use Rattle.std.proofs.Math.Seq.{take-append-add, drop-append-add}
use Rattle.std.specs.List.{flat_map}
use Rattle.std.proofs.lemmas.List.{take_at, drop_at}
use Rattle.eve_smallbank.specs.declared.request.Reply.{Reply}
use Rattle.eve_smallbank.specs.declared.request.Reply.TheVariants.{Done, Total, Aborted}
use Rattle.eve_smallbank.specs.Spelling.{reply_text}
use Rattle.eve_token.specs.Merkle.{leaf_hash, leaf_hashes, merkle_root}
use Rattle.eve_token.specs.Token.{flat_token, token_from_root, token_of}
use Rattle.eve_token.proofs.Leaves.{leaves-one-root}

reply-length : (r : Reply) → length (reply_text r) ≡ 9
reply-length = elim [ Done ↦ refl | Total _ ↦ refl | Aborted _ ↦ refl ]

spelled-length : (rs : List Reply) → length (flat_map reply_text rs) ≡ 9 * length rs
spelled-length [] = refl
spelled-length (r ∷ rs) =
    let one = reply-length r in
    let rest = spelled-length rs in
    let both = length-append (reply_text r) (flat_map reply_text rs) in
    omega arith

-- how many they are
pub spelled-count : (s : List ℕ) (rs : List Reply) → s ≡ flat_map reply_text rs → length rs ≡ length s / 9
spelled-count s rs is =
    let long = spelled-length rs in
    let same = ap (λ (t : List ℕ). length t) is in
    omega arith

-- a list that is cut
take-none : (n : ℕ) → take {A = ℕ} n [] ≡ []
take-none zero = refl
take-none (suc n) = refl

drop-none : (n : ℕ) → drop {A = ℕ} n [] ≡ []
drop-none zero = refl
drop-none (suc n) = refl

pub spelled-take : (k : ℕ) (rs : List Reply) → take (9 * k) (flat_map reply_text rs) ≡ flat_map reply_text (take k rs)
spelled-take zero rs = refl
spelled-take (suc k) [] = take-none (9 * suc k)
spelled-take (suc k) (r ∷ rs) =
    let e : 9 * suc k ≡ length (reply_text r) + 9 * k = omega (arith, reply-length r) in
    ap (λ (m : ℕ). take m (reply_text r ++ flat_map reply_text rs)) e
    ∙ take-append-add (reply_text r) (flat_map reply_text rs) (9 * k)
    ∙ ap (λ (t : List ℕ). reply_text r ++ t) (spelled-take k rs)

pub spelled-drop : (k : ℕ) (rs : List Reply) → drop (9 * k) (flat_map reply_text rs) ≡ flat_map reply_text (drop k rs)
spelled-drop zero rs = refl
spelled-drop (suc k) [] = drop-none (9 * suc k)
spelled-drop (suc k) (r ∷ rs) =
    let e : 9 * suc k ≡ length (reply_text r) + 9 * k = omega (arith, reply-length r) in
    ap (λ (m : ℕ). drop m (reply_text r ++ flat_map reply_text rs)) e
    ∙ drop-append-add (reply_text r) (flat_map reply_text rs) (9 * k)
    ∙ spelled-drop k rs

-- one reply
pub spelled-one : (number : ℕ) (s : List ℕ) (rs : List Reply) → length rs ≡ 1 → s ≡ flat_map reply_text rs
    → leaf_hash number (take 9 s) ≡ merkle_root (leaf_hashes reply_text number rs)
spelled-one number s [] one is = absurd (omega (arith, one))
spelled-one number s (r ∷ (q ∷ rs)) one is = absurd (omega (arith, one))
spelled-one number s (r ∷ []) one is =
    ap (λ (t : List ℕ). leaf_hash number (take 9 t)) is
    ∙ ap (leaf_hash number) (take_at (reply_text r) [] 9 (reply-length r))
    ∙ sym (leaves-one-root _ reply_text number (r ∷ []) r refl refl)

-- ---- spelled alike

leaves-alike : (n : ℕ) (rs ss : List Reply) → flat_map reply_text rs ≡ flat_map reply_text ss
    → leaf_hashes reply_text n rs ≡ leaf_hashes reply_text n ss
unfolding leaf_hashes
leaves-alike n [] [] same = refl
leaves-alike n [] (s ∷ ss) same =
    let none = spelled-length (s ∷ ss) in
    let long = ap (λ (t : List ℕ). length t) same in
    absurd (omega arith)
leaves-alike n (r ∷ rs) [] same =
    let some = spelled-length (r ∷ rs) in
    let long = ap (λ (t : List ℕ). length t) same in
    absurd (omega arith)
leaves-alike n (r ∷ rs) (s ∷ ss) same =
    let one : reply_text r ≡ reply_text s =
    sym (take_at (reply_text r) (flat_map reply_text rs) 9 (reply-length r)) ∙ ap (λ (t : List ℕ). take 9 t) same
    ∙ take_at (reply_text s) (flat_map reply_text ss) 9 (reply-length s) in
    let rest : flat_map reply_text rs ≡ flat_map reply_text ss =
    sym (drop_at (reply_text r) (flat_map reply_text rs) 9 (reply-length r)) ∙ ap (λ (t : List ℕ). drop 9 t) same
    ∙ drop_at (reply_text s) (flat_map reply_text ss) 9 (reply-length s) in
    (λ k. leaf_hash n (one k) ∷ leaves-alike (n + 1) rs ss rest k)

pub token-alike : (version seq : ℕ) (b : List ℤ) (rs ss : List Reply) → flat_map reply_text rs ≡ flat_map reply_text ss
    → token_of version seq b rs ≡ token_of version seq b ss
unfolding token_of flat_token token_from_root
token-alike version seq b rs ss same = rw (same, leaves-alike 0 rs ss same) refl
