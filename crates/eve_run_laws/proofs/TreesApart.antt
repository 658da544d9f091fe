-- Two Merkle trees over equally many leaves, with one root: the leaves are the same, or two messages that are hashed in
-- the trees are a collision. The trees are descended together, level by level.
use Rattle.std.proofs.Common.{◌≡◌, ◌≢◌, ℕ, zero, suc, ◌+◌, ◌*◌, ◌≤◌, ◌⊎◌, inl, inr, Bool, true, false}
use Rattle.std.proofs.Common.{List, [], ◌∷◌, ◌++◌, length, Some, refl, sym, ap, subst, ◌∙◌, arith, length-append}
use Rattle.std.specs.Prelude.{IsTrue, slice_get, slice_index_or, nat_eq, ◌==◌, ◌&&◌}
use Rattle.std.specs.List.{list_all}
use Rattle.std.specs.Cmp.Lexicographic.{pointwise, same_text, other_text}
use Rattle.std.proofs.lemmas.Bool.{and_parts, and_from, eqb-true}
use Rattle.std.proofs.lemmas.List.{append_cancel_left}
use Rattle.byteorder.specs.Endian.{big_bytes}
use Rattle.eve_grammar.specs.Limits.{is_number, is_token}
use Rattle.eve_grammar.proofs.Lists.{same_first, same_others}
use Rattle.eve_token.specs.Merkle.{leaf_hash, node_hash, leaf_hashes, next_level, levels_up, merkle_root}
use Rattle.eve_run_laws.specs.Hashed.{leaf_message, node_message, IsHashedInTree, OfLeaf, OfNode}
use Rattle.eve_run_laws.specs.Collision.{IsCollision}
use Rattle.eve_run_laws.proofs.HashedBytes.{is_hash, leaf_below, node_below}

-- ---- lists

-- two lists are the same or not
pub same_or_other : (xs ys : List ℕ) → (xs ≡ ys) ⊎ (xs ≢ ys)
same_or_other xs ys = by (pointwise nat_eq xs ys) refl
  where
    by : (b : Bool) → b ≡ pointwise nat_eq xs ys → (xs ≡ ys) ⊎ (xs ≢ ys)
    by true is = inl (same_text xs ys is)
    by false is = inr (other_text xs ys is)

-- two lists that are put together the same, of equally long parts
pub same_halves : {A : Type 0} (xs zs ys ws : List A) → length xs ≡ length zs → xs ++ ys ≡ zs ++ ws
    → (xs ≡ zs) × (ys ≡ ws)
same_halves [] [] ys ws long same = (refl, same)
same_halves [] (z ∷ zs) ys ws long same = absurd (omega (arith, long))
same_halves (x ∷ xs) [] ys ws long same = absurd (omega (arith, long))
same_halves (x ∷ xs) (z ∷ zs) ys ws long same =
    let first = same_first x z (xs ++ ys) (zs ++ ws) same in
    let others = same_halves xs zs ys ws (omega (arith, long)) (same_others x z (xs ++ ys) (zs ++ ws) same) in
    (λ i. first i ∷ others.0 i, others.1)

-- two lists of at most one item each, as many of both
few_same : (xs ys : List (List ℕ)) → length xs ≤ 1 → length xs ≡ length ys
    → slice_index_or xs 0 [] ≡ slice_index_or ys 0 [] → xs ≡ ys
few_same [] [] few long same = refl
few_same [] (y ∷ ys) few long same = absurd (omega (arith, long))
few_same (x ∷ xs) [] few long same = absurd (omega (arith, long))
few_same (x ∷ []) (y ∷ []) few long same = ap (λ z. z ∷ []) same
few_same (x ∷ []) (y ∷ (z ∷ ys)) few long same = absurd (omega (arith, long))
few_same (x ∷ (z ∷ xs)) (y ∷ ys) few long same = absurd (omega (arith, few))

-- ---- hashes

token_length : (h : List ℕ) → IsTrue (is_token h) → length h ≡ 32
token_length h is = eqb-true (length h) 32 (and_parts (length h == 32) (list_all (is_number 1) h) is).0

token_below : (h : List ℕ) → IsTrue (is_token h) → IsTrue (list_all (is_number 1) h)
token_below h is = (and_parts (length h == 32) (list_all (is_number 1) h) is).1

-- ---- levels

next_tokens : (hs : List (List ℕ)) → IsTrue (list_all is_token hs) → IsTrue (list_all is_token (next_level hs))
unfolding next_level
next_tokens [] all = refl
next_tokens (h ∷ []) all = all
next_tokens (a ∷ (b ∷ hs)) all =
    and_from (is_token (node_hash a b)) (list_all is_token (next_level hs)) (is_hash (node_message a b))
    (next_tokens hs (and_parts (is_token b) (list_all is_token hs)
    (and_parts (is_token a) (is_token b && list_all is_token hs) all).1).1)

next_long : (hs gs : List (List ℕ)) → length hs ≡ length gs → length (next_level hs) ≡ length (next_level gs)
unfolding next_level
next_long [] [] long = refl
next_long [] (g ∷ gs) long = absurd (omega (arith, long))
next_long (h ∷ hs) [] long = absurd (omega (arith, long))
next_long (h ∷ []) (g ∷ []) long = refl
next_long (h ∷ []) (g ∷ (k ∷ gs)) long = absurd (omega (arith, long))
next_long (h ∷ (k ∷ hs)) (g ∷ []) long = absurd (omega (arith, long))
next_long (h ∷ (k ∷ hs)) (g ∷ (l ∷ gs)) long = ap suc (next_long hs gs (omega (arith, long)))

next_few : (hs : List (List ℕ)) → 2 * length (next_level hs) ≤ length hs + 1
unfolding next_level
next_few [] = omega arith
next_few (h ∷ []) = omega arith
next_few (h ∷ (k ∷ hs)) = omega (arith, next_few hs)

levels_long : (n : ℕ) (hs gs : List (List ℕ)) → length hs ≡ length gs
    → length (levels_up n hs) ≡ length (levels_up n gs)
unfolding levels_up
levels_long zero hs gs long = long
levels_long (suc n) hs gs long = levels_long n (next_level hs) (next_level gs) (next_long hs gs long)

levels_few : (n : ℕ) (hs : List (List ℕ)) → length hs ≤ n + 1 → length (levels_up n hs) ≤ 1
unfolding levels_up
levels_few zero hs few = omega (arith, few)
levels_few (suc n) hs few = levels_few n (next_level hs) (omega (arith, few, next_few hs))

levels_tokens : (n : ℕ) (hs : List (List ℕ)) → IsTrue (list_all is_token hs)
    → IsTrue (list_all is_token (levels_up n hs))
unfolding levels_up
levels_tokens zero hs all = all
levels_tokens (suc n) hs all = levels_tokens n (next_level hs) (next_tokens hs all)

first_long : (hs gs : List (List ℕ)) → length hs ≡ length gs → IsTrue (list_all is_token hs)
    → IsTrue (list_all is_token gs) → length (slice_index_or hs 0 []) ≡ length (slice_index_or gs 0 [])
first_long [] [] long ht gt = refl
first_long [] (g ∷ gs) long ht gt = absurd (omega (arith, long))
first_long (h ∷ hs) [] long ht gt = absurd (omega (arith, long))
first_long (h ∷ hs) (g ∷ gs) long ht gt =
    token_length h (and_parts (is_token h) (list_all is_token hs) ht).0
    ∙ sym (token_length g (and_parts (is_token g) (list_all is_token gs) gt).0)

-- a root is a hash, or there is none
root_long : (hs gs : List (List ℕ)) → length hs ≡ length gs → IsTrue (list_all is_token hs)
    → IsTrue (list_all is_token gs) → length (merkle_root hs) ≡ length (merkle_root gs)
unfolding merkle_root
root_long hs gs long ht gt =
    first_long (levels_up (length hs) hs) (levels_up (length hs) gs) (levels_long (length hs) hs gs long)
    (levels_tokens (length hs) hs ht) (levels_tokens (length hs) gs gt)
    ∙ ap (λ n. length (slice_index_or (levels_up n gs) 0 [])) long

first_below : (hs : List (List ℕ)) → IsTrue (list_all is_token hs)
    → IsTrue (list_all (is_number 1) (slice_index_or hs 0 []))
first_below [] all = refl
first_below (h ∷ hs) all = token_below h (and_parts (is_token h) (list_all is_token hs) all).0

root_below : (hs : List (List ℕ)) → IsTrue (list_all is_token hs) → IsTrue (list_all (is_number 1) (merkle_root hs))
unfolding merkle_root
root_below hs all = first_below (levels_up (length hs) hs) (levels_tokens (length hs) hs all)

-- the level with the root is the same where the roots are
roots_same : (hs gs : List (List ℕ)) → length hs ≡ length gs → merkle_root hs ≡ merkle_root gs
    → levels_up (length hs) hs ≡ levels_up (length hs) gs
unfolding merkle_root
roots_same hs gs long same =
    few_same (levels_up (length hs) hs) (levels_up (length hs) gs) (levels_few (length hs) hs (omega arith))
    (levels_long (length hs) hs gs long)
    (same ∙ ap (λ n. slice_index_or (levels_up n gs) 0 []) (sym long))

-- ---- two levels, one below equal ones

-- two pairs of hashes, at one place of two levels, whose nodes collide
record ArePairsApart (hs gs : List (List ℕ)) : Type 0 where
  pair : ℕ
  left : List ℕ
  right : List ℕ
  other_left : List ℕ
  other_right : List ℕ
  left_at : slice_get hs (2 * pair) ≡ Some left
  right_at : slice_get hs (2 * pair + 1) ≡ Some right
  other_left_at : slice_get gs (2 * pair) ≡ Some other_left
  other_right_at : slice_get gs (2 * pair + 1) ≡ Some other_right
  collision : IsCollision (node_message left right) (node_message other_left other_right)

-- a pair before them
pairs_later : (a b c d : List ℕ) (hs gs : List (List ℕ)) → ArePairsApart hs gs
    → ArePairsApart (a ∷ (b ∷ hs)) (c ∷ (d ∷ gs))
pairs_later a b c d hs gs p =
    let even : 2 * suc p.pair ≡ suc (suc (2 * p.pair)) = omega arith in
    let odd : 2 * suc p.pair + 1 ≡ suc (suc (2 * p.pair + 1)) = omega arith in
    record {
      pair = suc p.pair;
      left = p.left;
      right = p.right;
      other_left = p.other_left;
      other_right = p.other_right;
      left_at = ap (slice_get (a ∷ (b ∷ hs))) even ∙ p.left_at;
      right_at = ap (slice_get (a ∷ (b ∷ hs))) odd ∙ p.right_at;
      other_left_at = ap (slice_get (c ∷ (d ∷ gs))) even ∙ p.other_left_at;
      other_right_at = ap (slice_get (c ∷ (d ∷ gs))) odd ∙ p.other_right_at;
      collision = p.collision;
    }

nodes_collide : (a b c d : List ℕ) → IsTrue (is_token a) → IsTrue (is_token b) → IsTrue (is_token c)
    → IsTrue (is_token d) → node_message a b ≢ node_message c d → node_hash a b ≡ node_hash c d
    → IsCollision (node_message a b) (node_message c d)
nodes_collide a b c d at bt ct dt apart same = record {
  bytes = node_below a b (token_below a at) (token_below b bt);
  other_bytes = node_below c d (token_below c ct) (token_below d dt);
  one_length = omega (
    arith,
    length-append a b,
    length-append c d,
    token_length a at,
    token_length b bt,
    token_length c ct,
    token_length d dt,
  );
  apart = apart;
  same_hash = same;
}

next_apart : (hs gs : List (List ℕ)) → length hs ≡ length gs → IsTrue (list_all is_token hs)
    → IsTrue (list_all is_token gs) → next_level hs ≡ next_level gs → (hs ≡ gs) ⊎ ArePairsApart hs gs
unfolding next_level
next_apart [] [] long ht gt same = inl refl
next_apart [] (g ∷ gs) long ht gt same = absurd (omega (arith, long))
next_apart (h ∷ hs) [] long ht gt same = absurd (omega (arith, long))
next_apart (h ∷ []) (g ∷ []) long ht gt same = inl same
next_apart (h ∷ []) (g ∷ (k ∷ gs)) long ht gt same = absurd (omega (arith, long))
next_apart (h ∷ (k ∷ hs)) (g ∷ []) long ht gt same = absurd (omega (arith, long))
next_apart (a ∷ (b ∷ hs)) (c ∷ (d ∷ gs)) long ht gt same =
    let a_parts = and_parts (is_token a) (is_token b && list_all is_token hs) ht in
    let b_parts = and_parts (is_token b) (list_all is_token hs) a_parts.1 in
    let c_parts = and_parts (is_token c) (is_token d && list_all is_token gs) gt in
    let d_parts = and_parts (is_token d) (list_all is_token gs) c_parts.1 in
    let node = same_first (node_hash a b) (node_hash c d) (next_level hs) (next_level gs) same in
    let others = same_others (node_hash a b) (node_hash c d) (next_level hs) (next_level gs) same in
    elim (same_or_other (node_message a b) (node_message c d)) [
      | inl one ↦
          let halves = same_halves a c b d (token_length a a_parts.0 ∙ sym (token_length c c_parts.0))
          (same_others 1 1 (a ++ b) (c ++ d) one) in
          elim (next_apart hs gs (omega (arith, long)) b_parts.1 d_parts.1 others) [
            | inl rest ↦ inl (λ i. halves.0 i ∷ (halves.1 i ∷ rest i))
            | inr apart ↦ inr (pairs_later a b c d hs gs apart)
          ]
      | inr apart ↦ inr (record {
        pair = 0;
        left = a;
        right = b;
        other_left = c;
        other_right = d;
        left_at = refl;
        right_at = refl;
        other_left_at = refl;
        other_right_at = refl;
        collision = nodes_collide a b c d a_parts.0 b_parts.0 c_parts.0 d_parts.0 apart node;
      })
    ]

-- that many levels below equal ones
levels_apart : (n : ℕ) (hs gs : List (List ℕ)) → length hs ≡ length gs → IsTrue (list_all is_token hs)
    → IsTrue (list_all is_token gs) → levels_up n hs ≡ levels_up n gs
    → (hs ≡ gs) ⊎ ((level : ℕ) × ArePairsApart (levels_up level hs) (levels_up level gs))
unfolding levels_up
levels_apart zero hs gs long ht gt same = inl same
levels_apart (suc n) hs gs long ht gt same =
    elim (levels_apart n (next_level hs) (next_level gs) (next_long hs gs long) (next_tokens hs ht) (next_tokens gs gt)
    same) [
      | inl one ↦ elim (next_apart hs gs long ht gt one) [
        | inl all ↦ inl all
        | inr apart ↦ inr (0, apart)
      ]
      | inr apart ↦ inr (suc apart.0, apart.1)
    ]

-- ---- leaves

-- two messages that are hashed in two trees, and collide
pub record AreTreesApart {X : Type 0} (text : X → List ℕ) (xs ys : List X) : Type 0 where
  pub message : List ℕ
  pub other : List ℕ
  pub hashed : IsHashedInTree text xs message
  pub other_hashed : IsHashedInTree text ys other
  pub collision : IsCollision message other

-- two leaves at one place, whose hashes are the same; the first of all has this number
record AreLeavesApart {X : Type 0} (text : X → List ℕ) (first : ℕ) (xs ys : List X) : Type 0 where
  place : ℕ
  leaf : X
  other : X
  at : slice_get xs place ≡ Some leaf
  other_at : slice_get ys place ≡ Some other
  collision : IsCollision (leaf_message (first + place) (text leaf)) (leaf_message (first + place) (text other))

-- leaves that pass a test are told apart by their texts, which are bytes, and as many of each
pub record AreLeafTexts {X : Type 0} (text : X → List ℕ) (size : ℕ) (test : X → Bool) : Type 0 where
  pub long : (x : X) → length (text x) ≡ size
  pub bytes : (x : X) → IsTrue (list_all (is_number 1) (text x))
  pub once : (x y : X) → IsTrue (test x) → IsTrue (test y) → text x ≡ text y → x ≡ y

module _ {X : Type 0} (text : X → List ℕ) (size : ℕ) (test : X → Bool) (texts : AreLeafTexts text size test) where
  leaves_long : (n m : ℕ) (xs ys : List X) → length xs ≡ length ys
      → length (leaf_hashes text n xs) ≡ length (leaf_hashes text m ys)
  unfolding leaf_hashes
  leaves_long n m [] [] same = refl
  leaves_long n m [] (y ∷ ys) same = absurd (omega (arith, same))
  leaves_long n m (x ∷ xs) [] same = absurd (omega (arith, same))
  leaves_long n m (x ∷ xs) (y ∷ ys) same = ap suc (leaves_long (n + 1) (m + 1) xs ys (omega (arith, same)))

  leaves_tokens : (n : ℕ) (xs : List X) → IsTrue (list_all is_token (leaf_hashes text n xs))
  unfolding leaf_hashes
  leaves_tokens n [] = refl
  leaves_tokens n (x ∷ xs) =
      and_from (is_token (leaf_hash n (text x))) (list_all is_token (leaf_hashes text (n + 1) xs))
      (is_hash (leaf_message n (text x))) (leaves_tokens (n + 1) xs)

  leaf_collides : (n : ℕ) (x y : X) → leaf_message n (text x) ≢ leaf_message n (text y)
      → leaf_hash n (text x) ≡ leaf_hash n (text y) → IsCollision (leaf_message n (text x)) (leaf_message n (text y))
  leaf_collides n x y apart same = record {
    bytes = leaf_below n (text x) (texts.bytes x);
    other_bytes = leaf_below n (text y) (texts.bytes y);
    one_length = omega (
      arith,
      length-append (big_bytes 4 n) (text x),
      length-append (big_bytes 4 n) (text y),
      texts.long x,
      texts.long y,
    );
    apart = apart;
    same_hash = same;
  }

  leaves_later : (n : ℕ) (x y : X) (xs ys : List X) → AreLeavesApart text (n + 1) xs ys
      → AreLeavesApart text n (x ∷ xs) (y ∷ ys)
  leaves_later n x y xs ys p =
      let next : n + 1 + p.place ≡ n + suc p.place = omega arith in
      record {
        place = suc p.place;
        leaf = p.leaf;
        other = p.other;
        at = p.at;
        other_at = p.other_at;
        collision = subst
            (λ (m : ℕ). IsCollision (leaf_message m (text p.leaf)) (leaf_message m (text p.other))) next p.collision;
      }

  leaves_apart : (n : ℕ) (xs ys : List X) → length xs ≡ length ys → IsTrue (list_all test xs)
      → IsTrue (list_all test ys) → leaf_hashes text n xs ≡ leaf_hashes text n ys
      → (xs ≡ ys) ⊎ AreLeavesApart text n xs ys
  unfolding leaf_hashes
  leaves_apart n [] [] long xt yt same = inl refl
  leaves_apart n [] (y ∷ ys) long xt yt same = absurd (omega (arith, long))
  leaves_apart n (x ∷ xs) [] long xt yt same = absurd (omega (arith, long))
  leaves_apart n (x ∷ xs) (y ∷ ys) long xt yt same =
      let x_parts = and_parts (test x) (list_all test xs) xt in
      let y_parts = and_parts (test y) (list_all test ys) yt in
      let prefix = leaf_hash n (text x) in
      let other_prefix = leaf_hash n (text y) in
      let rest = leaf_hashes text (n + 1) xs in
      let other_rest = leaf_hashes text (n + 1) ys in
      let here : n ≡ n + 0 = omega arith in
      elim (same_or_other (leaf_message n (text x)) (leaf_message n (text y))) [
        | inl one ↦
            let leaf = texts.once x y x_parts.0 y_parts.0 (append_cancel_left (big_bytes 4 n) (text x) (text y)
            (same_others 0 0 (big_bytes 4 n ++ text x) (big_bytes 4 n ++ text y) one)) in
            elim (leaves_apart (n + 1) xs ys (omega (arith, long)) x_parts.1 y_parts.1
            (same_others prefix other_prefix rest other_rest same)) [
              | inl all ↦ inl (λ i. leaf i ∷ all i)
              | inr apart ↦ inr (leaves_later n x y xs ys apart)
            ]
        | inr apart ↦ inr (record {
          place = 0;
          leaf = x;
          other = y;
          at = refl;
          other_at = refl;
          collision = subst (λ (m : ℕ). IsCollision (leaf_message m (text x)) (leaf_message m (text y))) here
              (leaf_collides n x y apart (same_first prefix other_prefix rest other_rest same));
        })
      ]

  -- ---- trees

  pub trees_apart : (xs ys : List X) → length xs ≡ length ys → IsTrue (list_all test xs) → IsTrue (list_all test ys)
      → merkle_root (leaf_hashes text 0 xs) ≡ merkle_root (leaf_hashes text 0 ys)
      → (xs ≡ ys) ⊎ AreTreesApart text xs ys
  trees_apart xs ys long xt yt same =
      let hs = leaf_hashes text 0 xs in
      let gs = leaf_hashes text 0 ys in
      let many = leaves_long 0 0 xs ys long in
      let roots = roots_same hs gs many same in
      elim (levels_apart (length hs) hs gs many (leaves_tokens 0 xs) (leaves_tokens 0 ys) roots) [
        | inl all ↦ elim (leaves_apart 0 xs ys long xt yt all) [
          | inl one ↦ inl one
          | inr p ↦
              let number : 0 + p.place ≡ p.place = omega arith in
              inr (record {
                message = leaf_message p.place (text p.leaf);
                other = leaf_message p.place (text p.other);
                hashed = OfLeaf p.place p.leaf p.at refl;
                other_hashed = OfLeaf p.place p.other p.other_at refl;
                collision = subst
                    (λ (m : ℕ). IsCollision (leaf_message m (text p.leaf)) (leaf_message m (text p.other))) number
                    p.collision;
              })
        ]
        | inr (level, p) ↦ inr (record {
          message = node_message p.left p.right;
          other = node_message p.other_left p.other_right;
          hashed = OfNode level p.pair p.left p.right p.left_at p.right_at refl;
          other_hashed = OfNode level p.pair p.other_left p.other_right p.other_left_at p.other_right_at refl;
          collision = p.collision;
        })
      ]

  -- a root over as many leaves is as long
  pub roots_long : (xs ys : List X) → length xs ≡ length ys
      → length (merkle_root (leaf_hashes text 0 xs)) ≡ length (merkle_root (leaf_hashes text 0 ys))
  roots_long xs ys long =
      root_long (leaf_hashes text 0 xs) (leaf_hashes text 0 ys) (leaves_long 0 0 xs ys long) (leaves_tokens 0 xs)
      (leaves_tokens 0 ys)

  pub roots_below : (xs : List X) → IsTrue (list_all (is_number 1) (merkle_root (leaf_hashes text 0 xs)))
  roots_below xs = root_below (leaf_hashes text 0 xs) (leaves_tokens 0 xs)
