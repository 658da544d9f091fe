-- What is found in stretches of attempts, put together, is what is found in all of them.
use Rattle.std.proofs.Common.{◌≡◌, ℕ, zero, suc, ◌+◌, ◌-◌, ◌<◌, ◌≤◌, List, [], ◌∷◌, ◌++◌, length, take, drop}
use Rattle.std.proofs.Common.{fold, slice_get, Option, None, Some, refl, sym, subst, ap, ◌∙◌, arith}
use Rattle.std.proofs.Common.{append-nil, append_assoc, drop-drop}
use Rattle.std.proofs.lemmas.List.Elements.{All-push, All-weaker}
use Rattle.std.specs.Prelude.{All}
use Rattle.std.specs.List.{AllZip}
use Rattle.std.proofs.lemmas.List.{take_all}
use Rattle.eve_grammar.specs.Trace.{Trace}
use Rattle.eve_grammar.proofs.Lists.{item_within}
use Rattle.eve_history.specs.declared.fate.Fate.{Fate}
use Rattle.eve_history.specs.SectionHistory.{SectionHistory}
use Rattle.eve_chains.specs.Records.{by_fates, by_fates_between, records_if_settled, records_between, IsLeastMismatch}
use Rattle.eve_chains.specs.Records.{IsLeastOfAttempt, lesser, IsSearched}
use Rattle.eve_chains.specs.inner.Stretches.{IsWithin, Reaches, AreBetween}
use Rattle.eve_chains.specs.declared.stretch.Stretch.{Stretch}
use Rattle.eve_chains.proofs.Least.{least_append}
use Rattle.eve_chains.proofs.LinkedPaths.{from_place}

-- ---- one after another

-- one more stretch
pub reaches_more : (from mid : ℕ) (xs : List Stretch) (x : Stretch) → Reaches from mid xs → x.from ≡ mid
    → Reaches from x.to (xs ++ x ∷ [])
reaches_more from mid [] x same at = (at ∙ sym same, refl)
reaches_more from mid (y ∷ xs) x reaches at = (reaches.0, reaches_more y.to mid xs x reaches.1 at)

-- one more stretch of those from the start on
pub stretch_more : (start from to : ℕ) (xs : List Stretch) → from ≤ to → AreBetween start from xs
    → AreBetween start to (xs ++ record { from = from; to = to } ∷ [])
stretch_more start from to xs up known = record {
  reaches = reaches_more start from xs (record { from = from; to = to }) known.reaches refl;
  within = All-push (IsWithin to) xs (record { from = from; to = to })
      (All-weaker (IsWithin from) (IsWithin to)
      (λ x is. record { rising = is.rising; there = omega (arith, is.there) }) xs known.within)
      (record { rising = up; there = omega arith });
}

-- ---- what attempts give, one after another

module _ {A B : Type 0} (of : B → Fate → List A) where
  none_here : (n : ℕ) (fates : List Fate) → by_fates of (take n []) fates ≡ []
  none_here zero fates = refl
  none_here (suc n) fates = refl

  no_fates : (n : ℕ) (rs : List B) → by_fates of rs (take n []) ≡ []
  no_fates n [] = refl
  no_fates zero (r ∷ rs) = refl
  no_fates (suc n) (r ∷ rs) = refl

  -- of attempts with no more fates than there are of them
  own_fates : (rs : List B) (fates : List Fate)
      → by_fates of rs (take (length rs) fates) ≡ by_fates of rs fates
  own_fates [] fates = refl
  own_fates (r ∷ rs) [] = no_fates (length (r ∷ rs)) (r ∷ rs)
  own_fates (r ∷ rs) (fate ∷ fates) = ap (λ (l : List A). of r fate ++ l) (own_fates rs fates)

  -- of the first m attempts, and of n after them
  prefix_and_back : (m n : ℕ) (rs : List B) (fates : List Fate)
      → by_fates of (take (m + n) rs) (take (m + n) fates)
      ≡ by_fates of (take m rs) (take m fates) ++ by_fates of (take n (drop m rs)) (take n (drop m fates))
  prefix_and_back zero n rs fates =
      let same : 0 + n ≡ n = omega arith in ap (λ (k : ℕ). by_fates of (take k rs) (take k fates)) same
  prefix_and_back (suc m) n [] fates =
      none_here (suc m + n) (take (suc m + n) fates) ∙ sym (none_here n (take n (drop (suc m) fates)))
  prefix_and_back (suc m) n (r ∷ rs) [] =
      no_fates (suc m + n) (take (suc m + n) (r ∷ rs)) ∙ sym (no_fates n (take n (drop m rs)))
  prefix_and_back (suc m) n (r ∷ rs) (fate ∷ fates) =
      let same : suc m + n ≡ suc (m + n) = omega arith in
      ap (λ (k : ℕ). by_fates of (take k (r ∷ rs)) (take k (fate ∷ fates))) same
      ∙ ap (λ (l : List A). of r fate ++ l) (prefix_and_back m n rs fates)
      ∙ sym (append_assoc (of r fate) (by_fates of (take m rs) (take m fates))
      (by_fates of (take n (drop m rs)) (take n (drop m fates))))

  module _ (xs : List B) (fates : List Fate) where
    pub between_joined : (from mid to : ℕ) → from ≤ mid → mid ≤ to
        → by_fates_between of xs fates from mid ++ by_fates_between of xs fates mid to ≡ by_fates_between of xs
        fates from to
    between_joined from mid to low high =
        let m = mid - from in
        let n = to - mid in
        let sum : m + n ≡ to - from = omega arith in
        let at : from + m ≡ mid = omega arith in
        let rs : drop mid xs ≡ drop m (drop from xs) =
        sym (drop-drop m from xs ∙ ap (λ (k : ℕ). drop k xs) at) in
        let its : drop mid fates ≡ drop m (drop from fates) =
        sym (drop-drop m from fates ∙ ap (λ (k : ℕ). drop k fates) at) in
        (λ k. by_fates_between of xs fates from mid ++ by_fates of (take n (rs k)) (take n (its k)))
        ∙ sym (prefix_and_back m n (drop from xs) (drop from fates))
        ∙ ap (λ (k : ℕ). by_fates of (take k (drop from xs)) (take k (drop from fates))) sum

    pub none_between : (i : ℕ) → by_fates_between of xs fates i i ≡ []
    none_between i =
        let none : i - i ≡ 0 = omega arith in
        ap (λ (k : ℕ). by_fates of (take k (drop i xs)) (take k (drop i fates))) none

    pub one_between : (i : ℕ) (r : B) (fate : Fate) → slice_get xs i ≡ Some r
        → slice_get fates i ≡ Some fate → of r fate ≡ by_fates_between of xs fates i (i + 1)
    one_between i r fate at its =
        let one : 1 ≡ i + 1 - i = omega arith in
        let rs : r ∷ drop (suc i) xs ≡ drop i xs = sym (from_place xs i r at) in
        let own : fate ∷ drop (suc i) fates ≡ drop i fates = sym (from_place fates i fate its) in
        sym (append-nil (of r fate))
        ∙ (λ k. by_fates of (take 1 (rs k)) (take 1 (own k)))
        ∙ ap (λ (k : ℕ). by_fates of (take k (drop i xs)) (take k (drop i fates))) one

    pub all_between : by_fates_between of xs fates 0 (length xs) ≡ by_fates of xs fates
    all_between =
        let n = length xs in
        let all : n - 0 ≡ n = omega arith in
        ap (λ (k : ℕ). by_fates of (take k xs) (take k fates)) all
        ∙ ap (λ (rs : List B). by_fates of rs (take n fates)) (take_all n xs (omega arith))
        ∙ own_fates xs fates

-- ---- the least offset of what doesn't fit

module _ (t : Trace) (h : SectionHistory) (names : List (List ℕ)) where
  pub none_judged : (i : ℕ) → IsLeastMismatch names (records_between t h i i) None
  none_judged i = subst (λ (xs : List _). IsLeastMismatch names xs None)
      (sym (none_between (records_if_settled t) h.attempts h.fates i)) tt

  joined : (from mid to : ℕ) (first other : Option ℕ) → from ≤ mid → mid ≤ to
      → IsLeastMismatch names (records_between t h from mid) first
      → IsLeastMismatch names (records_between t h mid to) other
      → IsLeastMismatch names (records_between t h from to) (lesser first other)
  joined from mid to first other low high is rest =
      subst (λ (xs : List _). IsLeastMismatch names xs (lesser first other))
      (between_joined (records_if_settled t) h.attempts h.fates from mid to low high)
      (least_append names (records_between t h from mid) (records_between t h mid to) first other is rest)

  -- one more attempt
  pub one_judged : (from i : ℕ) (least found : Option ℕ) → from ≤ i → i < length h.attempts → i < length h.fates
      → IsLeastMismatch names (records_between t h from i) least → IsLeastOfAttempt names t h i found
      → IsLeastMismatch names (records_between t h from (i + 1)) (lesser least found)
  one_judged from i least found low there fate is its =
      let a = item_within h.attempts i there in
      let f = item_within h.fates i fate in
      joined from i (i + 1) least found low (omega arith) is
      (subst (λ (xs : List _). IsLeastMismatch names xs found)
      (one_between (records_if_settled t) h.attempts h.fates i a.0 f.0 a.1 f.1)
      (its a.0 f.0 a.1 f.1))

  -- of stretches that follow one another
  found_all : (start from last : ℕ) (xs : List Stretch) (ls : List (Option ℕ)) (first : Option ℕ) → start ≤ from
      → AllZip (IsSearched names t h) xs ls → Reaches from last xs → All (IsWithin last) xs
      → IsLeastMismatch names (records_between t h start from) first
      → IsLeastMismatch names (records_between t h start last) (fold (λ (least l : Option ℕ). lesser least l) first ls)
  found_all start from last [] [] first low each reaches within is =
      subst (λ (n : ℕ). IsLeastMismatch names (records_between t h start n) first) reaches is
  found_all start from last [] (l ∷ ls) first low each reaches within is = absurd each
  found_all start from last (x ∷ xs) [] first low each reaches within is = absurd each
  found_all start from last (x ∷ xs) (l ∷ ls) first low each reaches within is =
      found_all start x.to last xs ls (lesser first l) (omega (arith, low, reaches.0, rising)) each.1 reaches.1
      (λ i d less. within (suc i) d (omega arith))
      (joined start x.from x.to first l (omega (arith, low, reaches.0)) rising
      (subst (λ (n : ℕ). IsLeastMismatch names (records_between t h start n) first) (sym reaches.0) is) each.0)
    where
      rising : x.from ≤ x.to
      rising = (within 0 x (omega arith)).rising

  pub least_in_all : (from last : ℕ) (xs : List Stretch) (ls : List (Option ℕ)) → AllZip (IsSearched names t h) xs ls
      → AreBetween from last xs
      → IsLeastMismatch names (records_between t h from last) (fold (λ (least l : Option ℕ). lesser least l) None ls)
  least_in_all from last xs ls each cut =
      found_all from from last xs ls None (omega arith) each cut.reaches cut.within (none_judged from)
