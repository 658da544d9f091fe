-- Where an item of a filtered, mapped or joined list comes from.
use Rattle.std.proofs.Common.{◌≡◌, inl, inr, ◌⊎◌, Bool, true, false, cond, List, [], ◌∷◌, ◌++◌, map, filter, flat_map}
use Rattle.std.proofs.Common.{refl, sym, ap, ◌∙◌, append_assoc}
use Rattle.eve_grammar.proofs.Lists.{same_first, same_others, no_item, filter_kept, filter_dropped}

-- ---- filtered

pub record FilterCut {A : Type 0} (test : A → Bool) (xs before : List A) (x : A) : Type 0 where
  pub prefix : List A
  pub back : List A
  pub is : xs ≡ prefix ++ x ∷ back
  pub same : filter test prefix ≡ before
  pub passes : test x ≡ true

pub filter_cut : {A : Type 0} (test : A → Bool) (xs before : List A) (x : A) (rest : List A) → filter test xs
    ≡ before ++ x ∷ rest → FilterCut test xs before x
filter_cut test [] before x rest e = absurd (no_item before x rest e)
filter_cut {A} test (y ∷ xs) before x rest e = by (test y) refl before e (λ b k. filter_cut test xs b x rest k)
  where
    by : (b : Bool) → test y ≡ b → (before : List A) → cond b (y ∷ filter test xs) (filter test xs) ≡ before ++ x ∷ rest
        → ((own : List A) → filter test xs ≡ own ++ x ∷ rest → FilterCut test xs own x)
        → FilterCut test (y ∷ xs) before x
    by true k [] e more =
        let first = same_first y x (filter test xs) rest e in
        record { prefix = []; back = xs; is = ap (λ z. z ∷ xs) first; same = refl; passes = ap test (sym first) ∙ k }
    by true k (z ∷ own) e more =
        let c = more own (same_others y z (filter test xs) (own ++ x ∷ rest) e) in
        record {
          prefix = y ∷ c.prefix;
          back = c.back;
          is = ap (λ l. y ∷ l) c.is;
          same = filter_kept test y c.prefix k
              ∙ (λ i. same_first y z (filter test xs) (own ++ x ∷ rest) e i ∷ c.same i);
          passes = c.passes;
        }
    by false k own e more =
        let c = more own e in
        record {
          prefix = y ∷ c.prefix;
          back = c.back;
          is = ap (λ l. y ∷ l) c.is;
          same = filter_dropped test y c.prefix k
              ∙ c.same;
          passes = c.passes;
        }

-- ---- joined

append_cut : {A : Type 0} (xs ys before : List A) (x : A) (rest : List A) → xs ++ ys ≡ before ++ x ∷ rest
    → ((c : List A) × (xs ≡ before ++ x ∷ c)) ⊎ ((b : List A) × (ys ≡ b ++ x ∷ rest) × (before ≡ xs ++ b))
append_cut [] ys before x rest e = inr (before, e, refl)
append_cut (y ∷ xs) ys [] x rest e = inl (xs, ap (λ z. z ∷ xs) (same_first y x (xs ++ ys) rest e))
append_cut (y ∷ xs) ys (z ∷ before) x rest e =
    let same = same_first y z (xs ++ ys) (before ++ x ∷ rest) e in
    elim (append_cut xs ys before x rest (same_others y z (xs ++ ys) (before ++ x ∷ rest) e)) [
      | inl c ↦ inl (c.0, λ i. same i ∷ c.1 i)
      | inr d ↦ inr (d.0, d.1, λ i. sym same i ∷ d.2 i)
    ]

pub record FlatCut {A B : Type 0} (f : B → List A) (ys : List B) (before : List A) (x : A) : Type 0 where
  pub earlier : List B
  pub item : B
  pub later : List B
  pub prefix : List A
  pub back : List A
  pub is : ys ≡ earlier ++ item ∷ later
  pub inner : f item ≡ prefix ++ x ∷ back
  pub same : before ≡ flat_map f earlier ++ prefix

pub flat_cut : {A B : Type 0} (f : B → List A) (ys : List B) (before : List A) (x : A) (rest : List A) → flat_map f ys
    ≡ before ++ x ∷ rest → FlatCut f ys before x
flat_cut f [] before x rest e = absurd (no_item before x rest e)
flat_cut f (y ∷ ys) before x rest e =
    elim (append_cut (f y) (flat_map f ys) before x rest e) [
      | inl c ↦ record {
        earlier = [];
        item = y;
        later = ys;
        prefix = before;
        back = c.0;
        is = refl;
        inner = c.1;
        same = refl;
      }
      | inr d ↦
          let r = flat_cut f ys d.0 x rest d.1 in
          record {
            earlier = y ∷ r.earlier;
            item = r.item;
            later = r.later;
            prefix = r.prefix;
            back = r.back;
            is = ap (λ l. y ∷ l) r.is;
            inner = r.inner;
            same = d.2 ∙ ap (λ l. f y ++ l) r.same ∙ sym (append_assoc (f y) (flat_map f r.earlier) r.prefix);
          }
    ]

-- ---- mapped

pub record MapCut {A B : Type 0} (f : B → A) (ys : List B) (before : List A) (x : A) : Type 0 where
  pub earlier : List B
  pub item : B
  pub later : List B
  pub is : ys ≡ earlier ++ item ∷ later
  pub it : x ≡ f item
  pub same : before ≡ map f earlier

pub map_cut : {A B : Type 0} (f : B → A) (ys : List B) (before : List A) (x : A) (rest : List A)
    → map f ys ≡ before ++ x ∷ rest → MapCut f ys before x
map_cut f [] before x rest e = absurd (no_item before x rest e)
map_cut f (y ∷ ys) [] x rest e =
    record {
      earlier = [];
      item = y;
      later = ys;
      is = refl;
      it = sym (same_first (f y) x (map f ys) rest e);
      same = refl;
    }
map_cut f (y ∷ ys) (z ∷ before) x rest e =
    let r = map_cut f ys before x rest (same_others (f y) z (map f ys) (before ++ x ∷ rest) e) in
    record {
      earlier = y ∷ r.earlier;
      item = r.item;
      later = r.later;
      is = ap (λ l. y ∷ l) r.is;
      it = r.it;
      same = λ i. sym (same_first (f y) z (map f ys) (before ++ x ∷ rest) e) i ∷ r.same i;
    }
