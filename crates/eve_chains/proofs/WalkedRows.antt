-- The first fault of rows that are walked, each by itself.
use Rattle.std.proofs.Common.{◌≡◌, ℕ, suc, ◌+◌, ◌<◌, ◌≤◌, Bool, true, false, cond, List, [], ◌∷◌, ◌++◌}
use Rattle.std.proofs.Common.{length, fold, Option, Some, None, refl, sym, subst, ap, ◌∙◌, inl, inr, ◌⊎◌, append_assoc}
use Rattle.std.proofs.Common.{arith}
use Rattle.std.specs.Prelude.{All}
use Rattle.std.specs.List.{AllZip}
use Rattle.eve_smallbank.specs.declared.entry.Entry.{Entry}
use Rattle.eve_smallbank.specs.declared.versioned.Versioned.{Versioned}
use Rattle.eve_views.specs.Code.{code_number, phase_of}
use Rattle.eve_views.specs.First.{is_before, first_of}
use Rattle.eve_views.specs.Form.{IsLeast}
use Rattle.eve_views.specs.declared.fault.Code.{Code}
use Rattle.eve_views.specs.declared.fault.Code.TheVariants as code
use Rattle.eve_views.specs.declared.fault.Fault.{Fault}
use Rattle.std.proofs.lemmas.Bool.{cases_lt}
use Rattle.eve_views.proofs.Firsts.{up_to-trans}
use Rattle.eve_grammar.specs.Trace.{Trace}
use Rattle.eve_chains.specs.Along.{SeesAnother, fault_if}
use Rattle.eve_chains.specs.Rows.{bases_of}
use Rattle.eve_chains.specs.Rows.{Noted, due_on_row, next_pair, pair_after, at_first, IsWrongOnRow, EachSees}
use Rattle.eve_chains.specs.Changes.{change_by, changes_along}
use Rattle.eve_chains.specs.declared.changed.Changed.{Changed}
use Rattle.eve_chains.specs.inner.Stretches.{IsWithin, Reaches, AreStretches}
use Rattle.eve_chains.specs.inner.Walked.{IsFirstOrNone, IsMismatch, IsFirstOnRow, IsWrongOnSome, IsFirstOnRows}
use Rattle.eve_chains.specs.inner.Walked.{notes_on}
use Rattle.eve_chains.specs.declared.stretch.Stretch.{Stretch}
use Rattle.eve_chains.proofs.AlongLaws.{before_up, not_before_up, split_last}
use Rattle.eve_chains.proofs.RowWalks.{fold_more}

-- ---- the first of two

-- Where all is well of both, all is well; and the faults are those of the one and those of the other, all of chains.
record AreBoth (Well One Other : Type 0) (S P Q : Fault → Type 0) : Type 0 where
  well : One → Other → Well
  one : (f : Fault) → P f → S f
  other : (f : Fault) → Q f → S f
  which : (f : Fault) → S f → P f ⊎ Q f
  phase : (f : Fault) → S f → phase_of f.code ≡ 5

module _ {Well One Other : Type 0} {S P Q : Fault → Type 0} (both : AreBoth Well One Other S P Q) where
  choose : (f g : Fault) → IsLeast P f → IsLeast Q g → (b : Bool) → is_before g f ≡ b
      → IsFirstOrNone Well S (cond b (Some g) (Some f))
  choose f g first found true before = record {
    is = both.other g found.is;
    least = λ k s. elim (both.which k s) [
      | inl p ↦ up_to-trans g f k (before_up g f (both.phase g (both.other g found.is))
          (both.phase f (both.one f first.is)) before) (first.least k p)
      | inr q ↦ found.least k q
    ];
  }
  choose f g first found false behind = record {
    is = both.one f first.is;
    least = λ k s. elim (both.which k s) [
      | inl p ↦ first.least k p
      | inr q ↦ up_to-trans f g k (not_before_up g f (both.phase g (both.other g found.is))
          (both.phase f (both.one f first.is)) behind) (found.least k q)
    ];
  }

  first_of_both : (a b : Option Fault) → IsFirstOrNone One P a → IsFirstOrNone Other Q b
      → IsFirstOrNone Well S (first_of a b)
  first_of_both None None first found = (
    both.well first.0 found.0,
    λ f s. elim (both.which f s) [ inl p ↦ first.1 f p | inr q ↦ found.1 f q ],
  )
  first_of_both None (Some g) first found = record {
    is = both.other g found.is;
    least = λ k s. elim (both.which k s) [ inl p ↦ absurd (first.1 k p) | inr q ↦ found.least k q ];
  }
  first_of_both (Some f) None first found = record {
    is = both.one f first.is;
    least = λ k s. elim (both.which k s) [ inl p ↦ first.least k p | inr q ↦ absurd (found.1 k q) ];
  }
  first_of_both (Some f) (Some g) first found = choose f g first found (is_before g f) refl

-- ---- one entry of a row

chain_phase : (c : Code) (v : Versioned) (e : Entry) → SeesAnother c v e → phase_of c ≡ 5
chain_phase code.Version v e other = refl
chain_phase code.Value v e other = refl
chain_phase _ v e other = absurd other

-- a fault at this one entry, where its row has this
record IsWrongHere (e : ℕ) (v : Versioned) (n : Noted) (f : Fault) : Type 0 where
  at : n.offset ≡ f.offset
  other : SeesAnother f.code v n.entry
  inside : f.replica ≡ Some e

abbrev SeesHere : Versioned → Noted → Type 0
SeesHere v n = (n.entry.version ≡ v.version) × (n.entry.seen ≡ v.value)

none_wrong : (e : ℕ) (v : Versioned) (n : Noted) (c : Code) → SeesHere v n → SeesAnother c v n.entry → ⊥
none_wrong e v n code.Version sees other = other sees.0
none_wrong e v n code.Value sees other = other sees.1
none_wrong e v n _ sees other = absurd other

wrong_here : (c : Code) (v : Versioned) (e : Entry) → IsMismatch v e (Some c) → SeesAnother c v e
wrong_here code.Version v e wrong = wrong
wrong_here code.Value v e wrong = wrong.1
wrong_here _ v e wrong = absurd wrong

least_here : (c d : Code) (v : Versioned) (e : Entry) → IsMismatch v e (Some c) → SeesAnother d v e
    → code_number c ≤ code_number d
least_here code.Version code.Version v e wrong other = omega arith
least_here code.Version code.Value v e wrong other = omega arith
least_here code.Value code.Version v e wrong other = absurd (other wrong.0)
least_here code.Value code.Value v e wrong other = omega arith
least_here code.Version _ v e wrong other = absurd other
least_here code.Value _ v e wrong other = absurd other
least_here _ d v e wrong other = absurd wrong

first_here : (e : ℕ) (v : Versioned) (n : Noted) (wrong : Option Code) → IsMismatch v n.entry wrong
    → IsFirstOrNone (SeesHere v n) (IsWrongHere e v n) (fault_if e n.offset wrong)
first_here e v n None is = (is, λ f w. none_wrong e v n f.code is w.other)
first_here e v n (Some c) is = record {
  is = record { at = refl; other = wrong_here c v n.entry is; inside = refl };
  least = λ g w. inr (w.at, least_here c g.code v n.entry is w.other);
}

-- ---- one entry more

module _ (e : ℕ) (bases : ℕ → Versioned) (ns : List Noted) (n : Noted) where
  abbrev checked : Versioned
  checked = due_on_row bases (pair_after bases ns) n

  sees_more : EachSees bases ns → SeesHere checked n → EachSees bases (ns ++ n ∷ [])
  sees_more each here before m rest is =
      elim (split_last ns n before m rest is) [
        | inl last ↦ subst (λ (bs : List Noted). SeesHere (due_on_row bases (pair_after bases bs) m) m)
            (sym last.0)
            (subst (λ (k : Noted). SeesHere (due_on_row bases (pair_after bases ns) k) k) (sym last.1) here)
        | inr prefix ↦ each before m prefix.0 prefix.1
      ]

  prefix_wrong : (f : Fault) → IsWrongOnRow e bases ns f → IsWrongOnRow e bases (ns ++ n ∷ []) f
  prefix_wrong f wrong = record {
    stands = record {
      before = wrong.stands.before;
      item = wrong.stands.item;
      rest = wrong.stands.rest ++ n ∷ [];
      is = ap (λ (ms : List Noted). ms ++ n ∷ []) wrong.stands.is
          ∙ append_assoc wrong.stands.before (wrong.stands.item ∷ wrong.stands.rest) (n ∷ []);
      holds = wrong.stands.holds;
    };
    inside = wrong.inside;
  }

  last_wrong : (f : Fault) → IsWrongHere e checked n f → IsWrongOnRow e bases (ns ++ n ∷ []) f
  last_wrong f wrong = record {
    stands = record { before = ns; item = n; rest = []; is = refl; holds = (wrong.at, wrong.other) };
    inside = wrong.inside;
  }

  which_wrong : (f : Fault) → IsWrongOnRow e bases (ns ++ n ∷ []) f → IsWrongOnRow e bases ns f
      ⊎ IsWrongHere e checked n f
  which_wrong f wrong =
      let place = wrong.stands in
      elim (split_last ns n place.before place.item place.rest place.is) [
        | inl last ↦ inr (record {
          at = ap (λ (k : Noted). k.offset) (sym last.1) ∙ place.holds.0;
          other = subst (λ (k : Noted). SeesAnother f.code (due_on_row bases (pair_after bases ns) k) k.entry)
              last.1
              (subst (λ (bs : List Noted). SeesAnother f.code (due_on_row bases (pair_after bases bs) place.item)
              place.item.entry)
              last.0 place.holds.1);
          inside = wrong.inside;
        })
        | inr prefix ↦ inl (record {
          stands = record {
            before = place.before;
            item = place.item;
            rest = prefix.0;
            is = prefix.1;
            holds = place.holds;
          };
          inside = wrong.inside;
        })
      ]

  pub first_noted : (first : Option Fault) (wrong : Option Code) → IsFirstOnRow e bases ns first
      → IsMismatch checked n.entry wrong
      → IsFirstOnRow e bases (ns ++ n ∷ []) (first_of first (fault_if e n.offset wrong))
  first_noted first wrong known is =
      first_of_both {S = IsWrongOnRow e bases (ns ++ n ∷ [])} (record {
        well = sees_more;
        one = prefix_wrong;
        other = last_wrong;
        which = which_wrong;
        phase = λ f w. chain_phase f.code _ _ w.stands.holds.1;
      }) first (fault_if e n.offset wrong) known (first_here e checked n wrong is)

pub pair_more : (bases : ℕ → Versioned) (ns : List Noted) (n : Noted) → pair_after bases (ns ++ n ∷ [])
    ≡ next_pair bases (pair_after bases ns) n
pair_more bases ns n = fold_more (next_pair bases) (at_first bases) ns n

pub none_on_row : (e : ℕ) (bases : ℕ → Versioned) → IsFirstOnRow e bases [] None
none_on_row e bases = (
  λ before n rest is. absurd (nothing before n rest is),
  λ f wrong.
      nothing wrong.stands.before wrong.stands.item wrong.stands.rest wrong.stands.is,
)
  where
    nothing : (before : List Noted) (n : Noted) (rest : List Noted) → [] ≡ before ++ n ∷ rest → ⊥
    nothing [] n rest is = let none : 0 ≡ suc (length rest) = ap length is in omega arith
    nothing (m ∷ before) n rest is =
        let none : 0 ≡ suc (length (before ++ n ∷ rest)) = ap length is in omega arith

-- ---- rows from one up to another

module _ (t : Trace) (e : ℕ) where
  pub none_on_rows : (i : ℕ) → IsFirstOnRows t e i i None
  none_on_rows i = (λ row low high. absurd (apart row low high), λ f wrong. apart wrong.row wrong.above wrong.below)
    where
      apart : (row : ℕ) → i ≤ row → row < i → ⊥
      apart row low high = omega arith

  pub one_on_rows : (row : ℕ) (first : Option Fault) → IsFirstOnRow e (bases_of t e row) (notes_on t e row) first
      → IsFirstOnRows t e row (row + 1) first
  one_on_rows row None first = (
    λ r low high. subst (λ (k : ℕ). EachSees (bases_of t e k) (notes_on t e k)) (same r low high) first.0,
    λ f wrong. first.1 f
        (subst (λ (k : ℕ). IsWrongOnRow e (bases_of t e k) (notes_on t e k) f)
        (sym (same wrong.row wrong.above wrong.below)) wrong.wrong),
  )
    where
      same : (r : ℕ) → row ≤ r → r < row + 1 → row ≡ r
      same r low high = omega arith
  one_on_rows row (Some f) first = record {
    is = record { row = row; above = omega arith; below = omega arith; wrong = first.is };
    least = λ g wrong. first.least g
        (subst (λ (k : ℕ). IsWrongOnRow e (bases_of t e k) (notes_on t e k) g)
        (sym (same wrong.row wrong.above wrong.below)) wrong.wrong);
  }
    where
      same : (r : ℕ) → row ≤ r → r < row + 1 → row ≡ r
      same r low high = omega arith

  pub first_on_rows : (from mid to : ℕ) (a b : Option Fault) → from ≤ mid → mid ≤ to → IsFirstOnRows t e from mid a
      → IsFirstOnRows t e mid to b → IsFirstOnRows t e from to (first_of a b)
  first_on_rows from mid to a b low high first found =
      first_of_both {S = IsWrongOnSome t e from to} (record {
        well = λ one other row above below. elim (lt_or row) [
          | inl less ↦ one row above less
          | inr more ↦ other row more below
        ];
        one = λ f w. record { row = w.row; above = w.above; below = omega (arith, w.below, high); wrong = w.wrong };
        other = λ f w. record { row = w.row; above = omega (arith, w.above, low); below = w.below; wrong = w.wrong };
        which = λ f w. elim (lt_or w.row) [
          | inl less ↦ inl (record { row = w.row; above = w.above; below = less; wrong = w.wrong })
          | inr more ↦ inr (record { row = w.row; above = more; below = w.below; wrong = w.wrong })
        ];
        phase = λ f w. chain_phase f.code _ _ w.wrong.stands.holds.1;
      }) a b first found
    where
      lt_or : (row : ℕ) → (row < mid) ⊎ (mid ≤ row)
      lt_or row = cases_lt row mid

  -- the first of each range
  abbrev pub IsFirstOfRange : Stretch → Option Fault → Type 0
  IsFirstOfRange x first = IsFirstOnRows t e x.from x.to first

  -- of ranges that follow one another
  first_along : (from last : ℕ) (xs : List Stretch) (fs : List (Option Fault)) (first : Option Fault)
      → AllZip IsFirstOfRange xs fs → Reaches from last xs → All (IsWithin last) xs → IsFirstOnRows t e 0 from first
      → IsFirstOnRows t e 0 last (fold first_of first fs)
  first_along from last [] [] first each reaches within is =
      subst (λ (n : ℕ). IsFirstOnRows t e 0 n first) reaches is
  first_along from last [] (f ∷ fs) first each reaches within is = absurd each
  first_along from last (x ∷ xs) [] first each reaches within is = absurd each
  first_along from last (x ∷ xs) (f ∷ fs) first each reaches within is =
      first_along x.to last xs fs (first_of first f) each.1 reaches.1
      (λ i d less. within (suc i) d (omega arith))
      (first_on_rows 0 x.from x.to first f (omega arith) (within 0 x (omega arith)).rising
      (subst (λ (n : ℕ). IsFirstOnRows t e 0 n first) (sym reaches.0) is) each.0)

  pub first_of_ranges : (rows : ℕ) (xs : List Stretch) (fs : List (Option Fault)) → AllZip IsFirstOfRange xs fs
      → AreStretches rows xs → IsFirstOnRows t e 0 rows (fold first_of None fs)
  first_of_ranges rows xs fs each cut = first_along 0 rows xs fs None each cut.reaches cut.within (none_on_rows 0)

-- ---- changes

-- along more entries
pub changes_more : (before : List Changed) (ns ms : List Noted) (now : List Changed) → now ≡ changes_along before ns
    → changes_along now ms ≡ changes_along before (ns ++ ms)
changes_more before [] ms now is = ap (λ (cs : List Changed). changes_along cs ms) is
changes_more before (n ∷ ns) ms now is = changes_more (change_by before n) ns ms now is
