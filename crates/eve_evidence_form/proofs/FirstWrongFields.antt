-- The first wrong field of lists one behind the other, and of the parts of a list.
use Rattle.std.proofs.Common.{◌≡◌, ℕ, zero, suc, ◌+◌, ◌<◌, Bool, true, false, if◌then◌else◌, add-one, unwrap_or}
use Rattle.std.proofs.Common.{List, [], ◌∷◌, ◌++◌, Option, Some, None, refl, sym, ap, subst, ◌∙◌, inl, inr, arith}
use Rattle.std.proofs.lemmas.Bool.{cases_lt}
use Rattle.eve_evidence.specs.declared.evidence.BodyField.TheVariants as name
use Rattle.eve_evidence_form.specs.Fields.{field, fields_of, first_wrong_there, first_wrong_field}
use Rattle.eve_evidence_form.specs.declared.fields.FieldThere.{FieldThere}

-- ---- lists one behind the other

-- by whether the first field is right
step : (f : FieldThere) (fs : List FieldThere) (b : Bool) → f.right ≡ b
    → first_wrong_there (f ∷ fs) ≡ (if b then first_wrong_there fs else Some f)
step f fs b e = ap (λ (r : Bool). if r then first_wrong_there fs else Some f) e

-- what is wrong in front is so before what stands behind it
pub wrong_in_prefix : (xs ys : List FieldThere) (f : FieldThere) → Some f ≡ first_wrong_there xs
    → Some f ≡ first_wrong_there (xs ++ ys)
wrong_in_prefix [] ys f e = cc
wrong_in_prefix (x ∷ xs) ys f e = by (wrong_in_prefix xs ys f) x.right refl
  where
    by : (Some f ≡ first_wrong_there xs → Some f ≡ first_wrong_there (xs ++ ys)) → (b : Bool) → x.right ≡ b
        → Some f ≡ first_wrong_there (x ∷ (xs ++ ys))
    by rest true r = rest (e ∙ step x xs true r) ∙ sym (step x (xs ++ ys) true r)
    by rest false r = e ∙ step x xs false r ∙ sym (step x (xs ++ ys) false r)

-- where nothing is, what stands behind decides
pub right_in_prefix : (xs ys : List FieldThere) → None ≡ first_wrong_there xs
    → first_wrong_there (xs ++ ys) ≡ first_wrong_there ys
right_in_prefix [] ys e = refl
right_in_prefix (x ∷ xs) ys e = by (right_in_prefix xs ys) x.right refl
  where
    by : (None ≡ first_wrong_there xs → first_wrong_there (xs ++ ys) ≡ first_wrong_there ys) → (b : Bool) → x.right ≡ b
        → first_wrong_there (x ∷ (xs ++ ys)) ≡ first_wrong_there ys
    by rest true r = step x (xs ++ ys) true r ∙ rest (e ∙ step x xs true r)
    by rest false r = absurd (let some : None ≡ Some x = e ∙ step x xs false r in cc)

-- what is told of a list: what is wrong there, or else the byte behind it
pub wrong_told : (end : ℕ) (xs : List FieldThere) (f : FieldThere) → Some f ≡ first_wrong_there xs
    → f ≡ first_wrong_field end xs
wrong_told end xs f e = ap (λ (o : Option FieldThere). unwrap_or o (field name.End end false)) e

pub end_told : (end : ℕ) (xs : List FieldThere) → None ≡ first_wrong_there xs
    → field name.End end false ≡ first_wrong_field end xs
end_told end xs e = ap (λ (o : Option FieldThere). unwrap_or o (field name.End end false)) e

-- of lists one behind the other: what is wrong in front, or else what is told of what stands behind
pub told_in_prefix : (end : ℕ) (xs ys : List FieldThere) (f : FieldThere) → Some f ≡ first_wrong_there xs
    → f ≡ first_wrong_field end (xs ++ ys)
told_in_prefix end xs ys f e = wrong_told end (xs ++ ys) f (wrong_in_prefix xs ys f e)

pub told_behind : (end : ℕ) (xs ys : List FieldThere) (f : FieldThere) → None ≡ first_wrong_there xs
    → f ≡ first_wrong_field end ys
    → f ≡ first_wrong_field end (xs ++ ys)
told_behind end xs ys f e told =
    told ∙ ap (λ (o : Option FieldThere). unwrap_or o (field name.End end false)) (sym (right_in_prefix xs ys e))

-- ---- the parts of a list

-- one part more that is right
pub part_right : (part : ℕ → List FieldThere) (i : ℕ) → None ≡ first_wrong_there (fields_of part i)
    → None ≡ first_wrong_there (part i)
    → None ≡ first_wrong_there (fields_of part (i + 1))
part_right part i before here =
    here ∙ sym (right_in_prefix (fields_of part i) (part i) before)
    ∙ ap (λ (n : ℕ). first_wrong_there (fields_of part n)) (sym (add-one i))

-- the first part that is wrong decides, whatever parts follow
pub part_wrong : (part : ℕ → List FieldThere) (i n : ℕ) (f : FieldThere) → i < n
    → None ≡ first_wrong_there (fields_of part i)
    → Some f ≡ first_wrong_there (part i)
    → Some f ≡ first_wrong_there (fields_of part n)
part_wrong part i zero f lt before here = absurd (omega arith)
part_wrong part i (suc n) f lt before here = elim (cases_lt i n) [
  | inl less ↦ wrong_in_prefix (fields_of part n) (part n) f (part_wrong part i n f less before here)
  | inr last ↦ let same : i ≡ n = omega arith in
      subst (λ (m : ℕ). Some f ≡ first_wrong_there (fields_of part (suc m))) same
      (here ∙ sym (right_in_prefix (fields_of part i) (part i) before))
]
