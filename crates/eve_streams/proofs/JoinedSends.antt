-- Public: other crates cite these lemmas. What several sends write together.
use Rattle.std.proofs.Common.{◌≡◌, ℕ, ◌+◌, ◌-◌, ◌≤◌, ◌<◌, List, ◌++◌, Option, length, take, drop, ap, sym}
use Rattle.std.proofs.Common.{subst, ◌∙◌, arith, length-append}
use Rattle.std.proofs.Math.Seq.{take-add, take-append-add, take-append-le, take-take}
use Rattle.std.specs.Io.KnownBytes.{Appends}
use Rattle.std.proofs.KnownBytes.{Appends-trans}
use Rattle.eve_streams.specs.Prefix.{AppendsPrefix}

-- where a prefix of bytes was appended, and then a prefix of the rest, one longer prefix was
pub Appends-further : (a b c : Option (List ℕ)) (at n : ℕ) (bytes : List ℕ) → n ≤ length bytes - at
    → Appends a b (take at bytes) → Appends b c (take n (take (length bytes - at) (drop at bytes)))
    → Appends a c (take (at + n) bytes)
Appends-further a b c at n bytes fits first second =
    let joined : take at bytes ++ take n (take (length bytes - at) (drop at bytes)) ≡ take (at + n) bytes =
    ap (λ l. take at bytes ++ l) (take-take n (length bytes - at) (drop at bytes) fits) ∙ sym (take-add at n bytes) in
    subst (Appends a c) joined (Appends-trans a b c _ _ first second)

-- where all of xs was appended, and then a prefix of ys, a prefix of both together was
pub AppendsPrefix-after : (a b c : Option (List ℕ)) (xs ys : List ℕ) → Appends a b xs → AppendsPrefix b c ys
    → AppendsPrefix a c (xs ++ ys)
AppendsPrefix-after a b c xs ys first second = record {
  count = length xs + second.count;
  proper = let few : second.count < length ys = second.proper in omega (arith, length-append xs ys);
  appended = let joined : xs ++ take second.count ys ≡ take (length xs + second.count) (xs ++ ys) =
      sym (take-append-add xs ys second.count) in
      subst (Appends a c) joined (Appends-trans a b c _ _ first second.appended);
}

-- a prefix of xs is one of xs with ys behind it
pub AppendsPrefix-more : (a b : Option (List ℕ)) (xs ys : List ℕ) → AppendsPrefix a b xs → AppendsPrefix a b (xs ++ ys)
AppendsPrefix-more a b xs ys prefix = record {
  count = prefix.count;
  proper = let few : prefix.count < length xs = prefix.proper in omega (arith, length-append xs ys);
  appended = let few : prefix.count < length xs = prefix.proper in
      let cut : take prefix.count xs ≡ take prefix.count (xs ++ ys) =
      sym (take-append-le prefix.count xs ys (omega arith)) in
      subst (Appends a b) cut prefix.appended;
}
