use Rattle.std.proofs.Common.{◌≡◌, ℕ, ◌+◌, ◌<◌, ◌≤◌, Bool, true, false, cond, leb, ltb, List, length, take, drop}
use Rattle.std.proofs.Common.{Option, Some, None, IfNone, refl, sym, ap, ◌∙◌, arith}
use Rattle.std.proofs.lemmas.Bool.{ltb-true, and_left}
use Rattle.std.proofs.lemmas.List.{length-drop, length-take}
use Rattle.byteorder.specs.Endian.{big_number}
use Rattle.eve_grammar.specs.Readers.{number_at}
use Rattle.eve_grammar.specs.declared.head.Head.{Head}
use Rattle.eve_grammar.specs.declared.place.Place.{Place}
use Rattle.eve_views.specs.Form.{is_framed}
use Rattle.eve_views.proofs.KeptFrames.{prefix_of, unframed_kind, unframed_past}
use Rattle.eve_grammar.proofs.KindBytes.{none_allowed}
use Rattle.eve_views.proofs.walk.kind_and_body.Goals as goal

anyway : {A : Type 0} (P : Type 0) (o : Option A) → P → IfNone o P
anyway P None holds = holds
anyway P (Some x) holds = tt

too_short : (n : ℕ) (bytes : List ℕ) → number_at n bytes ≡ None → length bytes < n
too_short n bytes e = by (ltb (length bytes) n) refl e
  where
    by : (b : Bool) → ltb (length bytes) n ≡ b
        → cond {A = Option (ℕ × List ℕ)} b None (Some (big_number n bytes, drop n bytes)) ≡ None → length bytes < n
    by true t e = ltb-true (length bytes) n t
    by false t e = absurd cc

one_more : (bytes : List ℕ) (x : ℕ) (rest : List ℕ) → number_at 1 bytes ≡ Some (x, rest)
    → length bytes ≤ 1 + length rest
one_more bytes x rest e = by (ltb (length bytes) 1) e
  where
    by : (b : Bool) → cond {A = Option (ℕ × List ℕ)} b None (Some (big_number 1 bytes, drop 1 bytes)) ≡ Some (x, rest)
        → length bytes ≤ 1 + length rest
    by true e = absurd cc
    by false e =
        let one : ℕ × List ℕ = (big_number 1 bytes, drop 1 bytes) in
        let two : ℕ × List ℕ = (x, rest) in
        let same : one ≡ two = cc in
        omega (arith, length-drop 1 bytes, ap (λ (y : ℕ × List ℕ). length y.1) same)

unframed_short : (h : Head) (p : Place) (bytes : List ℕ) → length bytes < 5 → is_framed h p bytes ≡ false
unframed_short h p bytes short = and_left _ _ (few short)
  where
    few : length bytes < 5 → leb 5 (length bytes) ≡ false
    few s = grind arith

pub returns-in_err-kind-clause-none : goal.returns-in_err-kind-clause-none
returns-in_err-kind-clause-none c =
    let prefix = prefix_of c.args.bytes.now c.in_ok-first.first c.in_ok-len.len c.in_ok-first.rest.now
    c.in_ok-len.rest.now c.in_ok-first.ensures c.in_ok-len.ensures in
    anyway _ c.from_residual-in_err-kind.result (λ h p. unframed_kind h p c.args.bytes.now c.in_ok-first.first
    prefix.kind_is (none_allowed h p c.in_ok-first.first c.in_err-kind.ensures.none))

pub returns-then-rest-len-clause-none : goal.returns-then-rest-len-clause-none
returns-then-rest-len-clause-none c = λ h p.
    let prefix = prefix_of c.args.bytes.now c.in_ok-first.first c.in_ok-len.len c.in_ok-first.rest.now
    c.in_ok-len.rest.now c.in_ok-first.ensures c.in_ok-len.ensures in
    unframed_past h p c.args.bytes.now c.in_ok-first.first c.in_ok-len.len c.in_ok-len.rest.now prefix
    c.if-rest-len.true

pub returns-in_err-first-clause-none : goal.returns-in_err-first-clause-none
returns-in_err-first-clause-none c =
    let bytes = c.args.bytes.now in
    let short = too_short 1 bytes c.in_err-first.ensures in
    anyway _ c.from_residual.result (λ h p. unframed_short h p bytes (omega (arith, short)))

pub returns-in_err-len-clause-none : goal.returns-in_err-len-clause-none
returns-in_err-len-clause-none c =
    let bytes = c.args.bytes.now in
    let rest = c.in_ok-first.rest.now in
    let one = one_more bytes c.in_ok-first.first rest c.in_ok-first.ensures in
    let short = too_short 4 rest c.in_err-len.ensures in
    anyway _ c.from_residual-in_err-len.result (λ h p. unframed_short h p bytes (omega (arith, one, short)))

pub returns-clause-some : goal.returns-clause-some
returns-clause-some c =
    let len = c.in_ok-len.len in
    let rest = c.in_ok-len.rest.now in
    let prefix = prefix_of c.args.bytes.now c.in_ok-first.first len c.in_ok-first.rest.now rest c.in_ok-first.ensures
    c.in_ok-len.ensures in
    let size : length (take len rest) ≡ len = omega (arith, length-take len rest, c.if-rest-len.false) in
    record {
      kind_is = prefix.kind_is ∙ sym c.in_ok-kind.ensures.kind;
      len_is = prefix.len_is ∙ sym size;
      body_is = ap (λ (n : ℕ). take n (drop 5 c.args.bytes.now)) size ∙ ap (take len) prefix.rest_is;
      whole = omega (arith, size, prefix.size, c.if-rest-len.false);
    }
