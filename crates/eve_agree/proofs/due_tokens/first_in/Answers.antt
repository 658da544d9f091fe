use Rattle.std.proofs.Common.{◌≡◌, ◌<◌, ℕ, List, length, get_or, Option, sym, subst, ap, ◌∙◌}
use Rattle.std.proofs.Common.{arith}
use Rattle.eve_grammar.specs.Trace.{Trace, head_of}
use Rattle.eve_grammar.proofs.Lists.{whole_slice}
use Rattle.eve_chains.specs.CommittedValues.{Settling}
use Rattle.eve_agree.specs.DueTokens.{IsFirstWrong}
use Rattle.eve_agree.specs.inner.Stretches.{IsJudgedStretch, AreReadyStretches, first_found}
use Rattle.eve_agree.specs.declared.due_tokens.Stretch.{Stretch}
use Rattle.eve_agree.proofs.JoinedStretches.{some_rows, all_judged}
use Rattle.eve_agree.proofs.due_tokens.first_in.Goals as goal

-- what was found in all of them
found_is : (t : Trace) (e : ℕ) (s : Settling) (xs ys old : List Stretch) (o : Option ℕ)
    → AreReadyStretches t.head.version s (length s.numbers) xs → length ys ≡ length old → old ≡ xs
    → ((i : ℕ) (d : Stretch) → i < length old → IsJudgedStretch t e (get_or old i d) (get_or ys i d))
    → o ≡ first_found ys →
    IsFirstWrong t e 0 (length s.numbers) o
found_is t e s xs ys old o cut same value judged is =
    let mine : (i : ℕ) (d : Stretch) → i < length xs → IsJudgedStretch t e (get_or xs i d) (get_or ys i d) =
    subst (λ (zs : List Stretch). (i : ℕ) (d : Stretch) → i < length zs →
    IsJudgedStretch t e (get_or zs i d) (get_or ys i d)) value judged in
    subst (IsFirstWrong t e 0 (length s.numbers)) (sym is) (all_judged t e t.head.version s 0 xs ys (same ∙
    ap (λ (zs : List Stretch). length zs) value) cut.reaches cut.ready mine).1

pub cut-requires-clause-some : goal.cut-requires-clause-some
cut-requires-clause-some g c =
    let t = c.args.trace.now in
    some_rows t c.args.history.now.replica c.args.settled.now c.requires.section.settled
    (c.right_heads_have_limits.ensures.limits (head_of t) c.recall_limits.ensures.head).some_customers

pub returns : goal.returns
returns g c =
    let xs = c.in_ok-stretches.stretches.items in
    let ys = c.judge_all.new.stretches in
    let value = c.as_mut_slice.ensures.value in
    let same = c.judge_all.ensures.len in
    let many : length c.as_mut_slice.result.now ≡ length xs = ap (λ (zs : List Stretch). length zs) value in
    let found : c.first_of_all.result ≡ first_found ys =
    c.first_of_all.ensures ∙ ap first_found (c.deref.ensures.value ∙
    whole_slice xs ys c.in_ok-stretches.stretches.len (omega arith) (omega (arith, c.as_mut_slice.ensures.len))) in
    found_is c.args.trace.now c.args.history.now.replica c.args.settled.now xs ys c.as_mut_slice.result.now
    c.first_of_all.result c.in_ok-stretches.ensures same value c.judge_all.ensures.judged found
