use Rattle.std.proofs.Common.{◌≡◌, [], List, ◌∷◌, length, slice_get, sym, ap, subst, ◌∙◌, refl, inl, inr}
use Rattle.std.proofs.Common.{arith}
use Rattle.std.proofs.lemmas.Bool.{cases_lt}
use Rattle.std.proofs.lemmas.Option.{slice_get_read, slice_get_within, same_Some}
use Rattle.eve_history.specs.SectionHistory.{SectionHistory}
use Rattle.eve_agree.proofs.agreement.none_was_transferred.Goals as goal

nothing_in : {A : Type 0} (xs : List A) → length xs ≡ 0 → xs ≡ []
nothing_in [] none = refl
nothing_in (x ∷ xs) none = absurd (omega arith)

pub loop-each-preserved : goal.loop-each-preserved
loop-each-preserved c = λ e h lt got. elim (cases_lt e c.loop-each.each-index) [
  | inl early ↦ c.loop-each.invariant e h early got
  | inr late ↦
      let hs = c.args.histories.now in
      let own = slice_get_read hs (length hs) c.loop-each.each-index c.each-item.result refl c.loop-each-test.true
      c.each-item.is in
      let here : c.loop-each.each-index ≡ e = omega arith in
      let same : c.each-item.result ≡ h = same_Some c.each-item.result h
      (sym own ∙ ap (slice_get hs) here ∙ got) in
      let none : length c.each-item.result.transfers ≡ 0 = omega arith in
      subst (λ (x : SectionHistory). x.transfers ≡ []) same (nothing_in c.each-item.result.transfers none)
]

pub returns : goal.returns
returns c = λ _ e h got.
    let lt = slice_get_within c.args.histories.now e h got in
    c.loop-each.invariant e h (omega (arith, c.loop-each-test.false)) got
