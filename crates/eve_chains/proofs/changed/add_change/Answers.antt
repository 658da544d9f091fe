use Rattle.std.proofs.Common.{◌≡◌, ℕ, suc, ◌-◌, false, [], ◌∷◌, ◌++◌, length, get_or, sym, ap, ◌∙◌, arith, rules}
use Rattle.std.proofs.lemmas.List.{get_or_default}
use Rattle.eve_chains.specs.declared.changed.Changed.{Changed}
use Rattle.eve_chains.proofs.ChangeLists.{is_of_same, changed_again, changed_anew}
use Rattle.eve_chains.proofs.changed.add_change.Goals as goal
use Rattle.eve_chains.proofs.changed.add_change.Goals.{else-count-gt0-via-then-count-gt0+else-is_of_same}
use Rattle.eve_chains.proofs.changed.add_change.Goals.{else-count-gt0-via-else-count-gt0}

pub returns-then-is_of_same : goal.returns-then-is_of_same
returns-then-is_of_same c =
    let cs = c.args.changes.now.items in
    let i = c.len-count.result - 1 in
    let many : length cs ≡ suc i = search rules in
    let at : get_or cs i c.args.change ≡ c.index.result.now =
    get_or_default cs i c.args.change c.index.result.now (omega (arith, many)) ∙ sym c.index.ensures in
    sym (changed_again cs c.args.change i many
    (ap (λ (x : Changed). is_of_same x c.args.change) at ∙ sym c.is_of_same.ensures ∙ c.if-is_of_same.true))

pub returns : goal.returns
returns c =
    let cs = c.args.changes.now.items in
    let other : (i : ℕ) → length cs ≡ suc i → is_of_same (get_or cs i c.args.change) c.args.change ≡ false =
    λ i many. elim c.else-count-gt0.branch [
      | else-count-gt0-via-then-count-gt0+else-is_of_same w ↦
          let here : i ≡ c.len-count.result - 1 = search rules in
          let at : get_or cs i c.args.change ≡ w.index.result.now =
          get_or_default cs i c.args.change w.index.result.now (omega (arith, many))
          ∙ ap (λ (k : ℕ). get_or cs k w.index.result.now) here ∙ sym w.index.ensures in
          ap (λ (x : Changed). is_of_same x c.args.change) at ∙ sym w.is_of_same.ensures ∙ w.if-is_of_same.false
      | else-count-gt0-via-else-count-gt0 w ↦ absurd (search rules)
    ] in
    let pushed : c.push.new.self.items ≡ cs ++ c.args.change ∷ [] = search rules in
    pushed ∙ sym (changed_anew cs c.args.change other)
