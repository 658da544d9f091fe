use Rattle.std.proofs.Common.{◌≡◌, ◌≤◌, ◌+◌, false, true, get_or, length, sym, ap, ◌∙◌, arith}
use Rattle.std.specs.List.{list_all}
use Rattle.std.proofs.lemmas.List.{take_all}
use Rattle.std.proofs.lemmas.List.Folds.{list_all_at, list_all_more}
use Rattle.std.proofs.lemmas.Bool.{and_from}
use Rattle.eve_grammar.specs.Limits.{is_entry}
use Rattle.std.proofs.lemmas.Option.{get_or_from_slice_get}
use Rattle.eve_write.proofs.entries.are_entries.Goals.{else-place-count-via-then-place-count+else-not-is_entry}
use Rattle.eve_write.proofs.entries.are_entries.Goals.{else-place-count-via-else-place-count}
use Rattle.eve_write.proofs.entries.are_entries.Goals as goal

pub returns-then-not-is_entry : goal.returns-then-not-is_entry
returns-then-not-is_entry c =
    let entries = c.args.entries.now in
    let test = is_entry c.args.rows in
    let is = sym (get_or_from_slice_get entries c.loop-place.place c.at.result c.at.result c.at.ensures) in
    let wrong : test (get_or entries c.loop-place.place c.at.result) ≡ false = ap test (sym is) ∙ sym c.is_entry.ensures
    ∙ c.if-not-is_entry.true in
    sym (list_all_at test entries c.loop-place.place c.at.result (omega (arith, c.len-count.ensures.len)) wrong)

pub loop-place-preserved : goal.loop-place-preserved
loop-place-preserved c =
    let entries = c.args.entries.now in
    let place = c.loop-place.place in
    let test = is_entry c.args.rows in
    elim c.else-place-count.branch [
      | else-place-count-via-then-place-count+else-not-is_entry w ↦
          let is = sym (get_or_from_slice_get entries place w.at.result w.at.result w.at.ensures) in
          let right : test (get_or entries place w.at.result) ≡ true = ap test (sym is) ∙ sym w.is_entry.ensures
          ∙ w.if-not-is_entry.false in
          list_all_more test entries place w.at.result (omega (arith, c.len-count.ensures.len, w.if-place-count.true))
          ∙ and_from _ _ c.loop-place.invariant right
      | else-place-count-via-else-place-count w ↦
          let past : length entries ≤ place = omega (arith, c.len-count.ensures.len, w.if-place-count.false) in
          ap (list_all test) (take_all (place + 1) entries (omega arith) ∙ sym (take_all place entries past))
          ∙ c.loop-place.invariant
    ]

pub returns : goal.returns
returns c =
    sym (ap (list_all (is_entry c.args.rows)) (sym (take_all c.loop-place.place c.args.entries.now (omega arith)))
    ∙ c.loop-place.invariant)
