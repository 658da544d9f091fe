use Rattle.std.proofs.Common.{◌≡◌, Bool, false, true, get_or, sym, ap, ◌∙◌}
use Rattle.std.proofs.lemmas.List.{take_all}
use Rattle.std.proofs.lemmas.List.Folds.{list_all_at, list_all_more, list_all-map}
use Rattle.std.proofs.lemmas.Bool.{and_from}
use Rattle.std.specs.List.{list_all}
use Rattle.eve_grammar.specs.Limits.{is_access}
use Rattle.eve_stamps.specs.Applied.{Applied}
use Rattle.eve_attempts.specs.ClosedAttempts.{access_noted}
use Rattle.eve_attempts.proofs.noted.are_accesses.Goals as goal

pub returns-then-not-is_access : goal.returns-then-not-is_access
returns-then-not-is_access c =
    let test : Applied → Bool = λ r. is_access c.args.rows (access_noted r) in
    let records = c.args.records.now in
    let wrong : test (get_or records c.loop-record.record-index c.record-item.result) ≡ false =
    ap test (sym c.record-item.is) ∙ sym c.is_access.ensures ∙ c.if-not-is_access.true in
    sym (list_all-map (is_access c.args.rows) access_noted records
    ∙ list_all_at test records c.loop-record.record-index c.record-item.result c.loop-record-test.true wrong)

pub loop-record-preserved : goal.loop-record-preserved
loop-record-preserved c =
    let test : Applied → Bool = λ r. is_access c.args.rows (access_noted r) in
    let records = c.args.records.now in
    let right : test (get_or records c.loop-record.record-index c.record-item.result) ≡ true =
    ap test (sym c.record-item.is) ∙ sym c.is_access.ensures ∙ c.if-not-is_access.false in
    list_all_more test records c.loop-record.record-index c.record-item.result c.loop-record-test.true
    ∙ and_from _ _ c.loop-record.invariant right

pub returns : goal.returns
returns c =
    let test : Applied → Bool = λ r. is_access c.args.rows (access_noted r) in
    sym (list_all-map (is_access c.args.rows) access_noted c.args.records.now
    ∙ ap (list_all test) (sym (take_all c.loop-record.record-index c.args.records.now c.loop-record-test.false))
    ∙ c.loop-record.invariant)
