use Rattle.std.proofs.Common.{ℕ, Bool, [], map, length, sym, ap, subst, ◌∙◌}
use Rattle.std.specs.Bool.{Decides}
use Rattle.std.proofs.lemmas.Bool.{false≢true}
use Rattle.eve_write.specs.Data.{batch as plain}
use Rattle.eve_attempts.specs.ClosedAttempts.{access_noted, are_right_records, AreNoted}
use Rattle.eve_attempts.proofs.NotedRecords.{accesses_below, decides_noted, not_noted}
use Rattle.eve_attempts.proofs.noted.are_noted.Goals as goal

pub are_fitting-requires-clause-indexes : goal.are_fitting-requires-clause-indexes
are_fitting-requires-clause-indexes c =
    let rs = c.args.noted.records.now in
    accesses_below c.args.workers (length (plain c.args.noted.batch.now).requests) [] rs
    (ap (λ (n : ℕ). are_right_records c.args.workers n [] (map access_noted rs))
    (sym c.count_of-count.ensures) ∙ sym c.are_right_accesses.ensures ∙ c.if-not-are_right_accesses.false)

pub returns-then-records-count : goal.returns-then-records-count
returns-then-records-count c =
    let b = plain c.args.noted.batch.now in
    let touched = c.args.noted.touched.now in
    let rs = c.args.noted.records.now in
    elim c.then-records-count.branch [
      | goal.then-records-count-via-then-records-count w ↦
          not_noted c.args.workers c.args.rows b touched rs
          (λ noted. w.if-records-count.true (noted.many ∙ sym c.count_of-count.ensures))
      | goal.then-records-count-via-else-records-count+then-not-are_right_accesses w ↦
          not_noted c.args.workers c.args.rows b touched rs
          (λ noted. false≢true (sym w.if-not-are_right_accesses.true ∙ w.are_right_accesses.ensures
          ∙ ap (λ (n : ℕ). are_right_records c.args.workers n [] (map access_noted rs))
          c.count_of-count.ensures ∙ noted.accesses))
    ]

pub returns-then-are_accesses : goal.returns-then-are_accesses
returns-then-are_accesses c =
    let rs = c.args.noted.records.now in
    decides_noted c.args.workers c.args.rows (plain c.args.noted.batch.now) c.args.noted.touched.now rs
    c.requires.touched (c.if-records-count.false ∙ c.count_of-count.ensures)
    (ap (λ (n : ℕ). are_right_records c.args.workers n [] (map access_noted rs))
    (sym c.count_of-count.ensures) ∙ sym c.are_right_accesses.ensures ∙ c.if-not-are_right_accesses.false)
    c.are_fitting.result (sym c.are_accesses.ensures ∙ c.if-are_accesses.true) c.are_fitting.ensures

pub returns-else-are_accesses : goal.returns-else-are_accesses
returns-else-are_accesses c =
    let b = plain c.args.noted.batch.now in
    let touched = c.args.noted.touched.now in
    let rs = c.args.noted.records.now in
    subst (λ (x : Bool). Decides x (AreNoted c.args.workers c.args.rows b touched rs)) (sym c.if-are_accesses.false)
    (not_noted c.args.workers c.args.rows b touched rs
    (λ noted. false≢true (sym c.if-are_accesses.false ∙ c.are_accesses.ensures ∙ noted.limits)))
