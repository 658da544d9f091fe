use Rattle.std.proofs.Common.{◌≡◌, ℕ, ℤ, List, map, take, length, refl, sym, ap, ◌∙◌}
use Rattle.std.proofs.lemmas.Bool.{false≢true}
use Rattle.std.proofs.lemmas.List.{length-map}
use Rattle.eve_smallbank.specs.declared.entry.Entry.{Entry}
use Rattle.eve_smallbank.specs.SmallBank.{plain}
use Rattle.eve_smallbank.specs.Access.{Executed}
use Rattle.eve_smallbank.specs.Decide.{effect_in}
use Rattle.eve_grammar.specs.Trace.{Trace}
use Rattle.eve_frames.specs.Decoded.{access_decoded}
use Rattle.eve_chains.specs.Records.{recorded}
use Rattle.eve_evidence.specs.declared.evidence.RecordFault.{RecordFault}
use Rattle.eve_evidence.specs.Record.{rows_noted, IsDueRecord, IsRecordFault}
use Rattle.eve_evidence.proofs.Lists.{if_none, if_some}
use Rattle.eve_evidence.proofs.DueRecords.{due_record, due_effects, is_due, fits_alike}
use Rattle.eve_evidence.proofs.record.record_fault.Goals as goal

pub returns-then-is_some-2-clause-told : goal.returns-then-is_some-2-clause-told
returns-then-is_some-2-clause-told c =
    let es = (access_decoded c.args.access.now).entries in
    let request = plain c.args.request.now in
    let names = c.args.names.now.items in
    let rows = c.rows-rows.result in
    let values : List ℤ = take c.len-count.result c.values_seen-seen.result in
    let d = c.decide-decision.result in
    let count : length es ≡ length rows = sym c.len-count.ensures.len ∙ c.if-count-len.false ∙ c.len.ensures.len in
    let same_rows : rows_noted es ≡ map (λ r. r.0) rows =
    if_none c.row_fault-wrong.result (rows_noted es ≡ map (λ r. r.0) rows) c.if-is_some.ensures
    c.row_fault-wrong.ensures.same in
    let values_is : values ≡ map (λ e. e.seen) es =
    ap (λ (n : ℕ). take n c.values_seen-seen.result) c.len-count.ensures.len ∙ c.values_seen-seen.ensures in
    let versions : length (map (λ (e : Entry). e.version) es) ≡ length values =
    length-map es (λ (e : Entry). e.version) ∙ sym (length-map es (λ (e : Entry). e.seen)) ∙ ap length
    (sym values_is) in
    let fits = c.decide-decision.ensures.fits names (map (λ e. e.version) es) c.touched-touched.ensures versions in
    let x = recorded request c.args.reply es in
    if_some c.effect_fault-wrong.result
    (λ (w : RecordFault). (t : Trace) (ns : List (List ℕ)) (y due : Executed) → y.entries ≡ es → IsDueRecord ns y due
    → map effect_in due.entries ≡ d.effects → IsRecordFault t ns y w)
    (IsRecordFault c.args.trace.now names x)
    (λ w told. told c.args.trace.now names x
    (due_record names request c.args.reply es rows c.touched-touched.result values d c.rows-rows.ensures count
    same_rows values_is
    c.decide-decision.ensures.each fits) refl
    (is_due names request c.args.reply es rows c.touched-touched.result values d c.rows-rows.ensures count same_rows
    values_is
    c.decide-decision.ensures.each fits)
    (due_effects names request c.args.reply es rows c.touched-touched.result values d c.rows-rows.ensures count
    same_rows values_is
    c.decide-decision.ensures.each fits))
    c.effect_fault-wrong.ensures.told

pub returns-then-is_same-clause-fits : goal.returns-then-is_same-clause-fits
returns-then-is_same-clause-fits c =
    let es = (access_decoded c.args.access.now).entries in
    let request = plain c.args.request.now in
    let names = c.args.names.now.items in
    let rows = c.rows-rows.result in
    let values : List ℤ = take c.len-count.result c.values_seen-seen.result in
    let d = c.decide-decision.result in
    let count : length es ≡ length rows = sym c.len-count.ensures.len ∙ c.if-count-len.false ∙ c.len.ensures.len in
    let same_rows : rows_noted es ≡ map (λ r. r.0) rows =
    if_none c.row_fault-wrong.result (rows_noted es ≡ map (λ r. r.0) rows) c.if-is_some.ensures
    c.row_fault-wrong.ensures.same in
    let values_is : values ≡ map (λ e. e.seen) es =
    ap (λ (n : ℕ). take n c.values_seen-seen.result) c.len-count.ensures.len ∙ c.values_seen-seen.ensures in
    let versions : length (map (λ (e : Entry). e.version) es) ≡ length values =
    length-map es (λ (e : Entry). e.version) ∙ sym (length-map es (λ (e : Entry). e.seen)) ∙ ap length
    (sym values_is) in
    let fits = c.decide-decision.ensures.fits names (map (λ e. e.version) es) c.touched-touched.ensures versions in
    let same : map effect_in es ≡ d.effects =
    if_none c.effect_fault-wrong.result (map effect_in es ≡ d.effects) c.if-is_some-2.ensures
    c.effect_fault-wrong.ensures.same in
    fits_alike names request c.args.reply es rows c.touched-touched.result values d c.rows-rows.ensures count same_rows
    values_is
    c.decide-decision.ensures.each fits same
    (c.is_same.ensures.0 c.if-is_same.true)

pub returns-clause-told : goal.returns-clause-told
returns-clause-told c =
    let es = (access_decoded c.args.access.now).entries in
    let request = plain c.args.request.now in
    let names = c.args.names.now.items in
    let rows = c.rows-rows.result in
    let values : List ℤ = take c.len-count.result c.values_seen-seen.result in
    let d = c.decide-decision.result in
    let count : length es ≡ length rows = sym c.len-count.ensures.len ∙ c.if-count-len.false ∙ c.len.ensures.len in
    let same_rows : rows_noted es ≡ map (λ r. r.0) rows =
    if_none c.row_fault-wrong.result (rows_noted es ≡ map (λ r. r.0) rows) c.if-is_some.ensures
    c.row_fault-wrong.ensures.same in
    let values_is : values ≡ map (λ e. e.seen) es =
    ap (λ (n : ℕ). take n c.values_seen-seen.result) c.len-count.ensures.len ∙ c.values_seen-seen.ensures in
    let versions : length (map (λ (e : Entry). e.version) es) ≡ length values =
    length-map es (λ (e : Entry). e.version) ∙ sym (length-map es (λ (e : Entry). e.seen)) ∙ ap length
    (sym values_is) in
    let fits = c.decide-decision.ensures.fits names (map (λ e. e.version) es) c.touched-touched.ensures versions in
    let same : map effect_in es ≡ d.effects =
    if_none c.effect_fault-wrong.result (map effect_in es ≡ d.effects) c.if-is_some-2.ensures
    c.effect_fault-wrong.ensures.same in (
      due_record names request c.args.reply es rows c.touched-touched.result values d c.rows-rows.ensures count
          same_rows values_is
          c.decide-decision.ensures.each fits,
      is_due names request c.args.reply es rows c.touched-touched.result values d c.rows-rows.ensures count same_rows
          values_is
          c.decide-decision.ensures.each fits,
      same ∙ sym (due_effects names request c.args.reply es rows c.touched-touched.result values d c.rows-rows.ensures
          count same_rows values_is
          c.decide-decision.ensures.each fits),
      refl,
      refl,
      λ e. false≢true (sym c.if-is_same.false ∙ c.is_same.ensures.1 (sym e)),
    )
