use Rattle.std.proofs.Common.{◌≡◌, map, length, slice_get, ap, sym, ◌∙◌, arith}
use Rattle.std.proofs.lemmas.List.{length-map}
use Rattle.eve_history.specs.SectionHistory.{SectionHistory}
use Rattle.eve_history.specs.KeptSections.{KeptAttempt, kept_section, kept_attempt, kept_executed_attempt}
use Rattle.eve_history.proofs.Lookups.{get_mapped, get_is}
use Rattle.eve_history.proofs.history.History.transferred_before.Goals as goal

pub returns : goal.returns
returns c =
    let n = c.notes.result.now in
    let items = n.attempts.items in
    let x = c.index.result.now in
    let keep = kept_attempt n.bytes.now in
    let count : length c.args.self.now.attempts ≡ length items =
    ap (λ (v : SectionHistory). length v.attempts) (sym c.notes.ensures.tells)
    ∙ length-map (map keep items) (kept_executed_attempt (kept_section n).records) ∙ length-map items keep in
    ap (λ (v : SectionHistory). slice_get v.transferred c.args.i) (sym c.notes.ensures.tells)
    ∙ get_mapped (λ (a : KeptAttempt). a.transferred) (map keep items) c.args.i (keep x)
    (get_mapped keep items c.args.i x (get_is items c.args.i x (omega arith) c.index.ensures))
