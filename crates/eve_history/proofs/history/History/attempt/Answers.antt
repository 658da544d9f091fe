use Rattle.std.proofs.Common.{◌≡◌, map, length, slice_get, Some, ap, sym, subst, ◌∙◌, arith}
use Rattle.std.proofs.lemmas.List.{length-map}
use Rattle.eve_grammar.specs.Frames.{OfAttempt}
use Rattle.eve_grammar.specs.Spelling.{frame_text}
use Rattle.eve_grammar.proofs.Lists.{all-slice_get}
use Rattle.eve_frames.specs.Views.{attempt_in}
use Rattle.eve_history.specs.FrameOffsets.{IsAttemptAt}
use Rattle.eve_history.specs.SectionHistory.{ExecutedAttempt, SectionHistory}
use Rattle.eve_history.specs.KeptSections.{kept_section, kept_attempt, kept_executed_attempt}
use Rattle.eve_history.proofs.LentFrames.{lent_attempt}
use Rattle.eve_history.proofs.Lookups.{get_mapped, get_is, part_length}
use Rattle.eve_history.proofs.history.History.attempt.Goals as goal

pub attempt_at-requires : goal.attempt_at-requires
attempt_at-requires c =
    let n = c.notes-notes.result.now in
    let items = n.attempts.items in
    let x = c.index.result.now in
    let count : length c.args.self.now.attempts ≡ length items =
    ap (λ (v : SectionHistory). length v.attempts) (sym c.notes-notes.ensures.tells)
    ∙ length-map (map (kept_attempt n.bytes.now) items)
    (kept_executed_attempt (kept_section n).records) ∙ length-map items (kept_attempt n.bytes.now) in
    all-slice_get (λ a. IsAttemptAt n.bytes.now a.at) items c.args.i x c.notes-notes.ensures.whole.framed.attempts
    (get_is items c.args.i x (omega arith) c.index.ensures)

pub returns-clause-says : goal.returns-clause-says
returns-clause-says c =
    let n = c.notes-notes.result.now in
    let items = n.attempts.items in
    let x = c.index.result.now in
    let a = kept_attempt n.bytes.now x in
    let count : length c.args.self.now.attempts ≡ length items =
    ap (λ (v : SectionHistory). length v.attempts) (sym c.notes-notes.ensures.tells)
    ∙ length-map (map (kept_attempt n.bytes.now) items)
    (kept_executed_attempt (kept_section n).records) ∙ length-map items (kept_attempt n.bytes.now) in
    let at : slice_get items c.args.i ≡ Some x = get_is items c.args.i x (omega arith) c.index.ensures in
    let one : slice_get (map (kept_attempt n.bytes.now) items) c.args.i ≡ Some a =
    get_mapped (kept_attempt n.bytes.now) items c.args.i x at in
    let many : length (kept_executed_attempt (kept_section n).records a).ordered ≡ length a.attempt.certificate =
    part_length (kept_section n).records x.from (length a.attempt.certificate)
    (all-slice_get _ (map (kept_attempt n.bytes.now) items) c.args.i a c.notes-notes.ensures.whole.kept.within one) in
    subst (λ (v : SectionHistory).
    (r : ExecutedAttempt) × (slice_get v.attempts c.args.i ≡ Some r) × (c.attempt_at.result.offset ≡ r.offset)
    × (attempt_in c.attempt_at.result.bytes.now ≡ r.attempt) × (length r.ordered ≡ length r.attempt.certificate))
    c.notes-notes.ensures.tells (
      kept_executed_attempt (kept_section n).records a,
      get_mapped (kept_executed_attempt (kept_section n).records) (map (kept_attempt n.bytes.now) items) c.args.i
          a one,
      c.attempt_at.ensures.offset,
      ap attempt_in c.attempt_at.ensures.bytes,
      many,
    )

pub returns-clause-text : goal.returns-clause-text
returns-clause-text c =
    let n = c.notes-notes.result.now in
    let items = n.attempts.items in
    let x = c.index.result.now in
    let count : length c.args.self.now.attempts ≡ length items =
    ap (λ (v : SectionHistory). length v.attempts) (sym c.notes-notes.ensures.tells)
    ∙ length-map (map (kept_attempt n.bytes.now) items)
    (kept_executed_attempt (kept_section n).records) ∙ length-map items (kept_attempt n.bytes.now) in
    let at : slice_get items c.args.i ≡ Some x = get_is items c.args.i x (omega arith) c.index.ensures in
    let there = all-slice_get (λ a. IsAttemptAt n.bytes.now a.at) items c.args.i x
    c.notes-notes.ensures.whole.framed.attempts at in
    c.attempt_at.ensures.bytes ∙ there.text ∙ ap (λ b. frame_text (OfAttempt (attempt_in b)))
    (sym c.attempt_at.ensures.bytes)

pub returns-clause-stands : goal.returns-clause-stands
returns-clause-stands c =
    let says = returns-clause-says c in
    λ t e is. lent_attempt t e c.args.i c.attempt_at.result.offset c.args.self.now says.0 c.attempt_at.result.bytes.now
    is says.1 says.2 says.3 (returns-clause-text c)
