use Rattle.std.proofs.Common.{◌≡◌, ℕ, ◌<◌, length, get_or, slice_get, Some, ap, sym, ◌∙◌, arith}
use Rattle.std.proofs.lemmas.List.{length-map}
use Rattle.eve_grammar.specs.Frames.{OfRollback}
use Rattle.eve_grammar.specs.Spelling.{frame_text}
use Rattle.eve_grammar.proofs.Lists.{all-slice_get}
use Rattle.eve_frames.specs.Views.{rollback_in}
use Rattle.eve_history.specs.declared.structure.Notes.{Notes}
use Rattle.eve_history.specs.FrameOffsets.{IsRollbackAt}
use Rattle.eve_history.specs.SectionHistory.{SectionHistory}
use Rattle.eve_history.specs.KeptSections.{kept_section, rolled, section_history_of}
use Rattle.eve_history.proofs.LentFrames.{lent_rollback}
use Rattle.eve_history.proofs.Lookups.{get_mapped, get_is}
use Rattle.eve_history.proofs.history.History.rollback.Goals as goal

-- where the rollback was found
found : (e : ℕ) (n : Notes) (v : SectionHistory) (i at : ℕ) → section_history_of e (kept_section n) ≡ v
    → i < length v.rollbacks
    → at ≡ get_or n.rollbacks.items i at → slice_get n.rollbacks.items i ≡ Some at
found e n v i at is lt read =
    let count : length v.rollbacks ≡ length n.rollbacks.items = ap (λ (v : SectionHistory). length v.rollbacks) (sym is)
    ∙ length-map n.rollbacks.items (rolled n.bytes.now) in
    get_is n.rollbacks.items i at (omega arith) read

pub rollback_at-requires : goal.rollback_at-requires
rollback_at-requires c =
    let n = c.notes-notes.result.now in
    all-slice_get (IsRollbackAt n.bytes.now) n.rollbacks.items c.args.i c.index.result.now
    c.notes-notes.ensures.whole.framed.rollbacks
    (found c.args.self.now.replica n c.args.self.now c.args.i c.index.result.now c.notes-notes.ensures.tells c.requires
    c.index.ensures)

pub returns-clause-says : goal.returns-clause-says
returns-clause-says c =
    let n = c.notes-notes.result.now in
    let at = c.index.result.now in
    ap (λ (v : SectionHistory). slice_get v.rollbacks c.args.i) (sym c.notes-notes.ensures.tells)
    ∙ get_mapped (rolled n.bytes.now) n.rollbacks.items c.args.i at
    (found c.args.self.now.replica n c.args.self.now c.args.i at c.notes-notes.ensures.tells c.requires c.index.ensures)
    ∙ (λ i. Some (sym c.rollback_at.ensures.offset i, rollback_in (sym c.rollback_at.ensures.bytes i)))

pub returns-clause-text : goal.returns-clause-text
returns-clause-text c =
    let n = c.notes-notes.result.now in
    let there = all-slice_get (IsRollbackAt n.bytes.now) n.rollbacks.items c.args.i c.index.result.now
    c.notes-notes.ensures.whole.framed.rollbacks
    (found c.args.self.now.replica n c.args.self.now c.args.i c.index.result.now c.notes-notes.ensures.tells c.requires
    c.index.ensures) in
    c.rollback_at.ensures.bytes ∙ there.text ∙ ap (λ b. frame_text (OfRollback (rollback_in b)))
    (sym c.rollback_at.ensures.bytes)

pub returns-clause-stands : goal.returns-clause-stands
returns-clause-stands c =
    λ t e is. lent_rollback t e c.args.i c.rollback_at.result.offset c.args.self.now c.rollback_at.result.bytes.now is
    (returns-clause-says c) (returns-clause-text c)
