use Rattle.std.proofs.Common.{◌≡◌, ℕ, ◌<◌, length, get_or, slice_get, Some, ap, sym, ◌∙◌, arith}
use Rattle.std.proofs.lemmas.List.{length-map}
use Rattle.eve_grammar.specs.Frames.{OfTransfer}
use Rattle.eve_grammar.specs.Spelling.{frame_text}
use Rattle.eve_grammar.proofs.Lists.{all-slice_get}
use Rattle.eve_frames.specs.Views.{transfer_in}
use Rattle.eve_history.specs.declared.structure.Notes.{Notes}
use Rattle.eve_history.specs.FrameOffsets.{IsTransferAt}
use Rattle.eve_history.specs.SectionHistory.{SectionHistory}
use Rattle.eve_history.specs.KeptSections.{kept_section, was_transferred, section_history_of}
use Rattle.eve_history.proofs.LentFrames.{lent_transfer}
use Rattle.eve_history.proofs.Lookups.{get_mapped, get_is}
use Rattle.eve_history.proofs.history.History.transfer.Goals as goal

-- where the state was found
found : (e : ℕ) (n : Notes) (v : SectionHistory) (i at : ℕ) → section_history_of e (kept_section n) ≡ v
    → i < length v.transfers
    → at ≡ get_or n.transfers.items i at → slice_get n.transfers.items i ≡ Some at
found e n v i at is lt read =
    let count : length v.transfers ≡ length n.transfers.items = ap (λ (v : SectionHistory). length v.transfers) (sym is)
    ∙ length-map n.transfers.items (was_transferred n.bytes.now) in
    get_is n.transfers.items i at (omega arith) read

pub transfer_at-requires : goal.transfer_at-requires
transfer_at-requires c =
    let n = c.notes-notes.result.now in
    all-slice_get (IsTransferAt n.bytes.now) n.transfers.items c.args.i c.index.result.now
    c.notes-notes.ensures.whole.framed.transfers
    (found c.args.self.now.replica n c.args.self.now c.args.i c.index.result.now c.notes-notes.ensures.tells c.requires
    c.index.ensures)

pub returns-clause-says : goal.returns-clause-says
returns-clause-says c =
    let n = c.notes-notes.result.now in
    let at = c.index.result.now in
    ap (λ (v : SectionHistory). slice_get v.transfers c.args.i) (sym c.notes-notes.ensures.tells)
    ∙ get_mapped (was_transferred n.bytes.now) n.transfers.items c.args.i at
    (found c.args.self.now.replica n c.args.self.now c.args.i at c.notes-notes.ensures.tells c.requires c.index.ensures)
    ∙ (λ i. Some (sym c.transfer_at.ensures.offset i, transfer_in (sym c.transfer_at.ensures.bytes i)))

pub returns-clause-text : goal.returns-clause-text
returns-clause-text c =
    let n = c.notes-notes.result.now in
    let there = all-slice_get (IsTransferAt n.bytes.now) n.transfers.items c.args.i c.index.result.now
    c.notes-notes.ensures.whole.framed.transfers
    (found c.args.self.now.replica n c.args.self.now c.args.i c.index.result.now c.notes-notes.ensures.tells c.requires
    c.index.ensures) in
    c.transfer_at.ensures.bytes ∙ there.text ∙ ap (λ b. frame_text (OfTransfer (transfer_in b)))
    (sym c.transfer_at.ensures.bytes)

pub returns-clause-stands : goal.returns-clause-stands
returns-clause-stands c =
    λ t e is. lent_transfer t e c.args.i c.transfer_at.result.offset c.args.self.now c.transfer_at.result.bytes.now is
    (returns-clause-says c) (returns-clause-text c)
