use Rattle.std.proofs.Common.{◌≡◌, ℕ, ◌+◌, ◌^◌, ◌<◌, ◌≤◌, map, length, get_or, drop, slice_get, vec_len, Some, ap, sym}
use Rattle.std.proofs.Common.{◌∙◌, arith, rules}
use Rattle.std.proofs.lemmas.List.{length-map, length-take}
use Rattle.eve_history.specs.declared.structure.Notes.{Notes}
use Rattle.eve_history.specs.declared.structure.Attempted.{Attempted}
use Rattle.eve_grammar.specs.Frames.{OfAccess}
use Rattle.eve_grammar.specs.Spelling.{frame_text}
use Rattle.eve_grammar.proofs.Lists.{all-slice_get}
use Rattle.eve_frames.specs.Views.{access_in}
use Rattle.eve_history.specs.SectionHistory.{ExecutedAttempt, SectionHistory}
use Rattle.eve_history.specs.FrameOffsets.{IsAccessAt}
use Rattle.eve_history.specs.KeptSections.{kept_section, kept_attempt, kept_executed_attempt, section_history_of}
use Rattle.eve_history.specs.KeptSections.{seen, IsWholeSection}
use Rattle.eve_history.proofs.Lookups.{get_mapped, get_is, get_in_part}
use Rattle.eve_history.proofs.LentFrames.{lent_ordered}
use Rattle.eve_history.proofs.history.History.ordered.Goals as goal

-- where an attempt's records are
record Here (n : Notes) (v : SectionHistory) (i place : ℕ) (x : Attempted) : Type 0 where
  told : slice_get v.attempts i ≡ Some (kept_executed_attempt (kept_section n).records (kept_attempt n.bytes.now x))
  short : place < length (kept_attempt n.bytes.now x).attempt.certificate
  within : x.from + length (kept_attempt n.bytes.now x).attempt.certificate ≤ length n.records.items

here : (n : Notes) (v : SectionHistory) (i place : ℕ) (x : Attempted)
    → section_history_of v.replica (kept_section n) ≡ v → IsWholeSection n
    → i < length v.attempts → ((r : ExecutedAttempt) → slice_get v.attempts i ≡ Some r → place < length r.ordered)
    → x ≡ get_or n.attempts.items i x → Here n v i place x
here n v i place x is whole lt short read =
    let items = n.attempts.items in
    let count : length v.attempts ≡ length items =
    ap (λ (v : SectionHistory). length v.attempts) (sym is) ∙ length-map (map (kept_attempt n.bytes.now) items)
    (kept_executed_attempt (kept_section n).records) ∙ length-map items (kept_attempt n.bytes.now) in
    let at : slice_get items i ≡ Some x = get_is items i x (omega arith) read in
    let one : slice_get (map (kept_attempt n.bytes.now) items) i ≡ Some (kept_attempt n.bytes.now x) =
    get_mapped (kept_attempt n.bytes.now) items i x at in
    let told : slice_get v.attempts i
    ≡ Some (kept_executed_attempt (kept_section n).records (kept_attempt n.bytes.now x)) =
    ap (λ (w : SectionHistory). slice_get w.attempts i) (sym is)
    ∙ get_mapped (kept_executed_attempt (kept_section n).records) (map (kept_attempt n.bytes.now) items) i
    (kept_attempt n.bytes.now x)
    one in
    let within = all-slice_get _ (map (kept_attempt n.bytes.now) items) i (kept_attempt n.bytes.now x) whole.kept.within
    one in
    let few = short (kept_executed_attempt (kept_section n).records (kept_attempt n.bytes.now x)) told in
    record {
      told = told;
      short = omega (
        arith,
        length-take (length (kept_attempt n.bytes.now x).attempt.certificate)
            (drop x.from (kept_section n).records),
      );
      within = omega (arith, within, length-map n.records.items (seen n.bytes.now));
    }

-- and the one at this place, where its frame begins
record IsThere (n : Notes) (place at : ℕ) : Type 0 where
  found : slice_get n.records.items place ≡ Some at
  begins : IsAccessAt n.bytes.now at

there : (n : Notes) (v : SectionHistory) (i place at : ℕ) (x : Attempted) → Here n v i place x → IsWholeSection n
    → at ≡ get_or n.records.items (x.from + place) at → IsThere n (x.from + place) at
there n v i place at x h whole read =
    let got = get_is n.records.items (x.from + place) at (omega (arith, h.short, h.within)) read in
    record {
      found = got;
      begins = all-slice_get (IsAccessAt n.bytes.now) n.records.items (x.from + place) at whole.framed.records got;
    }

pub overflow_add-from : goal.overflow_add-from
overflow_add-from c =
    let n = c.notes-notes.result.now in
    let h = here n c.args.self.now c.args.i c.args.place c.index.result.now c.notes-notes.ensures.tells
    c.notes-notes.ensures.whole c.requires.attempt c.requires.place c.index.ensures in
    let count : vec_len n.records ≡ length n.records.items = search rules in
    let small : vec_len n.records < 2 ^ 64 = search rules in
    record { fits = omega (arith, count, small, h.short, h.within) }

pub index-at-requires : goal.index-at-requires
index-at-requires c =
    let n = c.notes-notes.result.now in
    let h = here n c.args.self.now c.args.i c.args.place c.index.result.now c.notes-notes.ensures.tells
    c.notes-notes.ensures.whole c.requires.attempt c.requires.place c.index.ensures in
    let count : vec_len n.records ≡ length n.records.items = search rules in
    omega (arith, count, h.short, h.within)

pub access_at-requires : goal.access_at-requires
access_at-requires c =
    let n = c.notes-notes.result.now in
    let x = c.index.result.now in
    let h = here n c.args.self.now c.args.i c.args.place x c.notes-notes.ensures.tells c.notes-notes.ensures.whole
    c.requires.attempt c.requires.place c.index.ensures in
    (there n c.args.self.now c.args.i c.args.place c.index-at.result.now x h c.notes-notes.ensures.whole
    c.index-at.ensures).begins

pub returns-clause-says : goal.returns-clause-says
returns-clause-says c =
    let n = c.notes-notes.result.now in
    let x = c.index.result.now in
    let at = c.index-at.result.now in
    let a = kept_attempt n.bytes.now x in
    let h = here n c.args.self.now c.args.i c.args.place x c.notes-notes.ensures.tells c.notes-notes.ensures.whole
    c.requires.attempt c.requires.place c.index.ensures in
    let own = there n c.args.self.now c.args.i c.args.place at x h c.notes-notes.ensures.whole c.index-at.ensures in
    let is : seen n.bytes.now at ≡ (c.access_at.result.offset, access_in c.access_at.result.bytes.now) =
    λ i. (sym c.access_at.ensures.offset i, access_in (sym c.access_at.ensures.bytes i)) in (
      kept_executed_attempt (kept_section n).records a,
      h.told,
      get_in_part (kept_section n).records x.from (length a.attempt.certificate) c.args.place
          (seen n.bytes.now at) h.short
          (get_mapped (seen n.bytes.now) n.records.items (x.from + c.args.place) at own.found)
          ∙ ap Some is,
    )

pub returns-clause-text : goal.returns-clause-text
returns-clause-text c =
    let n = c.notes-notes.result.now in
    let x = c.index.result.now in
    let h = here n c.args.self.now c.args.i c.args.place x c.notes-notes.ensures.tells c.notes-notes.ensures.whole
    c.requires.attempt c.requires.place c.index.ensures in
    let own = there n c.args.self.now c.args.i c.args.place c.index-at.result.now x h c.notes-notes.ensures.whole
    c.index-at.ensures in
    c.access_at.ensures.bytes ∙ own.begins.text
    ∙ ap (λ b. frame_text (OfAccess (access_in b))) (sym c.access_at.ensures.bytes)

pub returns-clause-not_first : goal.returns-clause-not_first
returns-clause-not_first c =
    let n = c.notes-notes.result.now in
    let x = c.index.result.now in
    let h = here n c.args.self.now c.args.i c.args.place x c.notes-notes.ensures.tells c.notes-notes.ensures.whole
    c.requires.attempt c.requires.place c.index.ensures in
    let own = there n c.args.self.now c.args.i c.args.place c.index-at.result.now x h c.notes-notes.ensures.whole
    c.index-at.ensures in
    omega (arith, own.begins.framed.not_first, c.access_at.ensures.offset)

pub returns-clause-stands : goal.returns-clause-stands
returns-clause-stands c =
    let says = returns-clause-says c in
    λ t e is. lent_ordered t e c.args.i c.args.place c.access_at.result.offset c.args.self.now says.0
    c.access_at.result.bytes.now is says.1 says.2 (returns-clause-not_first c) (returns-clause-text c)
