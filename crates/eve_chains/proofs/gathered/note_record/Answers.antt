use Rattle.std.proofs.Common.{◌≡◌, ◌++◌, ◌∷◌, [], ℕ, List, map, sym, ap, ◌∙◌, append-nil, arith}
use Rattle.std.proofs.lemmas.List.{take_all, map-append}
use Rattle.eve_smallbank.specs.declared.entry.Entry.{Entry}
use Rattle.eve_frames.specs.Decoded.{access_decoded}
use Rattle.eve_chains.specs.inner.Gathered.{as_noted, noted_of_entry}
use Rattle.eve_chains.proofs.ByRow.{entry_within, one_more}
use Rattle.eve_chains.proofs.gathered.note_record.Goals as goal

pub loop-place-init : goal.loop-place-init
loop-place-init c = sym (append-nil (map as_noted c.args.notes.now.items))

pub note_of-requires : goal.note_of-requires
note_of-requires c = (
  c.requires.within.0,
  entry_within c.requires.within.0 (access_decoded c.args.access.now).entries c.loop-place.place c.entry.result
      c.requires.within.1 c.entry.ensures,
)

pub loop-place-preserved : goal.loop-place-preserved
loop-place-preserved c =
    let old = map as_noted c.args.notes.now.items in
    let es = (access_decoded c.args.access.now).entries in
    let f = noted_of_entry c.args.noting c.args.access.now.offset in
    let k = c.loop-place.place in
    let new : as_noted c.note_of.result ≡ f c.entry.result =
    c.note_of.ensures ∙ ap (λ (at : ℕ). noted_of_entry c.args.noting at c.entry.result) c.offset-at.ensures in
    ap (map as_noted) c.in_ok-push.ensures.items
    ∙ map-append as_noted c.loop-place.notes.items (c.note_of.result ∷ [])
    ∙ (λ i. c.loop-place.invariant i ++ new i ∷ [])
    ∙ one_more f old es k c.entry.result c.entry.ensures

pub returns : goal.returns
returns c = c.loop-place.invariant
    ∙ ap (λ (es : List Entry). map as_noted c.args.notes.now.items
    ++ map (noted_of_entry c.args.noting c.args.access.now.offset) es)
    (take_all c.loop-place.place (access_decoded c.args.access.now).entries
    (omega (arith, c.loop-place-test.false, c.len-place-end.ensures.len)))
