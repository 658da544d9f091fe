use Rattle.std.proofs.Common.{length, take, drop, get_or, refl, sym, subst, ap, ◌∙◌, arith}
use Rattle.std.proofs.lemmas.List.{take_all}
use Rattle.std.specs.List.{flat_map}
use Rattle.eve_write.specs.Writes.{Wrote, Stopped, Writes}
use Rattle.eve_write.specs.declared.access_list.AccessNote.{AccessNote}
use Rattle.eve_write.specs.AccessLists.{accesses_listed, access_text}
use Rattle.eve_write.proofs.JoinedWrites.{Writes-at_err}
use Rattle.eve_write.proofs.GatheredTexts.{AreGathered, gathered-none, gathered-sent, gathered-more, gathered-stopped}
use Rattle.eve_write.proofs.GatheredTexts.{gathered-at, gathered-whole}
use Rattle.eve_write.proofs.AccessLists.{ShareEntries-same, accesses-at, length-accesses, left-behind, noted}
use Rattle.eve_write.proofs.AccessLists.{note-within}
use Rattle.eve_write.proofs.access_list.write_accesses.Goals.{then-len+in_ok-send, else-len}
use Rattle.eve_write.proofs.access_list.write_accesses.Goals as goal

-- no note
abbrev none : AccessNote
none = record { worker = 0; count = 0; place = 0; index = 0 }

pub loop-note-init : goal.loop-note-init
loop-note-init g c = (refl, gathered-none _ _ _ _ _ _ c.new-texts.ensures)

pub returns-in_err-send : goal.returns-in_err-send
returns-in_err-send g c =
    let same = ap (λ ns. accesses_listed ns c.as_slice-left.result.now) c.as_slice-note-items.ensures.value
    ∙ ap (accesses_listed c.list.inside.notes.items) c.as_slice-left.ensures.value ∙ c.list.view_is in
    let stopped = subst (Stopped g.W.Sink.written g.W.Sink.failures c.loop-note.out c.send.new.out)
    c.as_slice.ensures.value c.in_err-send.ensures in
    Writes-at_err _ _ _ _ _ c.from_residual.result c.from_residual.ensures.0
    (subst (λ xs. Stopped g.W.Sink.written g.W.Sink.failures c.args.out.now c.send.new.out (flat_map access_text xs))
    same (gathered-stopped c.loop-note.invariant.1 stopped))

pub split_at-requires : goal.split_at-requires
split_at-requires g c =
    let are = ShareEntries-same c.as_slice-note-items.ensures.value c.as_slice-left.ensures.value c.list.invariant in
    omega (
      arith,
      note-within _ c.as_slice-left.result.now c.loop-note.note-index none are c.loop-note-test.true,
      ap length c.loop-note.invariant.0,
    )

pub loop-note-preserved : goal.loop-note-preserved
loop-note-preserved g c =
    let notes = c.as_slice-note-items.result.now in
    let entries = c.as_slice-left.result.now in
    let i = c.loop-note.note-index in
    let within = c.loop-note-test.true in
    let room : AreGathered g.W.Sink.written g.W.Sink.failures access_text (accesses_listed notes entries) c.args.out.now
    c.if-len.out i c.if-len.texts.items =
    elim c.if-len.branch [
      | then-len+in_ok-send w ↦
          let wrote = subst (Wrote g.W.Sink.written g.W.Sink.failures c.loop-note.out w.send.new.out)
          w.as_slice.ensures.value w.in_ok-send.ensures in
          gathered-at w.out-is (ap (λ t. t.items) w.texts-is)
          (gathered-sent c.loop-note.invariant.1 wrote w.clear.ensures)
      | else-len w ↦ gathered-at w.out-is (ap (λ t. t.items) w.texts-is) c.loop-note.invariant.1
    ] in
    let note = get_or notes i none in
    let x = noted note c.split_at.result.0.now in
    let own = c.split_at.ensures.front ∙ ap (take note.count) c.loop-note.invariant.0 in
    let is = ap (noted note) own ∙ sym (accesses-at notes entries i none x within) in (
      c.split_at.ensures.back ∙ ap (drop note.count) c.loop-note.invariant.0
          ∙ left-behind notes entries i none within,
      gathered-more x (omega (arith, within, length-accesses notes entries)) is room c.put_access.ensures,
    )

pub returns : goal.returns
returns g c =
    let notes = c.as_slice-note-items.result.now in
    let entries = c.as_slice-left.result.now in
    let same = ap (λ ns. accesses_listed ns entries) c.as_slice-note-items.ensures.value
    ∙ ap (accesses_listed c.list.inside.notes.items) c.as_slice-left.ensures.value ∙ c.list.view_is in
    let last = subst (Writes g.W.Sink.written g.W.Sink.failures c.loop-note.out c.send-2.new.out c.send-2.result)
    c.as_slice-2.ensures.value c.send-2.ensures in
    let whole = take_all c.loop-note.note-index (accesses_listed notes entries)
    (omega (arith, c.loop-note-test.false, length-accesses notes entries)) in
    subst (λ xs. Writes g.W.Sink.written g.W.Sink.failures c.args.out.now c.send-2.new.out c.send-2.result
    (flat_map access_text xs)) same
    (gathered-whole c.send-2.new.out c.send-2.result whole c.loop-note.invariant.1 last)
