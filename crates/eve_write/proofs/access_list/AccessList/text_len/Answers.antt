use Rattle.std.proofs.Common.{length, ap, arith}
use Rattle.std.specs.List.{flat_map}
use Rattle.eve_write.specs.AccessLists.{access_text}
use Rattle.eve_write.proofs.AccessLists.{length-texts}
use Rattle.eve_write.proofs.access_list.AccessList.text_len.Goals as goal

pub returns : goal.returns
returns c =
    let l = c.self.inside in
    omega (
      arith,
      c.len.ensures,
      l.notes.ok,
      c.len-2.ensures,
      l.entries.ok,
      c.saturating_mul-notes.ensures,
      c.saturating_mul.ensures,
      c.saturating_add.ensures,
      length-texts l.notes.items l.entries.items c.self.invariant.all,
      ap (λ xs. length (flat_map access_text xs)) c.self.view_is,
    )
