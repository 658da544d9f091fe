use Rattle.std.proofs.Common.{length, ap, arith}
use Rattle.eve_write.proofs.AccessLists.{length-accesses}
use Rattle.eve_write.proofs.access_list.AccessList.len.Goals as goal

pub returns : goal.returns
returns c =
    let l = c.self.inside in
    omega (
      arith,
      c.len.ensures,
      l.notes.ok,
      length-accesses l.notes.items l.entries.items,
      ap length c.self.view_is,
    )
