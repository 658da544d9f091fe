use Rattle.std.proofs.Common.{◌≡◌, length, ap, arith, rules}
use Rattle.std.proofs.lemmas.List.{length-map}
use Rattle.eve_write.specs.Data.{customer}
use Rattle.eve_workload.proofs.DraftLines.{batches_kept, line_count}
use Rattle.eve_workload.proofs.draft.Draft.next_line.Goals as goal

pub returns : goal.returns
returns c = λ before keeps.
    let customers : c.len.result ≡ length c.args.self.now.customers.items = search rules in
    let batches : c.len-2.result ≡ length c.args.self.now.batches.items = search rules in
    omega (
      arith,
      line_count c.args.self.now.format before keeps.right,
      c.next_line-first.ensures.next before keeps.last,
      length-map c.args.self.now.customers.items customer,
      ap length keeps.customers,
      batches_kept c.args.self.now before keeps,
      keeps.requests,
    )
