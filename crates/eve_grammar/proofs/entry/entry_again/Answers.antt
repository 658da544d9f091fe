use Rattle.std.proofs.Common.{refl, ◌∙◌, arith}
use Rattle.eve_grammar.proofs.RereadEntries.{entry_stands, entry_known}
use Rattle.eve_grammar.proofs.entry.entry_again.Goals as goal

pub u32_in-requires : goal.u32_in-requires
u32_in-requires c =
    omega (arith, (entry_known c.args.bytes.now (λ i. omega (arith, c.type_inv.bytes i)) c.requires).long)

pub row_of-requires : goal.row_of-requires
row_of-requires c =
    let s = entry_known c.args.bytes.now (λ i. omega (arith, c.type_inv.bytes i)) c.requires in
    omega (arith, s.row, c.u32_in.ensures, c.requires.1)

pub bounds-bytes-4 : goal.bounds-bytes-4
bounds-bytes-4 c =
    omega (arith, (entry_known c.args.bytes.now (λ i. omega (arith, c.type_inv.bytes i)) c.requires).long)

pub kind_again-requires : goal.kind_again-requires
kind_again-requires c =
    (entry_known c.args.bytes.now (λ i. omega (arith, c.type_inv.bytes i)) c.requires).coded

pub u64_in-requires : goal.u64_in-requires
u64_in-requires c =
    omega (arith, (entry_known c.args.bytes.now (λ i. omega (arith, c.type_inv.bytes i)) c.requires).long)

pub cents_again-requires-clause-there : goal.cents_again-requires-clause-there
cents_again-requires-clause-there c =
    omega (arith, (entry_known c.args.bytes.now (λ i. omega (arith, c.type_inv.bytes i)) c.requires).long)

pub cents_again-requires-clause-within : goal.cents_again-requires-clause-within
cents_again-requires-clause-within c =
    (entry_known c.args.bytes.now (λ i. omega (arith, c.type_inv.bytes i)) c.requires).seen

pub cents_again-requires-2-clause-there : goal.cents_again-requires-2-clause-there
cents_again-requires-2-clause-there c =
    (entry_known c.args.bytes.now (λ i. omega (arith, c.type_inv.bytes i)) c.requires).long

pub cents_again-requires-2-clause-within : goal.cents_again-requires-2-clause-within
cents_again-requires-2-clause-within c =
    (entry_known c.args.bytes.now (λ i. omega (arith, c.type_inv.bytes i)) c.requires).after

pub bytes_from-requires : goal.bytes_from-requires
bytes_from-requires c =
    (entry_known c.args.bytes.now (λ i. omega (arith, c.type_inv.bytes i)) c.requires).long

pub returns : goal.returns
returns c = λ rows there.
    (entry_stands rows c.args.bytes.now (λ i. omega (arith, c.type_inv.bytes i)) there).is c.kind_again.result
    c.kind_again.ensures
    ∙ rw (
      c.row_of.ensures,
      c.u32_in.ensures,
      c.u64_in.ensures,
      c.cents_again.ensures,
      c.cents_again-2.ensures,
      c.bytes_from.ensures,
    ) refl
