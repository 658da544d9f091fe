-- What stands and the kinds that are still to come are together all kinds that are told; a kind has 10 bytes at most,
-- with what parts it from the one before.
use Rattle.std.proofs.Common.{◌≡◌, ◌+◌, ◌*◌, ◌≤◌, ◌++◌}
use Rattle.arrayvec.specs.ArrayVec.{array_vec_len}
use Rattle.eve_reasons.specs.Words.{kinds_words}
use Rattle.eve_reasons.proofs.KindLists.{kinds_left}
use Rattle.eve_reasons.proofs.kinds.put_kinds.Given as goal

abbrev pub invariant-kinds : goal.invariant-kinds
invariant-kinds l = record {
  items : l.line.items ++ kinds_left l.any l.i l.kinds l.told ≡ l.initial.line.items ++ kinds_words l.told;
  room : array_vec_len l.line ≤ array_vec_len l.initial.line + 10 * l.i;
}
