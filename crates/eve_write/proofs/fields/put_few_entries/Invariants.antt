-- What is appended so far.
use Rattle.std.proofs.Common.{◌≡◌, ◌+◌, ◌*◌, length, min, take}
use Rattle.std.specs.List.{flat_map}
use Rattle.arrayvec.specs.ArrayVec.{array_vec_len}
use Rattle.eve_grammar.specs.Spelling.{entry_text}
use Rattle.eve_write.specs.Writes.{Puts}
use Rattle.eve_write.proofs.fields.put_few_entries.Given as goal

abbrev pub invariant-loop-place : goal.invariant-loop-place
invariant-loop-place g l =
    Puts l.initial.frame.items l.frame.items (flat_map entry_text (take l.place l.entries))
    × (array_vec_len l.frame ≡ array_vec_len l.initial.frame + 29 * min l.place (length l.entries))
