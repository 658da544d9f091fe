use Rattle.std.proofs.Common.{◌≡◌, ◌++◌, map, take}
use Rattle.eve_frames.specs.Decoded.{access_decoded}
use Rattle.eve_chains.specs.inner.Gathered.{as_noted, noted_of_entry}
use Rattle.eve_chains.proofs.gathered.note_record.Given as goal

abbrev pub invariant-loop-place : goal.invariant-loop-place
invariant-loop-place l = map as_noted l.notes.items ≡ map as_noted l.fn.notes.items
    ++ map (noted_of_entry l.noting l.access.offset) (take l.place (access_decoded l.access).entries)
