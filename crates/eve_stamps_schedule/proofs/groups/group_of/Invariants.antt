use Rattle.std.proofs.Common.{◌≡◌, ◌+◌, drop}
use Rattle.eve_grammar.specs.Certificate.{group_of}
use Rattle.eve_stamps_schedule.proofs.groups.group_of.Given as goal

abbrev pub invariant-loop-place : goal.invariant-loop-place
invariant-loop-place l = group_of l.sizes l.index ≡ l.place + group_of (drop l.place l.sizes) l.rest
