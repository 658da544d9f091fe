use Rattle.std.proofs.Common.{◌≡◌, ◌*◌, take}
use Rattle.std.specs.List.{flat_map}
use Rattle.eve_token.proofs.spell_all.Given as goal

-- the first i items are spelled
abbrev pub invariant-loop-i : goal.invariant-loop-i
invariant-loop-i g l = take (l.i * g.T.Spell.LEN) l.out ≡ flat_map g.T.Spell.text (take l.i l.items)
