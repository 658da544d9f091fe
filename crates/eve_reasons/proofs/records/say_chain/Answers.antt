use Rattle.std.proofs.Common.{◌≡◌, ℕ, List, [], Option, None, Some, refl}
use Rattle.eve_evidence.specs.declared.evidence.SeenFrom.{SeenFrom}
use Rattle.eve_reasons.specs.Lines.{Kept, and_lines}
use Rattle.eve_reasons.specs.Records.{seen_from}
use Rattle.eve_reasons.proofs.records.say_chain.Goals as goal

-- the lines behind that one come after it
seen-first : (seen : Option SeenFrom) (rest : List (List ℕ)) (k : Kept)
    → and_lines (seen_from seen rest) k ≡ and_lines rest (and_lines (seen_from seen []) k)
seen-first None rest k = refl
seen-first (Some from) rest k = refl

pub returns : goal.returns
returns c =
    rw (
      seen-first c.args.seen.now,
      c.say_seen_by.ensures,
      c.say-3.ensures,
      c.say-2.ensures,
      c.say_seen_from.ensures,
      c.say.ensures,
      c.say_entry.ensures,
      c.say_record_at.ensures,
    ) refl
