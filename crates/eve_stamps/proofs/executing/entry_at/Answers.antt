use Rattle.eve_stamps.proofs.Entries.{entry_on_place}
use Rattle.eve_stamps.proofs.executing.entry_at.Goals as goal

pub returns : goal.returns
returns c =
    entry_on_place c.args.seen.now c.args.effects.now c.args.place c.at-held.result c.at-effect.result c.at-held.ensures
    c.at-effect.ensures
