use Rattle.std.proofs.Common.{◌+◌, ◌*◌, refl, arith}
use Rattle.eve_grammar.specs.Readers.{entry_at}
use Rattle.eve_grammar.specs.declared.limits.TheConstants.{MOST_ROWS}
use Rattle.eve_frames.specs.Views.{access_in}
use Rattle.eve_frames.proofs.AccessPlaces.{entries_of, access_placed}
use Rattle.eve_frames.proofs.Lists.{stand_is, stand_there}
use Rattle.eve_frames.proofs.access.AccessView.entry.Goals as goal

pub entry_again-entry-requires : goal.entry_again-entry-requires
entry_again-entry-requires c =
    let bytes = c.args.self.now.bytes.now in (
      MOST_ROWS,
      omega arith,
      stand_there 29 (entries_of bytes) 11 (entry_at MOST_ROWS) bytes (access_in bytes).entries
          (access_placed bytes c.args.self.now.whole).entries c.args.i (11 + 29 * c.args.i) c.requires refl,
    )

pub returns : goal.returns
returns c =
    let bytes = c.args.self.now.bytes.now in
    let stand = (access_placed bytes c.args.self.now.whole).entries in
    stand_is 29 (entries_of bytes) 11 (entry_at MOST_ROWS) bytes (access_in bytes).entries stand c.args.i
    (11 + 29 * c.args.i) c.requires refl c.entry_again-entry.result.0 c.entry_again-entry.result.1.now
    (c.entry_again-entry.ensures MOST_ROWS
    (stand_there 29 (entries_of bytes) 11 (entry_at MOST_ROWS) bytes (access_in bytes).entries stand c.args.i
    (11 + 29 * c.args.i) c.requires refl))
