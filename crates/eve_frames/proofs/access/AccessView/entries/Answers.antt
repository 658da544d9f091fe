use Rattle.std.proofs.Common.{refl, ◌∙◌}
use Rattle.eve_grammar.specs.Readers.{entry_at}
use Rattle.eve_grammar.specs.declared.limits.TheConstants.{MOST_ROWS}
use Rattle.eve_frames.specs.Views.{access_in}
use Rattle.eve_frames.proofs.AccessPlaces.{entries_of, access_placed}
use Rattle.eve_frames.proofs.Lists.{stand_passes}
use Rattle.eve_frames.proofs.access.AccessView.entries.Goals as goal

pub new-requires : goal.new-requires
new-requires c =
    let bytes = c.args.self.now.bytes.now in
    (stand_passes 29 (entries_of bytes) 11 (entry_at MOST_ROWS) bytes (access_in bytes).entries
    (access_placed bytes c.args.self.now.whole).entries c.len-count.result 11 c.len-count.ensures.len refl).there

pub returns : goal.returns
returns c =
    let bytes = c.args.self.now.bytes.now in
    c.new.ensures ∙ (stand_passes 29 (entries_of bytes) 11 (entry_at MOST_ROWS) bytes (access_in bytes).entries
    (access_placed bytes c.args.self.now.whole).entries c.len-count.result 11 c.len-count.ensures.len refl).list
