use Rattle.std.proofs.Common.{sym, ◌∙◌}
use Rattle.eve_frames.specs.Views.{access_in}
use Rattle.eve_grammar.proofs.Lists.{one_listed, two_listed, three_listed}
use Rattle.eve_chains.proofs.records.entries_of.Goals as goal

pub returns-in-1 : goal.returns-in-1
returns-in-1 c =
    c.one.ensures
    ∙ one_listed (access_in c.args.access.now.bytes.now).entries c.entry.result (sym c.len.ensures.len ∙ c.in-1.is)
    c.entry.ensures

pub returns-in-2 : goal.returns-in-2
returns-in-2 c =
    c.two.ensures
    ∙ two_listed (access_in c.args.access.now.bytes.now).entries c.entry-in-2.result c.entry-in-2-2.result
    (sym c.len.ensures.len ∙ c.in-2.is) c.entry-in-2.ensures c.entry-in-2-2.ensures

pub returns-in-3 : goal.returns-in-3
returns-in-3 c =
    c.three.ensures
    ∙ three_listed (access_in c.args.access.now.bytes.now).entries c.entry-in-3.result c.entry-in-3-2.result
    c.entry-in-3-3.result (sym c.len.ensures.len ∙ c.in-3.is) c.entry-in-3.ensures c.entry-in-3-2.ensures
    c.entry-in-3-3.ensures
