use Rattle.std.proofs.Common.{◌≡◌, length, ◌∙◌, sym, arith}
use Rattle.eve_grammar.proofs.Lists.{one_listed, two_listed, three_listed}
use Rattle.eve_stamps.specs.HeldRows.{entries_on}
use Rattle.eve_stamps.proofs.Entries.{as_many_entries}
use Rattle.eve_stamps.proofs.executing.entries_of.Goals as goal

pub returns-in-1 : goal.returns-in-1
returns-in-1 c =
    let seen = c.args.seen.now in
    let effects = c.args.effects.now in
    let one : length (entries_on seen effects) ≡ 1 =
    as_many_entries seen effects c.requires ∙ sym c.len.ensures.len ∙ c.in-1.is in
    c.one.ensures ∙ one_listed (entries_on seen effects) c.entry_at.result one c.entry_at.ensures

pub returns-in-2 : goal.returns-in-2
returns-in-2 c =
    let seen = c.args.seen.now in
    let effects = c.args.effects.now in
    let two : length (entries_on seen effects) ≡ 2 =
    as_many_entries seen effects c.requires ∙ sym c.len.ensures.len ∙ c.in-2.is in
    c.two.ensures
    ∙ two_listed (entries_on seen effects) c.entry_at-in-2.result c.entry_at-in-2-2.result two c.entry_at-in-2.ensures
    c.entry_at-in-2-2.ensures

pub returns-in_default : goal.returns-in_default
returns-in_default c =
    let seen = c.args.seen.now in
    let effects = c.args.effects.now in
    let three : length (entries_on seen effects) ≡ 3 =
    omega (arith, as_many_entries seen effects c.requires, c.len.ensures) in
    c.three.ensures
    ∙ three_listed (entries_on seen effects) c.entry_at-in_default.result c.entry_at-in_default-2.result
    c.entry_at-in_default-3.result three c.entry_at-in_default.ensures c.entry_at-in_default-2.ensures
    c.entry_at-in_default-3.ensures
