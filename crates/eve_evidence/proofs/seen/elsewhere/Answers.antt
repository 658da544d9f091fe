use Rattle.std.proofs.Common.{ℕ, List, subst}
use Rattle.eve_grammar.specs.Trace.{Step, Attempts}
use Rattle.eve_evidence.specs.Seen.{IsFirstAmong, NoneAmong}
use Rattle.eve_evidence.proofs.FarSources.{by_restored, by_later, by_nobody, by_rolled_back, by_discarded, by_settled}
use Rattle.eve_evidence.proofs.FarSources.{never_settled, never_open}
use Rattle.eve_evidence.proofs.seen.elsewhere.Goals as goal

pub prefix_of-prefix-requires-clause-there : goal.prefix_of-prefix-requires-clause-there
prefix_of-prefix-requires-clause-there c =
    let look = c.requires.look in (look.0, Attempts look.2, look.1, look.4)

pub returns-in-Some : goal.returns-in-Some
returns-in-Some c = λ prefix behind a index split near.
    by_restored c.args.trace.now prefix behind c.args.at a index c.args.row c.args.saw.now near
    c.prefix_of-prefix.result
    (c.prefix_of-prefix.ensures.prefix prefix (Attempts a) behind split) c.in-Some.at c.in-Some.is

pub returns-in-RolledBack : goal.returns-in-RolledBack
returns-in-RolledBack c = λ prefix behind a index split near.
    by_rolled_back c.args.trace.now prefix behind c.args.at a index c.args.row c.args.saw.now near
    c.prefix_of-prefix.result
    (c.prefix_of-prefix.ensures.prefix prefix (Attempts a) behind split) c.in_default.is c.in-Some-last.last
    c.in-Some-last.is
    c.in-RolledBack.by c.in-RolledBack.restores c.in-RolledBack.is

pub returns-in-Discarded : goal.returns-in-Discarded
returns-in-Discarded c = λ prefix behind a index split near.
    by_discarded c.args.trace.now prefix behind c.args.at a index c.args.row c.args.saw.now near
    c.prefix_of-prefix.result
    (c.prefix_of-prefix.ensures.prefix prefix (Attempts a) behind split) c.in_default.is c.in-Some-last.last
    c.in-Some-last.is
    c.in-Discarded.by c.in-Discarded.is

pub returns-in-Some-base : goal.returns-in-Some-base
returns-in-Some-base c = λ prefix behind a index split near.
    by_settled c.args.trace.now prefix behind c.args.at a index c.args.row c.args.saw.now near c.prefix_of-prefix.result
    (c.prefix_of-prefix.ensures.prefix prefix (Attempts a) behind split) c.in_default.is c.in-Some-last.last
    c.in-Some-last.is
    c.in-Some-base.state c.in-Settled.is c.in-Some-base.is

pub unreachable-requires : goal.unreachable-requires
unreachable-requires c =
    let look = c.requires.look in
    never_settled c.args.trace.now look.0 look.1 c.args.at look.2 look.3 c.args.row c.args.saw.now look.5
    c.prefix_of-prefix.result (c.prefix_of-prefix.ensures.prefix look.0 (Attempts look.2) look.1 look.4) c.in_default.is
    c.in-Some-last.last c.in-Some-last.is c.in-Settled.is c.in-None.is

pub unreachable-requires-in-Open : goal.unreachable-requires-in-Open
unreachable-requires-in-Open c =
    let look = c.requires.look in
    never_open c.args.trace.now look.0 look.1 c.args.at look.2 look.3 c.args.row c.args.saw.now look.5
    c.prefix_of-prefix.result (c.prefix_of-prefix.ensures.prefix look.0 (Attempts look.2) look.1 look.4) c.in_default.is
    c.in-Some-last.last c.in-Some-last.is c.in-Open.field-0 c.in-Open.is

pub returns-in_default-last : goal.returns-in_default-last
returns-in_default-last c = λ prefix behind a index split near.
    by_later c.args.trace.now prefix behind c.args.at a index c.args.row c.args.saw.now near c.prefix_of-prefix.result
    (c.prefix_of-prefix.ensures.prefix prefix (Attempts a) behind split) c.in_default.is c.in-Some-first_among.source
    c.in_default-last.is
    (subst (λ (xs : List (ℕ × Step)). IsFirstAmong c.args.row c.args.saw.now xs c.in-Some-first_among.source)
    (c.prefix_of-prefix.ensures.behind prefix (Attempts a) behind split) c.in-Some-first_among.ensures.first)

pub returns-in_default-first_among : goal.returns-in_default-first_among
returns-in_default-first_among c = λ prefix behind a index split near.
    by_nobody c.args.trace.now prefix behind c.args.at a index c.args.row c.args.saw.now near c.prefix_of-prefix.result
    (c.prefix_of-prefix.ensures.prefix prefix (Attempts a) behind split) c.in_default.is c.in_default-last.is
    (subst (NoneAmong c.args.row c.args.saw.now) (c.prefix_of-prefix.ensures.behind prefix (Attempts a) behind split)
    c.in_default-first_among.ensures.none)
