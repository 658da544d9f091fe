use Rattle.std.proofs.Common.{map, sym, ap, ◌∙◌}
use Rattle.std.proofs.lemmas.Bool.{false≢true}
use Rattle.eve_smallbank.specs.Access.{is_write}
use Rattle.eve_smallbank.specs.Decide.{effect_in}
use Rattle.eve_frames.specs.Decoded.{access_decoded}
use Rattle.eve_evidence.proofs.Lists.{same_more, get_mapped}
use Rattle.eve_evidence.proofs.PartsRead.{same_beq, apart_beq}
use Rattle.eve_evidence.proofs.DueRecords.{other_kind, other_after, same_kind}
use Rattle.eve_evidence.proofs.record.effect_fault.Goals as goal

pub returns-then-writes-wanted-clause-told : goal.returns-then-writes-wanted-clause-told
returns-then-writes-wanted-clause-told c = λ t names x due is due_is effects.
    other_kind names x due (access_decoded c.args.access.now).entries c.args.effects.now c.loop-i.i c.entry-entry.result
    c.at-due.result is due_is effects c.loop-i.invariant c.entry-entry.ensures c.at-due.ensures
    (λ e. apart_beq c.is_write-writes.result c.is_write-wanted.result c.if-writes-wanted.true
    (c.is_write-writes.ensures ∙ ap is_write e ∙ sym c.is_write-wanted.ensures))

pub returns-then-not-is_same_value-clause-told : goal.returns-then-not-is_same_value-clause-told
returns-then-not-is_same_value-clause-told c = λ t names x due is due_is effects.
    other_after names x due (access_decoded c.args.access.now).entries c.args.effects.now c.loop-i.i
    c.entry-entry.result
    c.at-due.result is due_is effects c.loop-i.invariant c.entry-entry.ensures c.at-due.ensures
    (same_kind c.entry-entry.result.kind c.at-due.result.kind
    (sym c.is_write-writes.ensures
    ∙ same_beq c.is_write-writes.result c.is_write-wanted.result c.if-writes-wanted.false ∙ c.is_write-wanted.ensures))
    (λ e. false≢true (sym c.if-not-is_same_value.true ∙ c.is_same_value.ensures.1 e))

pub loop-i-preserved : goal.loop-i-preserved
loop-i-preserved c =
    let es = (access_decoded c.args.access.now).entries in
    let kind = same_kind c.entry-entry.result.kind c.at-due.result.kind
    (sym c.is_write-writes.ensures
    ∙ same_beq c.is_write-writes.result c.is_write-wanted.result c.if-writes-wanted.false ∙
    c.is_write-wanted.ensures) in
    let after = c.is_same_value.ensures.0 c.if-not-is_same_value.false in
    same_more (map effect_in es) c.args.effects.now c.loop-i.i (effect_in c.entry-entry.result) c.at-due.result
    (get_mapped effect_in es c.loop-i.i c.entry-entry.result c.entry-entry.ensures) c.at-due.ensures
    (λ i. record { kind = kind i; after = after i }) c.loop-i.invariant
