use Rattle.std.proofs.Common.{◌≡◌, ◌+◌, Bool, true, false, [], drop, if◌then◌else◌, ap, ◌∙◌, arith, rules}
use Rattle.std.proofs.lemmas.List.{length-drop, nil_from_length}
use Rattle.eve_accounts.specs.Names.{is_printable}
use Rattle.eve_grammar.proofs.Lists.{drop_here}
use Rattle.eve_evidence_form.specs.Fields.{printable_len}
use Rattle.eve_evidence_form.proofs.fields.printable_len.Goals as goal

pub returns-then-not-is_printable-clause-prefix : goal.returns-then-not-is_printable-clause-prefix
returns-then-not-is_printable-clause-prefix c =
    let b = c.item_at.result in
    let rest = drop (c.loop-i.i + 1) c.args.bytes.now in
    let no : is_printable b ≡ false = search rules in
    let none : printable_len (drop c.loop-i.i c.args.bytes.now) ≡ 0 =
    ap printable_len (drop_here c.args.bytes.now c.loop-i.i b c.item_at.ensures)
    ∙ ap (λ (p : Bool). if p then printable_len rest + 1 else 0) no in
    omega (arith, c.loop-i.invariant, none)

pub loop-i-preserved : goal.loop-i-preserved
loop-i-preserved c =
    let b = c.item_at.result in
    let rest = drop (c.loop-i.i + 1) c.args.bytes.now in
    let yes : is_printable b ≡ true = search rules in
    let more : printable_len (drop c.loop-i.i c.args.bytes.now) ≡ printable_len rest + 1 =
    ap printable_len (drop_here c.args.bytes.now c.loop-i.i b c.item_at.ensures)
    ∙ ap (λ (p : Bool). if p then printable_len rest + 1 else 0) yes in
    omega (arith, c.loop-i.invariant, more)

pub returns-clause-prefix : goal.returns-clause-prefix
returns-clause-prefix c =
    let none : drop c.loop-i.i c.args.bytes.now ≡ [] =
    nil_from_length (drop c.loop-i.i c.args.bytes.now) (omega (arith, length-drop c.loop-i.i c.args.bytes.now)) in
    omega (arith, c.loop-i.invariant, ap printable_len none, c.loop-i-test.false)
