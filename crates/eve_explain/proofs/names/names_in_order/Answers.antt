use Rattle.std.proofs.Common.{◌≡◌, ℕ, [], ◌∷◌, ◌++◌, Some, sym, ap, ◌∙◌, arith, slice_get}
use Rattle.std.proofs.lemmas.List.{take_all, length-map}
use Rattle.std.proofs.lemmas.Option.{slice_get-map}
use Rattle.std.specs.Option.{option_map}
use Rattle.eve_accounts.specs.Names.{NameList}
use Rattle.eve_grammar.specs.Trace.{Customer, Trace}
use Rattle.eve_grammar.specs.Spelling.{customers_at, customer_text}
use Rattle.eve_grammar.specs.declared.head.TheConstants.{HEADER_LEN}
use Rattle.eve_views.proofs.FrameOffsets.{located_get}
use Rattle.eve_grammar.proofs.Lists.{take_one_more}
use Rattle.eve_history.specs.SectionHistory.{names_of}
use Rattle.eve_explain.proofs.names.names_in_order.Goals as goal

name_there : (t : Trace) (i : ℕ) (c : ℕ × Customer) → slice_get (customers_at t) i ≡ Some c
    → slice_get (names_of t) i ≡ Some c.1.name
unfolding customers_at
name_there t i c got =
    slice_get-map (λ (d : Customer). d.name) t.customers i
    ∙ ap (option_map (λ (d : Customer). d.name)) (located_get customer_text HEADER_LEN t.customers i c got)

pub loop-i-preserved : goal.loop-i-preserved
loop-i-preserved c =
    let t = c.args.trace.now in
    ap (λ (n : NameList). n.items) c.in-Ok.ensures.added
    ∙ (λ j. c.loop-i.invariant j ++ c.name.ensures j ∷ [])
    ∙ sym (take_one_more (names_of t) c.loop-i.i _ (name_there t c.loop-i.i _ c.customer.ensures.says))

pub returns : goal.returns
returns c =
    let t = c.args.trace.now in
    c.loop-i.invariant
    ∙ take_all c.loop-i.i (names_of t)
    (omega (
      arith,
      c.loop-i-test.false,
      c.customer_count-i-end.ensures,
      length-map t.customers
          (λ (d : Customer). d.name),
    ))
