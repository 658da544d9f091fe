use Rattle.std.proofs.Common.{◌≡◌, ℕ, true, false, List, [], ◌∷◌, ◌++◌, length, Contains, Err, ap, sym, subst, ◌∙◌}
use Rattle.std.proofs.Common.{arith}
use Rattle.std.proofs.lemmas.Bool.{both_ways}
use Rattle.eve_accounts.specs.Names.{is_name, NameList}
use Rattle.eve_grammar.specs.Trace.{Customer}
use Rattle.eve_grammar.specs.declared.head.Head.{Head}
use Rattle.eve_frames.specs.Views.{customer_in}
use Rattle.eve_views.specs.declared.fault.Code.TheVariants as code
use Rattle.eve_views.specs.declared.fault.CheckFault.{CheckFault}
use Rattle.eve_views.specs.declared.fault.CheckFault.TheVariants.{Found}
use Rattle.eve_views.specs.Form.{IfFound, IsLeast, IsFaultOutside}
use Rattle.eve_history.specs.Order.{name_in, StandsInOrders}
use Rattle.eve_history.proofs.OrderLaws.{naming_start, naming_more, naming_room, is_named, naming_end, naming_apart}
use Rattle.eve_history.proofs.OrderLaws.{fault, named_again}
use Rattle.eve_history.proofs.order.names_in_order.Goals as goal

abbrev with_name : NameList → List ℕ → NameList
with_name names name = record names { items = names.items ++ name ∷ [] }

pub loop-i-init : goal.loop-i-init
loop-i-init c =
    let count : c.head-count.result.customers ≡ length c.args.trace.now.customers =
    ap (λ (h : Head). h.customers) c.head-count.ensures in
    naming_start c.args.trace.now c.new-names.result (ap (λ n. n.items) c.new-names.ensures)
    (ap (λ n. n.limit) c.new-names.ensures ∙ count)

pub returns-in-Err-SameName-clause-fault : goal.returns-in-Err-SameName-clause-fault
returns-in-Err-SameName-clause-fault c =
    let t = c.args.trace.now in
    let decoded : ℕ × Customer = (c.customer-customer.result.offset, customer_in c.customer-customer.result.bytes.now)
    in
    let there : Contains c.loop-i.names.items c.name.result.now =
    (c.in-Err-SameName.ensures.same_name.0 (ap Err c.in-Err-SameName.field-0-is)).1 in
    let again : Contains c.loop-i.names.items (name_in decoded) =
    subst (λ (n : List ℕ). Contains c.loop-i.names.items n) c.name.ensures there in
    subst (λ (e : CheckFault). IfFound e (IsLeast (IsFaultOutside StandsInOrders t)))
    (sym (c.outside.ensures ∙ ap (λ (o : ℕ). Found (fault code.SameName o)) c.offset.ensures))
    (named_again t c.loop-i.i c.loop-i.names decoded c.loop-i.invariant c.customer-customer.ensures.says again)

pub unreachable-requires : goal.unreachable-requires
unreachable-requires c =
    let t = c.args.trace.now in
    let decoded : ℕ × Customer = (c.customer-customer.result.offset, customer_in c.customer-customer.result.bytes.now)
    in
    let bad : is_name c.name.result.now ≡ false = c.in-Err-BadName.ensures.bad_name.0
    (ap Err c.in-Err-BadName.field-0-is) in
    let named : is_name c.name.result.now ≡ true = ap is_name c.name.ensures
    ∙ is_named t c.loop-i.i decoded c.recall_limits.ensures c.customer-customer.ensures.says in
    both_ways (is_name c.name.result.now) bad named

pub unreachable-requires-in-Err-Full : goal.unreachable-requires-in-Err-Full
unreachable-requires-in-Err-Full c =
    let t = c.args.trace.now in
    let count : c.head-count.result.customers ≡ length t.customers =
    ap (λ (h : Head). h.customers) c.head-count.ensures in
    let full : length c.loop-i.names.items ≡ c.loop-i.names.limit =
    (c.in-Err-Full.ensures.full.0 (ap Err c.in-Err-Full.field-0-is)).2 in
    let room = naming_room t c.loop-i.i c.loop-i.names c.loop-i.invariant (omega arith) in
    omega arith

pub loop-i-preserved : goal.loop-i-preserved
loop-i-preserved c =
    let t = c.args.trace.now in
    let decoded : ℕ × Customer = (c.customer-customer.result.offset, customer_in c.customer-customer.result.bytes.now)
    in
    let new : ¬ Contains c.loop-i.names.items (name_in decoded) =
    subst (λ (n : List ℕ). ¬ Contains c.loop-i.names.items n) c.name.ensures c.in-Ok.ensures.taken.new in
    let added : c.add.new.self ≡ record c.loop-i.names { items = c.loop-i.names.items ++ name_in decoded ∷ [] } =
    c.in-Ok.ensures.added ∙ ap (λ (n : List ℕ). with_name c.loop-i.names n) c.name.ensures in
    naming_more t c.loop-i.i c.loop-i.names c.add.new.self decoded c.loop-i.invariant c.customer-customer.ensures.says
    new
    added

pub returns-clause-names : goal.returns-clause-names
returns-clause-names c =
    let count : c.head-count.result.customers ≡ length c.args.trace.now.customers =
    ap (λ (h : Head). h.customers) c.head-count.ensures in
    naming_end c.args.trace.now c.loop-i.i c.loop-i.names c.loop-i.invariant (omega arith)

pub returns-clause-apart : goal.returns-clause-apart
returns-clause-apart c =
    let count : c.head-count.result.customers ≡ length c.args.trace.now.customers =
    ap (λ (h : Head). h.customers) c.head-count.ensures in
    naming_apart c.args.trace.now c.loop-i.i c.loop-i.names c.loop-i.invariant (omega arith)
