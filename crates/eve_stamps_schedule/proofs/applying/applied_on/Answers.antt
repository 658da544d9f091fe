use Rattle.std.proofs.Common.{◌≡◌, ℕ, ◌<◌, List, [], length, set, sym, subst, ap, ◌∙◌, arith}
use Rattle.std.specs.List.{AllByRecursion}
use Rattle.std.proofs.lemmas.Result.{IfOk-weaker}
use Rattle.eve_smallbank.specs.declared.entry.Entry.{Entry}
use Rattle.eve_smallbank.specs.declared.request.Reply.TheVariants.{Aborted}
use Rattle.eve_smallbank.specs.declared.rows.Touched.{Touched}
use Rattle.eve_smallbank.specs.SmallBank.{plain, Request}
use Rattle.eve_smallbank.specs.Access.{RowKinds, Executed}
use Rattle.eve_smallbank.specs.Chain.{table_after}
use Rattle.eve_smallbank.specs.Touch.{touched_of, rows_in}
use Rattle.eve_smallbank.specs.Execution.{executed_on}
use Rattle.eve_smallbank.proofs.Records.{refused_fits}
use Rattle.eve_smallbank.proofs.Unique.{made_of_table}
use Rattle.eve_stamps.specs.Applied.{Applied, noted_of}
use Rattle.eve_stamps.specs.Stripes.{Stripe, rows_now, stripe_with}
use Rattle.eve_stamps.specs.Requests.{rows_in_two, refusal, refusal_of_two, IsRefusedFor}
use Rattle.eve_stamps.specs.OpeningRows.{stripe_of, touches}
use Rattle.eve_stamps_schedule.specs.Stripes.{needs}
use Rattle.eve_stamps_schedule.specs.Schedule.{stripe_at, table_of_stripes}
use Rattle.eve_stamps_schedule.specs.AppliedRequests.{IsKeptAt}
use Rattle.eve_stamps_schedule.proofs.Spans.{AreEnds}
use Rattle.eve_stamps_schedule.proofs.RequestRows.{some_touched}
use Rattle.eve_stamps_schedule.proofs.Applications.{one_table, one_kept, one_made, one_own, one_memory, IsParted}
use Rattle.eve_stamps_schedule.proofs.Applications.{both_noted, two_table, two_kept, two_made, two_parted, two_memory}
use Rattle.eve_stamps_schedule.proofs.Applications.{if_ok_both}
use Rattle.eve_stamps_schedule.proofs.applying.applied_on.Goals as goal

pub returns-in-Refused-clause-exact : goal.returns-in-Refused-clause-exact
returns-in-Refused-clause-exact c =
    let names : List (List ℕ) = c.args.names.now.items in
    let request : Request = plain c.args.request.now in
    c.untouched.ensures
    ∙ ap (noted_of c.args.stamp.worker c.args.stamp.place c.args.stamp.index c.args.stamp.tick)
    (made_of_table names (table_of_stripes c.args.stripes.now)
    (record { request = request; reply = Aborted c.in-Refused.why; entries = [] })
    (refused_fits names request c.in-Refused.why (sym c.touched-reached.ensures ∙ c.in-Refused.is)) tt)

-- ---- on one stripe

one_end : (c : goal.After-stripes-1)
    → AreEnds (needs c.args.names.now.items (plain c.args.request.now)) c.span_of-span.result.first
    c.span_of-span.result.first
one_end c =
    let same : c.in-Rows.rows ≡ rows_in (touched_of c.args.names.now.items (plain c.args.request.now)) =
    sym (ap rows_in c.in-Rows.is) ∙ ap rows_in c.touched-reached.ensures in
    let some : 0 < length c.in-Rows.rows = some_touched c.args.names.now.items (plain c.args.request.now) c.in-Rows.rows
    (sym c.touched-reached.ensures ∙ c.in-Rows.is) in
    subst (AreEnds (needs c.args.names.now.items (plain c.args.request.now)) c.span_of-span.result.first)
    (sym c.if-span.true)
    (λ s. ap (λ (rs : RowKinds). touches rs s) (sym same) ∙ c.span_of-span.ensures.exact c.args.names.now.items
    (plain c.args.request.now) same some s)

pub returns-then-span-clause-exact : goal.returns-then-span-clause-exact
returns-then-span-clause-exact c =
    let names : List (List ℕ) = c.args.names.now.items in
    let request : Request = plain c.args.request.now in
    let a : ℕ = c.span_of-span.result.first in
    let noted =
    λ (x : Executed). noted_of c.args.stamp.worker c.args.stamp.place c.args.stamp.index c.args.stamp.tick x in
    IfOk-weaker c.on_one.result
    (λ r. r ≡ noted (executed_on names (rows_now (stripe_at c.args.stripes.now a)) request))
    (λ r. r ≡ noted (executed_on names (table_of_stripes c.args.stripes.now) request))
    (λ r e. e ∙ ap noted (one_made names c.args.stripes.now request a (one_end c)))
    (c.on_one.ensures.exact names c.touched-reached.ensures)

pub returns-then-span-clause-table : goal.returns-then-span-clause-table
returns-then-span-clause-table c =
    let names : List (List ℕ) = c.args.names.now.items in
    let request : Request = plain c.args.request.now in
    let a : ℕ = c.span_of-span.result.first in
    let here : List Stripe = c.args.stripes.now in
    let within : a < length here = omega arith in
    if_ok_both (λ r. r ≡ noted_of c.args.stamp.worker c.args.stamp.place c.args.stamp.index c.args.stamp.tick
    (executed_on names (rows_now (stripe_at here a)) request))
    (λ r. c.on_one.new.stripes ≡ set here a (stripe_with (stripe_at here a) c.args.stamp.tick r.entries))
    (λ r. table_of_stripes c.on_one.new.stripes ≡ table_after (table_of_stripes here) r.entries) c.on_one.result
    (c.on_one.ensures.exact names c.touched-reached.ensures) c.on_one.ensures.journal
    (λ r e j. ap table_of_stripes j ∙ one_table here a c.args.stamp.tick r.entries within
    (subst (λ (x : Applied). AllByRecursion (λ (f : Entry). stripe_of f.row ≡ a) x.entries) (sym e)
    (one_own names (rows_now (stripe_at here a)) request a (one_end c))))

pub returns-then-span-clause-stripes : goal.returns-then-span-clause-stripes
returns-then-span-clause-stripes c =
    let names : List (List ℕ) = c.args.names.now.items in
    let request : Request = plain c.args.request.now in
    let a : ℕ = c.span_of-span.result.first in
    let here : List Stripe = c.args.stripes.now in
    let within : a < length here = omega arith in
    IfOk-weaker c.on_one.result
    (λ r. c.on_one.new.stripes ≡ set here a (stripe_with (stripe_at here a) c.args.stamp.tick r.entries))
    (λ r. (i : ℕ) → IsKeptAt c.args.stamp.tick (needs names request i) (stripe_at here i)
    (stripe_at c.on_one.new.stripes i))
    (λ r j i. subst
    (λ ss. IsKeptAt c.args.stamp.tick (needs names request i) (stripe_at here i) (stripe_at ss i)) (sym j)
    (one_kept here a c.args.stamp.tick r.entries (needs names request) i within (one_end c)))
    c.on_one.ensures.journal

pub returns-then-span-clause-memory : goal.returns-then-span-clause-memory
returns-then-span-clause-memory c =
    let names : List (List ℕ) = c.args.names.now.items in
    let request : Request = plain c.args.request.now in
    let a : ℕ = c.span_of-span.result.first in
    let here : List Stripe = c.args.stripes.now in
    one_memory names here request a c.args.stamp.tick c.on_one.result c.requires.rows (omega arith)
    (one_end c) c.requires.above c.requires.fresh
    (subst (λ (t : Touched). IsRefusedFor (refusal (stripe_at here a) c.args.stamp.tick (rows_in t)) c.on_one.result)
    c.touched-reached.ensures c.on_one.ensures.refused)

-- ---- on two

two_ends : (c : goal.After-stripes-2-1)
    → AreEnds (needs c.args.names.now.items (plain c.args.request.now)) c.span_of-span.result.first
    c.span_of-span.result.last
two_ends c =
    let same : c.in-Rows.rows ≡ rows_in (touched_of c.args.names.now.items (plain c.args.request.now)) =
    sym (ap rows_in c.in-Rows.is) ∙ ap rows_in c.touched-reached.ensures in
    let some : 0 < length c.in-Rows.rows = some_touched c.args.names.now.items (plain c.args.request.now) c.in-Rows.rows
    (sym c.touched-reached.ensures ∙ c.in-Rows.is) in
    λ s. ap (λ (rs : RowKinds). touches rs s) (sym same) ∙ c.span_of-span.ensures.exact c.args.names.now.items
    (plain c.args.request.now) same some s

pub returns-clause-exact : goal.returns-clause-exact
returns-clause-exact c =
    let names : List (List ℕ) = c.args.names.now.items in
    let request : Request = plain c.args.request.now in
    let a : ℕ = c.span_of-span.result.first in
    let b : ℕ = c.span_of-span.result.last in
    let here : List Stripe = c.args.stripes.now in
    let less : a < b = omega arith in
    let noted =
    λ (x : Executed). noted_of c.args.stamp.worker c.args.stamp.place c.args.stamp.index c.args.stamp.tick x in
    IfOk-weaker c.on_two.result
    (λ r. r ≡ noted (executed_on names (rows_in_two (stripe_at here a) (stripe_at here b)) request))
    (λ r. r ≡ noted (executed_on names (table_of_stripes here) request))
    (λ r e. e ∙ ap noted (two_made names here request a b c.requires.rows less c.span_of-span.ensures.range
    (two_ends c)))
    (c.on_two.ensures.exact names c.touched-reached.ensures)

pub returns-clause-table : goal.returns-clause-table
returns-clause-table c =
    let names : List (List ℕ) = c.args.names.now.items in
    let request : Request = plain c.args.request.now in
    let a : ℕ = c.span_of-span.result.first in
    let b : ℕ = c.span_of-span.result.last in
    let here : List Stripe = c.args.stripes.now in
    let less : a < b = omega arith in
    let within : b < length here = omega arith in
    if_ok_both (λ r. r ≡ noted_of c.args.stamp.worker c.args.stamp.place c.args.stamp.index c.args.stamp.tick
    (executed_on names (rows_in_two (stripe_at here a) (stripe_at here b)) request))
    (λ r. c.on_two.new.stripes ≡ both_noted here a b c.args.stamp.tick r.entries)
    (λ r. table_of_stripes c.on_two.new.stripes ≡ table_after (table_of_stripes here) r.entries) c.on_two.result
    (c.on_two.ensures.exact names c.touched-reached.ensures) c.on_two.ensures.journals
    (λ r e j. ap table_of_stripes j ∙ two_table here a b c.args.stamp.tick r.entries less within
    (subst (λ (x : Applied). AllByRecursion (IsParted (stripe_at here a) a b) x.entries) (sym e)
    (two_parted names here (rows_in_two (stripe_at here a) (stripe_at here b)) request a b c.requires.rows less
    c.span_of-span.ensures.range (two_ends c))))

pub returns-clause-stripes : goal.returns-clause-stripes
returns-clause-stripes c =
    let names : List (List ℕ) = c.args.names.now.items in
    let request : Request = plain c.args.request.now in
    let a : ℕ = c.span_of-span.result.first in
    let b : ℕ = c.span_of-span.result.last in
    let here : List Stripe = c.args.stripes.now in
    let less : a < b = omega arith in
    let within : b < length here = omega arith in
    IfOk-weaker c.on_two.result (λ r. c.on_two.new.stripes ≡ both_noted here a b c.args.stamp.tick r.entries)
    (λ r. (i : ℕ) → IsKeptAt c.args.stamp.tick (needs names request i) (stripe_at here i)
    (stripe_at c.on_two.new.stripes i))
    (λ r j i. subst
    (λ ss. IsKeptAt c.args.stamp.tick (needs names request i) (stripe_at here i) (stripe_at ss i)) (sym j)
    (two_kept here a b c.args.stamp.tick r.entries (needs names request) i less within (two_ends c)))
    c.on_two.ensures.journals

pub returns-clause-memory : goal.returns-clause-memory
returns-clause-memory c =
    let names : List (List ℕ) = c.args.names.now.items in
    let request : Request = plain c.args.request.now in
    let a : ℕ = c.span_of-span.result.first in
    let b : ℕ = c.span_of-span.result.last in
    let here : List Stripe = c.args.stripes.now in
    let less : a < b = omega arith in
    two_memory names here request a b c.args.stamp.tick c.on_two.result c.requires.rows less
    c.span_of-span.ensures.range (two_ends c) c.requires.above c.requires.fresh
    (subst (λ (t : Touched). IsRefusedFor
    (refusal_of_two (stripe_at here a) (stripe_at here b) c.args.stamp.tick (rows_in t)) c.on_two.result)
    c.touched-reached.ensures c.on_two.ensures.refused)
