use Rattle.std.proofs.Common.{◌≡◌, ◌<◌, ◌++◌, List, get_or, set, length, subst, arith}
use Rattle.std.specs.Prelude.{IfOk}
use Rattle.eve_smallbank.specs.SmallBank.{plain}
use Rattle.eve_smallbank.specs.Execution.{executed_on}
use Rattle.eve_smallbank.specs.Touch.{rows_in}
use Rattle.eve_stamps.specs.Applied.{Applied, noted_of}
use Rattle.eve_stamps.specs.Stripes.{Stripe, stripe_with}
use Rattle.eve_stamps.specs.Requests.{rows_in_two, entries_within, entries_outside, refusal_of_two, IsRefusedFor}
use Rattle.eve_stamps_schedule.specs.Schedule.{stripe_at}
use Rattle.eve_stamps_schedule.proofs.Applications.{if_ok_both, two_written, in_prefix, in_back, both_noted}
use Rattle.eve_stamps_schedule.proofs.applying.on_two.Goals as goal

pub returns-clause-exact : goal.returns-clause-exact
returns-clause-exact c = λ names is.
    let here : List Stripe = c.args.stripes.now in
    let prefix : List Stripe = c.split_at_mut-prefix.result.0.now in
    let back : List Stripe = c.split_at_mut-prefix.result.1.now in
    let cut = c.split_at_mut-prefix.ensures in
    let within : c.args.span.first < length prefix = omega (arith, cut.front_len) in
    let some : 0 < length back = omega (arith, cut.front_len, cut.back_len) in
    let first = in_prefix here prefix back c.args.span.first c.index-prefix-span.result cut.value within in
    let last = in_back here prefix back c.args.span.last c.index-back-0.result cut.value cut.front_len some in
    subst (λ (s : Stripe). IfOk c.apply_two.result (λ (r : Applied). r ≡ noted_of c.args.stamp.worker c.args.stamp.place
    c.args.stamp.index c.args.stamp.tick
    (executed_on names (rows_in_two s (stripe_at here c.args.span.last)) (plain c.args.request.now)))) first
    (subst (λ (u : Stripe). IfOk c.apply_two.result (λ (r : Applied). r ≡ noted_of c.args.stamp.worker
    c.args.stamp.place c.args.stamp.index c.args.stamp.tick
    (executed_on names (rows_in_two (get_or prefix c.args.span.first c.index-prefix-span.result) u)
    (plain c.args.request.now)))) last
    (c.apply_two.ensures.exact names is))

pub returns-clause-journals : goal.returns-clause-journals
returns-clause-journals c =
    let here : List Stripe = c.args.stripes.now in
    let prefix : List Stripe = c.split_at_mut-prefix.result.0.now in
    let back : List Stripe = c.split_at_mut-prefix.result.1.now in
    let cut = c.split_at_mut-prefix.ensures in
    let within : c.args.span.first < length prefix = omega (arith, cut.front_len) in
    let some : 0 < length back = omega (arith, cut.front_len, cut.back_len) in
    let s : Stripe = get_or prefix c.args.span.first c.index-prefix-span.result in
    let u : Stripe = get_or back 0 c.index-back-0.result in
    if_ok_both (λ (r : Applied). c.apply_two.new.first ≡ stripe_with s c.args.stamp.tick (entries_within s r.entries))
    (λ (r : Applied). c.apply_two.new.second ≡ stripe_with u c.args.stamp.tick (entries_outside s r.entries))
    (λ (r : Applied). set prefix c.args.span.first c.apply_two.new.first ++ set back 0 c.apply_two.new.second
    ≡ both_noted here c.args.span.first c.args.span.last c.args.stamp.tick r.entries)
    c.apply_two.result c.apply_two.ensures.first c.apply_two.ensures.second
    (λ r x y. two_written here prefix back c.args.span.first c.args.span.last c.args.stamp.tick s u
    c.apply_two.new.first
    c.apply_two.new.second r.entries cut.value within cut.front_len
    (in_prefix here prefix back c.args.span.first c.index-prefix-span.result cut.value within)
    (in_back here prefix back c.args.span.last c.index-back-0.result cut.value cut.front_len some) x y)

pub returns-clause-refused : goal.returns-clause-refused
returns-clause-refused c =
    let here : List Stripe = c.args.stripes.now in
    let prefix : List Stripe = c.split_at_mut-prefix.result.0.now in
    let back : List Stripe = c.split_at_mut-prefix.result.1.now in
    let cut = c.split_at_mut-prefix.ensures in
    let within : c.args.span.first < length prefix = omega (arith, cut.front_len) in
    let some : 0 < length back = omega (arith, cut.front_len, cut.back_len) in
    let first = in_prefix here prefix back c.args.span.first c.index-prefix-span.result cut.value within in
    let last = in_back here prefix back c.args.span.last c.index-back-0.result cut.value cut.front_len some in
    subst (λ (s : Stripe). IsRefusedFor
    (refusal_of_two s (stripe_at here c.args.span.last) c.args.stamp.tick (rows_in c.args.reached.now))
    c.apply_two.result) first
    (subst (λ (u : Stripe). IsRefusedFor
    (refusal_of_two (get_or prefix c.args.span.first c.index-prefix-span.result) u c.args.stamp.tick
    (rows_in c.args.reached.now)) c.apply_two.result) last
    c.apply_two.ensures.refused)
