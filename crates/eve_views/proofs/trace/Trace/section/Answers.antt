use Rattle.std.proofs.Common.{◌≡◌, ◌≤◌, ◌+◌, ℕ, suc, length, ap, ◌∙◌, arith}
use Rattle.eve_grammar.specs.Trace.{head_of}
use Rattle.eve_grammar.specs.Limits.{row_count}
use Rattle.eve_grammar.specs.declared.limits.TheConstants.{MOST_ROWS}
use Rattle.eve_grammar.proofs.HeadLimits.{few_customers}
use Rattle.eve_views.specs.inner.FramesBefore.{before_section}
use Rattle.eve_views.proofs.CutLaws.{steps_cut, steps_are_there}
use Rattle.eve_views.proofs.trace.Trace.section.Goals as goal

pub new-requires : goal.new-requires
new-requires c =
    let t = c.args.self.now in
    let small = few_customers (head_of t) c.recall_limits.ensures.head in
    let few : row_count (head_of t) ≤ MOST_ROWS = omega (arith, small) in
    let more : c.args.e + 1 ≡ suc c.args.e = omega arith in
    let next : c.section_from-to.result ≡ length (before_section t (suc c.args.e)) =
    c.section_from-to.ensures ∙ ap (λ (k : ℕ). length (before_section t k)) more in
    steps_cut t c.args.e (c.section_from.result + 1) c.section_from-to.result c.recall_limits.ensures few c.requires
    (ap (λ (k : ℕ). k + 1) c.section_from.ensures) next

pub returns : goal.returns
returns c =
    let t = c.args.self.now in
    let small = few_customers (head_of t) c.recall_limits.ensures.head in
    let few : row_count (head_of t) ≤ MOST_ROWS = omega (arith, small) in
    let more : c.args.e + 1 ≡ suc c.args.e = omega arith in
    let next : c.section_from-to.result ≡ length (before_section t (suc c.args.e)) =
    c.section_from-to.ensures ∙ ap (λ (k : ℕ). length (before_section t k)) more in
    c.new.ensures
    ∙ steps_are_there t c.args.e (c.section_from.result + 1) c.section_from-to.result c.recall_limits.ensures few
    c.requires
    (ap (λ (k : ℕ). k + 1) c.section_from.ensures) next
