use Rattle.std.proofs.Common.{◌≡◌, Option, Some, [], ◌∷◌, codes, ap, ◌∙◌, rules}
use Rattle.std.specs.Prelude.{pos}
use Rattle.clap.specs.Words.{Rule, new_rule, rule_of}
use Rattle.clap.specs.declared.builder.arg.Arg.{Arg}
use Rattle.clap.specs.declared.builder.value_parser.ValueParser.{ValueParser}
use Rattle.clap.specs.declared.builder.value_parser.ValueParser.TheVariants as vp
use Rattle.eve_tool_arguments.proofs.arguments.workers_argument.Goals as goal

abbrev any : Rule
any = record (new_rule (codes "workers")) { long = Some (codes "workers"); value_names = 1; defaults = codes "1" ∷ [] }

pub returns-clause-rule : goal.returns-clause-rule
returns-clause-rule c =
    let before : Arg = c.default_value.result in
    let given = c.value_parser.ensures.given in
    let parser : c.value_parser.result.value_parser ≡ Some (vp.Signed (pos 1) (pos 16)) = given.1
    ∙ ap (λ (q : ValueParser). Some q) (given.2 ∙ c.worker_counts.ensures) in
    let rule : rule_of before ≡ any = search rules in
    let is : c.value_parser.result ≡ record before { value_parser = Some (vp.Signed (pos 1) (pos 16)) } =
    c.value_parser.ensures.others ∙ ap (λ (q : Option ValueParser). record before { value_parser = q }) parser in
    ap rule_of is ∙ ap (λ (r : Rule). record r { parser = Some (vp.Signed (pos 1) (pos 16)) }) rule
