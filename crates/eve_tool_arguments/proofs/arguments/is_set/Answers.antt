use Rattle.std.proofs.Common.{◌≡◌, ◌∙◌, codes, ap, sym, false}
use Rattle.std.specs.Prelude.{Option, option_map, unwrap_or}
use Rattle.std.specs.Str.{bytes_eq}
use Rattle.clap.specs.Walk.{Text, rows_of}
use Rattle.clap.specs.Words.{found_of}
use Rattle.eve_tool_arguments.specs.Arguments.{value_given}
use Rattle.eve_tool_arguments.proofs.FoundValues.{first_value-rows}
use Rattle.eve_tool_arguments.proofs.arguments.is_set.Goals as goal

pub returns-in-Some : goal.returns-in-Some
returns-in-Some c =
    let given = found_of c.args.found.now in
    let found : option_map (λ s. s.now) c.get_str.result ≡ value_given c.args.name.now (rows_of given)
    = c.get_str.ensures ∙ first_value-rows given c.args.name.now in
    c.eq.ensures
    ∙ ap (λ o. unwrap_or (option_map (λ t. bytes_eq t (codes "true")) (option_map (λ s. s.now) o)) false)
    (sym c.in-Some.is)
    ∙ ap (λ (o : Option Text). unwrap_or (option_map (λ t. bytes_eq t (codes "true")) o) false) found

pub returns-in-None : goal.returns-in-None
returns-in-None c =
    let given = found_of c.args.found.now in
    let found : option_map (λ s. s.now) c.get_str.result ≡ value_given c.args.name.now (rows_of given)
    = c.get_str.ensures ∙ first_value-rows given c.args.name.now in
    ap (λ o. unwrap_or (option_map (λ t. bytes_eq t (codes "true")) (option_map (λ s. s.now) o)) false)
    (sym c.in-None.is)
    ∙ ap (λ (o : Option Text). unwrap_or (option_map (λ t. bytes_eq t (codes "true")) o) false) found
