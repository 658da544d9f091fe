use Rattle.std.proofs.Common.{◌≡◌, ◌∙◌, codes, ap, sym}
use Rattle.std.specs.Prelude.{option_and_then, option_map}
use Rattle.clap.specs.Walk.{rows_of}
use Rattle.clap.specs.Words.{found_of}
use Rattle.eve_workload.specs.Mixers.{mixer_named}
use Rattle.eve_tool_arguments.specs.Arguments.{value_given}
use Rattle.eve_tool_arguments.proofs.FoundValues.{first_value-rows}
use Rattle.eve_tool_arguments.proofs.arguments.mixer_of.Goals as goal

pub returns-in-Some : goal.returns-in-Some
returns-in-Some c =
    let named : option_map (λ s. s.now) c.get_str.result
    ≡ value_given (codes "mixer") (rows_of (found_of c.args.found.now)) =
    c.get_str.ensures ∙ first_value-rows (found_of c.args.found.now) (codes "mixer") in
    c.named.ensures
    ∙ ap (λ o. option_and_then mixer_named (option_map (λ s. s.now) o)) (sym c.in-Some.is)
    ∙ ap (option_and_then mixer_named) named

pub returns-in-None : goal.returns-in-None
returns-in-None c =
    let named : option_map (λ s. s.now) c.get_str.result
    ≡ value_given (codes "mixer") (rows_of (found_of c.args.found.now)) =
    c.get_str.ensures ∙ first_value-rows (found_of c.args.found.now) (codes "mixer") in
    ap (λ o. option_and_then mixer_named (option_map (λ s. s.now) o)) (sym c.in-None.is)
    ∙ ap (option_and_then mixer_named) named
