use Rattle.std.proofs.Common.{◌≡◌, ◌∙◌, codes, ap, sym}
use Rattle.std.specs.Prelude.{max, min, option_map}
use Rattle.std.specs.Str.Parse.{ParsesUnsigned}
use Rattle.clap.specs.Walk.{rows_of}
use Rattle.clap.specs.Words.{found_of}
use Rattle.clap.proofs.WalkLemmas.{byte_read}
use Rattle.eve_tool_arguments.specs.Arguments.{number_named, value_given}
use Rattle.eve_tool_arguments.proofs.FoundValues.{first_value-rows}
use Rattle.eve_tool_arguments.proofs.arguments.workers_of.Goals.{in-Some, in-None}
use Rattle.eve_tool_arguments.proofs.arguments.workers_of.Goals as goal

pub returns : goal.returns
returns c =
    let found : option_map (λ s. s.now) c.get_str.result
    ≡ value_given (codes "workers") (rows_of (found_of c.args.found.now)) =
    c.get_str.ensures ∙ first_value-rows (found_of c.args.found.now) (codes "workers") in
    let named : c.match-get_str.named ≡ number_named
    (value_given (codes "workers") (rows_of (found_of c.args.found.now)))
    = elim c.match-get_str.branch [
      | in-Some w ↦
          let read : ParsesUnsigned 8 10 w.in-Some.text.now w.parse.result = w.parse.ensures.value.0 in
          w.named-is ∙ (w.unwrap_or-named.ensures ∙ (byte_read w.in-Some.text.now w.parse.result read
          ∙ ap number_named (ap (option_map (λ s. s.now)) (sym w.in-Some.is) ∙ found)))
      | in-None w ↦ w.named-is ∙ ap number_named (ap (option_map (λ s. s.now)) (sym w.in-None.is) ∙ found)
    ] in
    c.nearest.ensures ∙ ap (λ n. max 1 (min n 16)) named
