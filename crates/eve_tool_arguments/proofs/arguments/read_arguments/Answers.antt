use Rattle.std.proofs.Common.{◌≡◌, ◌∙◌, ap, sym, subst, inr, true, map, List, [], None}
use Rattle.std.specs.Prelude.{Option, Some, option_and_then, option_map}
use Rattle.clap.specs.Walk.{Row}
use Rattle.std.proofs.lemmas.Result.{IfOk-weaker}
use Rattle.clap.specs.Words.{App, HasKind, HasMatchesOf, Text, fault_of, is_simple_and_free, kind_of, subcommand_of}
use Rattle.clap.specs.Words.{subcommand_rows_of}
use Rattle.eve_tool_arguments.specs.Arguments.{Answers, HasWorkers, SaysOf, call_of, eve, subcommand_named}
use Rattle.eve_tool_arguments.specs.Arguments.{subcommand_of_call}
use Rattle.eve_tool_arguments.specs.Arguments.{files_behind, files_of, workers_behind, workers_of}
use Rattle.eve_tool_arguments.specs.declared.arguments.Call.{Call}
use Rattle.eve_tool_arguments.proofs.CommandLine.{answers_with_fault, call_without_faults, eve_is_free, eve_is_simple}
use Rattle.eve_tool_arguments.proofs.CommandLine.{run_without_faults}
use Rattle.eve_tool_arguments.proofs.arguments.read_arguments.Goals as goal

behind : (words : List Text) (found : Option (Text × List Row)) (call : Call) → found ≡ subcommand_of eve words
    → HasWorkers (workers_behind found) call
    → HasWorkers (workers_of words) call
unfolding workers_of
behind words found call is has = subst (λ (o : Option (Text × List Row)). HasWorkers (workers_behind o) call) is has

named : (words : List Text) (found : Option (Text × List Row)) (names : List Text) → found ≡ subcommand_of eve words
    → names ≡ files_behind found
    → names ≡ files_of words
unfolding files_of
named words found names is has = has ∙ ap files_behind is

pub returns-in-Some : goal.returns-in-Some
returns-in-Some g c =
    let words : List Text = map g.S.AsStr.text c.args.arguments.now in
    let is_eve = c.in_ok-command.ensures in
    let right : fault_of eve words ≡ [] = subst (λ (a : App). is_simple_and_free a ≡ true → fault_of a words ≡ [])
    is_eve c.in-Ok.ensures.kinds eve_is_free in
    let found = subst (λ (a : App). HasMatchesOf a words c.in-Ok.matches) is_eve c.in-Ok.ensures.matches eve_is_simple
    in
    let is : call_of words ≡ Some (subcommand_of_call c.in-Some.call) = call_without_faults words right
    ∙ (ap (option_and_then subcommand_named) (sym found.1)
    ∙ (sym c.call_in.ensures.call ∙ ap (option_map subcommand_of_call) c.in-Some.is)) in (
      is,
      behind words (subcommand_rows_of c.in-Ok.matches) c.in-Some.call found.1 c.in-Some.ensures.workers,
      named words (subcommand_rows_of c.in-Ok.matches) _ found.1 c.in_ok-files_in-in-Some.ensures,
    )

pub returns-in-Ok : goal.returns-in-Ok
returns-in-Ok g c =
    let words : List Text = map g.S.AsStr.text c.args.arguments.now in
    let is_eve = c.in_ok-command.ensures in
    let right : fault_of eve words ≡ [] = subst (λ (a : App). is_simple_and_free a ≡ true → fault_of a words ≡ [])
    is_eve c.in-Ok.ensures.kinds eve_is_free in
    let found = subst (λ (a : App). HasMatchesOf a words c.in-Ok.matches) is_eve c.in-Ok.ensures.matches eve_is_simple
    in
    let none : option_and_then subcommand_named (subcommand_of eve words) ≡ None =
    ap (option_and_then subcommand_named) (sym found.1)
    ∙ (sym c.call_in.ensures.call ∙ ap (option_map subcommand_of_call) c.in-None.is) in
    (call_without_faults words right ∙ none, inr (run_without_faults words right none))

pub returns : goal.returns
returns g c =
    let words : List Text = map g.S.AsStr.text c.args.arguments.now in
    let found = subst (λ (a : App). is_simple_and_free a ≡ true → HasKind (fault_of a words) c.in-Err.error)
    c.in_ok-command.ensures c.in-Err.ensures.kinds eve_is_free in
    IfOk-weaker c.answer_of.result (SaysOf (kind_of c.in-Err.error)) (Answers words)
    (λ a says. answers_with_fault words (kind_of c.in-Err.error) a found says) c.answer_of.ensures
