use Rattle.std.proofs.Common.{◌≡◌, ◌∙◌, List, [], None, Some, codes, ap, map, refl, sym}
use Rattle.std.specs.Prelude.{Option, option_map, unwrap_or}
use Rattle.std.specs.String.{string_bytes}
use Rattle.std.proofs.lemmas.Result.{IfOk-weaker}
use Rattle.clap.specs.Walk.{Row, Text, all_of, rows_of}
use Rattle.clap.specs.Words.{found_of, subcommand_rows_of}
use Rattle.clap.proofs.WalkLemmas.{raw_values-rows}
use Rattle.eve_tool_arguments.specs.Arguments.{files_behind}
use Rattle.eve_tool_arguments.proofs.arguments.files_in.Goals as goal

-- the files that are named among what was found, if anything was
abbrev files_from : Option (List Row) → List Text
files_from (Some rows) = unwrap_or (all_of (codes "file") rows) []
files_from None = []

behind : (found : Option (Text × List Row)) → files_from (option_map (λ p. p.1) found) ≡ files_behind found
behind None = refl
behind (Some found) = refl

pub returns-in-Some-get_strs : goal.returns-in-Some-get_strs
returns-in-Some-get_strs c =
    let found = found_of c.in-Some.found.now in
    let named : Some (map (λ s. s.now) c.in-Some-get_strs.names.now) ≡ all_of (codes "file") (rows_of found) =
    ap (option_map (λ s. map (λ v. v.now) s.now)) (sym c.in-Some-get_strs.is)
    ∙ (c.get_strs.ensures ∙ raw_values-rows found (codes "file")) in
    IfOk-weaker c.copies_of.result _ _
    (λ copies are. are ∙ (ap (λ (o : Option (List Text)). unwrap_or o []) named
    ∙ (ap files_from c.in-Some.ensures.rows ∙ behind (subcommand_rows_of c.args.matches.now))))
    c.copies_of.ensures

pub returns-in-None-get_strs : goal.returns-in-None-get_strs
returns-in-None-get_strs c =
    let found = found_of c.in-Some.found.now in
    let none : None ≡ all_of (codes "file") (rows_of found) =
    ap (option_map (λ s. map (λ v. v.now) s.now)) (sym c.in-None-get_strs.is)
    ∙ (c.get_strs.ensures ∙ raw_values-rows found (codes "file")) in
    ap (map string_bytes) c.new.ensures.items
    ∙ (ap (λ (o : Option (List Text)). unwrap_or o []) none
    ∙ (ap files_from c.in-Some.ensures.rows ∙ behind (subcommand_rows_of c.args.matches.now)))
