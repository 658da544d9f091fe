-- What the arguments of a command line ask for. docs/USING.md, "Lines and statuses".
use Rattle.std.specs.Prelude.{◌≡◌, ◌≢◌, ◌⊎◌, ⊤, ℕ, pos, max, min, Bool, true, false, if◌then◌else◌, List, [], ◌∷◌}
use Rattle.std.specs.Prelude.{Option, Some, None, codes, find, map, slice_get, option_and_then, option_map, unwrap_or}
use Rattle.std.specs.Str.{bytes_eq}
use Rattle.std.specs.String.{string_bytes}
use Rattle.clap.specs.Words.{App, Rule, Shape, Text, IsAmong, Kinds, fault_of, new_app, new_rule, subcommand_of}
use Rattle.clap.specs.Words.{with_rule, with_subcommand}
use Rattle.clap.specs.Walk.{Row, all_of, byte_or_zero}
use Rattle.clap.specs.declared.builder.value_parser.ValueParser.TheVariants as vp
use Rattle.clap.specs.declared.builder.action.ArgAction.TheVariants.{Append, SetTrue}
use Rattle.clap.specs.declared.error.kind.ErrorKind.TheVariants as kind
use Rattle.clap.specs.declared.error.kind.ErrorKind.{ErrorKind}
use Rattle.eve_workload.specs.declared.mixer.Mixer.{Mixer}
use Rattle.eve_workload.specs.Mixers.{mixer_named}
use Rattle.eve_tool_arguments.specs.Formats.{format_named}
use Rattle.eve_tool_arguments.specs.declared.format.Format.{Format}
use Rattle.eve_tool_arguments.specs.declared.style.Style.{Style}
use Rattle.eve_tool_arguments.specs.declared.style.Style.TheVariants.{Json, Plain}
use Rattle.eve_tool_arguments.specs.declared.arguments.Call.{Call}
use Rattle.eve_tool_arguments.specs.declared.arguments.Call.TheVariants as call
use Rattle.eve_tool_arguments.specs.declared.arguments.Asked.{Asked}
use Rattle.eve_tool_arguments.specs.declared.arguments.Asked.TheVariants as asked
use Rattle.eve_grammar.specs.declared.limits.TheConstants.{MOST_AUDIT_WORKERS}

-- the program wants a subcommand, and tells its version
abbrev pub program : App
program = let new = new_app (codes "eve") in
    record new {
      top = record new.top { subcommand_required = true; has_version = true };
    }

-- the argument that says how many workers audit
abbrev pub workers : Rule
workers = record (new_rule (codes "workers")) {
  long = Some (codes "workers");
  value_names = 1;
  defaults = codes "1" ∷ [];
  parser = Some (vp.Signed (pos 1) (pos MOST_AUDIT_WORKERS));
}

-- the argument that names a file to read: `-`, standard input, where none is named
abbrev pub file : Rule
file = record (new_rule (codes "file")) { value_names = 1; defaults = codes "-" ∷ [] }

-- the argument that names several
abbrev pub files : Rule
files = record file { action = Some Append }

-- the argument that asks for JSON
abbrev pub json : Rule
json = record (new_rule (codes "json")) { long = Some (codes "json"); action = Some SetTrue }

-- the subcommand `audit` but for its files
abbrev pub audit_options : App
audit_options = with_rule (with_rule (new_app (codes "audit")) workers) json

abbrev pub audit : Shape
audit = (with_rule audit_options files).top

-- the subcommand `explain` but for its file
abbrev pub explain_options : App
explain_options = with_rule (with_rule (new_app (codes "explain")) workers) json

abbrev pub explain : Shape
explain = (with_rule explain_options file).top

-- the argument that asks for the fields of each frame
abbrev pub long : Rule
long = record (new_rule (codes "long")) { long = Some (codes "long"); action = Some SetTrue }

-- the subcommand `show` but for its file
abbrev pub show_options : App
show_options = with_rule (with_rule (new_app (codes "show")) long) json

abbrev pub show : Shape
show = (with_rule show_options file).top

-- the argument that names the mixer
abbrev pub mixer : Rule
mixer = record (new_rule (codes "mixer")) {
  long = Some (codes "mixer");
  value_names = 1;
  defaults = codes "first" ∷ [];
}

-- the argument that names the format
abbrev pub format : Rule
format = record (new_rule (codes "format")) {
  long = Some (codes "format");
  value_names = 1;
  defaults = codes "1" ∷ [];
}

-- the subcommand `run` but for its file
abbrev pub run_options : App
run_options = with_rule (with_rule (new_app (codes "run")) mixer) format

abbrev pub run_shape : Shape
run_shape = (with_rule run_options file).top

-- the program with its subcommands
abbrev pub eve : App
eve = with_subcommand (with_subcommand (with_subcommand (with_subcommand program audit) explain) run_shape) show

pub data Subcommand : Type 0 where
  Audit : Style → Subcommand
  Explain : Style → Subcommand
  Run : Mixer → Format → Subcommand
  Show : Subcommand
  ShowLong : Style → Subcommand

-- the first value of an argument among what was found
abbrev pub value_given : Text → List Row → Option Text
value_given id rows = option_and_then (λ r. slice_get r.values 0) (find (λ r. bytes_eq r.id id) rows)

-- the mixer that is named among what was found
abbrev pub mixer_in : List Row → Option Mixer
mixer_in rows = option_and_then mixer_named (value_given (codes "mixer") rows)

-- the format that is named among what was found
abbrev pub format_in : List Row → Option Format
format_in rows = option_and_then format_named (value_given (codes "format") rows)

-- the subcommand `run`, with the mixer and the format that are named among what was found
abbrev pub run_in : List Row → Option Subcommand
run_in rows = option_and_then (λ m. option_map (Run m) (format_in rows)) (mixer_in rows)

-- the number that is named by what is a value, 0 where there is none
abbrev pub number_named : Option Text → ℕ
number_named (Some text) = byte_or_zero text
number_named None = 0

-- how many workers are named among what was found: 1 to `MOST_AUDIT_WORKERS`, since clap lets no other number pass
abbrev pub workers_in : List Row → ℕ
workers_in rows = max 1 (min (number_named (value_given (codes "workers") rows)) MOST_AUDIT_WORKERS)

-- whether an option without a value is given among what was found
abbrev pub is_set : Text → List Row → Bool
is_set id rows = unwrap_or (option_map (λ t. bytes_eq t (codes "true")) (value_given id rows)) false

-- whether the fields of each frame are asked for among what was found
abbrev pub is_long : List Row → Bool
is_long rows = is_set (codes "long") rows

-- the style that is asked for among what was found
abbrev pub style_in : List Row → Style
style_in rows = if is_set (codes "json") rows then Json else Plain

-- the subcommand `show`, with the fields of each frame or without: JSON has them
abbrev pub listing : Bool → Style → Subcommand
listing is_long Plain = if is_long then ShowLong Plain else Show
listing is_long Json = ShowLong Json

abbrev pub subcommand_named : Text × List Row → Option Subcommand
subcommand_named found =
    if bytes_eq found.0 (codes "audit") then Some (Audit (style_in found.1))
    else (if bytes_eq found.0 (codes "explain") then Some (Explain (style_in found.1)) else
    (if bytes_eq found.0 (codes "run") then run_in found.1 else
    (if bytes_eq found.0 (codes "show") then Some (listing (is_long found.1) (style_in found.1)) else None)))

abbrev pub subcommand_of_call : Call → Subcommand
subcommand_of_call (call.Audit _ style) = Audit style
subcommand_of_call (call.Explain _ style) = Explain style
subcommand_of_call (call.Run mixer format) = Run mixer format
subcommand_of_call call.Show = Show
subcommand_of_call (call.ShowLong style) = ShowLong style

-- what clap finds wrong with the arguments, the program's name first, or a request for help or for the version
unfoldable pub faults_of : List Text → Kinds
faults_of arguments = fault_of eve arguments

-- a call only where nothing is wrong
abbrev pub call_unless : Kinds → Option Subcommand → Option Subcommand
call_unless [] call = call
call_unless (k ∷ ks) call = None

-- the call that the arguments are
unfoldable pub call_of : List Text → Option Subcommand
call_of arguments = call_unless (faults_of arguments) (option_and_then subcommand_named (subcommand_of eve arguments))

-- how many workers are named after the subcommand that was met
abbrev pub workers_behind : Option (Text × List Row) → Option ℕ
workers_behind found = option_map (λ f. workers_in f.1) found

-- how many workers the arguments ask for
unfoldable pub workers_of : List Text → Option ℕ
workers_of arguments = workers_behind (subcommand_of eve arguments)

-- the files that are named after the subcommand that was met
abbrev pub files_behind : Option (Text × List Row) → List Text
files_behind (Some found) = unwrap_or (all_of (codes "file") found.1) []
files_behind None = []

-- the files that the arguments name
unfoldable pub files_of : List Text → List Text
files_of arguments = files_behind (subcommand_of eve arguments)

-- the call has this number of workers, if it is one that has any
abbrev pub HasWorkers : Option ℕ → Call → Type 0
HasWorkers asked_for (call.Audit found style) = asked_for ≡ Some found
HasWorkers asked_for (call.Explain found style) = asked_for ≡ Some found
HasWorkers _ _ = ⊤

-- what is answered to arguments in which clap finds this wrong
abbrev pub SaysOf : ErrorKind → Asked → Type 0
SaysOf k (asked.Call call names) = ⊥
SaysOf k (asked.Help text) = (k ≡ kind.DisplayHelp) ⊎ (k ≡ kind.DisplayVersion)
SaysOf k (asked.Refused text) = (k ≢ kind.DisplayHelp) × (k ≢ kind.DisplayVersion) × (k ≢ kind.OutOfMemory)

-- the arguments are the call `audit`, in this style
abbrev pub CallsAudit : Style → List Text → Type 0
CallsAudit style arguments = call_of arguments ≡ Some (Audit style)

-- the arguments are the call `explain`, in this style
abbrev pub CallsExplain : Style → List Text → Type 0
CallsExplain style arguments = call_of arguments ≡ Some (Explain style)

-- the arguments ask for a verdict: they are the call `audit` or the call `explain`
abbrev pub AsksForVerdict : List Text → Type 0
AsksForVerdict arguments =
    ((style : Style) × CallsAudit style arguments) ⊎ ((style : Style) × CallsExplain style arguments)

-- the arguments are a call
abbrev pub CallsSome : List Text → Type 0
CallsSome arguments = call_of arguments ≢ None

-- the arguments are no call
abbrev pub CallsNothing : List Text → Type 0
CallsNothing arguments = call_of arguments ≡ None

-- the arguments ask for help, or for the version
abbrev pub AsksForHelp : List Text → Type 0
AsksForHelp arguments =
    IsAmong kind.DisplayHelp (faults_of arguments) ⊎ IsAmong kind.DisplayVersion (faults_of arguments)

-- the arguments are no call, but ask for help
abbrev pub GetsHelp : List Text → Type 0
GetsHelp arguments = CallsNothing arguments × AsksForHelp arguments

-- the arguments are the call `audit`, by `n` workers
abbrev pub AuditsBy : ℕ → List Text → Type 0
AuditsBy n arguments = CallsAudit Plain arguments × (workers_of arguments ≡ Some n)

-- the arguments are the call `explain`, by `n` workers
abbrev pub ExplainsBy : ℕ → List Text → Type 0
ExplainsBy n arguments = CallsExplain Plain arguments × (workers_of arguments ≡ Some n)

-- something else is wrong with the arguments
pub record IsWrong (arguments : List Text) : Type 0 where
  pub what : ErrorKind
  pub found : IsAmong what (faults_of arguments)
  pub no_help : what ≢ kind.DisplayHelp
  pub no_version : what ≢ kind.DisplayVersion

-- the arguments are `run` with a mixer or a format that isn't there
pub record NamesNoRun (arguments : List Text) : Type 0 where
  pub rows : List Row
  pub met : subcommand_of eve arguments ≡ Some (codes "run", rows)
  pub unknown : run_in rows ≡ None

-- the arguments are refused
abbrev pub IsRefused : List Text → Type 0
IsRefused arguments = IsWrong arguments ⊎ NamesNoRun arguments

-- the answer is the call that the arguments are, with the number of workers that they ask for and the files that they
-- name, help where they ask for it, or a refusal where they are wrong
abbrev pub Answers : List Text → Asked → Type 0
Answers arguments (asked.Call call names) =
    (call_of arguments ≡ Some (subcommand_of_call call)) × HasWorkers (workers_of arguments) call
    × (map string_bytes names.items ≡ files_of arguments)
Answers arguments (asked.Help text) = GetsHelp arguments
Answers arguments (asked.Refused text) = CallsNothing arguments × IsRefused arguments
