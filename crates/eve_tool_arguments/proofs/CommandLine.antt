-- What a command line without a fault names.
use Rattle.std.proofs.Common.{◌≡◌, ◌⊎◌, inl, inr, subst, refl, Bool, true, false, not, ◌&&◌}
use Rattle.std.proofs.Common.{if◌then◌else◌, List, [], ◌∷◌, Option, Some, None, codes, is_some, option_map}
use Rattle.std.proofs.Common.{option_and_then}
use Rattle.clap.specs.Words.{IsAmong, Kinds, Row, Shape, Text, built, fault_of, is_simple, is_simple_and_free}
use Rattle.clap.specs.Words.{subcommand_of}
use Rattle.clap.specs.Kinds.{check_kinds, or_else}
use Rattle.clap.specs.Simple.{argument_words, built_leaf, entered, help_shape, inherited, label_of, names_of, rows_at}
use Rattle.clap.specs.Walk.{Held, Names, answers_to, finished, nothing_held, settled, stop_after, walk, walk_from}
use Rattle.clap.specs.Facts.{explicit_source}
use Rattle.clap.specs.Faults.{check_fault, defaults_fault, entered_fault, level_fault, settle_fault, walk_fault}
use Rattle.clap.specs.Takes.{is_given}
use Rattle.std.specs.List.{list_any}
use Rattle.clap.proofs.OnLiterals.{clap_on_literals}
use Rattle.eve_tool_arguments.proofs.HelpWord.{first_empty, off_help, stands_off, walk_off}
use Rattle.eve_tool_arguments.specs.Arguments.{Answers, SaysOf, Subcommand, NamesNoRun, run_in, audit}
use Rattle.eve_tool_arguments.specs.Arguments.{explain, run_shape, show}
use Rattle.eve_tool_arguments.specs.Arguments.{call_of, call_unless, eve, faults_of}
use Rattle.eve_tool_arguments.specs.Arguments.{program, subcommand_named}
use Rattle.clap.specs.declared.error.kind.ErrorKind.{ErrorKind}
use Rattle.clap.specs.declared.error.kind.ErrorKind.TheVariants as kind
use Rattle.eve_tool_arguments.specs.declared.arguments.Asked.{Asked}
use Rattle.eve_tool_arguments.specs.declared.arguments.Asked.TheVariants as asked

-- the program is of the kind of which clap says what it makes of the arguments
pub eve_is_simple : is_simple eve ≡ true
unfolding clap_on_literals
eve_is_simple = refl

pub eve_is_free : is_simple_and_free eve ≡ true
unfolding clap_on_literals
eve_is_free = refl

-- a command that is plain has no global argument
pub is_local : (no_group external globals others : Bool)
    → (no_group && (not external && (not globals && others))) ≡ true → globals ≡ false
is_local no_group external false others h = refl
is_local true true true others h = cc
is_local true false true others h = cc
is_local false external true others h = cc

-- where none of five steps fails, the last doesn't
last_is_empty : (a b c d e : Kinds) → or_else a (or_else b (or_else c (or_else d e))) ≡ [] → e ≡ []
last_is_empty [] [] [] [] e h = h
last_is_empty [] [] [] (k ∷ d) e h = cc
last_is_empty [] [] (k ∷ c) d e h = cc
last_is_empty [] (k ∷ b) c d e h = cc
last_is_empty (k ∷ a) b c d e h = cc

has_when_wanted : (has wants_help wants_argument : Bool) → check_kinds wants_help (not has && true) wants_argument ≡ []
    → has ≡ true
has_when_wanted true help argument h = refl
has_when_wanted false true argument h = cc
has_when_wanted false false argument h = cc

-- where nothing is wrong with a level that wants a subcommand, there is one
subcommand_wanted : (s : Shape) (names : Names) (h : Held) (words : List Text) (has : Bool) (below : Kinds)
    → s.subcommand_required ≡ true
    → level_fault s names h words has below ≡ [] → has ≡ true
subcommand_wanted s names h words has below wants right =
    let end = (walk s.rules names h words).held in
    let last : check_fault s (finished s.rules end) has ≡ [] = last_is_empty
    (walk_fault s names (walk_from h) words)
    below
    (settle_fault s.rules s.args_override_self end)
    (defaults_fault (settled s.rules end).rows s.rules)
    (check_fault s (finished s.rules end) has)
    right in
    has_when_wanted has
    (not has && (s.arg_required_else_help && not (list_any (λ r. explicit_source r.source) (finished s.rules end))))
    (not (s.subcommand_negates_reqs && has) && list_any (λ a. a.required && not (is_given a.id (finished s.rules end)))
    s.rules)
    (rw wants at last)

-- the subcommands as the program has them once it is built
abbrev built_audit : Shape
built_audit = built_leaf (inherited program.top audit)

abbrev built_explain : Shape
built_explain = built_leaf (inherited program.top explain)

abbrev built_show : Shape
built_show = built_leaf (inherited program.top show)

abbrev built_run : Shape
built_run = built_leaf (inherited program.top run_shape)

-- and the one that answers with help
abbrev built_help : Shape
built_help = built_leaf help_shape

abbrev entered_if : Bool → Bool → Bool → Bool → Bool → List Text → Option (Text × List Row)
entered_if is_audit is_explain is_run is_show is_help rest =
    option_map (λ s. rows_at s rest)
    (if is_audit then Some built_audit else
    (if is_explain then Some built_explain else
    (if is_run then Some built_run else
    (if is_show then Some built_show else (if is_help then Some built_help else None)))))

-- what was entered is no call: it is `run`, with a mixer or a format that isn't there
pub record EntersNoRun (found : Option (Text × List Row)) : Type 0 where
  pub rows : List Row
  pub met : found ≡ Some (codes "run", rows)
  pub unknown : run_in rows ≡ None

call_if : (is_audit is_explain is_run is_show is_help : Bool) (rest : List Text) → (is_help ≡ true → false ≡ true)
    → is_some (entered_if is_audit is_explain is_run is_show is_help rest) ≡ true
    → option_and_then subcommand_named (entered_if is_audit is_explain is_run is_show is_help rest) ≡ None
    → EntersNoRun (entered_if is_audit is_explain is_run is_show is_help rest)
unfolding clap_on_literals
call_if true is_explain is_run is_show is_help rest off h none = cc
call_if false true is_run is_show is_help rest off h none = cc
call_if false false true is_show is_help rest off h none =
    record { rows = (rows_at built_run rest).1; met = refl; unknown = none }
call_if false false false true is_help rest off h none = cc
call_if false false false false true rest off h none = let never = off refl in absurd (cc)
call_if false false false false false rest off h none = cc

-- where the subcommand that was entered is no call, it is `run`, with a mixer or a format that isn't there
entered_call : (stop : Option (Text × List Text)) → stands_off stop ≡ true
    → is_some (entered (built eve) stop) ≡ true
    → option_and_then subcommand_named (entered (built eve) stop) ≡ None → EntersNoRun (entered (built eve) stop)
unfolding clap_on_literals
entered_call None off h none = cc
entered_call (Some p) off h none =
    call_if (answers_to p.0 (label_of built_audit)) (answers_to p.0 (label_of built_explain))
    (answers_to p.0 (label_of built_run)) (answers_to p.0 (label_of built_show)) (answers_to p.0 (label_of built_help))
    p.1 (off_help p off) h none

-- words without a fault name a subcommand
entered_without_faults : (words : List Text) → fault_of eve words ≡ [] → is_some (subcommand_of eve words) ≡ true
entered_without_faults words h =
    let above = built eve in
    let rest = argument_words eve words in
    let stop = (walk above.top.rules (names_of above) nothing_held rest).stopped in
    subcommand_wanted above.top (names_of above) nothing_held rest (is_some (entered above stop))
    (entered_fault above stop) refl h

-- where nothing is wrong with a level, nothing is wrong with its words
words_right : (s : Shape) (names : Names) (h : Held) (words : List Text) (has : Bool) (below : Kinds)
    → level_fault s names h words has below ≡ [] → walk_fault s names (walk_from h) words ≡ []
words_right s names h words has below right = first_empty (walk_fault s names (walk_from h) words) _ right

-- words without a fault don't name the subcommand `help`
stop_off : (words : List Text) → fault_of eve words ≡ []
    → stands_off (stop_after (built eve).top.rules (names_of (built eve)) (argument_words eve words)) ≡ true
stop_off words h =
    let above = built eve in
    let rest = argument_words eve words in
    let stop = (walk above.top.rules (names_of above) nothing_held rest).stopped in
    walk_off above.top (names_of above) refl (walk_from nothing_held) rest refl
    (words_right above.top (names_of above) nothing_held rest (is_some (entered above stop))
    (entered_fault above stop) h)

-- words without a fault are a call
pub call_without_faults : (words : List Text) → fault_of eve words ≡ [] → call_of words
    ≡ option_and_then subcommand_named (subcommand_of eve words)
unfolding call_of faults_of
call_without_faults words h = rw h refl

-- or they name a mixer or a format that isn't there
pub run_without_faults : (words : List Text) → fault_of eve words ≡ []
    → option_and_then subcommand_named (subcommand_of eve words) ≡ None
    → NamesNoRun words
run_without_faults words h none =
    let above = built eve in
    let found = entered_call (stop_after above.top.rules (names_of above) (argument_words eve words))
    (stop_off words h) (entered_without_faults words h) none in
    record { rows = found.rows; met = found.met; unknown = found.unknown }

-- words with a fault are no call
pub no_call : (words : List Text) (k : ErrorKind) → IsAmong k (faults_of words) → call_of words ≡ None
unfolding call_of
no_call words k among = none_if (faults_of words) k among (option_and_then subcommand_named (subcommand_of eve words))
  where
    none_if : (kinds : Kinds) (k : ErrorKind) → IsAmong k kinds → (found : Option Subcommand) → call_unless kinds found
        ≡ None
    none_if [] k among found = absurd among
    none_if (x ∷ xs) k among found = refl

-- what is said of a fault is an answer to the arguments
pub answers_with_fault : (words : List Text) (k : ErrorKind) (a : Asked) → (k ≡ kind.OutOfMemory)
    ⊎ IsAmong k (fault_of eve words) → SaysOf k a → Answers words a
unfolding faults_of
answers_with_fault words k (asked.Call call names) found says = absurd says
answers_with_fault words k (asked.Help text) (inl e) (inl says) = cc
answers_with_fault words k (asked.Help text) (inl e) (inr says) = cc
answers_with_fault words k (asked.Help text) (inr among) (inl says) =
    let help = subst (λ (x : ErrorKind). IsAmong x (fault_of eve words)) says among in
    (no_call words kind.DisplayHelp help, inl help)
answers_with_fault words k (asked.Help text) (inr among) (inr says) =
    let version = subst (λ (x : ErrorKind). IsAmong x (fault_of eve words)) says among in
    (no_call words kind.DisplayVersion version, inr version)
answers_with_fault words k (asked.Refused text) (inl e) says = absurd (says.2 e)
answers_with_fault words k (asked.Refused text) (inr among) says =
    (no_call words k among, inl (record { what = k; found = among; no_help = says.0; no_version = says.1 }))
