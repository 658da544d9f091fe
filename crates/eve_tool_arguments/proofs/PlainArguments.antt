-- Public: other crates cite these lemmas. What plain arguments after the program's name ask for.
use Rattle.std.proofs.Common.{◌≡◌, ◌⊎◌, ℕ, suc, ◌≤◌, ◌<◌, inl, inr, arith, subst, refl, List, [], ◌∷◌, Some, codes}
use Rattle.clap.specs.Words.{IsAmong, Text}
use Rattle.std.specs.Fmt.{decimal, digits}
use Rattle.std.proofs.lemmas.Bool.{cases_lt}
use Rattle.clap.proofs.OnLiterals.{clap_on_literals}
use Rattle.eve_tool_arguments.specs.Arguments.{AuditsBy, CallsAudit, CallsNothing, ExplainsBy, GetsHelp}
use Rattle.eve_tool_arguments.specs.Arguments.{Audit, Explain, Run, Show, ShowLong, call_of, faults_of}
use Rattle.eve_tool_arguments.specs.Arguments.{files_of, workers_of}
use Rattle.clap.specs.declared.error.kind.ErrorKind.TheVariants as kind
use Rattle.eve_workload.specs.declared.mixer.Mixer.TheVariants.{First, Whole}
use Rattle.eve_tool_arguments.specs.declared.style.Style.TheVariants.{Json, Plain}
use Rattle.eve_tool_arguments.specs.declared.format.Format.TheVariants.{One, Two}
use Rattle.eve_tool_arguments.proofs.CommandLine.{no_call}

pub audit_call : (name : Text) → call_of (name ∷ codes "audit" ∷ []) ≡ Some (Audit Plain)
unfolding call_of faults_of clap_on_literals
audit_call name = refl

pub json_call : (name : Text) → call_of (name ∷ codes "audit" ∷ codes "--json" ∷ []) ≡ Some (Audit Json)
unfolding call_of faults_of clap_on_literals
json_call name = refl

pub no_json : (name : Text) → CallsNothing (name ∷ codes "run" ∷ codes "--json" ∷ [])
unfolding call_of faults_of clap_on_literals
no_json name = refl

pub explain_call : (name : Text) → call_of (name ∷ codes "explain" ∷ []) ≡ Some (Explain Plain)
unfolding call_of faults_of clap_on_literals
explain_call name = refl

pub explain_json_call : (name : Text)
    → call_of (name ∷ codes "explain" ∷ codes "--json" ∷ []) ≡ Some (Explain Json)
unfolding call_of faults_of clap_on_literals
explain_json_call name = refl

pub run_call : (name : Text) → call_of (name ∷ codes "run" ∷ []) ≡ Some (Run First One)
unfolding call_of faults_of clap_on_literals
run_call name = refl

pub whole_call : (name : Text)
    → call_of (name ∷ codes "run" ∷ codes "--mixer" ∷ codes "whole" ∷ []) ≡ Some (Run Whole One)
unfolding call_of faults_of clap_on_literals
whole_call name = refl

pub first_call : (name : Text)
    → call_of (name ∷ codes "run" ∷ codes "--mixer" ∷ codes "first" ∷ []) ≡ Some (Run First One)
unfolding call_of faults_of clap_on_literals
first_call name = refl

pub format_1_call : (name : Text)
    → call_of (name ∷ codes "run" ∷ codes "--format" ∷ codes "1" ∷ []) ≡ Some (Run First One)
unfolding call_of faults_of clap_on_literals
format_1_call name = refl

pub format_2_call : (name : Text)
    → call_of (name ∷ codes "run" ∷ codes "--format" ∷ codes "2" ∷ []) ≡ Some (Run First Two)
unfolding call_of faults_of clap_on_literals
format_2_call name = refl

pub whole_format_2_call : (name : Text)
    → call_of (name ∷ codes "run" ∷ codes "--mixer" ∷ codes "whole" ∷ codes "--format" ∷ codes "2" ∷ [])
    ≡ Some (Run Whole Two)
unfolding call_of faults_of clap_on_literals
whole_format_2_call name = refl

pub no_format : (name : Text) → CallsNothing (name ∷ codes "run" ∷ codes "--format" ∷ codes "3" ∷ [])
unfolding call_of faults_of clap_on_literals
no_format name = refl

pub two_formats : (name : Text) → CallsNothing
    (name ∷ codes "run" ∷ codes "--format" ∷ codes "2" ∷ codes "--format" ∷ codes "2" ∷ [])
unfolding call_of faults_of clap_on_literals
two_formats name = refl

pub show_call : (name : Text) → call_of (name ∷ codes "show" ∷ []) ≡ Some Show
unfolding call_of faults_of clap_on_literals
show_call name = refl

pub long_call : (name : Text) → call_of (name ∷ codes "show" ∷ codes "--long" ∷ []) ≡ Some (ShowLong Plain)
unfolding call_of faults_of clap_on_literals
long_call name = refl

pub show_json_call : (name : Text) → call_of (name ∷ codes "show" ∷ codes "--json" ∷ []) ≡ Some (ShowLong Json)
unfolding call_of faults_of clap_on_literals
show_json_call name = refl

pub long_json_call : (name : Text)
    → call_of (name ∷ codes "show" ∷ codes "--long" ∷ codes "--json" ∷ []) ≡ Some (ShowLong Json)
unfolding call_of faults_of clap_on_literals
long_json_call name = refl

help_fault : (name : Text) → faults_of (name ∷ codes "--help" ∷ []) ≡ kind.DisplayHelp ∷ []
unfolding faults_of clap_on_literals
help_fault name = refl

pub asks_help : (name : Text) → GetsHelp (name ∷ codes "--help" ∷ [])
asks_help name =
    let words = name ∷ codes "--help" ∷ [] in
    let among : IsAmong kind.DisplayHelp (faults_of words) = rw (help_fault name) (inl refl) in
    (no_call words kind.DisplayHelp among, inl among)

-- the word `help` answers with help, or else refuses a word behind it
help_word_fault : (name : Text)
    → faults_of (name ∷ codes "help" ∷ []) ≡ kind.DisplayHelp ∷ kind.InvalidSubcommand ∷ []
unfolding faults_of clap_on_literals
help_word_fault name = refl

pub asks_help_by_word : (name : Text) → GetsHelp (name ∷ codes "help" ∷ [])
asks_help_by_word name =
    let words = name ∷ codes "help" ∷ [] in
    let among : IsAmong kind.DisplayHelp (faults_of words) = rw (help_word_fault name) (inl refl) in
    (no_call words kind.DisplayHelp among, inl among)

version_fault : (name : Text) → faults_of (name ∷ codes "--version" ∷ []) ≡ kind.DisplayVersion ∷ []
unfolding faults_of clap_on_literals
version_fault name = refl

pub asks_version : (name : Text) → GetsHelp (name ∷ codes "--version" ∷ [])
asks_version name =
    let words = name ∷ codes "--version" ∷ [] in
    let among : IsAmong kind.DisplayVersion (faults_of words) = rw (version_fault name) (inl refl) in
    (no_call words kind.DisplayVersion among, inr among)

-- ---- workers that are named

-- what is so of the numbers from 1 on below k + 1, and of k + 1
up_to : {P : ℕ → Type 0} (k : ℕ) → ((n : ℕ) → 1 ≤ n → n ≤ k → P n) → P (suc k) → (n : ℕ) → 1 ≤ n → n ≤ suc k → P n
up_to {P} k before last n some most = by (cases_lt n (suc k))
  where
    by : (n < suc k) ⊎ (suc k ≤ n) → P n
    by (inl less) = before n some (omega (arith, less))
    by (inr reached) = let is : suc k ≡ n = omega (arith, reached, most) in subst P is last

-- the arguments that ask for this number of workers, of this subcommand
abbrev pub asking : Text → Text → ℕ → List Text
asking command name n = name ∷ command ∷ codes "--workers" ∷ decimal n ∷ []

abbrev pub Asks : Text → ℕ → Type 0
Asks name n = AuditsBy n (asking (codes "audit") name n) × ExplainsBy n (asking (codes "explain") name n)

asks_1 : (name : Text) → Asks name 1
unfolding call_of faults_of workers_of clap_on_literals digits
asks_1 name = ((refl, refl), (refl, refl))

asks_2 : (name : Text) → Asks name 2
unfolding call_of faults_of workers_of clap_on_literals digits
asks_2 name = ((refl, refl), (refl, refl))

asks_3 : (name : Text) → Asks name 3
unfolding call_of faults_of workers_of clap_on_literals digits
asks_3 name = ((refl, refl), (refl, refl))

asks_4 : (name : Text) → Asks name 4
unfolding call_of faults_of workers_of clap_on_literals digits
asks_4 name = ((refl, refl), (refl, refl))

asks_5 : (name : Text) → Asks name 5
unfolding call_of faults_of workers_of clap_on_literals digits
asks_5 name = ((refl, refl), (refl, refl))

asks_6 : (name : Text) → Asks name 6
unfolding call_of faults_of workers_of clap_on_literals digits
asks_6 name = ((refl, refl), (refl, refl))

asks_7 : (name : Text) → Asks name 7
unfolding call_of faults_of workers_of clap_on_literals digits
asks_7 name = ((refl, refl), (refl, refl))

asks_8 : (name : Text) → Asks name 8
unfolding call_of faults_of workers_of clap_on_literals digits
asks_8 name = ((refl, refl), (refl, refl))

asks_9 : (name : Text) → Asks name 9
unfolding call_of faults_of workers_of clap_on_literals digits
asks_9 name = ((refl, refl), (refl, refl))

asks_10 : (name : Text) → Asks name 10
unfolding call_of faults_of workers_of clap_on_literals digits
asks_10 name = ((refl, refl), (refl, refl))

asks_11 : (name : Text) → Asks name 11
unfolding call_of faults_of workers_of clap_on_literals digits
asks_11 name = ((refl, refl), (refl, refl))

asks_12 : (name : Text) → Asks name 12
unfolding call_of faults_of workers_of clap_on_literals digits
asks_12 name = ((refl, refl), (refl, refl))

asks_13 : (name : Text) → Asks name 13
unfolding call_of faults_of workers_of clap_on_literals digits
asks_13 name = ((refl, refl), (refl, refl))

asks_14 : (name : Text) → Asks name 14
unfolding call_of faults_of workers_of clap_on_literals digits
asks_14 name = ((refl, refl), (refl, refl))

asks_15 : (name : Text) → Asks name 15
unfolding call_of faults_of workers_of clap_on_literals digits
asks_15 name = ((refl, refl), (refl, refl))

asks_16 : (name : Text) → Asks name 16
unfolding call_of faults_of workers_of clap_on_literals digits
asks_16 name = ((refl, refl), (refl, refl))

both_ask : (name : Text) (n : ℕ) → 1 ≤ n → n ≤ 16 → Asks name n
both_ask name = up_to 15 (up_to 14
    (up_to 13 (up_to 12 (up_to 11
    (up_to 10 (up_to 9 (up_to 8
    (up_to 7 (up_to 6 (up_to 5
    (up_to 4 (up_to 3 (up_to 2 (up_to 1 (up_to 0 (λ n some most. absurd (omega (arith, some, most))) (asks_1 name))
    (asks_2 name)) (asks_3 name)) (asks_4 name)) (asks_5 name)) (asks_6 name)) (asks_7 name)) (asks_8 name))
    (asks_9 name)) (asks_10 name)) (asks_11 name)) (asks_12 name)) (asks_13 name)) (asks_14 name)) (asks_15 name))
    (asks_16 name)

pub asks : (name : Text) (n : ℕ) → 1 ≤ n → n ≤ 16 → AuditsBy n (asking (codes "audit") name n)
asks name n some most = (both_ask name n some most).0

pub explain_asks : (name : Text) (n : ℕ) → 1 ≤ n → n ≤ 16 → ExplainsBy n (asking (codes "explain") name n)
explain_asks name n some most = (both_ask name n some most).1

-- a number beside those is no call
pub no_worker : (name : Text) → CallsNothing (asking (codes "audit") name 0)
unfolding call_of faults_of clap_on_literals digits
no_worker name = refl

pub too_many : (name : Text) → CallsNothing (asking (codes "audit") name 17)
unfolding call_of faults_of clap_on_literals digits
too_many name = refl

pub alone : (name : Text) → workers_of (name ∷ codes "audit" ∷ []) ≡ Some 1
unfolding workers_of clap_on_literals
alone name = refl

-- ---- files that are named

pub no_name : (name : Text) → files_of (name ∷ codes "audit" ∷ []) ≡ codes "-" ∷ []
unfolding files_of clap_on_literals
no_name name = refl

pub two_names : (name : Text)
    → files_of (name ∷ codes "audit" ∷ codes "a" ∷ codes "b" ∷ []) ≡ codes "a" ∷ codes "b" ∷ []
unfolding files_of clap_on_literals
two_names name = refl

pub two_are_audited : (name : Text) → CallsAudit Plain (name ∷ codes "audit" ∷ codes "a" ∷ codes "b" ∷ [])
unfolding call_of faults_of clap_on_literals
two_are_audited name = refl

pub two_are_not_run : (name : Text) → CallsNothing (name ∷ codes "run" ∷ codes "a" ∷ codes "b" ∷ [])
unfolding call_of faults_of clap_on_literals
two_are_not_run name = refl

pub after_dashes : (name : Text)
    → files_of (name ∷ codes "show" ∷ codes "--" ∷ codes "--long" ∷ []) ≡ codes "--long" ∷ []
unfolding files_of clap_on_literals
after_dashes name = refl
