-- Which words after the program's name are which call, and which are none. docs/USING.md, "Commands".
use Rattle.std.specs.Prelude.{◌≡◌, ℕ, ◌+◌, ◌≤◌, List, [], ◌∷◌, Some, codes, decimal}
use Rattle.eve_grammar.specs.declared.limits.TheConstants.{MOST_AUDIT_WORKERS}
use Rattle.eve_workload.specs.declared.mixer.Mixer.TheVariants.{First, Whole}
use Rattle.eve_tool_arguments.specs.declared.format.Format.TheVariants.{One, Two}
use Rattle.eve_tool_arguments.specs.declared.style.Style.TheVariants.{Json, Plain}
use Rattle.eve_tool_arguments.specs.Arguments.{Audit, AuditsBy, CallsAudit, CallsNothing, Explain, ExplainsBy}
use Rattle.eve_tool_arguments.specs.Arguments.{GetsHelp, Run, Show, ShowLong, files_of, workers_of}
use Rattle.eve_tool.specs.Calls.{Calls}

-- The words that are calls or ask for help; how many workers those of `audit` and `explain` ask for; which files are
-- named; and some that are no call. The first of the arguments is the program's name.
pub record WordsAreCalls : Type 0 where
  pub audit : (name : List ℕ) → Calls (Audit Plain) (name ∷ codes "audit" ∷ [])
  pub json : (name : List ℕ) → Calls (Audit Json) (name ∷ codes "audit" ∷ codes "--json" ∷ [])
  pub no_json : (name : List ℕ) → CallsNothing (name ∷ codes "run" ∷ codes "--json" ∷ [])
  pub explain : (name : List ℕ) → Calls (Explain Plain) (name ∷ codes "explain" ∷ [])
  pub explain_json : (name : List ℕ) → Calls (Explain Json) (name ∷ codes "explain" ∷ codes "--json" ∷ [])
  pub show : (name : List ℕ) → Calls Show (name ∷ codes "show" ∷ [])
  pub show_long : (name : List ℕ) → Calls (ShowLong Plain) (name ∷ codes "show" ∷ codes "--long" ∷ [])
  pub show_json : (name : List ℕ) → Calls (ShowLong Json) (name ∷ codes "show" ∷ codes "--json" ∷ [])
  pub show_long_json : (name : List ℕ)
      → Calls (ShowLong Json) (name ∷ codes "show" ∷ codes "--long" ∷ codes "--json" ∷ [])
  pub run : (name : List ℕ) → Calls (Run First One) (name ∷ codes "run" ∷ [])
  pub run_whole : (name : List ℕ)
      → Calls (Run Whole One) (name ∷ codes "run" ∷ codes "--mixer" ∷ codes "whole" ∷ [])
  pub run_first : (name : List ℕ)
      → Calls (Run First One) (name ∷ codes "run" ∷ codes "--mixer" ∷ codes "first" ∷ [])
  pub run_format_1 : (name : List ℕ) → Calls (Run First One) (name ∷ codes "run" ∷ codes "--format" ∷ codes "1" ∷ [])
  pub run_format_2 : (name : List ℕ) → Calls (Run First Two) (name ∷ codes "run" ∷ codes "--format" ∷ codes "2" ∷ [])
  pub run_whole_format_2 : (name : List ℕ)
      → Calls (Run Whole Two) (name ∷ codes "run" ∷ codes "--mixer" ∷ codes "whole" ∷ codes "--format" ∷ codes "2" ∷ [])
  pub no_format : (name : List ℕ) → CallsNothing (name ∷ codes "run" ∷ codes "--format" ∷ codes "3" ∷ [])
  pub two_formats : (name : List ℕ)
      → CallsNothing (name ∷ codes "run" ∷ codes "--format" ∷ codes "2" ∷ codes "--format" ∷ codes "2" ∷ [])
  pub one_worker : (name : List ℕ) → workers_of (name ∷ codes "audit" ∷ []) ≡ Some 1
  pub workers : (name : List ℕ) (n : ℕ) → 1 ≤ n → n ≤ MOST_AUDIT_WORKERS
      → AuditsBy n (name ∷ codes "audit" ∷ codes "--workers" ∷ decimal n ∷ [])
  pub explain_workers : (name : List ℕ) (n : ℕ) → 1 ≤ n → n ≤ MOST_AUDIT_WORKERS
      → ExplainsBy n (name ∷ codes "explain" ∷ codes "--workers" ∷ decimal n ∷ [])
  pub no_worker : (name : List ℕ) → CallsNothing (name ∷ codes "audit" ∷ codes "--workers" ∷ decimal 0 ∷ [])
  pub too_many : (name : List ℕ)
      → CallsNothing (name ∷ codes "audit" ∷ codes "--workers" ∷ decimal (MOST_AUDIT_WORKERS + 1) ∷ [])
  pub no_file : (name : List ℕ) → files_of (name ∷ codes "audit" ∷ []) ≡ codes "-" ∷ []
  pub two_files : (name : List ℕ) → CallsAudit Plain (name ∷ codes "audit" ∷ codes "a" ∷ codes "b" ∷ [])
  pub in_order : (name : List ℕ)
      → files_of (name ∷ codes "audit" ∷ codes "a" ∷ codes "b" ∷ []) ≡ codes "a" ∷ codes "b" ∷ []
  pub one_file : (name : List ℕ) → CallsNothing (name ∷ codes "run" ∷ codes "a" ∷ codes "b" ∷ [])
  pub after_dashes : (name : List ℕ)
      → files_of (name ∷ codes "show" ∷ codes "--" ∷ codes "--long" ∷ []) ≡ codes "--long" ∷ []
  pub help : (name : List ℕ) → GetsHelp (name ∷ codes "--help" ∷ [])
  pub help_word : (name : List ℕ) → GetsHelp (name ∷ codes "help" ∷ [])
  pub version : (name : List ℕ) → GetsHelp (name ∷ codes "--version" ∷ [])
