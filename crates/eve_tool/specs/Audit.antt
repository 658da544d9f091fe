-- What `audit` says of bytes. docs/USING.md, "Lines and statuses"; docs/MODEL.md, "Verdict".
use Rattle.std.specs.Prelude.{◌≡◌, ℕ, List, [], ◌++◌, codes, ⊤}
use Rattle.eve_audit.specs.Verdict.{IsVerdict, SpellsAudited}
use Rattle.eve_audit.specs.declared.verdict.Verdict.{Verdict}
use Rattle.eve_audit.specs.declared.verdict.Summary.{Summary}
use Rattle.eve_audit.specs.declared.verdict.Verdict.TheVariants.{Yes}
use Rattle.eve_tool.specs.Lines.{status_of_verdict, verdict_line}
use Rattle.eve_objects.specs.Members.{string_member}
use Rattle.eve_tool.specs.Objects.{verdict_object}
use Rattle.eve_tool.specs.declared.fault.ToolFault.{ToolFault}
use Rattle.eve_tool.specs.declared.fault.ToolFault.TheVariants as fault
use Rattle.eve_tool_arguments.specs.declared.style.Style.{Style}
use Rattle.eve_tool_arguments.specs.declared.style.Style.TheVariants.{Json, Plain}

-- what is printed of a verdict
abbrev pub verdict_text : Style → Verdict → List ℕ
verdict_text Plain v = verdict_line v
verdict_text Json v = verdict_object [] v

-- what is printed of the verdict on one of several files, which has this name
abbrev pub named_text : Style → List ℕ → Verdict → List ℕ
named_text Plain name v = name ++ (codes ": " ++ verdict_line v)
named_text Json name v = verdict_object (string_member (codes "file") name) v

-- the text is what is printed of the verdict on the bytes, and the number is the exit status; where the verdict is yes,
-- the bytes spell a trace that is audited
pub record AuditsAs (printed : Verdict → List ℕ) (bytes text : List ℕ) (status : ℕ) : Type 0 where
  pub verdict : Verdict
  pub is : IsVerdict bytes verdict
  pub yes : (s : Summary) → verdict ≡ Yes s → SpellsAudited bytes
  pub line : text ≡ printed verdict
  pub ends : status ≡ status_of_verdict verdict

-- the text is the line of the verdict
abbrev pub Audits : List ℕ → List ℕ → ℕ → Type 0
Audits = AuditsAs verdict_line

-- ---- before it is printed

-- it is the verdict on the bytes, and yes only where they spell a trace that is audited
pub record Judges (bytes : List ℕ) (verdict : Verdict) : Type 0 where
  pub is : IsVerdict bytes verdict
  pub yes : (s : Summary) → verdict ≡ Yes s → SpellsAudited bytes

-- why there is no verdict on an input; `failed` says that the input failed
abbrev pub StopsJudging : Type 0 → ToolFault → Type 0
StopsJudging failed fault.Read = failed
StopsJudging failed fault.Random = ⊤
StopsJudging failed fault.Memory = ⊤
StopsJudging failed _ = ⊥
