-- What `explain` says of bytes. docs/USING.md, "Lines and statuses"; docs/MODEL.md, "Verdict" and "Evidence".
use Rattle.std.specs.Prelude.{◌≡◌, ℕ, ◌+◌, Bool, true, false, List, ◌++◌, codes, take}
use Rattle.std.specs.List.{flat_map}
use Rattle.eve_grammar.specs.declared.limits.TheConstants.{MOST_BYTES}
use Rattle.eve_evidence.specs.declared.evidence.Evidence.TheVariants as shown
use Rattle.eve_explain.specs.Explained.{IsExplained, verdict_in}
use Rattle.eve_explain.specs.declared.explained.Explained.{Explained}
use Rattle.eve_explain.specs.declared.explained.Explained.TheVariants.{No, Yes}
use Rattle.eve_reasons.specs.Counts.{count_lines}
use Rattle.eve_reasons.specs.Lines.{ended}
use Rattle.eve_reasons.specs.Reasons.{reason_lines}
use Rattle.eve_objects.specs.Evidence.{line_object}
use Rattle.eve_objects.specs.Members.{array_member, object_line}
use Rattle.eve_tool.specs.Audit.{Judges}
use Rattle.eve_tool.specs.Lines.{status_of_verdict, verdict_line}
use Rattle.eve_tool.specs.Objects.{verdict_members}
use Rattle.eve_tool_arguments.specs.declared.style.Style.{Style}
use Rattle.eve_tool_arguments.specs.declared.style.Style.TheVariants.{Json, Plain}

-- the lines behind the verdict's: of a yes the counts, of a no the evidence
abbrev pub lines_behind : Explained → List (List ℕ)
lines_behind (Yes s counts) = count_lines counts
lines_behind (No f evidence) = reason_lines evidence

-- their text, a line feed at the end of each
abbrev pub text_behind : Explained → List ℕ
text_behind x = flat_map ended (lines_behind x)

-- as many of the bytes as are read: at most one more than a trace may have
abbrev pub read_of : List ℕ → List ℕ
read_of bytes = take (MOST_BYTES + 1) bytes

-- whether what is a number in the lines behind the verdict's is told as one: not where it may be a name or hexadecimal
-- digits
abbrev pub has_numbers : Explained → Bool
has_numbers (No f (shown.Magic found)) = false
has_numbers (No f (shown.SameName name first first_at)) = false
has_numbers _ = true

-- the object of an explanation: the members of the verdict, and then an array with an object for each line behind it
abbrev pub explained_object : Explained → List ℕ
explained_object x =
    object_line (verdict_members (verdict_in x)
    ++ array_member (codes "evidence") (flat_map (line_object (has_numbers x)) (lines_behind x)))

-- what is printed of an explanation
abbrev pub explained_text : Style → Explained → List ℕ
explained_text Plain x = verdict_line (verdict_in x) ++ text_behind x
explained_text Json x = explained_object x

-- The text is what is printed of an explanation: of the verdict on the bytes, and of what shows that verdict, which are
-- the counts of a yes, the evidence of a no. The number is the exit status of `audit`.
pub record Explains (printed : Explained → List ℕ) (bytes text : List ℕ) (status : ℕ) : Type 0 where
  pub explained : Explained
  pub judges : Judges bytes (verdict_in explained)
  pub shown : IsExplained (read_of bytes) explained
  pub whole : text ≡ printed explained
  pub ends : status ≡ status_of_verdict (verdict_in explained)
