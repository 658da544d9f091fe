-- What is said of bytes of which only a prefix was read.
use Rattle.std.proofs.Common.{◌≡◌, ℕ, ◌+◌, ◌^◌, ◌<◌, ◌≤◌, inl, inr, Bool, true, false, ◌&&◌, List, [], length, take}
use Rattle.std.proofs.Common.{Some}
use Rattle.std.proofs.Common.{None, refl, ap, sym, subst, ◌∙◌, arith}
use Rattle.std.specs.Prelude.{IfSome, IsFalse, Option, nat_le}
use Rattle.std.proofs.lemmas.Bool.{cases_lt, lt-leb}
use Rattle.std.proofs.lemmas.List.{length-take, take_all}
use Rattle.eve_audit.proofs.FirstFaults.{trace_phase}
use Rattle.eve_audit.specs.Verdict.{IsFirst, IsVerdict, SpellsAudited, Stands, in_form}
use Rattle.eve_audit.specs.Verdict.{in_trace}
use Rattle.eve_audit.specs.declared.verdict.Verdict.{Verdict}
use Rattle.eve_audit.specs.declared.verdict.Verdict.TheVariants.{No, Yes}
use Rattle.eve_audit.specs.declared.verdict.Summary.{Summary}
use Rattle.eve_views.specs.Code.{code_number, phase_of}
use Rattle.eve_views.specs.Form.{IsUpTo, StandsInForm, is_sized, IsLeast, Precedes, IsFaultOutside}
use Rattle.eve_views.specs.declared.fault.Code.{Code}
use Rattle.eve_views.specs.declared.fault.Code.TheVariants as code
use Rattle.eve_views.specs.declared.fault.Fault.{Fault}
use Rattle.eve_views.proofs.WholeTraces.{spells_frames}
use Rattle.eve_tool.specs.Audit.{AuditsAs, Judges}
use Rattle.eve_explain.specs.Explained.{verdict_in}
use Rattle.eve_explain.specs.declared.explained.Explained.{Explained}
use Rattle.eve_tool.specs.Explain.{Explains}
use Rattle.eve_tool_arguments.specs.declared.style.Style.{Style}
use Rattle.eve_tool.specs.Lines.{status_of_verdict}
use Rattle.eve_tool.specs.Show.{AreLinesBefore, AreLinesIf, Shows, ShowsLong, is_countable}
use Rattle.eve_tool.specs.Writes.{WritesAll, WritesAllOf, WritesPrefix, WritesPrefixOf}

number-least : (c : Code) → 1 ≤ code_number c
number-least code.Length = omega arith
number-least _ = omega arith

is_length : (c : Code) → code_number c ≤ 1 → c ≡ code.Length
is_length code.Length least = refl
is_length _ least = absurd (omega arith)

unsized : (a b c : Bool) → b ≡ false → IsFalse (a && (b && c))
unsized true b c e = rw e refl
unsized false b c e = refl

too_long : (bytes : List ℕ) → 2 ^ 30 < length bytes → IsFalse (is_sized bytes)
too_long bytes long =
    unsized (nat_le 32 (length bytes)) (nat_le (length bytes) (2 ^ 30)) _ (lt-leb (length bytes) (2 ^ 30) long)

-- the fault of a list that is too long
abbrev length_fault : Fault
length_fault = record { code = code.Length; offset = 0; replica = None }

length_stands : (bytes : List ℕ) → 2 ^ 30 < length bytes → IsFaultOutside StandsInForm bytes length_fault
length_stands bytes long = record { stands = (refl, too_long bytes long); outside = refl }

at_prefix : (f : Fault) → IsUpTo f length_fault → (f.offset ≡ 0) × (code_number f.code ≤ 1)
at_prefix f (inl before) = absurd (omega arith)
at_prefix f (inr same) = same

first_of_all : (f g : Fault) → f.offset ≡ 0 → code_number f.code ≤ 1 → IsUpTo f g
first_of_all f g prefix low =
    let least = number-least g.code in
    elim (cases_lt f.offset g.offset) [ inl before ↦ inl before | inr reached ↦ inr (omega arith, omega arith) ]

-- bytes that are too long have one first fault, whatever they are
same_fault : (xs ys : List ℕ) (f : Fault) → 2 ^ 30 < length xs → 2 ^ 30 < length ys
    → IsLeast (IsFaultOutside StandsInForm xs) f
    → IsLeast (IsFaultOutside StandsInForm ys) f
same_fault xs ys f long longer least =
    let prefix = at_prefix f (least.least length_fault (length_stands xs long)) in
    let is_its = is_length f.code prefix.1 in
    record {
      is = record {
        stands = subst (λ (c : Code). StandsInForm c ys f.offset) (sym is_its) (prefix.0, too_long ys longer);
        outside = least.is.outside;
      };
      least = λ g stands. first_of_all f g prefix.0 prefix.1;
    }

-- a number of bytes that no trace has is enough to say what is to be said of all of them
pub Shows-cut : (limit : ℕ) (bytes text : List ℕ) (status : ℕ) → 2 ^ 30 ≤ limit
    → Shows (take (limit + 1) bytes) text status → Shows bytes text status
Shows-cut limit bytes text status enough shows =
    elim (cases_lt (limit + 1) (length bytes)) [
      | inl longer ↦ cut limit bytes text status enough longer shows
      | inr all ↦ subst (λ (b : List ℕ). Shows b text status) (take_all (limit + 1) bytes all) shows
    ] where
      cut : (limit : ℕ) (bytes text : List ℕ) (status : ℕ) → 2 ^ 30 ≤ limit → limit + 1 < length bytes
          → Shows (take (limit + 1) bytes) text status → Shows bytes text status
      cut limit bytes text status enough longer (inl trace) =
          let frames = spells_frames (take (limit + 1) bytes) trace.0.trace trace.0.spelled in
          absurd (omega (arith, length-take (limit + 1) bytes, frames.short))
      cut limit bytes text status enough longer (inr found) =
          let read : 2 ^ 30 < length (take (limit + 1) bytes) = omega (arith, length-take (limit + 1) bytes) in
          let long : 2 ^ 30 < length bytes = omega arith in
          inr (
            record {
              fault = found.0.fault;
              least = same_fault (take (limit + 1) bytes) bytes found.0.fault read long
                  found.0.least;
              line = found.0.line;
            },
            found.1,
          )

-- no lines stand before it
uncountable : (bytes : List ℕ) → 2 ^ 30 < length bytes → is_countable bytes ≡ false
uncountable bytes long =
    rw (lt-leb (length bytes) (2 ^ 30) long) (none (nat_le 32 (length bytes)))
  where
    none : (b : Bool) → (b && false) ≡ false
    none true = refl
    none false = refl

header_lines : (style : Style) (xs ys : List ℕ) (f : Fault) (text : List ℕ) → 2 ^ 30 < length xs → 2 ^ 30 < length ys
    → IsLeast (IsFaultOutside StandsInForm xs) f → AreLinesBefore style f.code xs f.offset text
    → AreLinesBefore style f.code ys f.offset text
header_lines style xs ys f text long longer least are =
    let prefix = at_prefix f (least.least length_fault (length_stands xs long)) in
    let is_its = is_length f.code prefix.1 in
    let none : text ≡ [] = subst (λ (b : Bool). AreLinesIf style b xs text) (uncountable xs long)
    (subst (λ (c : Code). AreLinesBefore style c xs f.offset text) is_its are) in
    subst (λ (c : Code). AreLinesBefore style c ys f.offset text) (sym is_its)
    (subst (λ (b : Bool). AreLinesIf style b ys text) (sym (uncountable ys longer)) none)

-- a number of bytes that no trace has is enough to say what is to be said of all of them
pub ShowsLong-cut : (style : Style) (limit : ℕ) (bytes text : List ℕ) (status : ℕ) → 2 ^ 30 ≤ limit
    → ShowsLong style (take (limit + 1) bytes) text status → ShowsLong style bytes text status
ShowsLong-cut style limit bytes text status enough shows =
    elim (cases_lt (limit + 1) (length bytes)) [
      | inl longer ↦ cut limit bytes text status enough longer shows
      | inr all ↦ subst (λ (b : List ℕ). ShowsLong style b text status) (take_all (limit + 1) bytes all) shows
    ] where
      cut : (limit : ℕ) (bytes text : List ℕ) (status : ℕ) → 2 ^ 30 ≤ limit → limit + 1 < length bytes
          → ShowsLong style (take (limit + 1) bytes) text status → ShowsLong style bytes text status
      cut limit bytes text status enough longer (inl trace) =
          let frames = spells_frames (take (limit + 1) bytes) trace.0.trace trace.0.spelled in
          absurd (omega (arith, length-take (limit + 1) bytes, frames.short))
      cut limit bytes text status enough longer (inr found) =
          let read : 2 ^ 30 < length (take (limit + 1) bytes) = omega (arith, length-take (limit + 1) bytes) in
          let long : 2 ^ 30 < length bytes = omega arith in
          inr (
            record {
              fault = found.0.fault;
              least = same_fault (take (limit + 1) bytes) bytes found.0.fault read long
                  found.0.least;
              before = found.0.before;
              lines = header_lines style (take (limit + 1) bytes) bytes found.0.fault found.0.before read long
                  found.0.least
                  found.0.lines;
              is = found.0.is;
            },
            found.1,
          )

-- ---- verdicts

phase-least : (c : Code) → 1 ≤ phase_of c
phase-least code.Length = omega arith
phase-least _ = omega arith

-- what stands as Length is a fault of form
stands_outside : (bytes : List ℕ) (f : Fault) → f.code ≡ code.Length → Stands bytes f → f.replica ≡ None
stands_outside bytes f is_length (in_form is) = is.outside
stands_outside bytes f is_length (in_trace t spells is) =
    absurd (omega (arith, trace_phase t f is, ap phase_of is_length))

-- the fault precedes Length, so it is Length
precedes_length : (f : Fault) → Precedes f length_fault → (f.offset ≡ 0) × (f.code ≡ code.Length)
precedes_length f (inl before) = absurd (omega (arith, before, phase-least f.code))
precedes_length f (inr up_to) = let prefix = at_prefix f up_to.1 in (prefix.0, is_length f.code prefix.1)

precedes_all : (f g : Fault) → f.offset ≡ 0 → f.code ≡ code.Length → Precedes f g
precedes_all f g prefix is_length =
    let low : phase_of f.code ≡ 1 = ap phase_of is_length in
    let number : code_number f.code ≡ 1 = ap code_number is_length in
    elim (cases_lt 1 (phase_of g.code)) [
      | inl later ↦ inl (omega (arith, low, later))
      | inr same ↦ inr (omega (arith, low, same, phase-least g.code), first_of_all f g prefix (omega (arith, number)))
    ]

-- bytes that are too long have one first fault, whatever they are
same_first : (xs ys : List ℕ) (f : Fault) → 2 ^ 30 < length xs → 2 ^ 30 < length ys → IsFirst xs f → IsFirst ys f
same_first xs ys f long longer first =
    let is_its = precedes_length f (first.first length_fault (in_form (length_stands xs long))) in
    record {
      stands = in_form (record {
        stands = subst (λ (c : Code). StandsInForm c ys f.offset) (sym is_its.1) (is_its.0, too_long ys longer);
        outside = stands_outside xs f is_its.1 first.stands;
      });
      first = λ g stands. precedes_all f g is_its.0 is_its.1;
    }

same_verdict : (xs ys : List ℕ) (v : Verdict) → 2 ^ 30 < length xs → 2 ^ 30 < length ys → IsVerdict xs v
    → IsVerdict ys v
same_verdict xs ys (Yes s) long longer is = absurd (is.2 length_fault (in_form (length_stands xs long)))
same_verdict xs ys (No f) long longer is = same_first xs ys f long longer is

-- of which no verdict is yes
no_yes : (xs ys : List ℕ) (v : Verdict) → 2 ^ 30 < length xs → IsVerdict xs v → (s : Summary) → v ≡ Yes s
    → SpellsAudited ys
no_yes xs ys v long is s told =
    let none = subst (IsVerdict xs) told is in absurd (none.2 length_fault (in_form (length_stands xs long)))

-- the verdict on a number of bytes that no trace has is the verdict on all of them
pub Judges-cut : (limit : ℕ) (bytes : List ℕ) (v : Verdict) → 2 ^ 30 ≤ limit → Judges (take (limit + 1) bytes) v
    → Judges bytes v
Judges-cut limit bytes v enough judges =
    elim (cases_lt (limit + 1) (length bytes)) [
      | inl longer ↦
          let read : 2 ^ 30 < length (take (limit + 1) bytes) = omega (arith, length-take (limit + 1) bytes) in
          let long : 2 ^ 30 < length bytes = omega arith in
          record {
            is = same_verdict (take (limit + 1) bytes) bytes v read long judges.is;
            yes = no_yes (take (limit + 1) bytes) bytes v read judges.is;
          }
      | inr all ↦ subst (λ (b : List ℕ). Judges b v) (take_all (limit + 1) bytes all) judges
    ]

pub AuditsAs-cut : (printed : Verdict → List ℕ) (limit : ℕ) (bytes text : List ℕ) (status : ℕ) → 2 ^ 30 ≤ limit
    → AuditsAs printed (take (limit + 1) bytes) text status → AuditsAs printed bytes text status
AuditsAs-cut printed limit bytes text status enough audits =
    let judges = Judges-cut limit bytes audits.verdict enough (record { is = audits.is; yes = audits.yes }) in
    record {
      verdict = audits.verdict;
      is = judges.is;
      yes = judges.yes;
      line = audits.line;
      ends = audits.ends;
    }

-- ---- what was written

-- where what is said of the prefix of the bytes is said of all, so is what was written of it
pub WritesAllOf-cut : (says : List ℕ → List ℕ → ℕ → Type 0) (limit : ℕ) (known : Option (List ℕ)) (read : List ℕ)
    (old new : Option (List ℕ)) (status : ℕ)
    → ((bytes text : List ℕ) (s : ℕ) → says (take (limit + 1) bytes) text s → says bytes text s)
    → IfSome known (λ bytes. read ≡ take (limit + 1) bytes) → WritesAll says read old new status
    → WritesAllOf says known old new status
WritesAllOf-cut says limit None read old new status cuts cut all = tt
WritesAllOf-cut says limit (Some bytes) read old new status cuts cut all = record {
  text = all.text;
  said = cuts bytes all.text status (subst (λ (b : List ℕ). says b all.text status) cut all.said);
  written = all.written;
}

pub WritesPrefixOf-cut : (says : List ℕ → List ℕ → ℕ → Type 0) (limit : ℕ) (known : Option (List ℕ)) (read : List ℕ)
    (old new : Option (List ℕ))
    → ((bytes text : List ℕ) (s : ℕ) → says (take (limit + 1) bytes) text s → says bytes text s)
    → IfSome known (λ bytes. read ≡ take (limit + 1) bytes) → WritesPrefix says read old new
    → WritesPrefixOf says known old new
WritesPrefixOf-cut says limit None read old new cuts cut prefix = tt
WritesPrefixOf-cut says limit (Some bytes) read old new cuts cut prefix = record {
  text = prefix.text;
  status = prefix.status;
  said = cuts bytes prefix.text prefix.status
      (subst (λ (b : List ℕ). says b prefix.text prefix.status) cut prefix.said);
  written = prefix.written;
}

-- where the status is that of a yes, the bytes spell a trace that is audited
pub audited : {printed : Verdict → List ℕ} (bytes text : List ℕ) (status : ℕ) → AuditsAs printed bytes text status
    → status ≡ 0 → SpellsAudited bytes
audited bytes text status audits is = by audits.verdict (sym audits.ends ∙ is) audits.yes
  where
    by : (v : Verdict) → status_of_verdict v ≡ 0 → ((s : Summary) → v ≡ Yes s → SpellsAudited bytes)
        → SpellsAudited bytes
    by (Yes s) e said = said s refl
    by (No f) e said = absurd (omega (arith, e))

pub audited_of : (printed : Verdict → List ℕ) (known : Option (List ℕ)) (old new : Option (List ℕ)) (status : ℕ)
    → WritesAllOf (AuditsAs printed) known old new status → status ≡ 0 → IfSome known SpellsAudited
audited_of printed None old new status all is = tt
audited_of printed (Some bytes) old new status all is = audited bytes all.text status all.said is

pub explained_of : (printed : Explained → List ℕ) (known : Option (List ℕ)) (old new : Option (List ℕ)) (status : ℕ)
    → WritesAllOf (Explains printed) known old new status → status ≡ 0 → IfSome known SpellsAudited
explained_of printed None old new status all is = tt
explained_of printed (Some bytes) old new status all is =
    by (verdict_in all.said.explained) (sym all.said.ends ∙ is) all.said.judges.yes
  where
    by : (v : Verdict) → status_of_verdict v ≡ 0 → ((s : Summary) → v ≡ Yes s → SpellsAudited bytes)
        → SpellsAudited bytes
    by (Yes s) e said = said s refl
    by (No f) e said = absurd (omega (arith, e))
