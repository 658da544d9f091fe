-- What is said of several files, one after the other.
use Rattle.std.proofs.Common.{◌≡◌, ◌∙◌, ℕ, ◌<◌, ◌≤◌, ◌⊎◌, inl, inr, max, List, [], ◌∷◌, ◌++◌, Some, None}
use Rattle.std.proofs.Common.{append-nil, append_assoc, ap, arith, length, refl, subst, sym, take}
use Rattle.std.specs.Prelude.{IfSome, OnErr, Option, Result, Ok, Err}
use Rattle.std.specs.Io.KnownBytes.{Appends, append_known}
use Rattle.std.proofs.KnownBytes.{Appends-trans}
use Rattle.std.proofs.lemmas.List.{take_all}
use Rattle.eve_audit.specs.Verdict.{SpellsAudited}
use Rattle.eve_streams.specs.Buffers.{held_bytes}
use Rattle.eve_streams.specs.declared.buffered.Buffered.{Buffered}
use Rattle.eve_tool.specs.Audit.{AuditsAs, Judges, named_text, verdict_text}
use Rattle.eve_tool.specs.Fault.{status_of}
use Rattle.eve_tool.specs.Files.{AllSpellAudited, JudgesAll, JudgesFile, JudgesFiles, ServesCall}
use Rattle.eve_tool.specs.Files.{StopsAmong}
use Rattle.eve_tool.specs.Files.{all_bytes, all_failures}
use Rattle.eve_tool.specs.Lines.{status_of_verdict}
use Rattle.eve_tool.specs.Writes.{WritesAll, WritesAllOf}
use Rattle.eve_audit.specs.declared.verdict.Verdict.{Verdict}
use Rattle.eve_tool.specs.declared.fault.ToolFault.{ToolFault}
use Rattle.eve_tool.specs.declared.fault.ToolFault.TheVariants as fault
use Rattle.eve_tool.specs.declared.files.OpenFault.{OpenFault}
use Rattle.eve_tool_arguments.specs.Arguments.{Audit}
use Rattle.eve_tool_arguments.specs.declared.style.Style.{Style}
use Rattle.eve_tool.proofs.CutInput.{audited, audited_of}
use Rattle.eve_tool.proofs.Judging.{audits_as}

-- what is so of what an input had is so of the bytes of its file, where they are known
pub of_file : (P : List ℕ → Type 0) (known input : Option (List ℕ)) → IfSome known (λ bytes. input ≡ Some bytes)
    → IfSome input P → IfSome known P
of_file P None input is holds = tt
of_file P (Some bytes) input is holds = subst (λ (o : Option (List ℕ)). IfSome o P) is holds

-- what is printed of a verdict on an input is what is said of its bytes
pub named_as : (style : Style) (name : List ℕ) (known : Option (List ℕ)) (v : Verdict) (text : List ℕ) (status : ℕ)
    → IfSome known (λ bytes. Judges bytes v) → text ≡ named_text style name v → status ≡ status_of_verdict v
    → IfSome known (λ bytes. AuditsAs (named_text style name) bytes text status)
named_as style name None v text status judges is ends = tt
named_as style name (Some bytes) v text status judges is ends =
    subst (λ (t : List ℕ). AuditsAs (named_text style name) bytes t status) (sym is)
    (audits_as (named_text style name) bytes v status judges ends)

pub flushed : (a b : Option (List ℕ)) (held left : List ℕ) → Appends a b held → left ≡ []
    → Appends (append_known a held) (append_known b left) []
flushed None b held left sent none = tt
flushed (Some xs) None held left sent none = absurd sent
flushed (Some xs) (Some ys) held left sent none =
    ap (λ l. l ++ left) sent ∙ ap (λ l. (xs ++ held) ++ l) none

most_of_fault : (why : ToolFault) → status_of why ≤ 3
most_of_fault fault.Read = omega arith
most_of_fault (fault.Line number) = omega arith
most_of_fault fault.TooLong = omega arith
most_of_fault fault.Broken = omega arith
most_of_fault fault.Write = omega arith
most_of_fault fault.Random = omega arith
most_of_fault fault.Memory = omega arith

least_of_fault : (why : ToolFault) → 2 ≤ status_of why
least_of_fault fault.Read = omega arith
least_of_fault (fault.Line number) = omega arith
least_of_fault fault.TooLong = omega arith
least_of_fault fault.Broken = omega arith
least_of_fault fault.Write = omega arith
least_of_fault fault.Random = omega arith
least_of_fault fault.Memory = omega arith

-- ---- many, over these streams and this folder

most_of : {I E : Type 0} (remaining : I → Option (List ℕ)) (fetched : I → ℕ) (told : E → Option (List ℕ))
    (untold : E → ℕ) (bytes : List ℕ → Option (List ℕ)) (refuses : List ℕ → OpenFault → Type 0) (style : Style)
    (name : List ℕ) (a b : E) (text : List ℕ) (status : ℕ)
    → JudgesFile remaining fetched told untold bytes refuses style name a b text status → status ≤ 3
most_of remaining fetched told untold bytes refuses style name a b text status (inl judged) =
    let less : status < 2 = judged.0 in omega (arith, less)
most_of remaining fetched told untold bytes refuses style name a b text status (inr (none, inl unopened)) =
    elim unopened.tells [
      | inl said ↦ (let two : status ≡ 2 = said.0 in omega (arith, two))
      | inr said ↦ (let three : status ≡ 3 = said.0 in omega (arith, three))
    ]
most_of remaining fetched told untold bytes refuses style name a b text status (inr (none, inr unjudged)) =
    let ends : status ≡ status_of unjudged.why = unjudged.ends in
    let most = most_of_fault unjudged.why in omega (arith, ends, most)

pub most_of_all : {I E : Type 0} (remaining : I → Option (List ℕ)) (fetched : I → ℕ) (told : E → Option (List ℕ))
    (untold : E → ℕ) (bytes : List ℕ → Option (List ℕ)) (refuses : List ℕ → OpenFault → Type 0) (style : Style)
    (names : List (List ℕ)) (a b : E) (text : List ℕ) (status : ℕ)
    → JudgesFiles remaining fetched told untold bytes refuses style names a b text status → status ≤ 3
most_of_all remaining fetched told untold bytes refuses style [] a b text status judges =
    let none : status ≡ 0 = judges.2 in omega (arith, none)
most_of_all remaining fetched told untold bytes refuses style (name ∷ names) a b text status
    (mid, first, rest, one, others, judges, more, joined, greatest) =
    let this = most_of remaining fetched told untold bytes refuses style name a mid first one judges in
    let behind = most_of_all remaining fetched told untold bytes refuses style names mid b rest others more in
    omega (arith, this, behind, greatest)

-- one more was judged, behind the others
pub one_more : {I E : Type 0} (remaining : I → Option (List ℕ)) (fetched : I → ℕ) (told : E → Option (List ℕ))
    (untold : E → ℕ) (bytes : List ℕ → Option (List ℕ)) (refuses : List ℕ → OpenFault → Type 0) (style : Style)
    (names : List (List ℕ)) (name : List ℕ) (a b c : E) (text first : List ℕ) (status one : ℕ)
    → JudgesFiles remaining fetched told untold bytes refuses style names a b text status
    → JudgesFile remaining fetched told untold bytes refuses style name b c first one
    → JudgesFiles remaining fetched told untold bytes refuses style (names ++ name ∷ []) a c (text ++ first)
    (max status one)
one_more {E = E} remaining fetched told untold bytes refuses style [] name a b c text first status one judges more = (
  c,
  first,
  [],
  one,
  0,
  subst (λ (e : E). JudgesFile remaining fetched told untold bytes refuses style name e c first one) judges.0 more,
  (refl, refl, refl),
  ap (λ l. l ++ first) judges.1 ∙ sym (append-nil first),
  (let none : status ≡ 0 = judges.2 in omega (arith, none)),
)
one_more remaining fetched told untold bytes refuses style (n ∷ names) name a b c text first status one
    (mid, prefix, rest, this, others, judges, behind, joined, greatest) more = (
      mid,
      prefix,
      rest ++ first,
      this,
      max others one,
      judges,
      one_more remaining fetched told untold bytes refuses style names name mid b c rest first others one behind more,
      ap (λ l. l ++ first) joined ∙ append_assoc prefix rest first,
      (let is : status ≡ max this others = greatest in omega (arith, is)),
    )

-- where the status of a file is that of a yes, it spells a trace that is audited
yes_of : {I E : Type 0} (remaining : I → Option (List ℕ)) (fetched : I → ℕ) (told : E → Option (List ℕ))
    (untold : E → ℕ) (bytes : List ℕ → Option (List ℕ)) (refuses : List ℕ → OpenFault → Type 0) (style : Style)
    (name : List ℕ) (a b : E) (text : List ℕ) (status : ℕ)
    → JudgesFile remaining fetched told untold bytes refuses style name a b text status → status ≡ 0
    → IfSome (bytes name) SpellsAudited
yes_of remaining fetched told untold bytes refuses style name a b text status (inl judged) zero =
    said (bytes name) judged.2
  where
    said : (known : Option (List ℕ))
        → IfSome known (λ bytes. AuditsAs (named_text style name) bytes text status) → IfSome known SpellsAudited
    said None says = tt
    said (Some bytes) says = audited bytes text status says zero
yes_of remaining fetched told untold bytes refuses style name a b text status (inr (none, inl unopened)) zero =
    elim unopened.tells [
      | inl said ↦ (let two : status ≡ 2 = said.0 in absurd (omega (arith, two, zero)))
      | inr said ↦ (let three : status ≡ 3 = said.0 in absurd (omega (arith, three, zero)))
    ]
yes_of remaining fetched told untold bytes refuses style name a b text status (inr (none, inr unjudged)) zero =
    let ends : status ≡ status_of unjudged.why = unjudged.ends in
    let least = least_of_fault unjudged.why in absurd (omega (arith, ends, least, zero))

-- and where the greatest is, each does
pub all_yes : {I E : Type 0} (remaining : I → Option (List ℕ)) (fetched : I → ℕ) (told : E → Option (List ℕ))
    (untold : E → ℕ) (bytes : List ℕ → Option (List ℕ)) (refuses : List ℕ → OpenFault → Type 0) (style : Style)
    (names : List (List ℕ)) (a b : E) (text : List ℕ) (status : ℕ)
    → JudgesFiles remaining fetched told untold bytes refuses style names a b text status → status ≡ 0
    → AllSpellAudited bytes names
all_yes remaining fetched told untold bytes refuses style [] a b text status judges zero = tt
all_yes remaining fetched told untold bytes refuses style (name ∷ names) a b text status
    (mid, first, rest, one, others, judges, more, joined, greatest) zero =
    let is : status ≡ max one others = greatest in
    let this : one ≡ 0 = omega (arith, is, zero) in
    let others_are : others ≡ 0 = omega (arith, is, zero) in (
      yes_of remaining fetched told untold bytes refuses style name a mid first one judges this,
      all_yes remaining fetched told untold bytes refuses style names mid b rest others more others_are,
    )

-- what was judged so far of all files, where these are left
pub record JudgedSoFar {I E O : Type 0} (remaining : I → Option (List ℕ)) (fetched : I → ℕ)
    (told : E → Option (List ℕ)) (untold : E → ℕ) (written : O → Option (List ℕ)) (failures : O → ℕ)
    (bytes : List ℕ → Option (List ℕ)) (refuses : List ℕ → OpenFault → Type 0) (style : Style)
    (all left : List (List ℕ)) (err_old err_new : E) (old new : Buffered O) (status : ℕ) : Type 0 where
  pub before : List (List ℕ)
  pub whole : all ≡ before ++ left
  pub text : List ℕ
  pub judges : JudgesFiles remaining fetched told untold bytes refuses style before err_old err_new text status
  pub sent : Appends (all_bytes written old) (all_bytes written new) text
  pub flushed : held_bytes new ≡ []
  pub fine : all_failures failures new ≡ all_failures failures old

pub so_far_more : {I E O : Type 0} (remaining : I → Option (List ℕ)) (fetched : I → ℕ)
    (told : E → Option (List ℕ)) (untold : E → ℕ) (written : O → Option (List ℕ)) (failures : O → ℕ)
    (bytes : List ℕ → Option (List ℕ)) (refuses : List ℕ → OpenFault → Type 0) (style : Style)
    (all : List (List ℕ)) (name : List ℕ) (left : List (List ℕ)) (a b c : E) (old mid new : Buffered O)
    (status one : ℕ) (first : List ℕ)
    → JudgedSoFar remaining fetched told untold written failures bytes refuses style all (name ∷ left) a b old mid
    status
    → JudgesFile remaining fetched told untold bytes refuses style name b c first one
    → Appends (all_bytes written mid) (all_bytes written new) first → held_bytes new ≡ []
    → all_failures failures new ≡ all_failures failures mid
    → JudgedSoFar remaining fetched told untold written failures bytes refuses style all left a c old new
    (max status one)
so_far_more remaining fetched told untold written failures bytes refuses style all name left a b c old mid new status
    one
    first so_far judges sent flushed fine = record {
      before = so_far.before ++ name ∷ [];
      whole = so_far.whole ∙ sym (append_assoc so_far.before (name ∷ []) left);
      text = so_far.text ++ first;
      judges = one_more remaining fetched told untold bytes refuses style so_far.before name a b c so_far.text first
          status
          one so_far.judges judges;
      sent = Appends-trans (all_bytes written old) (all_bytes written mid) (all_bytes written new) so_far.text first
          so_far.sent sent;
      flushed = flushed;
      fine = fine ∙ so_far.fine;
    }

pub all_judged : {I E O : Type 0} (remaining : I → Option (List ℕ)) (fetched : I → ℕ)
    (told : E → Option (List ℕ)) (untold : E → ℕ) (written : O → Option (List ℕ)) (failures : O → ℕ)
    (bytes : List ℕ → Option (List ℕ)) (refuses : List ℕ → OpenFault → Type 0) (style : Style)
    (all : List (List ℕ)) (a b : E) (old new : Buffered O) (status : ℕ)
    → JudgedSoFar remaining fetched told untold written failures bytes refuses style all [] a b old new status
    → JudgesAll remaining fetched told untold written failures bytes refuses style all a b old new status
all_judged remaining fetched told untold written failures bytes refuses style all a b old new status so_far = record {
  text = so_far.text;
  judges = subst (λ (names : List (List ℕ)). JudgesFiles remaining fetched told untold bytes refuses style names a b
      so_far.text status) (sym (so_far.whole ∙ append-nil so_far.before)) so_far.judges;
  sent = so_far.sent;
  flushed = so_far.flushed;
  fine = so_far.fine;
}

-- ---- sending

-- all of a line, and no more
pub sent_whole : (a b c : Option (List ℕ)) (line : List ℕ) → Appends a b line → Appends b c []
    → (n : ℕ) × Appends a c (take n line)
sent_whole a b c line sent more = (
  length line,
  subst (Appends a c) (append-nil line ∙ sym (take_all (length line) line (omega arith)))
      (Appends-trans a b c line [] sent more),
)

-- what holds of an error holds where there is one
pub at_fault : {A E : Type 0} (result : Result A E) (P : Type 0) → P → OnErr result P
at_fault (Ok x) P p = tt
at_fault (Err e) P p = p

-- what was said of an input was said of its file, where the file's bytes are known, and no more
pub said_of_file : (says : List ℕ → List ℕ → ℕ → Type 0) (known input old mid new : Option (List ℕ))
    (before status : ℕ) → IfSome known (λ bytes. input ≡ Some bytes) → WritesAllOf says input old mid before
    → Appends mid new [] → status ≡ before → WritesAllOf says known old new status
said_of_file says None input old mid new before status is all more same = tt
said_of_file says (Some bytes) input old mid new before status is all more same =
    let of : WritesAll says bytes old mid before = subst (λ (o : Option (List ℕ)). WritesAllOf says o old mid before) is
    all in
    record {
      text = of.text;
      said = subst (says bytes of.text) (sym same) of.said;
      written = subst (Appends old new) (append-nil of.text) (Appends-trans old mid new of.text [] of.written more);
    }

-- ---- calls

-- of several files
pub serves_several : {I E O : Type 0} (remaining : I → Option (List ℕ)) (fetched : I → ℕ)
    (told : E → Option (List ℕ)) (untold : E → ℕ) (written : O → Option (List ℕ)) (failures : O → ℕ)
    (bytes : List ℕ → Option (List ℕ)) (refuses : List ℕ → OpenFault → Type 0) (style : Style)
    (names : List (List ℕ)) (a b : E) (old new : Buffered O) (status : ℕ) → 2 ≤ length names
    → JudgesAll remaining fetched told untold written failures bytes refuses style names a b old new status
    ⊎ StopsAmong remaining fetched told untold written failures bytes refuses style names a b old new status
    → ServesCall remaining fetched told untold written failures bytes refuses (Audit style) names a b old new status
serves_several remaining fetched told untold written failures bytes refuses style [] a b old new status many is =
    absurd (omega (arith, many))
serves_several remaining fetched told untold written failures bytes refuses style (n ∷ []) a b old new status many is =
    absurd (omega (arith, many))
serves_several remaining fetched told untold written failures bytes refuses style (n ∷ m ∷ names) a b old new status
    many is = is

-- a yes
pub call_yes : {I E O : Type 0} (remaining : I → Option (List ℕ)) (fetched : I → ℕ)
    (told : E → Option (List ℕ)) (untold : E → ℕ) (written : O → Option (List ℕ)) (failures : O → ℕ)
    (bytes : List ℕ → Option (List ℕ)) (refuses : List ℕ → OpenFault → Type 0) (style : Style)
    (names : List (List ℕ)) (a b : E) (old new : Buffered O) (status : ℕ)
    → ServesCall remaining fetched told untold written failures bytes refuses (Audit style) names a b old new status
    → status ≡ 0 → AllSpellAudited bytes names
call_yes remaining fetched told untold written failures bytes refuses style [] a b old new status serves zero = tt
call_yes remaining fetched told untold written failures bytes refuses style (n ∷ []) a b old new status serves zero =
    let said = serves.said (omega (arith, zero)) in
    (audited_of (verdict_text style) (bytes n) _ _ status said.0.said zero, tt)
call_yes remaining fetched told untold written failures bytes refuses style (n ∷ m ∷ names) a b old new status
    (inl judges) zero =
    all_yes remaining fetched told untold bytes refuses style (n ∷ m ∷ names) a b judges.text status judges.judges zero
call_yes remaining fetched told untold written failures bytes refuses style (n ∷ m ∷ names) a b old new status
    (inr stops) zero =
    let three : status ≡ 3 = stops.ends in absurd (omega (arith, three, zero))
