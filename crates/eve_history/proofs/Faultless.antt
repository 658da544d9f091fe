-- A section is right where no fault of structure stands in it, and only there.
use Rattle.std.proofs.Common.{◌≡◌, ℕ, [], Option, Some, None, refl, sym, ap, ◌∙◌}
use Rattle.std.proofs.lemmas.List.{append-nil}
use Rattle.eve_grammar.specs.Trace.{Trace}
use Rattle.eve_grammar.specs.Spelling.{steps_at}
use Rattle.eve_views.specs.Form.{HasNone, IsFaultIn}
use Rattle.eve_history.specs.declared.wrong.Wrong.{Wrong}
use Rattle.eve_history.specs.inner.FirstWrong.{first_wrong, fault_of}
use Rattle.eve_history.specs.Section.{start}
use Rattle.eve_history.specs.SectionHistory.{IsRightSection}
use Rattle.eve_history.specs.Structure.{StandsInStructure}
use Rattle.eve_history.proofs.StructureLaws.{right_steps, steps_on, found_is_least, none_stands}

module _ (t : Trace) (e : ℕ) where
  pub right_without_faults : HasNone (IsFaultIn StandsInStructure t e) → IsRightSection t e
  right_without_faults none = by (first_wrong t start (steps_at t e)) refl
    where
      by : (o : Option Wrong) → first_wrong t start (steps_at t e) ≡ o → IsRightSection t e
      by None is = right_steps t start (steps_at t e) is
      by (Some w) is = absurd (none (fault_of e w) (found_is_least t e w is).is)

  pub no_fault_where_right : IsRightSection t e → HasNone (IsFaultIn StandsInStructure t e)
  no_fault_where_right right f = none_stands t e f
      (ap (first_wrong t start) (sym (append-nil (steps_at t e))) ∙ steps_on t start (steps_at t e) [] right)
