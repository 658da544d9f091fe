-- What shows a fault of orders. docs/MODEL.md, "Faults" and "Evidence".
use Rattle.std.specs.Prelude.{◌≡◌, ◌≢◌}
use Rattle.eve_grammar.specs.Trace.{Trace}
use Rattle.eve_views.specs.declared.fault.Code.TheVariants as code
use Rattle.eve_views.specs.declared.fault.Fault.{Fault}
use Rattle.eve_evidence.specs.declared.evidence.Evidence.{Evidence}
use Rattle.eve_evidence.specs.declared.evidence.Evidence.TheVariants as shown
use Rattle.eve_evidence_form.specs.Names.{IsNamedAgain}
use Rattle.eve_evidence_form.specs.Requests.{IsRequestAgain}

-- the evidence shows what stands twice
abbrev pub TellsTwice : Trace → Fault → Evidence → Type 0
TellsTwice t f (shown.SameName name first first_at) =
    (f.code ≡ code.SameName) × IsNamedAgain t f.offset name.now first first_at
TellsTwice t f (shown.SameRequest request first first_at) =
    (f.code ≡ code.SameRequest) × IsRequestAgain t f.offset request first first_at
TellsTwice t f shown.Untold = (f.code ≢ code.SameName) × (f.code ≢ code.SameRequest)
TellsTwice t f _ = ⊥
