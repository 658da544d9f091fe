-- What shows a fault of form. docs/MODEL.md, "Evidence".
use Rattle.std.specs.Prelude.{◌≡◌, ℕ, List, length, take}
use Rattle.eve_views.specs.declared.fault.Code.TheVariants as code
use Rattle.eve_views.specs.declared.fault.Fault.{Fault}
use Rattle.eve_evidence.specs.declared.evidence.Evidence.{Evidence}
use Rattle.eve_evidence.specs.declared.evidence.Evidence.TheVariants as shown
use Rattle.eve_evidence_form.specs.Due.{TellsFrame}
use Rattle.eve_evidence_form.specs.Body.{TellsBody}
use Rattle.eve_evidence_form.specs.Header.{number, IsLengthFault, TellsMagic, IsFirstWrongNumber}

-- the evidence shows what this fault of form is
abbrev pub TellsForm : List ℕ → Fault → Evidence → Type 0
TellsForm bytes f (shown.Length found wrong magic) =
    (f.code ≡ code.Length) × (found ≡ length bytes) × IsLengthFault bytes wrong × TellsMagic bytes magic
TellsForm bytes f (shown.Magic found) = (f.code ≡ code.Magic) × (found ≡ take 6 bytes)
TellsForm bytes f (shown.Head name at found least most) =
    (f.code ≡ code.Head) × IsFirstWrongNumber bytes (number name at found least most)
TellsForm bytes f (shown.Frame found due records) =
    (f.code ≡ code.Frame) × TellsFrame bytes f.offset found due records
TellsForm bytes f (shown.Body frame at own own_at) =
    (f.code ≡ code.Body) × (at ≡ f.offset) × TellsBody bytes f.offset frame own own_at
TellsForm bytes f _ = ⊥
