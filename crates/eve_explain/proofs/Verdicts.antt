-- A verdict that is explained.
use Rattle.std.proofs.Common.{◌≡◌, sym, subst}
use Rattle.std.specs.Prelude.{Result, IfOk}
use Rattle.std.proofs.lemmas.Result.{IfOk-weaker}
use Rattle.eve_audit.specs.declared.verdict.Verdict.{Verdict}
use Rattle.eve_explain.specs.declared.explained.Explained.{Explained}
use Rattle.eve_explain.specs.Explained.{verdict_in}

-- what holds of a verdict holds of the one that is explained
pub told_of : {E : Type 0} (r : Result Explained E) (v : Verdict) (P : Verdict → Type 0) → P v
    → IfOk r (λ x. verdict_in x ≡ v) → IfOk r (λ x. P (verdict_in x))
told_of r v P holds is =
    IfOk-weaker r (λ x. verdict_in x ≡ v) (λ x. P (verdict_in x)) (λ x same. subst P (sym same) holds) is
