-- What holds where a call ends well, and where it ends badly.
use Rattle.std.proofs.Common.{◌≡◌, Result, Ok, Err, IfErr, OnOk, sym, subst}
use Rattle.std.specs.Prelude.{IsErrAnd}

-- what two of its clauses give
pub where_well : {A E : Type 0} (P Q R : Type 0) (r : Result A E) → (P → Q → R) → OnOk r P → OnOk r Q → OnOk r R
where_well P Q R (Ok x) both p q = both p q
where_well P Q R (Err e) both p q = tt

-- what holds of an error that is answered holds where it is the answer
pub at_err : {A E : Type 0} (r : Result A E) (P : E → Type 0) (why : E) → IsErrAnd r (λ e. e ≡ why) → P why
    → IfErr r P
at_err (Ok x) P why is p = tt
at_err (Err e) P why is p = subst P (sym is) p
