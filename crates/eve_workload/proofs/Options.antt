-- What is said of an answer that is missing.
use Rattle.std.proofs.Common.{Option, Some, None, IfNone}

pub on_none : {A : Type 0} (r : Option A) (P : Type 0) → P → IfNone r P
on_none None P p = p
on_none (Some x) P p = tt

pub none_map : {A : Type 0} (r : Option A) (P Q : Type 0) → (P → Q) → IfNone r P → IfNone r Q
none_map None P Q f p = f p
none_map (Some x) P Q f p = tt
