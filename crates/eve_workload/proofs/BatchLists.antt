-- The requests of batches, line by line.
use Rattle.std.proofs.Common.{◌≡◌, ℕ, zero, suc, ◌≤◌, IsTrue, List, [], ◌∷◌, ◌++◌, length, Vec, refl, sym, ap, ◌∙◌}
use Rattle.std.proofs.Common.{arith, length-append, append_assoc, map}
use Rattle.std.specs.Prelude.{slice_set, slice_index_or}
use Rattle.std.specs.declared.alloc.Global.{Global}
use Rattle.std.proofs.lemmas.List.{append-nil}
use Rattle.std.proofs.lemmas.List.Concat.{flat_map-append}
use Rattle.eve_grammar.specs.Trace.{Asked}
use Rattle.eve_workload.specs.Workload.{requests_of}
use Rattle.eve_write.specs.Data.{asked}
use Rattle.eve_write.specs.declared.request.RequestData.{RequestData}
use Rattle.eve_workload.specs.Batches.{asked_lists, push_last}
use Rattle.eve_workload.specs.Lines.{Line, HeadLine, CustomerLine, BatchLine, RequestLine}
use Rattle.eve_workload.specs.Steps.{requests_in, batches_in, may_follow, AreRightLines}
use Rattle.eve_workload.specs.inner.Drafts.{listed_in}

flat-push_last : (parts : List (List Asked)) (a : Asked) → requests_of (push_last parts a) ≡ requests_of parts ++ a ∷ []
flat-push_last [] a = refl
flat-push_last (part ∷ []) a = append-nil (part ++ a ∷ []) ∙ ap (λ p. p ++ a ∷ []) (sym (append-nil part))
flat-push_last (part ∷ next ∷ parts) a =
    ap (λ rest. part ++ rest) (flat-push_last (next ∷ parts) a)
    ∙ sym (append_assoc part (requests_of (next ∷ parts)) (a ∷ []))

pub batches_flat : (before : List Line) → requests_of (listed_in before) ≡ requests_in before
batches_flat [] = refl
batches_flat (HeadLine d ∷ before) = batches_flat before
batches_flat (CustomerLine c ∷ before) = batches_flat before
batches_flat (BatchLine ∷ before) =
    flat_map-append (λ (b : List Asked). b) (listed_in before) ([] ∷ []) ∙ append-nil (requests_of (listed_in before))
    ∙ batches_flat before
batches_flat (RequestLine a ∷ before) = flat-push_last (listed_in before) a
    ∙ ap (λ rs. rs ++ a ∷ []) (batches_flat before)

pub push_last_some : (parts : List (List Asked)) (a : Asked) → 1 ≤ length (push_last parts a)
push_last_some [] a = omega arith
push_last_some (part ∷ []) a = omega arith
push_last_some (part ∷ next ∷ parts) a = omega arith

pub push_last_count : (parts : List (List Asked)) (a : Asked) → 1 ≤ length parts
    → length (push_last parts a) ≡ length parts
push_last_count [] a some = absurd (omega arith)
push_last_count (part ∷ []) a some = refl
push_last_count (part ∷ next ∷ parts) a some = ap suc (push_last_count (next ∷ parts) a (omega arith))

pub batch_there : (before : List Line) (a : Asked) → IsTrue (may_follow before (RequestLine a))
    → 1 ≤ length (listed_in before)
batch_there [] a follows = cc
batch_there (HeadLine d ∷ before) a follows = cc
batch_there (CustomerLine c ∷ before) a follows = cc
batch_there (BatchLine ∷ before) a follows = omega (arith, length-append (listed_in before) ([] ∷ []))
batch_there (RequestLine b ∷ before) a follows = push_last_some (listed_in before) b

pub batches_counted : (format : ℕ) (before : List Line) → AreRightLines format before
    → length (listed_in before) ≡ batches_in before
batches_counted format [] right = refl
batches_counted format (HeadLine d ∷ before) right = batches_counted format before right.1
batches_counted format (CustomerLine c ∷ before) right = batches_counted format before right.1
batches_counted format (BatchLine ∷ before) right =
    omega (arith, length-append (listed_in before) ([] ∷ []), batches_counted format before right.1)
batches_counted format (RequestLine a ∷ before) right = push_last_count (listed_in before) a
    (batch_there before a right.0.follows) ∙ batches_counted format before right.1

-- a request more in the last of the lists
pub pushed_last : (batches : List (Vec RequestData Global)) (n : ℕ) (old new : Vec RequestData Global) (a : Asked)
    → length batches ≡ suc n → old ≡ slice_index_or batches n old → map asked new.items ≡ map asked old.items ++ a ∷ []
    → asked_lists (slice_set batches n new) ≡ push_last (asked_lists batches) a
pushed_last [] n old new a count was added = absurd (omega arith)
pushed_last (x ∷ []) zero old new a count was added =
    ap (λ l. l ∷ []) (added ∙ (λ k. map asked (was k).items ++ a ∷ []))
pushed_last (x ∷ []) (suc n) old new a count was added = absurd (omega arith)
pushed_last (x ∷ y ∷ batches) zero old new a count was added = absurd (omega arith)
pushed_last (x ∷ y ∷ batches) (suc n) old new a count was added =
    ap (λ ls. map asked x.items ∷ ls) (pushed_last (y ∷ batches) n old new a (omega arith) was added)
