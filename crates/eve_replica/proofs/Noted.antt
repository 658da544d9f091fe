-- What was noted of the batches of a window.
use Rattle.std.proofs.Common.{◌≡◌, ℕ, zero, suc, ◌<◌, List, [], ◌∷◌, length, get_or, map, subst, sym, arith, Vec}
use Rattle.std.specs.declared.alloc.Global.{Global}
use Rattle.std.specs.List.{AllZip}
use Rattle.eve_grammar.specs.Trace.{Batch}
use Rattle.eve_stamps.specs.Applied.{Applied}
use Rattle.eve_write.specs.Data.{batch as plain}
use Rattle.eve_workload.specs.declared.mixer.MixedBatch.{MixedBatch}
use Rattle.eve_floor.specs.declared.assignment.Assignment.{Assignment}
use Rattle.eve_floor.specs.Recording.{AreNotedOf, IsNotedFor}
use Rattle.eve_replica.specs.inner.RunInvariant.{IsNotedAs}

-- of one of them
pub noted_at : (names : List (List ℕ)) (window : List MixedBatch) (noted : List (Vec Applied Global)) (k : ℕ)
    (m : MixedBatch) (records : Vec Applied Global) → AllZip (IsNotedAs names) window noted → k < length window
    → m ≡ get_or window k m → records ≡ get_or noted k records → AreNotedOf names (plain m.batch) records.items
noted_at names [] noted k m records all there is same = let no : ⊥ = omega arith in absurd no
noted_at names (n ∷ window) [] k m records all there is same = absurd all
noted_at names (n ∷ window) (r ∷ noted) zero m records all there is same =
    subst (λ (x : MixedBatch). AreNotedOf names (plain x.batch) records.items) (sym is)
    (subst (λ (x : Vec Applied Global). AreNotedOf names (plain n.batch) x.items) (sym same) all.0)
noted_at names (n ∷ window) (r ∷ noted) (suc k) m records all there is same =
    noted_at names window noted k m records all.1 (omega arith) is same

-- of each of them, by the words of what was assigned
pub noted_as : (names : List (List ℕ)) (given : List Assignment) (window : List MixedBatch)
    (noted : List (Vec Applied Global))
    → map (λ (a : Assignment). plain a.batch.now) given ≡ map (λ (m : MixedBatch). plain m.batch) window
    → AllZip (IsNotedFor names) given noted → AllZip (IsNotedAs names) window noted
noted_as names [] [] noted same all = all
noted_as names [] (m ∷ window) noted same all = absurd cc
noted_as names (a ∷ given) [] noted same all = absurd cc
noted_as names (a ∷ given) (m ∷ window) [] same all = absurd all
noted_as names (a ∷ given) (m ∷ window) (r ∷ noted) same all =
    let head : plain a.batch.now ≡ plain m.batch = cc in
    let rest : map (λ (x : Assignment). plain x.batch.now) given ≡ map (λ (x : MixedBatch). plain x.batch) window = cc
    in (
      subst (λ (b : Batch). AreNotedOf names b r.items) head all.0,
      noted_as names given window noted rest all.1,
    )
