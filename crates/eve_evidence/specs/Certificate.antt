-- What shows a fault of a certificate. docs/MODEL.md, "Certificate order, keeps the groups".
use Rattle.std.specs.Prelude.{◌≡◌, ◌≢◌, ℕ, ◌<◌, ◌≤◌, Bool, IsTrue, List, length, take, slice_get, Some}
use Rattle.std.specs.List.{AllByRecursion}
use Rattle.eve_grammar.specs.Certificate.{group_of}
use Rattle.eve_views.specs.Form.{SomePlace}
use Rattle.eve_evidence.specs.declared.evidence.CertificateFault.{CertificateFault}
use Rattle.eve_evidence.specs.declared.evidence.CertificateFault.TheVariants as wrong

-- none of these is the index
abbrev pub HasNot : List ℕ → ℕ → Type 0
HasNot before index = AllByRecursion (λ j. j ≢ index) before

-- the index stands at this place, and at none before it
abbrev pub IsFirstPlace : List ℕ → ℕ → ℕ → Type 0
IsFirstPlace order index first =
    SomePlace order (λ before j. (j ≡ index) × (first ≡ length before) × HasNot before index)

-- m is of a parallelBatch before that of the index, and none of these
pub record IsMissing (sizes before : List ℕ) (index m : ℕ) : Type 0 where
  pub earlier : group_of sizes m < group_of sizes index
  pub absent : HasNot before m

-- and the least such
abbrev pub IsLeastMissing : List ℕ → List ℕ → ℕ → ℕ → Type 0
IsLeastMissing sizes before index m =
    IsMissing sizes before index m × ((k : ℕ) → k < m → ¬ IsMissing sizes before index k)

-- The index is right behind these, in a certificate of a batch with parallelBatches of these sizes and r requests.
pub record IsRightPlace (sizes : List ℕ) (r : ℕ) (serial : Bool) (before : List ℕ) (index : ℕ) : Type 0 where
  pub there : index < r
  pub once : HasNot before index
  pub listed : IsTrue serial → index ≡ length before
  pub grouped : (m : ℕ) → ¬ IsMissing sizes before index m

-- each index is right behind those before it
abbrev pub AreRightPlaces : List ℕ → ℕ → Bool → List ℕ → Type 0
AreRightPlaces sizes r serial order =
    (place index : ℕ) → slice_get order place ≡ Some index → IsRightPlace sizes r serial (take place order) index

-- the first thing that is wrong with the index behind these
abbrev pub IsWrongPlace : List ℕ → ℕ → Bool → List ℕ → ℕ → CertificateFault → Type 0
IsWrongPlace sizes r serial before index (wrong.NoRequest i place requests) =
    (i ≡ index) × (place ≡ length before) × (requests ≡ r) × (r ≤ index)
IsWrongPlace sizes r serial before index (wrong.Again i place first) =
    (i ≡ index) × (place ≡ length before) × (index < r) × IsFirstPlace before index first
IsWrongPlace sizes r serial before index (wrong.OutOfOrder i place) =
    (i ≡ index) × (place ≡ length before) × (index < r) × HasNot before index × IsTrue serial × (index ≢ length before)
IsWrongPlace sizes r serial before index (wrong.BeforeGroup i place m) =
    (i ≡ index) × (place ≡ length before) × (index < r) × HasNot before index × (IsTrue serial → index ≡ length before)
    × IsLeastMissing sizes before index m

-- the first place that is wrong, and what is wrong there
abbrev pub IsCertificateFault : List ℕ → ℕ → Bool → List ℕ → CertificateFault → Type 0
IsCertificateFault sizes r serial order w =
    SomePlace order (λ before index. AreRightPlaces sizes r serial before × IsWrongPlace sizes r serial before index w)
