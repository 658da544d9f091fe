-- Why a request is refused, from what was found.
use Rattle.std.proofs.Common.{◌≡◌, ℕ, zero, suc, ◌≤◌, nat_le, Bool, true, false, cond, ◌&&◌, List, [], ◌∷◌, map, length}
use Rattle.std.proofs.Common.{slice_get, Option, Some, None, refl, sym, subst, ap, ap₂, ◌∙◌}
use Rattle.std.specs.Prelude.{IfSome}
use Rattle.std.specs.List.{list_all}
use Rattle.std.proofs.lemmas.Bool.{or_left, or_right, and_left, and_right, le-leb, and_from}
use Rattle.std.proofs.lemmas.List.{length-map}
use Rattle.std.proofs.lemmas.Option.{none-some}
use Rattle.eve_smallbank.specs.declared.entry.Kind.{Kind}
use Rattle.eve_smallbank.specs.Access.{RowKinds, is_write}
use Rattle.eve_smallbank.specs.Chain.{Table}
use Rattle.eve_grammar.proofs.Codec.{some_is}
use Rattle.eve_grammar.specs.declared.limits.TheConstants.{MOST_VERSIONS}
use Rattle.eve_stamps.specs.declared.fault.StampFault.TheVariants as fault
use Rattle.eve_stamps.specs.Stripes.{HeldRow, row_in}
use Rattle.eve_stamps.specs.Requests.{seen_of, is_worn, refused_for}

pub record IsSeen (is_there : ℕ → Bool) (now : Table) (rows : RowKinds) (seen : List HeldRow) : Type 0 where
  pub there : list_all (λ r. is_there r.0) rows ≡ true
  pub as_now : seen ≡ map (λ r. row_in now r.0) rows

pub told_some : {A : Type 0} (b : Bool) (x y : A) → Some x ≡ cond b (Some y) None → (b ≡ true) × (x ≡ y)
told_some true x y e = (refl, some_is x y e)
told_some false x y e = absurd (none-some x (sym e))

told_none : {A : Type 0} (b : Bool) (y : A) → None ≡ cond b (Some y) None → b ≡ false
told_none true y e = absurd (none-some y e)
told_none false y e = refl

pub seen_is : (is_there : ℕ → Bool) (now : Table) (rows found : RowKinds) (seen : List HeldRow) → found ≡ rows
    → Some seen
    ≡ seen_of is_there now found → IsSeen is_there now rows seen
seen_is is_there now rows found seen same told =
    let both = told_some (list_all (λ r. is_there r.0) rows) seen (map (λ r. row_in now r.0) rows)
    (told ∙ ap (seen_of is_there now) same) in record { there = both.0; as_now = both.1 }

pub length-seen : (is_there : ℕ → Bool) (now : Table) (rows : RowKinds) (seen : List HeldRow)
    → IsSeen is_there now rows seen → length seen ≡ length rows
length-seen is_there now rows seen is = ap length is.as_now ∙ length-map rows (λ r. row_in now r.0)

pub many_seen : (is_there : ℕ → Bool) (now : Table) (rows found : RowKinds) (seen : Option (List HeldRow))
    → found ≡ rows
    → seen ≡ seen_of is_there now found → IfSome seen (λ held. length held ≡ length rows)
many_seen is_there now rows found None same told = tt
many_seen is_there now rows found (Some held) same told =
    length-seen is_there now rows held (seen_is is_there now rows found held same told)

pub not_refused : (is_there : ℕ → Bool) (is_new : Bool) (now : Table) (rows : RowKinds) (seen : List HeldRow)
    → IsSeen is_there now rows seen → is_new ≡ true → is_worn now rows ≡ false
    → refused_for is_there is_new now rows ≡ None
not_refused is_there is_new now rows seen is timely fresh =
    ap₂ (λ a b. cond a (cond b (cond (is_worn now rows) (Some fault.Worn) None) (Some fault.TickOrder))
    (Some fault.NoRow)) is.there timely ∙ ap (λ c. cond c (Some fault.Worn) None) fresh

-- ---- at one place

pub missing_at : {A : Type 0} (p : A → Bool) (xs : List A) (i : ℕ) (x : A) → slice_get xs i ≡ Some x → p x ≡ false
    → list_all p xs ≡ false
missing_at p [] i x at out = absurd (none-some x at)
missing_at p (y ∷ xs) zero x at out = ap (λ z. p z && list_all p xs) (some_is y x at)
    ∙ and_left (p x) (list_all p xs) out
missing_at p (y ∷ xs) (suc i) x at out = and_right (p y) (list_all p xs) (missing_at p xs i x at out)

pub worn_at : (now : Table) (rows : RowKinds) (seen : List HeldRow) (i : ℕ) (r : ℕ × Kind) (held : HeldRow)
    → slice_get rows i ≡ Some r → slice_get seen i ≡ Some held → seen ≡ map (λ q. row_in now q.0) rows
    → is_write r.1 ≡ true → MOST_VERSIONS ≤ held.version → is_worn now rows ≡ true
worn_at now [] seen i r held at there so writes old = absurd (none-some r at)
worn_at now (q ∷ rows) [] i r held at there so writes old = absurd (none-some held there)
worn_at now (q ∷ rows) (h ∷ seen) zero r held at there so writes old =
    let here : q ≡ r = some_is q r at in
    let same : h ≡ held = some_is h held there in
    let version : held.version ≡ (now q.0).version = cc in
    or_left (is_write q.1 && nat_le MOST_VERSIONS (now q.0).version) (is_worn now rows)
    (and_from (is_write q.1) (nat_le MOST_VERSIONS (now q.0).version) (ap (λ x. is_write x.1) here ∙ writes)
    (le-leb MOST_VERSIONS (now q.0).version (subst (λ n. MOST_VERSIONS ≤ n) version old)))
worn_at now (q ∷ rows) (h ∷ seen) (suc i) r held at there so writes old =
    let rest : seen ≡ map (λ q. row_in now q.0) rows = cc in
    or_right (is_write q.1 && nat_le MOST_VERSIONS (now q.0).version) (is_worn now rows)
    (worn_at now rows seen i r held at there rest writes old)

pub not_seen : (is_there : ℕ → Bool) (now : Table) (rows : RowKinds) (i : ℕ) (r : ℕ × Kind) → slice_get rows i ≡ Some r
    → None ≡ cond (is_there r.0) (Some (row_in now r.0)) None → None ≡ seen_of is_there now rows
not_seen is_there now rows i r at out =
    ap (λ b. cond b (Some (map (λ q. row_in now q.0) rows)) None)
    (sym (missing_at (λ (q : ℕ × Kind). is_there q.0) rows i r at (told_none (is_there r.0) (row_in now r.0) out)))

-- what was told of the rows that were found
pub worn_told : (is_there : ℕ → Bool) (now : Table) (rows found : RowKinds) (seen : List HeldRow) (b : Bool)
    → IsSeen is_there now rows seen → found ≡ rows
    → ((table : Table) → seen ≡ map (λ r. row_in table r.0) found → b ≡ is_worn table found) → b ≡ is_worn now rows
worn_told is_there now rows found seen b is same told =
    told now (is.as_now ∙ ap (λ (rs : RowKinds). map (λ r. row_in now r.0) rs) (sym same)) ∙ ap (is_worn now) same
