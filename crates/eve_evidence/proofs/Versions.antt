-- The versions that an access record says are small.
use Rattle.std.proofs.Common.{◌≡◌, ℕ, zero, suc, ◌≤◌, nat_lt, nat_le, true, List, [], ◌∷◌, slice_get, Some}
use Rattle.std.proofs.Common.{Option, None, refl, subst, is_some, unwrap_or, IsTrue}
use Rattle.std.specs.List.{list_all}
use Rattle.std.proofs.lemmas.Bool.{and_parts, and_from, leb-true}
use Rattle.std.proofs.lemmas.Option.{same_Some}
use Rattle.eve_smallbank.specs.declared.entry.Entry.{Entry}
use Rattle.eve_grammar.specs.Trace.{Access}
use Rattle.eve_grammar.specs.Limits.{is_entry}
use Rattle.eve_grammar.specs.Readers.{number_at, both, made, only, many_at, entry_fields_at, entry_at, access_from}
use Rattle.eve_grammar.specs.Readers.{entries_at, access_of}
use Rattle.eve_grammar.specs.declared.limits.TheConstants.{MOST_ROWS, MOST_VERSIONS}
use Rattle.eve_grammar.proofs.Codec.{bind_some, guard_some}
use Rattle.eve_frames.specs.Views.{body_in, has_access_body, access_in}

abbrev Read : Type 0
Read = List Entry × List ℕ

many_fit : (rows n : ℕ) (bytes : List ℕ) (x : Read) → many_at (entry_at rows) n bytes ≡ Some x
    → list_all (is_entry rows) x.0 ≡ true
unfolding many_at entry_at
many_fit rows zero bytes x e = subst (λ (y : Read). list_all (is_entry rows) y.0 ≡ true) (same_Some ([], bytes) x e)
    refl
many_fit rows (suc n) bytes x e =
    let a = bind_some (entry_at rows bytes) _ x e in
    let b = bind_some (many_at (entry_at rows) n a.0.1) _ x a.2 in
    let g = bind_some (entry_fields_at bytes) _ a.0 a.1 in
    let t = guard_some (is_entry rows g.0.0) (Some g.0) a.0 g.2 in
    let own : is_entry rows a.0.0 ≡ true =
    subst (λ (y : Entry × List ℕ). is_entry rows y.0 ≡ true) (same_Some g.0 a.0 t.1) t.0 in
    subst (λ (y : Read). list_all (is_entry rows) y.0 ≡ true) (same_Some (a.0.0 ∷ b.0.0, b.0.1) x b.2)
    (and_from (is_entry rows a.0.0) (list_all (is_entry rows) b.0.0) own (many_fit rows n a.0.1 b.0 b.1))

access_fits : (bytes : List ℕ) (x : Access) → access_of MOST_ROWS bytes ≡ Some x
    → list_all (is_entry MOST_ROWS) x.entries ≡ true
unfolding access_of entries_at
access_fits bytes x e =
    let list_at = entries_at MOST_ROWS in
    let w = bind_some (made access_from (both (number_at 1) (both (number_at 2) (both (number_at 2) list_at))) bytes) _
    x
    e in
    let whole = guard_some _ (Some w.0.0) x w.2 in
    let m = bind_some (both (number_at 1) (both (number_at 2) (both (number_at 2) list_at)) bytes) _ w.0 w.1 in
    let p = bind_some (number_at 1 bytes) _ m.0 m.1 in
    let p2 = bind_some (both (number_at 2) (both (number_at 2) list_at) p.0.1) _ m.0 p.2 in
    let q = bind_some (number_at 2 p.0.1) _ p2.0 p2.1 in
    let q2 = bind_some (both (number_at 2) list_at q.0.1) _ p2.0 q.2 in
    let r = bind_some (number_at 2 q.0.1) _ q2.0 q2.1 in
    let r2 = bind_some (list_at r.0.1) _ q2.0 r.2 in
    let c = bind_some (only (λ count. nat_le count 3) (number_at 1) r.0.1) _ r2.0 r2.1 in
    let fit : list_all (is_entry MOST_ROWS) r2.0.0 ≡ true = many_fit MOST_ROWS c.0.0 c.0.1 r2.0 c.2 in
    let one : list_all (is_entry MOST_ROWS) q2.0.0.1 ≡ true =
    subst (λ (y : (ℕ × List Entry) × List ℕ). list_all (is_entry MOST_ROWS) y.0.1 ≡ true) (same_Some _ q2.0 r2.2) fit in
    let two : list_all (is_entry MOST_ROWS) p2.0.0.1.1 ≡ true =
    subst (λ (y : (ℕ × (ℕ × List Entry)) × List ℕ). list_all (is_entry MOST_ROWS) y.0.1.1 ≡ true)
    (same_Some _ p2.0 q2.2)
    one in
    let three : list_all (is_entry MOST_ROWS) m.0.0.1.1.1 ≡ true =
    subst (λ (y : (ℕ × (ℕ × (ℕ × List Entry))) × List ℕ). list_all (is_entry MOST_ROWS) y.0.1.1.1 ≡ true)
    (same_Some _ m.0 p2.2) two in
    let four : list_all (is_entry MOST_ROWS) w.0.0.entries ≡ true =
    subst (λ (y : Access × List ℕ). list_all (is_entry MOST_ROWS) y.0.entries ≡ true) (same_Some _ w.0 m.2) three in
    subst (λ (y : Access). list_all (is_entry MOST_ROWS) y.entries ≡ true) (same_Some w.0.0 x whole.1) four

found : {A : Type 0} (o : Option A) (other : A) → IsTrue (is_some o) → o ≡ Some (unwrap_or o other)
found (Some x) other there = refl
found None other there = absurd cc

at_fits : (es : List Entry) (i : ℕ) (e : Entry) → list_all (is_entry MOST_ROWS) es ≡ true → slice_get es i ≡ Some e
    → is_entry MOST_ROWS e ≡ true
at_fits [] i e all got = absurd cc
at_fits (x ∷ es) zero e all got = subst (λ (y : Entry). is_entry MOST_ROWS y ≡ true) (same_Some x e got)
    (and_parts (is_entry MOST_ROWS x) _ all).0
at_fits (x ∷ es) (suc i) e all got = at_fits es i e (and_parts (is_entry MOST_ROWS x) _ all).1 got

-- an entry of an access record
pub small_version : (bytes : List ℕ) (i : ℕ) (e : Entry) → IsTrue (has_access_body bytes)
    → slice_get (access_in bytes).entries i ≡ Some e → e.version ≤ MOST_VERSIONS
unfolding access_in
small_version bytes i e there got =
    let read = found (access_of MOST_ROWS (body_in bytes)) _ there in
    let own = at_fits (access_in bytes).entries i e (access_fits (body_in bytes) (access_in bytes) read) got in
    let parts = and_parts (nat_lt e.row MOST_ROWS) _ own in
    leb-true e.version MOST_VERSIONS (and_parts (nat_le e.version MOST_VERSIONS) _ parts.1).0
