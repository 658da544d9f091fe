-- What tests of parts tell.
use Rattle.std.proofs.Common.{◌≡◌, ℕ, ◌<◌, ◌≤◌, Bool, true, ◌&&◌, leb, eqb, eq-eqb, List}
use Rattle.std.proofs.Common.{length, sum, map, sym, ap, ◌∙◌}
use Rattle.std.specs.List.{list_all}
use Rattle.std.proofs.lemmas.Bool.{lt-ltb, le-leb}
use Rattle.std.proofs.lemmas.List.Folds.{list_all-map}
use Rattle.eve_grammar.specs.Trace.{Batch, Rollback}
use Rattle.eve_grammar.specs.Limits.{is_number, is_asked, is_batch, is_rising, is_restore, is_rollback}

-- a test after one that holds
pub and_true : (a b : Bool) → a ≡ true → (a && b) ≡ b
and_true a b holds = ap (λ x. x && b) holds

pub batch_is : (b : Batch) (r : Bool) → 1 ≤ length b.sizes → list_all (leb 1) b.sizes ≡ true → sum b.sizes ≤ 256
    → length b.requests ≡ sum b.sizes
    → r ≡ list_all is_asked b.requests → r ≡ is_batch b
batch_is b r some sized few many right =
    let e = and_true (eqb (length b.requests) (sum b.sizes)) (list_all is_asked b.requests) (eq-eqb _ _ many) in
    let f = and_true (leb (sum b.sizes) 256) (eqb (length b.requests) (sum b.sizes) && list_all is_asked b.requests)
    (le-leb _ _ few) in
    let g = and_true (list_all (leb 1) b.sizes)
    (leb (sum b.sizes) 256 && (eqb (length b.requests) (sum b.sizes) && list_all is_asked b.requests)) sized in
    let h = and_true (leb 1 (length b.sizes))
    (list_all (leb 1) b.sizes &&
    (leb (sum b.sizes) 256 && (eqb (length b.requests) (sum b.sizes) && list_all is_asked b.requests)))
    (le-leb _ _ some) in
    right ∙ sym (h ∙ g ∙ f ∙ e)

pub rollback_is : (rows : ℕ) (x : Rollback) (r : Bool) → x.to < 4294967296 → x.view < 4294967296 → is_rising x.restores
    ≡ true → r ≡ list_all (is_restore rows) x.restores
    → r ≡ is_rollback rows x
rollback_is rows x r to view rising right =
    let e = and_true (is_rising x.restores) (list_all (is_restore rows) x.restores) rising in
    let f = and_true (is_number 4 x.view) (is_rising x.restores && list_all (is_restore rows) x.restores)
    (lt-ltb _ _ view) in
    let g = and_true (is_number 4 x.to)
    (is_number 4 x.view && (is_rising x.restores && list_all (is_restore rows) x.restores)) (lt-ltb _ _ to) in
    right ∙ sym (g ∙ f ∙ e)

-- the items of the code that pass, as what they are
pub all_is : {X Y : Type 0} (p : Y → Bool) (view : X → Y) (xs ys : List X) → xs ≡ ys → list_all (λ x. p (view x)) xs
    ≡ list_all p (map view ys)
all_is p view xs ys same = ap (list_all (λ x. p (view x))) same ∙ sym (list_all-map p view ys)
