use Rattle.std.proofs.Common.{◌≡◌, ℕ, ℤ, ◌+◌, ◌*◌, List, length, map, get_or, set, option_map, slice_get, Some, refl}
use Rattle.std.proofs.Common.{sym, ap, ◌∙◌, arith}
use Rattle.std.proofs.lemmas.List.{length-set, length-map, take_all, get_or_default}
use Rattle.std.proofs.lemmas.Option.{slice_get-map, slice_get_read}
use Rattle.eve_grammar.specs.Trace.{opening_rows}
use Rattle.eve_grammar.proofs.OpeningRows.{opening_more}
use Rattle.eve_write.specs.declared.customer.CustomerData.{CustomerData}
use Rattle.eve_write.specs.Data.{customer}
use Rattle.eve_replica.proofs.opening.balances_of.Goals as goal

placed : (old : List ℤ) (m m' n n' : ℕ) (x x' y y' : ℤ) → m ≡ m' → n ≡ n' → x ≡ x' → y ≡ y'
    → set (set old m x) n y ≡ set (set old m' x') n' y'
placed old m m' n n' x x' y y' a b d e = cc

pub loop-place-preserved : goal.loop-place-preserved
loop-place-preserved c =
    let given = c.args.customers.now in
    let i = c.loop-place.place in
    let one : CustomerData = c.index-customers-place.result in
    let two : CustomerData = c.index-customers-place-in-loop-place.result in
    let old = c.loop-place.balances in
    let is : c.set-in-loop-place.new.self ≡ set (set old (2 * i) one.saving) (2 * i + 1) one.checking =
    c.set-in-loop-place.ensures
    ∙ ap (λ (zs : List ℤ). set zs c.checking.result (get_or given i two).checking) c.set.ensures
    ∙ placed old c.saving.result (2 * i) c.checking.result (2 * i + 1) (get_or given i one).saving one.saving
    (get_or given i two).checking one.checking c.saving.ensures c.checking.ensures
    (ap (λ (x : CustomerData). x.saving) (sym c.index-customers-place.is))
    (ap (λ (x : CustomerData). x.checking)
    (get_or_default given i two one (omega arith) ∙ sym c.index-customers-place.is)) in
    let there : slice_get (map customer given) i ≡ Some (customer one) =
    slice_get-map customer given i
    ∙ ap (option_map customer) (slice_get_read given (length given) i one refl (omega arith)
    c.index-customers-place.is) in
    let rows : length old ≡ 2 * length (map customer given) =
    omega (arith, c.loop-place.invariant.rows, length-map given customer) in
    record {
      rows = ap length is ∙ length-set (set old (2 * i) one.saving) (2 * i + 1) one.checking
          ∙ length-set old (2 * i) one.saving ∙ c.loop-place.invariant.rows;
      written = rw is (opening_more (map customer given) i (customer one) old one.saving one.checking there rows
          c.loop-place.invariant.written refl refl);
    }

pub returns : goal.returns
returns c =
    let all = map customer c.args.customers.now in
    let place = c.loop-place.place in
    sym (take_all (2 * place) c.loop-place.balances (omega (arith, c.loop-place.invariant.rows)))
    ∙ c.loop-place.invariant.written
    ∙ ap opening_rows (take_all place all (omega (arith, length-map c.args.customers.now customer)))
