use Rattle.std.proofs.Common.{◌≡◌, ℕ, ℤ, ◌+◌, ◌<◌, ◌∷◌, ◌++◌, [], List, length, map, set, take, ap, sym, ◌∙◌, arith}
use Rattle.std.proofs.lemmas.List.{length-set, map-append, take_all, take_more_set}
use Rattle.eve_smallbank.specs.declared.versioned.Versioned.{Versioned}
use Rattle.eve_frames.specs.Decoded.{transfer_decoded}
use Rattle.eve_grammar.proofs.Lists.{take_one_more}
use Rattle.eve_chains.proofs.settled.apply_transfer.Goals as goal

pub set-requires : goal.set-requires
set-requires g c = omega (
  arith,
  c.row_at.ensures,
  c.loop-i-test.true,
  c.len-i-end.ensures,
  c.requires.as_many,
  c.loop-i.invariant.as_many,
)

pub loop-i-preserved : goal.loop-i-preserved
loop-i-preserved g c =
    let i = c.loop-i.i in
    let v = c.row.result in
    let rows = (transfer_decoded c.args.state.now).rows in
    let old = g.T.SetRow.rows c.loop-i.rows in
    let is : g.T.SetRow.rows c.set.new.self ≡ set old i v.value =
    c.set.ensures ∙ ap (λ (k : ℕ). set old k v.value) c.row_at.ensures in
    let there : i < length old =
    omega (arith, c.loop-i-test.true, c.len-i-end.ensures, c.requires.as_many, c.loop-i.invariant.as_many) in
    record {
      as_many = ap length is ∙ length-set old i v.value ∙ c.loop-i.invariant.as_many;
      written = ap (take (i + 1)) is ∙ take_more_set old i v.value there
          ∙ ap (λ (zs : List ℤ). zs ++ v.value ∷ []) c.loop-i.invariant.written
          ∙ sym (ap (map (λ (r : Versioned). r.value)) (take_one_more rows i v c.row.ensures)
          ∙ map-append (λ (r : Versioned). r.value) (take i rows) (v ∷ []));
    }

pub returns : goal.returns
returns g c =
    let i = c.loop-i.i in
    let rows = (transfer_decoded c.args.state.now).rows in
    let now = g.T.SetRow.rows c.loop-i.rows in
    sym (take_all i now (omega (
      arith,
      c.loop-i-test.false,
      c.len-i-end.ensures,
      c.requires.as_many,
      c.loop-i.invariant.as_many,
    )))
    ∙ c.loop-i.invariant.written
    ∙ ap (map (λ (r : Versioned). r.value)) (take_all i rows (omega (arith, c.loop-i-test.false, c.len-i-end.ensures)))
