use Rattle.std.proofs.Common.{◌≡◌, ℕ, ℤ, ◌<◌, List, length, set, sym, ap, ◌∙◌}
use Rattle.eve_token.specs.TokenRows.{TokenRows}
use Rattle.eve_attempts.specs.inner.KeptRows.{KeptRows}
use Rattle.eve_attempts.proofs.Lists.{put_next}
use Rattle.eve_attempts.proofs.rows.Rows.install.Goals as goal

pub loop-number-preserved : goal.loop-number-preserved
loop-number-preserved c =
    let n = c.loop-number.number in
    let state = c.args.state.now in
    let held = c.index-state-number.result in
    let within : n < length state = c.loop-number-test.true in
    let balances : length c.self.inside.balances.balances ≡ length state =
    ap (λ (k : KeptRows). length k.rows.balances) c.self.view_is ∙ sym c.requires.many in
    let set_is = ap (λ (t : TokenRows). t.balances) c.set.ensures in
    record {
      versions = ap (λ (vs : List ℕ). set vs n held.version) c.loop-number.invariant.versions
          ∙ put_next (λ r. r.version) state c.self.inside.versions.items n held within
          (c.self.invariant ∙ balances) c.index-state-number.is;
      values = set_is ∙ ap (λ (i : ℕ). set c.loop-number.self-inside.balances.balances i held.value) c.row_of.ensures
          ∙ ap (λ (zs : List ℤ). set zs n held.value) c.loop-number.invariant.values
          ∙ put_next (λ r. r.value) state c.self.inside.balances.balances n held within balances
          c.index-state-number.is;
      version = ap (λ (t : TokenRows). t.version) c.set.ensures ∙ c.loop-number.invariant.version;
    }
