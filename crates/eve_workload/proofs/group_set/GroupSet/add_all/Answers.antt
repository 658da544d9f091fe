use Rattle.std.proofs.Common.{◌≡◌, ℕ, ◌/◌, ◌%◌, ◌==◌, bit_or, length, inl, inr, sym, ap, ◌∙◌, arith, rules}
use Rattle.std.specs.Prelude.{slice_index_or}
use Rattle.std.specs.Int.{bit_at}
use Rattle.std.proofs.lemmas.Bool.{cases_lt}
use Rattle.std.proofs.lemmas.List.{get_or_past}
use Rattle.eve_workload.proofs.WordBits.{bit_of_both}
use Rattle.eve_workload.proofs.group_set.GroupSet.add_all.Goals as goal

pub returns : goal.returns
returns c group =
    let at : ℕ = group / 64 in
    let long : length c.args.self.now.words ≡ 4 = search rules in
    let others_long : length c.args.others.now.words ≡ 4 = search rules in
    let word : slice_index_or c.loop-place.self.words at 0 ≡ bit_or (slice_index_or c.args.self.now.words at 0)
    (slice_index_or c.args.others.now.words at 0) =
    elim (cases_lt at c.loop-place.place) [
      | inl below ↦ c.loop-place.invariant.0 at below
      | inr past ↦
          c.loop-place.invariant.1 at past ∙ get_or_past c.args.self.now.words at 0 (omega arith)
          ∙ sym (λ i. bit_or (get_or_past c.args.self.now.words at 0 (let p = past in omega arith) i)
          (get_or_past c.args.others.now.words at 0 (let p = past in omega arith) i))
    ] in
    ap (λ w. bit_at w (group % 64) == 1) word
    ∙ bit_of_both (slice_index_or c.args.self.now.words at 0) (slice_index_or c.args.others.now.words at 0) (group % 64)
