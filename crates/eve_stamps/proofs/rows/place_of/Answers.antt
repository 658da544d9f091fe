use Rattle.std.proofs.Common.{rules}
use Rattle.std.proofs.lemmas.List.Sorted.{answers_always}
use Rattle.eve_stamps.proofs.Places.{place_found}
use Rattle.eve_stamps.proofs.rows.place_of.Goals as goal

pub returns : goal.returns
returns c =
    let facts = c.binary_search_by_key.ensures in
    let by_key = facts.position (λ r. r.row) (answers_always _ _ _ (λ f a r g called. search rules)) in
    place_found c.args.rows.now c.args.row c.number.result c.binary_search_by_key.result c.ok.result c.requires
    c.number.ensures.number facts.bound by_key c.ok.ensures.value
