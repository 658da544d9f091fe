use Rattle.std.proofs.Common.{ℕ, List, drop, is_some, sym, subst, ◌∙◌}
use Rattle.std.specs.Prelude.{IsTrue}
use Rattle.std.proofs.lemmas.List.{take_rest}
use Rattle.eve_grammar.specs.Readers.{transfer_of}
use Rattle.eve_example_gather.proofs.transfers.view_of.Goals as goal

pub new-requires : goal.new-requires
new-requires c =
    let bytes = c.args.bytes.now in
    let there : IsTrue (is_some (transfer_of c.args.rows (drop 5 bytes))) =
    subst (λ (body : List ℕ). IsTrue (is_some (transfer_of c.args.rows body))) (take_rest bytes 5)
    (sym c.is_transfer_body.ensures ∙ c.if-not-is_transfer_body.false) in
    let rows = c.transfers_tell_their_rows.ensures c.args.rows bytes there in
    subst (λ (n : ℕ). IsTrue (is_some (transfer_of n (drop 5 bytes)))) (sym rows) there
