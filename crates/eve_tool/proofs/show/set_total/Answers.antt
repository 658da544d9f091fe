use Rattle.std.proofs.Common.{◌∙◌, ◌++◌, ap, take, drop}
use Rattle.std.proofs.lemmas.List.{drop-drop}
use Rattle.eve_tool.proofs.show.set_total.Goals as goal

pub returns : goal.returns
returns c =
    let bytes = c.args.bytes.now in
    ap (λ rest. take 24 bytes ++ (c.copy_from_slice.new.self ++ rest)) (drop-drop 8 24 bytes)
    ∙ ap (λ total. take 24 bytes ++ (total ++ drop 32 bytes)) (c.copy_from_slice.ensures.after ∙ c.to_be_bytes.ensures)
