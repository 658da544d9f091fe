use Rattle.std.proofs.Common.{ap, ◌∙◌}
use Rattle.eve_token.specs.Token.{rows_root}
use Rattle.eve_token.proofs.tree.RowTree.root.Goals as goal

pub returns-clause-root : goal.returns-clause-root
returns-clause-root c = c.refresh.ensures.root ∙ ap rows_root (c.as_slice.ensures ∙ c.self.view_is)
