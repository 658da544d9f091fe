use Rattle.std.proofs.Common.{refl, subst, IsTrue}
use Rattle.eve_history.specs.SectionHistory.{SectionHistory}
use Rattle.eve_history.proofs.RightSections.{right_section}
use Rattle.eve_history.proofs.history.History.recall_right.Goals as goal

pub returns : goal.returns
returns c =
    let right = subst (λ (v : SectionHistory). IsTrue v.right) c.self.view_is refl in
    record { right = right; section = λ t e is. right_section t e c.args.self.now is right }
