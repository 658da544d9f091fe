-- What is told of a replica names it.
use Rattle.std.proofs.Common.{◌≡◌, ℕ, sym, ap, ◌∙◌}
use Rattle.eve_grammar.specs.Trace.{Trace}
use Rattle.eve_history.specs.SectionHistory.{SectionHistory, section_history}

pub replica_told : (t : Trace) (e : ℕ) (h : SectionHistory) → h ≡ section_history t e → h.replica ≡ e
unfolding section_history
replica_told t e h is = ap (λ (told : SectionHistory). told.replica) is

pub section_history_by_its_own : (t : Trace) (e : ℕ) (h : SectionHistory) → h ≡ section_history t e
    → h ≡ section_history t h.replica
section_history_by_its_own t e h is = is ∙ ap (section_history t) (sym (replica_told t e h is))
