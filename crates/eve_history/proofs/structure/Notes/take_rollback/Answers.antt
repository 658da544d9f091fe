use Rattle.std.proofs.Common.{◌≡◌, ℕ, true, List, [], ◌∷◌, ◌++◌, map, length, replicate, vec_len, ap, sym, subst, ◌∙◌}
use Rattle.std.proofs.Common.{arith, rules}
use Rattle.std.specs.List.{AllByRecursion}
use Rattle.std.proofs.lemmas.List.{map-append, length-map}
use Rattle.eve_grammar.specs.Trace.{Rollback, Step, RollsBack}
use Rattle.eve_grammar.proofs.Lists.{all-push}
use Rattle.eve_frames.specs.Views.{rollback_in}
use Rattle.eve_views.specs.declared.fault.Code.TheVariants as code
use Rattle.eve_views.specs.declared.fault.Fault.{Fault}
use Rattle.eve_views.specs.declared.fault.CheckFault.{CheckFault}
use Rattle.eve_views.specs.declared.fault.CheckFault.TheVariants.{Found}
use Rattle.eve_views.specs.Form.{IfFound, IsLeast, IsFaultIn}
use Rattle.eve_history.specs.declared.fate.Fate.TheVariants.{Discarded}
use Rattle.eve_history.specs.FrameOffsets.{frame_in, IsRollbackAt}
use Rattle.eve_history.specs.Section.{start, state_after}
use Rattle.eve_history.specs.inner.FirstWrong.{fault_of}
use Rattle.eve_history.specs.KeptSections.{kept_section, kept_attempt, rolled, open_count, HasCome}
use Rattle.eve_history.proofs.SectionSteps.{come_wrong, come_rollback, with_rollback}
use Rattle.eve_history.proofs.FrameOffsets.{rollback_there}
use Rattle.eve_history.proofs.StepHandlers.{rollback_wrong, rollback_right, discarded_all}
use Rattle.eve_history.specs.Structure.{StandsInStructure}
use Rattle.eve_history.proofs.structure.Notes.take_rollback.Goals as goal

pub returns-then-not-rolls_back-clause-wrong : goal.returns-then-not-rolls_back-clause-wrong
returns-then-not-rolls_back-clause-wrong c =
    let t = c.args.trace.now in
    let e = c.args.e in
    let k = kept_section c.args.self.now in
    let at = c.args.rollback.now.offset in
    let decoded = rollback_in c.args.rollback.now.bytes.now in
    let P : Fault → Type 0 = λ f. (rest : List (ℕ × Step)) → HasCome t e ((at, RollsBack decoded) ∷ rest) k
    → IsLeast (IsFaultIn StandsInStructure t e) f in
    subst (λ (x : CheckFault). IfFound x P)
    (sym (c.fault_in.ensures ∙ ap (λ (o : ℕ). Found (fault_of e (record { code = code.Rollback; offset = o })))
    c.offset.ensures))
    (λ rest come.
    come_wrong t e (at, RollsBack decoded) rest k (record { code = code.Rollback; offset = at }) come
    (rollback_wrong t (state_after start come.prefix) at decoded
    (sym (c.rolls_back.ensures t (state_after start come.prefix) come.stands
    c.head.ensures) ∙ c.if-not-rolls_back.true)))

pub overflow_cast-offset : goal.overflow_cast-offset
overflow_cast-offset c =
    let there = rollback_there c.args.self.now.bytes.now c.args.trace.now c.args.e c.requires.comes.0
    (kept_section c.args.self.now) c.args.rollback.now.offset (rollback_in c.args.rollback.now.bytes.now)
    c.requires.noted.spelled c.requires.comes.1 in
    let small = there.1.framed.small in
    record { fits = omega (arith, small, c.offset-2.ensures) }

pub returns-clause-handled : goal.returns-clause-handled
returns-clause-handled c = λ rest come.
    let t = c.args.trace.now in
    let e = c.args.e in
    let n = c.args.self.now in
    let k = kept_section n in
    let at = c.args.rollback.now.offset in
    let decoded = rollback_in c.args.rollback.now.bytes.now in
    let keep = rolled n.bytes.now in
    let place = c.offset-2.result in
    let same : place ≡ at = c.offset-2.ensures in
    let count : c.len.result ≡ length n.attempts.items = search rules in
    let old : vec_len n.fates ≡ length n.fates.items = search rules in
    let all : c.len.result ≡ length k.attempts = count ∙ sym (length-map n.attempts.items (kept_attempt n.bytes.now)) in
    let fates : n.fates.items ++ replicate (open_count k) Discarded ≡ c.resize.new.self.items =
    discarded_all n.fates.items c.resize.new.self.items c.len.result (vec_len n.fates)
    (length k.attempts) c.in_ok-resize.ensures.items all old come.is_kept.fewer in
    let there = rollback_there n.bytes.now t e rest k at decoded c.requires.noted.spelled come in
    let is_one : (at, decoded) ≡ keep place =
    λ i. (sym same i, (sym there.0 ∙ ap (λ (o : ℕ). rollback_in (frame_in n.bytes.now o)) (sym same)) i) in
    let rollbacks : map keep n.rollbacks.items ++ (at, decoded) ∷ [] ≡ map keep c.push.new.self.items =
    ap (λ (r : ℕ × Rollback). map keep n.rollbacks.items ++ r ∷ []) is_one
    ∙ sym (ap (map keep) c.in_ok-push.ensures.items ∙ map-append keep n.rollbacks.items (place ∷ [])) in
    let is : with_rollback k at decoded
    ≡ kept_section (record n {
      view = c.view-self.result;
      rolled_back = true;
      fates = c.resize.new.self;
      rollbacks = c.push.new.self;
    }) =
    λ i. record k { view = sym c.view-self.ensures i; rolled_back = true; fates = fates i; rollbacks = rollbacks i } in
    subst (HasCome t e rest) is
    (come_rollback t e at decoded rest k come
    (rollback_right t (state_after start come.prefix) at decoded
    (sym (c.rolls_back.ensures t (state_after start come.prefix) come.stands
    c.head.ensures) ∙ c.if-not-rolls_back.false)))

pub returns-clause-noted : goal.returns-clause-noted
returns-clause-noted c =
    let n = c.args.self.now in
    let there = rollback_there n.bytes.now c.args.trace.now c.args.e c.requires.comes.0
    (kept_section n) c.args.rollback.now.offset (rollback_in c.args.rollback.now.bytes.now) c.requires.noted.spelled
    c.requires.comes.1 in
    record {
      spelled = c.requires.noted.spelled;
      framed = record {
        attempts = c.requires.noted.framed.attempts;
        records = c.requires.noted.framed.records;
        rollbacks = subst (AllByRecursion (IsRollbackAt n.bytes.now)) (sym c.in_ok-push.ensures.items)
            (all-push (IsRollbackAt n.bytes.now) n.rollbacks.items c.offset-2.result c.requires.noted.framed.rollbacks
            (subst (IsRollbackAt n.bytes.now) (sym c.offset-2.ensures) there.1));
        transfers = c.requires.noted.framed.transfers;
      };
    }
