use Rattle.std.proofs.Common.{◌≡◌, ℕ, List, [], ◌∷◌, ◌++◌, length, ap, sym, subst, ◌∙◌, ◌≤◌, arith, rules}
use Rattle.eve_grammar.specs.Trace.{Trace, Step, Commits}
use Rattle.eve_frames.specs.Views.{commit_in}
use Rattle.eve_views.specs.declared.fault.Code.TheVariants as code
use Rattle.eve_views.specs.declared.fault.Fault.{Fault}
use Rattle.eve_views.specs.declared.fault.CheckFault.{CheckFault}
use Rattle.eve_views.specs.declared.fault.CheckFault.TheVariants.{Found}
use Rattle.eve_views.specs.Form.{IfFound, IsLeast, IsFaultIn}
use Rattle.eve_history.specs.declared.how_reached.HowReached as told
use Rattle.eve_history.specs.declared.how_reached.HowReached.TheVariants as how_reached
use Rattle.eve_history.specs.Section.{start, state_after}
use Rattle.eve_history.specs.inner.FirstWrong.{fault_of}
use Rattle.eve_history.specs.KeptSections.{kept_section, HasCome}
use Rattle.eve_history.proofs.SectionSteps.{come_wrong, come_commit, with_commit}
use Rattle.eve_history.proofs.FrameOffsets.{attempts_small}
use Rattle.eve_history.proofs.StepHandlers.{commit_wrong, commit_right}
use Rattle.eve_history.specs.Structure.{StandsInStructure}
use Rattle.eve_history.proofs.structure.Notes.take_commit.Goals as goal

pub returns-then-not-is_right_commit-clause-wrong : goal.returns-then-not-is_right_commit-clause-wrong
returns-then-not-is_right_commit-clause-wrong c =
    let e = c.args.e in
    let k = kept_section c.args.self.now in
    let at = c.args.commit.now.offset in
    let decoded = commit_in c.args.commit.now.bytes.now in
    let P : Fault → Type 0 = λ f. (t : Trace) (rest : List (ℕ × Step)) → HasCome t e ((at, Commits decoded) ∷ rest) k
    → IsLeast (IsFaultIn StandsInStructure t e) f in
    subst (λ (x : CheckFault). IfFound x P)
    (sym (c.fault_in.ensures ∙ ap (λ (o : ℕ). Found (fault_of e (record { code = code.Commit; offset = o })))
    c.offset.ensures))
    (λ t rest come.
    come_wrong t e (at, Commits decoded) rest k (record { code = code.Commit; offset = at }) come
    (commit_wrong t (state_after start come.prefix) at decoded
    (sym (c.is_right_commit.ensures (state_after start come.prefix) come.stands) ∙ c.if-not-is_right_commit.true)))

pub returns-clause-handled : goal.returns-clause-handled
returns-clause-handled c = λ t rest come.
    let e = c.args.e in
    let k = kept_section c.args.self.now in
    let at = c.args.commit.now.offset in
    let decoded = commit_in c.args.commit.now.bytes.now in
    let place : length k.fates ≡ c.len-place.result = search rules in
    let ways_reached : k.ways_reached ++ how_reached.Attempt (length k.fates) ∷ [] ≡ c.push_reserved.new.self.items =
    ap (λ (n : ℕ). k.ways_reached ++ how_reached.Attempt n ∷ []) place
    ∙ ap (λ (ls : List told.HowReached). ls ++ how_reached.Attempt c.len-place.result ∷ [])
    (sym c.in_ok-reserve.ensures.items) ∙ sym c.push_reserved.ensures.items in
    let is : with_commit k decoded.seq
    ≡ kept_section (record c.args.self.now
    { last = c.seq-self.result; fates = c.push.new.self; ways_reached = c.push_reserved.new.self }) =
    λ i. record k {
      last = sym c.seq-self.ensures i;
      fates = sym c.in_ok-push.ensures.items i;
      ways_reached =
          ways_reached i;
    }
    in
    subst (HasCome t e rest) is
    (come_commit t e at decoded rest k come
    (commit_right t (state_after start come.prefix) at decoded
    (sym (c.is_right_commit.ensures (state_after start come.prefix) come.stands) ∙ c.if-not-is_right_commit.false)))

pub overflow_cast-place : goal.overflow_cast-place
overflow_cast-place c =
    let k = kept_section c.args.self.now in
    let comes = c.requires.comes in
    let small = attempts_small c.args.self.now.bytes.now comes.0 c.args.e comes.1 k c.args.commit.now.offset
    (Commits (commit_in c.args.commit.now.bytes.now)) comes.2.spelled comes.3 in
    let fewer : length k.fates ≤ length k.attempts = comes.3.stands.fewer in
    let place : length k.fates ≡ c.len-place.result = search rules in
    record { fits = omega (arith, small) }
