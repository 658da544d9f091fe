use Rattle.std.proofs.Common.{◌≡◌, ℕ, ◌-◌, ◌+◌, false, List, [], ◌∷◌, ◌++◌, map, length, replicate, vec_len, ap, sym}
use Rattle.std.proofs.Common.{subst, ◌∙◌, arith, rules}
use Rattle.std.specs.List.{AllByRecursion}
use Rattle.std.proofs.lemmas.List.{map-append, length-map}
use Rattle.eve_grammar.specs.Trace.{Transfer, Step, Transfers}
use Rattle.eve_grammar.proofs.Lists.{all-push}
use Rattle.eve_frames.specs.Views.{transfer_in}
use Rattle.eve_views.specs.declared.fault.Code.TheVariants as code
use Rattle.eve_views.specs.declared.fault.Fault.{Fault}
use Rattle.eve_views.specs.declared.fault.CheckFault.{CheckFault}
use Rattle.eve_views.specs.declared.fault.CheckFault.TheVariants.{Found}
use Rattle.eve_views.specs.Form.{IfFound, IsLeast, IsFaultIn}
use Rattle.eve_history.specs.declared.fate.Fate.TheVariants.{Discarded}
use Rattle.eve_history.specs.FrameOffsets.{frame_in, IsTransferAt}
use Rattle.eve_history.specs.Section.{start, state_after}
use Rattle.eve_history.specs.inner.FirstWrong.{fault_of}
use Rattle.eve_history.specs.KeptSections.{kept_section, kept_attempt, was_transferred, open_count, HasCome}
use Rattle.eve_history.proofs.SectionSteps.{come_wrong, come_transfer, with_transfer, later_number}
use Rattle.eve_history.proofs.WaysKept.{over_at}
use Rattle.eve_history.proofs.FrameOffsets.{transfer_there, transfers_small}
use Rattle.eve_history.proofs.StepHandlers.{transfer_wrong, transfer_right, discarded_all, ways_reached_over}
use Rattle.eve_history.specs.Structure.{StandsInStructure}
use Rattle.eve_history.proofs.structure.Notes.take_transfer.Goals as goal

pub returns-then-not-may_transfer-clause-wrong : goal.returns-then-not-may_transfer-clause-wrong
returns-then-not-may_transfer-clause-wrong c =
    let t = c.args.trace.now in
    let e = c.args.e in
    let k = kept_section c.args.self.now in
    let at = c.args.transfer.now.offset in
    let decoded = transfer_in c.args.transfer.now.bytes.now in
    let P : Fault → Type 0 = λ f. (rest : List (ℕ × Step)) → HasCome t e ((at, Transfers decoded) ∷ rest) k
    → IsLeast (IsFaultIn StandsInStructure t e) f in
    subst (λ (x : CheckFault). IfFound x P)
    (sym (c.fault_in.ensures ∙ ap (λ (o : ℕ). Found (fault_of e (record { code = code.Transfer; offset = o })))
    c.offset.ensures))
    (λ rest come.
    come_wrong t e (at, Transfers decoded) rest k (record { code = code.Transfer; offset = at }) come
    (transfer_wrong t (state_after start come.prefix) at decoded
    (sym (c.may_transfer.ensures t (state_after start come.prefix) come.stands
    c.head.ensures) ∙ c.if-not-may_transfer.true)))

pub overflow_cast-offset : goal.overflow_cast-offset
overflow_cast-offset c =
    let there = transfer_there c.args.self.now.bytes.now c.args.trace.now c.args.e c.requires.comes.0
    (kept_section c.args.self.now) c.args.transfer.now.offset (transfer_in c.args.transfer.now.bytes.now)
    c.requires.noted.spelled c.requires.comes.1 in
    let small = there.1.framed.small in
    record { fits = omega (arith, small, c.offset-2.ensures) }

pub overflow_cast-place : goal.overflow_cast-place
overflow_cast-place c =
    let n = c.args.self.now in
    let small = transfers_small n.bytes.now c.args.trace.now c.args.e c.requires.comes.0 (kept_section n)
    c.args.transfer.now.offset (Transfers (transfer_in c.args.transfer.now.bytes.now)) c.requires.noted.spelled
    c.requires.comes.1 in
    let count : c.len-place.result ≡ length n.transfers.items = search rules in
    record { fits = omega (arith, small, count, length-map n.transfers.items (was_transferred n.bytes.now)) }

pub overflow_sub-seq : goal.overflow_sub-seq
overflow_sub-seq c =
    let t = c.args.trace.now in
    let at = c.args.transfer.now.offset in
    let decoded = transfer_in c.args.transfer.now.bytes.now in
    let come = c.requires.comes.1 in
    let later = later_number t c.args.e at decoded c.requires.comes.0 (kept_section c.args.self.now) come
    (transfer_right t (state_after start come.prefix) at decoded
    (sym (c.may_transfer.ensures t (state_after start come.prefix) come.stands
    c.head.ensures) ∙ c.if-not-may_transfer.false)) in
    omega (arith, later, c.seq-seq.ensures)

pub returns-clause-handled : goal.returns-clause-handled
returns-clause-handled c = λ rest come.
    let t = c.args.trace.now in
    let e = c.args.e in
    let n = c.args.self.now in
    let k = kept_section n in
    let at = c.args.transfer.now.offset in
    let decoded = transfer_in c.args.transfer.now.bytes.now in
    let right = transfer_right t (state_after start come.prefix) at decoded
    (sym (c.may_transfer.ensures t (state_after start come.prefix) come.stands c.head.ensures)
    ∙ c.if-not-may_transfer.false) in
    let keep = was_transferred n.bytes.now in
    let begins = c.offset-2.result in
    let same : begins ≡ at = c.offset-2.ensures in
    let seq : c.seq-seq.result ≡ decoded.seq = c.seq-seq.ensures in
    let count : c.len-all.result ≡ length n.attempts.items = search rules in
    let old : vec_len n.fates ≡ length n.fates.items = search rules in
    let all : c.len-all.result ≡ length k.attempts =
    count ∙ sym (length-map n.attempts.items (kept_attempt n.bytes.now)) in
    let fates : n.fates.items ++ replicate (open_count k) Discarded ≡ c.resize.new.self.items =
    discarded_all n.fates.items c.resize.new.self.items c.len-all.result (vec_len n.fates)
    (length k.attempts) c.in_ok-resize.ensures.items all old come.is_kept.fewer in
    let transferred : c.len-place.result ≡ length n.transfers.items = search rules in
    let place : c.len-place.result ≡ length k.transfers = transferred ∙ sym (length-map n.transfers.items keep) in
    let numbers : vec_len n.ways_reached ≡ length n.ways_reached.items = search rules in
    let ways_reached : k.ways_reached ++ over_at (decoded.seq - (k.last + 1)) (length k.transfers)
    ≡ c.push-2.new.self.items =
    ways_reached_over n.ways_reached.items c.resize-2.new.self.items c.push-2.new.self.items (c.seq-seq.result - 1)
    (vec_len n.ways_reached) k.last decoded.seq c.len-place.result (length k.transfers) c.in_ok-resize-2.ensures.items
    c.in_ok-push-2.ensures.items (ap (λ (m : ℕ). m - 1) seq) numbers come.is_kept.count
    (later_number t e at decoded rest k come right) place in
    let there = transfer_there n.bytes.now t e rest k at decoded c.requires.noted.spelled come in
    let is_one : (at, decoded) ≡ keep begins =
    λ i. (sym same i, (sym there.0 ∙ ap (λ (o : ℕ). transfer_in (frame_in n.bytes.now o)) (sym same)) i) in
    let transfers : map keep n.transfers.items ++ (at, decoded) ∷ [] ≡ map keep c.push.new.self.items =
    ap (λ (x : ℕ × Transfer). map keep n.transfers.items ++ x ∷ []) is_one
    ∙ sym (ap (map keep) c.in_ok-push.ensures.items ∙ map-append keep n.transfers.items (begins ∷ [])) in
    let is : with_transfer k at decoded
    ≡ kept_section (record n {
      view = c.view-self.result;
      last = c.seq-seq.result;
      rolled_back = false;
      fates = c.resize.new.self;
      ways_reached = c.push-2.new.self;
      transfers = c.push.new.self;
    }) =
    λ i. record k {
      view = sym c.view-self.ensures i;
      last = sym seq i;
      rolled_back = false;
      fates = fates i;
      ways_reached = ways_reached i;
      transfers = transfers i;
    } in
    subst (HasCome t e rest) is (come_transfer t e at decoded rest k come right)

pub returns-clause-noted : goal.returns-clause-noted
returns-clause-noted c =
    let n = c.args.self.now in
    let there = transfer_there n.bytes.now c.args.trace.now c.args.e c.requires.comes.0
    (kept_section n) c.args.transfer.now.offset (transfer_in c.args.transfer.now.bytes.now) c.requires.noted.spelled
    c.requires.comes.1 in
    let items : c.push.new.self.items ≡ n.transfers.items ++ c.offset-2.result ∷ [] = c.in_ok-push.ensures.items in
    record {
      spelled = c.requires.noted.spelled;
      framed = record {
        attempts = c.requires.noted.framed.attempts;
        records = c.requires.noted.framed.records;
        rollbacks = c.requires.noted.framed.rollbacks;
        transfers = subst (AllByRecursion (IsTransferAt n.bytes.now)) (sym items)
            (all-push (IsTransferAt n.bytes.now) n.transfers.items c.offset-2.result c.requires.noted.framed.transfers
            (subst (IsTransferAt n.bytes.now) (sym c.offset-2.ensures) there.1));
      };
    }
