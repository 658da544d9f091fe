use Rattle.std.proofs.Common.{◌≡◌, ℕ, ◌<◌, ◌==◌, false, List, [], ◌∷◌, ◌++◌, map, length, take, IsTrue, ap, sym, subst}
use Rattle.std.proofs.Common.{◌∙◌, rules, arith}
use Rattle.std.specs.List.{AllByRecursion, list_any}
use Rattle.std.proofs.lemmas.List.{map-append, length-map}
use Rattle.eve_grammar.specs.Trace.{Access, Attempt, Step, Attempts}
use Rattle.eve_grammar.specs.Frames.{without_accesses}
use Rattle.eve_grammar.proofs.Lists.{all-push}
use Rattle.eve_frames.specs.Views.{attempt_in}
use Rattle.eve_views.specs.declared.fault.Fault.{Fault}
use Rattle.eve_views.specs.declared.fault.CheckFault.{CheckFault}
use Rattle.eve_views.specs.Form.{IfFound, IsLeast, IsFaultIn}
use Rattle.eve_history.specs.declared.structure.Attempted.{Attempted}
use Rattle.eve_history.specs.Section.{start, state_after}
use Rattle.eve_history.specs.SectionHistory.{ordered, access_with}
use Rattle.eve_history.specs.Structure.{accesses_of, StandsInStructure}
use Rattle.eve_history.specs.KeptSections.{KeptAttempt, kept_section, kept_attempt, seen, was_transferred, HasCome}
use Rattle.eve_history.specs.KeptSections.{ComesNext}
use Rattle.eve_history.proofs.SectionSteps.{come_wrong, come_attempt, with_attempt}
use Rattle.eve_history.proofs.Lookups.{found_offsets, listed_small}
use Rattle.eve_history.specs.FrameOffsets.{frame_in, IsAttemptAt, IsAccessAt}
use Rattle.eve_history.proofs.FrameOffsets.{attempt_there, all_seen, all_small, seen_in_order, access_frames}
use Rattle.eve_history.proofs.FrameOffsets.{transfers_small}
use Rattle.eve_history.proofs.StepHandlers.{its_records_count, its_indexes, its_order}
use Rattle.eve_history.proofs.structure.Notes.take_attempt.Goals as goal

pub judge-requires-clause-many : goal.judge-requires-clause-many
judge-requires-clause-many c =
    let decoded = attempt_in c.args.attempt.now.bytes.now in
    let order : take c.len.result c.read_order.new.order ≡ decoded.certificate =
    ap (λ (n : ℕ). take n c.read_order.new.order) c.len.ensures.certificate ∙ c.read_order.ensures in
    its_records_count c.args.trace.now c.args.e c.requires.comes.0 c.requires.comes.1
    (kept_section c.args.self.now) c.args.attempt.now.offset decoded c.args.accesses.now c.requires.comes.2
    ∙ ap length (sym order)

pub returns-in-Some-clause-wrong : goal.returns-in-Some-clause-wrong
returns-in-Some-clause-wrong c =
    let t = c.args.trace.now in
    let e = c.args.e in
    let k = kept_section c.args.self.now in
    let at = c.args.attempt.now.offset in
    let decoded = attempt_in c.args.attempt.now.bytes.now in
    let xs = c.args.accesses.now in
    let P : Fault → Type 0 = λ f. (rest : List (ℕ × Step)) (b : Attempt) → ComesNext t e rest b k at decoded xs
    → IsLeast (IsFaultIn StandsInStructure t e) f in
    subst (λ (x : CheckFault). IfFound x P) (sym c.fault_in.ensures)
    (λ rest b comes.
    come_wrong t e (at, Attempts b) rest k c.in-Some.wrong comes.come
    (sym (c.in-Some.ensures.wrong (state_after start comes.come.prefix) b comes.come.stands comes.attempt
    comes.accesses)))

pub keep_records-requires : goal.keep_records-requires
keep_records-requires c =
    let t = c.args.trace.now in
    let at = c.args.attempt.now.offset in
    let decoded = attempt_in c.args.attempt.now.bytes.now in
    let xs = c.args.accesses.now in
    let b = c.requires.comes.1 in
    let comes = c.requires.comes.2 in
    let order : take c.len.result c.read_order.new.order ≡ decoded.certificate =
    ap (λ (n : ℕ). take n c.read_order.new.order) c.len.ensures.certificate ∙ c.read_order.ensures in
    listed_small xs (take c.len.result c.read_order.new.order)
    (subst (AllByRecursion (λ i. (i < 256) × IsTrue (list_any (λ y. y.index == i) (accesses_of xs)))) (sym order)
    (its_indexes t c.args.e c.requires.comes.0 b (kept_section c.args.self.now) at decoded xs comes
    (sym (c.in_default.ensures.wrong (state_after start comes.come.prefix) b comes.come.stands comes.attempt
    comes.accesses))))

pub overflow_cast-offset : goal.overflow_cast-offset
overflow_cast-offset c =
    let there = attempt_there c.args.self.now.bytes.now c.args.trace.now c.args.e c.requires.comes.0
    (kept_section c.args.self.now) c.args.attempt.now.offset c.requires.comes.1 c.requires.noted.spelled
    c.requires.comes.2.come in
    let small = there.1.framed.small in
    record { fits = omega (arith, small, c.offset.ensures) }

pub overflow_cast-transferred : goal.overflow_cast-transferred
overflow_cast-transferred c =
    let n = c.args.self.now in
    let small = transfers_small n.bytes.now c.args.trace.now c.args.e c.requires.comes.0 (kept_section n)
    c.args.attempt.now.offset (Attempts c.requires.comes.1) c.requires.noted.spelled c.requires.comes.2.come in
    let count : c.len-transferred.result ≡ length n.transfers.items = search rules in
    record { fits = omega (arith, small, count, length-map n.transfers.items (was_transferred n.bytes.now)) }

pub returns-clause-handled : goal.returns-clause-handled
returns-clause-handled c = λ rest b comes.
    let t = c.args.trace.now in
    let n = c.args.self.now in
    let k = kept_section n in
    let at = c.args.attempt.now.offset in
    let decoded = attempt_in c.args.attempt.now.bytes.now in
    let xs = c.args.accesses.now in
    let order : take c.len.result c.read_order.new.order ≡ decoded.certificate =
    ap (λ (m : ℕ). take m c.read_order.new.order) c.len.ensures.certificate ∙ c.read_order.ensures in
    let from : c.len-from.result ≡ length k.records =
    (let count : c.len-from.result ≡ length n.records.items = search rules in count
    ∙ sym (length-map n.records.items (seen n.bytes.now))) in
    let transferred : c.len-transferred.result ≡ length k.transfers =
    (let count : c.len-transferred.result ≡ length n.transfers.items = search rules in count
    ∙ sym (length-map n.transfers.items (was_transferred n.bytes.now))) in
    let added : KeptAttempt =
    record { offset = at; attempt = without_accesses b; transferred = length k.transfers; from = length k.records } in
    let keep = kept_attempt n.bytes.now in
    let there = attempt_there n.bytes.now t c.args.e rest k at b c.requires.noted.spelled comes.come in
    let same : added
    ≡ keep (record { at = c.offset.result; transferred = c.len-transferred.result; from = c.len-from.result }) =
    λ i. record {
      offset = sym c.offset.ensures i;
      attempt = (sym there.0 ∙ ap (λ (o : ℕ). attempt_in (frame_in n.bytes.now o)) (sym c.offset.ensures)) i;
      transferred = sym transferred i;
      from = sym from i;
    } in
    let attempts : k.attempts ++ added ∷ [] ≡ map keep c.push.new.self.items =
    ap (λ (a : KeptAttempt). k.attempts ++ a ∷ []) same
    ∙ sym (ap (map keep) c.in_ok-push.ensures.items
    ∙ map-append keep n.attempts.items
    (record { at = c.offset.result; transferred = c.len-transferred.result; from = c.len-from.result } ∷ [])) in
    let own = take c.len.result c.read_order.new.order in
    let listed : AllByRecursion (λ i. (i < 256) × IsTrue (list_any (λ y. y.index == i) (accesses_of xs))) own =
    subst (AllByRecursion (λ i. (i < 256) × IsTrue (list_any (λ y. y.index == i) (accesses_of xs)))) (sym order)
    (its_indexes t c.args.e rest b k at decoded xs comes
    (sym (c.in_default.ensures.wrong (state_after start comes.come.prefix) b comes.come.stands comes.attempt
    comes.accesses))) in
    let again = seen_in_order n.bytes.now xs own
    (all_seen n.bytes.now t c.args.e rest b k at decoded xs c.requires.noted.spelled comes) listed in
    let kept : c.keep_records.new.records.items ≡ n.records.items ++ map (λ i. (access_with xs i).0) own =
    c.in_ok-keep_records.ensures
    ∙ ap (λ (ys : List ℕ). n.records.items ++ ys) (found_offsets xs c.judge.new.marks own c.in_default.ensures.marked
    listed) in
    let records : k.records ++ ordered at b ≡ map (seen n.bytes.now) c.keep_records.new.records.items =
    ap (λ (ys : List (ℕ × Access)). k.records ++ ys)
    (sym (again ∙ its_order t c.args.e rest b k at decoded xs comes own order))
    ∙ sym (ap (map (seen n.bytes.now)) kept ∙ map-append (seen n.bytes.now) n.records.items
    (map (λ i. (access_with xs i).0) own)) in
    let is : with_attempt k at (without_accesses b) (ordered at b)
    ≡ kept_section (record n { rolled_back = false; attempts = c.push.new.self; records = c.keep_records.new.records })
    =
    λ i. record k { rolled_back = false; attempts = attempts i; records = records i } in
    subst (HasCome t c.args.e rest) is
    (come_attempt t c.args.e at b rest k comes.come
    (sym (c.in_default.ensures.wrong (state_after start comes.come.prefix) b comes.come.stands comes.attempt
    comes.accesses)))

pub judge-requires-clause-small : goal.judge-requires-clause-small
judge-requires-clause-small c =
    let n = c.args.self.now in
    let decoded = attempt_in c.args.attempt.now.bytes.now in
    let xs = c.args.accesses.now in
    all_small n.bytes.now xs
    (all_seen n.bytes.now c.args.trace.now c.args.e c.requires.comes.0 c.requires.comes.1
    (kept_section n) c.args.attempt.now.offset decoded xs c.requires.noted.spelled c.requires.comes.2)

pub returns-clause-noted : goal.returns-clause-noted
returns-clause-noted c =
    let t = c.args.trace.now in
    let n = c.args.self.now in
    let at = c.args.attempt.now.offset in
    let decoded = attempt_in c.args.attempt.now.bytes.now in
    let xs = c.args.accesses.now in
    let b = c.requires.comes.1 in
    let comes = c.requires.comes.2 in
    let there = attempt_there n.bytes.now t c.args.e c.requires.comes.0 (kept_section n) at b c.requires.noted.spelled
    comes.come in
    let is_there : Attempted → Type 0 = λ a. IsAttemptAt n.bytes.now a.at in
    let own = take c.len.result c.read_order.new.order in
    let order : own ≡ decoded.certificate = ap (λ (n : ℕ). take n c.read_order.new.order) c.len.ensures.certificate
    ∙ c.read_order.ensures in
    let listed : AllByRecursion (λ i. (i < 256) × IsTrue (list_any (λ y. y.index == i) (accesses_of xs))) own =
    subst (AllByRecursion (λ i. (i < 256) × IsTrue (list_any (λ y. y.index == i) (accesses_of xs)))) (sym order)
    (its_indexes t c.args.e c.requires.comes.0 b (kept_section n) at decoded xs comes
    (sym (c.in_default.ensures.wrong (state_after start comes.come.prefix) b comes.come.stands comes.attempt
    comes.accesses))) in
    let kept : c.keep_records.new.records.items ≡ n.records.items ++ map (λ i. (access_with xs i).0) own =
    c.in_ok-keep_records.ensures
    ∙ ap (λ (ys : List ℕ). n.records.items ++ ys) (found_offsets xs c.judge.new.marks own c.in_default.ensures.marked
    listed) in
    record {
      spelled = c.requires.noted.spelled;
      framed = record {
        attempts = subst (AllByRecursion is_there) (sym c.in_ok-push.ensures.items)
            (all-push is_there n.attempts.items
            (record { at = c.offset.result; transferred = c.len-transferred.result; from = c.len-from.result })
            c.requires.noted.framed.attempts (subst (IsAttemptAt n.bytes.now) (sym c.offset.ensures) there.1));
        records = subst (AllByRecursion (IsAccessAt n.bytes.now)) (sym kept)
            (access_frames n.bytes.now xs n.records.items own
            (all_seen n.bytes.now t c.args.e c.requires.comes.0 b (kept_section n) at decoded xs
            c.requires.noted.spelled
            comes) listed c.requires.noted.framed.records);
        rollbacks = c.requires.noted.framed.rollbacks;
        transfers = c.requires.noted.framed.transfers;
      };
    }
