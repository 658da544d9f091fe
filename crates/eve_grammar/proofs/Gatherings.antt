-- Public: other crates cite these lemmas. What is gathered of the frames of a trace is the trace.
use Rattle.std.proofs.Common.{◌≡◌, ℕ, ◌+◌, List, [], ◌∷◌, ◌++◌, map, refl, sym, ap, ◌∙◌, append_assoc, append-nil}
use Rattle.std.specs.List.{flat_map, enumerate_from}
use Rattle.eve_grammar.specs.Trace.{Customer, Batch, Access, Attempt, Step, Attempts, Commits, RollsBack, Transfers}
use Rattle.eve_grammar.specs.Trace.{Vote, Sent, Trace}
use Rattle.eve_grammar.specs.Frames.{Frame, OfCustomer, OfBatch, OfReplica, OfAttempt, OfAccess, OfCommit, OfRollback}
use Rattle.eve_grammar.specs.Frames.{OfTransfer, OfVerifier, OfVote, OfSent, End, without_accesses, step_frames}
use Rattle.eve_grammar.specs.Frames.{section_frames, verifier_frames, frames_of}
use Rattle.eve_grammar.specs.GatheredTraces.{Gathered, gather, gathered, headed, trace_of, IsMadeOf}
use Rattle.eve_grammar.specs.declared.head.Head.{Head}

-- whole parts alone
abbrev parts : List Customer → List Batch → List (List Step) → List (List Vote) → List Sent → Gathered
parts cs bs ss vs sent =
    record {
      customers = cs;
      batches = bs;
      accesses = [];
      steps = [];
      sections = ss;
      votes = [];
      verifiers = vs;
      sent = sent;
    }

abbrev pub with_votes : Gathered → List Vote → Gathered
with_votes g vs = record g { votes = vs }

abbrev pub with_accesses : Gathered → List Access → Gathered
with_accesses g xs = record g { accesses = xs }

-- steps, all of whose accesses they have
abbrev pub with_steps : Gathered → List Step → Gathered
with_steps g ss = record g { accesses = []; steps = ss }

-- ---- votes, and what is sent

gathered-sent : (sent : List Sent) → gathered (map OfSent sent ++ End ∷ []) ≡ parts [] [] [] [] sent
gathered-sent [] = refl
gathered-sent (s ∷ sent) = ap (gather (OfSent s)) (gathered-sent sent)

pub gathered-votes : (vs : List Vote) (rest : List Frame) (g : Gathered) → gathered rest ≡ g
    → gathered (map OfVote vs ++ rest) ≡ with_votes g (vs ++ g.votes)
gathered-votes [] rest g e = e
gathered-votes (v ∷ vs) rest g e = ap (gather (OfVote v)) (gathered-votes vs rest g e)

gathered-verifiers : (vs : List (List Vote)) (n : ℕ) (sent : List Sent) (rest : List Frame) → gathered rest
    ≡ parts [] [] [] [] sent
    → gathered (flat_map verifier_frames (enumerate_from n vs) ++ rest) ≡ parts [] [] [] vs sent
gathered-verifiers [] n sent rest e = e
gathered-verifiers (v ∷ vs) n sent rest e =
    let later = flat_map verifier_frames (enumerate_from (n + 1) vs) in
    let g = parts [] [] [] vs sent in
    let votes : gathered (map OfVote v ++ (later ++ rest)) ≡ with_votes g v =
    gathered-votes v (later ++ rest) g (gathered-verifiers vs (n + 1) sent rest e)
    ∙ ap (with_votes g) (append-nil v) in
    ap gathered (append_assoc (verifier_frames (n, v)) later rest) ∙ ap (gather (OfVerifier n)) votes

-- ---- sections

pub gathered-accesses : (xs : List Access) (rest : List Frame) (g : Gathered) → gathered rest ≡ g
    → gathered (map OfAccess xs ++ rest) ≡ with_accesses g (xs ++ g.accesses)
gathered-accesses [] rest g e = e
gathered-accesses (x ∷ xs) rest g e = ap (gather (OfAccess x)) (gathered-accesses xs rest g e)

-- the accesses come back to their attempt
gathered-attempt : (a : Attempt) (ss : List Step) (rest : List Frame) (g : Gathered) → gathered rest ≡ with_steps g ss
    → gathered (step_frames (Attempts a) ++ rest) ≡ with_steps g (Attempts a ∷ ss)
gathered-attempt a ss rest g e =
    let behind = with_steps g ss in
    let own : gathered (map OfAccess a.accesses ++ rest) ≡ with_accesses behind a.accesses =
    gathered-accesses a.accesses rest behind e ∙ ap (with_accesses behind) (append-nil a.accesses) in
    ap (gather (OfAttempt (without_accesses a))) own

gathered-step : (s : Step) (ss : List Step) (rest : List Frame) (g : Gathered) → gathered rest ≡ with_steps g ss
    → gathered (step_frames s ++ rest) ≡ with_steps g (s ∷ ss)
gathered-step (Attempts a) ss rest g e = gathered-attempt a ss rest g e
gathered-step (Commits c) ss rest g e = ap (gather (OfCommit c)) e
gathered-step (RollsBack r) ss rest g e = ap (gather (OfRollback r)) e
gathered-step (Transfers x) ss rest g e = ap (gather (OfTransfer x)) e

pub gathered-steps : (ss : List Step) (rest : List Frame) (g : Gathered) → gathered rest ≡ with_steps g []
    → gathered (flat_map step_frames ss ++ rest) ≡ with_steps g ss
gathered-steps [] rest g e = e
gathered-steps (s ∷ ss) rest g e =
    let later = flat_map step_frames ss in
    ap gathered (append_assoc (step_frames s) later rest)
    ∙ gathered-step s ss (later ++ rest) g (gathered-steps ss rest g e)

gathered-sections : (sections : List (List Step)) (n : ℕ) (vs : List (List Vote)) (sent : List Sent) (rest : List Frame)
    → gathered rest ≡ parts [] [] [] vs sent
    → gathered (flat_map section_frames (enumerate_from n sections) ++ rest) ≡ parts [] [] sections vs sent
gathered-sections [] n vs sent rest e = e
gathered-sections (ss ∷ sections) n vs sent rest e =
    let later = flat_map section_frames (enumerate_from (n + 1) sections) in
    let steps = gathered-steps ss (later ++ rest) (parts [] [] sections vs sent)
    (gathered-sections sections (n + 1) vs sent rest e) in
    ap gathered (append_assoc (section_frames (n, ss)) later rest) ∙ ap (gather (OfReplica n)) steps

-- ---- batches and customers

gathered-batches : (bs : List Batch) (n : ℕ) (sections : List (List Step)) (vs : List (List Vote)) (sent : List Sent)
    (rest : List Frame) → gathered rest ≡ parts [] [] sections vs sent
    → gathered (map (λ b. OfBatch b.0 b.1) (enumerate_from n bs) ++ rest) ≡ parts [] bs sections vs sent
gathered-batches [] n sections vs sent rest e = e
gathered-batches (b ∷ bs) n sections vs sent rest e =
    ap (gather (OfBatch n b)) (gathered-batches bs (n + 1) sections vs sent rest e)

gathered-customers : (cs : List Customer) (bs : List Batch) (sections : List (List Step)) (vs : List (List Vote))
    (sent : List Sent) (rest : List Frame) → gathered rest ≡ parts [] bs sections vs sent
    → gathered (map OfCustomer cs ++ rest) ≡ parts cs bs sections vs sent
gathered-customers [] bs sections vs sent rest e = e
gathered-customers (c ∷ cs) bs sections vs sent rest e =
    ap (gather (OfCustomer c)) (gathered-customers cs bs sections vs sent rest e)

-- ---- the whole

gathered-frames_of : (t : Trace) → gathered (frames_of t) ≡ parts t.customers t.batches t.sections t.verifiers t.sent
unfolding frames_of
gathered-frames_of t =
    let sent = gathered-sent t.sent in
    let verifiers = gathered-verifiers t.verifiers 0 t.sent _ sent in
    let sections = gathered-sections t.sections 0 t.verifiers t.sent _ verifiers in
    let batches = gathered-batches t.batches 1 t.sections t.verifiers t.sent _ sections in
    gathered-customers t.customers t.batches t.sections t.verifiers t.sent _ batches

-- the frames of a trace make it up
pub trace_of-frames_of : (t : Trace) → trace_of t.head (frames_of t) ≡ t
unfolding trace_of
trace_of-frames_of t = ap (headed t.head) (gathered-frames_of t)

-- and so no two traces have one header and the same frames
pub only_trace : (h : Head) (fs : List Frame) (t : Trace) → IsMadeOf h fs t → t ≡ trace_of h fs
only_trace h fs t of = sym (trace_of-frames_of t) ∙ ap (λ (k : Head). trace_of k (frames_of t)) of.head
    ∙ ap (trace_of h) of.frames
