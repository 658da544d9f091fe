-- The text of a whole trace, and how long it is.
use Rattle.std.proofs.Common.{◌≡◌, ℕ, ◌+◌, List, [], ◌∷◌, ◌++◌, length, map, refl, sym, ◌∙◌, ap, append_assoc, arith}
use Rattle.std.proofs.Common.{length-append, Vec}
use Rattle.std.specs.declared.alloc.Global.{Global}
use Rattle.std.specs.List.{flat_map, enumerate_from, sum_by}
use Rattle.std.proofs.lemmas.List.Concat.{flat_map-append, length-flat_map}
use Rattle.std.proofs.lemmas.List.Folds.{flat_map-map}
use Rattle.std.proofs.lemmas.List.Sums.{sum_by-cons}
use Rattle.eve_grammar.specs.Trace.{Trace}
use Rattle.eve_grammar.specs.Frames.{OfCustomer, OfBatch, OfVote, OfSent, End, step_frames, section_frames}
use Rattle.eve_grammar.specs.Frames.{verifier_frames, batches_of, sections_of, verifiers_of, frames_of}
use Rattle.eve_grammar.specs.Spelling.{frame_text, frames_text, customer_text, batch_text, section_text, votes_text}
use Rattle.eve_grammar.specs.Spelling.{step_text, head_text, length_of, spelling}
use Rattle.eve_write.specs.Data.{customer, batch, section, votes, step, vote, sent, trace}
use Rattle.eve_write.specs.declared.step.Step as code
use Rattle.eve_write.specs.declared.vote.VoteData.{VoteData}
use Rattle.eve_write.specs.declared.parts.Parts.{Parts}
use Rattle.eve_write.specs.Passes.{prefix_text, rest_text, step_size, vote_size}
use Rattle.eve_write.proofs.JoinedWrites.{flat_map-flat_map}

-- what stands after the header, part by part
pub parts_text : Trace → List ℕ
parts_text t =
    flat_map customer_text t.customers ++ (flat_map batch_text (batches_of t) ++ (flat_map section_text (sections_of t)
    ++ (flat_map votes_text (verifiers_of t) ++ (flat_map (λ s. frame_text (OfSent s)) t.sent ++ frame_text End))))

frames_are : (t : Trace) → frames_text (frames_of t) ≡ parts_text t
unfolding frames_of parts_text
frames_are t =
    let f = frame_text in
    let sections = sections_of t in
    let verifiers = verifiers_of t in
    let ends : flat_map f (map OfSent t.sent ++ End ∷ []) ≡ flat_map (λ s. f (OfSent s)) t.sent ++ f End =
    flat_map-append f (map OfSent t.sent) (End ∷ []) ∙ ap (λ x. x ++ f End) (flat_map-map f OfSent t.sent) in
    let voted : flat_map f (flat_map verifier_frames verifiers ++ (map OfSent t.sent ++ End ∷ []))
    ≡ flat_map votes_text verifiers ++ (flat_map (λ s. f (OfSent s)) t.sent ++ f End) =
    flat_map-append f (flat_map verifier_frames verifiers) (map OfSent t.sent ++ End ∷ [])
    ∙ ap (λ x. x ++ flat_map f (map OfSent t.sent ++ End ∷ [])) (flat_map-flat_map f verifier_frames verifiers)
    ∙ ap (λ x. flat_map votes_text verifiers ++ x) ends in
    let stepped = flat_map-append f (flat_map section_frames sections)
    (flat_map verifier_frames verifiers ++ (map OfSent t.sent ++ End ∷ []))
    ∙ ap (λ x. x ++ flat_map f (flat_map verifier_frames verifiers ++ (map OfSent t.sent ++ End ∷ [])))
    (flat_map-flat_map f section_frames sections) ∙ ap (λ x. flat_map section_text sections ++ x) voted in
    let batched = flat_map-append f (map (λ b. OfBatch b.0 b.1) (batches_of t))
    (flat_map section_frames sections ++ (flat_map verifier_frames verifiers ++ (map OfSent t.sent ++ End ∷ [])))
    ∙ ap (λ x. x ++ flat_map f
    (flat_map section_frames sections ++ (flat_map verifier_frames verifiers ++ (map OfSent t.sent ++ End ∷ []))))
    (flat_map-map f (λ b. OfBatch b.0 b.1) (batches_of t))
    ∙ ap (λ x. flat_map batch_text (batches_of t) ++ x) stepped in
    flat_map-append f (map OfCustomer t.customers)
    (map (λ b. OfBatch b.0 b.1) (batches_of t) ++
    (flat_map section_frames sections ++ (flat_map verifier_frames verifiers ++ (map OfSent t.sent ++ End ∷ []))))
    ∙ ap (λ x. x ++ flat_map f
    (map (λ b. OfBatch b.0 b.1) (batches_of t) ++
    (flat_map section_frames sections ++ (flat_map verifier_frames verifiers ++ (map OfSent t.sent ++ End ∷ [])))))
    (flat_map-map f OfCustomer t.customers) ∙ ap (λ x. flat_map customer_text t.customers ++ x) batched

-- the prefix and the rest are the spelling
pub spelling_is : (p : Parts) → prefix_text p (length_of (trace p)) ++ rest_text p ≡ spelling (trace p)
unfolding spelling parts_text
spelling_is p =
    let t = trace p in
    let head = head_text t.head (length_of t) in
    let customers = flat_map customer_text t.customers in
    let batches = flat_map batch_text (batches_of t) in
    append_assoc head (customers ++ batches) (rest_text p)
    ∙ ap (λ x. head ++ x) (append_assoc customers batches (rest_text p)) ∙ ap (λ x. head ++ x) (sym (frames_are t))

-- items with numbers, whose lengths don't depend on them
length-numbered : {X Y : Type 0} (f : ℕ × Y → List ℕ) (view : X → Y) (size : X → ℕ)
    → ((n : ℕ) (x : X) → length (f (n, view x)) ≡ size x) → (n : ℕ) (xs : List X)
    → length (flat_map f (enumerate_from n (map view xs))) ≡ sum_by size xs
length-numbered f view size each n [] = refl
length-numbered f view size each n (x ∷ xs) =
    omega (
      arith,
      length-append (f (n, view x)) (flat_map f (enumerate_from (n + 1) (map view xs))),
      each n x,
      length-numbered f view size each (n + 1) xs,
      sum_by-cons size x xs,
    )

length-items : {X Y : Type 0} (f : Y → List ℕ) (view : X → Y) (xs : List X) → length (flat_map f (map view xs))
    ≡ sum_by (λ x. length (f (view x))) xs
length-items f view xs = ap length (flat_map-map f view xs) ∙ length-flat_map (λ x. f (view x)) xs

length-section : (n : ℕ) (s : Vec code.Step Global) → length (section_text (n, section s))
    ≡ 6 + sum_by step_size s.items
length-section n s =
    omega (
      arith,
      ap length (flat_map-flat_map frame_text step_frames (map step s.items)),
      length-items step_text step s.items,
    )

length-votes : (n : ℕ) (v : Vec VoteData Global) → length (votes_text (n, votes v)) ≡ 6 + sum_by vote_size v.items
length-votes n v =
    omega (
      arith,
      ap length (flat_map-map frame_text OfVote (map vote v.items)),
      length-items (λ w. frame_text (OfVote w)) vote v.items,
    )

-- the length of the whole, part by part
pub length_is : (p : Parts) → length_of (trace p)
    ≡ 37 + (sum_by (λ c. length (customer_text (customer c))) p.customers.items +
    (sum_by (λ b. length (frame_text (OfBatch 1 (batch b)))) p.batches.items
    + (sum_by (λ s. 6 + sum_by step_size s.items) p.sections.items +
    (sum_by (λ v. 6 + sum_by vote_size v.items) p.verifiers.items
    + sum_by (λ s. length (frame_text (OfSent (sent s)))) p.sent.items))))
unfolding length_of parts_text
length_is p =
    let t = trace p in
    let customers = flat_map customer_text t.customers in
    let batches = flat_map batch_text (batches_of t) in
    let sections = flat_map section_text (sections_of t) in
    let verifiers = flat_map votes_text (verifiers_of t) in
    let replies = flat_map (λ s. frame_text (OfSent s)) t.sent in
    let whole : length (frames_text (frames_of t))
    ≡ length (customers ++ (batches ++ (sections ++ (verifiers ++ (replies ++ frame_text End))))) =
    ap length (frames_are t) in
    let parts : length (customers ++ (batches ++ (sections ++ (verifiers ++ (replies ++ frame_text End)))))
    ≡ length customers + (length batches + (length sections + (length verifiers + (length replies + 5)))) =
    omega (
      arith,
      length-append customers (batches ++ (sections ++ (verifiers ++ (replies ++ frame_text End)))),
      length-append batches (sections ++ (verifiers ++ (replies ++ frame_text End))),
      length-append sections (verifiers ++ (replies ++ frame_text End)),
      length-append verifiers (replies ++ frame_text End),
      length-append replies (frame_text End),
    ) in
    let a = length-items customer_text customer p.customers.items in
    let b = length-numbered batch_text batch (λ b. length (frame_text (OfBatch 1 (batch b))))
    (λ n b. refl) 1 p.batches.items in
    let s = length-numbered section_text section (λ s. 6 + sum_by step_size s.items) length-section 0 p.sections.items
    in
    let v = length-numbered votes_text votes (λ v. 6 + sum_by vote_size v.items) length-votes 0 p.verifiers.items in
    let r = length-items (λ s. frame_text (OfSent s)) sent p.sent.items in
    omega (arith, whole, parts, a, b, s, v, r)
