-- The parts of a trace that was read: what stands in them, and where.
use Rattle.std.proofs.Common.{◌≡◌, ℕ, zero, suc, ◌+◌, ◌-◌, ◌<◌, ◌≤◌, ◌^◌, Bool, true, false, List, [], ◌∷◌, ◌++◌, map}
use Rattle.std.proofs.Common.{length, take, drop, Some, refl, sym, ap, subst, ◌∙◌, append-nil, arith}
use Rattle.std.specs.Prelude.{slice_get, IsTrue, ◌&&◌}
use Rattle.std.specs.List.{flat_map, list_all, enumerate_from}
use Rattle.std.proofs.lemmas.List.{length-append, length-map, length-take-le, take-append-drop}
use Rattle.std.proofs.lemmas.List.FromFn.{length-enumerate_from}
use Rattle.eve_grammar.specs.Trace.{Batch, Access, Vote, Trace, head_of}
use Rattle.eve_grammar.specs.Frames.{Frame, OfCustomer, OfBatch, OfAccess, OfVote, OfSent, End, section_frames}
use Rattle.eve_grammar.specs.Frames.{verifier_frames, batches_of, sections_of, verifiers_of, frames_of}
use Rattle.eve_grammar.specs.Spelling.{frame_text, frames_text, spelling, located, customers_at, batches_at, sent_at}
use Rattle.eve_grammar.specs.Spelling.{sent_start, batches_start}
use Rattle.eve_grammar.specs.Limits.{HasLimits, is_customer, is_batch, is_sent, is_vote, is_access}
use Rattle.eve_grammar.specs.GatheredTraces.{Gathered, nothing, gathered}
use Rattle.eve_grammar.proofs.Gatherings.{gathered-votes, gathered-accesses}
use Rattle.eve_grammar.proofs.GroupOrder.{all_at}
use Rattle.eve_frames.specs.Views.{has_batch_body, has_sent_body, has_vote_body, has_access_body, batch_in, sent_in}
use Rattle.eve_grammar.specs.declared.limits.TheConstants.{MOST_ROWS, MOST_BATCHES}
use Rattle.eve_frames.specs.Views.{has_customer_body, customer_in, vote_in, access_in, Says}
use Rattle.eve_frames.proofs.Rereading.{customer_again, batch_again, sent_again, vote_again, access_again}
use Rattle.eve_grammar.proofs.FrameLaws.{few_batches}
use Rattle.eve_grammar.proofs.HeadLimits.{head_has_limits}
use Rattle.eve_grammar.specs.declared.head.Head.{Head}
use Rattle.eve_grammar.proofs.Spelled.{limits_of_spelled}
use Rattle.eve_views.specs.declared.walk.Index.{Index}
use Rattle.eve_views.specs.HeldTraces.{IsHeldTrace}
use Rattle.eve_views.specs.Lent.{HasBytesAt}
use Rattle.eve_views.specs.inner.FramesBefore.{before_batches, before_sections, before_sent}
use Rattle.eve_views.specs.Parts.{byte_of, frames_between, accesses_between, votes_between, AreOfOneKind, AreAccesses}
use Rattle.eve_views.specs.Parts.{AreVotes}
use Rattle.eve_views.proofs.NumberedFrames.{frames_from_sections, frames_from_sent}
use Rattle.eve_views.proofs.FrameOffsets.{IsPlaced, placed, length-located, batches_begin, sent_begin}

-- ---- single items

-- an item of a part, met at its frame
pub record Located {A : Type 0} (frame : A → Frame) (test : A → Bool) (list : List (ℕ × A)) (i offset : ℕ)
    (f : Frame) : Type 0 where
  pub item : A
  pub is : f ≡ frame item
  pub right : IsTrue (test item)
  pub there : slice_get list i ≡ Some (offset, item)

-- the same where the frames are the prefix, the part and what is after it
placed_in : {A : Type 0} (frame : A → Frame) (before : List Frame) (xs : List A) (rest fs : List Frame)
    (n i at offset : ℕ) (f : Frame) → i < length xs → at ≡ 32 + length (frames_text before)
    → fs ≡ before ++ (map frame xs ++ rest) → n ≡ length before + i → slice_get fs n ≡ Some f → offset ≡ byte_of fs n
    → IsPlaced frame xs i at offset f
placed_in frame before xs rest fs n i at offset f lt begins cut number got stands =
    placed frame before xs rest i at offset f lt begins
    (ap (λ (gs : List Frame). slice_get gs (length before + i)) (sym cut) ∙ ap (slice_get fs) (sym number) ∙ got)
    (stands ∙ ap (byte_of fs) number ∙ ap (λ (gs : List Frame). byte_of gs (length before + i)) cut)

pub located_in : {A : Type 0} (frame : A → Frame) (test : A → Bool) (before : List Frame) (xs : List A)
    (rest fs : List Frame) (n i at offset : ℕ) (f : Frame) → IsTrue (list_all test xs) → i < length xs
    → at ≡ 32 + length (frames_text before) → fs ≡ before ++ (map frame xs ++ rest) → n ≡ length before + i
    → slice_get fs n ≡ Some f → offset ≡ byte_of fs n
    → Located frame test (located (λ x. frame_text (frame x)) at xs) i offset f
located_in frame test before xs rest fs n i at offset f all lt begins cut number got stands =
    let p = placed_in frame before xs rest fs n i at offset f lt begins cut number got stands in
    record { item = p.item; is = p.is; right = all_at test xs i p.item all p.got; there = p.located_at }

-- what is read of a frame's bytes is what the frame says
pub says_located : {A : Type 0} (is_frame : List ℕ → Bool) (read : List ℕ → A) (bytes : List ℕ) (f g : Frame) (x : A)
    → bytes ≡ frame_text f → f ≡ g → Says is_frame read (frame_text g) x → Says is_frame read bytes x
says_located is_frame read bytes f g x text same says = subst (λ (b : List ℕ). Says is_frame read b x)
    (sym (text ∙ ap frame_text same)) says

pub returned : {A : Type 0} (read : List ℕ → A) (list : List (ℕ × A)) (i offset at : ℕ) (x : A) (bytes own : List ℕ)
    → slice_get list i ≡ Some (offset, x) → read bytes ≡ x → at ≡ offset → own ≡ bytes
    → slice_get list i ≡ Some (at, read own)
returned read list i offset at x bytes own there says same text =
    there ∙ ap (λ z. Some (offset, z)) (sym says ∙ sym (ap read text)) ∙ ap (λ (k : ℕ). Some (k, read own)) (sym same)

-- and its bytes are the frame's text
pub lent_text : {A : Type 0} (frame : A → Frame) (read : List ℕ → A) (bytes own : List ℕ) (f : Frame) (x : A)
    → bytes ≡ frame_text f → f ≡ frame x → read bytes ≡ x → own ≡ bytes → own ≡ frame_text (frame (read own))
lent_text frame read bytes own f x text is says same = same ∙ text ∙ ap frame_text is
    ∙ ap (λ y. frame_text (frame y)) (sym says ∙ sym (ap read same))

-- the frame at a number, and its bytes
abbrev pub IsFrameAt : List Frame → ℕ → List ℕ → Type 0
IsFrameAt fs n bytes = (f : Frame) × (slice_get fs n ≡ Some f) × (bytes ≡ frame_text f)

-- what is lent at a place of a list: bytes that are read as the item there, and are its frame's text
pub record Lends {A : Type 0} (is_frame : List ℕ → Bool) (read : List ℕ → A) (frame : A → Frame) (list : List (ℕ × A))
    (i offset : ℕ) (bytes : List ℕ) : Type 0 where
  pub readable : IsTrue (is_frame bytes)
  pub item : (at : ℕ) (own : List ℕ) → at ≡ offset → own ≡ bytes → slice_get list i ≡ Some (at, read own)
  pub text : (own : List ℕ) → own ≡ bytes → own ≡ frame_text (frame (read own))

pub lends : {A : Type 0} (is_frame : List ℕ → Bool) (read : List ℕ → A) (frame : A → Frame) (test : A → Bool)
    (list : List (ℕ × A)) (i offset : ℕ) (f : Frame) (bytes : List ℕ) (is_located : Located frame test list i offset f)
    → bytes ≡ frame_text f → Says is_frame read (frame_text (frame is_located.item)) is_located.item
    → Lends is_frame read frame list i offset bytes
lends is_frame read frame test list i offset f bytes is_located text again =
    let says = says_located is_frame read bytes f (frame is_located.item) is_located.item text is_located.is again in
    record {
      readable = says.0;
      item = λ at own same is. returned read list i offset at is_located.item bytes own is_located.there says.1 same is;
      text = λ own is. lent_text frame read bytes own f is_located.item text is_located.is says.1 is;
    }

-- which stands where the frame does
pub lent_there : (t : Trace) (at offset : ℕ) (bytes own : List ℕ) → HasBytesAt t at bytes → offset ≡ at → own ≡ bytes
    → HasBytesAt t offset own
lent_there t at offset bytes own stands there same = record {
  behind = stands.behind;
  is = ap (λ (o : ℕ). drop o (spelling t)) there ∙ stands.is ∙ ap (λ (b : List ℕ). b ++ stands.behind) (sym same);
}

-- ---- customers, batches, replies sent

customer_located : (t : Trace) (i offset : ℕ) (f : Frame) → HasLimits t → i < length t.customers
    → slice_get (frames_of t) i ≡ Some f → offset ≡ byte_of (frames_of t) i
    → Located OfCustomer is_customer (customers_at t) i offset f
unfolding frames_of customers_at
customer_located t i offset f limits lt got stands =
    located_in OfCustomer is_customer [] t.customers _ (frames_of t) i i 32 offset f limits.customers lt refl refl
    (omega arith) got stands

enumerated : {A : Type 0} (test : A → Bool) (n : ℕ) (xs : List A) → IsTrue (list_all test xs)
    → IsTrue (list_all (λ (x : ℕ × A). test x.1) (enumerate_from n xs))
enumerated test n [] all = refl
enumerated {A = A} test n (x ∷ xs) all = by (test x) (λ rest. enumerated test (n + 1) xs rest) all
  where
    by : (b : Bool) → (IsTrue (list_all test xs)
        → IsTrue (list_all (λ (y : ℕ × A). test y.1) (enumerate_from (n + 1) xs))) → IsTrue (b && list_all test xs)
        → IsTrue (b && list_all (λ (y : ℕ × A). test y.1) (enumerate_from (n + 1) xs))
    by true more rest = more rest
    by false more rest = absurd cc

abbrev pub of_batch : ℕ × Batch → Frame
of_batch b = OfBatch b.0 b.1

abbrev is_batch_of : ℕ × Batch → Bool
is_batch_of b = is_batch b.1

batch_located : (t : Trace) (n k offset : ℕ) (f : Frame) → HasLimits t → k < length t.batches
    → n ≡ length t.customers + k → slice_get (frames_of t) n ≡ Some f → offset ≡ byte_of (frames_of t) n
    → Located of_batch is_batch_of (batches_at t) k offset f
unfolding frames_of batches_at
batch_located t n k offset f limits lt number got stands =
    let many : length (before_batches t) ≡ length t.customers = length-map t.customers OfCustomer in
    located_in of_batch is_batch_of (before_batches t) (batches_of t) _ (frames_of t) n k (batches_start t) offset f
    (enumerated is_batch 1 t.batches limits.batches)
    (omega (arith, lt, length-enumerate_from 1 t.batches)) (sym (batches_begin t)) refl
    (omega (arith, number, many)) got stands

-- a batch has its place from 1 as its number
batch_number : (t : Trace) (k offset : ℕ) (b : ℕ × Batch) → slice_get (batches_at t) k ≡ Some (offset, b)
    → b.0 ≡ 1 + k
unfolding batches_at
batch_number t k offset b e = counted t.batches 1 (batches_start t) k e
  where
    counted : (bs : List Batch) (n at k : ℕ)
        → slice_get (located (λ (x : ℕ × Batch). frame_text (OfBatch x.0 x.1)) at (enumerate_from n bs)) k
        ≡ Some (offset, b) → b.0 ≡ n + k
    counted [] n at k e = cc
    counted (c ∷ bs) n at zero e =
        let here : ℕ × (ℕ × Batch) = (at, (n, c)) in
        let is_located : ℕ × (ℕ × Batch) = (offset, b) in
        let same : here ≡ is_located = cc in
        let number : n ≡ b.0 = ap (λ (x : ℕ × (ℕ × Batch)). x.1.0) same in
        omega (arith, number)
    counted (c ∷ bs) n at (suc k) e = omega (arith, counted bs (n + 1) (at + length (frame_text (OfBatch n c))) k e)

sent_located : (t : Trace) (n i offset : ℕ) (f : Frame) → HasLimits t → i < length t.sent
    → n ≡ length (before_sent t) + i → slice_get (frames_of t) n ≡ Some f → offset ≡ byte_of (frames_of t) n
    → Located OfSent (is_sent (length t.sections) (length t.batches)) (sent_at t) i offset f
unfolding sent_at
sent_located t n i offset f limits lt number got stands =
    located_in OfSent (is_sent (length t.sections) (length t.batches)) (before_sent t) t.sent (End ∷ []) (frames_of t) n
    i
    (sent_start t) offset f limits.sent lt (sym (sent_begin t)) (frames_from_sent t) number got stands

-- how many frames there are
pub frames_many : (t : Trace) → length (frames_of t) ≡ length (before_sent t) + (length t.sent + 1)
frames_many t = ap length (frames_from_sent t) ∙ length-append (before_sent t) (map OfSent t.sent ++ End ∷ [])
    ∙ omega (arith, length-append (map OfSent t.sent) (End ∷ []), length-map t.sent OfSent)

-- ---- frames between two numbers

cut_at : (fs : List Frame) (from count : ℕ)
    → fs ≡ take from fs ++ (frames_between fs from count ++ drop count (drop from fs))
cut_at fs from count = sym (take-append-drop from fs)
    ∙ ap (λ (gs : List Frame). take from fs ++ gs) (sym (take-append-drop count (drop from fs)))

-- what is gathered of frames of one kind
all_gathered : {A : Type 0} (frame : A → Frame) (of : Gathered → List A) (fs : List Frame) (xs : List A)
    → fs ≡ map frame xs → of (gathered (map frame xs ++ [])) ≡ xs ++ [] → of (gathered fs) ≡ xs
all_gathered frame of fs xs there own =
    ap (λ (gs : List Frame). of (gathered gs)) (there ∙ sym (append-nil (map frame xs))) ∙ own ∙ append-nil xs

pub votes_are : (fs : List Frame) (from to : ℕ) (are : AreVotes fs from to) → votes_between fs from (to - from)
    ≡ located (λ v. frame_text (OfVote v)) (byte_of fs from) are.items
unfolding votes_between
votes_are fs from to are =
    ap (located (λ v. frame_text (OfVote v)) (byte_of fs from))
    (all_gathered OfVote (λ g. g.votes) (frames_between fs from (to - from)) are.items are.there
    (ap (λ (g : Gathered). g.votes) (gathered-votes are.items [] nothing refl)))

pub accesses_are : (fs : List Frame) (from to : ℕ) (are : AreAccesses fs from to) → accesses_between fs from (to - from)
    ≡ located (λ x. frame_text (OfAccess x)) (byte_of fs from) are.items
unfolding accesses_between
accesses_are fs from to are =
    ap (located (λ x. frame_text (OfAccess x)) (byte_of fs from))
    (all_gathered OfAccess (λ g. g.accesses) (frames_between fs from (to - from)) are.items are.there
    (ap (λ (g : Gathered). g.accesses) (gathered-accesses are.items [] nothing refl)))

-- what frames of one kind between two numbers say, each with its byte offset
module _ {A : Type 0} (frame : A → Frame) (fits : ℕ → A → Bool) (most : ℕ) (fs : List Frame) (from to : ℕ)
    (list : List (ℕ × A)) (part : AreOfOneKind frame fits most fs from to)
    (are : list ≡ located (λ x. frame_text (frame x)) (byte_of fs from) part.items) where
  items_many : length list ≡ to - from
  items_many = ap length are ∙ length-located (λ x. frame_text (frame x)) (byte_of fs from) part.items ∙ part.many

  item_located : (i offset : ℕ) (f : Frame) → i < to - from → slice_get fs (from + i) ≡ Some f
      → offset ≡ byte_of fs (from + i) → Located frame (fits part.count) list i offset f
  item_located i offset f lt got stands =
      let up = part.up in
      let inside = part.within in
      let many = part.many in
      let long = length-take-le from fs (omega (arith, inside, up)) in
      let rest = drop (to - from) (drop from fs) in
      let cut : fs ≡ take from fs ++ (map frame part.items ++ rest) =
      cut_at fs from (to - from) ∙ ap (λ (gs : List Frame). take from fs ++ (gs ++ rest)) part.there in
      subst (λ (xs : List (ℕ × A)). Located frame (fits part.count) xs i offset f) (sym are)
      (located_in frame (fits part.count) (take from fs) part.items rest fs (from + i) i (byte_of fs from) offset f
      part.right (omega (arith, lt, many)) refl cut (omega (arith, long)) got stands)

  item_lent : (is_frame : List ℕ → Bool) (read : List ℕ → A) (i offset : ℕ) (bytes : List ℕ)
      → ((x : A) → IsTrue (fits part.count x) → Says is_frame read (frame_text (frame x)) x) → i < length list
      → IsFrameAt fs (from + i) bytes → offset ≡ byte_of fs (from + i) → Lends is_frame read frame list i offset bytes
  item_lent is_frame read i offset bytes again lt f stands =
      let is_located = item_located i offset f.0 (omega (arith, lt, items_many)) f.1 stands in
      lends is_frame read frame (fits part.count) list i offset f.0 bytes is_located f.2
      (again is_located.item is_located.right)

pub votes_many : (fs : List Frame) (from to : ℕ) (xs : List (ℕ × Vote)) (are : AreVotes fs from to)
    → votes_between fs from (to - from) ≡ xs → length xs ≡ to - from
votes_many fs from to xs are is = items_many OfVote is_vote MOST_BATCHES fs from to xs are
    (sym is ∙ votes_are fs from to are)

pub accesses_many : (fs : List Frame) (from to : ℕ) (xs : List (ℕ × Access)) (are : AreAccesses fs from to)
    → accesses_between fs from (to - from) ≡ xs → length xs ≡ to - from
accesses_many fs from to xs are is = items_many OfAccess is_access MOST_ROWS fs from to xs are
    (sym is ∙ accesses_are fs from to are)

pub vote_lent : (fs : List Frame) (from to i offset : ℕ) (bytes : List ℕ) (xs : List (ℕ × Vote))
    (are : AreVotes fs from to) → votes_between fs from (to - from) ≡ xs → i < length xs → IsFrameAt fs (from + i) bytes
    → offset ≡ byte_of fs (from + i) → Lends has_vote_body vote_in OfVote xs i offset bytes
vote_lent fs from to i offset bytes xs are is = item_lent OfVote is_vote MOST_BATCHES fs from to xs are
    (sym is ∙ votes_are fs from to are) has_vote_body vote_in i offset bytes
    (λ v right. vote_again are.count v right are.few)

pub access_lent : (fs : List Frame) (from to i offset : ℕ) (bytes : List ℕ) (xs : List (ℕ × Access))
    (are : AreAccesses fs from to) → accesses_between fs from (to - from) ≡ xs → i < length xs
    → IsFrameAt fs (from + i) bytes → offset ≡ byte_of fs (from + i)
    → Lends has_access_body access_in OfAccess xs i offset bytes
access_lent fs from to i offset bytes xs are is = item_lent OfAccess is_access MOST_ROWS fs from to xs are
    (sym is ∙ accesses_are fs from to are) has_access_body access_in i offset bytes
    (λ x right. access_again are.count x right are.few)

-- ---- frames of customers, batches and replies sent, as they are read

pub customers_within : (t : Trace) (i : ℕ) → i < length t.customers → i < length (frames_of t)
customers_within t i lt =
    omega (
      arith,
      lt,
      length-map t.customers OfCustomer,
      length-append (map OfCustomer t.customers) (map (λ b. OfBatch b.0 b.1) (batches_of t)),
      ap length (frames_from_sections t),
      length-append (before_sections t)
          (flat_map section_frames (sections_of t) ++
          (flat_map verifier_frames (verifiers_of t) ++ (map OfSent t.sent ++ End ∷ []))),
    )

pub batches_within : (t : Trace) (n k : ℕ) → k < length t.batches → n ≡ length t.customers + k
    → n < length (frames_of t)
batches_within t n k lt number =
    let own = length-append (map OfCustomer t.customers) (map (λ b. OfBatch b.0 b.1) (batches_of t)) in
    omega (
      arith,
      lt,
      number,
      length-map t.customers OfCustomer,
      length-map (batches_of t) (λ (b : ℕ × Batch). OfBatch b.0 b.1),
      length-enumerate_from 1 t.batches,
      own,
      ap length (frames_from_sections t),
      length-append (before_sections t)
          (flat_map section_frames (sections_of t) ++
          (flat_map verifier_frames (verifiers_of t) ++ (map OfSent t.sent ++ End ∷ []))),
    )

pub few_replicas : (t : Trace) → HasLimits t → length t.sections ≤ 8
few_replicas t limits = (head_has_limits (head_of t) limits.head).few_replicas

pub few_verifiers : (t : Trace) → HasLimits t → length t.verifiers ≤ 16
few_verifiers t limits = (head_has_limits (head_of t) limits.head).few_verifiers

pub customer_lent : (t : Trace) (i offset : ℕ) (bytes : List ℕ) → HasLimits t → i < length t.customers
    → IsFrameAt (frames_of t) i bytes → offset ≡ byte_of (frames_of t) i
    → Lends has_customer_body customer_in OfCustomer (customers_at t) i offset bytes
customer_lent t i offset bytes limits lt f stands =
    let is_located = customer_located t i offset f.0 limits lt f.1 stands in
    lends has_customer_body customer_in OfCustomer is_customer (customers_at t) i offset f.0 bytes is_located f.2
    (customer_again is_located.item is_located.right)

-- the number of a batch's frame, by the header that the trace is held under
pub batch_held : (bytes : List ℕ) (h : Head) (index : Index) (t u : Trace) (n : ℕ) → t ≡ u → IsHeldTrace bytes h index t
    → 1 ≤ n → HasLimits u × (h.customers + n - 1 ≡ length u.customers + (n - 1))
batch_held bytes h index t u n same held from_one =
    let own = subst (IsHeldTrace bytes h index) same held in
    let many : length u.customers ≡ h.customers = ap (λ (k : Head). k.customers) own.head in
    (limits_of_spelled bytes u own.spells, omega (arith, many, from_one))

pub batch_lent : (t : Trace) (n k offset : ℕ) (bytes : List ℕ) → HasLimits t → k < length t.batches
    → n ≡ length t.customers + k → IsFrameAt (frames_of t) n bytes → offset ≡ byte_of (frames_of t) n
    → Lends has_batch_body batch_in of_batch (batches_at t) k offset bytes
batch_lent t n k offset bytes limits lt number f stands =
    let is_located = batch_located t n k offset f.0 limits lt number f.1 stands in
    let few = few_batches t limits in
    let small : is_located.item.0 < 2 ^ 32 = omega
    (arith, few, lt, batch_number t k offset is_located.item is_located.there) in
    lends has_batch_body batch_in of_batch is_batch_of (batches_at t) k offset f.0 bytes is_located f.2
    (batch_again is_located.item.0 is_located.item.1 small is_located.right)

pub sent_lent : (t : Trace) (n i offset : ℕ) (bytes : List ℕ) → HasLimits t → i < length t.sent
    → n ≡ length (before_sent t) + i → IsFrameAt (frames_of t) n bytes → offset ≡ byte_of (frames_of t) n
    → Lends has_sent_body sent_in OfSent (sent_at t) i offset bytes
sent_lent t n i offset bytes limits lt number f stands =
    let is_located = sent_located t n i offset f.0 limits lt number f.1 stands in
    lends has_sent_body sent_in OfSent (is_sent (length t.sections) (length t.batches)) (sent_at t) i offset f.0 bytes
    is_located f.2 (sent_again (length t.sections) (length t.batches) is_located.item is_located.right
    (few_replicas t limits)
    (few_batches t limits))
