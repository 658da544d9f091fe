-- The lines of frames, sent one after another.
use Rattle.std.proofs.Common.{Bool, true, leb, ◌^◌}
use Rattle.std.proofs.lemmas.Bool.{and_from, le-leb}
use Rattle.std.proofs.Common.{◌≡◌, ℕ, ◌+◌, ◌-◌, ◌<◌, ◌≤◌}
use Rattle.std.proofs.Common.{List, [], ◌∷◌, ◌++◌, Option, Some, Result, Ok, Err, OnErr, length, take}
use Rattle.std.proofs.Common.{drop}
use Rattle.std.proofs.Common.{refl, ap, sym, subst, ◌∙◌, arith, append_assoc, append-nil, length-append}
use Rattle.std.specs.Prelude.{IsTrue, slice_index}
use Rattle.std.proofs.lemmas.List.{drop_at, drop-drop, drop-take, length-take, take_at}
use Rattle.std.proofs.Math.Seq.{take-take}
use Rattle.eve_frames.specs.Kinds.{kind_name}
use Rattle.eve_frames.specs.declared.frame.FrameView.{FrameView}
use Rattle.eve_grammar.specs.Trace.{Trace}
use Rattle.eve_grammar.specs.Frames.{Frame, frames_of, kind_of, next_place, start_place}
use Rattle.eve_grammar.specs.Spelling.{body_text, frame_text, frames_text, head_text}
use Rattle.eve_grammar.specs.FrameOrder.{Follow, Spells}
use Rattle.eve_grammar.specs.Limits.{FitsAt, is_head}
use Rattle.eve_grammar.specs.Places.{number_in}
use Rattle.eve_grammar.specs.Readers.{header_of}
use Rattle.eve_grammar.specs.declared.head.Head.{Head}
use Rattle.eve_grammar.specs.declared.place.Place.{Place}
use Rattle.eve_grammar.proofs.FrameLaws.{limits_text, Exact-header}
use Rattle.eve_grammar.proofs.HeaderParts.{behind_magic, header_parts, in_parts, length-head_text, length-limits_text}
use Rattle.eve_lines.specs.FrameLines.{frame_words}
use Rattle.eve_lines.specs.Rest.{words_in}
use Rattle.json.specs.Print.{print}
use Rattle.json.specs.Token.{Token}
use Rattle.eve_objects.specs.Bytes.{members_in}
use Rattle.eve_objects.specs.Members.{object, object_line}
use Rattle.eve_objects.specs.FrameObjects.{frame_members, frame_object, header_object}
use Rattle.eve_tool_arguments.specs.declared.style.Style.{Style}
use Rattle.eve_tool_arguments.specs.declared.style.Style.TheVariants.{Json, Plain}
use Rattle.eve_streams.specs.Prefix.{AppendsPrefix}
use Rattle.eve_streams.proofs.JoinedSends.{AppendsPrefix-after, AppendsPrefix-more}
use Rattle.eve_views.specs.Form.{IsReached, SaysHead, StandsInForm, head_bytes}
use Rattle.eve_views.specs.declared.fault.Code.{Code}
use Rattle.eve_views.specs.declared.fault.Code.TheVariants as code
use Rattle.eve_views.proofs.Bytes.{number_again}
use Rattle.eve_views.proofs.FrameLaws.{length-frame_text}
use Rattle.eve_views.proofs.WholeTraces.{spells_frames}
use Rattle.eve_tool.specs.Lines.{line_feed, line_prefix}
use Rattle.eve_tool.specs.inner.LineSends.{PutsText}
use Rattle.eve_tool.specs.Listing.{HasFrames, frame_len, line_of_view, lines_from, listed_line, listed_lines}
use Rattle.eve_tool.specs.Listing.{prefix_of_view}
use Rattle.eve_tool.specs.Show.{AreLinesBefore, AreLinesIf, AreLinesOf, AreLinesTo, is_countable, with_total}
use Rattle.eve_tool.specs.Show.{SendsLines, StopsInLines, StopsUpTo}
use Rattle.eve_tool.specs.declared.listing.Listing.{Listing}
use Rattle.eve_tool.specs.declared.listing.Listing.TheVariants.{Full, Short}
use Rattle.eve_tool.proofs.LinesPut.{PutsUpTo, puts-begun, puts-stops, puts-text, puts-then, up_to-all, up_to-more}
use Rattle.eve_tool.proofs.LinesPut.{up_to-none, up_to-stops}

-- ---- a line

-- its prefix was put, from what was asked of the view
pub prefix_put : (l k name : List ℕ) (offset body_len : ℕ) (view : FrameView) → k ≡ l
    ++ line_prefix offset name body_len
    → offset ≡ view.offset → name ≡ kind_name (slice_index view.bytes.now 0) → body_len ≡ length view.bytes.now - 5
    → k ≡ l ++ prefix_of_view view
prefix_put l k name offset body_len view put at named counted =
    let is : line_prefix offset name body_len ≡ prefix_of_view view = rw (at, named, counted) refl in
    put ∙ ap (λ x. l ++ x) is

-- room was made, and its prefix and its end were put
pub short-put : (a b : Option (List ℕ)) (held l k kept prefix : List ℕ) → PutsText a b held l [] → k ≡ l ++ prefix
    → kept ≡ k ++ line_feed → PutsText a b held kept (prefix ++ line_feed)
short-put a b held l k kept prefix room first last =
    puts-then a b b held l kept [] (prefix ++ line_feed) room
    (puts-then b b b l k kept prefix line_feed (puts-text b l k prefix first) (puts-text b k kept line_feed last))

-- room was made, and its prefix, its words and its end were put
pub line-put : (a b c d : Option (List ℕ)) (held l k j m kept prefix words left : List ℕ) → PutsText a b held l []
    → k ≡ l ++ prefix → j ++ left ≡ k ++ words → PutsText b c j m left → PutsText c d m kept line_feed
    → PutsText a d held kept (prefix ++ (words ++ line_feed))
line-put a b c d held l k j m kept prefix words left room first begun put last =
    puts-then a b d held l kept [] (prefix ++ (words ++ line_feed)) room
    (puts-then b b d l k kept prefix (words ++ line_feed) (puts-text b l k prefix first)
    (puts-then b c d k m kept words line_feed (puts-begun b c k j m left words begun put) last))

-- it was stopped in its words
pub line-stops_in_words : (a b c : Option (List ℕ)) (held l k j prefix words left : List ℕ) → PutsText a b held l []
    → k ≡ l ++ prefix → j ++ left ≡ k ++ words → AppendsPrefix b c (j ++ left)
    → AppendsPrefix a c (held ++ (prefix ++ (words ++ line_feed)))
line-stops_in_words a b c held l k j prefix words left room first begun stops =
    puts-stops a b c held l [] (prefix ++ (words ++ line_feed)) room
    (puts-stops b b c l k prefix (words ++ line_feed) (puts-text b l k prefix first)
    (subst (AppendsPrefix b c) (append_assoc k words line_feed)
    (AppendsPrefix-more b c (k ++ words) line_feed (subst (AppendsPrefix b c) begun stops))))

-- it was stopped before its end
pub line-stops_at_end : (a b c d : Option (List ℕ)) (held l k j m prefix words left : List ℕ) → PutsText a b held l []
    → k ≡ l ++ prefix → j ++ left ≡ k ++ words → PutsText b c j m left → AppendsPrefix c d m
    → AppendsPrefix a d (held ++ (prefix ++ (words ++ line_feed)))
line-stops_at_end a b c d held l k j m prefix words left room first begun put last =
    puts-stops a b d held l [] (prefix ++ (words ++ line_feed)) room
    (puts-stops b b d l k prefix (words ++ line_feed) (puts-text b l k prefix first)
    (puts-stops b c d k m words line_feed (puts-begun b c k j m left words begun put)
    (AppendsPrefix-more c d m line_feed last)))

-- ---- an object

-- the line of an object is not empty
pub object_line-some : (members : List Token) → 0 < length (object_line members)
unfolding object_line
object_line-some members = omega (arith, length-append (print (object members)) (10 ∷ []))

pub header_object-some : (head : Head) → 0 < length (header_object head)
unfolding header_object
header_object-some head = object_line-some _

pub held-some : (held : List ℕ) (members : List Token) → 0 < length (held ++ object_line members)
held-some held members = omega (arith, object_line-some members, length-append held (object_line members))

-- ---- the frame at a place

-- frames say their words, and their members
abbrev pub SayTheirWords : Type 0
SayTheirWords = (h : Head) (p : Place) (f : Frame) (number : ℕ) → IsTrue (is_head h) → FitsAt h p f
    → words_in number (frame_text f) ≡ frame_words number f

abbrev pub SayTheirMembers : Type 0
SayTheirMembers = (h : Head) (p : Place) (f : Frame) (number : ℕ) → IsTrue (is_head h) → FitsAt h p f
    → members_in number (frame_text f) ≡ frame_members number f

-- a frame that stands in front of bytes has as many bytes as it says
len_here : (h : Head) (p : Place) (f : Frame) (bytes rest : List ℕ) → FitsAt h p f → bytes ≡ frame_text f ++ rest
    → frame_len bytes ≡ length (frame_text f)
unfolding number_in
len_here h p f bytes rest fits here =
    let n = length (body_text f) in
    let digits = take 4 (drop 1 (frame_text f)) in
    let number : number_in 4 1 (frame_text f ++ rest) ≡ n =
    ap (number_in 4 0) (append_assoc digits (body_text f) rest) ∙ number_again n (body_text f ++ rest) fits.short in
    omega (arith, ap frame_len here, number, length-frame_text f)

-- what stands in front of the bytes at a place
pub record StandsAt (bytes : List ℕ) (at : ℕ) (h : Head) (p : Place) (f : Frame) (rest : List Frame) : Type 0 where
  pub fits : FitsAt h p f
  pub here : drop at bytes ≡ frame_text f ++ frames_text rest

-- it is the view's
view_is : (bytes : List ℕ) (at : ℕ) (h : Head) (p : Place) (f : Frame) (rest : List Frame) (view : FrameView)
    → StandsAt bytes at h p f rest → view.bytes.now ≡ take (frame_len (drop at bytes)) (drop at bytes)
    → view.bytes.now ≡ frame_text f
view_is bytes at h p f rest view stands cut =
    let len = len_here h p f (drop at bytes) (frames_text rest) stands.fits stands.here in
    cut ∙ ap (λ n. take n (drop at bytes)) len ∙ ap (take (length (frame_text f))) stands.here
    ∙ take_at (frame_text f) (frames_text rest) (length (frame_text f)) refl

-- and so is its line
line_is : SayTheirWords → SayTheirMembers → (listing : Listing) (bytes : List ℕ) (at number : ℕ) (h : Head) (p : Place)
    (f : Frame) (rest : List Frame) (view : FrameView) → IsTrue (is_head h) → StandsAt bytes at h p f rest
    → view.offset ≡ at → view.bytes.now ≡ take (frame_len (drop at bytes)) (drop at bytes)
    → line_of_view listing number view ≡ listed_line listing number at f
unfolding frame_object
line_is words_told told listing bytes at number h p f rest view right stands offset cut =
    let text = view_is bytes at h p f rest view stands cut in
    let name : kind_name (slice_index view.bytes.now 0) ≡ kind_name (kind_of f) =
    ap (λ b. kind_name (slice_index b 0)) text in
    let len : length view.bytes.now - 5 ≡ length (body_text f) = omega (arith, ap length text, length-frame_text f) in
    let words : words_in number view.bytes.now ≡ frame_words number f =
    ap (words_in number) text ∙ words_told h p f number right stands.fits in
    let members : members_in number view.bytes.now ≡ frame_members number f =
    ap (members_in number) text ∙ told h p f number right stands.fits in
    elim listing as (λ (l : Listing). line_of_view l number view ≡ listed_line l number at f) [
      | Short ↦ rw (offset, name, len) refl
      | Full style ↦
          elim style as (λ (k : Style). line_of_view (Full k) number view ≡ listed_line (Full k) number at f) [
            | Plain ↦ rw (offset, name, len, words) refl
            | Json ↦ rw (offset, name, len, members) refl
          ]
    ]

-- ---- the lines of frames, while they are put

-- the frames from the one with this number on, at this byte, are still to come
pub record ListsSoFar (listing : Listing) (old new : Option (List ℕ)) (held kept bytes : List ℕ) (at number : ℕ)
    (h : Head) (frames : List Frame) : Type 0 where
  pub limits : IsTrue (is_head h)
  pub place : Place
  pub rest : List Frame
  pub right : Follow h place rest
  pub here : drop at bytes ≡ frames_text rest
  pub puts : PutsUpTo old new held kept (lines_from listing 0 32 frames) (lines_from listing number at rest)

pub lists-none : (listing : Listing) (a : Option (List ℕ)) (held bytes : List ℕ) (h : Head) (frames : List Frame)
    → HasFrames bytes h frames
    → ListsSoFar listing a a held held bytes 32 0 h frames
lists-none listing a held bytes h frames has = record {
  limits = has.limits;
  place = start_place;
  rest = frames;
  right = has.right;
  here = has.spelled;
  puts = up_to-none a held (lines_from listing 0 32 frames);
}

-- the next line was put
pub lists-more : SayTheirWords → SayTheirMembers → (listing : Listing) (a b c : Option (List ℕ))
    (held kept longer bytes : List ℕ) (at number : ℕ) (h : Head) (frames : List Frame) (view : FrameView)
    → 5 ≤ length view.bytes.now → view.offset ≡ at
    → view.bytes.now ≡ take (frame_len (drop at bytes)) (drop at bytes)
    → ListsSoFar listing a b held kept bytes at number h frames
    → PutsText b c kept longer (line_of_view listing number view)
    → ListsSoFar listing a c held longer bytes (at + length view.bytes.now) (number + 1) h frames
lists-more words_told told listing a b c held kept longer bytes at number h frames view whole offset cut far put =
    by far.place far.rest far.right far.here far.puts
  where
    by : (p : Place) (rest : List Frame) → Follow h p rest → drop at bytes ≡ frames_text rest
        → PutsUpTo a b held kept (lines_from listing 0 32 frames) (lines_from listing number at rest)
        → ListsSoFar listing a c held longer bytes (at + length view.bytes.now) (number + 1) h frames
    by p [] right here puts =
        absurd (omega (arith, ap length cut, length-take (frame_len (drop at bytes)) (drop at bytes), ap length here))
    by p (f ∷ fs) right here puts =
        let stands : StandsAt bytes at h p f fs = record { fits = right.0; here = here } in
        let text = view_is bytes at h p f fs view stands cut in
        let line = line_is words_told told listing bytes at number h p f fs view far.limits stands offset cut in
        let behind : drop (at + length (frame_text f)) bytes ≡ frames_text fs =
        sym (drop-drop (length (frame_text f)) at bytes) ∙ ap (drop (length (frame_text f))) here
        ∙ drop_at (frame_text f) (frames_text fs) (length (frame_text f)) refl in
        subst (λ n. ListsSoFar listing a c held longer bytes (at + n) (number + 1) h frames) (sym (ap length text))
        (record {
          limits = far.limits;
          place = next_place p f;
          rest = fs;
          right = right.1;
          here = behind;
          puts = up_to-more a b c held kept longer (lines_from listing 0 32 frames) (listed_line listing number at f)
              (lines_from listing (number + 1) (at + length (frame_text f)) fs) puts
              (subst (PutsText b c kept longer) line put);
        })

-- the next line was stopped
pub lists-stops : SayTheirWords → SayTheirMembers → (listing : Listing) (a b c : Option (List ℕ))
    (held kept bytes : List ℕ) (at number : ℕ) (h : Head) (frames : List Frame) (view : FrameView)
    → 5 ≤ length view.bytes.now → view.offset ≡ at
    → view.bytes.now ≡ take (frame_len (drop at bytes)) (drop at bytes)
    → ListsSoFar listing a b held kept bytes at number h frames
    → AppendsPrefix b c (kept ++ line_of_view listing number view)
    → AppendsPrefix a c (held ++ lines_from listing 0 32 frames)
lists-stops words_told told listing a b c held kept bytes at number h frames view whole offset cut far stops =
    by far.place far.rest far.right far.here far.puts
  where
    by : (p : Place) (rest : List Frame) → Follow h p rest → drop at bytes ≡ frames_text rest
        → PutsUpTo a b held kept (lines_from listing 0 32 frames) (lines_from listing number at rest)
        → AppendsPrefix a c (held ++ lines_from listing 0 32 frames)
    by p [] right here puts =
        absurd (omega (arith, ap length cut, length-take (frame_len (drop at bytes)) (drop at bytes), ap length here))
    by p (f ∷ fs) right here puts =
        let stands : StandsAt bytes at h p f fs = record { fits = right.0; here = here } in
        let line = line_is words_told told listing bytes at number h p f fs view far.limits stands offset cut in
        up_to-stops a b c held kept (lines_from listing 0 32 frames) (listed_line listing number at f)
        (lines_from listing (number + 1) (at + length (frame_text f)) fs) puts
        (subst (λ l. AppendsPrefix b c (kept ++ l)) line stops)

-- no frame lies there any more: all lines were put
pub lists-all : (listing : Listing) (a b : Option (List ℕ)) (held kept bytes : List ℕ) (at number : ℕ) (h : Head)
    (frames : List Frame)
    → length (drop at bytes) < frame_len (drop at bytes) → ListsSoFar listing a b held kept bytes at number h frames
    → PutsText a b held kept (lines_from listing 0 32 frames)
lists-all listing a b held kept bytes at number h frames short far =
    by far.place far.rest far.right far.here far.puts
  where
    by : (p : Place) (rest : List Frame) → Follow h p rest → drop at bytes ≡ frames_text rest
        → PutsUpTo a b held kept (lines_from listing 0 32 frames) (lines_from listing number at rest)
        → PutsText a b held kept (lines_from listing 0 32 frames)
    by p [] right here puts =
        up_to-all a b held kept kept (lines_from listing 0 32 frames) [] puts (sym (append-nil kept))
    by p (f ∷ fs) right here puts =
        let len = len_here h p f (drop at bytes) (frames_text fs) right.0 here in
        absurd (omega (arith, len, ap length here, length-append (frame_text f) (frames_text fs)))

-- ---- what a header says

head_bytes_text : (h : Head) (total : ℕ) (rest : List ℕ) → head_bytes (head_text h total ++ rest) ≡ limits_text h
head_bytes_text h total rest =
    ap head_bytes (header_parts h total rest) ∙ ap (take 18) (behind_magic h total rest)
    ∙ take_at (limits_text h) (drop 18 (drop 6 (in_parts h total rest))) 18 (length-limits_text h)

-- it is read as it is said
pub head_read : (bytes : List ℕ) (h : Head) → SaysHead bytes h → header_of (head_bytes bytes) ≡ Some h
head_read bytes h says =
    ap header_of (says.decoded ∙ ap head_bytes (sym (append-nil (head_text h 0))) ∙ head_bytes_text h 0 [])
    ∙ Exact-header.again h says.limits

-- a trace's header says its head, and its frames stand behind it
pub trace_says : (bytes : List ℕ) (t : Trace) → Spells bytes t → SaysHead bytes t.head
trace_says bytes t spells =
    let s = spells_frames bytes t spells in record {
      limits = s.limits;
      decoded = ap head_bytes s.spelled ∙ head_bytes_text t.head (length bytes) (frames_text (frames_of t))
          ∙ sym (head_bytes_text t.head 0 []) ∙ ap head_bytes (append-nil (head_text t.head 0));
    }

pub trace_has : (bytes : List ℕ) (t : Trace) → Spells bytes t → HasFrames bytes t.head (frames_of t)
trace_has bytes t spells =
    let s = spells_frames bytes t spells in
    let head = length-head_text t.head (length bytes) in
    record {
      long = omega (
        arith,
        ap length s.spelled,
        head,
        length-append (head_text t.head (length bytes)) (frames_text (frames_of t)),
      );
      limits = s.limits;
      right = spells.follow;
      spelled = ap (drop 32) s.spelled
          ∙ drop_at (head_text t.head (length bytes)) (frames_text (frames_of t)) 32 head;
    }

-- ---- before a fault

says_cut : (bytes : List ℕ) (at : ℕ) (h : Head) → 32 ≤ at → SaysHead bytes h → SaysHead (take at bytes) h
says_cut bytes at h long says =
    let sum : at ≡ 6 + (at - 6) = omega arith in record {
      limits = says.limits;
      decoded = ap (λ (n : ℕ). take 18 (drop 6 (take n bytes))) sum ∙ ap (take 18) (drop-take 6 (at - 6) bytes)
          ∙ take-take 18 (at - 6) (drop 6 bytes) (omega arith) ∙ says.decoded;
    }

frames_cut : (bytes : List ℕ) (at : ℕ) (r : IsReached bytes at) → HasFrames (take at bytes) r.head r.prefix
frames_cut bytes at r =
    let place = r.at_is in
    let within = r.within in
    record {
      long = omega (arith, length-take at bytes);
      limits = r.says.limits;
      right = r.right;
      spelled = ap (drop 32) r.before
          ∙ drop_at (take 32 bytes) (frames_text r.prefix) 32 (omega (arith, length-take 32 bytes));
    }

-- the header says a head, and frames that may stand there are the bytes up to the fault's
pub record Before (style : Style) (bytes : List ℕ) (at : ℕ) (c : Code) : Type 0 where
  pub reached : IsReached bytes at
  pub says : SaysHead (take at bytes) reached.head
  pub has : HasFrames (take at bytes) reached.head reached.prefix
  pub are : (text : List ℕ) → text ≡ listed_lines (Full style) reached.head reached.prefix
      → AreLinesTo style c bytes at text

before_of : (style : Style) (bytes : List ℕ) (at : ℕ) (c : Code) (r : IsReached bytes at)
    → ((text : List ℕ) → text ≡ listed_lines (Full style) r.head r.prefix → AreLinesTo style c bytes at text)
    → Before style bytes at c
before_of style bytes at c r are =
    let place = r.at_is in record {
      reached = r;
      says = says_cut bytes at r.head (omega arith) r.says;
      has = frames_cut bytes at r;
      are = are;
    }

-- where the fault is not the header's
pub before : (style : Style) (c : Code) (bytes : List ℕ) (at : ℕ) → 32 ≤ at → StandsInForm c bytes at
    → Before style bytes at c
before style code.Length bytes at behind stands = absurd (omega (arith, stands.0))
before style code.Magic bytes at behind stands = absurd (omega (arith, stands.0))
before style code.Head bytes at behind stands = absurd (omega (arith, stands.0))
before style code.Frame bytes at behind stands = before_of style bytes at code.Frame stands.0 (λ text e. (stands.0, e))
before style code.Body bytes at behind stands = before_of style bytes at code.Body stands.0 (λ text e. (stands.0, e))
before style _ bytes at behind stands = absurd stands

-- where it is
pub none_before : (style : Style) (c : Code) (bytes : List ℕ) (at : ℕ) → at < 32 → StandsInForm c bytes at
    → AreLinesTo style c bytes at []
none_before style code.Frame bytes at prefix stands = let place = stands.0.at_is in absurd (omega arith)
none_before style code.Body bytes at prefix stands = let place = stands.0.at_is in absurd (omega arith)
none_before style code.Length bytes at prefix stands = refl
none_before style code.Magic bytes at prefix stands = refl
none_before style code.Head bytes at prefix stands = refl
none_before style _ bytes at prefix stands = absurd stands

-- of a fault that isn't the number of the bytes
pub not_counted : (style : Style) (c : Code) (bytes : List ℕ) (at : ℕ) (text : List ℕ) → (c ≡ code.Length → ⊥)
    → AreLinesTo style c bytes at text → AreLinesBefore style c bytes at text
not_counted style code.Length bytes at text other are = absurd (other refl)
not_counted style _ bytes at text other are = are

-- of one that is, where there are as many as a trace may have
pub counted : (style : Style) (c : Code) (bytes : List ℕ) (at : ℕ) (text : List ℕ) → c ≡ code.Length → 32 ≤ length bytes
    → length bytes ≤ 2 ^ 30 → AreLinesOf style (with_total bytes) text
    → AreLinesBefore style c bytes at text
counted style c bytes at text is long short are =
    let countable : is_countable bytes ≡ true =
    and_from (leb 32 (length bytes)) (leb (length bytes) (2 ^ 30)) (le-leb 32 (length bytes) long)
    (le-leb (length bytes) (2 ^ 30) short) in
    subst (λ (x : Code). AreLinesBefore style x bytes at text) (sym is)
    (subst (λ (b : Bool). AreLinesIf style b bytes text) (sym countable) are)

pub sends_as : (a b : Option (List ℕ)) (P Q : List ℕ → Type 0) → ((text : List ℕ) → P text → Q text)
    → SendsLines a b P → SendsLines a b Q
sends_as a b P Q decoded sends = record { text = sends.text; are = decoded sends.text sends.are; sent = sends.sent }

pub stops_as : (a b : Option (List ℕ)) (P Q : List ℕ → Type 0) → ((text : List ℕ) → P text → Q text)
    → StopsInLines a b P → StopsInLines a b Q
stops_as a b P Q decoded stops = record { text = stops.text; are = decoded stops.text stops.are; sent = stops.sent }

-- ---- up to a line

pub stops-before : (a b : Option (List ℕ)) (Are : List ℕ → Type 0) (last : List ℕ) → StopsInLines a b Are
    → StopsUpTo a b Are last
stops-before a b Are last stops = record {
  before = stops.text;
  are = stops.are;
  sent = AppendsPrefix-more a b stops.text last stops.sent;
}

pub stops-in_last : (a b c : Option (List ℕ)) (Are : List ℕ → Type 0) (last : List ℕ) → SendsLines a b Are
    → AppendsPrefix b c last → StopsUpTo a c Are last
stops-in_last a b c Are last some prefix = record {
  before = some.text;
  are = some.are;
  sent = AppendsPrefix-after a b c some.text last some.sent prefix;
}

-- ---- results

-- what stands stands at a fault
pub at_any_err : {A E P : Type 0} (r : Result A E) → P → OnErr r P
at_any_err (Ok x) p = tt
at_any_err (Err e) p = p

-- four texts that were put one after the other
pub put_four : (s r q p o a b c d : List ℕ) → r ≡ s ++ a → q ≡ r ++ b → p ≡ q ++ c → o ≡ p ++ d
    → o ≡ s ++ (a ++ (b ++ (c ++ d)))
put_four s r q p o a b c d first second third fourth =
    fourth ∙ (ap (λ x. x ++ d) third ∙ append_assoc q c d)
    ∙ (ap (λ x. x ++ (c ++ d)) second ∙ append_assoc r b (c ++ d))
    ∙ (ap (λ x. x ++ (b ++ (c ++ d))) first ∙ append_assoc s a (b ++ (c ++ d)))
