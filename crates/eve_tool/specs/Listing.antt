-- The lines of a header and of frames. docs/USING.md, "Lines and statuses" and "What `show --long` prints".
use Rattle.std.specs.Prelude.{◌≡◌, ℕ, ◌+◌, ◌-◌, ◌≤◌, IsTrue, List, [], ◌∷◌, ◌++◌, length, drop, codes, slice_index}
use Rattle.eve_frames.specs.Kinds.{kind_name}
use Rattle.eve_frames.specs.declared.frame.FrameView.{FrameView}
use Rattle.eve_grammar.specs.Frames.{Frame, kind_of, start_place}
use Rattle.eve_grammar.specs.Spelling.{body_text, frame_text, frames_text}
use Rattle.eve_grammar.specs.FrameOrder.{Follow}
use Rattle.eve_grammar.specs.Limits.{is_head}
use Rattle.eve_grammar.specs.Places.{number_in}
use Rattle.eve_grammar.specs.declared.head.Head.{Head}
use Rattle.eve_lines.specs.FrameLines.{frame_words, header_words}
use Rattle.eve_lines.specs.Rest.{words_in}
use Rattle.eve_objects.specs.Bytes.{object_of_view}
use Rattle.eve_objects.specs.FrameObjects.{frame_object, header_object}
use Rattle.eve_tool.specs.Lines.{line_feed, line_prefix}
use Rattle.eve_tool.specs.declared.listing.Listing.{Listing}
use Rattle.eve_tool.specs.declared.listing.Listing.TheVariants.{Full, Short}
use Rattle.eve_tool_arguments.specs.declared.style.Style.TheVariants.{Json, Plain}

-- the header's line, and what it says
abbrev pub header_line : Listing → Head → List ℕ
header_line Short head = line_prefix 0 (codes "Header") 32 ++ line_feed
header_line (Full Plain) head = line_prefix 0 (codes "Header") 32 ++ (header_words head ++ line_feed)
header_line (Full Json) head = header_object head

-- the line of a frame, which has this number, from 0, and begins at this byte
abbrev pub listed_line : Listing → ℕ → ℕ → Frame → List ℕ
listed_line Short number at f = line_prefix at (kind_name (kind_of f)) (length (body_text f)) ++ line_feed
listed_line (Full Plain) number at f =
    line_prefix at (kind_name (kind_of f)) (length (body_text f)) ++ (frame_words number f ++ line_feed)
listed_line (Full Json) number at f = frame_object number at f

-- the lines of frames that stand one behind the other, from the one that has this number and begins at this byte
abbrev pub lines_from : Listing → ℕ → ℕ → List Frame → List ℕ
lines_from listing number at [] = []
lines_from listing number at (f ∷ fs) =
    listed_line listing number at f ++ lines_from listing (number + 1) (at + length (frame_text f)) fs

-- the lines of a header and of the frames behind it
abbrev pub listed_lines : Listing → Head → List Frame → List ℕ
listed_lines listing head frames = header_line listing head ++ lines_from listing 0 32 frames

-- ---- by the bytes of a frame

-- what `show` prints of a frame, without the line feed
abbrev pub prefix_of_view : FrameView → List ℕ
prefix_of_view view =
    line_prefix view.offset (kind_name (slice_index view.bytes.now 0)) (length view.bytes.now - 5)

-- the line of a frame
abbrev pub line_of_view : Listing → ℕ → FrameView → List ℕ
line_of_view Short number view = prefix_of_view view ++ line_feed
line_of_view (Full Plain) number view = prefix_of_view view ++ (words_in number view.bytes.now ++ line_feed)
line_of_view (Full Json) number view = object_of_view number view

-- how many bytes the frame at the beginning of bytes has, by its length
abbrev pub frame_len : List ℕ → ℕ
frame_len bytes = 5 + number_in 4 1 bytes

-- frames that may stand there under this head are the bytes from byte 32 on
pub record HasFrames (bytes : List ℕ) (head : Head) (frames : List Frame) : Type 0 where
  pub long : 32 ≤ length bytes
  pub limits : IsTrue (is_head head)
  pub right : Follow head start_place frames
  pub spelled : drop 32 bytes ≡ frames_text frames
