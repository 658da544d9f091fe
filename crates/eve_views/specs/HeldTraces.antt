-- What a trace that was read holds.
use Rattle.std.specs.Prelude.{◌≡◌, ℕ, List, drop}
use Rattle.eve_grammar.specs.Trace.{Trace, head_of}
use Rattle.eve_grammar.specs.Frames.{frames_of}
use Rattle.eve_grammar.specs.GatheredTraces.{trace_of}
use Rattle.eve_grammar.specs.declared.head.Head.{Head}
use Rattle.eve_grammar.specs.FrameOrder.{Spells}
use Rattle.eve_views.specs.Walk.{frames_in}
use Rattle.eve_views.specs.Indexes.{AreStarts, offsets_of}
use Rattle.eve_views.specs.declared.walk.Index.{Index}
use Rattle.eve_views.specs.declared.trace.Trace.TheInside.{Inside}
use Rattle.eve_grammar.specs.declared.head.TheConstants.{HEADER_LEN}

-- the trace that the frames after the header make up under this head
abbrev pub trace_in : Head → List ℕ → Trace
trace_in h bytes = trace_of h (frames_in h (drop HEADER_LEN bytes))

-- the bytes spell the trace, under this head, and the index is its index
pub record IsHeldTrace (bytes : List ℕ) (h : Head) (i : Index) (t : Trace) : Type 0 where
  pub spells : Spells bytes t
  pub head : head_of t ≡ h
  pub offsets : i.offsets.items ≡ offsets_of HEADER_LEN (frames_of t)
  pub starts : AreStarts (head_of t) (frames_of t) i.starts

-- the trace that its bytes spell
abbrev pub trace_held : Inside → Trace
trace_held x = trace_in x.head x.bytes.now

-- its bytes, its head and its index are those of that trace
abbrev pub IsTrace : Inside → Type 0
IsTrace x = IsHeldTrace x.bytes.now x.head x.index (trace_held x)
