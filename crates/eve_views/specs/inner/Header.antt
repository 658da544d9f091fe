-- What is found in a header. docs/TRACE.md, "Header" and "Faults of form".
use Rattle.std.specs.Prelude.{◌≡◌, IsTrue, IsFalse, ℕ, List, Some, None}
use Rattle.eve_grammar.specs.Readers.{header_of}
use Rattle.eve_grammar.specs.declared.head.Head.{Head}
use Rattle.eve_views.specs.Form.{is_sized, has_magic, head_bytes}
use Rattle.eve_views.specs.declared.fault.Code.{Code}
use Rattle.eve_views.specs.declared.fault.Code.TheVariants as code

-- the header is right and says this head
pub record IsHeader (bytes : List ℕ) (h : Head) : Type 0 where
  pub sized : IsTrue (is_sized bytes)
  pub magic : IsTrue (has_magic bytes)
  pub decoded : header_of (head_bytes bytes) ≡ Some h

-- the first thing that is wrong with the header
abbrev pub StopsAtHeader : List ℕ → Code → Type 0
StopsAtHeader bytes code.Length = IsFalse (is_sized bytes)
StopsAtHeader bytes code.Magic = IsTrue (is_sized bytes) × IsFalse (has_magic bytes)
StopsAtHeader bytes code.Head = IsTrue (is_sized bytes) × IsTrue (has_magic bytes)
    × (header_of (head_bytes bytes) ≡ None)
StopsAtHeader bytes _ = ⊥
