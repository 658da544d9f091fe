-- Accesses whose entries stand in one list.
use Rattle.std.specs.Prelude.{◌≡◌, ℕ, ◌+◌, ◌*◌, nat_le, Bool, ◌&&◌, IsTrue, List, [], ◌∷◌, ◌++◌, length, take, drop}
use Rattle.std.specs.List.{sum_by, list_all}
use Rattle.byteorder.specs.Endian.{big_bytes}
use Rattle.eve_smallbank.specs.declared.entry.Entry.{Entry}
use Rattle.eve_grammar.specs.Trace.{Access}
use Rattle.eve_grammar.specs.Frames.{OfAccess}
use Rattle.eve_grammar.specs.Spelling.{frame_text}
use Rattle.eve_grammar.specs.Limits.{is_number}
use Rattle.eve_grammar.specs.declared.frame_kind.TheConstants.{ACCESS_FRAME}
use Rattle.eve_write.specs.declared.access_list.AccessNote.{AccessNote}

-- what a worker noted of a request
abbrev pub noted_access : ℕ → ℕ → ℕ → List Entry → Access
noted_access worker place index entries =
    record { worker = worker; place = place; index = index; entries = entries }

-- the accesses with these notes, each with the next entries of a list
abbrev pub accesses_listed : List AccessNote → List Entry → List Access
accesses_listed [] entries = []
accesses_listed (note ∷ notes) entries =
    noted_access note.worker note.place note.index (take note.count entries)
    ∷ accesses_listed notes (drop note.count entries)

-- The notes share out all entries of a list, three at most to each.
pub record ShareEntries (notes : List AccessNote) (entries : List Entry) : Type 0 where
  pub all : sum_by (λ n. n.count) notes ≡ length entries
  pub few : IsTrue (list_all (λ n. nat_le n.count 3) notes)

-- the frame of an access
abbrev pub access_text : Access → List ℕ
access_text x = frame_text (OfAccess x)

-- what stands in a frame before its entries
abbrev pub note_text : AccessNote → List ℕ
note_text note =
    ACCESS_FRAME ∷ (big_bytes 4 (6 + 29 * note.count) ++ (big_bytes 1 note.worker
    ++ (big_bytes 2 note.place ++ (big_bytes 2 note.index ++ big_bytes 1 note.count))))

-- the numbers of a note fit their fields
abbrev pub is_note : AccessNote → Bool
is_note note = is_number 1 note.worker && (is_number 2 note.place && is_number 2 note.index)
