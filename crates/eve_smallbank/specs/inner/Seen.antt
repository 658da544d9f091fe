-- What the entries of a record saw. docs/MODEL.md, "A record fits its request".
use Rattle.std.specs.Prelude.{pos, ◌==◌, if◌then◌else◌, List, [], ◌∷◌}
use Rattle.eve_smallbank.specs.declared.entry.Entry.{Entry}
use Rattle.eve_smallbank.specs.Chain.{Table}

-- a table as the entries saw it: each row has what the first entry of the row saw, and 0 where there is none
abbrev pub as_seen : List Entry → Table
as_seen [] row = record { version = 0; value = pos 0 }
as_seen (e ∷ es) row = if e.row == row then record { version = e.version; value = e.seen } else as_seen es row
