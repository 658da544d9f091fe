-- The lines that the program prints. docs/USING.md, "Lines and statuses".
use Rattle.std.specs.Prelude.{ℕ, List, [], ◌∷◌, ◌++◌, Option, Some, None, codes, decimal}
use Rattle.eve_audit.specs.declared.verdict.Summary.{Summary}
use Rattle.eve_audit.specs.declared.verdict.Verdict.{Verdict}
use Rattle.eve_audit.specs.declared.verdict.Verdict.TheVariants.{Yes, No}
use Rattle.eve_views.specs.Code.{code_name, code_number}
use Rattle.eve_views.specs.declared.fault.Fault.{Fault}

-- the byte that ends a line
abbrev pub line_feed : List ℕ
line_feed = 10 ∷ []

-- the prefix of a frame's line: where it begins, its kind, how many bytes its body has
unfoldable pub line_prefix : ℕ → List ℕ → ℕ → List ℕ
line_prefix offset name body_len = decimal offset ++ (codes " " ++ (name ++ (codes " " ++ decimal body_len)))

-- the replica in whose section a fault stands
abbrev pub replica_text : Option ℕ → List ℕ
replica_text (Some replica) = codes ", replica " ++ decimal replica
replica_text None = []

-- a fault: its code, where it stands, and in whose section
unfoldable pub fault_line : Fault → List ℕ
fault_line f =
    codes "no: F" ++ (decimal (code_number f.code) ++ (codes " " ++ (code_name f.code ++ (codes " at byte "
    ++ (decimal f.offset ++ (replica_text f.replica ++ line_feed))))))

-- a trace without a fault: how many replicas and batches, and what all replicas have committed
unfoldable pub yes_line : Summary → List ℕ
yes_line s =
    codes "yes: " ++ (decimal s.replicas ++ (codes " replicas, " ++ (decimal s.batches
    ++ (codes " batches, " ++ (decimal s.committed ++ (codes " committed" ++ line_feed))))))

-- a verdict: the fault, or yes
abbrev pub verdict_line : Verdict → List ℕ
verdict_line (Yes s) = yes_line s
verdict_line (No f) = fault_line f

-- the exit status: 0 for yes, 1 for no
abbrev pub status_of_verdict : Verdict → ℕ
status_of_verdict (Yes s) = 0
status_of_verdict (No f) = 1
