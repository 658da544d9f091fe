-- What is printed for the codes of faults, and the phases in which they are judged. docs/MODEL.md, "Faults".
use Rattle.std.specs.Prelude.{ℕ, ◌+◌, ◌/◌, nat_lt, if◌then◌else◌, List, codes}
use Rattle.eve_views.specs.declared.fault.Code.{Code}
use Rattle.eve_views.specs.declared.fault.Code.TheVariants as code

-- the word that is printed
abbrev pub code_name : Code → List ℕ
code_name code.Length = codes "Length"
code_name code.Magic = codes "Magic"
code_name code.Head = codes "Head"
code_name code.Frame = codes "Frame"
code_name code.Body = codes "Body"
code_name code.SameName = codes "SameName"
code_name code.SameRequest = codes "SameRequest"
code_name code.Attempt = codes "Attempt"
code_name code.Certificate = codes "Certificate"
code_name code.Access = codes "Access"
code_name code.WorkerOrder = codes "WorkerOrder"
code_name code.Commit = codes "Commit"
code_name code.Rollback = codes "Rollback"
code_name code.Transfer = codes "Transfer"
code_name code.Record = codes "Record"
code_name code.Version = codes "Version"
code_name code.Value = codes "Value"
code_name code.Restore = codes "Restore"
code_name code.Token = codes "Token"
code_name code.TwoVotes = codes "TwoVotes"
code_name code.TwoDecisions = codes "TwoDecisions"
code_name code.NoMajority = codes "NoMajority"
code_name code.RollbackNoMajority = codes "RollbackNoMajority"
code_name code.TransferNoMajority = codes "TransferNoMajority"
code_name code.Outcome = codes "Outcome"
code_name code.TransferBalances = codes "TransferBalances"
code_name code.Reply = codes "Reply"

-- the number that is printed
abbrev pub code_number : Code → ℕ
code_number code.Length = 1
code_number code.Magic = 2
code_number code.Head = 3
code_number code.Frame = 4
code_number code.Body = 5
code_number code.SameName = 10
code_number code.SameRequest = 11
code_number code.Attempt = 20
code_number code.Certificate = 21
code_number code.Access = 22
code_number code.WorkerOrder = 23
code_number code.Commit = 24
code_number code.Rollback = 25
code_number code.Transfer = 26
code_number code.Record = 30
code_number code.Version = 40
code_number code.Value = 41
code_number code.Restore = 50
code_number code.Token = 60
code_number code.TwoVotes = 70
code_number code.TwoDecisions = 71
code_number code.NoMajority = 72
code_number code.RollbackNoMajority = 73
code_number code.TransferNoMajority = 74
code_number code.Outcome = 80
code_number code.TransferBalances = 81
code_number code.Reply = 90

-- The phase in which it is judged. Each phase has ten numbers of its own, but for votes and majorities, which share the
-- seventies: those of majorities begin at 72.
abbrev pub phase_of : Code → ℕ
phase_of c = code_number c / 10 + (if nat_lt (code_number c) 72 then 1 else 2)
