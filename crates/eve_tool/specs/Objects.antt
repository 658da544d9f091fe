-- Verdicts as JSON, an object in a line: its tokens, of which json makes the text. docs/USING.md, "JSON".
use Rattle.std.specs.Prelude.{ℕ, List, [], ◌++◌, Option, Some, None, codes, decimal}
use Rattle.std.specs.Borrow.{Bor}
use Rattle.json.specs.Token.{Token}
use Rattle.eve_audit.specs.declared.verdict.Summary.{Summary}
use Rattle.eve_audit.specs.declared.verdict.Verdict.{Verdict}
use Rattle.eve_audit.specs.declared.verdict.Verdict.TheVariants.{Yes, No}
use Rattle.eve_views.specs.Code.{code_name, code_number}
use Rattle.eve_views.specs.declared.fault.Fault.{Fault}
use Rattle.eve_objects.specs.Members.{number_member, object_line, string_member}

-- `"verdict":"yes","replicas":2,"batches":3,"committed":3`
abbrev pub yes_members : Summary → List Token
yes_members s =
    string_member (codes "verdict") (codes "yes") ++ (number_member (codes "replicas") s.replicas
    ++ (number_member (codes "batches") s.batches ++ number_member (codes "committed") s.committed))

-- the replica in whose section a fault stands
abbrev pub replica_member : Option ℕ → List Token
replica_member (Some replica) = number_member (codes "replica") replica
replica_member None = []

-- `"verdict":"no","code":"F40","name":"Version","offset":412,"replica":1`
abbrev pub fault_members : Fault → List Token
fault_members f =
    string_member (codes "verdict") (codes "no")
    ++ (string_member (codes "code") (codes "F" ++ decimal (code_number f.code))
    ++ (string_member (codes "name") (code_name f.code) ++ (number_member (codes "offset") f.offset
    ++ replica_member f.replica)))

abbrev pub verdict_members : Verdict → List Token
verdict_members (Yes s) = yes_members s
verdict_members (No f) = fault_members f

-- the name of the file, if one is named
abbrev pub file_member : Option (Bor (List ℕ)) → List Token
file_member (Some name) = string_member (codes "file") name.now
file_member None = []

-- the line of a verdict's object, with these members before its own
abbrev pub verdict_object : List Token → Verdict → List ℕ
verdict_object prefix v = object_line (prefix ++ verdict_members v)
