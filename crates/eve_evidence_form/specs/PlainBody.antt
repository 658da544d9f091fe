-- The fields of bodies without a list. docs/TRACE.md, "Frames".
use Rattle.std.specs.Prelude.{ℕ, ◌+◌, ◌==◌, ◌&&◌, ◌||◌, List, [], ◌∷◌, ◌++◌, take, drop}
use Rattle.std.specs.List.{list_all}
use Rattle.eve_evidence.specs.declared.evidence.BodyField.TheVariants as name
use Rattle.eve_evidence_form.specs.Header.{decoded}
use Rattle.eve_evidence_form.specs.Fields.{field, stand, stands_between, stands_below, stands_balance, stands_saving}
use Rattle.eve_evidence_form.specs.Fields.{named_fields, reply_fields}
use Rattle.eve_evidence_form.specs.declared.fields.FieldThere.{FieldThere}

-- a length, a name of that length, and two balances
abbrev pub customer_fields : List ℕ → List FieldThere
customer_fields body =
    named_fields name.Length name.Name 0 body
    ++ field name.Saving (1 + decoded 1 0 body) (stands_saving (1 + decoded 1 0 body) body)
    ∷ field name.Checking (9 + decoded 1 0 body) (stands_balance (9 + decoded 1 0 body) body) ∷ []

-- the body that is a number
abbrev pub number_fields : ℕ → List ℕ → List FieldThere
number_fields due body = field name.Number 0 (stands_between due due 1 0 body) ∷ []

-- a number, a view, a token
abbrev pub commit_fields : List ℕ → List FieldThere
commit_fields body =
    field name.Number 0 (stand 4 0 body) ∷ field name.View 4 (stand 4 4 body)
    ∷ field name.Token 8 (stand 32 8 body) ∷ []

-- the number of one of this many batches, a view, a choice, and a token, which is zeros for a rollback
abbrev pub vote_fields : ℕ → List ℕ → List FieldThere
vote_fields batches body =
    field name.Number 0 (stands_between 1 batches 4 0 body) ∷ field name.View 4 (stand 4 4 body)
    ∷ field name.Choice 8 (stands_between 0 1 1 8 body)
    ∷ field name.Token 9
    (stand 32 9 body && ((decoded 1 8 body == 1) || list_all (λ byte. byte == 0) (take 32 (drop 9 body)))) ∷ []

-- a client, a number, one of this many replicas, one of this many batches, and a reply
abbrev pub sent_fields : ℕ → ℕ → List ℕ → List FieldThere
sent_fields replicas batches body =
    field name.Client 0 (stand 4 0 body) ∷ field name.Number 4 (stand 8 4 body)
    ∷ field name.Replica 12 (stands_below replicas 1 12 body)
    ∷ field name.Batch 13 (stands_between 1 batches 4 13 body) ∷ reply_fields 17 body
