-- The owned parts of a trace as the plain data that they are.
use Rattle.std.specs.Prelude.{ℕ, ◌==◌, Bool, true, List, Vec, map, length}
use Rattle.std.specs.List.{list_all}
use Rattle.std.specs.Arc.{arc_value}
use Rattle.std.specs.declared.alloc.Global.{Global}
use Rattle.eve_smallbank.specs.SmallBank.{Request, Balance, DepositChecking, TransactSaving, Amalgamate, WriteCheck}
use Rattle.eve_grammar.specs.Trace.{Customer, Asked, Batch, Access, Attempt, Commit, Rollback, Step, Attempts, Commits}
use Rattle.eve_grammar.specs.Trace.{RollsBack, Transfers, Choice, ForRollback, ForCommit, Vote, Sent, Trace}
use Rattle.eve_grammar.specs.Bodies.{transfer}
use Rattle.eve_grammar.specs.declared.head.Head.{Head}
use Rattle.eve_write.specs.declared.customer.CustomerData.{CustomerData}
use Rattle.eve_write.specs.declared.request.TransactionData.{TransactionData}
use Rattle.eve_write.specs.declared.request.TransactionData.TheVariants as of
use Rattle.eve_write.specs.declared.request.RequestData.{RequestData}
use Rattle.eve_write.specs.declared.batch.BatchData.{BatchData}
use Rattle.eve_write.specs.declared.access.AccessData.{AccessData}
use Rattle.eve_write.specs.declared.attempt.AttemptData.{AttemptData}
use Rattle.eve_write.specs.declared.commit.CommitData.{CommitData}
use Rattle.eve_write.specs.declared.rollback.RollbackData.{RollbackData}
use Rattle.eve_write.specs.declared.step.Step as code
use Rattle.eve_write.specs.declared.step.Step.TheVariants as does
use Rattle.eve_write.specs.declared.vote.ChoiceData.TheVariants as chosen
use Rattle.eve_write.specs.declared.vote.ChoiceData.{ChoiceData}
use Rattle.eve_write.specs.declared.vote.VoteData.{VoteData}
use Rattle.eve_write.specs.declared.sent.SentData.{SentData}
use Rattle.eve_write.specs.declared.parts.Parts.{Parts}

abbrev pub customer : CustomerData → Customer
customer c = record { name = c.name; saving = c.saving; checking = c.checking }

abbrev pub transaction : TransactionData → Request
transaction (of.Balance name) = Balance name
transaction (of.DepositChecking name amount) = DepositChecking name amount
transaction (of.TransactSaving name amount) = TransactSaving name amount
transaction (of.Amalgamate from to) = Amalgamate from to
transaction (of.WriteCheck name amount) = WriteCheck name amount

abbrev pub asked : RequestData → Asked
asked a = record { client = a.client; number = a.number; request = transaction a.transaction }

abbrev pub batch : BatchData → Batch
batch b = record { sizes = b.sizes.items; requests = map asked b.requests.items }

abbrev pub access : AccessData → Access
access x = record { worker = x.worker; place = x.place; index = x.index; entries = x.entries }

abbrev pub attempt : AttemptData → Attempt
attempt a =
    record {
      seq = a.seq;
      view = a.view;
      serial = a.serial;
      certificate = a.certificate.items;
      replies = a.replies.items;
      token = a.token;
      accesses = a.accesses;
    }

abbrev pub commit : CommitData → Commit
commit c = record { seq = c.seq; view = c.view; token = c.token }

abbrev pub rollback : RollbackData → Rollback
rollback r = record { to = r.to; view = r.view; restores = r.restores.items }

abbrev pub step : code.Step → Step
step (does.Attempt a) = Attempts (attempt a)
step (does.Commit c) = Commits (commit c)
step (does.Rollback r) = RollsBack (rollback r)
step (does.Transfer x) = Transfers (transfer (arc_value x))

-- the choice, with the token of a commit
abbrev pub choice : ChoiceData → List ℕ → Choice
choice chosen.ForRollback token = ForRollback
choice chosen.ForCommit token = ForCommit token

abbrev pub vote : VoteData → Vote
vote v = record { seq = v.seq; view = v.view; choice = choice v.choice v.token }

-- a vote for a rollback has zeros for its token
abbrev pub has_due_token : ChoiceData → List ℕ → Bool
has_due_token chosen.ForRollback token = list_all (λ byte. byte == 0) token
has_due_token chosen.ForCommit token = true

abbrev pub sent : SentData → Sent
sent s = record { client = s.client; number = s.number; replica = s.replica; seq = s.seq; reply = s.reply }

-- the byte of a choice
abbrev pub choice_code : ChoiceData → ℕ
choice_code chosen.ForRollback = 0
choice_code chosen.ForCommit = 1

-- the steps of a replica
abbrev pub section : Vec code.Step Global → List Step
section s = map step s.items

-- the votes of a verifier
abbrev pub votes : Vec VoteData Global → List Vote
votes v = map vote v.items

-- the header that counts the parts
abbrev pub header : Parts → Head
header p = record {
  version = p.version;
  replicas = length (map section p.sections.items);
  verifiers = length (map votes p.verifiers.items);
  quorum = p.quorum;
  window = p.window;
  workers = p.workers;
  customers = length (map customer p.customers.items);
  batches = length (map batch p.batches.items);
}

-- the parts as a trace
abbrev pub trace : Parts → Trace
trace p = record {
  head = header p;
  customers = map customer p.customers.items;
  batches = map batch p.batches.items;
  sections = map section p.sections.items;
  verifiers = map votes p.verifiers.items;
  sent = map sent p.sent.items;
}
