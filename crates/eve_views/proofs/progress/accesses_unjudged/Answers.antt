use Rattle.std.proofs.Common.{◌≡◌, IsTrue, Some, IfSome, None, Option, ℕ, drop, inl, inr}
use Rattle.byteorder.specs.Endian.{big_number}
use Rattle.eve_grammar.specs.Limits.{row_count}
use Rattle.eve_views.specs.inner.SideBySide.{is_right_body}
use Rattle.eve_views.proofs.UnjudgedFrames.{access_followed, transfer_followed, attempt_followed, batch_followed}
use Rattle.eve_views.proofs.UnjudgedFrames.{Follow}
use Rattle.eve_views.proofs.progress.accesses_unjudged.Goals as goal

pub returns-in-Access : goal.returns-in-Access
returns-in-Access c =
    elim c.in-Access.is [
      | inl access ↦ rw access (access_followed c.args.at.now.head c.args.at.now.place c.args.body.now)
      | inr transfer ↦ rw transfer (transfer_followed c.args.at.now.head c.args.at.now.place c.args.body.now)
    ]

pub returns-in-Attempt : goal.returns-in-Attempt
returns-in-Attempt c = rw c.in-Attempt.is (decoded c.accesses_decoded.result c.accesses_decoded.ensures)
  where
    decoded : (o : Option ℕ) → IfSome o (λ n. n ≡ big_number 2 (drop 9 c.args.body.now))
        → IfSome o (λ n. IsTrue (is_right_body (row_count c.args.at.now.head) 17 c.args.body.now)
        → Follow c.args.at.now.head c.args.at.now.place 17 c.args.body.now n)
    decoded (Some n) e = attempt_followed c.args.at.now.head c.args.at.now.place c.args.body.now n e
    decoded None e = tt

pub returns-then-says_number : goal.returns-then-says_number
returns-then-says_number c =
    rw c.in-Batch.is (batch_followed c.args.at.now.head c.args.at.now.place c.args.body.now
    (c.says_number.ensures c.if-says_number.true))
