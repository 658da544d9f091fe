use Rattle.std.proofs.Common.{ℕ, ◌*◌, List, drop, length, ap, arith}
use Rattle.std.proofs.lemmas.Bool.{false≢true}
use Rattle.std.proofs.lemmas.List.{length-take, length-drop}
use Rattle.eve_agree.proofs.batch_request_ids.is_reply.Goals as goal

pub returns-then-replies-at : goal.returns-then-replies-at
returns-then-replies-at c = (
  λ wrong. absurd (false≢true wrong),
  λ same.
      let rest = drop (9 * c.args.i) c.args.replies.now in
      absurd (omega (
        arith,
        ap (λ (xs : List ℕ). length xs) same,
        length-take 9 rest,
        length-drop (9 * c.args.i) c.args.replies.now,
        length-drop 22 c.args.frame.now,
        c.requires.frame,
        c.if-replies-at.true,
      )),
)
