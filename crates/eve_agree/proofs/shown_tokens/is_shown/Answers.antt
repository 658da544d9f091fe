use Rattle.std.proofs.Common.{◌≡◌, rules}
use Rattle.eve_frames.specs.Views.{attempt_in}
use Rattle.eve_agree.proofs.ByNumber.{told_item, committed_settled}
use Rattle.eve_agree.proofs.ShownTokens.{read_of, shown}
use Rattle.eve_agree.proofs.EqualBalances.{same_lists_after}
use Rattle.eve_agree.proofs.shown_tokens.is_shown.Goals as goal

pub have_same_balances-requires-clause-there : goal.have_same_balances-requires-clause-there
have_same_balances-requires-clause-there c =
    let t = c.args.trace.now in
    let h = c.args.own.history.now in
    let read = c.committed_attempt-attempt.ensures in
    let own = told_item t h.replica h c.args.n read.0 c.requires.own.history read.1 in
    committed_settled t h.replica c.args.n own.0 c.args.own.settled.now c.requires.own.settled own.1

pub have_same_balances-requires-clause-its_there : goal.have_same_balances-requires-clause-its_there
have_same_balances-requires-clause-its_there c =
    let t = c.args.trace.now in
    let h = c.args.peer.history.now in
    let read = c.committed_attempt-other.ensures in
    let its = told_item t h.replica h c.args.n read.0 c.requires.peer.history read.1 in
    committed_settled t h.replica c.args.n its.0 c.args.peer.settled.now c.requires.peer.settled its.1

pub returns-then-replies-clause-due : goal.returns-then-replies-clause-due
returns-then-replies-clause-due c same =
    let t = c.args.trace.now in
    let e = c.args.own.history.now.replica in
    let f = c.args.peer.history.now.replica in
    let v = c.committed_attempt-attempt.result in
    let w = c.committed_attempt-other.result in
    let right = c.recall_right.ensures.section t e c.requires.own.history in
    let rights = c.recall_right-2.ensures.section t f c.requires.peer.history in
    let own = read_of t e c.args.n v.offset (attempt_in v.bytes.now) c.args.own.history.now c.args.own.settled.now
    c.args.own.balances.now c.requires.own.history c.requires.own.settled right
    (λ m. c.settled_values_are_the_banks.ensures t e m c.recall_limits.ensures right)
    c.committed_attempt-attempt.ensures c.requires.after in
    let its = read_of t f c.args.n w.offset (attempt_in w.bytes.now) c.args.peer.history.now c.args.peer.settled.now
    c.args.peer.balances.now c.requires.peer.history c.requires.peer.settled rights
    (λ m. c.settled_values_are_the_banks.ensures t f m c.recall_limits.ensures rights)
    c.committed_attempt-other.ensures c.requires.peers_after in
    let token : (attempt_in v.bytes.now).token ≡ (attempt_in w.bytes.now).token = search rules in
    shown t e f c.args.n v.offset w.offset (attempt_in v.bytes.now) (attempt_in w.bytes.now) c.args.own.balances.now
    c.args.peer.balances.now own its c.requires.peer.due token
    (c.have_same_replies-replies.ensures.0 c.if-replies.true.1)
    (c.have_same_balances.ensures.0 same)

pub returns-then-replies-clause-same : goal.returns-then-replies-clause-same
returns-then-replies-clause-same c same =
    same_lists_after c.args.own.settled.now c.args.peer.settled.now c.args.n c.args.own.balances.now
    c.args.peer.balances.now c.requires.after c.requires.peers_after (c.have_same_balances.ensures.0 same)
