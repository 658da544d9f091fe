use Rattle.eve_agree.proofs.EqualBalances.{same_lists_after}
use Rattle.eve_agree.proofs.shown_tokens.are_known_same.Goals as goal

pub returns : goal.returns
returns c same =
    same_lists_after c.args.own.settled.now c.args.peer.settled.now c.args.n c.args.own.balances.now
    c.args.peer.balances.now c.requires.after c.requires.peers_after (c.have_same_balances.ensures.0 same)
