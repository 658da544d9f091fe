-- Replicas beside which others are judged. docs/ARCHITECTURE.md, "Threads of an audit".
use Rattle.std.specs.Prelude.{Option, IfSome}
use Rattle.eve_grammar.specs.Trace.{Trace}
use Rattle.eve_agree.specs.ShownTokens.{IsDueReplica}
use Rattle.eve_agree.specs.declared.shown_tokens.Peer.{Peer}

-- if there is one, its tokens are due
abbrev pub IsSoundPeer : Trace → Option Peer → Type 0
IsSoundPeer t peer = IfSome peer (λ p. IsDueReplica t p.history.now p.settled.now)
