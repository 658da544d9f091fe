-- Which frames begin the parts of a trace.
use Rattle.std.specs.Prelude.{ℕ, ◌==◌, ◌||◌, ◌&&◌, not, if◌then◌else◌, replicate}
use Rattle.std.proofs.Math.ListN.{set}
use Rattle.eve_grammar.specs.declared.limits.TheConstants.{MOST_REPLICAS, MOST_VERIFIERS}
use Rattle.eve_grammar.specs.declared.place.Place.{Place}
use Rattle.eve_views.specs.declared.starts.Starts.{Starts}
use Rattle.eve_grammar.specs.declared.frame_kind.TheConstants.{REPLICA_FRAME, VERIFIER_FRAME, SENT_FRAME, END_FRAME}

-- before any frame
abbrev pub no_starts : Starts
no_starts = record { sections = replicate MOST_REPLICAS 0; verifiers = replicate MOST_VERIFIERS 0; sent = 0 }

-- the starts with a frame of the kind at the place, which is the frame of that number
abbrev pub noted : Starts → Place → ℕ → ℕ → Starts
noted s p kind frame =
    if kind == REPLICA_FRAME then record s { sections = set s.sections p.replicas frame }
    else if kind == VERIFIER_FRAME then record s { verifiers = set s.verifiers p.verifiers frame }
    else if ((kind == SENT_FRAME) || (kind == END_FRAME)) && not p.sending then record s { sent = frame }
    else s
