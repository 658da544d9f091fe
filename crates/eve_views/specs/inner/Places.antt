-- The place after a frame of which the kind is known.
use Rattle.std.specs.Prelude.{ℕ, ◌+◌, ◌-◌, true, ◌==◌, if◌then◌else◌, length}
use Rattle.eve_grammar.specs.Frames.{Frame, OfAttempt}
use Rattle.eve_grammar.specs.declared.place.Place.{Place}
use Rattle.eve_grammar.specs.declared.frame_kind.TheConstants.{CUSTOMER_FRAME, BATCH_FRAME, REPLICA_FRAME}
use Rattle.eve_grammar.specs.declared.frame_kind.TheConstants.{ATTEMPT_FRAME, ACCESS_FRAME, VERIFIER_FRAME, SENT_FRAME}
use Rattle.eve_grammar.specs.declared.frame_kind.TheConstants.{END_FRAME}

-- how many access frames have to follow the frame
abbrev pub accesses_in : Frame → ℕ
accesses_in (OfAttempt a) = length a.certificate
accesses_in _ = 0

-- the place after a frame of that kind, which `n` access frames have to follow
abbrev pub place_after : Place → ℕ → ℕ → Place
place_after p kind accesses =
    if kind == CUSTOMER_FRAME then record p { customers = p.customers + 1 }
    else if kind == BATCH_FRAME then record p { batches = p.batches + 1 }
    else if kind == REPLICA_FRAME then record p { replicas = p.replicas + 1 }
    else if kind == ATTEMPT_FRAME then record p { accesses = accesses }
    else if kind == ACCESS_FRAME then record p { accesses = p.accesses - 1 }
    else if kind == VERIFIER_FRAME then record p { verifiers = p.verifiers + 1 }
    else if kind == SENT_FRAME then record p { sending = true }
    else if kind == END_FRAME then record p { ended = true }
    else p
