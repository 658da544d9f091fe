-- Who voted, and for what. docs/USING.md, "What `explain` prints".
use Rattle.std.specs.Prelude.{ℕ, List, [], ◌∷◌, ◌++◌, map, min, take, codes, decimal}
use Rattle.std.specs.List.{enumerate_from}
use Rattle.eve_grammar.specs.declared.vote.Choice.{Choice}
use Rattle.eve_grammar.specs.declared.vote.Choice.TheVariants as choice
use Rattle.eve_grammar.specs.declared.frame_kind.FrameKind.TheVariants as kind
use Rattle.eve_lines.specs.Words.{token_words}
use Rattle.eve_evidence.specs.declared.evidence.TheConstants.{VERIFIERS}
use Rattle.eve_evidence.specs.declared.evidence.SecondVote.{SecondVote}
use Rattle.eve_evidence.specs.declared.evidence.ToldDecision.{ToldDecision}
use Rattle.eve_evidence.specs.declared.evidence.Poll.{Poll}
use Rattle.eve_evidence.specs.declared.evidence.TransferPoll.{TransferPoll}
use Rattle.eve_evidence.specs.declared.evidence.VerifierVote.{VerifierVote}
use Rattle.eve_evidence.specs.declared.evidence.VerifierVote.TheVariants as vote
use Rattle.eve_evidence.specs.declared.evidence.VerifierChoice.{VerifierChoice}
use Rattle.eve_evidence.specs.declared.evidence.VerifierChoice.TheVariants as chosen
use Rattle.eve_reasons.specs.Words.{batch_view_words, frame_at_words}
use Rattle.eve_reasons.specs.Shared.{transfer_line}

-- a verifier's second vote on a batch in a view: `vote: verifier 1, batch 1, view 0, rollback`
abbrev pub second_line : ℕ → ℕ → ℕ → Choice → List ℕ
second_line verifier batch view choice.ForRollback =
    codes "vote: verifier " ++ (decimal verifier ++ (codes ", " ++ (batch_view_words batch view ++ codes ", rollback")))
second_line verifier batch view (choice.ForCommit token) =
    codes "vote: verifier " ++ (decimal verifier ++ (codes ", " ++ (batch_view_words batch view ++ (codes ", commit "
    ++ token_words token.now))))

-- its earliest there: `first: Vote at byte 251, rollback`
abbrev pub earliest_line : ℕ → Choice → List ℕ
earliest_line at choice.ForRollback = codes "first: " ++ (frame_at_words kind.Vote at ++ codes ", rollback")
earliest_line at (choice.ForCommit token) =
    codes "first: " ++ (frame_at_words kind.Vote at ++ (codes ", commit " ++ token_words token.now))

-- a verifier's second vote on a batch in a view, and its earliest there
abbrev pub two_votes_lines : SecondVote → List (List ℕ)
two_votes_lines s =
    second_line s.verifier s.batch s.view s.choice ∷ earliest_line s.first s.first_choice ∷ []

-- a view in which a batch is decided as commit
abbrev pub decision_line : ToldDecision → ℕ → List ℕ
decision_line d verifiers =
    codes "decided: view " ++ (decimal d.view ++ (codes ", token " ++ (token_words d.token ++ (codes ", by "
    ++ (decimal d.votes ++ (codes " of " ++ (decimal verifiers ++ codes " verifiers")))))))

-- a batch, and two views in which it is decided as commit
abbrev pub two_decisions_lines : ℕ → ToldDecision → ToldDecision → ℕ → List (List ℕ)
two_decisions_lines batch first second verifiers =
    (codes "batch: " ++ decimal batch) ∷ decision_line first verifiers ∷ decision_line second verifiers ∷ []

-- what votes are asked for
abbrev pub asked_line : ℕ → ℕ → Choice → List ℕ
asked_line batch view choice.ForRollback = codes "for: rollback of " ++ batch_view_words batch view
asked_line batch view (choice.ForCommit token) =
    codes "for: commit of " ++ (batch_view_words batch view ++ (codes ", token " ++ token_words token.now))

-- how many verifiers count for it, of how many, and how many must
abbrev pub found_lines : ℕ → ℕ → ℕ → List (List ℕ)
found_lines found verifiers due =
    (codes "found: " ++ (decimal found ++ (codes " of " ++ (decimal verifiers ++ codes " verifiers"))))
    ∷ (codes "due: " ++ decimal due) ∷ []

-- what the verifier of a number did
abbrev pub vote_line : ℕ × VerifierVote → List ℕ
vote_line (verifier, vote.For at) =
    codes "verifier " ++ (decimal verifier ++ (codes ": for it, " ++ frame_at_words kind.Vote at))
vote_line (verifier, vote.Otherwise at) =
    codes "verifier " ++ (decimal verifier ++ (codes ": otherwise, " ++ frame_at_words kind.Vote at))
vote_line (verifier, vote.NoVote) = codes "verifier " ++ (decimal verifier ++ codes ": no vote")

-- who voted for a commit or a rollback that has no majority
abbrev pub poll_lines : Poll → List (List ℕ)
poll_lines p =
    (asked_line p.batch p.view p.choice ∷ found_lines p.found p.verifiers p.due)
    ++ map vote_line (enumerate_from 0 (take (min p.verifiers VERIFIERS) p.votes))

-- what the verifier of a number said
abbrev pub choice_line : ℕ × VerifierChoice → List ℕ
choice_line (verifier, chosen.Commit token at) =
    codes "verifier " ++ (decimal verifier ++ (codes ": commit " ++ (token_words token.now ++ (codes ", "
    ++ frame_at_words kind.Vote at))))
choice_line (verifier, chosen.Rollback at) =
    codes "verifier " ++ (decimal verifier ++ (codes ": rollback, " ++ frame_at_words kind.Vote at))
choice_line (verifier, chosen.NoVote) = codes "verifier " ++ (decimal verifier ++ codes ": no vote")

-- who voted for the commit of a batch whose state was transferred at byte `at`, where no token has a majority
abbrev pub transfer_poll_lines : ℕ → TransferPoll → List (List ℕ)
transfer_poll_lines at p =
    (transfer_line (record { batch = p.batch; view = p.view; at = at })
    ∷ (codes "for: commit of " ++ (batch_view_words p.batch p.view ++ codes ", any token"))
    ∷ found_lines p.found p.verifiers p.due)
    ++ map choice_line (enumerate_from 0 (take (min p.verifiers VERIFIERS) p.votes))
