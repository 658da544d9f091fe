-- What is wrong with a reply that was sent, from what was read.
use Rattle.std.proofs.Common.{◌≡◌, ℕ, ◌-◌, List, Option, Some, None, slice_get, get_or, refl, sym, ap, subst, ◌∙◌}
use Rattle.eve_smallbank.specs.declared.request.Reply.{Reply}
use Rattle.eve_smallbank.specs.declared.request.Reply.TheVariants.{Done}
use Rattle.eve_grammar.specs.Trace.{Attempt, Batch, RequestId, Sent, Trace}
use Rattle.eve_grammar.specs.Spelling.{batches_at}
use Rattle.eve_frames.specs.Decoded.{attempt_decoded}
use Rattle.eve_frames.specs.declared.attempt.AttemptView.{AttemptView}
use Rattle.eve_history.specs.Section.{batch_at}
use Rattle.eve_history.specs.SectionHistory.{SectionHistory, section_history, committed_at}
use Rattle.eve_agree.specs.SentReplies.{IsReplied}
use Rattle.eve_evidence.specs.declared.evidence.Evidence.TheVariants as shown
use Rattle.eve_evidence.specs.declared.evidence.GivenBy.{GivenBy}
use Rattle.eve_evidence.specs.declared.evidence.SentFault.TheVariants.{NoRequest, NotCommitted, Another}
use Rattle.eve_evidence.specs.declared.evidence.ToldRequest.{ToldRequest}
use Rattle.eve_evidence.specs.declared.evidence.ToldSent.{ToldSent}
use Rattle.eve_evidence.specs.Told.{told_sent}
use Rattle.eve_evidence_outcomes.specs.inner.Committed.{IsCommittedBy}
use Rattle.eve_evidence_outcomes.specs.Given.{TellsGiven}
use Rattle.eve_evidence_outcomes.specs.Sent.{NoneHas, HasAt, IsFoundRequest, TellsSentIn}
use Rattle.eve_evidence_outcomes.proofs.BatchRequests.{none_there, has_there, told_there}

module _ (t : Trace) (s : Sent) (seq : ℕ) (seq_is : seq ≡ s.seq) (d : ToldSent) (told : d ≡ told_sent s)
    (b : ℕ × (ℕ × Batch)) (got : slice_get (batches_at t) (seq - 1) ≡ Some b) where
  ids : ◌≡◌ {A = RequestId} (d.client, d.number) (s.client, s.number)
  ids = λ i. ((told i).client, (told i).number)

  pub no_request : NoneHas (d.client, d.number) b.1.1.requests → TellsSentIn t s (shown.Reply d NoRequest None)
  no_request none = (
    told,
    subst (λ (id : RequestId). NoneHas id (batch_at t s.seq).requests) ids
        (none_there t s.seq seq b seq_is got (d.client, d.number) none),
    refl,
  )

  module _ (r : ToldRequest) (of : IsFoundRequest (d.client, d.number) b.1.1.requests r) where
    answers : HasAt (s.client, s.number) (batch_at t s.seq).requests r.index
    answers = subst (λ (id : RequestId). HasAt id (batch_at t s.seq).requests r.index) ids
        (has_there t s.seq seq b seq_is got (d.client, d.number) r of)

    module _ (h : SectionHistory) (own_history : h ≡ section_history t s.replica) (given : Option GivenBy)
        (by : TellsGiven h seq r.index d.reply given) where
      its_giver : TellsGiven (section_history t s.replica) s.seq r.index s.reply given
      its_giver = subst (λ (x : SectionHistory). TellsGiven x s.seq r.index s.reply given) own_history
          (subst (λ (n : ℕ). TellsGiven h n r.index s.reply given) seq_is
          (subst (λ (x : ToldSent). TellsGiven h seq r.index x.reply given) told by))

      pub not_committed : committed_at t s.replica seq ≡ None → TellsSentIn t s (shown.Reply d NotCommitted given)
      not_committed none = (
        told,
        ((r.index, answers), sym (ap (committed_at t s.replica) seq_is) ∙ none),
        (r.index, answers, its_giver),
      )

    module _ (a : AttemptView) (own : IsCommittedBy t s.replica seq a) where
      committed : committed_at t s.replica s.seq ≡ Some own.placed
      committed = sym (ap (committed_at t s.replica) seq_is) ∙ own.committed

      replies : (attempt_decoded a).replies ≡ own.placed.attempt.replies
      replies = ap (λ (x : Attempt). x.replies) own.decoded

      pub is_replied : slice_get (attempt_decoded a).replies r.index ≡ Some d.reply → IsReplied t s
      is_replied has = record {
        placed = own.placed;
        index = r.index;
        committed = committed;
        request = answers;
        reply = ap (λ (rs : List Reply). slice_get rs r.index) (sym replies) ∙ has
            ∙ ap (λ (x : ToldSent). Some x.reply) told;
      }

      pub other_reply : (h : SectionHistory) → h ≡ section_history t s.replica → (given : Option GivenBy)
          → TellsGiven h seq r.index d.reply given → (due : Reply) → r.batch ≡ seq
          → due ≡ get_or (attempt_decoded a).replies r.index Done
          → (slice_get (attempt_decoded a).replies r.index ≡ Some d.reply → ⊥)
          → TellsSentIn t s (shown.Reply d (Another r due) given)
      other_reply h own_history given by due batch due_is not = (
        told,
        record {
          request_is = told_there t s.seq seq b seq_is got (d.client, d.number) r of batch;
          answers = answers;
          placed = own.placed;
          committed = committed;
          due_is = due_is ∙ ap (λ (rs : List Reply). get_or rs r.index Done) replies;
          other = λ has. not (ap (λ (rs : List Reply). slice_get rs r.index) replies ∙ has
              ∙ ap (λ (x : ToldSent). Some x.reply) (sym told));
        },
        its_giver h own_history given by,
      )
