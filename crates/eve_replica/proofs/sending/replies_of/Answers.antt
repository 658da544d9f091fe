use Rattle.std.proofs.Common.{◌≡◌, ◌++◌, [], List, length, map, slice_get, option_map, Some}
use Rattle.std.proofs.Common.{refl, sym, ap, ◌∙◌, subst, arith}
use Rattle.std.proofs.lemmas.List.{length-map}
use Rattle.std.proofs.lemmas.Option.{slice_get-map, slice_get_read}
use Rattle.eve_grammar.specs.Trace.{Batch, Step}
use Rattle.eve_write.specs.Data.{batch, section, sent, step}
use Rattle.eve_replica.specs.declared.server.Server.{Server}
use Rattle.eve_replica.specs.SentReplies.{sent_along}
use Rattle.eve_replica.proofs.SentReplies.{replica_sent, replicas_sent}
use Rattle.eve_replica.proofs.sending.replies_of.Goals as goal

pub loop-place-preserved : goal.loop-place-preserved
loop-place-preserved c =
    let batches : List Batch = map (λ m. batch m.batch) c.args.batches.now in
    let servers : List Server = c.args.servers.now in
    let sections : List (List Step) = map (λ s. section s.steps) servers in
    let place = c.loop-place.place in
    let item : Server = c.index-servers-place.result in
    let own : slice_get sections place ≡ Some (section item.steps) =
    slice_get-map (λ s. section s.steps) servers place
    ∙ ap (option_map (λ s. section s.steps)) (slice_get_read servers (length servers) place item refl
    (omega arith) c.index-servers-place.is) in
    let same : map step c.as_slice-steps.result.now ≡ section item.steps =
    ap (map step) c.as_slice-steps.ensures.value ∙ ap (λ (s : Server). section s.steps) (sym c.index-servers-place.is)
    in
    record {
      limits = c.in_ok-send_section.ensures.limits;
      sent = replica_sent batches sections place (section item.steps) (map sent c.loop-place.replies.items)
          (map sent c.send_section.new.replies.items) _ own
          (subst (λ (ss : List Step). map sent c.send_section.new.replies.items
          ≡ map sent c.loop-place.replies.items ++ sent_along batches place [] ss) same
          c.in_ok-send_section.ensures.sent)
          c.loop-place.invariant.sent;
    }

pub returns-clause-sent : goal.returns-clause-sent
returns-clause-sent c =
    replicas_sent (map (λ m. batch m.batch) c.args.batches.now) (map (λ s. section s.steps) c.args.servers.now)
    c.loop-place.place (map sent c.loop-place.replies.items) _
    (omega (arith, length-map c.args.servers.now (λ s. section s.steps))) c.loop-place.invariant.sent
