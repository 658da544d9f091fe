use Rattle.std.proofs.Common.{[], None, subst}
use Rattle.std.proofs.lemmas.List.{get_or_default}
use Rattle.eve_smallbank.specs.Touch.{rows_in}
use Rattle.eve_stamps.specs.Stripes.{Stripe}
use Rattle.eve_stamps.specs.Requests.{refusal, IsRefusedFor}
use Rattle.eve_stamps_schedule.proofs.applying.on_one.Goals as goal

pub returns-clause-refused : goal.returns-clause-refused
returns-clause-refused c =
    subst (λ (s : Stripe). IsRefusedFor (refusal s c.args.stamp.tick (rows_in c.args.reached.now)) c.apply.result)
    (get_or_default c.args.stripes.now c.args.at c.index-stripes-at.result
    (record { base = []; journal = []; greatest = None }) c.requires.there)
    c.apply.ensures.refused
