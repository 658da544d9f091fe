use Rattle.std.proofs.Common.{sym, ◌∙◌}
use Rattle.std.proofs.lemmas.Bool.{false≢true}
use Rattle.eve_smallbank.specs.SmallBank.{plain}
use Rattle.eve_frames.specs.Views.{access_in}
use Rattle.eve_chains.specs.Records.{recorded}
use Rattle.eve_chains.proofs.Least.{mismatch_alone}
use Rattle.eve_chains.proofs.records.judge_record.Goals as goal

pub returns-else-fits : goal.returns-else-fits
returns-else-fits c =
    mismatch_alone c.args.names.now.items (
      c.args.access.now.offset,
      recorded (plain c.args.request.now) c.args.reply
          (access_in c.args.access.now.bytes.now).entries,
    ) c.offset.result c.offset.ensures
    (λ fits. absurd (false≢true (sym c.if-fits.false ∙ c.fits.ensures.1 fits)))
