use Rattle.std.proofs.Common.{[], inl, inr, refl, subst, take, List, ℕ}
use Rattle.std.specs.Io.KnownBytes.{Appends}
use Rattle.std.proofs.KnownBytes.{Appends-nil}
use Rattle.eve_tool.specs.Audit.{AuditsAs, named_text}
use Rattle.eve_tool.specs.Files.{all_bytes}
use Rattle.eve_tool.proofs.SentFiles.{at_fault, of_file}
use Rattle.eve_tool.proofs.files.audit_one.Goals as goal

pub returns-in-Err-clause-said : goal.returns-in-Err-clause-said
returns-in-Err-clause-said g c = (
  [],
  inr (
    refl,
    inl (record {
      why = c.in-Err.why;
      refused = c.in-Err.ensures.refused;
      tells = c.stop_unopened.ensures;
    }),
  ),
  Appends-nil (all_bytes g.O.Sink.written c.args.out.now),
)

pub returns-in-Err-judged-clause-said : goal.returns-in-Err-judged-clause-said
returns-in-Err-judged-clause-said g c = (
  [],
  inr (
    refl,
    inr (record {
      opened = c.in-Ok.input;
      left = c.judged.new.input;
      opens = record { has = c.in-Ok.ensures.bytes };
      why = c.in-Err-judged.why;
      stops = c.in-Err-judged.ensures.stopped;
      read = c.in-Err-judged.ensures.read;
      ends = c.stop_named.ensures.status;
      tells = c.stop_named.ensures.told;
    }),
  ),
  Appends-nil (all_bytes g.O.Sink.written c.args.out.now),
)

pub returns-in_err-send_on-clause-part : goal.returns-in_err-send_on-clause-part
returns-in_err-send_on-clause-part g c =
    let said = c.in-Ok-judged.said in
    let known = g.F.Folder.bytes c.args.folder.now c.args.name.now in
    let old = all_bytes g.O.Sink.written c.args.out.now in
    let new = all_bytes g.O.Sink.written c.send_on.new.out in
    let part = c.in_err-send_on.ensures.part in
    at_fault c.from_residual.result _ (
      take part.0 said.0.items,
      (
        said.0.items,
        said.1,
        part.0,
        of_file (λ b. AuditsAs (named_text c.args.options.now.style c.args.name.now) b said.0.items
            said.1) known _ c.in-Ok.ensures.bytes c.in-Ok-judged.ensures.said,
        refl,
      ),
      subst (λ (l : List ℕ). Appends old new (take part.0 l)) c.as_slice.ensures.value part.1,
    )

pub returns-clause-said : goal.returns-clause-said
returns-clause-said g c =
    let said = c.in-Ok-judged.said in
    let known = g.F.Folder.bytes c.args.folder.now c.args.name.now in
    let old = all_bytes g.O.Sink.written c.args.out.now in
    let new = all_bytes g.O.Sink.written c.send_on.new.out in (
      said.0.items,
      inl (
        c.in-Ok-judged.ensures.status,
        refl,
        of_file (λ b. AuditsAs (named_text c.args.options.now.style c.args.name.now) b
            said.0.items said.1) known _ c.in-Ok.ensures.bytes c.in-Ok-judged.ensures.said,
      ),
      subst (Appends old new) c.as_slice.ensures.value c.in_ok-send_on.ensures.sent,
    )
