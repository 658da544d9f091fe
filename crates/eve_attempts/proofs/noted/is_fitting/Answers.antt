use Rattle.std.proofs.Common.{◌≡◌, ◌<◌, List, length, sym, subst, ap, ◌∙◌, arith}
use Rattle.std.specs.Bool.{Decides}
use Rattle.std.proofs.lemmas.List.{length-map}
use Rattle.eve_smallbank.specs.declared.entry.Entry.{Entry}
use Rattle.eve_smallbank.specs.declared.request.Reply.{Reply}
use Rattle.eve_smallbank.specs.SmallBank.{Request, plain as plain_request}
use Rattle.eve_smallbank.specs.Access.{Executed, Fits}
use Rattle.eve_smallbank.specs.Touch.{touched_of}
use Rattle.eve_write.specs.Data.{batch as plain, asked}
use Rattle.eve_attempts.specs.ClosedAttempts.{executed}
use Rattle.eve_grammar.specs.Trace.{request_with}
use Rattle.eve_attempts.proofs.NotedRecords.{request_found, touched_found}
use Rattle.eve_attempts.proofs.noted.is_fitting.Goals as goal

pub fits-requires : goal.fits-requires
fits-requires c =
    let many = length-map c.args.batch.now.requests.items asked in
    let within : c.index-index.result < length c.args.batch.now.requests.items =
    omega (arith, c.index-index.ensures, c.requires.index) in (
      c.requires.touched.0,
      touched_found c.requires.touched.0 c.args.batch.now c.args.touched.now c.index-index.result
          c.index-asked.result.now c.index-touched-index.result c.requires.touched.1 within
          c.index-asked.ensures c.index-touched-index.is ∙ ap (touched_of c.requires.touched.0) (sym c.request.ensures),
    )

pub returns : goal.returns
returns c = λ names is.
    let b = plain c.args.batch.now in
    let many = length-map c.args.batch.now.requests.items asked in
    let within : c.index-index.result < length c.args.batch.now.requests.items =
    omega (arith, c.index-index.ensures, c.requires.index) in
    let found : plain_request c.request.result ≡ request_with b c.index-index.result =
    c.request.ensures ∙ sym (request_found c.args.batch.now c.index-index.result c.index-asked.result.now within
    c.index-asked.ensures) in
    let touches = touched_found names c.args.batch.now c.args.touched.now c.index-index.result c.index-asked.result.now
    c.index-touched-index.result is within
    c.index-asked.ensures c.index-touched-index.is ∙ ap (touched_of names) (sym c.request.ensures) in
    let x : Executed = record {
      request = plain_request c.request.result;
      reply = c.reply.result;
      entries = c.entries.result.now;
    } in
    let same : x ≡ executed b c.args.taken.now =
    ap (λ (q : Request). record { request = q; reply = c.reply.result; entries = c.entries.result.now })
    (found ∙ ap (request_with b) c.index-index.ensures)
    ∙ ap (λ (p : Reply). record {
      request = request_with b c.args.taken.now.index;
      reply = p;
      entries = c.entries.result.now;
    }) c.reply.ensures
    ∙ ap (λ (es : List Entry). record {
      request = request_with b c.args.taken.now.index;
      reply = c.args.taken.now.reply;
      entries = es;
    }) c.entries.ensures in
    subst (λ (y : Executed). Decides c.fits.result (Fits names y)) same (c.fits.ensures names touches)
