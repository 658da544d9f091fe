use Rattle.std.proofs.Common.{◌≡◌, ◌∙◌, ◌+◌, List, ℕ, [], ◌∷◌, ap, drop, inl, map, refl, subst, sym}
use Rattle.std.specs.String.{string_bytes}
use Rattle.std.proofs.lemmas.List.{drop_more}
use Rattle.eve_tool.proofs.SentFiles.{JudgedSoFar, at_fault, most_of_all, so_far_more}
use Rattle.eve_tool.proofs.files.audit_files.Goals as goal

pub returns-in_err-flush-clause-stopped : goal.returns-in_err-flush-clause-stopped
returns-in_err-flush-clause-stopped g c = at_fault c.from_residual.result _ (record {
  before = [];
  rest = map string_bytes c.args.files.now;
  all = refl;
  text = [];
  part = [];
  greatest = 0;
  judges = (refl, refl, refl);
  next = inl refl;
  sent = c.in_err-flush.ensures.kept;
  failed = c.in_err-flush.ensures.failed;
})

pub files-init : goal.files-init
files-init g c = record {
  before = [];
  whole = refl;
  text = [];
  judges = (refl, refl, refl);
  sent = c.in_ok-flush.ensures.kept;
  flushed = c.in_ok-flush.ensures.empty;
  fine = c.in_ok-flush.ensures.fine;
}

pub files-preserved : goal.files-preserved
files-preserved g c =
    let files = c.args.files.now in
    let i = c.files.file-index in
    let bytes = g.F.Folder.bytes c.args.folder.now in
    let refuses = g.F.Folder.refuses c.args.folder.now in
    let one = c.in_ok-one.ensures.said in
    let here : drop i files ≡ c.file-item.result ∷ drop (i + 1) files =
    drop_more files i c.file-item.result c.files-test.true ∙ ap (λ x. x ∷ drop (i + 1) files) (sym c.file-item.is) in
    let named : map string_bytes (drop i files) ≡ c.as_str.result.now ∷ map string_bytes (drop (i + 1) files) =
    ap (map string_bytes) here ∙ ap (λ n. n ∷ map string_bytes (drop (i + 1) files)) (sym c.as_str.ensures.value) in
    let before = subst (λ (left : List (List ℕ)). JudgedSoFar g.F.Input.Source.remaining g.F.Input.Source.failures
    g.E.Sink.written g.E.Sink.failures g.O.Sink.written g.O.Sink.failures bytes refuses c.args.options.now.style
    (map string_bytes files) left c.args.err.now c.files.err c.args.out.now c.files.out c.files.status) named
    c.files.invariant in
    rw c.max-status.ensures (so_far_more g.F.Input.Source.remaining g.F.Input.Source.failures g.E.Sink.written
    g.E.Sink.failures g.O.Sink.written g.O.Sink.failures bytes refuses c.args.options.now.style (map string_bytes files)
    c.as_str.result.now (map string_bytes (drop (i + 1) files)) _ _ _ _ _ _ c.files.status c.in_ok-one.one one.0
    before one.1 one.2 (c.in_ok-one.ensures.empty before.flushed) c.in_ok-one.ensures.fine)

pub returns-clause-status : goal.returns-clause-status
returns-clause-status g c =
    most_of_all g.F.Input.Source.remaining g.F.Input.Source.failures g.E.Sink.written g.E.Sink.failures
    (g.F.Folder.bytes c.args.folder.now) (g.F.Folder.refuses c.args.folder.now) c.args.options.now.style
    c.files.invariant.before _ _ c.files.invariant.text c.files.status c.files.invariant.judges
