use Rattle.std.proofs.Common.{◌≡◌, ◌∙◌, subst, sym}
use Rattle.std.proofs.lemmas.Option.{same_Some}
use Rattle.std.specs.Io.KnownBytes.{Appends}
use Rattle.eve_grammar.specs.declared.head.Head.{Head}
use Rattle.eve_streams.proofs.JoinedSends.{AppendsPrefix-more}
use Rattle.eve_streams.specs.Prefix.{AppendsPrefix}
use Rattle.eve_tool.specs.Listing.{header_line, lines_from, listed_lines}
use Rattle.eve_tool.proofs.ListedLines.{at_any_err, head_read}
use Rattle.eve_tool.proofs.LinesPut.{puts-held_stops, puts-sent, puts-stops, puts-then}
use Rattle.eve_tool.proofs.listing.send_lines.Goals as goal

pub returns-in_default-clause-sent : goal.returns-in_default-clause-sent
returns-in_default-clause-sent g c =
    λ head frames says has. let none = sym c.in_default.ensures ∙ head_read c.args.bytes.now head says in absurd cc

pub returns-in_err-begin_lines-clause-prefix : goal.returns-in_err-begin_lines-clause-prefix
returns-in_err-begin_lines-clause-prefix g c =
    λ head frames says has.
    let same : c.in-Some.head ≡ head = same_Some _ _ (sym c.in-Some.ensures ∙ head_read c.args.bytes.now head says) in
    at_any_err c.from_residual.result
    (AppendsPrefix-more _ _ _ (lines_from c.args.listing 0 32 frames)
    (subst (λ (h : Head). AppendsPrefix (g.O.Sink.written c.args.out.now) (g.O.Sink.written c.begin_lines.new.out)
    (header_line c.args.listing h)) same c.in_err-begin_lines.ensures.prefix))

pub returns-in_err-put_frames-clause-prefix : goal.returns-in_err-put_frames-clause-prefix
returns-in_err-put_frames-clause-prefix g c =
    λ head frames says has.
    let same : c.in-Some.head ≡ head = same_Some _ _ (sym c.in-Some.ensures ∙ head_read c.args.bytes.now head says) in
    at_any_err c.from_residual-in_err-put_frames.result
    (subst (λ (h : Head). AppendsPrefix (g.O.Sink.written c.args.out.now) (g.O.Sink.written c.put_frames.new.out)
    (listed_lines c.args.listing h frames)) same
    (puts-stops _ _ _ _ _ _ _ c.in_ok-begin_lines.ensures.puts (c.in_err-put_frames.ensures.prefix head frames has)))

pub returns-in_err-send_held-clause-prefix : goal.returns-in_err-send_held-clause-prefix
returns-in_err-send_held-clause-prefix g c =
    λ head frames says has.
    let same : c.in-Some.head ≡ head = same_Some _ _ (sym c.in-Some.ensures ∙ head_read c.args.bytes.now head says) in
    at_any_err c.from_residual-in_err-send_held.result
    (subst (λ (h : Head). AppendsPrefix (g.O.Sink.written c.args.out.now) (g.O.Sink.written c.send_held.new.out)
    (listed_lines c.args.listing h frames)) same
    (puts-held_stops _ _ _ _ _ _
    (puts-then _ _ _ _ _ _ _ _ c.in_ok-begin_lines.ensures.puts (c.in_ok-put_frames.ensures.puts head frames has))
    c.in_err-send_held.ensures.prefix))

pub returns-clause-sent : goal.returns-clause-sent
returns-clause-sent g c =
    λ head frames says has.
    let same : c.in-Some.head ≡ head = same_Some _ _ (sym c.in-Some.ensures ∙ head_read c.args.bytes.now head says) in
    subst (λ (h : Head). Appends (g.O.Sink.written c.args.out.now) (g.O.Sink.written c.send_held.new.out)
    (listed_lines c.args.listing h frames)) same
    (puts-sent _ _ _ _ _ _
    (puts-then _ _ _ _ _ _ _ _ c.in_ok-begin_lines.ensures.puts (c.in_ok-put_frames.ensures.puts head frames has))
    c.in_ok-send_held.ensures.sent)
