use Rattle.std.proofs.Common.{◌∙◌, ◌++◌, ap}
use Rattle.std.proofs.lemmas.Result.{on_err_weaker, on_ok_weaker}
use Rattle.eve_lines.specs.Rest.{words_in, words_left}
use Rattle.eve_streams.proofs.JoinedSends.{AppendsPrefix-more}
use Rattle.eve_tool.specs.Listing.{line_of_view}
use Rattle.eve_tool.specs.declared.listing.Listing.TheVariants.{Full}
use Rattle.eve_tool_arguments.specs.declared.style.Style.TheVariants.{Plain}
use Rattle.eve_tool.proofs.ListedLines.{at_any_err, line-put}
use Rattle.eve_tool.proofs.ListedLines.{line-stops_at_end, line-stops_in_words}
use Rattle.eve_tool.proofs.listing.put_line.Goals as goal

pub returns-in_err-make_room-clause-prefix : goal.returns-in_err-make_room-clause-prefix
returns-in_err-make_room-clause-prefix g c =
    at_any_err c.from_residual.result
    (AppendsPrefix-more _ _ c.args.line.now.items
    (line_of_view (Full Plain) c.args.frame.now.number c.args.frame.now.view) c.in_err-make_room.ensures.prefix)

pub returns-in_err-put_words-clause-prefix : goal.returns-in_err-put_words-clause-prefix
returns-in_err-put_words-clause-prefix g c =
    let begun = c.begin-words.ensures
    ∙ ap (λ b. c.put_frame_prefix.new.line.items ++ words_in c.args.frame.now.number b) c.bytes.ensures in
    at_any_err c.from_residual-in_err-put_words.result
    (line-stops_in_words _ _ _ _ _ _ c.begin-words.new.line.items _ _ (words_left c.begin-words.result)
    c.in_ok-make_room.ensures.puts c.put_frame_prefix.ensures.items begun c.in_err-put_words.ensures.prefix)

pub returns-clause-puts : goal.returns-clause-puts
returns-clause-puts g c =
    let begun = c.begin-words.ensures
    ∙ ap (λ b. c.put_frame_prefix.new.line.items ++ words_in c.args.frame.now.number b) c.bytes.ensures in
    on_ok_weaker c.put_end.result
    (line-put _ _ _ _ _ _ _ _ _ _ _ _ _ c.in_ok-make_room.ensures.puts c.put_frame_prefix.ensures.items begun
    c.in_ok-put_words.ensures.puts)
    c.put_end.ensures.puts

pub returns-clause-prefix : goal.returns-clause-prefix
returns-clause-prefix g c =
    let begun = c.begin-words.ensures
    ∙ ap (λ b. c.put_frame_prefix.new.line.items ++ words_in c.args.frame.now.number b) c.bytes.ensures in
    on_err_weaker c.put_end.result
    (line-stops_at_end _ _ _ _ _ _ _ _ _ _ _ _ c.in_ok-make_room.ensures.puts c.put_frame_prefix.ensures.items begun
    c.in_ok-put_words.ensures.puts)
    c.put_end.ensures.prefix
