use Rattle.std.proofs.Common.{◌∙◌, ap, arith, length, length-append}
use Rattle.eve_lines.specs.Rest.{words_left}
use Rattle.eve_tool.proofs.ListedLines.{at_any_err}
use Rattle.eve_tool.proofs.LinesPut.{up_to-all, up_to-filled, up_to-held_stops, up_to-more}
use Rattle.eve_tool.proofs.listing.put_words.Goals as goal

pub returns-in_err-make_room-clause-prefix : goal.returns-in_err-make_room-clause-prefix
returns-in_err-make_room-clause-prefix g c =
    at_any_err c.from_residual.result
    (up_to-held_stops _ _ _ _ _ _ _ c.parts.invariant.0 c.in_err-make_room.ensures.prefix)

pub returns-then-not-fill-clause-puts : goal.returns-then-not-fill-clause-puts
returns-then-not-fill-clause-puts g c =
    let room = up_to-more _ _ _ _ _ _ _ _ (words_left c.parts.words) c.parts.invariant.0
    c.in_ok-make_room.ensures.puts in
    up_to-all _ _ _ _ _ _ _ room (c.fill.ensures.all c.if-not-fill.true)

pub parts-smaller : goal.parts-smaller
parts-smaller g c =
    omega (
      arith,
      ap length (c.fill.ensures.more c.if-not-fill.false),
      length-append c.fill.new.line.items (words_left c.fill.new.self),
      length-append c.make_room.new.line.items (words_left c.parts.words),
      c.fill.ensures.full c.if-not-fill.false,
      c.in_ok-make_room.ensures.room,
    )

pub parts-preserved : goal.parts-preserved
parts-preserved g c =
    let room = up_to-more _ _ _ _ _ _ _ _ (words_left c.parts.words) c.parts.invariant.0
    c.in_ok-make_room.ensures.puts in (
      up_to-filled _ _ _ _ _ _ _ _ room (c.fill.ensures.more c.if-not-fill.false),
      c.in_ok-make_room.ensures.fine ∙ c.parts.invariant.1,
    )
