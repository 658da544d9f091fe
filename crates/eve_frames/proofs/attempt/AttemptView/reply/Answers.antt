use Rattle.std.proofs.Common.{◌≡◌, ◌+◌, ◌*◌, ◌<◌, arith}
use Rattle.eve_grammar.specs.Readers.{reply_at}
use Rattle.eve_frames.specs.Views.{attempt_in}
use Rattle.eve_frames.proofs.AttemptPlaces.{requests_of, attempt_placed, attempt_even}
use Rattle.eve_frames.proofs.Lists.{stand_is, stand_some}
use Rattle.eve_frames.proofs.attempt.AttemptView.reply.Goals as goal

pub unreachable-requires : goal.unreachable-requires
unreachable-requires c =
    let bytes = c.args.self.now.bytes.now in
    let n = requests_of bytes in
    let there : c.args.i < n = omega (arith, c.requires, attempt_even bytes c.args.self.now.whole) in
    let place : 16 + 2 * c.len.result + 9 * c.args.i ≡ 16 + 2 * n + 9 * c.args.i =
    omega (arith, c.len.ensures.certificate) in
    stand_some 9 n (16 + 2 * n) reply_at bytes (attempt_in bytes).replies
    (attempt_placed bytes c.args.self.now.whole).replies c.args.i (16 + 2 * c.len.result + 9 * c.args.i) there place
    c.in-None.ensures

pub returns : goal.returns
returns c =
    let bytes = c.args.self.now.bytes.now in
    let n = requests_of bytes in
    let there : c.args.i < n = omega (arith, c.requires, attempt_even bytes c.args.self.now.whole) in
    let place : 16 + 2 * c.len.result + 9 * c.args.i ≡ 16 + 2 * n + 9 * c.args.i =
    omega (arith, c.len.ensures.certificate) in
    stand_is 9 n (16 + 2 * n) reply_at bytes (attempt_in bytes).replies
    (attempt_placed bytes c.args.self.now.whole).replies c.args.i (16 + 2 * c.len.result + 9 * c.args.i) there place
    c.in-Some.reply c.in-Some.field-0-1.now c.in-Some.ensures
