use Rattle.std.proofs.Common.{◌≡◌, ◌<◌, ◌-◌, min, length, take, drop, ap, arith}
use Rattle.nr_outside.specs.Link.{pieces_of}
use Rattle.nr_outside.proofs.Pieces.{given_part, left_part, given_of_one}
use Rattle.nr_outside.proofs.wire.link.Link.give.Goals as goal

pub returns-clause-gives : goal.returns-clause-gives
returns-clause-gives c =
    let piece = c.deref.result.now in
    let from = c.args.self.now.from in
    let n = c.min-count.result in
    let part = given_part piece c.copy_from_slice.new.self c.args.into.now from n c.copy_from_slice.ensures.after c.min-count.ensures in
    let left = left_part piece (pieces_of c.args.self.now.later.items) from n in
    (cc (c.in_ok-extend_from_slice.ensures.items, part), cc (left, part, c.deref.ensures.value))

pub returns-clause-piece : goal.returns-clause-piece
returns-clause-piece c =
    let piece = c.args.self.now.piece.items in
    let from = c.args.self.now.from in
    let room = length c.args.into.now in
    let count : c.min-count.result ≡ min (length (take (length piece - from) (drop from piece))) room = rw c.deref.ensures.value at c.min-count.ensures in
    let some : from < length piece = omega (arith, c.requires.rest, c.deref.ensures.len, ap length c.deref.ensures.value) in
    given_of_one piece (pieces_of c.args.self.now.later.items) room from c.min-count.result some count
