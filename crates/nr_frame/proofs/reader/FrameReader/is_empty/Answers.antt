use Rattle.std.proofs.Common.{◌≡◌, arith, ap, sym, length}
use Rattle.nr_frame.specs.Reading.{Reading}
use Rattle.nr_frame.proofs.Wholes.{empty_is}
use Rattle.nr_frame.proofs.reader.FrameReader.is_empty.Goals as goal

pub returns : goal.returns
returns c =
    let len : c.len.result ≡ length c.self.inside.buffer.items = omega arith in
    rw len (empty_is c.self.inside.start c.self.inside.buffer.items c.args.self.now.unread (ap (λ (r : Reading). r.unread) (sym c.self.view_is)) (omega (arith, c.self.invariant.bound)))
