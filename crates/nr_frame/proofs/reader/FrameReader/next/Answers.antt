use Rattle.std.proofs.Common.{arith, ap}
use Rattle.nr_frame.specs.Kinds.{code_of}
use Rattle.nr_frame.specs.Reading.{Reading}
use Rattle.nr_frame.proofs.Held.{code_held, advanced, frame_given}
use Rattle.nr_frame.proofs.reader.FrameReader.next.Goals as goal

pub of_code-kind-requires-clause-least : goal.of_code-kind-requires-clause-least
of_code-kind-requires-clause-least c = (code_held c.self.inside.side c.self.inside.start c.self.inside.partial c.in-Some.len c.self.inside.buffer.items c.deref.result.now c.deref.ensures.value c.self.invariant c.in-Some.ensures.len).0

pub of_code-kind-requires-clause-most : goal.of_code-kind-requires-clause-most
of_code-kind-requires-clause-most c = (code_held c.self.inside.side c.self.inside.start c.self.inside.partial c.in-Some.len c.self.inside.buffer.items c.deref.result.now c.deref.ensures.value c.self.invariant c.in-Some.ensures.len).1

pub invariant_of-self : goal.invariant_of-self
invariant_of-self c = advanced c.self.inside.side c.self.inside.start c.self.inside.partial c.in-Some.len c.advance-self-inside.result c.self.inside.buffer.items c.deref.result.now c.advance-self-inside.new.buffer.items
    c.deref.ensures.value c.self.invariant c.in-Some.ensures.len c.advance-self-inside.ensures.rest (omega arith)

pub returns-clause-frame : goal.returns-clause-frame
returns-clause-frame c = frame_given c.self.inside.start c.in-Some.len (code_of c.of_code-kind.result) c.self.inside.buffer.items c.deref.result.now c.args.self.now.unread c.in_ok-body.body.items
    c.deref.ensures.value (ap (λ (r : Reading). r.unread) c.self.view_is) c.in-Some.ensures.len c.of_code-kind.ensures c.in_ok-body.ensures.items
