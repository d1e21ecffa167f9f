use Rattle.std.proofs.Common.{◌∙◌, ◌-◌, arith}
use Rattle.nr_frame.proofs.Held.{more_held, more_fed, cut_held, cut_fed}
use Rattle.nr_frame.proofs.reader.FrameReader.feed.Goals as goal

pub invariant_of-self-in-None : goal.invariant_of-self-in-None
invariant_of-self-in-None c = more_held c.self.inside.side c.self.inside.start c.self.inside.partial (c.len.result - c.self.inside.partial) c.whole_frames-len.result.0 (c.len-in-None.result - (c.len.result - c.self.inside.partial) - c.whole_frames-len.result.0) c.self.inside.buffer.items c.args.piece.now c.extend_from_slice.new.self.items
    c.self.invariant c.in_ok-extend_from_slice.ensures.items (omega arith) (rw (c.in-None.is, c.deref.ensures.value) at c.whole_frames-len.ensures.split) (omega arith)

pub returns-in-None-clause-fed : goal.returns-in-None-clause-fed
returns-in-None-clause-fed c = (
  more_fed c.args.self.now c.self.inside.side c.self.inside.start c.self.inside.partial (c.len.result - c.self.inside.partial) c.whole_frames-len.result.0 c.self.inside.buffer.items c.args.piece.now c.extend_from_slice.new.self.items c.self.inside.fault
      c.self.view_is c.in_default.is c.self.invariant c.in_ok-extend_from_slice.ensures.items (omega arith) (rw (c.in-None.is, c.deref.ensures.value) at c.whole_frames-len.ensures.split),
  c.in_default.is,
)

pub invariant_of-self-in-Some-fault : goal.invariant_of-self-in-Some-fault
invariant_of-self-in-Some-fault c = cut_held c.self.inside.side c.self.inside.start c.self.inside.partial (c.len.result - c.self.inside.partial) c.whole_frames-len.result.0 c.self.inside.buffer.items c.args.piece.now c.deref.result.now c.truncate.new.self.items c.in-Some-fault.fault
    c.self.invariant (c.deref.ensures.value ∙ c.in_ok-extend_from_slice.ensures.items) (omega arith) (rw c.in-Some-fault.is at c.whole_frames-len.ensures.split) (rw c.deref.ensures.value c.truncate.ensures.items)

pub returns-in-Some-fault-clause-cut : goal.returns-in-Some-fault-clause-cut
returns-in-Some-fault-clause-cut c = λ f h. (
  cut_fed c.args.self.now c.self.inside.side c.self.inside.start c.self.inside.partial (c.len.result - c.self.inside.partial) c.whole_frames-len.result.0 c.self.inside.buffer.items c.args.piece.now c.deref.result.now c.truncate.new.self.items c.self.inside.fault c.in-Some-fault.fault
      c.self.view_is c.in_default.is c.self.invariant (c.deref.ensures.value ∙ c.in_ok-extend_from_slice.ensures.items) (omega arith) (rw c.in-Some-fault.is at c.whole_frames-len.ensures.split) (rw c.deref.ensures.value c.truncate.ensures.items),
  cc,
)
