use Rattle.std.proofs.Common.{arith}
use Rattle.nr_frame.proofs.Wholes.{one_more}
use Rattle.std.proofs.lemmas.List.{length-drop, take_rest}
use Rattle.nr_frame.proofs.whole.whole_frames.Goals as goal

pub frames-preserved : goal.frames-preserved
frames-preserved c = record {
  bound = omega (arith, simp (take_rest c.args.bytes.now c.frames.at, length-drop) at c.in-Some-whole_len.ensures.bound.1);
  frames = one_more c.args.side c.args.bytes.now c.frames.at c.in-Some-whole_len.len c.frames.invariant.frames c.in_default.ensures c.in-Some-whole_len.ensures.len;
}
