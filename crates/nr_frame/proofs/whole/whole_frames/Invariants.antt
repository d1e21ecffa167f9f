use Rattle.std.proofs.Common.{◌≤◌, ◌-◌, length, take}
use Rattle.nr_frame.proofs.Wholes.{AreFrames}
use Rattle.nr_frame.proofs.whole.whole_frames.Given as goal

abbrev pub invariant-frames : goal.invariant-frames
invariant-frames l = record {
  bound : l.at ≤ length l.bytes;
  frames : AreFrames l.side (take l.at l.bytes);
}

abbrev pub decreases-frames : goal.decreases-frames
decreases-frames l = length l.bytes - l.at
