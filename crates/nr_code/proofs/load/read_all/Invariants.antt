use Rattle.std.proofs.Common.{◌≡◌, [], drop, take, length}
use Rattle.nr_prog.specs.BodyText.{EachBody}
use Rattle.nr_instrs.specs.Checks.{walk}
use Rattle.nr_code.specs.Decoding.{body_step}
use Rattle.nr_code.proofs.load.read_all.Given as goal

abbrev pub invariant-loop-place : goal.invariant-loop-place
invariant-loop-place l = record {
  so_far : walk (body_step l.class) l.bodies (drop l.place l.class.methods) ≡ walk (body_step l.class) [] l.class.methods;
  place : length l.bodies ≡ l.place;
  each : EachBody l.class (take l.place l.class.methods) l.bodies;
}
