use Rattle.std.proofs.Common.{length, refl}
use Rattle.nr_heap.proofs.Tested.{has_run, has_written, keeps_run}
use Rattle.nr_heap.proofs.tests.arrays.keeps.Goals as goal

pub write_run-requires-clause-run : goal.write_run-requires-clause-run
write_run-requires-clause-run c =
    has_run c.args.heap.now c.new_array.new.self c.in_ok-array.array c.args.elem (length c.args.values.now) c.args.values.now c.in_ok-array.ensures.made refl

pub write_run-requires-clause-keeps : goal.write_run-requires-clause-keeps
write_run-requires-clause-keeps c =
    keeps_run c.args.heap.now c.new_array.new.self c.in_ok-array.array c.args.elem (length c.args.values.now) c.args.values.now c.in_ok-array.ensures.made c.requires.keeps

pub holds-requires-clause-array : goal.holds-requires-clause-array
holds-requires-clause-array c =
    has_written c.args.heap.now c.new_array.new.self c.write_run.new.self c.in_ok-array.array c.args.elem (length c.args.values.now) c.args.values.now c.in_ok-array.ensures.made refl c.write_run.ensures
