use Rattle.std.proofs.Common.{length, sym, ap, subst, ◌∙◌}
use Rattle.std.specs.Prelude.{All}
use Rattle.nr_linked.specs.Kinds.{array_of}
use Rattle.nr_heap.specs.Contents.{Contents, Keeps}
use Rattle.nr_heap.proofs.Tested.{has_run, keeps_run}
use Rattle.nr_run.specs.Runs.{int_kind}
use Rattle.nr_run.proofs.Filled.{all_kept, filled}
use Rattle.nr_run.proofs.run.heap_of.Goals as goal

pub write_run-requires-clause-run : goal.write_run-requires-clause-run
write_run-requires-clause-run c =
    has_run c.new-heap.result c.new_array.new.self c.in-Ok.name int_kind (length c.args.ints.now) c.deref.result.now c.in-Ok.ensures.made
    (c.deref.ensures.len ∙ c.in_ok-values.ensures.len)

pub write_run-requires-clause-keeps : goal.write_run-requires-clause-keeps
write_run-requires-clause-keeps c =
    keeps_run c.new-heap.result c.new_array.new.self c.in-Ok.name int_kind (length c.args.ints.now) c.deref.result.now c.in-Ok.ensures.made
    (subst (All (Keeps (array_of int_kind))) (sym (c.deref.ensures.value ∙ c.in_ok-values.ensures.items)) (all_kept c.args.ints.now))

pub returns-in-Ok : goal.returns-in-Ok
returns-in-Ok c =
    filled c.new-heap.result c.new_array.new.self c.write_run.new.self c.in-Ok.name c.args.ints.now c.deref.result.now (ap (λ (h : Contents). h.objects) c.new-heap.ensures) c.in-Ok.ensures.made
    (c.deref.ensures.value ∙ c.in_ok-values.ensures.items) c.write_run.ensures
