use Rattle.std.proofs.Common.{refl, subst}
use Rattle.nr_model.specs.Scripts.{Runs}
use Rattle.nr_step.specs.Instructions.{doing}
use Rattle.nr_step.specs.Windows.{top_first, window}
use Rattle.nr_step.proofs.Casts.{athrow_is, throws_top, top_thrown}
use Rattle.nr_step.proofs.Objects.{not_null_asks, null_thrown}
use Rattle.nr_step.proofs.instructions.objects.athrow.Goals as goal

pub reference_at-requires-clause-some : goal.reference_at-requires-clause-some
reference_at-requires-clause-some c =
    let can = c.requires.can in
    not_null_asks c.args.p.now 0 (λ k. throws_top c.args.p.now) c.args.heap.now.objects can.2 (top_first c.args.stack.now c.args.depth)
    (throws_top c.args.p.now, can.3.ending, can.3.left, subst (λ sc. Runs sc (window c.args.heap.now.objects can.2 c.args.stack.now c.args.depth) can.3.ending can.3.left) (athrow_is c.args.p.now can.0 c.args.i.now can.1 c.requires.row can.3.next) can.3.runs)

pub returns-in_default : goal.returns-in_default
returns-in_default c = λ own found ls.
    null_thrown c.throw_object.result c.args.p.now (doing c.args.p.now own c.args.i.now found) (λ n. throws_top c.args.p.now) c.args.heap.now.objects c.throw_object.new.heap.objects ls (top_first c.args.stack.now c.args.depth) c.throw_object.new.told
    c.in_default.ensures (athrow_is c.args.p.now own c.args.i.now found c.requires.row) c.throw_object.ensures

pub returns : goal.returns
returns c = λ own found ls.
    let can = c.requires.can in (
      refl,
      top_thrown c.args.p.now (doing c.args.p.now own c.args.i.now found) c.in-Some.name c.args.heap.now.objects ls can.2 (top_first c.args.stack.now c.args.depth) can.3.next can.3.ending can.3.left c.in-Some.ensures (athrow_is c.args.p.now own c.args.i.now found c.requires.row)
          (subst (λ sc. Runs sc (window c.args.heap.now.objects can.2 c.args.stack.now c.args.depth) can.3.ending can.3.left) (athrow_is c.args.p.now can.0 c.args.i.now can.1 c.requires.row can.3.next) can.3.runs),
    )
