use Rattle.std.proofs.Common.{length, refl}
use Rattle.nr_model.specs.Throws.{onward}
use Rattle.nr_model.specs.ValueRules.{branch, test_references}
use Rattle.nr_step.specs.Windows.{window}
use Rattle.nr_step.proofs.Jumps.{branch_begins, jumped, reference_branches, target_there}
use Rattle.nr_step.proofs.instructions.jumps.ifnull.Goals as goal

pub is_null-null-requires-clause-can : goal.is_null-null-requires-clause-can
is_null-null-requires-clause-can c =
    let can = c.requires.can in
    let w = window can.3 can.4 c.args.stack.now c.args.depth.now in
    let is = reference_branches can.0 can.1 c.args.i.now can.2 198 c.requires.row refl in
    let t = target_there can.0 can.1 c.args.i.now can.2 w (length c.args.stack.now) (test_references 198) is can.5 in
    (can.3, can.4, (λ b. branch t.0 (onward can.5.next) b), can.5.ending, can.5.left, branch_begins can.0 can.1 c.args.i.now can.2 w (length c.args.stack.now) (test_references 198) t.0 is t.1 can.5)

pub branch_if-requires : goal.branch_if-requires
branch_if-requires c =
    let can = c.requires.can in
    target_there can.0 can.1 c.args.i.now can.2 (window can.3 can.4 c.args.stack.now c.args.depth.now) (length c.args.stack.now) (test_references 198) (reference_branches can.0 can.1 c.args.i.now can.2 198 c.requires.row refl) can.5

pub returns-clause-went : goal.returns-clause-went
returns-clause-went c = λ P own found h ls.
    let can = c.requires.can in
    let t = target_there can.0 can.1 c.args.i.now can.2 (window can.3 can.4 c.args.stack.now c.args.depth.now) (length c.args.stack.now) (test_references 198) (reference_branches can.0 can.1 c.args.i.now can.2 198 c.requires.row refl) can.5 in
    jumped P own c.args.i.now found (test_references 198) t.0 (window h ls c.args.stack.now c.args.depth.now) (window h ls c.args.stack.now c.is_null-null.new.depth) c.is_null-null.result c.branch_if.result c.branch_if.new.told
    (reference_branches P own c.args.i.now found 198 c.requires.row refl) t.1 (λ k e u r. c.is_null-null.ensures.leads h ls (λ b. branch t.0 k b) e u r) c.branch_if.ensures.flow c.branch_if.ensures.told
