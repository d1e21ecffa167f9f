use Rattle.std.proofs.Common.{length}
use Rattle.nr_model.specs.Throws.{onward}
use Rattle.nr_model.specs.ValueRules.{test_two}
use Rattle.nr_step.specs.Windows.{window}
use Rattle.nr_step.proofs.Jumps.{branch_begins, jumped, pair_branches, target_there}
use Rattle.nr_step.proofs.instructions.jumps.if_icmp.Goals as goal

pub branches_on_ints-taken-requires-clause-can : goal.branches_on_ints-taken-requires-clause-can
branches_on_ints-taken-requires-clause-can c =
    let can = c.requires.can in
    let w = window can.3 can.4 c.args.stack.now c.args.depth.now in
    let is = pair_branches can.0 can.1 c.args.i.now can.2 c.args.code c.requires.row c.requires.code in
    let t = target_there can.0 can.1 c.args.i.now can.2 w (length c.args.stack.now) (test_two c.args.code) is can.5 in
    (can.3, can.4, t.0, (onward can.5.next, can.5.ending, can.5.left, branch_begins can.0 can.1 c.args.i.now can.2 w (length c.args.stack.now) (test_two c.args.code) t.0 is t.1 can.5))

pub branch_if-requires : goal.branch_if-requires
branch_if-requires c =
    let can = c.requires.can in
    target_there can.0 can.1 c.args.i.now can.2 (window can.3 can.4 c.args.stack.now c.args.depth.now) (length c.args.stack.now) (test_two c.args.code) (pair_branches can.0 can.1 c.args.i.now can.2 c.args.code c.requires.row c.requires.code) can.5

pub returns-clause-went : goal.returns-clause-went
returns-clause-went c = λ P own found h ls.
    let can = c.requires.can in
    let t = target_there can.0 can.1 c.args.i.now can.2 (window can.3 can.4 c.args.stack.now c.args.depth.now) (length c.args.stack.now) (test_two c.args.code) (pair_branches can.0 can.1 c.args.i.now can.2 c.args.code c.requires.row c.requires.code) can.5 in
    jumped P own c.args.i.now found (test_two c.args.code) t.0 (window h ls c.args.stack.now c.args.depth.now) (window h ls c.args.stack.now c.branches_on_ints-taken.new.depth) c.branches_on_ints-taken.result c.branch_if.result c.branch_if.new.told
    (pair_branches P own c.args.i.now found c.args.code c.requires.row c.requires.code) t.1 (λ k e u r. c.branches_on_ints-taken.ensures.leads h ls t.0 k e u r) c.branch_if.ensures.flow c.branch_if.ensures.told
