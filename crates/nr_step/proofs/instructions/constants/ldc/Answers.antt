use Rattle.nr_model.specs.Scripts.{PlainInt, PlainLong, Push}
use Rattle.std.proofs.Common.{length, subst, SFits, rules, w32, w64}
use Rattle.std.proofs.lemmas.Int.{to_z-of_z}
use Rattle.nr_step.specs.Windows.{Leads, window}
use Rattle.nr_step.proofs.ConstantRules.{push_fits, pushed}
use Rattle.nr_step.proofs.Returning.{pool_rule_int, pool_rule_long, pool_there}
use Rattle.nr_step.proofs.Rows.{go_on_by}
use Rattle.nr_step.proofs.instructions.constants.ldc.Goals as goal

pub unreachable-requires : goal.unreachable-requires
unreachable-requires c =
    let can = c.requires.can in
    pool_there can.0 can.1 c.args.i.now c.args.found.now c.args.code (window can.2 can.3 c.args.stack.now c.args.depth.now) (length c.args.stack.now) c.requires.row c.requires.code can.4 c.in_default.not-Int c.in_default.not-Long

pub int_constant-requires : goal.int_constant-requires
int_constant-requires c =
    let can = c.requires.can in
    record { room = push_fits can.0 can.1 c.args.i.now c.args.found.now can.2 can.3 c.args.stack.now c.args.depth.now (Push (PlainInt c.in-Int.n)) (pool_rule_int can.0 can.1 c.args.i.now c.args.found.now c.args.code c.in-Int.n c.requires.row c.requires.code c.in-Int.is) (pushed (PlainInt c.in-Int.n) (window can.2 can.3 c.args.stack.now c.args.depth.now)) can.4 }

pub returns-in-Int-clause-went : goal.returns-in-Int-clause-went
returns-in-Int-clause-went c = λ told P own h ls.
    let fits : SFits w32 c.in-Int.n = search rules in
    go_on_by P own c.args.i.now c.args.found.now (window h ls c.args.stack.now c.args.depth.now) (window h ls c.int_constant.new.stack c.int_constant.new.depth) (Push (PlainInt c.in-Int.n)) (pool_rule_int P own c.args.i.now c.args.found.now c.args.code c.in-Int.n c.requires.row c.requires.code c.in-Int.is) (subst (λ n. Leads (Push (PlainInt n)) (window h ls c.args.stack.now c.args.depth.now) (window h ls c.int_constant.new.stack c.int_constant.new.depth)) (to_z-of_z w32 c.in-Int.n fits) (c.int_constant.ensures.leads h ls))

pub long_constant-requires : goal.long_constant-requires
long_constant-requires c =
    let can = c.requires.can in
    record { room = push_fits can.0 can.1 c.args.i.now c.args.found.now can.2 can.3 c.args.stack.now c.args.depth.now (Push (PlainLong c.in-Long.n)) (pool_rule_long can.0 can.1 c.args.i.now c.args.found.now c.args.code c.in-Long.n c.requires.row c.requires.code c.in-Long.is) (pushed (PlainLong c.in-Long.n) (window can.2 can.3 c.args.stack.now c.args.depth.now)) can.4 }

pub returns-in-Long-clause-went : goal.returns-in-Long-clause-went
returns-in-Long-clause-went c = λ told P own h ls.
    let fits : SFits w64 c.in-Long.n = search rules in
    go_on_by P own c.args.i.now c.args.found.now (window h ls c.args.stack.now c.args.depth.now) (window h ls c.long_constant.new.stack c.long_constant.new.depth) (Push (PlainLong c.in-Long.n)) (pool_rule_long P own c.args.i.now c.args.found.now c.args.code c.in-Long.n c.requires.row c.requires.code c.in-Long.is) (subst (λ n. Leads (Push (PlainLong n)) (window h ls c.args.stack.now c.args.depth.now) (window h ls c.long_constant.new.stack c.long_constant.new.depth)) (to_z-of_z w64 c.in-Long.n fits) (c.long_constant.ensures.leads h ls))
