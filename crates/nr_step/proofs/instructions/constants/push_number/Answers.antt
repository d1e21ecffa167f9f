use Rattle.nr_model.specs.Scripts.{PlainInt, Push}
use Rattle.std.proofs.Common.{subst, SFits, rules, w32}
use Rattle.std.proofs.lemmas.Int.{to_z-of_z}
use Rattle.nr_step.specs.Windows.{Leads, window}
use Rattle.nr_step.proofs.ConstantRules.{push_fits, pushed}
use Rattle.nr_step.proofs.Returning.{number_rule, number_there}
use Rattle.nr_step.proofs.Rows.{go_on_by}
use Rattle.nr_step.proofs.instructions.constants.push_number.Goals as goal

pub unreachable-requires : goal.unreachable-requires
unreachable-requires c = let a = number_there c.args.code c.args.i.now c.requires.row c.requires.code c.requires.shaped in c.in_default.not-Num a.0 a.1

pub int_constant-requires : goal.int_constant-requires
int_constant-requires c =
    let can = c.requires.can in
    record { room = push_fits can.0 can.1 c.args.i.now can.2 can.3 can.4 c.args.stack.now c.args.depth.now (Push (PlainInt c.in-Num.n)) (number_rule can.0 can.1 c.args.i.now can.2 c.args.code c.in-Num.n c.requires.row c.requires.code c.in-Num.is) (pushed (PlainInt c.in-Num.n) (window can.3 can.4 c.args.stack.now c.args.depth.now)) can.5 }

pub returns-clause-went : goal.returns-clause-went
returns-clause-went c = λ told P own found h ls.
    let fits : SFits w32 c.in-Num.n = search rules in
    go_on_by P own c.args.i.now found (window h ls c.args.stack.now c.args.depth.now) (window h ls c.int_constant.new.stack c.int_constant.new.depth) (Push (PlainInt c.in-Num.n)) (number_rule P own c.args.i.now found c.args.code c.in-Num.n c.requires.row c.requires.code c.in-Num.is) (subst (λ n. Leads (Push (PlainInt n)) (window h ls c.args.stack.now c.args.depth.now) (window h ls c.int_constant.new.stack c.int_constant.new.depth)) (to_z-of_z w32 c.in-Num.n fits) (c.int_constant.ensures.leads h ls))
