use Rattle.std.proofs.Common.{sym}
use Rattle.nr_linked.specs.Programs.{methods_of}
use Rattle.nr_linked.specs.Selection.{can_select}
use Rattle.nr_linked.proofs.Upward.{goes_on, stops}
use Rattle.nr_linked.proofs.program.tables.ProgramTables.selectable_upward.Goals as goal

pub returns-in-Some-selectable_in : goal.returns-in-Some-selectable_in
returns-in-Some-selectable_in c =
    stops (methods_of c.args.self.now) (can_select c.args.self.now c.args.name.now c.args.desc.now) c.in-Some.class _ _ _ c.in-Some-selectable_in.method
    c.in-Some.ensures.steps (sym c.in-Some-selectable_in.ensures) c.loop-class.invariant.2

pub loop-class-preserved : goal.loop-class-preserved
loop-class-preserved c = (
  tt,
  tt,
  goes_on (methods_of c.args.self.now) (can_select c.args.self.now c.args.name.now c.args.desc.now) c.in-Some.class _ _ _
      c.in-Some.ensures.steps (sym c.in_default.ensures) c.loop-class.invariant.2,
)
