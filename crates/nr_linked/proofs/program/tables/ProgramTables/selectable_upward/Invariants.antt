use Rattle.std.proofs.Common.{◌≡◌, find}
use Rattle.std.specs.List.{flat_map}
use Rattle.nr_linked.specs.Programs.{methods_of, upward}
use Rattle.nr_linked.specs.Selection.{can_select, methods_upward}
use Rattle.nr_linked.proofs.program.tables.ProgramTables.selectable_upward.Given as goal

abbrev pub invariant-loop-class : goal.invariant-loop-class
invariant-loop-class l =
    (goal.iterator-loop-class).can_next l.class-iterator ×
    (goal.iterator-loop-class).is_finite l.class-iterator ×
    (find (can_select l.self l.name l.desc) (flat_map (methods_of l.self) (upward l.class-iterator.tables.now l.class-iterator.left l.class-iterator.next))
    ≡ find (can_select l.self l.name l.desc) (methods_upward l.self l.fn.class))
