use Rattle.std.proofs.Common.{rules}
use Rattle.std.proofs.lemmas.Iterator.Consumers.{YieldsList-from_first}
use Rattle.std.proofs.lemmas.Iterator.Search.{any_from_yields_List}
use Rattle.nr_linked.specs.Programs.{superclasses, upward}
use Rattle.nr_linked.specs.Sendable.{is_serial_class}
use Rattle.nr_linked.proofs.program.tables.ProgramTables.has_serial_class.Goals as goal

pub returns : goal.returns
returns c =
    any_from_yields_List (is_serial_class c.args.self.now) c.any.new.self _ c.any.result c.any.ensures.ran
    (YieldsList-from_first (λ x. x) (λ s. upward s.tables.now s.left s.next) {s = c.superclasses.result} (superclasses c.args.self.now c.args.class) c.superclasses.ensures.classes)
    (λ x b q k. search rules)
