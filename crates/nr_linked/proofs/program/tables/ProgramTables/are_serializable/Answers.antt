use Rattle.std.proofs.Common.{rules}
use Rattle.std.specs.Prelude.{◌==◌, ◌||◌}
use Rattle.std.proofs.lemmas.Iterator.Consumers.{YieldsList-from_first}
use Rattle.std.proofs.lemmas.Iterator.Search.{all_from_yields_List}
use Rattle.nr_linked.specs.declared.program.built_in.BuiltIn.TheVariants.{Object}
use Rattle.nr_linked.specs.BuiltIns.{built_in}
use Rattle.nr_linked.specs.Programs.{superclasses, upward}
use Rattle.nr_linked.specs.Sendable.{is_serializable}
use Rattle.nr_linked.proofs.program.tables.ProgramTables.are_serializable.Goals as goal

pub returns : goal.returns
returns c =
    all_from_yields_List (λ d. d == built_in c.args.self.now Object || is_serializable c.args.self.now d) c.all.new.self _ c.all.result c.all.ensures.ran
    (YieldsList-from_first (λ x. x) (λ s. upward s.tables.now s.left s.next) {s = c.superclasses.result} (superclasses c.args.self.now c.args.class) c.superclasses.ensures.classes)
    (λ x b q k. search rules)
