use Rattle.std.proofs.Common.{rules, refl, sym, ap, find, ◌∙◌}
use Rattle.std.proofs.lemmas.Iterator.{YieldsList-from_range}
use Rattle.std.proofs.lemmas.Iterator.Search.{find_from_yields_List}
use Rattle.nr_linked.specs.Selection.{can_select}
use Rattle.nr_linked.proofs.Upward.{option_itself}
use Rattle.nr_linked.proofs.program.tables.ProgramTables.selectable_in.Goals as goal

pub returns : goal.returns
returns c =
    sym (option_itself c.find.result)
    ∙ find_from_yields_List (can_select c.args.self.now c.args.name.now c.args.desc.now) _ _ c.find.result c.find.ensures.ran
    (YieldsList-from_range c.methods_of-start.result.start c.methods_of-start.result.end _ refl refl) (λ x b q k. search rules)
    ∙ ap (find (can_select c.args.self.now c.args.name.now c.args.desc.now)) c.methods_of-start.ensures
