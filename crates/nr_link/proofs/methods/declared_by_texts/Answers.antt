use Rattle.std.proofs.Common.{rules, refl, sym, ap, find, ◌∙◌}
use Rattle.std.proofs.lemmas.Iterator.{YieldsList-from_range}
use Rattle.std.proofs.lemmas.Iterator.Search.{find_from_yields_List}
use Rattle.nr_links.specs.Resolution.{is_called_at}
use Rattle.nr_linked.proofs.Upward.{option_itself}
use Rattle.nr_link.proofs.methods.declared_by_texts.Goals as goal

pub returns : goal.returns
returns c =
    sym (option_itself c.find.result)
    ∙ find_from_yields_List (is_called_at c.args.tables.now c.args.name.now c.args.desc.now) _ _ c.find.result c.find.ensures.ran
    (YieldsList-from_range c.methods_of-start.result.start c.methods_of-start.result.end _ refl refl) (λ x b q k. search rules)
    ∙ ap (find (is_called_at c.args.tables.now c.args.name.now c.args.desc.now)) c.methods_of-start.ensures
