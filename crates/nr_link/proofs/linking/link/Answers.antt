use Rattle.std.proofs.Common.{◌∙◌}
use Rattle.std.proofs.lemmas.Result.{err_from_is_err_and}
use Rattle.nr_link.proofs.LinkedPrograms.{facts_at, links_at, only_at, only_memory}
use Rattle.nr_link.proofs.linking.link.Goals as goal

pub returns-in_err-link_tables-clause-only : goal.returns-in_err-link_tables-clause-only
returns-in_err-link_tables-clause-only c = λ P given.
    let p = err_from_is_err_and c.from_residual.result c.from_residual.ensures.1 in
    rw (p.1, p.2) (only_memory c.args.classes c.requires.readable _ P c.in_err-link_tables.ensures.fault given)

pub new-requires : goal.new-requires
new-requires c = facts_at c.args.classes c.in_ok-link_tables.field-0 c.requires.readable c.in_ok-link_tables.ensures.fault c.in_ok-link_tables.ensures.tables

pub returns-clause-linked : goal.returns-clause-linked
returns-clause-linked c =
    links_at c.args.classes c.new.result c.requires.readable c.in_ok-link_tables.ensures.fault (c.new.ensures ∙ c.in_ok-link_tables.ensures.tables)

pub returns-clause-only : goal.returns-clause-only
returns-clause-only c = λ P given. only_at c.args.classes P c.new.result c.requires.readable given (c.new.ensures ∙ c.in_ok-link_tables.ensures.tables)
