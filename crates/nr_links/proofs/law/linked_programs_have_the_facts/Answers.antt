use Rattle.nr_links.proofs.Facts.{program_facts}
use Rattle.nr_links.proofs.law.linked_programs_have_the_facts.Goals as goal

pub returns-clause-facts : goal.returns-clause-facts
returns-clause-facts c = λ classes P all links. program_facts classes P links all
