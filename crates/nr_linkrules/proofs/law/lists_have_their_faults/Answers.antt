use Rattle.nr_linkrules.proofs.ExampleFaults.{above, lists, members, sites}
use Rattle.nr_linkrules.proofs.law.lists_have_their_faults.Goals as goal

pub returns-clause-lists : goal.returns-clause-lists
returns-clause-lists c = lists

pub returns-clause-above : goal.returns-clause-above
returns-clause-above c = above

pub returns-clause-members : goal.returns-clause-members
returns-clause-members c = members

pub returns-clause-sites : goal.returns-clause-sites
returns-clause-sites c = sites
