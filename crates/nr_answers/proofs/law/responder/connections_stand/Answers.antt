use Rattle.nr_answers.proofs.Starts.{can_at_start, stands_at_start}
use Rattle.nr_answers.proofs.Standing.{part_said, part_sent, part_unfed, quiet_whole, stands_fed, stands_on}
use Rattle.nr_answers.proofs.law.responder.connections_stand.Goals as goal

pub returns-clause-start : goal.returns-clause-start
returns-clause-start c = stands_at_start

pub returns-clause-can : goal.returns-clause-can
returns-clause-can c = can_at_start

pub returns-clause-given : goal.returns-clause-given
returns-clause-given c = stands_on

pub returns-clause-fed : goal.returns-clause-fed
returns-clause-fed c = stands_fed

pub returns-clause-part : goal.returns-clause-part
returns-clause-part c = part_said

pub returns-clause-unfed : goal.returns-clause-unfed
returns-clause-unfed c = part_unfed

pub returns-clause-half : goal.returns-clause-half
returns-clause-half c = part_sent

pub returns-clause-whole : goal.returns-clause-whole
returns-clause-whole c = quiet_whole
