use Rattle.nr_answers.proofs.Rounds.{first_said, given_at_once, given_in_time, round_more}
use Rattle.nr_answers.proofs.law.round.rounds_give_their_answers.Goals as goal

pub returns-clause-first : goal.returns-clause-first
returns-clause-first c = first_said

pub returns-clause-turned : goal.returns-clause-turned
returns-clause-turned c = given_in_time

pub returns-clause-at_once : goal.returns-clause-at_once
returns-clause-at_once c = given_at_once

pub returns-clause-later : goal.returns-clause-later
returns-clause-later c = round_more
