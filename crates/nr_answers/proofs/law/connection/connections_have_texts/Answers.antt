use Rattle.nr_answers.proofs.Frames.{bytes_have_frames, connections_have_texts}
use Rattle.nr_answers.proofs.Saying.{something_is_said}
use Rattle.nr_answers.proofs.law.connection.connections_have_texts.Goals as goal

pub returns-clause-framed : goal.returns-clause-framed
returns-clause-framed c = bytes_have_frames

pub returns-clause-said : goal.returns-clause-said
returns-clause-said c = something_is_said

pub returns-clause-answered : goal.returns-clause-answered
returns-clause-answered c = connections_have_texts
