use Rattle.nr_prog.proofs.Offsets.{spelled_stand}
use Rattle.nr_typed.proofs.Unique.{one_frames, one_standing}
use Rattle.nr_typed.proofs.law.typing.frames_are_unique.Goals as goal

pub returns-clause-frames : goal.returns-clause-frames
returns-clause-frames c = λ p n m body facts ordered first second e f. one_frames p facts ordered first second n m body e f

pub returns-clause-standing : goal.returns-clause-standing
returns-clause-standing c = λ p result s facts ordered first second st. one_standing p facts ordered first second result s st

pub returns-clause-spelled : goal.returns-clause-spelled
returns-clause-spelled c = λ pool is text some e. spelled_stand pool is text some e
