use Rattle.nr_graph.proofs.StreamPlaces.{kinds_agree}
use Rattle.nr_graph.proofs.StreamSlots.{each_once, stream_long}
use Rattle.nr_graph.proofs.law.stream.streams_have_each_slot_once.Goals as goal

pub returns-clause-once : goal.returns-clause-once
returns-clause-once c = λ p d i linked l. each_once p linked d i l

pub returns-clause-long : goal.returns-clause-long
returns-clause-long c = λ p d linked. stream_long p linked d

pub returns-clause-kinds : goal.returns-clause-kinds
returns-clause-kinds c = λ p d k i e. kinds_agree p d k i e
