use Rattle.nr_model.specs.PairedCalls.{ListedOrArgs}
use Rattle.nr_model.specs.Pairs.{Listed, StartOf}
use Rattle.nr_model.proofs.PairedCalls.{args_match}
use Rattle.nr_graph.proofs.Starts.{graphs_pair}
use Rattle.nr_graph.proofs.law.pair.paired_heaps_show_one_graph.Goals as goal

pub returns-clause-heaps : goal.returns-clause-heaps
returns-clause-heaps c = λ p pairs h k us vs names g paired like pic. graphs_pair p (Listed pairs) h k paired us vs like names g pic

pub returns-clause-states : goal.returns-clause-states
returns-clause-states c = λ p pairs s t us vs names g paired like pic. graphs_pair p (StartOf pairs s t) s.heap t.heap paired.heaps us vs like names g pic

pub returns-clause-calls : goal.returns-clause-calls
returns-clause-calls c = λ p pairs h k us vs names g paired pic.
    graphs_pair p (ListedOrArgs pairs us vs) h k paired.heaps us vs (args_match pairs h k us vs paired) names g pic
