use Rattle.std.proofs.Common.{ap}
use Rattle.nr_graph.proofs.Pictured.{picture}
use Rattle.nr_capture.specs.Planting.{names_of_roots}
use Rattle.nr_capture.specs.Roots.{root_values}
use Rattle.nr_capture.proofs.PlantedGraphs.{adds_by, planted_by}
use Rattle.nr_capture.proofs.planting.plant.Goals as goal

pub returns-clause-pictured : goal.returns-clause-pictured
returns-clause-pictured c =
    planted_by c.args.forms.now c.fill_nodes.new.heap.objects c.as_slice.result.now c.make_nodes.new.names.items c.args.graph.now c.as_slice.ensures.value c.requires.fits c.make_nodes.ensures.adds.distinct
    c.fill_nodes.ensures.filled

pub returns-clause-picture : goal.returns-clause-picture
returns-clause-picture c = λ order.
    picture c.args.forms.now c.fill_nodes.new.heap.objects (root_values (names_of_roots c.make_nodes.new.names.items c.args.graph.now.roots)) c.make_nodes.new.names.items c.args.graph.now order
    (planted_by c.args.forms.now c.fill_nodes.new.heap.objects c.as_slice.result.now c.make_nodes.new.names.items c.args.graph.now c.as_slice.ensures.value c.requires.fits c.make_nodes.ensures.adds.distinct
    c.fill_nodes.ensures.filled)

pub returns-clause-adds : goal.returns-clause-adds
returns-clause-adds c =
    adds_by c.args.heap.now.objects c.reserve.new.self.objects c.make_nodes.new.heap.objects c.fill_nodes.new.heap.objects c.as_slice.result.now c.make_nodes.new.names.items c.as_slice.ensures.value
    (ap (λ h. h.objects) c.in_ok-reserve.ensures.ok) c.make_nodes.ensures.adds c.fill_nodes.ensures.others
