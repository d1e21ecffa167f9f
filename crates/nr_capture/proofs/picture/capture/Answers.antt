use Rattle.nr_graph.specs.Pictures.{next_in}
use Rattle.nr_graph.proofs.Walks.{all_met}
use Rattle.nr_capture.specs.Roots.{root_values}
use Rattle.nr_capture.proofs.Fits.{is_picture, is_spellable}
use Rattle.nr_capture.proofs.picture.capture.Goals as goal

pub nodes_of-requires-clause-walked : goal.nodes_of-requires-clause-walked
nodes_of-requires-clause-walked c = (root_values c.args.roots.now, c.in_ok-names.ensures.walked)

pub roots_of-requires : goal.roots_of-requires
roots_of-requires c = all_met (next_in c.args.forms.now c.args.heap.now.objects) c.in_ok-names.ensures.walked.order

pub returns-clause-picture : goal.returns-clause-picture
returns-clause-picture c =
    is_picture c.args.forms.now c.args.heap.now.objects (root_values c.args.roots.now) _ _ c.in_ok-names.ensures.walked c.in_ok-nodes.ensures c.in_ok-roots.ensures

pub returns-clause-spellable : goal.returns-clause-spellable
returns-clause-spellable c =
    is_spellable c.args.forms.now c.args.heap.now.objects (root_values c.args.roots.now) _ _ c.in_ok-names.ensures.walked c.in_ok-nodes.ensures c.in_ok-roots.ensures c.requires.typed c.cells.ensures.few
