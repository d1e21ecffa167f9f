use Rattle.nr_capture.proofs.Nodes.{none_drawn_root, some_drawn_root}
use Rattle.nr_capture.proofs.drawing.root_of.Goals as goal

pub returns-in-Some : goal.returns-in-Some
returns-in-Some c = some_drawn_root c.args.names.now c.args.root c.in-Some.name _ c.in-Some.is c.place_of.ensures

pub returns-in-None : goal.returns-in-None
returns-in-None c = none_drawn_root c.args.names.now c.args.root c.in-None.is
