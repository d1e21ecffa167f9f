use Rattle.std.proofs.Common.{◌≡◌, ◌++◌, ◌∷◌, [], length, rules, refl, arith}
use Rattle.nr_serread.specs.Working.{left_due, state_by, graph_of}
use Rattle.nr_serread.proofs.Below.{opened_below}
use Rattle.nr_serread.proofs.Opening.{pushed_due, opened_is}
use Rattle.nr_serread.proofs.work.open_node.Goals as goal

pub returns-clause-opens : goal.returns-clause-opens
returns-clause-opens c = λ any roots p.
    opened_is c.args.due c.args.start c.args.count c.args.kind (left_due (length c.args.w.now.nodes.items) c.args.left) _ (state_by c.args.w.now any roots) (graph_of c.keep.new.w) c.push.new.self.items c.keep.new.w.cells _ _ p
    c.if-count-w.false (search rules) (search rules) (search rules) (search rules) (pushed_due c.args.w.now.frames.items c.keep.new.w.frames.items c.push-2.new.self.items (record { node = length c.args.w.now.nodes.items; left = c.args.left }) roots (search rules) (search rules))

pub returns-clause-fits : goal.returns-clause-fits
returns-clause-fits c = record {
  nodes = search rules;
  cells = search rules;
  objects = opened_below (length c.args.w.now.nodes.items) (length c.push.new.self.items) c.args.w.now.handles c.give.new.self (search rules) (search rules) c.requires.objects;
}
