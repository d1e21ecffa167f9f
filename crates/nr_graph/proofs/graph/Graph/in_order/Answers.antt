use Rattle.std.proofs.Common.{rules, length, sym, ◌∙◌, arith}
use Rattle.nr_graph.specs.Graphs.{next_node, root_nodes}
use Rattle.nr_graph.proofs.Ordered.{at_old, at_new, at_wrong, at_end, at_below, next_within, pushed_read, smaller_new, not_so, so_if}
use Rattle.nr_graph.proofs.graph.Graph.in_order.Goals as goal

pub returns-then-node-count : goal.returns-then-node-count
returns-then-node-count c =
    let g = c.args.self.now in
    not_so _ (at_wrong (next_node g) (length g.nodes) (root_nodes g) _ _ c.in-Some.node c.loop-node.count c.loop-node.invariant c.in-Some.ensures.items (omega arith))

pub loop-node-smaller-then-node-count-2 : goal.loop-node-smaller-then-node-count-2
loop-node-smaller-then-node-count-2 c =
    let g = c.args.self.now in
    let below = at_below (next_node g) (length g.nodes) (root_nodes g) _ _ c.in-Some.node c.loop-node.count c.loop-node.invariant c.in-Some.ensures.items in
    let pushed = pushed_read g c.in-Some.node c.index-as_slice-node.result _ _ _ _ below c.as_slice-then-node-count-2.ensures c.as_slice-then-node-count-2-2.ensures c.in_ok-push_nodes.ensures in
    smaller_new (next_node g) (length g.nodes) c.loop-node.count c.in-Some.node _ _ _ c.in-Some.ensures.items (omega arith) below pushed

pub loop-node-preserved-then-node-count-2 : goal.loop-node-preserved-then-node-count-2
loop-node-preserved-then-node-count-2 c =
    let g = c.args.self.now in
    let below = at_below (next_node g) (length g.nodes) (root_nodes g) _ _ c.in-Some.node c.loop-node.count c.loop-node.invariant c.in-Some.ensures.items in
    let pushed = pushed_read g c.in-Some.node c.index-as_slice-node.result _ _ _ _ below c.as_slice-then-node-count-2.ensures c.as_slice-then-node-count-2-2.ensures c.in_ok-push_nodes.ensures in
    at_new (next_node g) (length g.nodes) (root_nodes g) _ _ _ c.in-Some.node c.loop-node.count c.loop-node.invariant c.in-Some.ensures.items (omega arith)
    (next_within g c.in-Some.node c.index-as_slice-node.result c.requires below) pushed

pub loop-node-preserved : goal.loop-node-preserved
loop-node-preserved c =
    let g = c.args.self.now in
    at_old (next_node g) (length g.nodes) (root_nodes g) _ _ c.in-Some.node c.loop-node.count c.loop-node.invariant c.in-Some.ensures.items (omega arith)

pub returns : goal.returns
returns c =
    let g = c.args.self.now in
    let end = at_end (next_node g) (length g.nodes) (root_nodes g) _ c.loop-node.count c.loop-node.invariant (search rules) in
    so_if c.loop-node.count c.len.result _ ((λ e. end.0 (e ∙ c.len.ensures)), (λ w. end.1 w ∙ sym c.len.ensures))
