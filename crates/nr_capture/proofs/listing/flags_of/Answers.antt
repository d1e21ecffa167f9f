use Rattle.std.proofs.Common.{rules, ◌<◌, ◌∙◌, ap, false, true, length, refl, replicate, slice_set, subst, sym, arith}
use Rattle.nr_graph.proofs.Ordered.{next_within, pushed_read}
use Rattle.nr_capture.proofs.Spreads.{at_end, at_new, at_old, at_start, flag_off, flag_read, smaller_new, top_below}
use Rattle.nr_capture.proofs.listing.flags_of.Goals as goal

pub loop-node-init : goal.loop-node-init
loop-node-init c =
    at_start c.args.program.now c.args.graph.now c.requires c.in_ok-stack.stack.items c.in_ok-flags.flags.items c.in_ok-stack.ensures
    (c.in_ok-flags.ensures ∙ ap (λ n. replicate n false) c.len.ensures)

pub index-requires : goal.index-requires
index-requires c =
    let low = top_below c.args.program.now c.args.graph.now c.requires c.loop-node.stack.items _ c.in-Some.node c.loop-node.flags.items c.loop-node.invariant c.in-Some.ensures.items in
    omega (arith, low, c.loop-node.invariant.count, c.loop-node.flags.ok.0)

pub index_mut-requires : goal.index_mut-requires
index_mut-requires c =
    let low = top_below c.args.program.now c.args.graph.now c.requires c.loop-node.stack.items _ c.in-Some.node c.loop-node.flags.items c.loop-node.invariant c.in-Some.ensures.items in
    omega (arith, low, c.loop-node.invariant.count, c.loop-node.flags.ok.0)

pub bounds-nodes-node : goal.bounds-nodes-node
bounds-nodes-node c =
    let low = top_below c.args.program.now c.args.graph.now c.requires c.loop-node.stack.items _ c.in-Some.node c.loop-node.flags.items c.loop-node.invariant c.in-Some.ensures.items in
    subst (λ ns. c.in-Some.node < length ns) (sym c.as_slice-nodes.ensures) low

pub loop-node-preserved-then-index : goal.loop-node-preserved-then-index
loop-node-preserved-then-index c =
    let g = c.args.graph.now in
    let low = top_below c.args.program.now g c.requires c.loop-node.stack.items _ c.in-Some.node c.loop-node.flags.items c.loop-node.invariant c.in-Some.ensures.items in
    let there : c.in-Some.node < length c.loop-node.flags.items = omega (arith, low, c.loop-node.invariant.count) in
    at_old c.args.program.now g c.requires c.loop-node.stack.items _ c.in-Some.node c.loop-node.flags.items c.loop-node.invariant c.in-Some.ensures.items
    (flag_read c.loop-node.flags.items c.in-Some.node c.index.result.now true there c.index.ensures c.if-index.true)

pub loop-node-smaller : goal.loop-node-smaller
loop-node-smaller c =
    let g = c.args.graph.now in
    let low = top_below c.args.program.now g c.requires c.loop-node.stack.items _ c.in-Some.node c.loop-node.flags.items c.loop-node.invariant c.in-Some.ensures.items in
    let there : c.in-Some.node < length c.loop-node.flags.items = omega (arith, low, c.loop-node.invariant.count) in
    let off = flag_off c.loop-node.flags.items c.in-Some.node there (flag_read c.loop-node.flags.items c.in-Some.node c.index.result.now false there c.index.ensures c.if-index.false) in
    smaller_new g c.in-Some.node c.loop-node.flags.items (slice_set c.loop-node.flags.items c.in-Some.node true) c.loop-node.stack.items _ c.push_nodes.new.stack.items c.in-Some.ensures.items
    c.loop-node.invariant.count low off refl
    (pushed_read g c.in-Some.node c.index-nodes-node.result _ _ _ _ low c.as_slice-nodes.ensures c.as_slice.ensures c.in_ok-push_nodes.ensures)

pub loop-node-preserved : goal.loop-node-preserved
loop-node-preserved c =
    let g = c.args.graph.now in
    let low = top_below c.args.program.now g c.requires c.loop-node.stack.items _ c.in-Some.node c.loop-node.flags.items c.loop-node.invariant c.in-Some.ensures.items in
    at_new c.args.program.now g c.requires c.loop-node.stack.items _ c.in-Some.node c.loop-node.flags.items c.loop-node.invariant c.in-Some.ensures.items
    c.push_nodes.new.stack.items (slice_set c.loop-node.flags.items c.in-Some.node true) refl
    (pushed_read g c.in-Some.node c.index-nodes-node.result _ _ _ _ low c.as_slice-nodes.ensures c.as_slice.ensures c.in_ok-push_nodes.ensures)
    (next_within g c.in-Some.node c.index-nodes-node.result c.requires low)

pub returns : goal.returns
returns c = at_end c.args.program.now c.args.graph.now c.requires c.loop-node.stack.items c.loop-node.flags.items c.loop-node.invariant (search rules)
