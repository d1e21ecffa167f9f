use Rattle.std.proofs.Common.{◌≡◌, ◌<◌, length, take, get_or, subst, sym, ap, ◌∙◌, arith, Some}
use Rattle.std.proofs.lemmas.Option.{slice_get-get_or}
use Rattle.nr_model.specs.Heaps.{EachOnce}
use Rattle.nr_graph.specs.Listing.{Picked, none_picked}
use Rattle.nr_graph.proofs.Listed.{all_at, picked_more}
use Rattle.nr_graph.proofs.linear_map.LinearMap.pick.Goals as goal

pub loop-node-init : goal.loop-node-init
loop-node-init c = subst (Picked c.args.self.now (take 0 c.args.nodes.now)) (sym c.new-picked.ensures) none_picked

pub loop-node-preserved : goal.loop-node-preserved
loop-node-preserved c =
    let names = c.args.self.now in
    let nodes = c.args.nodes.now in
    let k = c.loop-node.node-index in
    let l : k < length nodes = omega arith in
    let within : get_or nodes k 0 < length names = all_at (length names) nodes k c.requires.within l in
    let keys : c.as_slice.result.now ≡ names = c.as_slice.ensures.keys ∙ c.self.view_is in
    let once : EachOnce names = subst EachOnce c.self.view_is c.self.invariant.0 in
    picked_more names nodes c.loop-node.picked c.add.new.self k (get_or c.as_slice.result.now (get_or nodes k 0) 0) once c.requires.rises l
    (slice_get-get_or names (get_or nodes k 0) 0 within ∙ ap (λ xs. Some (get_or xs (get_or nodes k 0) 0)) (sym keys)) c.loop-node.invariant c.in_ok-add.ensures.added
