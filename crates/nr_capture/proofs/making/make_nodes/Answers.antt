use Rattle.std.proofs.Common.{◌≡◌, ◌++◌, ◌∷◌, [], arith, subst, length}
use Rattle.std.specs.Prelude.{IsOk}
use Rattle.nr_capture.specs.Making.{HasMadeOf}
use Rattle.nr_capture.proofs.MadeNodes.{made_more, name_pushed, names_long, room_next, taken}
use Rattle.nr_capture.proofs.making.make_nodes.Goals as goal

pub loop-node-preserved : goal.loop-node-preserved
loop-node-preserved c =
    let P = c.args.forms.now in
    let h = c.args.heap.now.objects in
    let nodes = c.as_slice-nodes.result.now in
    let i = c.loop-node.node-index in
    let n = c.node-item.result in
    let old = c.loop-node.names in
    let of : HasMadeOf c.loop-node.heap c.make-name.new.heap c.make-name.result n.kind (length n.slots) =
    subst (HasMadeOf c.loop-node.heap c.make-name.new.heap c.make-name.result n.kind) c.len-len.ensures c.make-name.ensures.made in
    let long = names_long P h c.loop-node.heap.objects old.items nodes i c.loop-node.invariant.made c.loop-node-test.true in
    let ok : IsOk c.push.result = c.push.ensures.succeeds (omega (arith, long, old.ok.0, c.loop-node.invariant.capacity, c.loop-node-test.true)) in
    let push : c.push.new.self.items ≡ old.items ++ c.make-name.result ∷ [] = name_pushed c.push.result old.items c.push.new.self.items c.make-name.result ok c.push.ensures.items in
    record {
      made = made_more P h c.loop-node.heap c.make-name.new.heap old.items c.push.new.self.items _ _ c.make-name.result n c.loop-node.invariant.made of c.make-name.ensures.typed push
          (taken nodes i c.loop-node.heap n c.loop-node.invariant.room c.loop-node-test.true c.node-item.is);
      room = room_next nodes i c.loop-node.heap n c.loop-node.invariant.room c.loop-node-test.true c.node-item.is c.make-name.new.heap c.make-name.result of;
      capacity = omega (arith, c.loop-node.invariant.capacity, c.push.ensures.capacity);
    }
