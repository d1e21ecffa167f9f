use Rattle.std.proofs.Common.{Some, map, ap, sym, ◌∙◌, arith}
use Rattle.nr_outside.specs.Link.{link_to_come, connection_of}
use Rattle.std.proofs.lemmas.List.{length-map}
use Rattle.nr_outside.proofs.Sent.{sent_past, sent_live}
use Rattle.nr_outside.proofs.wire.mem.MemWire.sent.Goals as goal

pub returns-then-connection-len : goal.returns-then-connection-len
returns-then-connection-len c =
    let w = c.args.self.now in
    sent_past w.opened w.past.items w.live.sent.items w.live.given.items (link_to_come w.live) c.args.connection c.index.result.now (omega arith) c.index.ensures
    ∙ ap (λ xs. Some xs) (sym c.deref.ensures.value)

pub returns-else-connection-len : goal.returns-else-connection-len
returns-else-connection-len c =
    let w = c.args.self.now in
    let past = map connection_of w.past.items in
    sent_live w.opened past w.live.sent.items w.live.given.items (link_to_come w.live) c.args.connection c.requires (simp length-map (omega arith))
    ∙ ap (λ xs. Some xs) (sym c.deref-else-connection-len.ensures.value)
