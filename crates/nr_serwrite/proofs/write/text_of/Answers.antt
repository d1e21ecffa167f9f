use Rattle.std.proofs.Common.{refl, sym, subst, ◌∙◌}
use Rattle.nr_serform.specs.Streams.{IsCanonical}
use Rattle.nr_serwrite.specs.declared.work.Frame.{Frame}
use Rattle.nr_serwrite.specs.declared.work.Kinds.TheVariants.{Elements}
use Rattle.nr_serwrite.proofs.Streams.{roots_mapped}
use Rattle.nr_serwrite.proofs.Turns.{stream_begins, stream_ends}
use Rattle.nr_serwrite.proofs.write.text_of.Goals as goal

pub put_open-requires-clause-next : goal.put_open-requires-clause-next
put_open-requires-clause-next c =
    let frame : Frame = record { kinds = Elements c.root_kind.result; slots = c.args.roots } in
    stream_begins c.args.forms.now c.args.graph.now frame c.root_kind.result c.args.roots.now c.new-3.result.items c.push.new.self.items c.new-2.result c.requires.spellable refl c.root_kind.ensures
    (c.requires.roots ∙ roots_mapped c.args.graph.now.roots) c.new-3.ensures.items c.in_ok-push.ensures.items c.new-2.ensures

pub returns : goal.returns
returns c =
    let frame : Frame = record { kinds = Elements c.root_kind.result; slots = c.args.roots } in
    let made = stream_ends c.args.forms.now c.args.graph.now frame c.root_kind.result c.args.roots.now c.new-3.result.items c.push.new.self.items c.put_open.new.w.frames.items c.new-2.result
    c.put_open.new.w.handles c.new.result c.bytes.new.self c.put_open.new.w.out c.requires.spellable refl c.root_kind.ensures (c.requires.roots ∙ roots_mapped c.args.graph.now.roots) c.new-3.ensures.items c.in_ok-push.ensures.items
    c.new-2.ensures c.new.ensures c.in_ok-bytes.ensures.ok c.in_ok-put_open.ensures.closed c.in_ok-put_open.ensures.step in
    subst (λ z. IsCanonical c.args.forms.now z c.args.graph.now) (sym c.done.ensures) made
