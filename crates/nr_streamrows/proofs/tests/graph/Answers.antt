use Rattle.nr_streamrows.proofs.Spellable.{one_node, spellable}
use Rattle.nr_streamrows.proofs.tests.graph.Goals as goal

pub returns : goal.returns
returns c = λ p.
    spellable p c.args.n c.args.nulls _ c.requires
    (one_node c.push.new.self c.new-nodes.result c.args.n c.in_ok-slots.slots c.in_ok-push.ensures.ok c.new-nodes.ensures c.in_ok-slots.ensures) c.in_ok-roots.ensures
