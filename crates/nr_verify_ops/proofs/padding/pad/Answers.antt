use Rattle.std.proofs.Common.{◌∙◌, sym, ap, arith}
use Rattle.nr_linked.specs.TypingFrames.{padded}
use Rattle.nr_types.proofs.Padding.{padded_more, padded_enough}
use Rattle.nr_verify_ops.proofs.padding.pad.Goals as goal

pub loop-listed-preserved : goal.loop-listed-preserved
loop-listed-preserved c =
    c.loop-listed.invariant ∙ (padded_more c.args.places c.loop-listed.listed.items (omega arith) ∙ sym (ap (λ ts. padded c.args.places ts) c.in_ok-push.ensures.items))

pub returns : goal.returns
returns c = sym (c.loop-listed.invariant ∙ padded_enough c.args.places c.loop-listed.listed.items (omega arith))
