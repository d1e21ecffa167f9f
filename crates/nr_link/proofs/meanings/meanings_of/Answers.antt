use Rattle.std.proofs.Common.{◌<◌, length, subst, arith}
use Rattle.nr_prog.specs.declared.parts.ClassParts.{ClassParts}
use Rattle.nr_link.proofs.Meant.{means_more}
use Rattle.nr_link.proofs.meanings.meanings_of.Goals as goal

pub loop-place-preserved : goal.loop-place-preserved
loop-place-preserved c =
    means_more c.args.tables.now c.args.class.now.pool c.loop-place.place c.in_ok-text_meaning.field-0 c.loop-place.meanings c.push.new.self
    (subst (λ (p : ClassParts). c.loop-place.place < length p.pool) c.parts.ensures.parts (omega (arith, c.loop-place-test.true, c.len-count.ensures)))
    c.in_ok-text_meaning.ensures.meaning c.in_ok-push.ensures.ok c.loop-place.invariant
