use Rattle.std.proofs.Common.{◌∙◌, sym, refl}
use Rattle.nr_step.specs.Windows.{top_first, window}
use Rattle.nr_step.proofs.SpecialCalls.{itself_called, itself_dropped, itself_thrown}
use Rattle.nr_step.proofs.instructions.direct_calls.call_itself.Goals as goal

pub returns-then-is_some-clause-went : goal.returns-then-is_some-clause-went
returns-then-is_some-clause-went c = λ ls S same.
    (refl, itself_called c.args.p.now S c.args.method c.args.info.now (window c.args.heap.now.objects ls c.args.stack.now c.args.depth.now) same c.requires.info (sym c.is_some.ensures ∙ c.if-is_some.true))

pub returns-then-is_built_in_init-clause-went : goal.returns-then-is_built_in_init-clause-went
returns-then-is_built_in_init-clause-went c = λ ls S same.
    let b = sym c.is_some.ensures ∙ c.if-is_some.false in
    itself_dropped c.args.p.now S c.args.method c.args.info.now c.args.heap.now.objects ls (top_first c.args.stack.now c.args.depth.now) (top_first c.args.stack.now c.pop.new.depth) c.pop.result same c.requires.info b (c.requires.not_out b)
    (sym c.is_built_in_init.ensures ∙ c.if-is_built_in_init.true) c.pop.ensures.popped

pub returns-clause-went : goal.returns-clause-went
returns-clause-went c = λ ls S same.
    let b = sym c.is_some.ensures ∙ c.if-is_some.false in
    itself_thrown c.throw_object.result c.args.p.now S c.args.method c.args.info.now c.args.heap.now.objects c.throw_object.new.heap.objects ls (top_first c.args.stack.now c.args.depth.now) c.throw_object.new.told same c.requires.info b (c.requires.not_out b)
    (sym c.is_built_in_init.ensures ∙ c.if-is_built_in_init.false) c.throw_object.ensures
