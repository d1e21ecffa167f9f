use Rattle.std.proofs.Common.{◌∷◌, ◌∙◌, ap, List, of_z, to_z, w64, SFits, rules}
use Rattle.nr_optable.specs.Operations.{long_division}
use Rattle.nr_model.specs.declared.value.Value.{Value}
use Rattle.nr_model.specs.declared.value.Value.TheVariants.{Long}
use Rattle.nr_step.specs.Instructions.{doing}
use Rattle.nr_step.specs.Windows.{top_first, window}
use Rattle.nr_step.proofs.Divisions.{long_begun, long_leads, long_rule, long_tops, long_zero, next_long, of_longs, popped_long, quotient, what, zero_w64}
use Rattle.nr_step.proofs.Rows.{go_on_by}
use Rattle.nr_step.proofs.instructions.divisions.long_divided.Goals as goal

pub top_long-y-requires-clause-some : goal.top_long-y-requires-clause-some
top_long-y-requires-clause-some c =
    let f = what (long_division c.args.code) c.requires.code in
    long_tops c.args.p.now f.0 c.args.heap.now.objects c.requires.can.2 (top_first c.args.stack.now c.args.depth.now)
    (long_begun c.args.p.now c.args.i.now c.args.code c.args.heap.now.objects c.args.stack.now c.args.depth.now f.0 c.requires.row f.1 c.requires.can)

pub returns-then-y-eq0-clause-went : goal.returns-then-y-eq0-clause-went
returns-then-y-eq0-clause-went c = λ own found ls.
    let f = what (long_division c.args.code) c.requires.code in
    long_zero c.throw_object.result c.args.p.now f.0 (doing c.args.p.now own c.args.i.now found) c.args.heap.now.objects c.throw_object.new.heap.objects ls c.requires.can.2 (top_first c.args.stack.now c.args.depth.now) c.top_long-y.result c.throw_object.new.told
    (long_begun c.args.p.now c.args.i.now c.args.code c.args.heap.now.objects c.args.stack.now c.args.depth.now f.0 c.requires.row f.1 c.requires.can)
    c.top_long-y.ensures (zero_w64 c.top_long-y.result c.if-y-eq0.true c.top_long-y.type_inv) (long_rule c.args.p.now own c.args.i.now found c.args.code f.0 c.requires.row f.1) c.throw_object.ensures

pub pop_long-requires-clause-some : goal.pop_long-requires-clause-some
pop_long-requires-clause-some c =
    let f = what (long_division c.args.code) c.requires.code in
    long_tops c.args.p.now f.0 c.args.heap.now.objects c.requires.can.2 (top_first c.args.stack.now c.args.depth.now)
    (long_begun c.args.p.now c.args.i.now c.args.code c.args.heap.now.objects c.args.stack.now c.args.depth.now f.0 c.requires.row f.1 c.requires.can)

pub pop_long-x-requires-clause-some : goal.pop_long-x-requires-clause-some
pop_long-x-requires-clause-some c =
    let f = what (long_division c.args.code) c.requires.code in
    next_long c.args.p.now f.0 c.args.heap.now.objects c.requires.can.2 (top_first c.args.stack.now c.args.depth.now) (top_first c.args.stack.now c.pop_long.new.depth) c.pop_long.result
    (long_begun c.args.p.now c.args.i.now c.args.code c.args.heap.now.objects c.args.stack.now c.args.depth.now f.0 c.requires.row f.1 c.requires.can)
    c.pop_long.ensures.popped

pub returns-clause-went : goal.returns-clause-went
returns-clause-went c = λ own found ls.
    let f = what (long_division c.args.code) c.requires.code in
    let vs : List Value = top_first c.args.stack.now c.args.depth.now in
    let same = popped_long vs (top_first c.args.stack.now c.pop_long.new.depth) c.top_long-y.result c.pop_long.result c.top_long-y.ensures c.pop_long.ensures.popped in
    let fx : SFits w64 c.pop_long-x.result = search rules in
    let fy : SFits w64 c.top_long-y.result = search rules in
    let fm : SFits w64 c.unwrap-made.result = search rules in
    let made = quotient w64 (long_division c.args.code) f.0 c.long_quotient.result c.pop_long-x.result c.top_long-y.result c.unwrap-made.result fx fy fm f.1 c.long_quotient.ensures c.unwrap-made.ensures in
    go_on_by c.args.p.now own c.args.i.now found (window c.args.heap.now.objects ls c.args.stack.now c.args.depth.now) (window c.args.heap.now.objects ls c.push.new.stack c.push.new.depth) (of_longs c.args.p.now f.0)
    (long_rule c.args.p.now own c.args.i.now found c.args.code f.0 c.requires.row f.1)
    (long_leads c.args.p.now f.0 c.args.heap.now.objects ls vs (top_first c.args.stack.now c.pop_long-x.new.depth) (top_first c.push.new.stack c.push.new.depth) c.pop_long-x.result c.pop_long.result
    (to_z w64 (of_z w64 c.unwrap-made.result)) (c.pop_long.ensures.popped ∙ ap (λ vs. Long c.pop_long.result ∷ vs) c.pop_long-x.ensures.popped)
    (λ z. c.if-y-eq0.false (ap (of_z w64) (same ∙ z))) (made ∙ ap (f.0 c.pop_long-x.result) same) c.push.ensures.pushed)
