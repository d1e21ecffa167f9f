use Rattle.std.proofs.Common.{◌∷◌, ◌∙◌, ap, List, of_z, to_z, w32, SFits, rules}
use Rattle.nr_optable.specs.Operations.{int_division}
use Rattle.nr_model.specs.declared.value.Value.{Value}
use Rattle.nr_model.specs.declared.value.Value.TheVariants.{Int}
use Rattle.nr_step.specs.Instructions.{doing}
use Rattle.nr_step.specs.Windows.{top_first, window}
use Rattle.nr_step.proofs.Divisions.{int_begun, int_leads, int_rule, int_tops, int_zero, next_int, of_ints, popped_int, quotient, what, zero_w32}
use Rattle.nr_step.proofs.Rows.{go_on_by}
use Rattle.nr_step.proofs.instructions.divisions.int_divided.Goals as goal

pub top_int-y-requires-clause-some : goal.top_int-y-requires-clause-some
top_int-y-requires-clause-some c =
    let f = what (int_division c.args.code) c.requires.code in
    int_tops c.args.p.now f.0 c.args.heap.now.objects c.requires.can.2 (top_first c.args.stack.now c.args.depth.now)
    (int_begun c.args.p.now c.args.i.now c.args.code c.args.heap.now.objects c.args.stack.now c.args.depth.now f.0 c.requires.row f.1 c.requires.can)

pub returns-then-y-eq0-clause-went : goal.returns-then-y-eq0-clause-went
returns-then-y-eq0-clause-went c = λ own found ls.
    let f = what (int_division c.args.code) c.requires.code in
    int_zero c.throw_object.result c.args.p.now f.0 (doing c.args.p.now own c.args.i.now found) c.args.heap.now.objects c.throw_object.new.heap.objects ls c.requires.can.2 (top_first c.args.stack.now c.args.depth.now) c.top_int-y.result c.throw_object.new.told
    (int_begun c.args.p.now c.args.i.now c.args.code c.args.heap.now.objects c.args.stack.now c.args.depth.now f.0 c.requires.row f.1 c.requires.can)
    c.top_int-y.ensures (zero_w32 c.top_int-y.result c.if-y-eq0.true c.top_int-y.type_inv) (int_rule c.args.p.now own c.args.i.now found c.args.code f.0 c.requires.row f.1) c.throw_object.ensures

pub pop_int-requires-clause-some : goal.pop_int-requires-clause-some
pop_int-requires-clause-some c =
    let f = what (int_division c.args.code) c.requires.code in
    int_tops c.args.p.now f.0 c.args.heap.now.objects c.requires.can.2 (top_first c.args.stack.now c.args.depth.now)
    (int_begun c.args.p.now c.args.i.now c.args.code c.args.heap.now.objects c.args.stack.now c.args.depth.now f.0 c.requires.row f.1 c.requires.can)

pub pop_int-x-requires-clause-some : goal.pop_int-x-requires-clause-some
pop_int-x-requires-clause-some c =
    let f = what (int_division c.args.code) c.requires.code in
    next_int c.args.p.now f.0 c.args.heap.now.objects c.requires.can.2 (top_first c.args.stack.now c.args.depth.now) (top_first c.args.stack.now c.pop_int.new.depth) c.pop_int.result
    (int_begun c.args.p.now c.args.i.now c.args.code c.args.heap.now.objects c.args.stack.now c.args.depth.now f.0 c.requires.row f.1 c.requires.can)
    c.pop_int.ensures.popped

pub returns-clause-went : goal.returns-clause-went
returns-clause-went c = λ own found ls.
    let f = what (int_division c.args.code) c.requires.code in
    let vs : List Value = top_first c.args.stack.now c.args.depth.now in
    let same = popped_int vs (top_first c.args.stack.now c.pop_int.new.depth) c.top_int-y.result c.pop_int.result c.top_int-y.ensures c.pop_int.ensures.popped in
    let fx : SFits w32 c.pop_int-x.result = search rules in
    let fy : SFits w32 c.top_int-y.result = search rules in
    let fm : SFits w32 c.unwrap-made.result = search rules in
    let made = quotient w32 (int_division c.args.code) f.0 c.int_quotient.result c.pop_int-x.result c.top_int-y.result c.unwrap-made.result fx fy fm f.1 c.int_quotient.ensures c.unwrap-made.ensures in
    go_on_by c.args.p.now own c.args.i.now found (window c.args.heap.now.objects ls c.args.stack.now c.args.depth.now) (window c.args.heap.now.objects ls c.push.new.stack c.push.new.depth) (of_ints c.args.p.now f.0)
    (int_rule c.args.p.now own c.args.i.now found c.args.code f.0 c.requires.row f.1)
    (int_leads c.args.p.now f.0 c.args.heap.now.objects ls vs (top_first c.args.stack.now c.pop_int-x.new.depth) (top_first c.push.new.stack c.push.new.depth) c.pop_int-x.result c.pop_int.result
    (to_z w32 (of_z w32 c.unwrap-made.result)) (c.pop_int.ensures.popped ∙ ap (λ vs. Int c.pop_int.result ∷ vs) c.pop_int-x.ensures.popped)
    (λ z. c.if-y-eq0.false (ap (of_z w32) (same ∙ z))) (made ∙ ap (f.0 c.pop_int-x.result) same) c.push.ensures.pushed)
