use Rattle.std.proofs.Common.{◌≡◌, take, drop, arith, length, ◌≤◌, ◌+◌, ◌∙◌, ap, ap₂, sym}
use Rattle.std.specs.Prelude.{slice_get}
use Rattle.std.specs.List.{zip}
use Rattle.nr_heap.specs.Arenas.{obj_at}
use Rattle.nr_heap.proofs.Runs.{read_more}
use Rattle.nr_heap.proofs.Views.{name_of, place_of, few_slots, tell, words_of}
use Rattle.nr_heap.proofs.heap.Heap.read_run.Goals as goal

pub index-place-requires : goal.index-place-requires
index-place-requires c = omega (arith, name_of c.self.inside c.args.self.now c.self.view_is c.self.invariant _ c.args.r c.requires, c.self.inside.places.ok.0)

pub overflow_cast-i : goal.overflow_cast-i
overflow_cast-i c = record { fits = omega (arith, few_slots c.self.inside c.args.self.now c.self.view_is c.self.invariant c.args.r (c.args.start + length c.args.out.now) c.requires) }

pub overflow_add-start : goal.overflow_add-start
overflow_add-start c = record { fits = omega (arith, few_slots c.self.inside c.args.self.now c.self.view_is c.self.invariant c.args.r (c.args.start + length c.args.out.now) c.requires) }

pub load-requires-clause-slot : goal.load-requires-clause-slot
load-requires-clause-slot c =
    let r = place_of c.self.inside c.args.self.now c.self.view_is c.self.invariant (λ o. c.args.start + length c.args.out.now ≤ length o.slots) c.args.r c.index-place.result.now c.requires c.index-place.ensures in
    omega (arith, r.0.count, r.1)

pub load-requires-clause-within : goal.load-requires-clause-within
load-requires-clause-within c =
    let r = place_of c.self.inside c.args.self.now c.self.view_is c.self.invariant (λ o. c.args.start + length c.args.out.now ≤ length o.slots) c.args.r c.index-place.result.now c.requires c.index-place.ensures in
    omega (arith, r.0.within, ap length c.deref-in-loop-i.ensures.value)

pub loop-i-preserved : goal.loop-i-preserved
loop-i-preserved c =
    let p = c.index-place.result.now in
    let r = place_of c.self.inside c.args.self.now c.self.view_is c.self.invariant (λ o. c.args.start + length c.args.out.now ≤ length o.slots) c.args.r p c.requires c.index-place.ensures in
    let i = place_of c.self.inside c.args.self.now c.self.view_is c.self.invariant (λ o. take c.loop-i.i c.loop-i.out ≡ take c.loop-i.i (drop c.args.start o.slots)) c.args.r p c.loop-i.invariant c.index-place.ensures in
    tell c.self.inside c.args.self.now c.self.view_is c.self.invariant _ c.args.r p r.0
    (read_more (obj_at (words_of c.self.inside) p).slots c.loop-i.out c.args.start c.loop-i.i c.load.result (omega arith) (omega (arith, r.1)) i.1
    (ap₂ (λ fs ws. slice_get (obj_at (zip fs ws) p).slots (c.args.start + c.loop-i.i)) (sym c.deref.ensures.value) (sym c.deref-in-loop-i.ensures.value) ∙ c.load.ensures))
