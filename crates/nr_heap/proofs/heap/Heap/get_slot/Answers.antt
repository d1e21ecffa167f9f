use Rattle.std.proofs.Common.{arith, length, ◌<◌, ◌∙◌, ap, ap₂, sym}
use Rattle.std.specs.Prelude.{slice_get}
use Rattle.std.specs.List.{zip}
use Rattle.nr_heap.specs.Arenas.{obj_at}
use Rattle.nr_heap.proofs.Views.{name_of, place_of, tell}
use Rattle.nr_heap.proofs.heap.Heap.get_slot.Goals as goal

pub index-place-requires : goal.index-place-requires
index-place-requires c = omega (arith, name_of c.self.inside c.args.self.now c.self.view_is c.self.invariant _ c.args.r c.requires, c.self.inside.places.ok.0)

pub load-requires-clause-slot : goal.load-requires-clause-slot
load-requires-clause-slot c =
    let r = place_of c.self.inside c.args.self.now c.self.view_is c.self.invariant (λ o. c.args.slot < length o.slots) c.args.r c.index-place.result.now c.requires c.index-place.ensures in
    omega (arith, r.0.count, r.1)

pub load-requires-clause-within : goal.load-requires-clause-within
load-requires-clause-within c =
    let r = place_of c.self.inside c.args.self.now c.self.view_is c.self.invariant (λ o. c.args.slot < length o.slots) c.args.r c.index-place.result.now c.requires c.index-place.ensures in
    omega (arith, r.0.within, ap length c.deref-2.ensures.value)

pub returns : goal.returns
returns c =
    let r = place_of c.self.inside c.args.self.now c.self.view_is c.self.invariant (λ o. c.args.slot < length o.slots) c.args.r c.index-place.result.now c.requires c.index-place.ensures in
    tell c.self.inside c.args.self.now c.self.view_is c.self.invariant _ c.args.r c.index-place.result.now r.0
    (ap₂ (λ fs ws. slice_get (obj_at (zip fs ws) c.index-place.result.now).slots c.args.slot) (sym c.deref.ensures.value) (sym c.deref-2.ensures.value) ∙ c.load.ensures)
