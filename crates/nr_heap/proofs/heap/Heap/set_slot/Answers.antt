use Rattle.std.proofs.Common.{◌≡◌, arith, length, ◌<◌, ◌∙◌, ap, ap₂, sym, subst}
use Rattle.std.specs.List.{zip}
use Rattle.std.specs.Vec.{with_items}
use Rattle.std.proofs.lemmas.List.{with_items_is}
use Rattle.nr_heap.specs.Arenas.{IsWritten}
use Rattle.nr_heap.specs.Contents.{Keeps}
use Rattle.nr_heap.proofs.Slots.{holds}
use Rattle.nr_heap.proofs.Views.{contents, place_of, tell, wrote, name_of}
use Rattle.nr_heap.proofs.heap.Heap.set_slot.Goals as goal

pub index-place-requires : goal.index-place-requires
index-place-requires c = omega (arith, name_of c.self.inside c.args.self.now c.self.view_is c.self.invariant _ c.args.r c.requires.slot, c.self.inside.places.ok.0)

pub store-requires-clause-slot : goal.store-requires-clause-slot
store-requires-clause-slot c =
    let r = place_of c.self.inside c.args.self.now c.self.view_is c.self.invariant (λ o. c.args.slot < length o.slots) c.args.r c.index-place.result.now c.requires.slot c.index-place.ensures in
    omega (arith, r.0.count, r.1)

pub store-requires-clause-within : goal.store-requires-clause-within
store-requires-clause-within c =
    let r = place_of c.self.inside c.args.self.now c.self.view_is c.self.invariant (λ o. c.args.slot < length o.slots) c.args.r c.index-place.result.now c.requires.slot c.index-place.ensures in
    omega (arith, r.0.within, ap length c.deref_mut-2.ensures.value)

pub store-requires-clause-holds : goal.store-requires-clause-holds
store-requires-clause-holds c =
    let r = place_of c.self.inside c.args.self.now c.self.view_is c.self.invariant (λ o. Keeps o.kind c.args.value) c.args.r c.index-place.result.now c.requires.keeps c.index-place.ensures in
    holds c.index-place.result.now.kind c.args.value r.1

pub returns : goal.returns
returns c =
    let r = place_of c.self.inside c.args.self.now c.self.view_is c.self.invariant (λ o. c.args.slot < length o.slots) c.args.r c.index-place.result.now c.requires.slot c.index-place.ensures in
    let p = c.index-place.result.now in
    let fs : (with_items c.self.inside.forms c.store.new.forms).items ≡ c.store.new.forms = with_items_is c.self.inside.forms c.store.new.forms (c.store.auto.forms ∙ c.deref_mut.ensures.len) in
    let ws : (with_items c.self.inside.words c.store.new.words).items ≡ c.store.new.words = with_items_is c.self.inside.words c.store.new.words (c.store.auto.words ∙ c.deref_mut-2.ensures.len) in
    let w = subst (λ us. IsWritten p c.args.slot c.args.value us (zip (with_items c.self.inside.forms c.store.new.forms).items (with_items c.self.inside.words c.store.new.words).items))
    (ap₂ zip c.deref_mut.ensures.value c.deref_mut-2.ensures.value)
    (subst (λ us. IsWritten p c.args.slot c.args.value (zip c.deref_mut.result.now c.deref_mut-2.result.now) us) (sym (ap₂ zip fs ws)) c.store.ensures) in
    tell c.self.inside c.args.self.now c.self.view_is c.self.invariant _ c.args.r p r.0
    (ap₂ contents (wrote c.self.inside c.args.self.now c.self.view_is c.self.invariant c.args.r p _ c.args.slot c.args.value r.0 w) (ap (λ h. h.spare) c.self.view_is))
