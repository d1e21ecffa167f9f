use Rattle.std.proofs.Common.{◌≡◌, ◌+◌, ◌-◌, ◌<◌, ◌^◌, ◌∙◌, ap, ap₂, sym, subst, arith, refl, length, take, drop, Some}
use Rattle.std.specs.Prelude.{slice_get}
use Rattle.std.proofs.lemmas.List.{take_rest}
use Rattle.std.proofs.lemmas.Option.{slice_get_read}
use Rattle.nr_heap.specs.Arenas.{cells_at, Laid}
use Rattle.nr_heap.specs.Contents.{with_only}
use Rattle.nr_heap.proofs.Cuts.{cells_at_parts, cut, cut_formed, cut_laid, uncut}
use Rattle.nr_heap.proofs.Views.{contents}
use Rattle.nr_heap.proofs.heap.Heap.cut_back.Goals as goal

pub cells_of-requires : goal.cells_of-requires
cells_of-requires c =
    let n = c.mark.inside.places in
    let ps = c.self.inside.places.items in
    let e = ap (λ ps. cells_at (take (length ps - n) (drop n ps))) c.deref.ensures.value ∙ ap cells_at (take_rest ps n) in
    omega (arith, e, cells_at_parts ps n, c.self.invariant.counted, c.self.invariant.few)

pub overflow_sub-self : goal.overflow_sub-self
overflow_sub-self c =
    let n = c.mark.inside.places in
    let ps = c.self.inside.places.items in
    let e = ap (λ ps. cells_at (take (length ps - n) (drop n ps))) c.deref.ensures.value ∙ ap cells_at (take_rest ps n) in
    omega (arith, e, c.cells_of.ensures, cells_at_parts ps n, c.self.invariant.counted)

pub invariant_of-self : goal.invariant_of-self
invariant_of-self c =
    let a = c.self.inside in
    let n = c.mark.inside.places in
    let p = c.index.result.now in
    let at : slice_get a.places.items n ≡ Some p = slice_get_read a.places.items _ n p refl (omega (arith, c.if-kept-len.true, c.len.ensures, a.places.ok.0)) c.index.ensures in
    let e = ap (λ ps. cells_at (take (length ps - n) (drop n ps))) c.deref.ensures.value ∙ ap cells_at (take_rest a.places.items n) in
    let ps = c.truncate.ensures in
    let ws = c.truncate-then-kept-len.ensures in
    let fs = c.truncate-then-kept-len-2.ensures in
    record {
      laid = subst (λ qs. Laid 0 qs (length c.truncate-then-kept-len.new.self.items)) (sym ps.items) (cut_laid a c.args.self.now c.self.view_is c.self.invariant n p at _ ws.items);
      formed = cut_formed a c.args.self.now c.self.view_is c.self.invariant n p at _ _ fs.items ws.items;
      counted = omega (arith, e, c.cells_of.ensures, cells_at_parts a.places.items n, c.self.invariant.counted, ap cells_at ps.items);
      few = omega (arith, c.self.invariant.few);
      place_room = omega (arith, ps.len, ps.capacity, c.self.invariant.place_room);
      word_room = omega (arith, ws.len, ws.capacity, c.self.invariant.word_room);
      form_room = omega (arith, fs.len, fs.capacity, c.self.invariant.form_room);
    }

pub returns-then-kept-len : goal.returns-then-kept-len
returns-then-kept-len c =
    let a = c.self.inside in
    let n = c.mark.inside.places in
    let p = c.index.result.now in
    let at : slice_get a.places.items n ≡ Some p = slice_get_read a.places.items _ n p refl (omega (arith, c.if-kept-len.true, c.len.ensures, a.places.ok.0)) c.index.ensures in
    ap₂ contents
    (cut a c.args.self.now c.self.view_is c.self.invariant n p at _ _ _ c.truncate.ensures.items c.truncate-then-kept-len-2.ensures.items c.truncate-then-kept-len.ensures.items
    ∙ ap (λ names. with_only names c.args.self.now.objects) c.mark.view_is)
    (ap (λ h. h.spare) c.self.view_is)

pub returns-else-kept-len : goal.returns-else-kept-len
returns-else-kept-len c =
    let a = c.self.inside in
    ap (λ h. contents h c.args.self.now.spare)
    (uncut a c.args.self.now c.self.view_is c.self.invariant c.mark.inside.places (omega (arith, c.if-kept-len.false, c.len.ensures, a.places.ok.0))
    ∙ ap (λ names. with_only names c.args.self.now.objects) c.mark.view_is)
