use Rattle.std.proofs.Common.{◌≡◌, arith, sym, ◌∙◌, subst, Some, true, false, ap}
use Rattle.std.specs.BTreeMap.{get}
use Rattle.nr_classmake.specs.Keys.{order}
use Rattle.nr_classmake.specs.Places.{is_at, slot_of}
use Rattle.nr_classmake.proofs.Index.{found, absent}
use Rattle.nr_classmake.proofs.Slots.{below}
use Rattle.nr_classmake.proofs.pool.Pool.find.Goals as goal

pub returns-then-stands_at : goal.returns-then-stands_at
returns-then-stands_at c =
    let at : is_at c.args.entry.now c.self.inside.entries.items c.in_ok-slot.field-0.now ≡ true = cc in
    let got = subst (λ k. get order c.self.inside.index k ≡ Some c.in_ok-slot.field-0.now) c.requires.key (sym c.in_ok-slot.ensures.value) in
    let f = found c.args.entry.now c.self.inside.entries.items c.self.inside.index c.in_ok-slot.field-0.now c.self.invariant.2 c.requires.kept got at in
    let l = below c.args.entry.now c.self.inside.entries.items c.in_ok-slot.field-0.now (sym f) in
    let b = c.self.invariant.0 in
    record { value = f ∙ ap (slot_of c.args.entry.now) c.self.view_is; within = omega arith }

pub returns-else-stands_at : goal.returns-else-stands_at
returns-else-stands_at c =
    let at : is_at c.args.entry.now c.self.inside.entries.items c.in_ok-slot.field-0.now ≡ false = cc in
    let got = subst (λ k. get order c.self.inside.index k ≡ Some c.in_ok-slot.field-0.now) c.requires.key (sym c.in_ok-slot.ensures.value) in
    record { value = absent c.args.entry.now c.self.inside.entries.items c.self.inside.index c.in_ok-slot.field-0.now c.self.invariant.2 c.requires.kept got at ∙ ap (slot_of c.args.entry.now) c.self.view_is; within = tt }
