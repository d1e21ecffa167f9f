use Rattle.std.proofs.Common.{◌≡◌, ℕ, refl, arith, Some, None, nat_lt, if◌then◌else◌}
use Rattle.std.proofs.lemmas.Bool.Decides.{nat_tests}
use Rattle.nr_heap.proofs.Views.{name_of, place_of, tell}
use Rattle.nr_heap.proofs.heap.Heap.len_of.Goals as goal

pub index-place-requires : goal.index-place-requires
index-place-requires c = omega (arith, name_of c.self.inside c.args.self.now c.self.view_is c.self.invariant _ c.args.r c.requires, c.self.inside.places.ok.0)

pub returns-then-place-eq0 : goal.returns-then-place-eq0
returns-then-place-eq0 c =
    let r = place_of c.self.inside c.args.self.now c.self.view_is c.self.invariant (λ o. Unit {0}) c.args.r c.index-place.result.now c.requires c.index-place.ensures in
    tell c.self.inside c.args.self.now c.self.view_is c.self.invariant _ c.args.r c.index-place.result.now r.0 (rw c.if-place-eq0.true refl)

array_length : (d n m : ℕ) → n ≡ m → (d ≡ 0 → ⊥) → Some m ≡ (if nat_lt 0 d then Some n else None)
array_length d n m e f = grind (arith, nat_tests)

pub returns : goal.returns
returns c =
    let r = place_of c.self.inside c.args.self.now c.self.view_is c.self.invariant (λ o. Unit {0}) c.args.r c.index-place.result.now c.requires c.index-place.ensures in
    tell c.self.inside c.args.self.now c.self.view_is c.self.invariant _ c.args.r c.index-place.result.now r.0
    (array_length c.index-place.result.now.kind.dims _ c.index-place.result.now.len r.0.count c.if-place-eq0.false)
