use Rattle.std.proofs.Common.{refl, arith}
use Rattle.nr_heap.proofs.Views.{name_of, place_of, tell}
use Rattle.nr_heap.proofs.heap.Heap.kind_of.Goals as goal

pub index-requires : goal.index-requires
index-requires c = omega (arith, name_of c.self.inside c.args.self.now c.self.view_is c.self.invariant _ c.args.r c.requires, c.self.inside.places.ok.0)

pub returns : goal.returns
returns c =
    let r = place_of c.self.inside c.args.self.now c.self.view_is c.self.invariant (λ o. Unit {0}) c.args.r c.index.result.now c.requires c.index.ensures in
    tell c.self.inside c.args.self.now c.self.view_is c.self.invariant _ c.args.r c.index.result.now r.0 refl
