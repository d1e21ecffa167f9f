use Rattle.std.proofs.Common.{◌∙◌, ap}
use Rattle.std.specs.List.{zip}
use Rattle.nr_heap.specs.Contents.{Contents}
use Rattle.nr_heap.specs.Arenas.{map_of, objects}
use Rattle.nr_heap.proofs.Arenas.{no_objects}
use Rattle.nr_heap.proofs.heap.Heap.new.Goals as goal

pub returns : goal.returns
returns c =
    let spareless = λ (h : Rattle.nr_model.specs.Heaps.Heap). let k : Contents = record { objects = h; spare = 0 } in k in
    ap spareless (ap (λ ps. map_of (objects ps (zip c.new-3.result.items c.new-2.result.items))) c.new.ensures.items ∙ no_objects)
