use Rattle.std.proofs.Common.{rules, w32, w64}
use Rattle.std.specs.Int.RustNames.{FitsSigned}
use Rattle.std.proofs.lemmas.Int.{to_z-of_z}
use Rattle.nr_capture.proofs.Nodes.{int_drawn, long_drawn, null_drawn, ref_drawn}
use Rattle.nr_capture.proofs.drawing.slot_of.Goals as goal

pub returns-in-Int-clause-draws : goal.returns-in-Int-clause-draws
returns-in-Int-clause-draws c =
    let f : FitsSigned w32 c.in-Int.n = search rules in
    int_drawn c.args.names.now c.args.value c.in-Int.n _ c.in-Int.is (to_z-of_z w32 c.in-Int.n f)

pub returns-in-Long-clause-draws : goal.returns-in-Long-clause-draws
returns-in-Long-clause-draws c =
    let f : FitsSigned w64 c.in-Long.n = search rules in
    long_drawn c.args.names.now c.args.value c.in-Long.n _ c.in-Long.is (to_z-of_z w64 c.in-Long.n f)

pub returns-in-Null-clause-draws : goal.returns-in-Null-clause-draws
returns-in-Null-clause-draws c = null_drawn c.args.names.now c.args.value c.in-Null.is

pub returns-in-Ref-clause-draws : goal.returns-in-Ref-clause-draws
returns-in-Ref-clause-draws c = ref_drawn c.args.names.now c.args.value c.in-Ref.name _ c.in-Ref.is c.place_of.ensures
