use Rattle.std.proofs.Common.{rules, w32, w64}
use Rattle.std.specs.Int.RustNames.{FitsSigned}
use Rattle.std.proofs.lemmas.Int.{to_z-of_z}
use Rattle.nr_capture.proofs.FilledSlots.{int_stands, long_stands, node_stands, null_stands}
use Rattle.nr_capture.proofs.filling.value_of.Goals as goal

pub returns-in-Int : goal.returns-in-Int
returns-in-Int c =
    let f : FitsSigned w32 c.in-Int.n = search rules in
    int_stands c.args.names.now c.args.slot c.in-Int.n _ c.in-Int.is (to_z-of_z w32 c.in-Int.n f)

pub returns-in-Long : goal.returns-in-Long
returns-in-Long c =
    let f : FitsSigned w64 c.in-Long.n = search rules in
    long_stands c.args.names.now c.args.slot c.in-Long.n _ c.in-Long.is (to_z-of_z w64 c.in-Long.n f)

pub returns-in-Null : goal.returns-in-Null
returns-in-Null c = null_stands c.args.names.now c.args.slot c.in-Null.is

pub returns-in-Node : goal.returns-in-Node
returns-in-Node c = node_stands c.args.names.now c.args.slot c.in-Node.node 0 c.in-Node.is c.requires
