-- Arrays of ints that are 0.
use Rattle.std.specs.Prelude.{ℕ, pos, replicate}
use Rattle.nr_linked.specs.declared.program.kind.Base.TheVariants as bases
use Rattle.nr_linked.specs.declared.program.kind.Kind.{Kind}
use Rattle.nr_graph.specs.declared.graph.Slot.{Slot}
use Rattle.nr_graph.specs.declared.graph.Slot.TheVariants.{Int}
use Rattle.nr_graph.specs.declared.graph.Node.{Node}

abbrev pub zero : Slot
zero = Int (pos 0)

abbrev pub int_array : Kind
int_array = record { dims = 1; base = bases.Int }

abbrev pub ints : ℕ → Node
ints n = record { kind = int_array; slots = replicate n zero }
