-- What belongs to a slot: numbers where it holds numbers, else null or a node.
use Rattle.std.proofs.Common.{◌≡◌, ℕ, Bool, true, false, refl}
use Rattle.std.specs.Prelude.{ℤ}
use Rattle.std.specs.Int.{w32, w64}
use Rattle.std.specs.Int.RustNames.{FitsSigned}
use Rattle.nr_linked.specs.declared.program.kind.Base.{Base}
use Rattle.nr_linked.specs.declared.program.kind.Base.TheVariants as bases
use Rattle.nr_linked.specs.declared.program.kind.Kind.{Kind}
use Rattle.nr_linked.specs.declared.program.tables.ProgramTables.{ProgramTables}
use Rattle.nr_linked.specs.Kinds.{is_reference}
use Rattle.nr_model.specs.Belonging.{InRange}
use Rattle.nr_graph.specs.declared.graph.Slot.{Slot}
use Rattle.nr_graph.specs.declared.graph.Slot.TheVariants.{Int, Long, Null, Node as At}
use Rattle.nr_graph.specs.declared.graph.Graph.{Graph}
use Rattle.nr_graph.specs.Fitting.{IsLink, IsNumber, SlotFits}

abbrev LinkOrNumber : ProgramTables → Graph → Kind → Slot → Bool → Type 0
LinkOrNumber P g kind s true = IsLink P g kind s
LinkOrNumber P g kind s false = IsNumber kind.base s

int_in_range : (base : Base) (n : ℤ) → IsNumber base (Int n) → InRange base n × FitsSigned w32 n
int_in_range bases.Bool n f = f
int_in_range bases.Byte n f = f
int_in_range bases.Char n f = f
int_in_range bases.Short n f = f
int_in_range bases.Int n f = f
int_in_range bases.Long n f = absurd f
int_in_range (bases.Object c) n f = f

long_in_range : (base : Base) (n : ℤ) → IsNumber base (Long n) → FitsSigned w64 n
long_in_range bases.Bool n f = absurd f
long_in_range bases.Byte n f = absurd f
long_in_range bases.Char n f = absurd f
long_in_range bases.Short n f = absurd f
long_in_range bases.Int n f = absurd f
long_in_range bases.Long n f = f
long_in_range (bases.Object c) n f = absurd f

null_no_number : (base : Base) → IsNumber base Null → ⊥
null_no_number bases.Bool f = f
null_no_number bases.Byte f = f
null_no_number bases.Char f = f
null_no_number bases.Short f = f
null_no_number bases.Int f = f
null_no_number bases.Long f = f
null_no_number (bases.Object c) f = f

node_no_number : (base : Base) (i : ℕ) → IsNumber base (At i) → ⊥
node_no_number bases.Bool i f = f
node_no_number bases.Byte i f = f
node_no_number bases.Char i f = f
node_no_number bases.Short i f = f
node_no_number bases.Int i f = f
node_no_number bases.Long i f = f
node_no_number (bases.Object c) i f = f

module _ (P : ProgramTables) (g : Graph) (kind : Kind) where
  pub int_is : (n : ℤ) → SlotFits P g kind (Int n) → (is_reference kind ≡ false) × (InRange kind.base n × FitsSigned w32 n)
  int_is n f = by (is_reference kind) refl f
    where
      by : (b : Bool) → is_reference kind ≡ b → LinkOrNumber P g kind (Int n) b → (is_reference kind ≡ false) × (InRange kind.base n × FitsSigned w32 n)
      by true e f = absurd f
      by false e f = (e, int_in_range kind.base n f)

  pub long_is : (n : ℤ) → SlotFits P g kind (Long n) → (is_reference kind ≡ false) × FitsSigned w64 n
  long_is n f = by (is_reference kind) refl f
    where
      by : (b : Bool) → is_reference kind ≡ b → LinkOrNumber P g kind (Long n) b → (is_reference kind ≡ false) × FitsSigned w64 n
      by true e f = absurd f
      by false e f = (e, long_in_range kind.base n f)

  pub null_is : SlotFits P g kind Null → is_reference kind ≡ true
  null_is f = by (is_reference kind) refl f
    where
      by : (b : Bool) → is_reference kind ≡ b → LinkOrNumber P g kind Null b → is_reference kind ≡ true
      by true e f = e
      by false e f = absurd (null_no_number kind.base f)

  pub node_is : (i : ℕ) → SlotFits P g kind (At i) → is_reference kind ≡ true
  node_is i f = by (is_reference kind) refl f
    where
      by : (b : Bool) → is_reference kind ≡ b → LinkOrNumber P g kind (At i) b → is_reference kind ≡ true
      by true e f = e
      by false e f = absurd (node_no_number kind.base i f)
