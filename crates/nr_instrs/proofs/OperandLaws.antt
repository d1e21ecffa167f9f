-- The laws of operands that have no branch.
use Rattle.std.proofs.Common.{◌≡◌, ℕ, Bool, true, false, ◌&&◌, eqb, List, length, Option, Some, refl, ap, ◌∙◌}
use Rattle.std.specs.Prelude.{IsTrue}
use Rattle.std.specs.Int.{Width, w8, w16, cast_signed}
use Rattle.std.specs.List.{All}
use Rattle.nr_base.specs.Bytes.{number_at}
use Rattle.nr_base.specs.Reader.{refuse, choose}
use Rattle.nr_base.specs.Grammar.{number, give, Then}
use Rattle.nr_base.proofs.Laws.{Reads, give_law, none_law, then_law, with_fault_law, same_law}
use Rattle.nr_base.proofs.Numbers.{u8_law, u16_law, run_law}
use Rattle.nr_base.proofs.Lists.{leaf, made}
use Rattle.nr_optable.specs.declared.table.Row.{Row}
use Rattle.nr_optable.specs.declared.table.Shape.{Shape}
use Rattle.nr_optable.specs.declared.table.Shape.TheVariants as shapes
use Rattle.nr_prog.specs.declared.pool.PoolEntry.{PoolEntry}
use Rattle.nr_prog.specs.declared.body.instruction.Args.TheVariants as args
use Rattle.nr_prog.specs.Pool.{IsText, entry_at, names}
use Rattle.nr_prog.specs.BodyNames.{IsUsed}
use Rattle.nr_prog.specs.BodyOperands.{signed, skipped, when, index_of, interface, dims, is_primitive, increment, widened, shape_of, wide, plain}
use Rattle.nr_instrs.specs.declared.fault.CodeFault.{CodeFault}
use Rattle.nr_instrs.specs.Faults.{short_of}
use Rattle.nr_instrs.specs.Numbers.{Read, unsigned_at, signed_at, skipped_at}
use Rattle.nr_instrs.specs.NameTests.{is_used, is_kept, names_class_by, is_array, is_interface_ref}
use Rattle.nr_instrs.specs.OperandReading.{checked_at, index_at, interface_at, dims_at, local_at, num_at, increment_at, primitive_at, widened_at, wide_at, plain_at}
use Rattle.nr_instrs.proofs.Facts.{Decides, both, equal, used, named, interface_refs, class_by, arrays_tell}

-- ---- a test before a reader

pub guard_law : {A : Type 0} (b : Bool) {P : Type 0} {r : Read A} {G : A → List ℕ → Type 0} (e : CodeFault) → Decides b P → Reads r G → Reads (choose b r (refuse e)) (when P G)
unfolding choose
guard_law true e d rs = same_law (record { found = rs.found; only = rs.only }) (λ x t g. (d.is refl, g)) (λ x t g. g.1)
guard_law false {P = P} {G = G} e d rs = same_law (record { found = (none_law e).found; only = (none_law e).only }) (λ x t g. absurd g) (λ x t g. let f : false ≡ true = d.of g.0 in absurd cc)

pub is_true : (b : Bool) → Decides b (IsTrue b)
is_true b = record { is = λ e. e; of = λ h. h }

-- ---- numbers

abbrev pub NumberLaw : Width → Type 0
NumberLaw w = Reads (number_at w) (number w)

pub unsigned_law : (w : Width) → NumberLaw w → (at : ℕ) → Reads (unsigned_at w at) (number w)
unfolding unsigned_at
unsigned_law w wide at = with_fault_law (short_of at) wide

pub signed_law : (w : Width) → NumberLaw w → (at : ℕ) → Reads (signed_at w at) (signed w)
unfolding signed_at
signed_law w wide at = then_law (unsigned_law w wide at) (λ bits. give_law (cast_signed w bits))

pub skipped_law : (n at : ℕ) → Reads (skipped_at n at) (skipped n)
unfolding skipped_at
skipped_law n at = same_law (then_law (with_fault_law (short_of at) (run_law n)) (λ bytes. give_law tt))
    (λ x t g. let l = leaf {f = λ bytes. tt} g in ap length l.2.1 ∙ l.2.0)
    (λ x t g. made {f = λ bytes. tt} t t (g, refl))

-- ---- indices of the constant pool

checked_law : (pool : List PoolEntry) (r : Row) (at index : ℕ) → All IsText pool → Reads (checked_at pool r at index) (when (IsUsed pool r.family r.pushes index) (give (args.Pool index)))
unfolding checked_at
checked_law pool r at index all =
    let d = used pool r.family r.pushes index all in
    same_law (guard_law (is_used pool r.family r.pushes index) _ (is_true _) (guard_law (is_kept pool r.family index) _ (is_true _) (give_law (args.Pool index))))
    (λ x t g. (d.is (both_are _ _ g.0 g.1.0), g.1.1))
    (λ x t g. let b = both_from _ _ (d.of g.0) in (b.0, (b.1, g.1)))
  where
    both_are : (a b : Bool) → a ≡ true → b ≡ true → (a && b) ≡ true
    both_are true true e f = refl
    both_are true false e f = absurd cc
    both_are false b e f = absurd cc

    both_from : (a b : Bool) → (a && b) ≡ true → (a ≡ true) × (b ≡ true)
    both_from true true e = (refl, refl)
    both_from true false e = absurd cc
    both_from false b e = absurd cc

index_law : (w : Width) → NumberLaw w → (pool : List PoolEntry) (r : Row) (at : ℕ) → All IsText pool → Reads (index_at w pool r at) (index_of w pool r)
unfolding index_at
index_law w wide pool r at all = then_law (unsigned_law w wide at) (λ index. checked_law pool r at index all)

interface_law : (pool : List PoolEntry) (at : ℕ) → All IsText pool → Reads (interface_at pool at) (interface pool)
unfolding interface_at
interface_law pool at all = then_law (unsigned_law w16 u16_law at) (λ index. then_law (unsigned_law w8 u8_law at) (λ count. then_law (unsigned_law w8 u8_law at) (λ zero.
    guard_law (names (is_interface_ref pool count) pool index && eqb zero 0) _ (both (named (entry_at pool index) (λ e. interface_refs pool count e all)) (equal zero 0)) (give_law (args.Pool index)))))

dims_law : (pool : List PoolEntry) (at : ℕ) → All IsText pool → Reads (dims_at pool at) (dims pool)
unfolding dims_at
dims_law pool at all = then_law (unsigned_law w16 u16_law at) (λ index. then_law (unsigned_law w8 u8_law at) (λ n.
    guard_law (names_class_by (is_array n) pool index) _ (class_by pool index all (arrays_tell n)) (give_law (args.Dims index n))))

-- ---- other operands

local_law : (at : ℕ) → Reads (local_at at) (Then (number w8) (λ n. give (args.Local n)))
unfolding local_at
local_law at = then_law (unsigned_law w8 u8_law at) (λ n. give_law (args.Local n))

num_law : (w : Width) → NumberLaw w → (at : ℕ) → Reads (num_at w at) (Then (signed w) (λ n. give (args.Num n)))
unfolding num_at
num_law w wide at = then_law (signed_law w wide at) (λ n. give_law (args.Num n))

increment_law : (at : ℕ) → Reads (increment_at at) (increment w8 args.Inc)
unfolding increment_at
increment_law at = then_law (unsigned_law w8 u8_law at) (λ n. then_law (signed_law w8 u8_law at) (λ by. give_law (args.Inc n by)))

primitive_law : (r : Row) (at : ℕ) → Reads (primitive_at r at) (Then (number w8) (λ code. when (IsTrue (is_primitive code)) (give (args.Prim code))))
unfolding primitive_at
primitive_law r at = then_law (unsigned_law w8 u8_law at) (λ code. guard_law (is_primitive code) _ (is_true _) (give_law (args.Prim code)))

widened_law : (r : Row) (at code : ℕ) (shape : Option Shape) → Reads (widened_at r at code shape) (widened code shape)
unfolding widened_at
widened_law r at code (Some shapes.L1) = then_law (unsigned_law w16 u16_law at) (λ n. give_law (args.Wide code n))
widened_law r at code (Some shapes.Inc) = then_law (unsigned_law w16 u16_law at) (λ n. then_law (signed_law w16 u16_law at) (λ by. give_law (args.WideInc n by)))
widened_law r at code shape = none_law _

wide_form_law : (r : Row) (at : ℕ) → Reads (wide_at r at) wide
unfolding wide_at
wide_form_law r at = then_law (unsigned_law w8 u8_law at) (λ code. widened_law r at code (shape_of code))

pub plain_law : (pool : List PoolEntry) (r : Row) (at : ℕ) (shape : Shape) → All IsText pool → Reads (plain_at pool r at shape) (plain pool r shape)
unfolding plain_at
plain_law pool r at shapes.L1 all = local_law at
plain_law pool r at shapes.S1 all = num_law w8 u8_law at
plain_law pool r at shapes.S2 all = num_law w16 u16_law at
plain_law pool r at shapes.P1 all = index_law w8 u8_law pool r at all
plain_law pool r at shapes.P2 all = index_law w16 u16_law pool r at all
plain_law pool r at shapes.Inc all = increment_law at
plain_law pool r at shapes.Prim all = primitive_law r at
plain_law pool r at shapes.Itf all = interface_law pool at all
plain_law pool r at shapes.Mul all = dims_law pool at all
plain_law pool r at shapes.Wide all = wide_form_law r at
plain_law pool r at shape all = give_law args.Empty
