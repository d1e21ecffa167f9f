-- Decoding code, as it is defined, takes no memory.
use Rattle.std.proofs.Common.{◌≡◌, ℕ, ◌+◌, Bool, true, false, cond, List, [], ◌∷◌, ◌++◌, length, Option, Some, None, Result, Ok, Err, refl, ap, ◌∙◌}
use Rattle.std.specs.Prelude.{ℤ, pos, negsuc, ◌&&◌, nat_lt}
use Rattle.std.specs.Int.{Width, w8, w16, w32}
use Rattle.nr_base.specs.Place.{Place}
use Rattle.nr_base.specs.Reader.{Reader}
use Rattle.nr_base.specs.declared.desc.types.Desc.{Desc}
use Rattle.nr_optable.specs.declared.table.Row.{Row}
use Rattle.nr_optable.specs.declared.table.Shape.{Shape}
use Rattle.nr_optable.specs.declared.table.Shape.TheVariants as shapes
use Rattle.nr_prog.specs.declared.pool.PoolEntry.{PoolEntry}
use Rattle.nr_prog.specs.declared.member.Handler.{Handler}
use Rattle.nr_prog.specs.declared.member.Method.{Method}
use Rattle.nr_prog.specs.declared.member.Code.{Code}
use Rattle.nr_prog.specs.declared.parts.ClassParts.{ClassParts}
use Rattle.nr_prog.specs.declared.body.instruction.Instr.{Instr}
use Rattle.nr_prog.specs.declared.body.frame_map.FrameMap.{FrameMap}
use Rattle.nr_prog.specs.declared.body.frame_map.MapType.{MapType}
use Rattle.nr_prog.specs.declared.body.whole.Body.{Body}
use Rattle.nr_prog.specs.BodyOperands.{shape_of, row_of}
use Rattle.nr_prog.specs.BodyMaps.{Mapped, at_entry}
use Rattle.nr_classread.specs.ClassReading.{class_of}
use Rattle.nr_classread.specs.declared.fault.ClassFault.{ClassFault}
use Rattle.nr_classread.specs.declared.fault.ClassFault.TheVariants as files
use Rattle.nr_code.specs.LoadFaults.{of_class, of_code}
use Rattle.nr_instrs.specs.Numbers.{unsigned_at, signed_at, branch_at, skipped_at}
use Rattle.nr_instrs.specs.NameTests.{class_desc_at}
use Rattle.nr_instrs.specs.OperandReading.{checked_at, index_at, interface_at, dims_at, local_at, num_at, increment_at, primitive_at, widened_at, wide_at, plain_at, table_at, pair_at, pairs_at, lookup_at, jump_at, operands_at}
use Rattle.nr_instrs.specs.InstrReading.{listed_at, row_at, instr_at}
use Rattle.nr_instrs.specs.Checks.{then_on, walk, also, is_among, settled_target, settled_targets, settled_args, settled, starts_of, settled_all}
use Rattle.nr_code.specs.HandlerChecks.{is_handler, handler_step, handlers_checked}
use Rattle.nr_code.specs.MapReading.{u1_at, u2_at, class_given, class_type_at, uninit_at, type_by_at, map_type_at, map_types_at, counted_types_at, delta_at, full_at, frame_types_at, placed_at, frame_at, frames_at, maps_in, entry_of}
use Rattle.nr_instrs.specs.Decoding.{read_of, raws_of, instrs_of}
use Rattle.nr_code.specs.Decoding.{maps_of, body_of, body_in, body_step, bodies_of, loaded_of}
use Rattle.nr_instrs.specs.declared.raw.Operands.{Operands}
use Rattle.nr_instrs.specs.declared.raw.Operands.TheVariants as raw
use Rattle.nr_instrs.specs.declared.raw.RawInstr.{RawInstr}
use Rattle.nr_instrs.specs.declared.fault.CodeFault.{CodeFault}
use Rattle.nr_instrs.specs.declared.fault.CodeFault.TheVariants as faults
use Rattle.nr_code.specs.declared.fault.LoadFault.TheVariants as loads
use Rattle.nr_cli.proofs.Readers.{Avoids, Never, ok_avoids, err_avoids, mapped_avoids, pure_never, refuse_never, bind_never, choose_never, from_never, with_fault_never, times_never, onto_never, to_end_never, whole_avoids}
use Rattle.nr_cli.proofs.FileReading.{class_avoids}

abbrev No : {A : Type 0} → Reader CodeFault A → Type 0
No r = Never faults.NoMemory r

-- ---- numbers

unsigned_never : (w : Width) (at : ℕ) → No (unsigned_at w at)
unfolding unsigned_at
unsigned_never w at = with_fault_never _ _ _ (λ g e. absurd cc)

signed_never : (w : Width) (at : ℕ) → No (signed_at w at)
unfolding signed_at
signed_never w at = bind_never _ (unsigned_never w at) (λ bits. pure_never _ _)

branch_never : (w : Width) (at : ℕ) → No (branch_at w at)
unfolding branch_at
branch_never w at = bind_never _ (signed_never w at) (λ offset. pure_never _ _)

skipped_never : (n at : ℕ) → No (skipped_at n at)
unfolding skipped_at
skipped_never n at = bind_never _ (with_fault_never _ _ _ (λ g e. absurd cc)) (λ bytes. pure_never _ _)

-- ---- operands

checked_never : (pool : List PoolEntry) (r : Row) (at index : ℕ) → No (checked_at pool r at index)
unfolding checked_at
checked_never pool r at index = choose_never _ _ (choose_never _ _ (pure_never _ _) (refuse_never _ _ (λ e. absurd cc))) (refuse_never _ _ (λ e. absurd cc))

index_never : (w : Width) (pool : List PoolEntry) (r : Row) (at : ℕ) → No (index_at w pool r at)
unfolding index_at
index_never w pool r at = bind_never _ (unsigned_never w at) (λ index. checked_never pool r at index)

interface_never : (pool : List PoolEntry) (at : ℕ) → No (interface_at pool at)
unfolding interface_at
interface_never pool at =
    bind_never _ (unsigned_never w16 at) (λ index. bind_never _ (unsigned_never w8 at) (λ count. bind_never _ (unsigned_never w8 at) (λ zero.
    choose_never _ _ (pure_never _ _) (refuse_never _ _ (λ e. absurd cc)))))

dims_never : (pool : List PoolEntry) (at : ℕ) → No (dims_at pool at)
unfolding dims_at
dims_never pool at =
    bind_never _ (unsigned_never w16 at) (λ index. bind_never _ (unsigned_never w8 at) (λ n. choose_never _ _ (pure_never _ _) (refuse_never _ _ (λ e. absurd cc))))

local_never : (at : ℕ) → No (local_at at)
unfolding local_at
local_never at = bind_never _ (unsigned_never w8 at) (λ n. pure_never _ _)

num_never : (w : Width) (at : ℕ) → No (num_at w at)
unfolding num_at
num_never w at = bind_never _ (signed_never w at) (λ n. pure_never _ _)

increment_never : (at : ℕ) → No (increment_at at)
unfolding increment_at
increment_never at = bind_never _ (unsigned_never w8 at) (λ n. bind_never _ (signed_never w8 at) (λ by. pure_never _ _))

primitive_never : (r : Row) (at : ℕ) → No (primitive_at r at)
unfolding primitive_at
primitive_never r at = bind_never _ (unsigned_never w8 at) (λ code. choose_never _ _ (pure_never _ _) (refuse_never _ _ (λ e. absurd cc)))

out : (r : Row) (at : ℕ) → faults.OutOfProfile at r.code ≡ faults.NoMemory → ⊥
out r at e = absurd cc

widened_never : (r : Row) (at code : ℕ) (shape : Option Shape) → No (widened_at r at code shape)
unfolding widened_at
widened_never r at code None = refuse_never _ _ (out r at)
widened_never r at code (Some shapes.L1) = bind_never _ (unsigned_never w16 at) (λ n. pure_never _ _)
widened_never r at code (Some shapes.Inc) = bind_never _ (unsigned_never w16 at) (λ n. bind_never _ (signed_never w16 at) (λ by. pure_never _ _))
widened_never r at code (Some shapes.Plain) = refuse_never _ _ (out r at)
widened_never r at code (Some shapes.S1) = refuse_never _ _ (out r at)
widened_never r at code (Some shapes.S2) = refuse_never _ _ (out r at)
widened_never r at code (Some shapes.P1) = refuse_never _ _ (out r at)
widened_never r at code (Some shapes.P2) = refuse_never _ _ (out r at)
widened_never r at code (Some shapes.B2) = refuse_never _ _ (out r at)
widened_never r at code (Some shapes.B4) = refuse_never _ _ (out r at)
widened_never r at code (Some shapes.Prim) = refuse_never _ _ (out r at)
widened_never r at code (Some shapes.Itf) = refuse_never _ _ (out r at)
widened_never r at code (Some shapes.Mul) = refuse_never _ _ (out r at)
widened_never r at code (Some shapes.Tab) = refuse_never _ _ (out r at)
widened_never r at code (Some shapes.Look) = refuse_never _ _ (out r at)
widened_never r at code (Some shapes.Wide) = refuse_never _ _ (out r at)

wide_never : (r : Row) (at : ℕ) → No (wide_at r at)
unfolding wide_at
wide_never r at = bind_never _ (unsigned_never w8 at) (λ code. widened_never r at code (shape_of code))

plain_never : (pool : List PoolEntry) (r : Row) (at : ℕ) (shape : Shape) → No (plain_at pool r at shape)
unfolding plain_at
plain_never pool r at shapes.L1 = local_never at
plain_never pool r at shapes.S1 = num_never w8 at
plain_never pool r at shapes.S2 = num_never w16 at
plain_never pool r at shapes.P1 = index_never w8 pool r at
plain_never pool r at shapes.P2 = index_never w16 pool r at
plain_never pool r at shapes.Inc = increment_never at
plain_never pool r at shapes.Prim = primitive_never r at
plain_never pool r at shapes.Itf = interface_never pool at
plain_never pool r at shapes.Mul = dims_never pool at
plain_never pool r at shapes.Wide = wide_never r at
plain_never pool r at shapes.Plain = pure_never _ _
plain_never pool r at shapes.B2 = pure_never _ _
plain_never pool r at shapes.B4 = pure_never _ _
plain_never pool r at shapes.Tab = pure_never _ _
plain_never pool r at shapes.Look = pure_never _ _

table_never : (at : ℕ) → No (table_at at)
unfolding table_at
table_never at =
    bind_never _ (skipped_never _ at) (λ skipped. bind_never _ (branch_never w32 at) (λ other. bind_never _ (signed_never w32 at) (λ low. bind_never _ (signed_never w32 at) (λ high.
    choose_never _ _ (bind_never _ (times_never _ (onto_never _ (branch_never w32 at)) _ _) (λ targets. pure_never _ _)) (refuse_never _ _ (λ e. absurd cc))))))

pair_never : (at : ℕ) (s : List ℤ × List ℤ) → No (pair_at at s)
unfolding pair_at
pair_never at s = bind_never _ (signed_never w32 at) (λ key. bind_never _ (branch_never w32 at) (λ to. pure_never _ _))

pairs_never : (at : ℕ) (other : ℤ) (count : ℕ) → No (pairs_at at other count)
unfolding pairs_at
pairs_never at other count = bind_never _ (times_never _ (pair_never at) _ _) (λ pairs. choose_never _ _ (pure_never _ _) (refuse_never _ _ (λ e. absurd cc)))

lookup_never : (at : ℕ) → No (lookup_at at)
unfolding lookup_at
lookup_never at =
    bind_never _ (skipped_never _ at) (λ skipped. bind_never _ (branch_never w32 at) (λ other. bind_never _ (unsigned_never w32 at) (λ count.
    choose_never _ _ (pairs_never at other count) (refuse_never _ _ (λ e. absurd cc)))))

jump_never : (w : Width) (at : ℕ) → No (jump_at w at)
unfolding jump_at
jump_never w at = bind_never _ (branch_never w at) (λ to. pure_never _ _)

operands_never : (pool : List PoolEntry) (r : Row) (at : ℕ) (shape : Shape) → No (operands_at pool r at shape)
unfolding operands_at
operands_never pool r at shapes.B2 = jump_never w16 at
operands_never pool r at shapes.B4 = jump_never w32 at
operands_never pool r at shapes.Tab = table_never at
operands_never pool r at shapes.Look = lookup_never at
operands_never pool r at shapes.L1 = bind_never _ (plain_never pool r at shapes.L1) (λ args. pure_never _ _)
operands_never pool r at shapes.S1 = bind_never _ (plain_never pool r at shapes.S1) (λ args. pure_never _ _)
operands_never pool r at shapes.S2 = bind_never _ (plain_never pool r at shapes.S2) (λ args. pure_never _ _)
operands_never pool r at shapes.P1 = bind_never _ (plain_never pool r at shapes.P1) (λ args. pure_never _ _)
operands_never pool r at shapes.P2 = bind_never _ (plain_never pool r at shapes.P2) (λ args. pure_never _ _)
operands_never pool r at shapes.Inc = bind_never _ (plain_never pool r at shapes.Inc) (λ args. pure_never _ _)
operands_never pool r at shapes.Prim = bind_never _ (plain_never pool r at shapes.Prim) (λ args. pure_never _ _)
operands_never pool r at shapes.Itf = bind_never _ (plain_never pool r at shapes.Itf) (λ args. pure_never _ _)
operands_never pool r at shapes.Mul = bind_never _ (plain_never pool r at shapes.Mul) (λ args. pure_never _ _)
operands_never pool r at shapes.Wide = bind_never _ (plain_never pool r at shapes.Wide) (λ args. pure_never _ _)
operands_never pool r at shapes.Plain = bind_never _ (plain_never pool r at shapes.Plain) (λ args. pure_never _ _)

-- ---- instructions

unlisted : (b : Bool) (at code : ℕ) → cond b (faults.UnknownOp at) (faults.OutOfProfile at code) ≡ faults.NoMemory → ⊥
unlisted true at code e = absurd cc
unlisted false at code e = absurd cc

listed_never : (at code : ℕ) (r : Option Row) → No (listed_at at code r)
unfolding listed_at
listed_never at code None = refuse_never _ _ (unlisted (nat_lt 201 code) at code)
listed_never at code (Some r) = pure_never _ _

row_never : (at : ℕ) → No (row_at at)
unfolding row_at
row_never at = bind_never _ (unsigned_never w8 at) (λ code. listed_never at code (row_of code))

instr_never : (pool : List PoolEntry) → No (instr_at pool)
unfolding instr_at
instr_never pool = from_never _ (λ at. bind_never _ (row_never at) (λ r. bind_never _ (operands_never pool r at r.shape) (λ operands. pure_never _ _)))

read_avoids : (r : Result (List RawInstr × Place) CodeFault) → Avoids faults.NoMemory r → Avoids faults.NoMemory (read_of r)
read_avoids (Ok x) rs = ok_avoids _ _
read_avoids (Err f) rs = record { avoids = λ e. rs.avoids cc }

raws_avoid : (pool : List PoolEntry) (bytes : List ℕ) → Avoids faults.NoMemory (raws_of pool bytes)
unfolding raws_of
raws_avoid pool bytes = read_avoids _ ((to_end_never _ (onto_never _ (instr_never pool)) []).never _)

-- ---- one thing after the other

on_avoids : {A B F : Type 0} (d : F) (a : Result A F) (f : A → Result B F) → Avoids d a → ((x : A) → Avoids d (f x)) → Avoids d (then_on a f)
on_avoids d (Ok x) f good fs = fs x
on_avoids d (Err g) f good fs = record { avoids = λ e. good.avoids cc }

walk_avoids : {S X F : Type 0} (d : F) (step : S → X → Result S F) → ((s : S) (x : X) → Avoids d (step s x)) → (s : S) (xs : List X) → Avoids d (walk step s xs)
unfolding walk
walk_avoids d step steps s [] = ok_avoids d s
walk_avoids d step steps s (x ∷ xs) = on_avoids d (step s x) (λ t. walk step t xs) (steps s x) (λ t. walk_avoids d step steps t xs)

also_avoids : {X Y F : Type 0} (d : F) (f : X → Result Y F) → ((x : X) → Avoids d (f x)) → (ys : List Y) (x : X) → Avoids d (also f ys x)
unfolding also
also_avoids d f fs ys x = on_avoids d (f x) (λ y. Ok (ys ++ y ∷ [])) (fs x) (λ y. ok_avoids d _)

by : {A F : Type 0} (d : F) (b : Bool) (x y : Result A F) → Avoids d x → Avoids d y → Avoids d (cond b x y)
by d true x y xs ys = xs
by d false x y xs ys = ys

target_avoids : (starts : List ℕ) (at : ℕ) (to : ℤ) → Avoids faults.NoMemory (settled_target starts at to)
unfolding settled_target
target_avoids starts at (pos to) = by _ (nat_lt to 65536 && is_among starts to) _ _ (ok_avoids _ _) (err_avoids _ _ (λ e. absurd cc))
target_avoids starts at (negsuc n) = err_avoids _ _ (λ e. absurd cc)

targets_avoid : (starts : List ℕ) (at : ℕ) (targets : List ℤ) → Avoids faults.NoMemory (settled_targets starts at targets)
unfolding settled_targets
targets_avoid starts at targets = walk_avoids _ _ (also_avoids _ _ (target_avoids starts at)) [] targets

args_avoid : (starts : List ℕ) (at : ℕ) (o : Operands) → Avoids faults.NoMemory (settled_args starts at o)
unfolding settled_args
args_avoid starts at (raw.Plain args) = ok_avoids _ _
args_avoid starts at (raw.Branch to) = on_avoids _ _ _ (target_avoids starts at to) (λ x. ok_avoids _ _)
args_avoid starts at (raw.Switch other low targets) =
    on_avoids _ _ _ (target_avoids starts at other) (λ x. on_avoids _ _ _ (targets_avoid starts at targets) (λ y. ok_avoids _ _))
args_avoid starts at (raw.Look other keys targets) =
    on_avoids _ _ _ (target_avoids starts at other) (λ x. on_avoids _ _ _ (targets_avoid starts at targets) (λ y. ok_avoids _ _))

settled_avoids : (starts : List ℕ) (r : RawInstr) → Avoids faults.NoMemory (settled starts r)
unfolding settled
settled_avoids starts r = on_avoids _ _ _ (args_avoid starts r.at r.operands) (λ args. ok_avoids _ _)

all_avoid : (raws : List RawInstr) → Avoids faults.NoMemory (settled_all raws)
unfolding settled_all
all_avoid raws = walk_avoids _ _ (also_avoids _ _ (settled_avoids (starts_of raws))) [] raws

instrs_avoid : (pool : List PoolEntry) (bytes : List ℕ) → Avoids faults.NoMemory (instrs_of pool bytes)
unfolding instrs_of
instrs_avoid pool bytes = on_avoids _ _ _ (raws_avoid pool bytes) all_avoid

handler_avoids : (pool : List PoolEntry) (len : ℕ) (is : List Instr) (n : ℕ) (h : Handler) → Avoids faults.NoMemory (handler_step pool len is n h)
unfolding handler_step
handler_avoids pool len is n h = by _ (is_handler pool len is h) _ _ (ok_avoids _ _) (err_avoids _ _ (λ e. absurd cc))

handlers_avoid : (pool : List PoolEntry) (len : ℕ) (is : List Instr) (handlers : List Handler) → Avoids faults.NoMemory (handlers_checked pool len is handlers)
unfolding handlers_checked
handlers_avoid pool len is handlers = walk_avoids _ _ (handler_avoids pool len is) 0 handlers

-- ---- frame maps

u1_never : No u1_at
unfolding u1_at
u1_never = with_fault_never _ _ _ (λ g e. absurd cc)

u2_never : No u2_at
unfolding u2_at
u2_never = with_fault_never _ _ _ (λ g e. absurd cc)

given_never : (at : ℕ) (d : Option Desc) → No (class_given at d)
unfolding class_given
given_never at None = refuse_never _ _ (λ e. absurd cc)
given_never at (Some d) = pure_never _ _

type_by_never : (pool : List PoolEntry) (is : List Instr) (at tag : ℕ) → No (type_by_at pool is at tag)
unfolding type_by_at class_type_at uninit_at
type_by_never pool is at tag =
    choose_never _ _ (pure_never _ _)
    (choose_never _ _ (pure_never _ _)
    (choose_never _ _ (pure_never _ _)
    (choose_never _ _ (pure_never _ _)
    (choose_never _ _ (pure_never _ _)
    (choose_never _ _ (bind_never _ u2_never (λ index. given_never at (class_desc_at pool index)))
    (choose_never _ _ (bind_never _ u2_never (λ offset. choose_never _ _ (pure_never _ _) (refuse_never _ _ (λ e. absurd cc))))
    (refuse_never _ _ (λ e. absurd cc))))))))

type_never : (pool : List PoolEntry) (is : List Instr) → No (map_type_at pool is)
unfolding map_type_at
type_never pool is = from_never _ (λ at. bind_never _ u1_never (λ tag. type_by_never pool is at tag))

types_never : (pool : List PoolEntry) (is : List Instr) (k : ℕ) → No (map_types_at pool is k)
unfolding map_types_at
types_never pool is k = times_never _ (onto_never _ (type_never pool is)) k []

counted_never : (pool : List PoolEntry) (is : List Instr) → No (counted_types_at pool is)
unfolding counted_types_at
counted_never pool is = bind_never _ u2_never (λ count. types_never pool is count)

delta_never : (tag : ℕ) → No (delta_at tag)
unfolding delta_at
delta_never tag = choose_never _ _ (pure_never _ _) (choose_never _ _ (pure_never _ _) u2_never)

full_never : (pool : List PoolEntry) (is : List Instr) → No (full_at pool is)
unfolding full_at
full_never pool is = bind_never _ (counted_never pool is) (λ all. bind_never _ (counted_never pool is) (λ stack. pure_never _ _))

frame_types_never : (pool : List PoolEntry) (is : List Instr) (tag : ℕ) (locals : List MapType) → No (frame_types_at pool is tag locals)
unfolding frame_types_at
frame_types_never pool is tag locals =
    choose_never _ _ (bind_never _ (type_never pool is) (λ t. pure_never _ _))
    (choose_never _ _ (full_never pool is)
    (choose_never _ _ (bind_never _ (types_never pool is _) (λ more. pure_never _ _)) (pure_never _ _)))

placed_never : (pool : List PoolEntry) (is : List Instr) (locals : List MapType) (maps : List FrameMap) (at tag offset : ℕ) → No (placed_at pool is locals maps at tag offset)
unfolding placed_at
placed_never pool is locals maps at tag offset =
    choose_never _ _ (bind_never _ (frame_types_never pool is tag locals) (λ f. pure_never _ _)) (refuse_never _ _ (λ e. absurd cc))

frame_never : (pool : List PoolEntry) (is : List Instr) (s : Mapped) → No (frame_at pool is s)
unfolding frame_at
frame_never pool is s = from_never _ (λ at. bind_never _ u1_never (λ tag.
    choose_never _ _ (bind_never _ (delta_never tag) (λ d. placed_never pool is s.locals s.maps at tag (s.next + d))) (refuse_never _ _ (λ e. absurd cc))))

frames_never : (pool : List PoolEntry) (is : List Instr) (locals : List MapType) → No (frames_at pool is locals)
unfolding frames_at
frames_never pool is locals = bind_never _ u2_never (λ count. times_never _ (frame_never pool is) count (at_entry locals))

in_avoids : (r : Result Mapped CodeFault) → Avoids faults.NoMemory r → Avoids faults.NoMemory (maps_in r)
in_avoids (Ok s) rs = ok_avoids _ _
in_avoids (Err f) rs = record { avoids = λ e. rs.avoids cc }

maps_avoid : (c : ClassParts) (m : Method) (is : List Instr) (contents : Option (List ℕ)) → Avoids faults.NoMemory (maps_of c m is contents)
unfolding maps_of
maps_avoid c m is None = ok_avoids _ _
maps_avoid c m is (Some contents) = in_avoids _ (whole_avoids _ _ (λ at e. absurd cc) (frames_never c.pool is (entry_of c m)) contents)

-- ---- whole code and classes

body_avoids : (c : ClassParts) (m : Method) (code : Code) → Avoids faults.NoMemory (body_of c m code)
unfolding body_of
body_avoids c m code =
    on_avoids _ _ _ (instrs_avoid c.pool code.bytes) (λ is.
    on_avoids _ _ _ (handlers_avoid c.pool (length code.bytes) is code.handlers) (λ n.
    on_avoids _ _ _ (maps_avoid c m is code.maps) (λ maps. ok_avoids _ _)))

of_code_never : (place : ℕ) (f : CodeFault) → (f ≡ faults.NoMemory → ⊥) → of_code place f ≡ loads.NoMemory → ⊥
of_code_never place faults.NoMemory ne e = ne refl
of_code_never place (faults.UnknownOp a) ne e = absurd cc
of_code_never place (faults.OutOfProfile a b) ne e = absurd cc
of_code_never place (faults.Short a) ne e = absurd cc
of_code_never place (faults.Target a b) ne e = absurd cc
of_code_never place (faults.PoolUse a) ne e = absurd cc
of_code_never place (faults.SwitchOrder a) ne e = absurd cc
of_code_never place (faults.HandlerRange a) ne e = absurd cc
of_code_never place (faults.MapTag a) ne e = absurd cc
of_code_never place (faults.MapOrder a) ne e = absurd cc

of_class_never : (f : ClassFault) → (f ≡ files.NoMemory → ⊥) → of_class f ≡ loads.NoMemory → ⊥
of_class_never files.NoMemory ne e = ne refl
of_class_never f ne e = absurd cc

one_avoids : (c : ClassParts) (place : ℕ) (m : Method) (code : Option Code) → Avoids loads.NoMemory (body_in c place m code)
unfolding body_in
one_avoids c place m None = ok_avoids _ _
one_avoids c place m (Some code) =
    let own = body_avoids c m code in
    on_avoids _ _ _ (mapped_avoids _ (of_code place) (body_of c m code) (λ f was. of_code_never place f (λ e. own.avoids (was ∙ ap Err e)))) (λ b. ok_avoids _ _)

step_avoids : (c : ClassParts) (bodies : List (Option Body)) (m : Method) → Avoids loads.NoMemory (body_step c bodies m)
unfolding body_step
step_avoids c bodies m = on_avoids _ _ _ (one_avoids c (length bodies) m m.code) (λ b. ok_avoids _ _)

bodies_avoid : (c : ClassParts) → Avoids loads.NoMemory (bodies_of c)
unfolding bodies_of
bodies_avoid c = walk_avoids _ _ (step_avoids c) [] c.methods

pub loaded_avoids : (bytes : List ℕ) → Avoids loads.NoMemory (loaded_of bytes)
unfolding loaded_of
loaded_avoids bytes =
    let own = class_avoids bytes in
    on_avoids _ _ _ (mapped_avoids _ of_class (class_of bytes) (λ f was. of_class_never f (λ e. own.avoids (was ∙ ap Err e))))
    (λ c. on_avoids _ _ _ (bodies_avoid c) (λ bodies. ok_avoids _ _))
