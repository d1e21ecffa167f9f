-- The typing rules of arrays (JVM Specification 4.10.1.9: iaload to saload, iastore to sastore, newarray, anewarray,
-- multianewarray, arraylength).
use Rattle.std.specs.Prelude.{ℕ, List, ◌∷◌, Bool, true, false, Option, Some, None}
use Rattle.std.specs.Option.{option_map_or}
use Rattle.nr_prog.specs.declared.body.instruction.Args.{Args}
use Rattle.nr_prog.specs.declared.body.instruction.Args.TheVariants as args
use Rattle.nr_linked.specs.declared.program.built_in.BuiltIn.TheVariants as built_ins
use Rattle.nr_linked.specs.declared.program.kind.Base.{Base}
use Rattle.nr_linked.specs.declared.program.kind.Base.TheVariants as bases
use Rattle.nr_linked.specs.declared.program.kind.Kind.{Kind}
use Rattle.nr_linked.specs.declared.program.tables.MethodInfo.{MethodInfo}
use Rattle.nr_linked.specs.declared.program.tables.ProgramTables.{ProgramTables}
use Rattle.nr_linked.specs.declared.program.tables.Resolved.{Resolved}
use Rattle.nr_linked.specs.declared.program.tables.Resolved.TheVariants as resolved
use Rattle.nr_linked.specs.declared.program.types.VType.{VType}
use Rattle.nr_linked.specs.declared.program.types.VType.TheVariants.{Int, Long, Null, Class}
use Rattle.nr_linked.specs.declared.typing.fault.Wanted.{Wanted}
use Rattle.nr_linked.specs.declared.typing.fault.Wanted.TheVariants as wanted
use Rattle.nr_linked.specs.Kinds.{class_kind, array_of, element_of, is_array}
use Rattle.nr_linked.specs.ArrayKinds.{Elements, Of, Bytes, References, elements_of, is_element, primitive_of}
use Rattle.nr_linked.specs.BuiltIns.{built_in}
use Rattle.nr_linked.specs.TypingFrames.{TypeFrame, of_base, is_long}
use Rattle.nr_linked.specs.TypingChecks.{Checked, NoRule, take_int, take_ints, take_that, take_reference, leaves_operands}

-- ---- loads and stores

-- an array with such elements, or null
abbrev pub is_array_with : Elements → VType → Bool
is_array_with e Null = true
is_array_with e (Class k) = option_map_or (is_element e) (element_of k) false
is_array_with e t = false

-- the array that stands for those that the instruction takes
abbrev pub wanted_array : ProgramTables → Elements → Wanted
wanted_array P (Of base) = wanted.Type (Class (record { dims = 1; base = base }))
wanted_array P Bytes = wanted.Type (Class (record { dims = 1; base = bases.Byte }))
wanted_array P References = wanted.Type (Class (array_of (class_kind (built_in P built_ins.Object))))

abbrev pub take_array : ProgramTables → Elements → ℕ → List VType → (VType → List VType → Checked) → Checked
take_array P e d ts k = take_that (is_array_with e) (wanted_array P e) d ts k

-- the type of what is loaded: null from null, where references are
abbrev pub loaded_type : Elements → VType → VType
loaded_type (Of base) array = of_base base
loaded_type Bytes array = Int
loaded_type References (Class k) = option_map_or Class (element_of k) Null
loaded_type References array = Null

-- a value to be stored; which references are of the array's elements is tested in the run
abbrev pub take_stored : Elements → ℕ → List VType → (List VType → Checked) → Checked
take_stored References d ts k = take_reference d ts (λ t us. k us)
take_stored (Of bases.Long) d ts k = take_that is_long (wanted.Type Long) d ts (λ t us. k us)
take_stored e d ts k = take_int d ts k

abbrev pub with_elements : Option Elements → (Elements → Checked) → Checked
with_elements None k = NoRule
with_elements (Some e) k = k e

-- iaload, laload, aaload, baload, caload, saload
abbrev pub array_load_rule : ProgramTables → MethodInfo → ℕ → TypeFrame → Checked
array_load_rule P m code f = with_elements (elements_of code) (λ e.
    take_int 0 f.operands (λ ts. take_array P e 1 ts (λ a us. leaves_operands m f (loaded_type e a ∷ us))))

-- iastore, lastore, aastore, bastore, castore, sastore
abbrev pub array_store_rule : ProgramTables → MethodInfo → ℕ → TypeFrame → Checked
array_store_rule P m code f = with_elements (elements_of code) (λ e.
    take_stored e 0 f.operands (λ ts. take_int 1 ts (λ us. take_array P e 2 us (λ a vs. leaves_operands m f vs))))

-- ---- lengths

abbrev pub is_any_array : VType → Bool
is_any_array Null = true
is_any_array (Class k) = is_array k
is_any_array t = false

abbrev pub length_rule : MethodInfo → TypeFrame → Checked
length_rule m f = take_that is_any_array wanted.AnyReference 0 f.operands (λ a ts. leaves_operands m f (Int ∷ ts))

-- ---- new arrays

-- an array of this kind, from so many counts
abbrev pub made_of_counts : MethodInfo → ℕ → Kind → TypeFrame → Checked
made_of_counts m n k f = take_ints n 0 f.operands (λ ts. leaves_operands m f (Class k ∷ ts))

abbrev pub primitive_array_rule : MethodInfo → Option Base → TypeFrame → Checked
primitive_array_rule m None f = NoRule
primitive_array_rule m (Some base) f = made_of_counts m 1 (record { dims = 1; base = base }) f

-- newarray; anewarray, of the named elements; multianewarray, of the named kind
abbrev pub new_array_rule : MethodInfo → Args → Resolved → TypeFrame → Checked
new_array_rule m (args.Prim code) found f = primitive_array_rule m (primitive_of code) f
new_array_rule m (args.Pool i) (resolved.Kind k) f = made_of_counts m 1 (array_of k) f
new_array_rule m (args.Dims i n) (resolved.Kind k) f = made_of_counts m n k f
new_array_rule m a found f = NoRule
