-- The typing rules of fields, new objects, class tests and throws (JVM Specification 4.10.1.9: getfield, putfield, new,
-- checkcast, instanceof, athrow). Access checks aren't made (the project's own choice).
use Rattle.std.specs.Prelude.{ℕ, List, [], ◌∷◌, Bool, false, not, ◌&&◌, ◌||◌, ◌==◌, Option, Some, None, slice_get, if◌then◌else◌}
use Rattle.nr_linked.specs.declared.program.built_in.BuiltIn.TheVariants as built_ins
use Rattle.nr_linked.specs.declared.program.tables.MethodInfo.{MethodInfo}
use Rattle.nr_linked.specs.declared.program.tables.ProgramTables.{ProgramTables}
use Rattle.nr_linked.specs.declared.program.tables.Resolved.{Resolved}
use Rattle.nr_linked.specs.declared.program.tables.Resolved.TheVariants as resolved
use Rattle.nr_linked.specs.declared.program.tables.SlotInfo.{SlotInfo}
use Rattle.nr_linked.specs.declared.program.types.VType.{VType}
use Rattle.nr_linked.specs.declared.program.types.VType.TheVariants.{Top, Int, UninitThis, Uninit, Class}
use Rattle.nr_linked.specs.declared.typing.fault.OpFault.TheVariants.{NeedsInit}
use Rattle.nr_linked.specs.declared.typing.fault.Wanted.TheVariants as wanted
use Rattle.nr_linked.specs.Kinds.{class_kind}
use Rattle.nr_linked.specs.Slots.{slots_of}
use Rattle.nr_linked.specs.BuiltIns.{built_in}
use Rattle.nr_linked.specs.TypingFrames.{TypeFrame, of_kind, is_operand_assignable}
use Rattle.nr_linked.specs.Initialisers.{is_initialiser}
use Rattle.nr_linked.specs.TypingChecks.{Checked, NoRule, need, take_for, take_that, take_reference, leaves, leaves_operands}

-- ---- fields

abbrev pub with_slot : Option SlotInfo → (SlotInfo → Checked) → Checked
with_slot None k = NoRule
with_slot (Some s) k = k s

abbrev pub get_slot_rule : ProgramTables → MethodInfo → ℕ → SlotInfo → TypeFrame → Checked
get_slot_rule P m c s f = take_for P (Class (class_kind c)) 0 f.operands (λ ts. leaves_operands m f (of_kind s.kind ∷ ts))

-- the receiver of putfield: of the named class, or in an initialiser `this` before it is initialised, where the class
-- itself declares the field
abbrev pub is_put_receiver : ProgramTables → MethodInfo → ℕ → SlotInfo → VType → Bool
is_put_receiver P m c s UninitThis = is_initialiser m && s.declared_in == m.«class»
is_put_receiver P m c s t = is_operand_assignable P t (Class (class_kind c))

abbrev pub put_slot_rule : ProgramTables → MethodInfo → ℕ → SlotInfo → TypeFrame → Checked
put_slot_rule P m c s f = take_for P (of_kind s.kind) 0 f.operands (λ ts.
    take_that (is_put_receiver P m c s) (wanted.Type (Class (class_kind c))) 1 ts (λ t us. leaves_operands m f us))

-- getfield, of the slot that linking found in the named class
abbrev pub get_field_rule : ProgramTables → MethodInfo → Resolved → TypeFrame → Checked
get_field_rule P m (resolved.Slot c i) f = with_slot (slice_get (slots_of P c) i) (λ s. get_slot_rule P m c s f)
get_field_rule P m found f = NoRule

-- putfield
abbrev pub put_field_rule : ProgramTables → MethodInfo → Resolved → TypeFrame → Checked
put_field_rule P m (resolved.Slot c i) f = with_slot (slice_get (slots_of P c) i) (λ s. put_slot_rule P m c s f)
put_field_rule P m found f = NoRule

-- ---- new objects

-- an object that the `new` at the offset made, before it is initialised
abbrev pub is_made_at : ℕ → VType → Bool
is_made_at at (Uninit n) = n == at
is_made_at at t = false

abbrev pub holds_made_at : ℕ → List VType → Bool
holds_made_at at [] = false
holds_made_at at (t ∷ ts) = is_made_at at t || holds_made_at at ts

-- such types become Top
abbrev pub forgotten : ℕ → List VType → List VType
forgotten at [] = []
forgotten at (t ∷ ts) = (if is_made_at at t then Top else t) ∷ forgotten at ts

-- new, at this offset: none of its earlier objects is an operand that isn't initialised, and local variables forget them
abbrev pub new_rule : MethodInfo → ℕ → Resolved → TypeFrame → Checked
new_rule m at (resolved.Kind k) f = need (not (holds_made_at at f.operands)) NeedsInit
    (leaves m (record f { locals = forgotten at f.locals; operands = Uninit at ∷ f.operands }))
new_rule m at found f = NoRule

-- ---- class tests

-- checkcast (192) and instanceof
abbrev pub test_rule : MethodInfo → ℕ → Resolved → TypeFrame → Checked
test_rule m code (resolved.Kind k) f = take_reference 0 f.operands (λ t ts.
    leaves_operands m f ((if code == 192 then Class k else Int) ∷ ts))
test_rule m code found f = NoRule

-- ---- throws

abbrev pub throwable_type : ProgramTables → VType
throwable_type P = Class (class_kind (built_in P built_ins.Throwable))

-- athrow
abbrev pub throw_rule : ProgramTables → MethodInfo → TypeFrame → Checked
throw_rule P m f = take_for P (throwable_type P) 0 f.operands (λ ts. leaves_operands m f ts)
