-- How calls that change a frame in place answer as the rules do.
use Rattle.std.specs.Prelude.{◌≡◌, List, [], ◌∷◌, Option, Some, None, Result, Ok, Err}
use Rattle.std.specs.Borrow.{Bor}
use Rattle.nr_linked.specs.declared.program.types.VFrame.{VFrame}
use Rattle.nr_linked.specs.declared.program.types.VType.{VType}
use Rattle.nr_linked.specs.declared.typing.fault.OpFault.{OpFault}
use Rattle.nr_linked.specs.ArrayKinds.{Elements, Of, Bytes, References}
use Rattle.nr_linked.specs.TypingChecks.{Checked, Leaves, Refused, NoRule}
use Rattle.nr_linked.specs.TypingFrames.{TypeFrame, turned}
use Rattle.nr_verify_ops.specs.declared.elements.Elements.{Elements as Held}
use Rattle.nr_verify_ops.specs.declared.elements.Elements.TheVariants as array
use Rattle.nr_verify_ops.specs.declared.error.OpError.{OpError}
use Rattle.nr_verify_ops.specs.declared.error.OpError.TheVariants as ops
use Rattle.nr_verify_ops.specs.declared.error.RuleError.{RuleError}
use Rattle.nr_verify_ops.specs.declared.error.RuleError.TheVariants as rules

-- with one more operand on top
abbrev pub pushed : VType → TypeFrame → TypeFrame
pushed t f = record f { operands = t ∷ f.operands }

abbrev pub with_operands : TypeFrame → List VType → TypeFrame
with_operands f ts = record f { operands = ts }

-- what a rule gives where one of its checks answered this
abbrev pub met : {A : Type 0} → Result A OpFault → (A → Checked) → Checked
met (Ok a) k = k a
met (Err e) k = Refused e

-- the call answered as the rule says, and left this frame; or there was no memory
abbrev pub IsAnswer : {A : Type 0} → Result A RuleError → TypeFrame → Checked → Type 0
IsAnswer (Ok a) f c = c ≡ Leaves f
IsAnswer (Err (rules.Fault e)) f c = c ≡ Refused e
IsAnswer (Err rules.NoRule) f c = c ≡ NoRule
IsAnswer (Err rules.NoMemory) f c = Unit {0}

-- the same of an instruction that has a rule
abbrev pub IsTyped : {A : Type 0} → Result A OpError → TypeFrame → Checked → Type 0
IsTyped (Ok a) f c = c ≡ Leaves f
IsTyped (Err (ops.Fault e)) f c = c ≡ Refused e
IsTyped (Err ops.NoMemory) f c = Unit {0}

-- the same of a call that gives the frame that is left
abbrev pub IsTypedWith : Result VFrame OpError → Checked → Type 0
IsTypedWith (Ok v) c = c ≡ Leaves (turned v)
IsTypedWith (Err (ops.Fault e)) c = c ≡ Refused e
IsTypedWith (Err ops.NoMemory) c = Unit {0}

-- the only one of a list
abbrev pub only : {A : Type 0} → List A → Option A
only (a ∷ []) = Some a
only more = None

-- what the arrays of an instruction hold
unfoldable pub elements : Held → Elements
elements (array.Of base) = Of base
elements array.Bytes = Bytes
elements array.References = References

-- what a reference that is given, or not, points to
abbrev pub told : {A : Type 0} → Option (Bor A) → Option A
told (Some a) = Some a.now
told None = None
