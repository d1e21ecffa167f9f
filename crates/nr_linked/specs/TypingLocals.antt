-- The typing rules of loads, stores and increments of local variables (JVM Specification 4.10.1.7 and 4.10.1.9: iload to
-- aload, istore to astore, iinc, wide).
use Rattle.std.specs.Prelude.{ℕ, zero, suc, List, [], ◌∷◌, Bool, nat_lt, Option, Some, None, ◌==◌, if◌then◌else◌}
use Rattle.nr_optable.specs.declared.table.Letter.{Letter}
use Rattle.nr_optable.specs.declared.table.Letter.TheVariants as letters
use Rattle.nr_prog.specs.declared.body.instruction.Args.{Args}
use Rattle.nr_prog.specs.declared.body.instruction.Args.TheVariants as args
use Rattle.nr_linked.specs.declared.program.tables.MethodInfo.{MethodInfo}
use Rattle.nr_linked.specs.declared.program.types.VType.{VType}
use Rattle.nr_linked.specs.declared.program.types.VType.TheVariants.{Top, Long}
use Rattle.nr_linked.specs.declared.typing.fault.OpFault.TheVariants.{NeedsKind, LocalRange}
use Rattle.nr_linked.specs.TypingFrames.{TypeFrame}
use Rattle.nr_linked.specs.TypingChecks.{Checked, NoRule, need, is_letter, wanted_letter, take_letter, leaves}

-- ---- its type

-- places past the listed ones are Top
abbrev pub local_type : List VType → ℕ → VType
local_type [] i = Top
local_type (t ∷ ts) zero = t
local_type (t ∷ ts) (suc i) = local_type ts i

-- The local variable is below the number of places, and so is the second place of a long.
abbrev pub is_in_range : MethodInfo → Letter → ℕ → Bool
is_in_range m letters.J i = nat_lt (suc i) m.max_locals
is_in_range m letter i = nat_lt i m.max_locals

-- the local variable has the letter's type
abbrev pub of_letter : Letter → List VType → ℕ → Checked → Checked
of_letter letter ts i k = need (is_letter letter (local_type ts i)) (NeedsKind 0 (wanted_letter letter) (local_type ts i)) k

-- ---- what a store leaves

-- where a place held a long, its other half is Top
abbrev pub after : VType → List VType → List VType
after Long (t ∷ ts) = Top ∷ ts
after u ts = ts

abbrev pub before : ℕ → VType → VType
before zero Long = Top
before i t = t

-- a type in one place; places up to it that weren't listed are Top
abbrev pub put_word : ℕ → VType → List VType → List VType
put_word zero t [] = t ∷ []
put_word (suc i) t [] = Top ∷ put_word i t []
put_word zero t (u ∷ us) = t ∷ after u us
put_word (suc i) t (u ∷ us) = before i u ∷ put_word i t us

-- a type in its place, or a long in its two places
abbrev pub put : ℕ → VType → List VType → List VType
put i Long ts = put_word i Long (put_word (suc i) Top ts)
put i t ts = put_word i t ts

-- ---- the rules

-- iload, lload, aload
abbrev pub load_rule : MethodInfo → Letter → ℕ → TypeFrame → Checked
load_rule m letter i f = need (is_in_range m letter i) (LocalRange i)
    (of_letter letter f.locals i (leaves m (record f { operands = local_type f.locals i ∷ f.operands })))

-- istore, lstore, astore
abbrev pub store_rule : MethodInfo → Letter → ℕ → TypeFrame → Checked
store_rule m letter i f = need (is_in_range m letter i) (LocalRange i)
    (take_letter letter 0 f.operands (λ t ts. leaves m (record f { locals = put i t f.locals; operands = ts })))

-- iinc
abbrev pub increment_rule : MethodInfo → ℕ → TypeFrame → Checked
increment_rule m i f = need (is_in_range m letters.I i) (LocalRange i) (of_letter letters.I f.locals i (leaves m f))

-- wide: by the widened code (6.5, wide)
abbrev pub wide_rule : MethodInfo → Args → TypeFrame → Checked
wide_rule m (args.Wide code i) f =
    if code == 21 then load_rule m letters.I i f
    else (if code == 22 then load_rule m letters.J i f
    else (if code == 25 then load_rule m letters.R i f
    else (if code == 54 then store_rule m letters.I i f
    else (if code == 55 then store_rule m letters.J i f
    else (if code == 58 then store_rule m letters.R i f
    else NoRule)))))
wide_rule m (args.WideInc i by) f = increment_rule m i f
wide_rule m a f = NoRule

-- ---- by the row

abbrev pub with_number : Option ℕ → (ℕ → Checked) → Checked
with_number None k = NoRule
with_number (Some i) k = k i

-- the only letter of a row
abbrev pub with_letter : List Letter → (Letter → Checked) → Checked
with_letter (letter ∷ []) k = k letter
with_letter ls k = NoRule
