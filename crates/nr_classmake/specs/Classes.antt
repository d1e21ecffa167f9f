-- What each call makes of a class.
use Rattle.std.specs.Prelude.{◌≡◌, ℕ, ℤ, ◌≤◌, ◌<◌, ◌^◌, List, [], ◌∷◌, ◌++◌, length, fold, Option, Result, Ok, Err}
use Rattle.nr_prog.specs.declared.pool.PoolEntry.{PoolEntry}
use Rattle.nr_prog.specs.declared.member.Code.{Code}
use Rattle.nr_prog.specs.declared.parts.ClassParts.{ClassParts}
use Rattle.nr_classmake.specs.declared.fault.MakeFault.{MakeFault}
use Rattle.nr_classmake.specs.declared.fault.MakeFault.TheVariants as faults
use Rattle.nr_prog.specs.declared.pool.PoolEntry.TheVariants.{Utf8, Integer, Long}
use Rattle.nr_classmake.specs.Places.{with_entry}
use Rattle.nr_classmake.specs.Making.{Making, and_then, nothing, class_ref, name_and_type, member_ref, field, method}
use Rattle.nr_classmake.specs.Items.{Item, Text, IntNumber, LongNumber, ClassNamed, NameWithType, FieldOf, MethodOf, InterfaceMethodOf}
use Rattle.nr_classmake.specs.Calls.{Call, Place, AddInterface, AddField, AddMethod}

-- a class and its superclass, without members
abbrev pub both : List ℕ → List ℕ → Making (ℕ × ℕ)
both name super = and_then (class_ref name) (λ t. and_then (class_ref super) (λ s. nothing (t, s)))

abbrev pub new_of : List PoolEntry × (ℕ × ℕ) → ℕ → ClassParts
new_of m flags = record { pool = m.0; flags = flags; this_class = m.1.0; super_class = m.1.1; interfaces = []; fields = []; methods = [] }

abbrev pub new_parts : List ℕ → List ℕ → ℕ → ClassParts
new_parts name super flags = new_of (both name super []) flags

abbrev pub with_interface : List ℕ → ClassParts → ClassParts
with_interface name c = let m = class_ref name c.pool in record c { pool = m.0; interfaces = c.interfaces ++ m.1 ∷ [] }

abbrev pub with_field : ℕ → List ℕ → List ℕ → Option ℤ → ClassParts → ClassParts
with_field flags name desc constant c = let m = field flags name desc constant c.pool in record c { pool = m.0; fields = c.fields ++ m.1 ∷ [] }

abbrev pub with_method : ℕ → List ℕ → List ℕ → Option Code → ClassParts → ClassParts
with_method flags name desc code c =
    let m = method name desc code c.pool in record c { pool = m.0; methods = c.methods ++ record { flags = flags; name = m.1.0; desc = m.1.1; code = code } ∷ [] }

-- an item's place, and what it adds
abbrev pub placed : Item → Making ℕ
placed (Text text) = with_entry (Utf8 text)
placed (IntNumber n) = with_entry (Integer n)
placed (LongNumber n) = with_entry (Long n)
placed (ClassNamed name) = class_ref name
placed (NameWithType name desc) = name_and_type name desc
placed (FieldOf class name desc) = member_ref 9 class name desc
placed (MethodOf class name desc) = member_ref 10 class name desc
placed (InterfaceMethodOf class name desc) = member_ref 11 class name desc

abbrev pub place_in : ClassParts → Item → ℕ
place_in c item = (placed item c.pool).1

-- a class after a call
abbrev pub after_call : Call → ClassParts → ClassParts
after_call (Place item) c = record c { pool = (placed item c.pool).0 }
after_call (AddInterface name) c = with_interface name c
after_call (AddField flags name desc constant) c = with_field flags name desc constant c
after_call (AddMethod flags name desc code) c = with_method flags name desc code c

-- and after one call after another
abbrev pub after : List Call → ClassParts → ClassParts
after calls c = fold (λ c call. after_call call c) c calls

-- A call was made, or nothing was changed: the pool is full exactly where it would have more than 65,535 places.
abbrev pub Does : {X : Type 0} → Result X MakeFault → ClassParts → ClassParts → Call → Type 0
Does (Ok x) old new call = (new ≡ after_call call old) × (length new.pool < 2 ^ 16)
Does (Err faults.PoolFull) old new call = (2 ^ 16 ≤ length (after_call call old).pool) × (new ≡ old)
Does (Err faults.NoMemory) old new call = new ≡ old
