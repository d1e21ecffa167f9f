-- The first fault of a class file's form, rule by rule: JVM Specification 4, and the project's own profile. The
-- order of the rules is the project's own.
use Rattle.std.specs.Prelude.{ℕ, ◌+◌, List, take, Bool, not, Option, Some, ◌==◌, if◌then◌else◌}
use Rattle.std.specs.Option.{option_or}
use Rattle.nr_prog.specs.declared.pool.PoolEntry.{PoolEntry}
use Rattle.nr_prog.specs.declared.member.Field.{Field}
use Rattle.nr_prog.specs.declared.member.Method.{Method}
use Rattle.nr_prog.specs.declared.parts.ClassParts.{ClassParts}
use Rattle.nr_prog.specs.declared.fault.FormFault.{FormFault}
use Rattle.nr_prog.specs.declared.fault.FormFault.TheVariants.{PoolKind, BadName, BadDesc, Doubled, CodePresence, OutOfProfile}
use Rattle.nr_prog.specs.Pool.{is_entry_formed}
use Rattle.nr_prog.specs.Faults.{first_fault, unless}
use Rattle.nr_prog.specs.LegalTests.{is_field_text, is_method_text, is_field_desc, is_method_desc}
use Rattle.nr_prog.specs.Members.{spells, is_class_named, is_in, is_among, is_constant_formed, is_profile_method, has_its_code}

-- ---- the constant pool

abbrev pub entry_fault : List PoolEntry → ℕ → PoolEntry → Option FormFault
entry_fault pool place entry = unless (is_entry_formed pool (place + 1) entry) (PoolKind (place + 1))

unfoldable pub pool_fault : List PoolEntry → Option FormFault
pool_fault pool = first_fault (entry_fault pool) 0 pool

-- ---- this class, its superclass and its superinterfaces

unfoldable pub class_fault : List PoolEntry → ℕ → Option FormFault
class_fault pool index = unless (is_class_named pool index) (BadName index)

unfoldable pub super_fault : List PoolEntry → ℕ → Option FormFault
super_fault pool index = if index == 0 then Some (PoolKind 0) else class_fault pool index

unfoldable pub classes_fault : List PoolEntry → ℕ → ℕ → List ℕ → Option FormFault
classes_fault pool this above interfaces =
    option_or (class_fault pool this) (option_or (super_fault pool above) (first_fault (λ place. class_fault pool) 0 interfaces))

-- ---- fields and methods

-- the first fault of members, each of which is told which earlier ones there are
abbrev pub members_fault : {X : Type 0} → (X → ℕ) → (X → ℕ) → ((List ℕ → List ℕ → Bool) → ℕ → X → Option FormFault) → List PoolEntry → List X → Option FormFault
members_fault name_of desc_of fault pool members = first_fault (λ place m. fault (is_in name_of desc_of pool (take place members)) place m) 0 members

-- the rules on one field or method, one after the other
unfoldable pub name_fault : (List ℕ → Bool) → List PoolEntry → ℕ → Option FormFault
name_fault is_legal pool index = unless (spells is_legal pool index) (BadName index)

unfoldable pub desc_fault : (List ℕ → Bool) → List PoolEntry → ℕ → Option FormFault
desc_fault is_legal pool index = unless (spells is_legal pool index) (BadDesc index)

unfoldable pub doubled_fault : (List ℕ → List ℕ → Bool) → List PoolEntry → ℕ → ℕ → Option FormFault
doubled_fault earlier pool name desc = unless (not (is_among earlier pool name desc)) (Doubled name)

unfoldable pub constant_fault : List PoolEntry → ℕ → ℕ → Option FormFault
constant_fault pool desc constant = unless (is_constant_formed pool desc constant) (PoolKind constant)

unfoldable pub field_fault : List PoolEntry → (List ℕ → List ℕ → Bool) → Field → Option FormFault
field_fault pool earlier f =
    option_or (name_fault is_field_text pool f.name)
    (option_or (desc_fault is_field_desc pool f.desc)
    (option_or (doubled_fault earlier pool f.name f.desc)
    (constant_fault pool f.desc f.constant)))

unfoldable pub fields_fault : List PoolEntry → List Field → Option FormFault
fields_fault pool fields = members_fault (λ f. f.name) (λ f. f.desc) (λ earlier place. field_fault pool earlier) pool fields

unfoldable pub body_fault : List PoolEntry → ℕ → Method → Option FormFault
body_fault pool place m = option_or (unless (is_profile_method pool m) (OutOfProfile place)) (unless (has_its_code m) (CodePresence place))

unfoldable pub method_fault : List PoolEntry → (List ℕ → List ℕ → Bool) → ℕ → Method → Option FormFault
method_fault pool earlier place m =
    option_or (name_fault is_method_text pool m.name)
    (option_or (desc_fault is_method_desc pool m.desc)
    (option_or (doubled_fault earlier pool m.name m.desc)
    (body_fault pool place m)))

unfoldable pub methods_fault : List PoolEntry → List Method → Option FormFault
methods_fault pool methods = members_fault (λ m. m.name) (λ m. m.desc) (method_fault pool) pool methods

-- ---- the whole

unfoldable pub form_fault : ClassParts → Option FormFault
form_fault c =
    option_or (pool_fault c.pool)
    (option_or (classes_fault c.pool c.this_class c.super_class c.interfaces)
    (option_or (fields_fault c.pool c.fields) (methods_fault c.pool c.methods)))
