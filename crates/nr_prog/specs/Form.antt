-- Class files that keep the form: JVM Specification 4, in the project's own profile.
use Rattle.std.specs.Prelude.{◌≡◌, ℕ, ◌<◌, ◌≤◌, ◌^◌, List, length, All, AllPairs, IsTrue, not, Option, Some, None, IsSomeAnd, Result, Ok, Err, codes}
use Rattle.nr_prog.specs.declared.pool.PoolEntry.{PoolEntry}
use Rattle.nr_prog.specs.declared.pool.PoolEntry.TheVariants.{Class}
use Rattle.nr_prog.specs.declared.member.Field.{Field}
use Rattle.nr_prog.specs.declared.member.Method.{Method}
use Rattle.nr_prog.specs.declared.member.Code.{Code}
use Rattle.nr_prog.specs.declared.parts.ClassParts.{ClassParts}
use Rattle.nr_prog.specs.declared.fault.FormFault.{FormFault}
use Rattle.nr_prog.specs.Pool.{entry_at, is_entry_formed, text_at, text_len}
use Rattle.nr_prog.specs.Legal.{IsClassText, IsFieldText, IsMethodText, IsFieldDesc, IsMethodDesc, IsVoidDesc}
use Rattle.nr_prog.specs.Members.{is_constant_formed, is_static, is_abstract, is_plain, has_its_code}
use Rattle.nr_prog.specs.Rules.{form_fault}

-- two members don't have the same name and the same descriptor (4.5, 4.6)
abbrev pub AreApart : List PoolEntry → ℕ → ℕ → ℕ → ℕ → Type 0
AreApart pool name desc other_name other_desc =
    ¬ ((text_at pool name ≡ text_at pool other_name) × (text_at pool desc ≡ text_at pool other_desc))

-- the index names a text of which P holds
abbrev pub Spells : (List ℕ → Type 0) → List PoolEntry → ℕ → Type 0
Spells P pool index = IsSomeAnd (text_at pool index) P

abbrev pub IsClassOf : List PoolEntry → PoolEntry → Type 0
IsClassOf pool (Class name) = Spells IsClassText pool name
IsClassOf pool e = ⊥

-- the index names a class with a legal name (4.4.1)
abbrev pub NamesClass : List PoolEntry → ℕ → Type 0
NamesClass pool index = IsSomeAnd (entry_at pool index) (IsClassOf pool)

-- a field by itself (4.5)
pub record IsFieldFormed (pool : List PoolEntry) (f : Field) : Type 0 where
  pub name : Spells IsFieldText pool f.name
  pub desc : Spells IsFieldDesc pool f.desc
  pub constant : IsTrue (is_constant_formed pool f.desc f.constant)

-- an instance initialiser is neither static nor abstract, and returns nothing (2.9)
pub record IsInitialiser (pool : List PoolEntry) (m : Method) : Type 0 where
  pub not_static : IsTrue (not (is_static m.flags))
  pub not_abstract : IsTrue (not (is_abstract m.flags))
  pub void : Spells IsVoidDesc pool m.desc

-- a method by itself (4.6)
pub record IsMethodFormed (pool : List PoolEntry) (m : Method) : Type 0 where
  pub name : Spells IsMethodText pool m.name
  pub desc : Spells IsMethodDesc pool m.desc
  pub plain : IsTrue (is_plain m)
  pub initialiser : text_at pool m.name ≡ Some (codes "<init>") → IsInitialiser pool m
  pub code : IsTrue (has_its_code m)

-- the parts of a class file keep the form
pub record IsFormed (c : ClassParts) : Type 0 where
  -- the constant pool (4.4)
  pub entries : (index : ℕ) (e : PoolEntry) → entry_at c.pool index ≡ Some e → IsTrue (is_entry_formed c.pool index e)
  -- this class, its superclass and its direct superinterfaces (4.1)
  pub this : NamesClass c.pool c.this_class
  pub above : NamesClass c.pool c.super_class
  pub interfaces : All (NamesClass c.pool) c.interfaces
  -- fields, of which no two have the same name and descriptor (4.5)
  pub fields : All (IsFieldFormed c.pool) c.fields
  pub apart_fields : AllPairs (λ f g. AreApart c.pool f.name f.desc g.name g.desc) c.fields
  -- methods, likewise (4.6)
  pub methods : All (IsMethodFormed c.pool) c.methods
  pub apart_methods : AllPairs (λ m n. AreApart c.pool m.name m.desc n.name n.desc) c.methods

-- ---- bounds of what a file's counts can say, and of what is told by a place in 16 bits

abbrev pub handler_count : Option Code → ℕ
handler_count None = 0
handler_count (Some code) = length code.handlers

pub record IsWithinBounds (c : ClassParts) : Type 0 where
  pub pool : length c.pool < 2 ^ 16
  pub texts : All (λ e. text_len e < 2 ^ 16) c.pool
  pub methods : length c.methods ≤ 2 ^ 16
  pub handlers : All (λ m. handler_count m.code ≤ 2 ^ 16) c.methods

-- ---- the class of some parts

abbrev pub class_or : ClassParts → Option FormFault → Result ClassParts FormFault
class_or c None = Ok c
class_or c (Some fault) = Err fault

-- the class of the parts, or the first fault of their form
abbrev pub class_of : ClassParts → Result ClassParts FormFault
class_of c = class_or c (form_fault c)
