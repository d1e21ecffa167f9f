-- Numbers that fit their places.
use Rattle.std.specs.Prelude.{ℕ, ℤ, ◌+◌, ◌<◌, ◌≤◌, ◌^◌, List, length, All, Option, Some, None}
use Rattle.std.specs.List.{AllByRecursion}
use Rattle.std.specs.Int.{Width, w32, w64, byte_len, cast_unsigned}
use Rattle.std.specs.Int.RustNames.{FitsSigned}
use Rattle.nr_prog.specs.declared.pool.PoolEntry.{PoolEntry}
use Rattle.nr_prog.specs.declared.pool.PoolEntry.TheVariants.{Integer, Float, Long, Double, Class, Str, FieldRef, MethodRef, InterfaceMethodRef, NameAndType}
use Rattle.nr_prog.specs.declared.member.Field.{Field}
use Rattle.nr_prog.specs.declared.member.Handler.{Handler}
use Rattle.nr_prog.specs.declared.member.Code.{Code}
use Rattle.nr_prog.specs.declared.member.Method.{Method}
use Rattle.nr_prog.specs.declared.parts.ClassParts.{ClassParts}
use Rattle.nr_prog.specs.Pool.{text_len}
use Rattle.nr_classwrite.specs.Faults.{contents_len}

abbrev pub IsSigned : Width → ℤ → Type 0
IsSigned w z = FitsSigned w z × (cast_unsigned w z < 256 ^ byte_len w)

abbrev pub EntryFits : PoolEntry → Type 0
EntryFits (Integer z) = IsSigned w32 z
EntryFits (Float bits) = bits < 2 ^ 32
EntryFits (Long z) = IsSigned w64 z
EntryFits (Double bits) = bits < 2 ^ 64
EntryFits (Class name) = name < 2 ^ 16
EntryFits (Str text) = text < 2 ^ 16
EntryFits (FieldRef class member) = (class < 2 ^ 16) × (member < 2 ^ 16)
EntryFits (MethodRef class member) = (class < 2 ^ 16) × (member < 2 ^ 16)
EntryFits (InterfaceMethodRef class member) = (class < 2 ^ 16) × (member < 2 ^ 16)
EntryFits (NameAndType name desc) = (name < 2 ^ 16) × (desc < 2 ^ 16)
EntryFits e = Unit {0}

pub record FieldFits (f : Field) : Type 0 where
  pub flags : f.flags < 2 ^ 16
  pub name : f.name < 2 ^ 16
  pub desc : f.desc < 2 ^ 16
  pub constant : f.constant < 2 ^ 16

pub record HandlerFits (h : Handler) : Type 0 where
  pub start : h.start < 2 ^ 16
  pub end : h.end < 2 ^ 16
  pub handler : h.handler < 2 ^ 16
  pub catch_type : h.catch_type < 2 ^ 16

pub record ContentsFit (code : Code) : Type 0 where
  pub stack : code.max_stack < 2 ^ 16
  pub locals : code.max_locals < 2 ^ 16
  pub handlers : AllByRecursion HandlerFits code.handlers

abbrev pub CodeFits : Option Code → Type 0
CodeFits None = Unit {0}
CodeFits (Some code) = ContentsFit code

pub record MethodFits (m : Method) : Type 0 where
  pub flags : m.flags < 2 ^ 16
  pub name : m.name < 2 ^ 16
  pub desc : m.desc < 2 ^ 16
  pub code : CodeFits m.code

abbrev pub IndexFits : ℕ → Type 0
IndexFits index = index < 2 ^ 16

pub record PartsFit (c : ClassParts) : Type 0 where
  pub pool : AllByRecursion EntryFits c.pool
  pub flags : c.flags < 2 ^ 16
  pub this : c.this_class < 2 ^ 16
  pub above : c.super_class < 2 ^ 16
  pub interfaces : AllByRecursion IndexFits c.interfaces
  pub fields : AllByRecursion FieldFits c.fields
  pub methods : AllByRecursion MethodFits c.methods

-- ---- what classes that keep the form have

-- code has at most 65,535 bytes, and at most 65,536 handlers
pub record IsSmall (code : Code) : Type 0 where
  pub bytes : length code.bytes ≤ 65535
  pub handlers : length code.handlers ≤ 65536

abbrev pub HasSmall : Option Code → Type 0
HasSmall None = Unit {0}
HasSmall (Some code) = IsSmall code

-- ---- what classes without a fault have

-- each count of some code has room
pub record HasRoom (code : Code) : Type 0 where
  pub contents : contents_len code < 2 ^ 32
  pub bytes : length code.bytes < 2 ^ 32
  pub handlers : length code.handlers < 2 ^ 16

abbrev pub MapsFit : Option (List ℕ) → Type 0
MapsFit None = Unit {0}
MapsFit (Some maps) = length maps < 2 ^ 32

abbrev pub IsRoomy : Option Code → Type 0
IsRoomy None = Unit {0}
IsRoomy (Some code) = HasRoom code × IsSmall code × MapsFit code.maps

pub record HasCounts (c : ClassParts) : Type 0 where
  pub pool : length c.pool + 1 < 2 ^ 16
  pub texts : All (λ e. text_len e < 2 ^ 16) c.pool
  pub interfaces : length c.interfaces < 2 ^ 16
  pub fields : length c.fields < 2 ^ 16
  pub methods : length c.methods < 2 ^ 16
  pub code : All (λ m. IsRoomy m.code) c.methods
