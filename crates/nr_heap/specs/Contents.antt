-- A heap in code, as its callers see it.
use Rattle.std.specs.Prelude.{◌≡◌, ℕ, ◌+◌, ◌-◌, ◌==◌, List, None, IfSome, MatchBool, ◌++◌, take, drop, length, replicate, refl}
use Rattle.std.specs.List.{list_any}
use Rattle.std.specs.Coded.{Coded, code_by, coded×, coded_ℕ}
use Rattle.std.specs.FinMap as map_from
use Rattle.std.specs.FinMap.{get, insert, retain_keys}
use Rattle.nr_linked.specs.declared.program.kind.Base.{Base}
use Rattle.nr_linked.specs.declared.program.kind.Base.TheVariants as bases
use Rattle.nr_linked.specs.declared.program.kind.Kind.{Kind}
use Rattle.nr_linked.specs.declared.program.tables.ProgramTables.{ProgramTables}
use Rattle.nr_linked.specs.Kinds.{array_of, class_kind, element_of, is_reference}
use Rattle.nr_model.specs.declared.value.Value.{Value}
use Rattle.nr_model.specs.Belonging.{InRange}
use Rattle.nr_model.specs.Heaps.{Obj, Heap, cells, cells_of}
use Rattle.nr_model.specs.Scripts.{OnInt, OnLong, OnReference, new_object}
use Rattle.nr_model.specs.Throws.{zero_of, zeros}
use Rattle.nr_heap.specs.Codes.{obj_code}

pub record Contents : Type 0 where
  -- its objects and arrays by their names
  pub objects : Heap
  -- the cells for which it has room: new objects of so many cells together take no memory
  pub spare : ℕ

abbrev pub contents_code : Coded Contents
contents_code = code_by (Heap × ℕ) (coded× (map_from.code coded_ℕ obj_code) coded_ℕ) (λ c. (c.objects, c.spare)) (λ p. record { objects = p.0; spare = p.1 }) (λ _. refl)

-- ---- new objects

-- a new object of the class (6.5, new)
abbrev pub object_of : ProgramTables → ℕ → Obj
object_of P c = new_object (class_kind c) (zeros P c)

-- a new array with n elements of the kind (6.5, newarray)
abbrev pub array_with : Kind → ℕ → Obj
array_with e n = new_object (array_of e) (replicate n (zero_of e))

-- the cells that a heap would have with one more object
abbrev pub reached : Heap → Obj → ℕ
reached h o = cells h + cells_of o

-- the heap got the object, under a name that it didn't have; its cells were taken from the spare ones, as far as they go
pub record HasMade (old new : Contents) (name : ℕ) (o : Obj) : Type 0 where
  pub fresh : get old.objects name ≡ None
  pub objects : new.objects ≡ insert old.objects name o
  pub spare : new.spare ≡ old.spare - cells_of o

-- ---- what slots can hold

abbrev pub IsOfBase : Base → Value → Type 0
IsOfBase bases.Long v = OnLong v (λ n. Unit {0})
IsOfBase base v = OnInt v (InRange base)

-- the value is one of the kind (2.3, 2.4), whatever object a reference names
abbrev pub IsOfKind : Kind → Value → Type 0
IsOfKind k v = MatchBool (is_reference k) (OnReference v (λ a. Unit {0})) (IsOfBase k.base v)

-- a slot of an object or an array of this kind can hold the value: one of an array holds what its elements can be, and one
-- of an object anything
abbrev pub Keeps : Kind → Value → Type 0
Keeps k v = IfSome (element_of k) (λ e. IsOfKind e v)

-- ---- names

-- the heap with the objects of these names alone
abbrev pub with_only : List ℕ → Heap → Heap
with_only names h = retain_keys h (λ a. list_any (λ b. a == b) names)

-- ---- runs

-- the heap with these values in the object's slots from a slot on
abbrev pub with_run : Heap → ℕ → Obj → ℕ → List Value → Heap
with_run h a o i vs = insert h a (record o { slots = take i o.slots ++ vs ++ drop (i + length vs) o.slots })
