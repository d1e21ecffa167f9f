-- Kinds of values: JVM Specification 2.2, 2.4 and 4.3.2. A class stands in them by its number.
use Rattle.std.specs.Prelude.{ℕ, zero, suc, ◌+◌, Bool, true, false, ◌||◌, nat_lt, Option, Some, None, is_some}
use Rattle.nr_linked.specs.declared.program.kind.Base.{Base}
use Rattle.nr_linked.specs.declared.program.kind.Base.TheVariants as bases
use Rattle.nr_linked.specs.declared.program.kind.Kind.{Kind}

-- the kind of the class's objects
abbrev pub class_kind : ℕ → Kind
class_kind c = record { dims = 0; base = bases.Object c }

-- the kind of arrays whose elements are of the kind
abbrev pub array_of : Kind → Kind
array_of k = record k { dims = k.dims + 1 }

abbrev pub is_array : Kind → Bool
is_array k = nat_lt 0 k.dims

-- the kind of an array's elements, and none where the kind is no array's
abbrev pub element_of : Kind → Option Kind
element_of k = one_less k.dims
  where
    one_less : ℕ → Option Kind
    one_less zero = None
    one_less (suc n) = Some (record k { dims = n })

-- the class or the interface that stands in the kind, also below dimensions
abbrev pub class_in : Base → Option ℕ
class_in (bases.Object c) = Some c
class_in base = None

-- values of the kind are references
abbrev pub is_reference : Kind → Bool
is_reference k = is_array k || is_some (class_in k.base)

-- both are one primitive type
abbrev pub is_same_primitive : Base → Base → Bool
is_same_primitive bases.Bool bases.Bool = true
is_same_primitive bases.Byte bases.Byte = true
is_same_primitive bases.Char bases.Char = true
is_same_primitive bases.Short bases.Short = true
is_same_primitive bases.Int bases.Int = true
is_same_primitive bases.Long bases.Long = true
is_same_primitive a b = false
