-- What a stream gives handles to: Java Object Serialization Specification 6.4.2, newHandle.
use Rattle.std.specs.Prelude.{ℕ, List, Bool, false, ◌&&◌, ◌==◌, nat_eq}
use Rattle.std.specs.Str.{bytes_eq}
use Rattle.nr_linked.specs.declared.program.kind.Base.{Base}
use Rattle.nr_linked.specs.declared.program.kind.Base.TheVariants as bases
use Rattle.nr_linked.specs.declared.program.kind.Kind.{Kind}
use Rattle.nr_linked.specs.Kinds.{is_same_primitive}

-- the description of a class, a string that says a field's descriptor, or an object by its node
pub data Entry : Type 0 where
  Class : Kind → Entry
  Text : List ℕ → Entry
  Object : ℕ → Entry

abbrev pub is_same_base : Base → Base → Bool
is_same_base (bases.Object c) (bases.Object d) = c == d
is_same_base a b = is_same_primitive a b

abbrev pub is_same_kind : Kind → Kind → Bool
is_same_kind k l = (k.dims == l.dims) && is_same_base k.base l.base

abbrev pub is_same_entry : Entry → Entry → Bool
is_same_entry (Class k) (Class l) = is_same_kind k l
is_same_entry (Text a) (Text b) = bytes_eq a b
is_same_entry (Object i) (Object j) = nat_eq i j
is_same_entry a b = false
