-- The kinds of arrays that instructions name by their codes (JVM Specification 6.5, iaload to saload, iastore to sastore,
-- newarray).
use Rattle.std.specs.Prelude.{ℕ, [], ◌∷◌, Bool, not, ◌&&◌, ◌||◌, Option}
use Rattle.nr_optable.specs.Operations.{beside}
use Rattle.nr_linked.specs.declared.program.kind.Base.{Base}
use Rattle.nr_linked.specs.declared.program.kind.Base.TheVariants as bases
use Rattle.nr_linked.specs.declared.program.kind.Kind.{Kind}
use Rattle.nr_linked.specs.Kinds.{is_array, is_reference, is_same_primitive}

-- what the arrays of an instruction hold: values of a primitive type, booleans or bytes, or references
pub data Elements : Type 0 where
  Of : Base → Elements
  Bytes : Elements
  References : Elements

-- by the instruction's code
abbrev pub elements_of : ℕ → Option Elements
elements_of code = beside code (
    (46, Of bases.Int) ∷  -- iaload
    (47, Of bases.Long) ∷  -- laload
    (50, References) ∷  -- aaload
    (51, Bytes) ∷  -- baload
    (52, Of bases.Char) ∷  -- caload
    (53, Of bases.Short) ∷  -- saload
    (79, Of bases.Int) ∷  -- iastore
    (80, Of bases.Long) ∷  -- lastore
    (83, References) ∷  -- aastore
    (84, Bytes) ∷  -- bastore
    (85, Of bases.Char) ∷  -- castore
    (86, Of bases.Short) ∷  -- sastore
    [])

-- the kind is this primitive type
abbrev pub is_base : Base → Kind → Bool
is_base base k = not (is_array k) && is_same_primitive base k.base

abbrev pub is_element : Elements → Kind → Bool
is_element (Of base) k = is_base base k
is_element Bytes k = is_base bases.Byte k || is_base bases.Bool k
is_element References k = is_reference k

-- the primitive type of a code (table 6.5.newarray-A)
abbrev pub primitive_of : ℕ → Option Base
primitive_of code = beside code (
    (4, bases.Bool) ∷ (5, bases.Char) ∷ (8, bases.Byte) ∷ (9, bases.Short) ∷ (10, bases.Int) ∷ (11, bases.Long) ∷ [])
