-- Which kinds stand below which: the test of a run (JVM Specification 6.5, checkcast, instanceof and aastore), and the
-- verifier's relation (4.10.1.2), for which an interface is like java/lang/Object. That arrays fit where an interface is
-- wanted is the project's own rule.
use Rattle.std.specs.Prelude.{◌≡◌, ℕ, zero, suc, Bool, false, ◌||◌, ◌==◌, ◌⊎◌, Some, Contains}
use Rattle.std.specs.List.{list_any}
use Rattle.std.specs.Option.{option_map_or, IsSomeAnd}
use Rattle.nr_linked.specs.declared.program.kind.Base.{Base}
use Rattle.nr_linked.specs.declared.program.kind.Base.TheVariants.{Object}
use Rattle.nr_linked.specs.declared.program.kind.Kind.{Kind}
use Rattle.nr_linked.specs.declared.program.built_in.BuiltIn.TheVariants as built_ins
use Rattle.nr_linked.specs.declared.program.tables.ProgramTables.{ProgramTables}
use Rattle.nr_linked.specs.Kinds.{is_same_primitive}
use Rattle.nr_linked.specs.BuiltIns.{built_in}
use Rattle.nr_linked.specs.Programs.{class_at, is_interface}

-- ---- classes and interfaces

-- d is the superclass of c, or one of its direct superinterfaces (4.1)
abbrev pub IsDirectlyAbove : ProgramTables → ℕ → ℕ → Type 0
IsDirectlyAbove P c d = IsSomeAnd (class_at P c) (λ e. (e.super_class ≡ Some d) ⊎ Contains e.interfaces d)

-- d is c, or stands above it
pub data Above (P : ProgramTables) : ℕ → ℕ → Type 0 where
  itself : {c : ℕ} → Above P c c
  further : {c s d : ℕ} → IsDirectlyAbove P c s → Above P s d → Above P c d

-- the same as a test, over what linking listed
abbrev pub is_above : ProgramTables → ℕ → ℕ → Bool
is_above P c d = option_map_or (λ e. list_any (λ s. s == d) e.supers) (class_at P c) false

-- ---- arrays by their components

-- A kind without dimensions by `bases`, an array with a kind without dimensions by `of_array`, and an array with an
-- array as their components.
abbrev pub by_components : (Base → Base → Bool) → (Base → Bool) → ℕ → Base → ℕ → Base → Bool
by_components bases of_array zero a zero b = bases a b
by_components bases of_array zero a (suc n) b = false
by_components bases of_array (suc m) a zero b = of_array b
by_components bases of_array (suc m) a (suc n) b = by_components bases of_array m a n b

-- ---- the test of a run

abbrev pub is_base_sub : ProgramTables → Base → Base → Bool
is_base_sub P (Object c) (Object d) = is_above P c d
is_base_sub P a b = is_same_primitive a b

-- each array is an Object, a Cloneable and a Serializable
abbrev pub is_above_arrays : ProgramTables → Base → Bool
is_above_arrays P (Object d) = d == built_in P built_ins.Object || (d == built_in P built_ins.Cloneable || d == built_in P built_ins.Serializable)
is_above_arrays P b = false

-- an object or an array of kind a is one of kind b
abbrev pub is_sub : ProgramTables → Kind → Kind → Bool
is_sub P a b = by_components (is_base_sub P) (is_above_arrays P) a.dims a.base b.dims b.base

-- ---- the verifier's relation

-- any reference goes where this class or interface is wanted
abbrev pub admits_any : ProgramTables → ℕ → Bool
admits_any P d = d == built_in P built_ins.Object || is_interface P d

abbrev pub is_base_assignable : ProgramTables → Base → Base → Bool
is_base_assignable P (Object c) (Object d) = admits_any P d || is_above P c d
is_base_assignable P a b = is_same_primitive a b

abbrev pub admits_arrays : ProgramTables → Base → Bool
admits_arrays P (Object d) = admits_any P d
admits_arrays P b = false

-- a reference of kind a goes where one of kind b is wanted
abbrev pub is_assignable : ProgramTables → Kind → Kind → Bool
is_assignable P a b = by_components (is_base_assignable P) (admits_arrays P) a.dims a.base b.dims b.base
