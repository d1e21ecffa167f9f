-- Which values belong to a type, in a heap.
use Rattle.std.specs.Prelude.{◌≡◌, ℕ, ◌<◌, ◌^◌, ℤ, pos, List, [], ◌∷◌, length, Option, Some, None, IsSomeAnd, T, FitsSigned}
use Rattle.std.specs.Int.{w8, w16}
use Rattle.std.specs.FinMap.{get}
use Rattle.nr_linked.specs.declared.program.kind.Base.{Base}
use Rattle.nr_linked.specs.declared.program.kind.Base.TheVariants as bases
use Rattle.nr_linked.specs.declared.program.kind.Kind.{Kind}
use Rattle.nr_linked.specs.declared.program.tables.ProgramTables.{ProgramTables}
use Rattle.nr_linked.specs.Subtypes.{is_assignable}
use Rattle.nr_model.specs.declared.value.Value.{Value}
use Rattle.nr_model.specs.declared.value.Value.TheVariants.{Long, Null}
use Rattle.nr_model.specs.Heaps.{Heap}
use Rattle.nr_model.specs.Scripts.{OnInt, OnLong, OnRef, OnReference}
use Rattle.nr_model.specs.Types.{Ty, Anything, Word, AnInt, Small, ALong, JustNull, Nullable, Object, Just, Exact, kind_ty}

-- the range of a primitive type (2.3.1, 2.3.4)
abbrev pub InRange : Base → ℤ → Type 0
InRange bases.Bool n = (b : ℕ) × (n ≡ pos b) × (b < 2)
InRange bases.Byte n = FitsSigned w8 n
InRange bases.Char n = (c : ℕ) × (n ≡ pos c) × (c < 2 ^ 16)
InRange bases.Short n = FitsSigned w16 n
InRange base n = Unit {0}

abbrev pub NoLong : Value → Type 0
NoLong (Long n) = ⊥
NoLong v = Unit {0}

abbrev pub IsNull : Value → Type 0
IsNull Null = Unit {0}
IsNull v = ⊥

-- the heap has an object of this name that goes where the kind is wanted
abbrev pub NamesOne : ProgramTables → Heap → Kind → ℕ → Type 0
NamesOne P h k a = IsSomeAnd (get h a) (λ o. T (is_assignable P o.kind k))

abbrev pub IfName : Option ℕ → (ℕ → Type 0) → Type 0
IfName None P = Unit {0}
IfName (Some a) P = P a

abbrev pub Belongs : ProgramTables → Heap → Ty → Value → Type 0
Belongs P h Anything v = Unit {0}
Belongs P h Word v = NoLong v
Belongs P h AnInt v = OnInt v (λ n. Unit {0})
Belongs P h (Small base) v = OnInt v (InRange base)
Belongs P h ALong v = OnLong v (λ n. Unit {0})
Belongs P h JustNull v = IsNull v
Belongs P h (Nullable k) v = OnReference v (λ r. IfName r (NamesOne P h k))
Belongs P h (Object k) v = OnRef v (NamesOne P h k)
Belongs P h (Just k) v = OnRef v (λ a. IsSomeAnd (get h a) (λ o. o.kind ≡ k))
Belongs P h (Exact k n) v = OnRef v (λ a. IsSomeAnd (get h a) (λ o. (o.kind ≡ k) × (length o.slots ≡ n)))

-- place by place
pub data Belong (P : ProgramTables) (h : Heap) : List Ty → List Value → Type 0 where
  no_place : Belong P h [] []
  one_place : {t : Ty} {v : Value} {ts : List Ty} {vs : List Value} → Belongs P h t v → Belong P h ts vs → Belong P h (t ∷ ts) (v ∷ vs)

-- what is returned: nothing where there is no result, and else what a result of the kind is
abbrev pub IsResult : ProgramTables → Heap → Option Kind → Option Value → Type 0
IsResult P h None None = Unit {0}
IsResult P h (Some k) (Some v) = Belongs P h (kind_ty k) v
IsResult P h result v = ⊥

-- each value of t is one of u, in each heap
abbrev pub Sharper : ProgramTables → Ty → Ty → Type 0
Sharper P t u = (h : Heap) (v : Value) → Belongs P h t v → Belongs P h u v

abbrev pub AllSharper : ProgramTables → List Ty → List Ty → Type 0
AllSharper P ts us = (h : Heap) (vs : List Value) → Belong P h ts vs → Belong P h us vs
