-- Typed heaps.
use Rattle.std.specs.Prelude.{◌≡◌, ℕ, zero, suc, length, Some, slice_get, T}
use Rattle.std.specs.FinMap.{get}
use Rattle.nr_linked.specs.declared.program.kind.Base.{Base}
use Rattle.nr_linked.specs.declared.program.kind.Base.TheVariants as bases
use Rattle.nr_linked.specs.declared.program.kind.Kind.{Kind}
use Rattle.nr_linked.specs.declared.program.tables.ProgramTables.{ProgramTables}
use Rattle.nr_linked.specs.Slots.{slots_of}
use Rattle.nr_linked.specs.Subtypes.{is_assignable}
use Rattle.nr_linked.specs.TypingFacts.{is_makeable}
use Rattle.nr_model.specs.declared.value.Value.{Value}
use Rattle.nr_model.specs.Heaps.{Obj, Heap, on_some}
use Rattle.nr_model.specs.Types.{Ty, Anything, kept_ty}
use Rattle.nr_model.specs.Belonging.{Belongs}

-- an object of the class has n slots, and the class can have objects
pub record IsObjectOf (P : ProgramTables) (c n : ℕ) : Type 0 where
  pub makeable : T (is_makeable P c)
  pub count : n ≡ length (slots_of P c)

-- an object or an array of the kind with n slots is possible; an array has as many as it likes, and its kind is one of the
-- program
abbrev pub Counts : ProgramTables → Kind → ℕ → Type 0
Counts P k n = by_dims k.dims
  where
    of_base : Base → Type 0
    of_base (bases.Object c) = IsObjectOf P c n
    of_base base = ⊥

    by_dims : ℕ → Type 0
    by_dims zero = of_base k.base
    by_dims (suc d) = T (is_assignable P k k)

-- what the slot i of such an object holds
abbrev pub slot_ty : ProgramTables → Kind → ℕ → Ty
slot_ty P k i = by_dims k.dims
  where
    of_base : Base → Ty
    of_base (bases.Object c) = on_some (slice_get (slots_of P c) i) Anything (λ s. kept_ty s.kind)
    of_base base = Anything

    by_dims : ℕ → Ty
    by_dims zero = of_base k.base
    by_dims (suc d) = kept_ty (record k { dims = d })

-- Each object is of a class that can have objects, with its slots; each array is of a kind of the program; and each slot
-- holds what belongs to it, so each name in a slot is one of the heap.
pub record TypedHeap (P : ProgramTables) (h : Heap) : Type 0 where
  pub count : (a : ℕ) (o : Obj) → get h a ≡ Some o → Counts P o.kind (length o.slots)
  pub slots : (a : ℕ) (o : Obj) → get h a ≡ Some o → (i : ℕ) (v : Value) → slice_get o.slots i ≡ Some v → Belongs P h (slot_ty P o.kind i) v

-- each name is still there, with its kind
pub record KeepsNames (h k : Heap) : Type 0 where
  pub at : (a : ℕ) (o : Obj) → get h a ≡ Some o → (p : Obj) × (get k a ≡ Some p) × (p.kind ≡ o.kind)
