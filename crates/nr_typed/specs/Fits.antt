-- Scripts that fit types of local variables and operands: from values of these types, in each typed heap that keeps a
-- first one, the script has a step, and each of its endings meets Q. (The project's own.)
use Rattle.std.specs.Prelude.{◌≡◌, ℕ, zero, suc, ◌<◌, ℤ, Bool, true, false, List, [], ◌∷◌, length, Some, None, IsSomeAnd, slice_get, slice_set, T}
use Rattle.nr_linked.specs.declared.program.kind.Kind.{Kind}
use Rattle.nr_linked.specs.declared.program.tables.ProgramTables.{ProgramTables}
use Rattle.nr_linked.specs.Subtypes.{is_assignable}
use Rattle.nr_model.specs.declared.value.Value.{Value}
use Rattle.nr_model.specs.Heaps.{Heap}
use Rattle.nr_model.specs.Scripts.{Plain, plain, Script, GoTo, Throw, Return, ReturnTop, Call, Stuck, Push, PopInt, PopLong, Load, Store, Pick, Drop, AskLong, AskNull, AskSame, AskKind, ReadSlot, WriteSlot, Make, Print, Within, Ending, GoesTo, Threw, Gave, Called, OnRef}
use Rattle.nr_model.specs.Types.{Ty, Anything, AnInt, Small, ALong, JustNull, Nullable, Object, Just, Exact}
use Rattle.nr_model.specs.Belonging.{Belongs, Belong, Sharper}
use Rattle.nr_model.specs.Staying.{Stays}
use Rattle.nr_model.specs.TypedHeaps.{Counts, slot_ty, TypedHeap}

-- ---- what a type says of its values

abbrev pub OnTy : List Ty → (Ty → List Ty → Type 0) → Type 0
OnTy [] P = ⊥
OnTy (t ∷ ts) P = P t ts

abbrev pub OnAnInt : Ty → Type 0 → Type 0
OnAnInt AnInt X = X
OnAnInt (Small base) X = X
OnAnInt t X = ⊥

abbrev pub OnALong : Ty → Type 0 → Type 0
OnALong ALong X = X
OnALong t X = ⊥

-- X at a long, Y at any other value; of a value that may be anything the form isn't asked
abbrev pub OnSize : Ty → Type 0 → Type 0 → Type 0
OnSize Anything X Y = ⊥
OnSize ALong X Y = X
OnSize t X Y = Y

-- X at null, Y of the sharper type at a reference
abbrev pub OnNullness : Ty → Type 0 → (Ty → Type 0) → Type 0
OnNullness JustNull X Y = X
OnNullness (Nullable k) X Y = X × Y (Object k)
OnNullness (Object k) X Y = Y (Object k)
OnNullness (Just k) X Y = Y (Just k)
OnNullness (Exact k n) X Y = Y (Exact k n)
OnNullness t X Y = ⊥

-- Y at each kind and length that an object of the type may have
abbrev pub OnKinds : ProgramTables → Ty → (Kind → ℕ → Type 0) → Type 0
OnKinds P (Object k) Y = (e : Kind) (n : ℕ) → T (is_assignable P e k) → Counts P e n → Y e n
OnKinds P (Just k) Y = (n : ℕ) → Counts P k n → Y k n
OnKinds P (Exact k n) Y = Counts P k n → Y k n
OnKinds P t Y = ⊥

abbrev pub OnExact : Ty → (Kind → ℕ → Type 0) → Type 0
OnExact (Exact k n) Y = Y k n
OnExact t Y = ⊥

abbrev pub without_ty : ℕ → List Ty → List Ty
without_ty i [] = []
without_ty zero (t ∷ ts) = ts
without_ty (suc i) (t ∷ ts) = t ∷ without_ty i ts

-- ---- the judgement

-- from the heap h0
module _ (P : ProgramTables) (h0 : Heap) (Q : Ending → Within → Type 0) where
  -- the ending, with values of these types
  abbrev pub Ends : Ending → List Ty → List Ty → Type 0
  Ends e L ts = (w : Within) → TypedHeap P w.heap → Stays h0 w.heap → Belong P w.heap L w.locals → Belong P w.heap ts w.operands → Q e w

  -- the same with a value that was popped
  abbrev pub EndsTop : (Value → (Ending → Type 0) → Type 0) → List Ty → Ty → List Ty → Type 0
  EndsTop f L t ts = (w : Within) (v : Value) → TypedHeap P w.heap → Stays h0 w.heap → Belong P w.heap L w.locals → Belong P w.heap ts w.operands
      → Belongs P w.heap t v → f v (λ e. Q e w)

  abbrev pub Fits : Script → List Ty → List Ty → Type 0
  Fits (GoTo t) L ts = Ends (GoesTo t) L ts
  Fits Throw L ts = OnTy ts (λ t us. EndsTop (λ v K. OnRef v (λ a. K (Threw a))) L t us)
  Fits Return L ts = Ends (Gave None) L ts
  Fits ReturnTop L ts = OnTy ts (λ t us. EndsTop (λ v K. K (Gave (Some v))) L t us)
  Fits (Call m) L ts = Ends (Called m) L ts
  Fits Stuck L ts = ⊥
  Fits (Push c k) L ts = (t : Ty) × ((h : Heap) → Belongs P h t (plain c)) × Fits k L (t ∷ ts)
  Fits (PopInt k) L ts = OnTy ts (λ t us. OnAnInt t ((n : ℤ) → Fits (k n) L us))
  Fits (PopLong k) L ts = OnTy ts (λ t us. OnALong t ((n : ℤ) → Fits (k n) L us))
  Fits (Load i k) L ts = IsSomeAnd (slice_get L i) (λ t. Fits k L (t ∷ ts))
  Fits (Store i k) L ts = OnTy ts (λ t us. (i < length L) × Fits k (slice_set L i t) us)
  Fits (Pick d k) L ts = IsSomeAnd (slice_get ts d) (λ t. Fits k L (t ∷ ts))
  Fits (Drop d k) L ts = (d < length ts) × Fits k L (without_ty d ts)
  Fits (AskLong d k) L ts = IsSomeAnd (slice_get ts d) (λ t. OnSize t (Fits (k true) L ts) (Fits (k false) L ts))
  Fits (AskNull d k) L ts = IsSomeAnd (slice_get ts d) (λ t. OnNullness t (Fits (k true) L (slice_set ts d JustNull)) (λ u. Fits (k false) L (slice_set ts d u)))
  Fits (AskSame k) L ts = OnTy ts (λ t us. OnTy us (λ u vs.
      OnNullness t (Unit {0}) (λ x. Unit {0}) × OnNullness u (Unit {0}) (λ x. Unit {0}) × ((b : Bool) → Fits (k b) L vs)))
  Fits (AskKind d k) L ts = IsSomeAnd (slice_get ts d) (λ t. OnKinds P t (λ e n. Fits (k e n) L (slice_set ts d (Exact e n))))
  Fits (ReadSlot i k) L ts = OnTy ts (λ t us. OnExact t (λ e n. (i < n) × Fits k L (slot_ty P e i ∷ us)))
  Fits (WriteSlot i k) L ts = OnTy ts (λ u us. OnTy us (λ t vs. OnExact t (λ e n. (i < n) × Sharper P u (slot_ty P e i) × Fits k L vs)))
  Fits (Make e ps k) L ts = Counts P e (length ps) × ((h : Heap) (i : ℕ) (p : Plain) → slice_get ps i ≡ Some p → Belongs P h (slot_ty P e i) (plain p))
      × Fits k L (Exact e (length ps) ∷ ts)
  Fits (Print bs k) L ts = Fits k L ts
