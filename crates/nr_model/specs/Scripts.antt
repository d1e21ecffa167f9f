-- What an instruction does to a frame and the heap, as a list of accesses. A script says it. Names of objects pass
-- through the operands alone: what a script goes on with depends on numbers, classes, lengths and tests, never on a
-- name. (The project's own way to write the rules of the JVM Specification, 6.5.)
use Rattle.std.specs.Prelude.{◌≡◌, ℕ, zero, suc, ◌<◌, ℤ, Bool, true, false, List, [], ◌∷◌, ◌++◌, Option, Some, None, IsSomeAnd, length, map, slice_get, slice_set, nat_eq}
use Rattle.std.specs.FinMap.{get, insert}
use Rattle.nr_linked.specs.declared.program.kind.Kind.{Kind}
use Rattle.nr_model.specs.declared.value.Value.{Value}
use Rattle.nr_model.specs.declared.value.Value.TheVariants.{Int, Long, Null, Ref}
use Rattle.nr_model.specs.Heaps.{Obj, Heap}

-- a value with no name in it
pub data Plain : Type 0 where
  PlainInt : ℤ → Plain
  PlainLong : ℤ → Plain
  PlainNull : Plain

abbrev pub plain : Plain → Value
plain (PlainInt n) = Int n
plain (PlainLong n) = Long n
plain PlainNull = Null

-- A depth counts operands from the top, which has depth 0. A long is one operand.
pub data Script : Type 0 where
  -- how an instruction ends
  GoTo : ℕ → Script  -- on at this offset
  Throw : Script  -- takes a reference and throws its object
  Return : Script  -- from the method, with nothing
  ReturnTop : Script  -- from the method, with the topmost operand
  Call : ℕ → Script  -- of this method, whose arguments are the topmost operands
  Stuck : Script  -- there is no rule
  -- numbers and null
  Push : Plain → Script → Script
  PopInt : (ℤ → Script) → Script
  PopLong : (ℤ → Script) → Script
  -- local variables and operands
  Load : ℕ → Script → Script
  Store : ℕ → Script → Script
  Pick : ℕ → Script → Script  -- copies the operand at the depth to the top
  Drop : ℕ → Script → Script  -- takes the operand at the depth away
  AskLong : ℕ → (Bool → Script) → Script  -- is the operand at the depth a long?
  AskNull : ℕ → (Bool → Script) → Script  -- is the reference at the depth null?
  AskSame : (Bool → Script) → Script  -- takes two references: are they the same?
  -- objects and arrays
  AskKind : ℕ → (Kind → ℕ → Script) → Script  -- class and number of slots of the object at the depth
  ReadSlot : ℕ → Script → Script  -- takes a reference, and gives what the slot holds
  WriteSlot : ℕ → Script → Script  -- takes a value and the reference below it
  Make : Kind → List Plain → Script → Script  -- gives a new object, whose name isn't in the heap
  -- output
  Print : List ℕ → Script → Script

-- what an instruction works on: the heap, its frame, and the bytes that it has printed
pub record Within : Type 0 where
  pub heap : Heap
  pub locals : List Value
  pub operands : List Value  -- the topmost first
  pub printed : List ℕ

pub data Ending : Type 0 where
  GoesTo : ℕ → Ending
  Threw : ℕ → Ending  -- the object of this name
  Gave : Option Value → Ending
  Called : ℕ → Ending

-- ---- what a rule finds; where it finds something else, there is no rule

abbrev pub OnTop : List Value → (Value → List Value → Type 0) → Type 0
OnTop [] P = ⊥
OnTop (v ∷ vs) P = P v vs

abbrev pub OnInt : Value → (ℤ → Type 0) → Type 0
OnInt (Int n) P = P n
OnInt v P = ⊥

abbrev pub OnLong : Value → (ℤ → Type 0) → Type 0
OnLong (Long n) P = P n
OnLong v P = ⊥

abbrev pub OnRef : Value → (ℕ → Type 0) → Type 0
OnRef (Ref a) P = P a
OnRef v P = ⊥

-- a reference: the name, or none for null
abbrev pub OnReference : Value → (Option ℕ → Type 0) → Type 0
OnReference (Ref a) P = P (Some a)
OnReference Null P = P None
OnReference v P = ⊥

abbrev pub is_long : Value → Bool
is_long (Long n) = true
is_long v = false

abbrev pub is_null : Option ℕ → Bool
is_null None = true
is_null (Some a) = false

abbrev pub is_same : Option ℕ → Option ℕ → Bool
is_same None None = true
is_same (Some a) (Some b) = nat_eq a b
is_same a b = false

abbrev pub without : ℕ → List Value → List Value
without i [] = []
without zero (v ∷ vs) = vs
without (suc i) (v ∷ vs) = v ∷ without i vs

abbrev pub IsIn : {X : Type 0} → ℕ → List X → Type 0
IsIn i xs = i < length xs

-- the object that a value names
abbrev pub OnObject : Heap → Value → (ℕ → Obj → Type 0) → Type 0
OnObject h v P = OnRef v (λ a. IsSomeAnd (get h a) (P a))

abbrev pub new_object : Kind → List Plain → Obj
new_object k ps = record { kind = k; slots = map plain ps }

-- the heap with a value in a slot of the object of this name
abbrev pub with_slot : Heap → ℕ → Obj → ℕ → Value → Heap
with_slot h a o i v = insert h a (record o { slots = slice_set o.slots i v })

-- ---- the script leads from w to w', with this ending

abbrev pub Runs : Script → Within → Ending → Within → Type 0
Runs (GoTo t) w e w' = (e ≡ GoesTo t) × (w' ≡ w)
Runs Throw w e w' = OnTop w.operands (λ v vs. OnRef v (λ a. (e ≡ Threw a) × (w' ≡ record w { operands = vs })))
Runs Return w e w' = (e ≡ Gave None) × (w' ≡ w)
Runs ReturnTop w e w' = OnTop w.operands (λ v vs. (e ≡ Gave (Some v)) × (w' ≡ record w { operands = vs }))
Runs (Call m) w e w' = (e ≡ Called m) × (w' ≡ w)
Runs Stuck w e w' = ⊥
Runs (Push c k) w e w' = Runs k (record w { operands = plain c ∷ w.operands }) e w'
Runs (PopInt k) w e w' = OnTop w.operands (λ v vs. OnInt v (λ n. Runs (k n) (record w { operands = vs }) e w'))
Runs (PopLong k) w e w' = OnTop w.operands (λ v vs. OnLong v (λ n. Runs (k n) (record w { operands = vs }) e w'))
Runs (Load i k) w e w' = IsSomeAnd (slice_get w.locals i) (λ v. Runs k (record w { operands = v ∷ w.operands }) e w')
Runs (Store i k) w e w' = OnTop w.operands (λ v vs.
    IsIn i w.locals × Runs k (record w { locals = slice_set w.locals i v; operands = vs }) e w')
Runs (Pick d k) w e w' = IsSomeAnd (slice_get w.operands d) (λ v. Runs k (record w { operands = v ∷ w.operands }) e w')
Runs (Drop d k) w e w' = IsIn d w.operands × Runs k (record w { operands = without d w.operands }) e w'
Runs (AskLong d k) w e w' = IsSomeAnd (slice_get w.operands d) (λ v. Runs (k (is_long v)) w e w')
Runs (AskNull d k) w e w' = IsSomeAnd (slice_get w.operands d) (λ v. OnReference v (λ r. Runs (k (is_null r)) w e w'))
Runs (AskSame k) w e w' = OnTop w.operands (λ v vs. OnTop vs (λ u us. OnReference v (λ a. OnReference u (λ b.
    Runs (k (is_same a b)) (record w { operands = us }) e w'))))
Runs (AskKind d k) w e w' = IsSomeAnd (slice_get w.operands d) (λ v. OnObject w.heap v (λ a o.
    Runs (k o.kind (length o.slots)) w e w'))
Runs (ReadSlot i k) w e w' = OnTop w.operands (λ v vs. OnObject w.heap v (λ a o. IsSomeAnd (slice_get o.slots i) (λ u.
    Runs k (record w { operands = u ∷ vs }) e w')))
Runs (WriteSlot i k) w e w' = OnTop w.operands (λ u us. OnTop us (λ v vs. OnObject w.heap v (λ a o.
    IsIn i o.slots × Runs k (record w { heap = with_slot w.heap a o i u; operands = vs }) e w')))
Runs (Make c ps k) w e w' = (a : ℕ) × (get w.heap a ≡ None)
    × Runs k (record w { heap = insert w.heap a (new_object c ps); operands = Ref a ∷ w.operands }) e w'
Runs (Print bs k) w e w' = Runs k (record w { printed = w.printed ++ bs }) e w'

-- ---- the script can run whatever names new objects take, and each of its runs ends with Q

abbrev pub Wp : Script → Within → (Ending → Within → Type 0) → Type 0
Wp (GoTo t) w Q = Q (GoesTo t) w
Wp Throw w Q = OnTop w.operands (λ v vs. OnRef v (λ a. Q (Threw a) (record w { operands = vs })))
Wp Return w Q = Q (Gave None) w
Wp ReturnTop w Q = OnTop w.operands (λ v vs. Q (Gave (Some v)) (record w { operands = vs }))
Wp (Call m) w Q = Q (Called m) w
Wp Stuck w Q = ⊥
Wp (Push c k) w Q = Wp k (record w { operands = plain c ∷ w.operands }) Q
Wp (PopInt k) w Q = OnTop w.operands (λ v vs. OnInt v (λ n. Wp (k n) (record w { operands = vs }) Q))
Wp (PopLong k) w Q = OnTop w.operands (λ v vs. OnLong v (λ n. Wp (k n) (record w { operands = vs }) Q))
Wp (Load i k) w Q = IsSomeAnd (slice_get w.locals i) (λ v. Wp k (record w { operands = v ∷ w.operands }) Q)
Wp (Store i k) w Q = OnTop w.operands (λ v vs.
    IsIn i w.locals × Wp k (record w { locals = slice_set w.locals i v; operands = vs }) Q)
Wp (Pick d k) w Q = IsSomeAnd (slice_get w.operands d) (λ v. Wp k (record w { operands = v ∷ w.operands }) Q)
Wp (Drop d k) w Q = IsIn d w.operands × Wp k (record w { operands = without d w.operands }) Q
Wp (AskLong d k) w Q = IsSomeAnd (slice_get w.operands d) (λ v. Wp (k (is_long v)) w Q)
Wp (AskNull d k) w Q = IsSomeAnd (slice_get w.operands d) (λ v. OnReference v (λ r. Wp (k (is_null r)) w Q))
Wp (AskSame k) w Q = OnTop w.operands (λ v vs. OnTop vs (λ u us. OnReference v (λ a. OnReference u (λ b.
    Wp (k (is_same a b)) (record w { operands = us }) Q))))
Wp (AskKind d k) w Q = IsSomeAnd (slice_get w.operands d) (λ v. OnObject w.heap v (λ a o.
    Wp (k o.kind (length o.slots)) w Q))
Wp (ReadSlot i k) w Q = OnTop w.operands (λ v vs. OnObject w.heap v (λ a o. IsSomeAnd (slice_get o.slots i) (λ u.
    Wp k (record w { operands = u ∷ vs }) Q)))
Wp (WriteSlot i k) w Q = OnTop w.operands (λ u us. OnTop us (λ v vs. OnObject w.heap v (λ a o.
    IsIn i o.slots × Wp k (record w { heap = with_slot w.heap a o i u; operands = vs }) Q)))
Wp (Make c ps k) w Q = (a : ℕ) → get w.heap a ≡ None
    → Wp k (record w { heap = insert w.heap a (new_object c ps); operands = Ref a ∷ w.operands }) Q
Wp (Print bs k) w Q = Wp k (record w { printed = w.printed ++ bs }) Q
