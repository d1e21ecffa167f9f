-- What is reached, and pairs: names to which one path leads
-- in two heaps (the project's own).
use Rattle.std.specs.Prelude.{◌≡◌, ◌≢◌, ℕ, ◌⊎◌, ◌↔◌, List, [], ◌∷◌, Option, Some, None, slice_get}
use Rattle.std.specs.FinMap.{get}
use Rattle.nr_model.specs.declared.value.Value.{Value}
use Rattle.nr_model.specs.declared.value.Value.TheVariants.{Ref}
use Rattle.nr_model.specs.Heaps.{Heap, on_some}
use Rattle.nr_model.specs.States.{Frame, Control, Running, Returned, Thrown, State}
use Rattle.nr_model.specs.Alike.{AlikeAt, AlikeControl, Any}

abbrev pub name_in : Value → Option ℕ
name_in (Ref a) = Some a
name_in v = None

-- the name at a place of a list, if one is there
abbrev pub name_at : List Value → ℕ → Option ℕ
name_at vs i = on_some (slice_get vs i) None name_in

-- the name in a slot of the object, if one is there
abbrev pub slot_name : Heap → ℕ → ℕ → Option ℕ
slot_name h a i = on_some (get h a) None (λ o. name_at o.slots i)

-- each reference in the heap is to an object of it
abbrev pub IsClosed : Heap → Type 0
IsClosed h = (x i y : ℕ) → slot_name h x i ≡ Some y → get h y ≢ None

-- where a path of slots leads from the name; the empty path leads to the name itself
abbrev pub leads : Heap → List ℕ → ℕ → Option ℕ
leads h [] a = Some a
leads h (i ∷ path) a = on_some (slot_name h a i) None (leads h path)

-- a path leads to the name from a root
abbrev pub Reach : Heap → (ℕ → Type 0) → ℕ → Type 0
Reach h Root x = (a : ℕ) × Root a × (path : List ℕ) × (leads h path a ≡ Some x)

-- one path leads to both from a pair of the start
pub record IsPair (Start : ℕ → ℕ → Type 0) (h k : Heap) (x y : ℕ) : Type 0 where
  pub from_left : ℕ
  pub from_right : ℕ
  pub start : Start from_left from_right
  pub path : List ℕ
  pub to_left : leads h path from_left ≡ Some x
  pub to_right : leads k path from_right ≡ Some y

-- No two pairs share just one of their names. The two objects of each pair agree in class, length, every number, and
-- which slots are null.
pub record Paired (Start : ℕ → ℕ → Type 0) (h k : Heap) : Type 0 where
  pub distinct : (x y u v : ℕ) → IsPair Start h k x y → IsPair Start h k u v → (x ≡ u) ↔ (y ≡ v)
  pub agree : (x y : ℕ) → IsPair Start h k x y → AlikeAt Any (get h x) (get k y)

-- ---- of states

abbrev pub Listed : List (ℕ × ℕ) → ℕ → ℕ → Type 0
Listed [] x y = ⊥
Listed (p ∷ ps) x y = ((x ≡ p.0) × (y ≡ p.1)) ⊎ Listed ps x y

-- one place of two lists holds both names
abbrev pub AtPlace : List Value → List Value → ℕ → ℕ → Type 0
AtPlace us vs x y = (i : ℕ) × (name_at us i ≡ Some x) × (name_at vs i ≡ Some y)

abbrev pub InFrames : List Frame → List Frame → ℕ → ℕ → Type 0
InFrames (f ∷ fs) (g ∷ gs) x y =
    AtPlace f.locals g.locals x y ⊎ (AtPlace f.operands g.operands x y ⊎ InFrames fs gs x y)
InFrames fs gs x y = ⊥

abbrev pub InResults : Option Value → Option Value → ℕ → ℕ → Type 0
InResults u v x y = (on_some u None name_in ≡ Some x) × (on_some v None name_in ≡ Some y)

abbrev pub InControl : Control → Control → ℕ → ℕ → Type 0
InControl (Running fs) (Running gs) x y = InFrames fs gs x y
InControl (Returned u) (Returned v) x y = InResults u v x y
InControl (Thrown u) (Thrown v) x y = (name_in u ≡ Some x) × (name_in v ≡ Some y)
InControl c d x y = ⊥

-- the name stands in a list, in a frame's locals or operands, or in the end
abbrev pub Holds : List Value → ℕ → Type 0
Holds vs a = (i : ℕ) × (name_at vs i ≡ Some a)

abbrev pub NamedInFrames : List Frame → ℕ → Type 0
NamedInFrames [] a = ⊥
NamedInFrames (f ∷ fs) a = Holds f.locals a ⊎ (Holds f.operands a ⊎ NamedInFrames fs a)

abbrev pub NamedIn : Control → ℕ → Type 0
NamedIn (Running fs) a = NamedInFrames fs a
NamedIn (Returned v) a = on_some v None name_in ≡ Some a
NamedIn (Thrown v) a = name_in v ≡ Some a

-- the listed pairs, and the references of the frames or of the end
abbrev pub StartOf : List (ℕ × ℕ) → State → State → ℕ → ℕ → Type 0
StartOf ps s t x y = Listed ps x y ⊎ InControl s.control t.control x y

-- Frames or ends, and printed bytes, agree in all but names, and the heaps are paired.
pub record PairedStates (ps : List (ℕ × ℕ)) (s t : State) : Type 0 where
  pub shape : AlikeControl Any s.control t.control
  pub heaps : Paired (StartOf ps s t) s.heap t.heap
  pub printed : s.printed ≡ t.printed
