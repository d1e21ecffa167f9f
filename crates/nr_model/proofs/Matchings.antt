-- What is kept between two machines that run side by side: a one to one relation of names under which their heaps,
-- frames and ends agree.
use Rattle.std.specs.Prelude.{◌≡◌, ◌≢◌, ℕ, ◌+◌, ◌⊎◌, Option, None}
use Rattle.std.specs.FinMap.{get}
use Rattle.nr_model.specs.declared.value.Value.{Value}
use Rattle.nr_model.specs.Heaps.{Heap, cells}
use Rattle.nr_model.specs.Scripts.{Within, Ending, GoesTo, Threw, Gave, Called}
use Rattle.nr_model.specs.States.{State}
use Rattle.nr_model.specs.Alike.{AllLike, AlikeAt, AlikeResult, AlikeControl}

-- the relation is one to one, and the objects that it relates agree
pub record Matched (R : ℕ → ℕ → Type 0) (h k : Heap) : Type 0 where
  pub one_right : (x y z : ℕ) → R x y → R x z → y ≡ z
  pub one_left : (x y z : ℕ) → R x z → R y z → x ≡ y
  pub alike : (x y : ℕ) → R x y → AlikeAt R (get h x) (get k y)

-- of the objects of h only those of In may have changed in k, and none is gone
pub record Kept (In : ℕ → Type 0) (h k : Heap) : Type 0 where
  pub outside : (x : ℕ) → get h x ≢ None → (In x → ⊥) → get k x ≡ get h x
  pub names : (x : ℕ) → get k x ≡ None → get h x ≡ None

abbrev pub OnLeft : (ℕ → ℕ → Type 0) → ℕ → Type 0
OnLeft R x = (y : ℕ) × R x y

abbrev pub OnRight : (ℕ → ℕ → Type 0) → ℕ → Type 0
OnRight R y = (x : ℕ) × R x y

-- Two heaps went on side by side, from h1 and h2 to k1 and k2: the relation has only grown, by names that are new on
-- both sides; only related objects were changed; what is new is related; and the cells grew alike.
pub record Moved (R : ℕ → ℕ → Type 0) (h1 h2 : Heap) (S : ℕ → ℕ → Type 0) (k1 k2 : Heap) : Type 0 where
  pub older : (x y : ℕ) → R x y → S x y
  pub newer : (x y : ℕ) → S x y → R x y ⊎ ((get h1 x ≡ None) × (get h2 y ≡ None))
  pub left : Kept (OnLeft R) h1 k1
  pub right : Kept (OnRight R) h2 k2
  pub left_new : (x : ℕ) → get h1 x ≡ None → (OnLeft S x → ⊥) → get k1 x ≡ None
  pub right_new : (y : ℕ) → get h2 y ≡ None → (OnRight S y → ⊥) → get k2 y ≡ None
  pub grown : cells k1 + cells h2 ≡ cells k2 + cells h1

pub data AlikeEnding (R : ℕ → ℕ → Type 0) : Ending → Ending → Type 0 where
  both_go : {t : ℕ} → AlikeEnding R (GoesTo t) (GoesTo t)
  both_threw : {x y : ℕ} → R x y → AlikeEnding R (Threw x) (Threw y)
  both_gave : {u v : Option Value} → AlikeResult R u v → AlikeEnding R (Gave u) (Gave v)
  both_called : {m : ℕ} → AlikeEnding R (Called m) (Called m)

pub record AlikeWithin (R : ℕ → ℕ → Type 0) (w1 w2 : Within) : Type 0 where
  pub heap : Matched R w1.heap w2.heap
  pub printed : w1.printed ≡ w2.printed
  pub locals : AllLike R w1.locals w2.locals
  pub operands : AllLike R w1.operands w2.operands

pub record AlikeState (R : ℕ → ℕ → Type 0) (s t : State) : Type 0 where
  pub heap : Matched R s.heap t.heap
  pub control : AlikeControl R s.control t.control
  pub printed : s.printed ≡ t.printed
