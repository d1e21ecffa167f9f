-- What it is for values, objects, frames and states to agree but for the names of objects, where a relation says which
-- names stand for one another (the project's own).
use Rattle.std.specs.Prelude.{◌≡◌, ℕ, ℤ, List, [], ◌∷◌, Option, Some, None}
use Rattle.nr_model.specs.declared.value.Value.{Value}
use Rattle.nr_model.specs.declared.value.Value.TheVariants.{Int, Long, Null, Ref}
use Rattle.nr_model.specs.Heaps.{Obj}
use Rattle.nr_model.specs.States.{Frame, Control, Running, Returned, Thrown}

-- equal numbers, both null, or names that stand for one another
pub data Like (R : ℕ → ℕ → Type 0) : Value → Value → Type 0 where
  like_int : {n : ℤ} → Like R (Int n) (Int n)
  like_long : {n : ℤ} → Like R (Long n) (Long n)
  like_null : Like R Null Null
  like_ref : {x y : ℕ} → R x y → Like R (Ref x) (Ref y)

pub data AllLike (R : ℕ → ℕ → Type 0) : List Value → List Value → Type 0 where
  no_more : AllLike R [] []
  one_more : {u v : Value} {us vs : List Value} → Like R u v → AllLike R us vs → AllLike R (u ∷ us) (v ∷ vs)

-- one class, and slots that agree
pub record AlikeObj (R : ℕ → ℕ → Type 0) (o p : Obj) : Type 0 where
  pub kind : o.kind ≡ p.kind
  pub slots : AllLike R o.slots p.slots

-- what two heaps have under two names: an object each, and these agree
pub data AlikeAt (R : ℕ → ℕ → Type 0) : Option Obj → Option Obj → Type 0 where
  alike_at : {o p : Obj} → AlikeObj R o p → AlikeAt R (Some o) (Some p)

pub record AlikeFrame (R : ℕ → ℕ → Type 0) (f g : Frame) : Type 0 where
  pub method : f.method ≡ g.method
  pub offset : f.offset ≡ g.offset
  pub locals : AllLike R f.locals g.locals
  pub operands : AllLike R f.operands g.operands

pub data AlikeFrames (R : ℕ → ℕ → Type 0) : List Frame → List Frame → Type 0 where
  no_frame : AlikeFrames R [] []
  one_frame : {f g : Frame} {fs gs : List Frame} → AlikeFrame R f g → AlikeFrames R fs gs
      → AlikeFrames R (f ∷ fs) (g ∷ gs)

-- both results are absent, or they agree
pub data AlikeResult (R : ℕ → ℕ → Type 0) : Option Value → Option Value → Type 0 where
  no_result : AlikeResult R None None
  one_result : {u v : Value} → Like R u v → AlikeResult R (Some u) (Some v)

-- the same frames, or the same end
pub data AlikeControl (R : ℕ → ℕ → Type 0) : Control → Control → Type 0 where
  both_run : {fs gs : List Frame} → AlikeFrames R fs gs → AlikeControl R (Running fs) (Running gs)
  both_return : {u v : Option Value} → AlikeResult R u v → AlikeControl R (Returned u) (Returned v)
  both_throw : {u v : Value} → Like R u v → AlikeControl R (Thrown u) (Thrown v)

-- names that aren't looked at
abbrev pub Any : ℕ → ℕ → Type 0
Any x y = Unit {0}
