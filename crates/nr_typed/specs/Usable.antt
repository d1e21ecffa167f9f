-- States that agree in what the program can use: a local variable or an operand is usable where its type in the
-- verifier's frame there isn't Top. (The project's own.)
use Rattle.std.specs.Prelude.{◌≡◌, ℕ, ◌-◌, ◌⊎◌, List, [], ◌∷◌, length, drop, Option, Some, slice_get}
use Rattle.nr_linked.specs.declared.program.tables.ProgramTables.{ProgramTables}
use Rattle.nr_linked.specs.Programs.{method_at}
use Rattle.nr_linked.specs.TypingFrames.{TypeFrame}
use Rattle.nr_linked.specs.WellTyped.{frame_at}
use Rattle.nr_model.specs.declared.value.Value.{Value}
use Rattle.nr_model.specs.Heaps.{on_some}
use Rattle.nr_model.specs.States.{Frame, Control, Running, Returned, Thrown, State}
use Rattle.nr_model.specs.Alike.{Like, AlikeResult, Any}
use Rattle.nr_model.specs.Pairs.{name_in, name_at, Listed, InResults, Paired}
use Rattle.nr_model.specs.Types.{Ty, Anything, Word, operand_tys, local_tys}

-- what a local variable or an operand of type Top holds isn't usable
abbrev pub Usable : Ty → Type 0
Usable Anything = ⊥
Usable Word = ⊥
Usable t = Unit {0}

-- one place for each type on both sides, and the two values in a usable place agree
pub data UsableLike (R : ℕ → ℕ → Type 0) : List Ty → List Value → List Value → Type 0 where
  no_places : UsableLike R [] [] []
  one_place : {t : Ty} {u v : Value} {ts : List Ty} {us vs : List Value} → (Usable t → Like R u v) → UsableLike R ts us vs
      → UsableLike R (t ∷ ts) (u ∷ us) (v ∷ vs)

-- ---- the types of a frame's places

module _ (P : ProgramTables) (frames : ℕ → List TypeFrame) where
  -- of the local variables in a method at an offset
  abbrev pub local_types : ℕ → ℕ → List Ty
  local_types method offset = on_some (method_at P method) [] (λ m.
      on_some (frame_at m (frames method) offset) [] (λ types. local_tys m m.max_locals types.locals))

  -- of n operands, counted from the bottom: a frame that waits at a call has given the arguments away
  abbrev pub operand_types : ℕ → ℕ → ℕ → List Ty
  operand_types method offset n = on_some (method_at P method) [] (λ m.
      on_some (frame_at m (frames method) offset) [] (λ types.
      operand_tys m (drop (length types.operands - n) types.operands)))

  -- ---- states that agree at usable places

  pub record UsableFrame (R : ℕ → ℕ → Type 0) (f g : Frame) : Type 0 where
    pub method : f.method ≡ g.method
    pub offset : f.offset ≡ g.offset
    pub locals : UsableLike R (local_types f.method f.offset) f.locals g.locals
    pub operands : UsableLike R (operand_types f.method f.offset (length f.operands)) f.operands g.operands

  pub data UsableFrames (R : ℕ → ℕ → Type 0) : List Frame → List Frame → Type 0 where
    no_frame : UsableFrames R [] []
    one_frame : {f g : Frame} {fs gs : List Frame} → UsableFrame R f g → UsableFrames R fs gs
        → UsableFrames R (f ∷ fs) (g ∷ gs)

  -- the same frames, or the same end; what an end holds is usable
  pub data UsableControl (R : ℕ → ℕ → Type 0) : Control → Control → Type 0 where
    both_run : {fs gs : List Frame} → UsableFrames R fs gs → UsableControl R (Running fs) (Running gs)
    both_return : {u v : Option Value} → AlikeResult R u v → UsableControl R (Returned u) (Returned v)
    both_throw : {u v : Value} → Like R u v → UsableControl R (Thrown u) (Thrown v)

  -- ---- the pairs of their references

  -- one usable place holds both names
  abbrev pub AtUsable : List Ty → List Value → List Value → ℕ → ℕ → Type 0
  AtUsable ts us vs x y = (i : ℕ) × (t : Ty) × (slice_get ts i ≡ Some t) × Usable t
      × (name_at us i ≡ Some x) × (name_at vs i ≡ Some y)

  abbrev pub InUsableFrames : List Frame → List Frame → ℕ → ℕ → Type 0
  InUsableFrames (f ∷ fs) (g ∷ gs) x y = AtUsable (local_types f.method f.offset) f.locals g.locals x y
      ⊎ (AtUsable (operand_types f.method f.offset (length f.operands)) f.operands g.operands x y ⊎ InUsableFrames fs gs x y)
  InUsableFrames fs gs x y = ⊥

  abbrev pub InUsableControl : Control → Control → ℕ → ℕ → Type 0
  InUsableControl (Running fs) (Running gs) x y = InUsableFrames fs gs x y
  InUsableControl (Returned u) (Returned v) x y = InResults u v x y
  InUsableControl (Thrown u) (Thrown v) x y = (name_in u ≡ Some x) × (name_in v ≡ Some y)
  InUsableControl c d x y = ⊥

  -- the listed pairs, and the references in usable places of the frames or of the end
  abbrev pub UsableStart : List (ℕ × ℕ) → State → State → ℕ → ℕ → Type 0
  UsableStart ps s t x y = Listed ps x y ⊎ InUsableControl s.control t.control x y

  -- Frames agree in order in method, offset and numbers of local variables and operands; two values in one usable
  -- place are equal numbers, both null or both references; and from the listed pairs and those references the heaps
  -- are paired. Two ends likewise.
  pub record UsablePaired (ps : List (ℕ × ℕ)) (s t : State) : Type 0 where
    pub shape : UsableControl Any s.control t.control
    pub heaps : Paired (UsableStart ps s t) s.heap t.heap
    pub printed : s.printed ≡ t.printed
