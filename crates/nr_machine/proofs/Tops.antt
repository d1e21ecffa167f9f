-- The running frame of a stack: its last.
use Rattle.std.proofs.Common.{◌≡◌, ℕ, zero, suc, ◌+◌, ◌<◌, ◌≤◌, List, [], ◌∷◌, ◌++◌, length, get_or, refl, sym, ap, subst, ◌∙◌, arith, add-one}
use Rattle.std.specs.Prelude.{All, slice_index_or}
use Rattle.std.proofs.lemmas.List.{length-append}
use Rattle.std.proofs.lemmas.List.Elements.{All-append}
use Rattle.std.proofs.Math.Seq.{set-append_seam}
use Rattle.nr_linked.specs.declared.program.tables.ProgramTables.{ProgramTables}
use Rattle.nr_model.specs.declared.value.Value.{Value}
use Rattle.nr_model.specs.States.{Frame}
use Rattle.nr_machine.specs.declared.stack.Frame.{Frame as CodeFrame}
use Rattle.nr_machine.specs.CallStacks.{all_slots, frame_of, frames_of, IsPlaced, IsStack, OnRunning}
use Rattle.nr_machine.proofs.Windows.{window, below, frames_are}

module _ {X : Type 0} (Q : X → Type 0) where
  read_left : (xs ys : List X) (k : ℕ) (d : X) → k < length xs → slice_index_or (xs ++ ys) k d ≡ slice_index_or xs k d
  read_left [] ys k d l = absurd (omega (arith, l))
  read_left (x ∷ xs) ys zero d l = refl
  read_left (x ∷ xs) ys (suc k) d l = read_left xs ys k d (omega (arith, l))

  read_seam : (xs : List X) (y d : X) → slice_index_or (xs ++ y ∷ []) (length xs) d ≡ y
  read_seam [] y d = refl
  read_seam (x ∷ xs) y d = read_seam xs y d

  pub all_first : (xs ys : List X) → All Q (xs ++ ys) → All Q xs
  all_first xs ys all k d l = subst Q (read_left xs ys k d l) (all k d (omega (arith, l, length-append xs ys)))

  pub all_last : (xs : List X) (y : X) → All Q (xs ++ y ∷ []) → Q y
  all_last xs y all = subst Q (read_seam xs y y) (all (length xs) y (omega (arith, length-append xs (y ∷ []))))

  pub all_one : (y : X) → Q y → All Q (y ∷ [])
  all_one y q zero d l = q
  all_one y q (suc k) d l = absurd (omega (arith, l))

  pub all_more : (xs : List X) (y : X) → All Q xs → Q y → All Q (xs ++ y ∷ [])
  all_more xs y all q = All-append Q xs (y ∷ []) all (all_one y q)

module _ (P : ProgramTables) (fs : List CodeFrame) (vs : List Value) (st : IsStack P fs vs) (gs : List CodeFrame) (g : CodeFrame) (e : fs ≡ gs ++ g ∷ []) where
  pub sized : length vs ≡ all_slots P (gs ++ g ∷ [])
  sized = st.sized ∙ ap (all_slots P) e

  pub placed : IsPlaced P g
  placed = all_last (IsPlaced P) gs g (subst (All (IsPlaced P)) e st.placed)

  pub others_placed : All (IsPlaced P) gs
  others_placed = all_first (IsPlaced P) gs (g ∷ []) (subst (All (IsPlaced P)) e st.placed)

  pub count : length fs ≡ length gs + 1
  count = ap length e ∙ length-append gs (g ∷ [])

  pub running : frames_of P fs vs ≡ frame_of P g (window P g vs) ∷ frames_of P gs (below P g vs)
  running = ap (λ fs. frames_of P fs vs) e ∙ frames_are P gs g vs sized

  -- what is said of the running frame
  pub on_running : (Q : Frame → List Frame → Type 0) → OnRunning (frames_of P fs vs) Q → Q (frame_of P g (window P g vs)) (frames_of P gs (below P g vs))
  on_running Q q = subst (λ xs. OnRunning xs Q) running q

  pub say_running : (Q : Frame → List Frame → Type 0) → Q (frame_of P g (window P g vs)) (frames_of P gs (below P g vs)) → OnRunning (frames_of P fs vs) Q
  say_running Q q = subst (λ xs. OnRunning xs Q) (sym running) q

-- a stack without frames has none that runs
pub some_frame : (P : ProgramTables) (fs : List CodeFrame) (vs : List Value) (Q : Frame → List Frame → Type 0) → fs ≡ [] → OnRunning (frames_of P fs vs) Q → ⊥
some_frame P fs vs Q e q = subst (λ fs. OnRunning (frames_of P fs vs) Q) e q

-- ---- what is said of the running frame, in other words

pub running_so : (fs : List Frame) (Q R : Frame → List Frame → Type 0) → OnRunning fs Q → ((f : Frame) (below : List Frame) → Q f below → R f below) → OnRunning fs R
running_so [] Q R q by = q
running_so (f ∷ fs) Q R q by = by f fs q

pub running_both : {Z : Type 0} (fs : List Frame) (Q R : Frame → List Frame → Type 0) → OnRunning fs Q → OnRunning fs R → ((f : Frame) (below : List Frame) → Q f below → R f below → Z) → Z
running_both [] Q R q r by = absurd q
running_both (f ∷ fs) Q R q r by = by f fs q r
