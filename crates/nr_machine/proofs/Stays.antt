-- A stay, seen from the whole stack.
use Rattle.std.proofs.Common.{◌≡◌, ℕ, zero, suc, ◌+◌, ◌-◌, ◌<◌, ◌≤◌, List, [], ◌∷◌, ◌++◌, length, take, drop, refl, sym, ap, ap₂, subst, subst₂, ◌∙◌, arith, false}
use Rattle.std.specs.Prelude.{Option, Some, None}
use Rattle.std.specs.Option.{option_map_or}
use Rattle.std.proofs.lemmas.List.{append-nil, length-append, length-drop}
use Rattle.std.proofs.Math.Seq.{take-append_seam, drop-append-add}
use Rattle.nr_linked.specs.declared.program.tables.MethodInfo.{MethodInfo}
use Rattle.nr_linked.specs.declared.program.tables.ProgramTables.{ProgramTables}
use Rattle.nr_linked.specs.Programs.{method_at}
use Rattle.nr_model.specs.declared.value.Value.{Value}
use Rattle.nr_model.specs.Heaps.{Heap}
use Rattle.nr_model.specs.Outcomes.{is_too_deep}
use Rattle.nr_model.specs.States.{Frame, Running}
use Rattle.nr_step.specs.declared.flow.Flow.{Flow}
use Rattle.nr_step.specs.declared.flow.Told.{Told}
use Rattle.nr_machine.specs.declared.stack.Frame.{Frame as CodeFrame}
use Rattle.nr_machine.specs.CallStacks.{IsPlaced, IsStack, all_slots, frame_of, frames_of, locals_of, slots_of}
use Rattle.nr_machine.specs.Stays.{FramesStand, Stayed, frame_with}
use Rattle.nr_machine.proofs.Enters.{slots_of_method}
use Rattle.nr_machine.proofs.Lists.{drop_whole, take_whole}
use Rattle.nr_machine.proofs.Starting.{not_deep}
use Rattle.nr_machine.proofs.Tops.{all_more, count, others_placed, placed, running, sized}
use Rattle.nr_machine.proofs.Windows.{below, frames_are, slots_more, window}

module _ {X : Type 0} where
  pub front_part : (n : ℕ) (a b : List X) → n ≡ length a → take n (a ++ b) ≡ a
  front_part n a b e = subst (λ n. take n (a ++ b) ≡ a) (sym e) (take-append_seam a b)

  pub back_part : (n : ℕ) (a b : List X) → n ≡ length a → drop n (a ++ b) ≡ b
  back_part n a b e = let z : n ≡ length a + 0 = omega (arith, e) in ap (λ n. drop n (a ++ b)) z ∙ drop-append-add a b 0

  -- what a slice of the whole list leaves there
  pub written_back : (n : ℕ) (new old : List X) → length new ≡ length old → n ≡ length old → take n (new ++ drop (length new) old) ≡ new
  written_back n new old e f =
      ap (λ xs. take n (new ++ xs)) (drop_whole (length new) old (omega (arith, e))) ∙ ap (take n) (append-nil new) ∙ take_whole n new (omega (arith, e, f))

-- a frame whose window is in two parts
module _ (P : ProgramTables) (f : CodeFrame) (own : MethodInfo) (is_m : method_at P f.method ≡ Some own) (us ls st : List Value) (n : ℕ) (n_is : n ≡ length us) (as_many : length ls ≡ own.max_locals) where
  pub frame_parts : frame_of P f (drop n (us ++ (ls ++ st))) ≡ frame_with P f ls st
  frame_parts =
      let l : locals_of P f.method ≡ length ls = ap (λ o. option_map_or (λ (i : MethodInfo). i.max_locals) o 0) is_m ∙ sym as_many in
      ap (frame_of P f) (back_part n us (ls ++ st) n_is)
      ∙ ap₂ (frame_with P f) (front_part (locals_of P f.method) ls st l) (back_part (locals_of P f.method) ls st l)

-- the running frame's window begins there
pub window_from : (P : ProgramTables) (m : ℕ) (own : MethodInfo) → method_at P m ≡ Some own → (vs us ls st : List Value) → vs ≡ us ++ (ls ++ st) → length ls ≡ own.max_locals → length st ≡ own.max_stack → length vs - slots_of P m ≡ length us
window_from P m own is_m vs us ls st e l s = omega (arith, ap length e, length-append us (ls ++ st), length-append ls st, l, s, slots_of_method P m own is_m)

module _ (P : ProgramTables) (fs : List CodeFrame) (vs : List Value) (st : IsStack P fs vs) (gs : List CodeFrame) (g : CodeFrame) (e : fs ≡ gs ++ g ∷ []) where
  pub stands_on : (h : Heap) → FramesStand P h (frames_of P fs vs) → FramesStand P h (frame_of P g (window P g vs) ∷ frames_of P gs (below P g vs))
  stands_on h stand = subst (FramesStand P h) (running P fs vs st gs g e) stand

  pub deep_not : is_too_deep P (Running (frame_of P g (window P g vs) ∷ frames_of P gs (below P g vs))) ≡ false
  deep_not = subst (λ xs. is_too_deep P (Running xs) ≡ false) (running P fs vs st gs g e) (not_deep P fs vs st)

  -- another frame of the method, and other values in its window
  module _ (f : CodeFrame) (same : f.method ≡ g.method) (at : IsPlaced P f) (us : List Value) (as_long : length us ≡ length vs) where
    pub same_stack : IsStack P (gs ++ f ∷ []) us
    same_stack = record {
      placed = all_more (IsPlaced P) gs f (others_placed P fs vs st gs g e) at;
      sized = omega (arith, as_long, sized P fs vs st gs g e, slots_more P gs g, slots_more P gs f, ap (slots_of P) same);
      few_frames = omega (arith, st.few_frames, count P fs vs st gs g e, length-append gs (f ∷ []));
      few_values = omega (arith, st.few_values, as_long);
    }

    pub same_frames : take (length vs - slots_of P g.method) us ≡ below P g vs
        → frames_of P (gs ++ f ∷ []) us ≡ frame_of P f (drop (length vs - slots_of P g.method) us) ∷ frames_of P gs (below P g vs)
    same_frames q =
        let n : length us - slots_of P f.method ≡ length vs - slots_of P g.method = omega (arith, as_long, ap (slots_of P) same) in
        frames_are P gs f us same_stack.sized
        ∙ ap₂ (λ xs ys. frame_of P f xs ∷ frames_of P gs ys) (ap (λ n. drop n us) n) (ap (λ n. take n us) n ∙ q)

    pub stayed_so : (steps : ℕ) (h k : Heap) (made : ℕ) (flow : Option Flow) (told : Told) → take (length vs - slots_of P g.method) us ≡ below P g vs
        → Stayed P steps h (frame_of P g (window P g vs) ∷ frames_of P gs (below P g vs)) made flow told k (frame_of P f (drop (length vs - slots_of P g.method) us) ∷ frames_of P gs (below P g vs))
        → Stayed P steps h (frames_of P fs vs) made flow told k (frames_of P (gs ++ f ∷ []) us)
    stayed_so steps h k made flow told q s = subst₂ (λ xs ys. Stayed P steps h xs made flow told k ys) (sym (running P fs vs st gs g e)) (sym (same_frames q)) s
