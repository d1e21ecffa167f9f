-- Frames and their windows: that of the running method comes last.
use Rattle.std.proofs.Common.{◌≡◌, ℕ, zero, suc, ◌+◌, ◌-◌, ◌<◌, ◌≤◌, List, [], ◌∷◌, ◌++◌, length, take, drop, refl, sym, ap, ap₂, subst, ◌∙◌, arith}
use Rattle.std.specs.Prelude.{reverse, All}
use Rattle.std.proofs.lemmas.List.{reverse-append, take-append-le, drop-append-le, length-append, length-drop, length-reverse, take-append-drop}
use Rattle.nr_linked.specs.declared.program.tables.ProgramTables.{ProgramTables}
use Rattle.nr_linked.specs.Programs.{method_at}
use Rattle.nr_model.specs.declared.value.Value.{Value}
use Rattle.nr_model.specs.States.{Frame}
use Rattle.nr_model.specs.Outcomes.{value_slots}
use Rattle.nr_machine.specs.declared.stack.Frame.{Frame as CodeFrame}
use Rattle.nr_machine.specs.CallStacks.{slots_of, all_slots, frame_of, windows, frames_of, IsPlaced, IsStack}
use Rattle.nr_machine.proofs.Lists.{none_left, take_whole, reverse_more}

module _ (P : ProgramTables) where
  pub slots_more : (gs : List CodeFrame) (g : CodeFrame) → all_slots P (gs ++ g ∷ []) ≡ all_slots P gs + slots_of P g.method
  slots_more [] g = omega arith
  slots_more (f ∷ gs) g = omega (arith, slots_more gs g)

  windows_more : (gs : List CodeFrame) (g : CodeFrame) (us ws : List Value) → length us ≡ all_slots P gs
      → windows P (gs ++ g ∷ []) (us ++ ws) ≡ windows P gs us ++ (frame_of P g (take (slots_of P g.method) ws) ∷ [])
  windows_more [] g us ws e = ap (λ (xs : List Value). frame_of P g (take (slots_of P g.method) (xs ++ ws)) ∷ []) (none_left us e)
  windows_more (f ∷ gs) g us ws e =
      let n : slots_of P f.method ≤ length us = omega (arith, e) in
      let l : length (drop (slots_of P f.method) us) ≡ all_slots P gs = omega (arith, length-drop (slots_of P f.method) us, e) in
      ap₂ (λ (xs ys : List Value). frame_of P f xs ∷ windows P (gs ++ g ∷ []) ys) (take-append-le (slots_of P f.method) us ws n) (drop-append-le (slots_of P f.method) us ws n)
      ∙ ap (λ xs. frame_of P f (take (slots_of P f.method) us) ∷ xs) (windows_more gs g (drop (slots_of P f.method) us) ws l)

  pub frames_more : (gs : List CodeFrame) (g : CodeFrame) (us ws : List Value) → length us ≡ all_slots P gs → length ws ≡ slots_of P g.method
      → frames_of P (gs ++ g ∷ []) (us ++ ws) ≡ frame_of P g ws ∷ frames_of P gs us
  frames_more gs g us ws e f =
      ap reverse (windows_more gs g us ws e ∙ ap (λ xs. windows P gs us ++ (frame_of P g xs ∷ [])) (take_whole (slots_of P g.method) ws f))
      ∙ reverse-append (windows P gs us) (frame_of P g ws ∷ [])

  -- the values below the last window, and the window
  abbrev pub below : CodeFrame → List Value → List Value
  below g vs = take (length vs - slots_of P g.method) vs

  abbrev pub window : CodeFrame → List Value → List Value
  window g vs = drop (length vs - slots_of P g.method) vs

  module _ (gs : List CodeFrame) (g : CodeFrame) (vs : List Value) (sized : length vs ≡ all_slots P (gs ++ g ∷ [])) where
    enough : length vs ≡ all_slots P gs + slots_of P g.method
    enough = sized ∙ slots_more gs g

    pub below_sized : length (below g vs) ≡ all_slots P gs
    below_sized = omega (arith, enough, ap length (take-append-drop (length vs - slots_of P g.method) vs), length-append (below g vs) (window g vs), length-drop (length vs - slots_of P g.method) vs)

    pub window_sized : length (window g vs) ≡ slots_of P g.method
    window_sized = omega (arith, enough, length-drop (length vs - slots_of P g.method) vs)

    pub parts : below g vs ++ window g vs ≡ vs
    parts = take-append-drop (length vs - slots_of P g.method) vs

    -- the running frame, and those below it
    pub frames_are : frames_of P (gs ++ g ∷ []) vs ≡ frame_of P g (window g vs) ∷ frames_of P gs (below g vs)
    frames_are = ap (frames_of P (gs ++ g ∷ [])) (sym parts) ∙ frames_more gs g (below g vs) (window g vs) below_sized window_sized

  -- ---- limits

  windows_length : (fs : List CodeFrame) (vs : List Value) → length (windows P fs vs) ≡ length fs
  windows_length [] vs = refl
  windows_length (f ∷ fs) vs = ap suc (windows_length fs (drop (slots_of P f.method) vs))

  pub frames_length : (fs : List CodeFrame) (vs : List Value) → length (frames_of P fs vs) ≡ length fs
  frames_length fs vs = length-reverse (windows P fs vs) ∙ windows_length fs vs

  value_slots_more : (fs : List Frame) (f : Frame) → value_slots P (fs ++ f ∷ []) ≡ slots_of P f.method + value_slots P fs
  value_slots_more [] f = omega arith
  value_slots_more (e ∷ fs) f = omega (arith, value_slots_more fs f)

  windows_slots : (fs : List CodeFrame) (vs : List Value) → value_slots P (reverse (windows P fs vs)) ≡ all_slots P fs
  windows_slots [] vs = refl
  windows_slots (f ∷ fs) vs =
      let rest = windows P fs (drop (slots_of P f.method) vs) in
      ap (value_slots P) (reverse_more (frame_of P f (take (slots_of P f.method) vs)) rest)
      ∙ value_slots_more (reverse rest) (frame_of P f (take (slots_of P f.method) vs))
      ∙ ap (λ n. slots_of P f.method + n) (windows_slots fs (drop (slots_of P f.method) vs))

  pub frames_slots : (fs : List CodeFrame) (vs : List Value) → value_slots P (frames_of P fs vs) ≡ all_slots P fs
  frames_slots fs vs = windows_slots fs vs
