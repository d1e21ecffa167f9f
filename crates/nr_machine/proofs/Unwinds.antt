-- The running frame goes on at its handler.
use Rattle.std.proofs.Common.{◌≡◌, ℕ, zero, suc, ◌+◌, ◌-◌, ◌<◌, ◌≤◌, List, [], ◌∷◌, ◌++◌, length, refl, sym, ap, subst, ◌∙◌, arith}
use Rattle.std.specs.Prelude.{Option, Some, None, IsSome, IsSomeAnd}
use Rattle.std.proofs.lemmas.List.{length-append}
use Rattle.nr_linked.specs.declared.program.kind.Kind.{Kind}
use Rattle.nr_linked.specs.declared.program.tables.MethodInfo.{MethodInfo}
use Rattle.nr_linked.specs.declared.program.tables.ProgramTables.{ProgramTables}
use Rattle.nr_linked.specs.Programs.{method_at}
use Rattle.nr_linked.specs.Sites.{site_at}
use Rattle.nr_model.specs.declared.value.Value.{Value}
use Rattle.nr_model.specs.Heaps.{on_some}
use Rattle.nr_model.specs.States.{Frame, Control, Running}
use Rattle.nr_model.specs.Steps.{handler_at, unwound}
use Rattle.nr_machine.specs.declared.stack.Frame.{Frame as CodeFrame}
use Rattle.nr_machine.specs.CallStacks.{CanGoOn, CanRun, StandsAt, all_slots, code_at, offset_at, frame_of, frames_of, IsPlaced, IsStack, OnRunning}
use Rattle.nr_machine.proofs.Windows.{window, below, frames_are, slots_more}
use Rattle.nr_machine.proofs.Tops.{all_more, count, others_placed, placed, running, sized}
use Rattle.nr_machine.proofs.Places.{code_is}

-- the frame at its handler, without operands
abbrev pub at_handler : CodeFrame → ℕ → CodeFrame
at_handler g place = record g { instr = place; depth = 0 }

module _ (P : ProgramTables) (kind : Kind) (v : Value) (fs : List CodeFrame) (vs : List Value) (st : IsStack P fs vs) (gs : List CodeFrame) (g : CodeFrame) (e : fs ≡ gs ++ g ∷ []) where
  abbrev at : IsPlaced P g
  at = placed P fs vs st gs g e

  abbrev pub frame : Frame
  frame = frame_of P g (window P g vs)

  abbrev pub handler : Option ℕ
  handler = handler_at P g.method (offset_at P g.method g.instr) kind

  abbrev caught : ℕ → Control
  caught t = Running (record frame { offset = t; operands = v ∷ [] } ∷ frames_of P gs (below P g vs))

  unwound_is : unwound P kind v (frames_of P fs vs) ≡ on_some handler (unwound P kind v (frames_of P gs (below P g vs))) caught
  unwound_is = ap (unwound P kind v) (running P fs vs st gs g e)

  -- where a throw goes on, an instruction stands, and an operand has a place
  module _ (can : CanGoOn P (unwound P kind v (frames_of P fs vs))) (t : ℕ) (h : handler ≡ Some t) where
    can_run : CanRun P (record frame { offset = t; operands = v ∷ [] })
    can_run = subst (CanGoOn P) (unwound_is ∙ ap (λ o. on_some o (unwound P kind v (frames_of P gs (below P g vs))) caught) h) can

    pub stands : StandsAt P g.method t
    stands = subst (λ o. IsSomeAnd o (λ (i : MethodInfo). IsSome (site_at i t))) (sym can_run.is_method) (subst (λ o. IsSome o) (sym can_run.is_site) refl)

    pub room : IsSomeAnd (method_at P g.method) (λ i. 0 + 1 ≤ i.max_stack)
    room = subst (λ o. IsSomeAnd o (λ (i : MethodInfo). 0 + 1 ≤ i.max_stack)) (sym can_run.is_method) (omega (arith, can_run.depth))

  pub handler_stack : (place : ℕ) → place < length (code_at P g.method) → IsStack P (gs ++ at_handler g place ∷ []) vs
  handler_stack place l = record {
    placed = all_more (IsPlaced P) gs (at_handler g place) (others_placed P fs vs st gs g e)
        (record { method = at.method; body = at.body; is_method = at.is_method; is_body = at.is_body; instr = subst (λ is. place < length is) (code_is P g.method at.method at.body at.is_method at.is_body) l; depth = omega arith });
    sized = omega (arith, sized P fs vs st gs g e, slots_more P gs g, slots_more P gs (at_handler g place));
    few_frames = omega (arith, st.few_frames, count P fs vs st gs g e, length-append gs (at_handler g place ∷ []));
    few_values = st.few_values;
  }

  pub caught_is : (place : ℕ) → place < length (code_at P g.method) → handler ≡ Some (offset_at P g.method place) → (new : List Frame)
      → OnRunning (frames_of P (gs ++ at_handler g place ∷ []) vs) (λ f others. new ≡ record f { operands = v ∷ f.operands } ∷ others)
      → unwound P kind v (frames_of P fs vs) ≡ Running new
  caught_is place l h new q =
      let n : length vs ≡ all_slots P (gs ++ at_handler g place ∷ []) = (handler_stack place l).sized in
      let f : new ≡ record (frame_of P (at_handler g place) (window P g vs)) { operands = v ∷ [] } ∷ frames_of P gs (below P g vs)
      = subst (λ xs. OnRunning xs (λ f others. new ≡ record f { operands = v ∷ f.operands } ∷ others)) (frames_are P gs (at_handler g place) vs n) q in
      unwound_is ∙ ap (λ o. on_some o (unwound P kind v (frames_of P gs (below P g vs))) caught) h ∙ ap (λ xs. Running xs) (sym f)

  pub missed_is : handler ≡ None → OnRunning (frames_of P fs vs) (λ f others. handler_at P f.method f.offset kind ≡ None)
  missed_is h = subst (λ xs. OnRunning xs (λ f others. handler_at P f.method f.offset kind ≡ None)) (sym (running P fs vs st gs g e)) h
