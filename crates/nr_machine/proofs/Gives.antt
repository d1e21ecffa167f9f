-- The frame below goes on with a result.
use Rattle.std.proofs.Common.{◌≡◌, ℕ, zero, suc, ◌+◌, ◌-◌, ◌<◌, ◌≤◌, List, [], ◌∷◌, ◌++◌, length, drop, refl, sym, ap, ap₂, subst, ◌∙◌, arith}
use Rattle.std.specs.Prelude.{Option, Some, None, All, IsSomeAnd}
use Rattle.std.specs.Option.{option_map}
use Rattle.std.proofs.lemmas.List.{length-append}
use Rattle.nr_prog.specs.declared.body.whole.Body.{Body}
use Rattle.nr_linked.specs.declared.program.tables.MethodInfo.{MethodInfo}
use Rattle.nr_linked.specs.declared.program.tables.ProgramTables.{ProgramTables}
use Rattle.nr_linked.specs.Facts.{ProgramFacts}
use Rattle.nr_linked.specs.Programs.{method_at}
use Rattle.nr_model.specs.declared.value.Value.{Value}
use Rattle.nr_model.specs.States.{Frame, Control, Running, Returned}
use Rattle.nr_model.specs.Steps.{next_offset, with_result, given}
use Rattle.nr_machine.specs.declared.stack.Frame.{Frame as CodeFrame}
use Rattle.nr_machine.specs.CallStacks.{CanGoOn, CanRun, all_slots, code_at, offset_at, frame_of, frames_of, locals_of, IsPlaced, IsStack, OnRunning}
use Rattle.nr_machine.proofs.Lists.{top_length}
use Rattle.nr_machine.proofs.Windows.{window, below, frames_are, slots_more}
use Rattle.nr_machine.proofs.Tops.{all_more, count, others_placed, placed, running, running_both, running_so, say_running, sized}
use Rattle.nr_machine.proofs.Calls.{some_both}
use Rattle.nr_machine.proofs.Places.{code_is, next_place}

next_some : {X : Type 0} (o : Option ℕ) (k : ℕ → X) (c : X) → option_map k o ≡ Some c → (t : ℕ) × (o ≡ Some t) × (k t ≡ c)
next_some None k c e = absurd cc
next_some (Some t) k c e = (t, refl, cc)

-- the frame at its next instruction
abbrev pub onward : CodeFrame → CodeFrame
onward g = record g { instr = g.instr + 1 }

module _ (P : ProgramTables) (facts : ProgramFacts P) (fs : List CodeFrame) (vs : List Value) (st : IsStack P fs vs) (gs : List CodeFrame) (g : CodeFrame) (e : fs ≡ gs ++ g ∷ []) (v : Option Value)
    (can : (c : Control) × (given P v (frames_of P fs vs) ≡ Some c) × CanGoOn P c) where
  abbrev at : IsPlaced P g
  at = placed P fs vs st gs g e

  abbrev caller : Frame
  caller = frame_of P g (window P g vs)

  abbrev result_of : ℕ → Control
  result_of t = Running (record caller { offset = t; operands = with_result v caller.operands } ∷ frames_of P gs (below P g vs))

  next : (t : ℕ) × (next_offset P g.method (offset_at P g.method g.instr) ≡ Some t) × (result_of t ≡ can.0)
  next = next_some (next_offset P g.method (offset_at P g.method g.instr)) result_of can.0 (subst (λ xs. given P v xs ≡ Some can.0) (running P fs vs st gs g e) can.1)

  there : (g.instr + 1 < length at.body.instrs) × (offset_at P g.method (g.instr + 1) ≡ next.0)
  there = next_place P g.method at.method at.body at.is_method at.is_body facts g.instr at.instr next.0 next.1

  pub next_within : g.instr + 1 < length (code_at P g.method)
  next_within = subst (λ is. g.instr + 1 < length is) (sym (code_is P g.method at.method at.body at.is_method at.is_body)) there.0

  pub room : (u : Value) → v ≡ Some u → IsSomeAnd (method_at P g.method) (λ i. g.depth + 1 ≤ i.max_stack)
  room u f =
      let run : CanRun P (record caller { offset = next.0; operands = with_result v caller.operands }) = subst (CanGoOn P) (sym next.2) can.2 in
      let n : length (with_result v caller.operands) ≡ g.depth + 1 = ap (λ v. length (with_result v caller.operands)) f ∙ more in
      subst (λ o. IsSomeAnd o (λ (i : MethodInfo). g.depth + 1 ≤ i.max_stack)) (sym run.is_method) (omega (arith, n, run.depth))
    where
      more : suc (length caller.operands) ≡ g.depth + 1
      more = omega (arith, top_length (drop (locals_of P g.method) (window P g vs)) g.depth)

  pub onward_stack : IsStack P (gs ++ onward g ∷ []) vs
  onward_stack = record {
    placed = all_more (IsPlaced P) gs (onward g) (others_placed P fs vs st gs g e)
        (record { method = at.method; body = at.body; is_method = at.is_method; is_body = at.is_body; instr = there.0; depth = at.depth });
    sized = omega (arith, sized P fs vs st gs g e, slots_more P gs g, slots_more P gs (onward g));
    few_frames = omega (arith, st.few_frames, count P fs vs st gs g e, length-append gs (onward g ∷ []));
    few_values = st.few_values;
  }

  onward_sized : length vs ≡ all_slots P (gs ++ onward g ∷ [])
  onward_sized = sized P (gs ++ onward g ∷ []) vs onward_stack gs (onward g) refl

  -- what is given, where the frame goes on with these frames
  pub given_is : (new : List Frame) → OnRunning (frames_of P (gs ++ onward g ∷ []) vs) (λ f others. new ≡ record f { operands = with_result v f.operands } ∷ others)
      → given P v (frames_of P fs vs) ≡ Some (Running new)
  given_is new q =
      let frame : new ≡ record (frame_of P (onward g) (window P g vs)) { operands = with_result v caller.operands } ∷ frames_of P gs (below P g vs)
      = subst (λ xs. OnRunning xs (λ f others. new ≡ record f { operands = with_result v f.operands } ∷ others)) (frames_are P gs (onward g) vs onward_sized) q in
      ap (given P v) (running P fs vs st gs g e)
      ∙ ap (option_map result_of) next.1
      ∙ ap (λ t. Some (result_of t)) (sym there.1)
      ∙ ap (λ xs. Some (Running xs)) (sym frame)

-- ---- from the frames above

module _ (P : ProgramTables) (v : Option Value) (old mid : List Frame) (dropped : OnRunning old (λ f below. mid ≡ below)) where
  pub can_below : OnRunning old (λ f below. (c : Control) × (given P v below ≡ Some c) × CanGoOn P c) → (c : Control) × (given P v mid ≡ Some c) × CanGoOn P c
  can_below can = running_both old (λ f below. mid ≡ below) (λ f below. (c : Control) × (given P v below ≡ Some c) × CanGoOn P c) dropped can
      (λ f below e q. (q.0, subst (λ ys. given P v ys ≡ Some q.0) (sym e) q.1, q.2))

  pub given_above : (c : Control) → given P v mid ≡ Some c → OnRunning old (λ f below. given P v below ≡ Some c)
  given_above c g = running_so old (λ f below. mid ≡ below) (λ f below. given P v below ≡ Some c) dropped (λ f below e. subst (λ ys. given P v ys ≡ Some c) e g)
