-- A method is entered: what the frames are then.
use Rattle.std.proofs.Common.{◌≡◌, ℕ, zero, suc, ◌+◌, ◌-◌, ◌<◌, ◌≤◌, List, [], ◌∷◌, ◌++◌, length, take, drop, refl, sym, ap, ap₂, subst, subst₂, ◌∙◌, Bool, true, false, arith, nat_le, inl, inr}
use Rattle.std.specs.Prelude.{◌⊎◌, ◌||◌, nat_lt, Option, Some, None, reverse, replicate, slice_get, if◌then◌else◌}
use Rattle.std.specs.Option.{option_and_then, option_map_or}
use Rattle.std.proofs.lemmas.List.{take-append-le, length-append, length-drop, length-replicate}
use Rattle.std.proofs.Math.Seq.{take-append-add}
use Rattle.std.proofs.lemmas.Bool.{le-leb, lt-ltb}
use Rattle.nr_prog.specs.declared.body.instruction.Instr.{Instr}
use Rattle.nr_prog.specs.declared.body.whole.Body.{Body}
use Rattle.nr_prog.specs.Offsets.{StandInOrder}
use Rattle.nr_linked.specs.declared.program.tables.MethodInfo.{MethodInfo}
use Rattle.nr_linked.specs.declared.program.tables.ProgramTables.{ProgramTables}
use Rattle.nr_linked.specs.Programs.{method_at}
use Rattle.nr_model.specs.declared.value.Value.{Value}
use Rattle.nr_model.specs.declared.value.Value.TheVariants.{Null}
use Rattle.nr_model.specs.CallRules.{operands_of}
use Rattle.nr_model.specs.Outcomes.{is_too_deep, max_frames, max_value_slots, value_slots}
use Rattle.nr_model.specs.States.{Frame, Control, Running}
use Rattle.nr_model.specs.Steps.{spread, first_frame, entered}
use Rattle.nr_step.specs.Windows.{top_first}
use Rattle.nr_machine.specs.declared.stack.Frame.{Frame as CodeFrame}
use Rattle.nr_machine.specs.CallStacks.{code_at, offset_at, locals_of, slots_of, all_slots, filled, frame_of, frames_of}
use Rattle.nr_machine.proofs.Lists.{drop_drop, drop_top, take_top, take_same, top_length}
use Rattle.nr_machine.proofs.Windows.{slots_more, frames_more, window, window_sized, below, frames_are, frames_length, frames_slots}

some_same : {X : Type 0} {x y : X} → Some x ≡ Some y → x ≡ y
some_same e = cc

either : (x y : ℕ) → (max_frames < x) ⊎ (max_value_slots < y) → (nat_lt max_frames x || nat_lt max_value_slots y) ≡ true
either x y (inl l) = ap (λ b. b || nat_lt max_value_slots y) (lt-ltb max_frames x l)
either x y (inr l) = by (nat_lt max_frames x)
  where
    by : (b : Bool) → (b || nat_lt max_value_slots y) ≡ true
    by true = refl
    by false = lt-ltb max_value_slots y l

first_offset_is : (is : List Instr) → StandInOrder is → option_map_or (λ (i : Instr). i.at) (slice_get is 0) 0 ≡ 0
first_offset_is [] laid = absurd laid
first_offset_is (i ∷ is) laid = laid.0

pub slots_of_method : (P : ProgramTables) (m : ℕ) (i : MethodInfo) → method_at P m ≡ Some i → slots_of P m ≡ i.max_locals + i.max_stack
slots_of_method P m i e = ap (λ o. option_map_or (λ (i : MethodInfo). i.max_locals + i.max_stack) o 0) e

-- the values of a frame that begins with these locals
abbrev pub first_values : MethodInfo → List Value → List Value
first_values i placed = filled (i.max_locals + i.max_stack) placed

-- the frame of a method at its entry, in code
abbrev pub entry_of : ℕ → CodeFrame
entry_of m = record { method = m; instr = 0; depth = 0 }

module _ (P : ProgramTables) (m : ℕ) (i : MethodInfo) (body : Body) (is_m : method_at P m ≡ Some i) (is_b : i.body ≡ Some body) (laid : StandInOrder body.instrs) where
  locals_are : locals_of P m ≡ i.max_locals
  locals_are = ap (λ o. option_map_or (λ (i : MethodInfo). i.max_locals) o 0) is_m

  pub slots_are : slots_of P m ≡ i.max_locals + i.max_stack
  slots_are = ap (λ o. option_map_or (λ (i : MethodInfo). i.max_locals + i.max_stack) o 0) is_m

  code_is : code_at P m ≡ body.instrs
  code_is = ap (λ o. option_map_or (λ (i : MethodInfo). option_map_or (λ (b : Body). b.instrs) i.body []) o []) is_m ∙ ap (λ o. option_map_or (λ (b : Body). b.instrs) o []) is_b

  at_entry : offset_at P m 0 ≡ 0
  at_entry = ap (λ is. option_map_or (λ (i : Instr). i.at) (slice_get is 0) 0) code_is ∙ first_offset_is body.instrs laid

  pub first_sized : (placed : List Value) → length placed ≤ i.max_locals → length (first_values i placed) ≡ slots_of P m
  first_sized placed l = omega (arith, slots_are, length-append placed (replicate (i.max_locals + i.max_stack - length placed) Null), length-replicate (i.max_locals + i.max_stack - length placed) Null, l)

  first_locals_are : (placed : List Value) → length placed ≤ i.max_locals → take i.max_locals (first_values i placed) ≡ placed ++ replicate (i.max_locals - length placed) Null
  first_locals_are placed l =
      let e : i.max_locals ≡ length placed + (i.max_locals - length placed) = omega (arith, l) in
      let f : i.max_locals - length placed ≤ i.max_locals + i.max_stack - length placed = omega (arith, l) in
      ap (λ n. take n (first_values i placed)) e
      ∙ take-append-add placed (replicate (i.max_locals + i.max_stack - length placed) Null) (i.max_locals - length placed)
      ∙ ap (λ xs. placed ++ xs) (take_same (i.max_locals - length placed) (i.max_locals + i.max_stack - length placed) Null f)

  -- the new frame is the model's, of these arguments, the last first
  pub entry_is : (args : List Value) → length (spread (reverse args)) ≤ i.max_locals → frame_of P (entry_of m) (first_values i (spread (reverse args))) ≡ first_frame i m args
  entry_is args l =
      ap₂ (λ o ls. record { method = m; offset = o; locals = ls; operands = [] }) at_entry
      (ap (λ n. take n (first_values i (spread (reverse args)))) locals_are ∙ first_locals_are (spread (reverse args)) l)

  -- ---- called by the running frame

  module _ (gs : List CodeFrame) (g : CodeFrame) (own : MethodInfo) (is_own : method_at P g.method ≡ Some own) (vs : List Value) (sized : length vs ≡ all_slots P (gs ++ g ∷ []))
      (count kept : ℕ) (count_is : operands_of i ≡ count) (depth : g.depth ≡ kept + count) (room : g.depth ≤ own.max_stack) where
    abbrev pub caller : Frame
    caller = frame_of P g (window P g vs)

    abbrev pub waiting_caller : CodeFrame
    waiting_caller = record g { depth = kept }

    abbrev stack : List Value
    stack = drop (locals_of P g.method) (window P g vs)

    stack_sized : length stack ≡ own.max_stack
    stack_sized =
        let s : slots_of P g.method ≡ own.max_locals + own.max_stack = ap (λ o. option_map_or (λ (i : MethodInfo). i.max_locals + i.max_stack) o 0) is_own in
        let l : locals_of P g.method ≡ own.max_locals = ap (λ o. option_map_or (λ (i : MethodInfo). i.max_locals) o 0) is_own in
        omega (arith, s, l, length-drop (locals_of P g.method) (window P g vs), window_sized P gs g vs sized)

    -- the arguments in the values, from the first on
    abbrev pub first : ℕ
    first = length vs - own.max_stack + kept

    pub args_are : reverse (take (operands_of i) caller.operands) ≡ take count (drop first vs)
    args_are =
        let s : slots_of P g.method ≡ own.max_locals + own.max_stack = ap (λ o. option_map_or (λ (i : MethodInfo). i.max_locals + i.max_stack) o 0) is_own in
        let l : locals_of P g.method ≡ own.max_locals = ap (λ o. option_map_or (λ (i : MethodInfo). i.max_locals) o 0) is_own in
        let n : length vs - slots_of P g.method + locals_of P g.method + kept ≡ first = omega (arith, s, l, sized, slots_more P gs g) in
        ap (λ n. reverse (take n (top_first stack g.depth))) count_is
        ∙ ap (λ d. reverse (take count (top_first stack d))) depth
        ∙ take_top stack count kept (omega (arith, stack_sized, depth, room))
        ∙ ap (λ xs. take count (drop kept xs)) (drop_drop (locals_of P g.method) (length vs - slots_of P g.method) vs)
        ∙ ap (take count) (drop_drop kept (length vs - slots_of P g.method + locals_of P g.method) vs)
        ∙ ap (λ n. take count (drop n vs)) n

    waits : record caller { operands = drop (operands_of i) caller.operands } ≡ frame_of P waiting_caller (window P g vs)
    waits = ap (λ vs. record caller { operands = vs }) (ap (λ n. drop n (top_first stack g.depth)) count_is ∙ ap (λ d. drop count (top_first stack d)) depth ∙ drop_top stack count kept)

    enough : operands_of i ≤ length caller.operands
    enough = omega (arith, count_is, depth, top_length stack g.depth)

    -- the frames of the model
    pub enters : entered P m caller (frames_of P gs (below P g vs))
        ≡ Some (Running (first_frame i m (take (operands_of i) caller.operands) ∷ record caller { operands = drop (operands_of i) caller.operands } ∷ frames_of P gs (below P g vs)))
    enters =
        ap (option_and_then (λ (j : MethodInfo). if nat_le (operands_of j) (length caller.operands)
        then Some (Running (first_frame j m (take (operands_of j) caller.operands) ∷ record caller { operands = drop (operands_of j) caller.operands } ∷ frames_of P gs (below P g vs))) else None)) is_m
        ∙ ap (λ b. if b then Some (Running (first_frame i m (take (operands_of i) caller.operands) ∷ record caller { operands = drop (operands_of i) caller.operands } ∷ frames_of P gs (below P g vs))) else None) (le-leb (operands_of i) (length caller.operands) enough)

    pub sized_waiting : length vs ≡ all_slots P (gs ++ waiting_caller ∷ [])
    sized_waiting = omega (arith, sized, slots_more P gs g, slots_more P gs waiting_caller)

    -- they are those of the code
    pub call_is : length (spread (take count (drop first vs))) ≤ i.max_locals
        → entered P m caller (frames_of P gs (below P g vs)) ≡ Some (Running (frames_of P ((gs ++ waiting_caller ∷ []) ++ entry_of m ∷ []) (vs ++ first_values i (spread (take count (drop first vs))))))
    call_is l =
        let fits : length (spread (reverse (take (operands_of i) caller.operands))) ≤ i.max_locals = subst (λ us. length (spread us) ≤ i.max_locals) (sym args_are) l in
        let new : frame_of P (entry_of m) (first_values i (spread (take count (drop first vs)))) ≡ first_frame i m (take (operands_of i) caller.operands)
        = ap (λ us. frame_of P (entry_of m) (first_values i (spread us))) (sym args_are) ∙ entry_is (take (operands_of i) caller.operands) fits in
        enters
        ∙ ap₂ (λ f w. Some (Running (f ∷ w ∷ frames_of P gs (below P g vs)))) (sym new) waits
        ∙ ap (λ fs. Some (Running (frame_of P (entry_of m) (first_values i (spread (take count (drop first vs)))) ∷ fs))) (sym (frames_are P gs waiting_caller vs sized_waiting))
        ∙ ap (λ fs. Some (Running fs)) (sym (frames_more P (gs ++ waiting_caller ∷ []) (entry_of m) vs (first_values i (spread (take count (drop first vs)))) sized_waiting (first_sized (spread (take count (drop first vs))) l)))

    -- how many frames and value slots they are
    pub entered_limits : (c : Control) → entered P m caller (frames_of P gs (below P g vs)) ≡ Some c
        → (max_frames < length gs + 2) ⊎ (max_value_slots < slots_of P m + length vs) → is_too_deep P c ≡ true
    entered_limits c e over =
        let fs : List Frame = first_frame i m (take (operands_of i) caller.operands) ∷ record caller { operands = drop (operands_of i) caller.operands } ∷ frames_of P gs (below P g vs) in
        let is : Running fs ≡ c = some_same (sym enters ∙ e) in
        let l : length fs ≡ length gs + 2 = omega (arith, frames_length P gs (below P g vs)) in
        let s : value_slots P fs ≡ slots_of P m + length vs = omega (arith, frames_slots P gs (below P g vs), sized, slots_more P gs g) in
        subst (λ c. is_too_deep P c ≡ true) is (either (length fs) (value_slots P fs) (subst₂ (λ x y. (max_frames < x) ⊎ (max_value_slots < y)) (sym l) (sym s) over))
