-- The running frame is taken away, or put back with one more operand.
use Rattle.std.proofs.Common.{◌≡◌, ℕ, zero, suc, ◌+◌, ◌-◌, ◌<◌, ◌≤◌, List, [], ◌∷◌, ◌++◌, length, take, drop, set, refl, sym, ap, ap₂, subst, ◌∙◌, arith}
use Rattle.std.specs.Prelude.{Option, Some, All, IsSomeAnd}
use Rattle.std.specs.Option.{option_map_or}
use Rattle.std.proofs.lemmas.List.{length-append, length-drop, length-set, set-append_right, take-append-drop}
use Rattle.nr_linked.specs.declared.program.tables.MethodInfo.{MethodInfo}
use Rattle.nr_linked.specs.declared.program.tables.ProgramTables.{ProgramTables}
use Rattle.nr_linked.specs.Programs.{method_at}
use Rattle.nr_model.specs.declared.value.Value.{Value}
use Rattle.nr_model.specs.States.{Frame}
use Rattle.nr_model.specs.Outcomes.{max_frames, max_value_slots}
use Rattle.nr_step.specs.Windows.{top_first}
use Rattle.nr_step.proofs.Stacks.{top_first_set}
use Rattle.nr_machine.specs.declared.stack.Frame.{Frame as CodeFrame}
use Rattle.nr_machine.specs.CallStacks.{all_slots, frame_of, frames_of, locals_of, slots_of, IsPlaced, IsStack, OnRunning}
use Rattle.nr_machine.proofs.Lists.{drop_top, top_length}
use Rattle.nr_machine.proofs.Calls.{some_both}
use Rattle.nr_machine.proofs.Windows.{window, below, below_sized, window_sized, parts, frames_are, frames_more, slots_more}
use Rattle.nr_machine.proofs.Tops.{all_more, count, on_running, others_placed, placed, say_running, sized}

-- ---- a value is written into a list

module _ {X : Type 0} where
  set_left : (n i : ℕ) (x : X) (xs : List X) → take n (set xs (n + i) x) ≡ take n xs
  set_left zero i x xs = refl
  set_left (suc n) i x [] = refl
  set_left (suc n) i x (y ∷ xs) = let e : suc n + i ≡ suc (n + i) = omega arith in ap (λ k. take (suc n) (set (y ∷ xs) k x)) e ∙ ap (λ ys. y ∷ ys) (set_left n i x xs)

  set_right : (n i : ℕ) (x : X) (xs : List X) → drop n (set xs (n + i) x) ≡ set (drop n xs) i x
  set_right zero i x xs = let e : 0 + i ≡ i = omega arith in ap (λ k. set xs k x) e
  set_right (suc n) i x [] = refl
  set_right (suc n) i x (y ∷ xs) = let e : suc n + i ≡ suc (n + i) = omega arith in ap (λ k. drop (suc n) (set (y ∷ xs) k x)) e ∙ set_right n i x xs

module _ (P : ProgramTables) (fs : List CodeFrame) (vs : List Value) (st : IsStack P fs vs) (gs : List CodeFrame) (g : CodeFrame) (e : fs ≡ gs ++ g ∷ []) where
  -- ---- taken away

  pub slots_below : slots_of P g.method ≤ length vs
  slots_below = omega (arith, sized P fs vs st gs g e, slots_more P gs g)

  pub stays_stack : IsStack P gs (below P g vs)
  stays_stack = record {
    placed = others_placed P fs vs st gs g e;
    sized = below_sized P gs g vs (sized P fs vs st gs g e);
    few_frames = omega (arith, st.few_frames, count P fs vs st gs g e);
    few_values = omega (arith, st.few_values, ap length (parts P gs g vs (sized P fs vs st gs g e)), length-append (below P g vs) (window P g vs));
  }

  pub dropped : OnRunning (frames_of P fs vs) (λ f others. frames_of P gs (below P g vs) ≡ others)
  dropped = say_running P fs vs st gs g e (λ f others. frames_of P gs (below P g vs) ≡ others) refl

  -- ---- put back

  module _ (own : MethodInfo) (is_own : method_at P g.method ≡ Some own) (room : g.depth + 1 ≤ own.max_stack) (v : Value) where
    slots_are : slots_of P g.method ≡ own.max_locals + own.max_stack
    slots_are = ap (λ o. option_map_or (λ (i : MethodInfo). i.max_locals + i.max_stack) o 0) is_own

    locals_are : locals_of P g.method ≡ own.max_locals
    locals_are = ap (λ o. option_map_or (λ (i : MethodInfo). i.max_locals) o 0) is_own

    -- where it is written
    abbrev pub place : ℕ
    place = length vs - own.max_stack + g.depth

    pub own_values : own.max_stack ≤ length vs
    own_values = omega (arith, slots_are, slots_below)

    pub place_within : place < length vs
    place_within = omega (arith, own_values, room)

    abbrev more : CodeFrame
    more = record g { depth = g.depth + 1 }

    written : set vs place v ≡ below P g vs ++ set (window P g vs) (locals_of P g.method + g.depth) v
    written =
        let n : length (below P g vs) ≡ length vs - slots_of P g.method = omega (arith, slots_below, ap length (parts P gs g vs (sized P fs vs st gs g e)), length-append (below P g vs) (window P g vs), window_sized P gs g vs (sized P fs vs st gs g e)) in
        let l : length (below P g vs) ≤ place = omega (arith, n, slots_are, slots_below) in
        let m : place - length (below P g vs) ≡ locals_of P g.method + g.depth = omega (arith, n, slots_are, locals_are, slots_below) in
        ap (λ xs. set xs place v) (sym (parts P gs g vs (sized P fs vs st gs g e)))
        ∙ set-append_right (below P g vs) (window P g vs) (length (below P g vs)) place v refl l
        ∙ ap (λ k. below P g vs ++ set (window P g vs) k v) m

    stack_sized : length (drop (locals_of P g.method) (window P g vs)) ≡ own.max_stack
    stack_sized = omega (arith, length-drop (locals_of P g.method) (window P g vs), window_sized P gs g vs (sized P fs vs st gs g e), slots_are, locals_are)

    frame_is : frame_of P more (set (window P g vs) (locals_of P g.method + g.depth) v)
        ≡ record (frame_of P g (window P g vs)) { operands = v ∷ top_first (drop (locals_of P g.method) (window P g vs)) g.depth }
    frame_is = ap₂ (λ ls os. record (frame_of P g (window P g vs)) { locals = ls; operands = os })
        (set_left (locals_of P g.method) g.depth v (window P g vs))
        (ap (λ xs. top_first xs (g.depth + 1)) (set_right (locals_of P g.method) g.depth v (window P g vs))
        ∙ top_first_set (drop (locals_of P g.method) (window P g vs)) g.depth v (omega (arith, stack_sized, room)))

    pub put_stack : IsStack P (gs ++ more ∷ []) (set vs place v)
    put_stack =
        let at = placed P fs vs st gs g e in
        let same : at.method ≡ own = some_both at.is_method is_own in
        record {
          placed = all_more (IsPlaced P) gs more (others_placed P fs vs st gs g e)
              (record { method = own; body = at.body; is_method = is_own; is_body = subst (λ (i : MethodInfo). i.body ≡ Some at.body) same at.is_body; instr = at.instr; depth = room });
          sized = omega (arith, length-set vs place v, sized P fs vs st gs g e, slots_more P gs g, slots_more P gs more);
          few_frames = omega (arith, st.few_frames, count P fs vs st gs g e, length-append gs (more ∷ []));
          few_values = omega (arith, st.few_values, length-set vs place v);
        }

    pub put : OnRunning (frames_of P fs vs) (λ f others. frames_of P (gs ++ more ∷ []) (set vs place v) ≡ record f { operands = v ∷ f.operands } ∷ others)
    put = say_running P fs vs st gs g e (λ f others. frames_of P (gs ++ more ∷ []) (set vs place v) ≡ record f { operands = v ∷ f.operands } ∷ others)
        (ap (frames_of P (gs ++ more ∷ [])) written
        ∙ frames_more P gs more (below P g vs) (set (window P g vs) (locals_of P g.method + g.depth) v) (below_sized P gs g vs (sized P fs vs st gs g e))
        (length-set (window P g vs) (locals_of P g.method + g.depth) v ∙ window_sized P gs g vs (sized P fs vs st gs g e))
        ∙ ap (λ f. f ∷ frames_of P gs (below P g vs)) frame_is)

  -- ---- some of its operands are taken away

  pub few_operands : (n : ℕ) → OnRunning (frames_of P fs vs) (λ f others. n ≤ length f.operands) → n ≤ g.depth
  few_operands n q = omega (arith, on_running P fs vs st gs g e (λ f others. n ≤ length f.operands) q, top_length (drop (locals_of P g.method) (window P g vs)) g.depth)

  module _ (n kept : ℕ) (depth : g.depth ≡ kept + n) where
    abbrev pub less : CodeFrame
    less = record g { depth = kept }

    pub less_stack : IsStack P (gs ++ less ∷ []) vs
    less_stack =
        let at = placed P fs vs st gs g e in
        record {
          placed = all_more (IsPlaced P) gs less (others_placed P fs vs st gs g e)
              (record { method = at.method; body = at.body; is_method = at.is_method; is_body = at.is_body; instr = at.instr; depth = omega (arith, at.depth, depth) });
          sized = omega (arith, sized P fs vs st gs g e, slots_more P gs g, slots_more P gs less);
          few_frames = omega (arith, st.few_frames, count P fs vs st gs g e, length-append gs (less ∷ []));
          few_values = st.few_values;
        }

    pub less_frames : OnRunning (frames_of P fs vs) (λ f others. frames_of P (gs ++ less ∷ []) vs ≡ record f { operands = drop n f.operands } ∷ others)
    less_frames =
        let stack = drop (locals_of P g.method) (window P g vs) in
        say_running P fs vs st gs g e (λ f others. frames_of P (gs ++ less ∷ []) vs ≡ record f { operands = drop n f.operands } ∷ others)
        (frames_are P gs less vs (sized P (gs ++ less ∷ []) vs less_stack gs less refl)
        ∙ ap (λ os. record (frame_of P g (window P g vs)) { operands = os } ∷ frames_of P gs (below P g vs))
        (sym (ap (λ d. drop n (top_first stack d)) depth ∙ drop_top stack n kept)))
