-- A stay in the running frame, step by step.
use Rattle.std.proofs.Common.{◌≡◌, ℕ, zero, suc, ◌+◌, ◌<◌, ◌≤◌, List, [], ◌∷◌, ◌++◌, length, refl, sym, ap, ap₂, subst, subst₂, ◌∙◌, Bool, true, false, arith, nat_lt}
use Rattle.std.specs.Prelude.{Option, Some, None, IsSomeAnd, slice_get, ◌||◌}
use Rattle.std.proofs.lemmas.Option.{slice_get_within}
use Rattle.nr_prog.specs.declared.body.instruction.Instr.{Instr}
use Rattle.nr_prog.specs.declared.body.whole.Body.{Body}
use Rattle.nr_linked.specs.declared.program.tables.MethodInfo.{MethodInfo}
use Rattle.nr_linked.specs.declared.program.tables.ProgramTables.{ProgramTables}
use Rattle.nr_linked.specs.declared.program.tables.Resolved.{Resolved}
use Rattle.nr_linked.specs.Facts.{ProgramFacts}
use Rattle.nr_linked.specs.Programs.{method_at}
use Rattle.nr_linked.specs.Sites.{Site, site_at}
use Rattle.nr_model.specs.declared.value.Value.{Value}
use Rattle.nr_model.specs.Heaps.{Heap, cells}
use Rattle.nr_model.specs.LimitedRuns.{LimitedRun, there}
use Rattle.nr_model.specs.Outcomes.{is_too_deep, max_cells, max_frames, max_value_slots, value_slots}
use Rattle.nr_model.specs.Rules.{script}
use Rattle.nr_model.specs.Scripts.{GoesTo, OnTop, Runs, Within}
use Rattle.nr_model.specs.States.{Frame, Running}
use Rattle.nr_model.specs.Steps.{within}
use Rattle.nr_step.specs.declared.flow.Flow.{Flow}
use Rattle.nr_step.specs.declared.flow.Flow.TheVariants as flows
use Rattle.nr_step.specs.declared.flow.Told.{Told}
use Rattle.nr_step.specs.Flows.{Went}
use Rattle.nr_step.specs.Instructions.{CanDo, doing, site_of}
use Rattle.nr_step.specs.Windows.{top_first, window}
use Rattle.nr_machine.specs.declared.stack.Frame.{Frame as CodeFrame}
use Rattle.nr_machine.specs.CallStacks.{IsPlaced, OnRunning, offset_at}
use Rattle.nr_machine.specs.Stays.{FrameWent, FramesStand, GoesOn, Leaves, LeavesFrame, Stayed, frame_with, running}
use Rattle.nr_machine.proofs.Calls.{some_both}
use Rattle.nr_machine.proofs.Falls.{next_falls}
use Rattle.nr_machine.proofs.HeightRules.{left_fits}
use Rattle.nr_machine.proofs.InFrame.{IsAt, at_there, a_run, next_there, on_runs, on_stands, room_there, site, site_is, target_there}
use Rattle.nr_machine.proofs.Lists.{top_length}
use Rattle.nr_machine.proofs.Places.{offset_is, offset_of}

deep_same : (P : ProgramTables) (below : List Frame) (m n : ℕ) → m ≡ n → (nat_lt max_frames (suc (length below)) || nat_lt max_value_slots (value_slots P (record { method = m; offset = 0; locals = []; operands = [] } ∷ below))) ≡ false
    → (nat_lt max_frames (suc (length below)) || nat_lt max_value_slots (value_slots P (record { method = n; offset = 0; locals = []; operands = [] } ∷ below))) ≡ false
deep_same P below m n e q = subst (λ m. (nat_lt max_frames (suc (length below)) || nat_lt max_value_slots (value_slots P (record { method = m; offset = 0; locals = []; operands = [] } ∷ below))) ≡ false) e q

-- so many steps led from the first frame here
pub record Staying (P : ProgramTables) (h0 : Heap) (f0 : CodeFrame) (ls0 st0 : List Value) (made : ℕ) (h : Heap) (f : CodeFrame) (ls st : List Value) : Type 0 where
  pub method : f.method ≡ f0.method
  pub placed : IsPlaced P f
  pub room : IsSomeAnd (method_at P f.method) (λ i. length st ≡ i.max_stack)
  pub few : cells h ≤ max_cells
  pub run : (below : List Frame) → is_too_deep P (Running (frame_with P f0 ls0 st0 ∷ below)) ≡ false → GoesOn P h0 (frame_with P f0 ls0 st0 ∷ below) made h (frame_with P f ls st ∷ below)
  pub stands : (below : List Frame) × FramesStand P h (frame_with P f ls st ∷ below)

module _ (P : ProgramTables) (facts : ProgramFacts P) (h0 : Heap) (f0 : CodeFrame) (ls0 st0 : List Value) where
  pub starts : IsPlaced P f0 → IsSomeAnd (method_at P f0.method) (λ i. length st0 ≡ i.max_stack) → cells h0 ≤ max_cells → (below : List Frame) × FramesStand P h0 (frame_with P f0 ls0 st0 ∷ below) → Staying P h0 f0 ls0 st0 0 h0 f0 ls0 st0
  starts placed room few stands = record { method = refl; placed = placed; room = room; few = few; run = λ below deep service printed short. there; stands = stands }

  pub all_made : (made : ℕ) (h : Heap) (f : CodeFrame) (ls st : List Value) → Staying P h0 f0 ls0 st0 made h f ls st → (told : Told) (below : List Frame) → is_too_deep P (Running (frame_with P f0 ls0 st0 ∷ below)) ≡ false
      → Stayed P made h0 (frame_with P f0 ls0 st0 ∷ below) made None told h (frame_with P f ls st ∷ below)
  all_made made h f ls st s told below deep = record { heap = h; run = s.run below deep; ends = (refl, refl) }

  module _ (made : ℕ) (h : Heap) (f : CodeFrame) (ls st : List Value) (s : Staying P h0 f0 ls0 st0 made h f ls st) (own : MethodInfo) (body : Body) (is_m : method_at P f.method ≡ Some own) (is_b : own.body ≡ Some body) where
    abbrev now : Frame
    now = frame_with P f ls st

    pub place_within : f.instr < length body.instrs
    place_within =
        let o : s.placed.method ≡ own = some_both s.placed.is_method is_m in
        let b : s.placed.body ≡ body = some_both (subst (λ (i : MethodInfo). i.body ≡ Some s.placed.body) o s.placed.is_body) is_b in
        subst (λ (b : Body). f.instr < length b.instrs) b s.placed.instr

    pub found_within : f.instr < length own.resolved
    found_within = omega (arith, place_within, facts.typing.one_each f.method own body is_m is_b)

    pub stack_is : length st ≡ own.max_stack
    stack_is = subst (λ o. IsSomeAnd o (λ (i : MethodInfo). length st ≡ i.max_stack)) is_m s.room

    pub depth_fits : f.depth ≤ length st
    depth_fits = omega (arith, stack_is, subst (λ (i : MethodInfo). f.depth ≤ i.max_stack) (some_both s.placed.is_method is_m) s.placed.depth)

    deep_here : (below : List Frame) → is_too_deep P (Running (frame_with P f0 ls0 st0 ∷ below)) ≡ false → is_too_deep P (Running (now ∷ below)) ≡ false
    deep_here below deep = deep_same P below f0.method f.method (sym s.method) deep

    module _ (x : Instr) (r : Resolved) (is_x : slice_get body.instrs f.instr ≡ Some x) (is_r : slice_get own.resolved f.instr ≡ Some r) where
      abbrev w : Within
      w = window h ls st f.depth

      -- what the step takes
      pub can_do : CanDo P own x r w (length st)
      can_do =
          let q = a_run P facts f own body is_m is_b x r is_x is_r h ls st s.stands.0 s.stands.1 in
          record {
            next = offset_of body.instrs (suc f.instr);
            ending = q.0;
            left = q.1;
            runs = q.2;
            fits = left_fits P own (site P facts f own body is_m is_b x r is_x is_r) w q.1 q.0 (length st) q.2 (omega (arith, top_length st f.depth, depth_fits))
                (λ n e. omega (arith, stack_is, room_there P facts f own body is_m is_b x r is_x is_r h ls st s.stands.0 s.stands.1 n q.1 (subst (λ e. Runs (script P own (site P facts f own body is_m is_b x r is_x is_r)) w e q.1) e q.2)));
          }

      module _ (told : Told) (k : Heap) (ls2 st2 : List Value) (d : ℕ) (as_long : length st2 ≡ length st) (fits : d ≤ length st2) (few : cells k ≤ max_cells) where
        abbrev u : Within
        u = window k ls2 st2 d

        goes_on : (j n : ℕ) → j < length body.instrs → offset_at P f.method j ≡ n → Runs (script P own (site P facts f own body is_m is_b x r is_x is_r)) w (GoesTo n) u
            → Staying P h0 f0 ls0 st0 (made + 1) k (record f { instr = j; depth = d }) ls2 st2
        goes_on j n l at q = record {
          method = s.method;
          placed = record { method = own; body = body; is_method = is_m; is_body = is_b; instr = l; depth = omega (arith, fits, as_long, stack_is) };
          room = subst (λ o. IsSomeAnd o (λ (i : MethodInfo). length st2 ≡ i.max_stack)) (sym is_m) (as_long ∙ stack_is);
          few = few;
          run = λ below deep. on_runs P facts f own body is_m is_b x r is_x is_r h ls st k ls2 st2 j d n at q few h0 (frame_with P f0 ls0 st0) made below (deep_here below deep) (s.run below deep);
          stands = (s.stands.0, on_stands P facts f own body is_m is_b x r is_x is_r h ls st k ls2 st2 j d n at q s.stands.0 s.stands.1);
        }

        -- on at the next instruction
        pub next_on : Went flows.Next P (doing P own x r) w told u → Staying P h0 f0 ls0 st0 (made + 1) k (record f { instr = f.instr + 1; depth = d }) ls2 st2
        next_on went =
            let next = next_there P facts f own body is_m is_b x r is_x is_r h ls st s.stands.0 s.stands.1 (next_falls x.row.family P own x.row x.args r w u went) in
            goes_on (f.instr + 1) next.0 next.2 next.3 (subst (λ o. Runs (script P own (site_of x r o)) w (GoesTo next.0) u) (sym next.1) (went next.0))

        -- at the target of a branch
        pub branch_there : Went flows.Branch P (doing P own x r) w told u → (j : ℕ) × IsAt body.instrs j told.number
        branch_there went = target_there P facts f own body is_m is_b x r is_x is_r h ls st s.stands.0 s.stands.1 told.number u (went (offset_of body.instrs (suc f.instr)))

        pub branch_on : (j : ℕ) → IsAt body.instrs j told.number → Went flows.Branch P (doing P own x r) w told u → Staying P h0 f0 ls0 st0 (made + 1) k (record f { instr = j; depth = d }) ls2 st2
        branch_on j at went =
            let y = at_there body.instrs j told.number at in
            goes_on j told.number (slice_get_within body.instrs j y.0 y.1) (offset_is P f.method own body is_m is_b j y.0 y.1 ∙ y.2) (went (offset_of body.instrs (suc f.instr)))

        -- it leaves the frame
        same_left : (flow : Flow) → LeavesFrame flow → Went flow P (doing P own x r) w told u → u ≡ record w { heap = k }
        same_left flows.Next l q = absurd l
        same_left flows.Branch l q = absurd l
        same_left flows.Throw l q = q.0
        same_left flows.Invoke l q = q.0 ∙ ap (λ h. record w { heap = h }) (sym (ap (λ (u : Within). u.heap) q.0))
        same_left flows.Print l q = q.0 ∙ ap (λ h. record w { heap = h }) (sym (ap (λ (u : Within). u.heap) q.0))
        same_left flows.Return l q = q.0 ∙ ap (λ h. record w { heap = h }) (sym (ap (λ (u : Within). u.heap) q.0))
        same_left flows.ReturnTop l q = q.0 ∙ ap (λ h. record w { heap = h }) (sym (ap (λ (u : Within). u.heap) q.0))
        same_left flows.NoMemory l q = q.0 ∙ ap (λ h. record w { heap = h }) (sym (ap (λ (u : Within). u.heap) q.0))
        same_left flows.Full l q = q.0 ∙ ap (λ h. record w { heap = h }) (sym (ap (λ (u : Within). u.heap) q.0))

        module _ (flow : Flow) (l : LeavesFrame flow) (went : Went flow P (doing P own x r) w told u) where
          abbrev g : CodeFrame
          g = record f { depth = d }

          same_frame : now ≡ frame_with P g ls2 st2
          same_frame = ap₂ (λ ls os. record now { locals = ls; operands = os }) (sym (ap (λ (u : Within). u.locals) (same_left flow l went))) (sym (ap (λ (u : Within). u.operands) (same_left flow l went)))

          went_frame : FrameWent flow P h told k (frame_with P g ls2 st2)
          went_frame =
              let q : Went flow P (doing P own x r) w told (within k now) = subst (Went flow P (doing P own x r) w told) (same_left flow l went) went in
              let at : IsSomeAnd (site_at own now.offset) (λ s. Went flow P (doing P own s.instr s.resolved) w told (within k now))
              = subst (λ o. IsSomeAnd o (λ (s : Site). Went flow P (doing P own s.instr s.resolved) w told (within k now))) (sym (site_is P facts f own body is_m is_b x r is_x is_r)) q in
              let here : FrameWent flow P h told k now
              = subst (λ o. IsSomeAnd o (λ (i : MethodInfo). IsSomeAnd (site_at i now.offset) (λ (s : Site). Went flow P (doing P i s.instr s.resolved) w told (within k now)))) (sym is_m) at in
              subst (FrameWent flow P h told k) same_frame here

          pub leaves_so : (steps : ℕ) → made < steps → (below : List Frame) → is_too_deep P (Running (frame_with P f0 ls0 st0 ∷ below)) ≡ false
              → Stayed P steps h0 (frame_with P f0 ls0 st0 ∷ below) made (Some flow) told k (frame_with P g ls2 st2 ∷ below)
          leaves_so steps more below deep = record {
            heap = h;
            run = subst (λ g. GoesOn P h0 (frame_with P f0 ls0 st0 ∷ below) made h (g ∷ below)) same_frame (s.run below deep);
            ends = (more, record { few = s.few; leaves = l; went = went_frame });
          }

pub leaves_frame : (flow : Flow) → (flow ≡ flows.Next → ⊥) → (flow ≡ flows.Branch → ⊥) → LeavesFrame flow
leaves_frame flows.Next p q = p refl
leaves_frame flows.Branch p q = q refl
leaves_frame flow p q = tt
