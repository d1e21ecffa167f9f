-- Steps in the running frame, by the place of its instruction.
use Rattle.std.proofs.Common.{◌≡◌, ℕ, zero, suc, ◌+◌, ◌<◌, ◌≤◌, List, [], ◌∷◌, ◌++◌, length, refl, sym, ap, ap₂, subst, subst₂, ◌∙◌, Bool, true, false, arith, cond}
use Rattle.std.specs.Prelude.{Option, Some, None, IsSome, IsSomeAnd, slice_get, ◌==◌}
use Rattle.std.specs.Option.{option_and_then, option_map}
use Rattle.std.proofs.lemmas.Bool.{eqb-true}
use Rattle.std.proofs.lemmas.Option.{slice_get_within}
use Rattle.std.proofs.lemmas.List.{append-nil}
use Rattle.nr_prog.specs.declared.body.instruction.Instr.{Instr}
use Rattle.nr_prog.specs.declared.body.whole.Body.{Body}
use Rattle.nr_linked.specs.declared.program.kind.Kind.{Kind}
use Rattle.nr_linked.specs.declared.program.tables.MethodInfo.{MethodInfo}
use Rattle.nr_linked.specs.declared.program.tables.ProgramTables.{ProgramTables}
use Rattle.nr_linked.specs.declared.program.tables.Resolved.{Resolved}
use Rattle.nr_linked.specs.Facts.{ProgramFacts}
use Rattle.nr_linked.specs.Programs.{method_at}
use Rattle.nr_linked.specs.Sites.{Site, first_offset, site_among, site_at}
use Rattle.nr_linked.specs.TypingFacts.{SiteFacts}
use Rattle.nr_linked.specs.TypingFrames.{TypeFrame}
use Rattle.nr_linked.specs.WellTyped.{Onward, WellTyped, falls_through, frame_at}
use Rattle.nr_model.specs.declared.value.Value.{Value}
use Rattle.nr_model.specs.Asks.{Asks}
use Rattle.nr_model.specs.Heaps.{Heap, cells}
use Rattle.nr_model.specs.LimitedRuns.{LimitedRun, own_step, there}
use Rattle.nr_model.specs.Outcomes.{is_too_deep, max_cells, max_printed, passed}
use Rattle.nr_model.specs.Rules.{script}
use Rattle.nr_model.specs.Scripts.{Called, Ending, GoesTo, Runs, Within}
use Rattle.nr_model.specs.States.{Control, Frame, Running, State}
use Rattle.nr_model.specs.Steps.{Step, after, within}
use Rattle.nr_model.proofs.Following.{limited_join}
use Rattle.nr_model.proofs.Limits.{Keeps, passes_none}
use Rattle.nr_typed.specs.Standing.{ControlStands, StandsIn}
use Rattle.nr_step.specs.declared.flow.Told.{Told}
use Rattle.nr_step.specs.declared.flow.Flow.TheVariants as flows
use Rattle.nr_step.specs.Flows.{Went}
use Rattle.nr_step.specs.Instructions.{doing, site_of}
use Rattle.nr_step.specs.Windows.{top_first, window}
use Rattle.nr_machine.specs.declared.stack.Frame.{Frame as CodeFrame}
use Rattle.nr_machine.specs.CallStacks.{CanRun, code_at, offset_at}
use Rattle.nr_machine.specs.Stays.{FramesStand, GoesOn, frame_with, running}
use Rattle.nr_machine.proofs.AskedScripts.{asks_calls}
use Rattle.nr_machine.proofs.Calls.{some_both}
use Rattle.nr_machine.proofs.Falls.{next_falls}
use Rattle.nr_machine.proofs.Leading.{LeadsOn, leads_on, some_run, step_by}
use Rattle.nr_machine.proofs.Places.{offset_is, offset_of, site_by_place, code_is}
use Rattle.nr_machine.proofs.Standing.{stands_run}

-- one more step at the end of a run
pub one_more : (P : ProgramTables) (service : Option ℕ) (k : ℕ) (s t u : State) → LimitedRun P service s [] k t → (Asks P service t → ⊥) → Step P t u → passed P u ≡ None → LimitedRun P service s [] (k + 1) u
one_more P service k s t u r asks step limits = limited_join P service k 1 s t u [] [] r (own_step u asks step limits there)

some_eq : {X : Type 0} {a b : X} → Some a ≡ Some b → a ≡ b
some_eq e = cc

onward_some : (P : ProgramTables) (own : MethodInfo) (fs : List TypeFrame) (f : TypeFrame) (b : Bool) (o : Option ℕ) → b ≡ true → Onward P own fs b o f → (n : ℕ) × (o ≡ Some n)
onward_some P own fs f true None e x = absurd x
onward_some P own fs f true (Some n) e x = (n, refl)
onward_some P own fs f false o e x = absurd cc

some_at : (o : Option Instr) (n : ℕ) → option_map (λ (x : Instr). x.at) o ≡ Some n → (y : Instr) × (o ≡ Some y) × (y.at ≡ n)
some_at None n e = absurd cc
some_at (Some y) n e = (y, refl, cc)

-- an instruction stands at the place, with this offset
abbrev pub IsAt : List Instr → ℕ → ℕ → Type 0
IsAt is k n = IsSomeAnd (slice_get is k) (λ (x : Instr). x.at ≡ n)

pub at_there : (is : List Instr) (k n : ℕ) → IsAt is k n → (y : Instr) × (slice_get is k ≡ Some y) × (y.at ≡ n)
at_there is k n q = by (slice_get is k) q
  where
    by : (o : Option Instr) → IsSomeAnd o (λ (x : Instr). x.at ≡ n) → (y : Instr) × (o ≡ Some y) × (y.at ≡ n)
    by None q = absurd q
    by (Some y) q = (y, refl, q)

site_place : (is : List Instr) (rs : List Resolved) (n : ℕ) (s : Site) → site_among is rs n ≡ Some s → (k : ℕ) × IsAt is k n
site_place [] rs n s e = absurd cc
site_place (y ∷ is) [] n s e = absurd cc
site_place (y ∷ is) (r ∷ rs) n s e = by (y.at == n) (λ q. eqb-true y.at n q) (site_place is rs n s) e
  where
    by : (b : Bool) → (b ≡ true → y.at ≡ n) → (site_among is rs n ≡ Some s → (k : ℕ) × IsAt is k n) → cond b (Some (record { instr = y; resolved = r; next = first_offset is })) (site_among is rs n) ≡ Some s → (k : ℕ) × IsAt (y ∷ is) k n
    by true q rest e = (0, q refl)
    by false q rest e = let p = rest e in (suc p.0, p.1)

module _ (P : ProgramTables) (facts : ProgramFacts P) (f : CodeFrame) (own : MethodInfo) (body : Body) (is_m : method_at P f.method ≡ Some own) (is_b : own.body ≡ Some body)
    (x : Instr) (r : Resolved) (is_x : slice_get body.instrs f.instr ≡ Some x) (is_r : slice_get own.resolved f.instr ≡ Some r) where
  abbrev pub site : Site
  site = site_of x r (offset_of body.instrs (suc f.instr))

  pub site_is : site_at own (offset_at P f.method f.instr) ≡ Some site
  site_is =
      ap (site_at own) (offset_is P f.method own body is_m is_b f.instr x is_x)
      ∙ ap (option_and_then (λ (b : Body). site_among b.instrs own.resolved x.at)) is_b
      ∙ site_by_place body.instrs own.resolved f.instr x r (facts.laid_out f.method own body is_m is_b).order is_x is_r

  pub site_facts : SiteFacts P own.«class» site
  site_facts = facts.typing.sites f.method own (offset_at P f.method f.instr) site is_m site_is

  module _ (h : Heap) (ls st : List Value) where
    abbrev pub now : Frame
    now = frame_with P f ls st

    abbrev pub at_work : Within
    at_work = window h ls st f.depth

    -- ---- where the frames stand

    module _ (below : List Frame) (stand : FramesStand P h (now ∷ below)) where
      pub a_run : (e : Ending) × (u : Within) × Runs (script P own site) at_work e u
      a_run = some_run P facts.typing stand.0 stand.1 h now below stand.2 own site is_m site_is

      pub leads : (e : Ending) (u : Within) → Runs (script P own site) at_work e u → LeadsOn P stand.0.frames stand.1 now below e u
      leads e u q = leads_on P facts.typing stand.0 stand.1 h now below stand.2 own site is_m site_is e u q

      -- it goes on to a frame that can run
      pub lands : (n : ℕ) (u : Within) → Runs (script P own site) at_work (GoesTo n) u
          → FramesStand P u.heap (record now { offset = n; locals = u.locals; operands = u.operands } ∷ below) × CanRun P (record now { offset = n; locals = u.locals; operands = u.operands })
      lands n u q =
          let l = leads (GoesTo n) u q in
          let c : l.control ≡ Running (record now { offset = n; locals = u.locals; operands = u.operands } ∷ below) = some_eq (sym l.is_after) in
          let st : ControlStands P stand.0.frames stand.1 u.heap (Running (record now { offset = n; locals = u.locals; operands = u.operands } ∷ below))
          = subst (ControlStands P stand.0.frames stand.1 u.heap) c l.stands in
          ((stand.0, stand.1, record { heap = l.heap; control = st }), stands_run P stand.0.frames u.heap (record now { offset = n; locals = u.locals; operands = u.operands }) st.0)

      -- an instruction stands where it goes on
      pub target_there : (n : ℕ) (u : Within) → Runs (script P own site) at_work (GoesTo n) u → (k : ℕ) × IsAt body.instrs k n
      target_there n u q =
          let run = (lands n u q).1 in
          let e : site_at own n ≡ Some run.site = subst (λ (i : MethodInfo). site_at i n ≡ Some run.site) (some_both run.is_method is_m) run.is_site in
          site_place body.instrs own.resolved n run.site (sym (ap (option_and_then (λ (b : Body). site_among b.instrs own.resolved n)) is_b) ∙ e)

      pub room_there : (n : ℕ) (u : Within) → Runs (script P own site) at_work (GoesTo n) u → length u.operands ≤ own.max_stack
      room_there n u q =
          let run = (lands n u q).1 in
          subst (λ (i : MethodInfo). length u.operands ≤ i.max_stack) (some_both run.is_method is_m) run.depth

      -- where control falls through, the next instruction is there
      pub next_there : falls_through x.row.family ≡ true → (n : ℕ) × (offset_of body.instrs (suc f.instr) ≡ Some n) × (f.instr + 1 < length body.instrs) × (offset_at P f.method (f.instr + 1) ≡ n)
      next_there falls =
          let holds = stand.2.control.0.holds in
          let same : holds.method ≡ own = some_both holds.is_method is_m in
          let types : frame_at own (stand.0.frames f.method) (offset_at P f.method f.instr) ≡ Some holds.types = subst (λ (i : MethodInfo). frame_at i (stand.0.frames f.method) (offset_at P f.method f.instr) ≡ Some holds.types) same holds.is_types in
          let typing = (stand.0.methods f.method own body is_m is_b).sites (offset_at P f.method f.instr) site holds.types site_is types in
          let next = onward_some P own (stand.0.frames f.method) typing.leaves (falls_through x.row.family) (offset_of body.instrs (suc f.instr)) falls typing.onward in
          let y = some_at (slice_get body.instrs (suc f.instr)) next.0 next.1 in
          let e : suc f.instr ≡ f.instr + 1 = omega arith in
          (next.0, next.1, omega (arith, slice_get_within body.instrs (suc f.instr) y.0 y.1), ap (offset_at P f.method) (sym e) ∙ offset_is P f.method own body is_m is_b (suc f.instr) y.0 y.1 ∙ y.2)

    -- ---- steps, whatever stands below

    module _ (k : Heap) (ls2 st2 : List Value) (j d n : ℕ) (at : offset_at P f.method j ≡ n) (q : Runs (script P own site) at_work (GoesTo n) (window k ls2 st2 d)) where
      abbrev pub on : CodeFrame
      on = record f { instr = j; depth = d }

      on_is : record now { offset = n; locals = ls2; operands = top_first st2 d } ≡ frame_with P on ls2 st2
      on_is = ap (λ o. record now { offset = o; locals = ls2; operands = top_first st2 d }) (sym at)

      pub on_stands : (below : List Frame) → FramesStand P h (now ∷ below) → FramesStand P k (frame_with P on ls2 st2 ∷ below)
      on_stands below stand = subst (λ g. FramesStand P k (g ∷ below)) on_is (lands below stand n (window k ls2 st2 d) q).0

      pub on_runs : cells k ≤ max_cells → (h0 : Heap) (first : Frame) (made : ℕ) (below : List Frame) → is_too_deep P (Running (now ∷ below)) ≡ false → GoesOn P h0 (first ∷ below) made h (now ∷ below) → GoesOn P h0 (first ∷ below) (made + 1) k (frame_with P on ls2 st2 ∷ below)
      on_runs few h0 first made below deep run service printed short =
          let t : State = running k (frame_with P on ls2 st2 ∷ below) printed in
          let step : Step P (running h (now ∷ below) printed) t
          = subst₂ (λ g bs. Step P (running h (now ∷ below) printed) (running k (g ∷ below) bs)) on_is (append-nil printed)
          (step_by P now below own site is_m site_is h printed (GoesTo n) (window k ls2 st2 d) (Running (record now { offset = n; locals = ls2; operands = top_first st2 d } ∷ below)) q refl) in
          one_more P service made (running h0 (first ∷ below) printed) (running h (now ∷ below) printed) t (run service printed short)
          (λ a. not_call n a.method (asks_calls P now below own site is_m site_is service h printed a (GoesTo n) (window k ls2 st2 d) at_work q).0)
          step (passes_none P t (record { size = few; depth = deep; output = short }))
        where
          not_call : (n m : ℕ) → GoesTo n ≡ Called m → ⊥
          not_call n m e = cc
