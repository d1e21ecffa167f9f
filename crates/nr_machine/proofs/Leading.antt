-- What a run of an instruction leads to, where the frames stand.
use Rattle.std.proofs.Common.{◌≡◌, ℕ, ◌+◌, ◌<◌, ◌≤◌, List, [], ◌∷◌, ◌++◌, length, refl, sym, ap, ap₂, subst, ◌∙◌, arith}
use Rattle.std.specs.Prelude.{Option, Some, None, IsSomeAnd}
use Rattle.std.specs.Option.{option_map, option_and_then}
use Rattle.nr_linked.specs.declared.program.kind.Kind.{Kind}
use Rattle.nr_linked.specs.declared.program.tables.MethodInfo.{MethodInfo}
use Rattle.nr_linked.specs.declared.program.tables.ProgramTables.{ProgramTables}
use Rattle.nr_linked.specs.Programs.{method_at}
use Rattle.nr_linked.specs.Sites.{Site, site_at}
use Rattle.nr_linked.specs.TypingFacts.{TypingFacts}
use Rattle.nr_linked.specs.TypingFrames.{TypeFrame}
use Rattle.nr_linked.specs.WellTyped.{WellTyped}
use Rattle.nr_model.specs.Heaps.{Heap}
use Rattle.nr_model.specs.Rules.{script}
use Rattle.nr_model.specs.Scripts.{Ending, Runs, Within}
use Rattle.nr_model.specs.States.{Control, Frame, Running, State}
use Rattle.nr_model.specs.Steps.{StepBy, Step, after, script_at, within}
use Rattle.nr_model.specs.TypedHeaps.{TypedHeap}
use Rattle.nr_typed.specs.Standing.{ControlStands, Stands, StandsIn}
use Rattle.nr_typed.proofs.Progress.{Owes, step_owes}
use Rattle.nr_typed.proofs.Wp.{ends_so, runs}
use Rattle.nr_machine.specs.Stays.{running}
use Rattle.nr_machine.proofs.Calls.{some_both}

-- the ending leads on, to frames that stand
pub record LeadsOn (P : ProgramTables) (frames : ℕ → List TypeFrame) (result : Option Kind) (f : Frame) (fs : List Frame) (e : Ending) (u : Within) : Type 0 where
  pub heap : TypedHeap P u.heap
  pub control : Control
  pub is_after : after P e u f fs ≡ Some control
  pub stands : ControlStands P frames result u.heap control

module _ (P : ProgramTables) (facts : TypingFacts P) (typed : WellTyped P) (result : Option Kind) (h : Heap) (f : Frame) (fs : List Frame)
    (st : StandsIn P typed.frames result (running h (f ∷ fs) [])) (own : MethodInfo) (site : Site) (is_m : method_at P f.method ≡ Some own) (is_s : site_at own f.offset ≡ Some site) where
  abbrev top : Stands P typed.frames h f
  top = st.control.0

  same_own : top.holds.method ≡ own
  same_own = some_both top.holds.is_method is_m

  same_site : top.holds.site ≡ site
  same_site = some_both (subst (λ (i : MethodInfo). site_at i f.offset ≡ Some top.holds.site) same_own top.holds.is_site) is_s

  same_script : script P top.holds.method top.holds.site ≡ script P own site
  same_script = ap₂ (script P) same_own same_site

  -- it has a run
  pub some_run : (e : Ending) × (u : Within) × Runs (script P own site) (within h f) e u
  some_run =
      let r = runs (Owes P facts typed result (running h (f ∷ fs) []) st.heap f fs top st.control.1) (script P top.holds.method top.holds.site) (within h f)
      (step_owes P facts typed result (running h (f ∷ fs) []) st.heap f fs top st.control.1) in
      (r.0.0, r.0.1, subst (λ sc. Runs sc (within h f) r.0.0 r.0.1) same_script r.1)

  -- and each run leads on
  pub leads_on : (e : Ending) (u : Within) → Runs (script P own site) (within h f) e u → LeadsOn P typed.frames result f fs e u
  leads_on e u r =
      let g = ends_so (Owes P facts typed result (running h (f ∷ fs) []) st.heap f fs top st.control.1) e u (script P top.holds.method top.holds.site) (within h f)
      (step_owes P facts typed result (running h (f ∷ fs) []) st.heap f fs top st.control.1) (subst (λ sc. Runs sc (within h f) e u) (sym same_script) r) in
      record { heap = g.0; control = g.1; is_after = g.2; stands = g.3 }

-- ---- a run is a step

module _ (P : ProgramTables) (f : Frame) (fs : List Frame) (own : MethodInfo) (site : Site) (is_m : method_at P f.method ≡ Some own) (is_s : site_at own f.offset ≡ Some site) where
  does : script_at P f.method f.offset ≡ Some (script P own site)
  does = ap (λ o. option_and_then (λ i. option_map (script P i) (site_at i f.offset)) o) is_m ∙ ap (option_map (script P own)) is_s

  pub step_by : (h : Heap) (printed : List ℕ) (e : Ending) (u : Within) (c : Control) → Runs (script P own site) (within h f) e u → after P e u f fs ≡ Some c
      → Step P (running h (f ∷ fs) printed) (record { heap = u.heap; control = c; printed = printed ++ u.printed })
  step_by h printed e u c r a =
      let t : State = record { heap = u.heap; control = c; printed = printed ++ u.printed } in
      subst (λ o. IsSomeAnd o (λ sc. StepBy P sc f fs (running h (f ∷ fs) printed) t)) (sym does)
      (record { ending = e; left = u; runs = r; control = a; heap = refl; printed = refl })
