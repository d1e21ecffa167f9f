-- A method of nrmi/Out prints: the step.
use Rattle.std.proofs.Common.{◌≡◌, ℕ, zero, suc, ◌+◌, ◌<◌, ◌≤◌, inl, inr, List, [], ◌∷◌, ◌++◌, length, drop, refl, sym, ap, ap₂, subst, subst₂, ◌∙◌, Bool, true, false, arith, nat_lt, cond}
use Rattle.std.specs.Prelude.{Option, Some, None, IsSomeAnd}
use Rattle.std.specs.Option.{option_and_then, option_map}
use Rattle.std.proofs.lemmas.Bool.{le-ltb, lt-ltb}
use Rattle.std.proofs.lemmas.List.{length-append}
use Rattle.nr_linked.specs.declared.program.tables.MethodInfo.{MethodInfo}
use Rattle.nr_linked.specs.declared.program.tables.ProgramTables.{ProgramTables}
use Rattle.nr_linked.specs.Facts.{ProgramFacts}
use Rattle.nr_linked.specs.Programs.{method_at}
use Rattle.nr_linked.specs.Sites.{Site, site_at}
use Rattle.nr_model.specs.Asks.{Asks}
use Rattle.nr_model.specs.Heaps.{Heap, cells}
use Rattle.nr_model.specs.Outcomes.{HeapFull, OutputTooLong, TooDeep, is_too_deep, max_cells, max_printed, passed}
use Rattle.nr_model.specs.Rules.{script}
use Rattle.nr_model.specs.Scripts.{Called, GoesTo, Runs, Within}
use Rattle.nr_model.specs.States.{Control, Frame, Running, State}
use Rattle.nr_model.specs.Steps.{Step, given, next_offset, within}
use Rattle.nr_model.proofs.Limits.{passes_none}
use Rattle.nr_typed.specs.Standing.{ControlStands}
use Rattle.nr_model.specs.declared.value.Value.{Value}
use Rattle.nr_machine.specs.declared.stack.Frame.{Frame as CodeFrame}
use Rattle.nr_machine.specs.CallStacks.{CanGoOn, OnRunning, frames_of}
use Rattle.nr_machine.specs.Prints.{PrintsText}
use Rattle.nr_machine.specs.Settles.{CouldStep, OwnStep}
use Rattle.nr_machine.specs.Stays.{FramesStand, running}
use Rattle.nr_machine.specs.Turned.{TakesMemory}
use Rattle.nr_machine.proofs.AskedScripts.{asks_calls}
use Rattle.nr_machine.proofs.Leading.{leads_on, step_by}
use Rattle.nr_machine.proofs.Standing.{goes_on}

some_eq : {X : Type 0} {a b : X} → Some a ≡ Some b → a ≡ b
some_eq e = cc

not_called : (t m : ℕ) → GoesTo t ≡ Called m → ⊥
not_called t m e = cc

passed_long : (P : ProgramTables) (s : State) → cells s.heap ≤ max_cells → is_too_deep P s.control ≡ false → max_printed < length s.printed → passed P s ≡ Some OutputTooLong
passed_long P s l d m =
    ap (λ b. cond b (Some HeapFull) (cond (is_too_deep P s.control) (Some TooDeep) (cond (nat_lt max_printed (length s.printed)) (Some OutputTooLong) None))) (le-ltb max_cells (cells s.heap) l)
    ∙ ap (λ b. cond b (Some TooDeep) (cond (nat_lt max_printed (length s.printed)) (Some OutputTooLong) None)) d
    ∙ ap (λ b. cond b (Some OutputTooLong) None) (lt-ltb max_printed (length s.printed) m)

module _ (P : ProgramTables) (facts : ProgramFacts P) (h k : Heap) (bytes : List ℕ) (count : ℕ) where
  -- the frames without the operands go on
  pub text_given : (fs new : List Frame) → FramesStand P h fs → PrintsText P h k bytes count fs → OnRunning fs (λ f below. new ≡ record f { operands = drop count f.operands } ∷ below)
      → (c : Control) × (given P None new ≡ Some c) × CanGoOn P c
      × ((service : Option ℕ) (printed : List ℕ) → cells k ≤ max_cells → is_too_deep P c ≡ false → length (printed ++ bytes) ≤ max_printed → OwnStep P service (running h fs printed) (record { heap = k; control = c; printed = printed ++ bytes }))
  text_given [] new stand p q = absurd q
  text_given (f ∷ below) new stand p q =
      let r = p.1 in
      let own = r.0 in
      let site : Site = r.1 in
      let t = r.2 in
      let u : Within = record (within h f) { operands = drop count f.operands; printed = bytes } in
      let c : Control = Running (record f { offset = t; operands = drop count f.operands } ∷ below) in
      let next : next_offset P f.method f.offset ≡ Some t = ap (λ o. option_and_then (λ (s : Site). s.next) (option_and_then (λ (i : MethodInfo). site_at i f.offset) o)) r.3 ∙ (ap (λ o. option_and_then (λ (s : Site). s.next) o) r.4 ∙ r.5) in
      let g : given P None new ≡ Some c = ap (given P None) q ∙ ap (option_map (λ t. Running (record f { offset = t; operands = drop count f.operands } ∷ below))) next in
      let on = leads_on P facts.typing stand.0 stand.1 h f below stand.2 own site r.3 r.4 (GoesTo t) u r.7 in
      let same : on.control ≡ c = some_eq (sym on.is_after) in (
        c,
        g,
        goes_on P stand.0.frames h stand.1 c (subst (ControlStands P stand.0.frames stand.1 h) same on.stands),
        λ service printed few deep short. record {
          own = λ a. not_called t a.method (asks_calls P f below own site r.3 r.4 service h printed a (GoesTo t) u (within h f) r.7).0;
          step = subst (λ k. Step P (running h (f ∷ below) printed) (record { heap = k; control = c; printed = printed ++ bytes })) p.0 (step_by P f below own site r.3 r.4 h printed (GoesTo t) u c r.7 refl);
          limits = passes_none P (record { heap = k; control = c; printed = printed ++ bytes }) (record { size = few; depth = deep; output = short });
        },
      )

  -- what the step would lead to
  pub text_could : (fs : List Frame) → FramesStand P h fs → PrintsText P h k bytes count fs → is_too_deep P (Running fs) ≡ false → cells k ≤ max_cells → (Q : State → Type 0) (service : Option ℕ) (printed : List ℕ)
      → ((t : State) → t.printed ≡ printed ++ bytes → cells t.heap ≤ max_cells → is_too_deep P t.control ≡ false → Q t) → CouldStep P service (running h fs printed) Q
  text_could [] stand p deep few Q service printed so = absurd p.1
  text_could (f ∷ below) stand p deep few Q service printed so =
      let r = p.1 in
      let t = r.2 in
      let u : Within = record (within h f) { operands = drop count f.operands; printed = bytes } in
      let c : Control = Running (record f { offset = t; operands = drop count f.operands } ∷ below) in
      record {
        own = λ a. not_called t a.method (asks_calls P f below r.0 r.1 r.3 r.4 service h printed a (GoesTo t) u (within h f) r.7).0;
        next = record { heap = h; control = c; printed = printed ++ bytes };
        step = step_by P f below r.0 r.1 r.3 r.4 h printed (GoesTo t) u c r.7 refl;
        so = so (record { heap = h; control = c; printed = printed ++ bytes }) refl (subst (λ k. cells k ≤ max_cells) (sym p.0) few) deep;
      }

  pub text_enough : (fs : List Frame) → PrintsText P h k bytes count fs → OnRunning fs (λ f below. count ≤ length f.operands)
  text_enough [] p = p.1
  text_enough (f ∷ below) p = p.1.6

  pub text_long : (fs : List Frame) → FramesStand P h fs → PrintsText P h k bytes count fs → is_too_deep P (Running fs) ≡ false → cells k ≤ max_cells → (service : Option ℕ) (printed : List ℕ) → max_printed < length (printed ++ bytes)
      → CouldStep P service (running h fs printed) (λ t. passed P t ≡ Some OutputTooLong)
  text_long fs stand p deep few service printed m = text_could fs stand p deep few (λ t. passed P t ≡ Some OutputTooLong) service printed (λ t e l d. passed_long P t l d (subst (λ bs. max_printed < length bs) (sym e) m))

  pub text_memory : (fs : List Frame) → FramesStand P h fs → PrintsText P h k bytes count fs → is_too_deep P (Running fs) ≡ false → cells k ≤ max_cells → (service : Option ℕ) (printed : List ℕ) → 0 < length bytes
      → CouldStep P service (running h fs printed) (TakesMemory (running h fs printed))
  text_memory fs stand p deep few service printed m = text_could fs stand p deep few (TakesMemory (running h fs printed)) service printed
      (λ t e l d. inr (omega (arith, m, ap length e, length-append printed bytes)))

pub some_frames : (P : ProgramTables) (fs : List CodeFrame) (vs : List Value) (Q : Frame → List Frame → Type 0) → OnRunning (frames_of P fs vs) Q → 0 < length fs
some_frames P [] vs Q q = absurd q
some_frames P (f ∷ fs) vs Q q = omega arith

pub same_given : (o : Option Control) (c d : Control) → o ≡ Some c → o ≡ Some d → c ≡ d
same_given o c d p q = some_eq (sym p ∙ q)
