-- Steps are joined: those of a stay, and the one that leaves the frame.
use Rattle.std.proofs.Common.{◌≡◌, ℕ, zero, suc, ◌+◌, ◌-◌, ◌<◌, ◌≤◌, List, [], ◌∷◌, length, refl, sym, ap, subst, ◌∙◌, arith}
use Rattle.std.specs.Prelude.{Option, Some, None, IfSome, false, is_some, true}
use Rattle.nr_linked.specs.declared.program.kind.Kind.{Kind}
use Rattle.nr_linked.specs.declared.program.tables.ProgramTables.{ProgramTables}
use Rattle.nr_linked.specs.TypingFacts.{TypingFacts}
use Rattle.nr_linked.specs.WellTyped.{WellTyped}
use Rattle.nr_model.specs.Asks.{Entry}
use Rattle.nr_model.specs.Heaps.{Heap}
use Rattle.nr_model.specs.LimitedRuns.{LimitedRun, own_step, remote_step, there}
use Rattle.nr_model.specs.Outcomes.{max_printed}
use Rattle.nr_model.specs.States.{Frame, State}
use Rattle.nr_model.proofs.Following.{limited_join}
use Rattle.nr_typed.specs.Standing.{StandsIn}
use Rattle.nr_typed.proofs.Progress.{preservation}
use Rattle.nr_step.specs.declared.flow.Flow.{Flow}
use Rattle.nr_step.specs.declared.flow.Told.{Told}
use Rattle.nr_machine.specs.declared.answer.Turn.{Turn}
use Rattle.nr_machine.specs.declared.answer.Turn.TheVariants.{Ran, Returned, Thrown, RemoteAsk, BudgetSpent, TooDeep, HeapFull, OutputTooLong, NoMemory}
use Rattle.nr_machine.specs.Settles.{Advanced, EndsSo, OwnStep, Settles, Stops, with_step}
use Rattle.nr_machine.specs.Stays.{FramesStand, GoesOn, Leaves, running}
use Rattle.nr_machine.proofs.InFrame.{one_more}

none_cons : (e : Entry) (es : List Entry) → ◌≡◌ {A = List Entry} [] (e ∷ es) → ⊥
none_cons e es q = cc

-- own steps keep standing
module _ (P : ProgramTables) (facts : TypingFacts P) (typed : WellTyped P) (result : Option Kind) (service : Option ℕ) where
  own_stands : (k : ℕ) (s t : State) (calls : List Entry) → calls ≡ [] → LimitedRun P service s calls k t → StandsIn P typed.frames result s → StandsIn P typed.frames result t
  own_stands zero s t calls e there st = st
  own_stands (suc k) s t calls e (own_step m asks step limits rest) st = own_stands k m t calls e rest (preservation P facts typed result s m st step)
  own_stands (suc k) s t calls e (remote_step m step limits rest) st = absurd (none_cons _ _ (sym e))

  pub run_stands : (k : ℕ) (s t : State) → LimitedRun P service s [] k t → StandsIn P typed.frames result s → StandsIn P typed.frames result t
  run_stands k s t run st = own_stands k s t [] refl run st

pub frames_run : (P : ProgramTables) → TypingFacts P → (service : Option ℕ) (h k : Heap) (fs gs : List Frame) (old new : List ℕ) (made : ℕ) → LimitedRun P service (running h fs old) [] made (running k gs new) → FramesStand P h fs → FramesStand P k gs
frames_run P facts service h k fs gs old new made run stand =
    let st = run_stands P facts stand.0 stand.1 service made (running h fs old) (running k gs new) run (record { heap = stand.2.heap; control = stand.2.control }) in
    (stand.0, stand.1, record { heap = st.heap; control = st.control })

pub goes_stands : (P : ProgramTables) → TypingFacts P → (h k : Heap) (fs gs : List Frame) (made : ℕ) → GoesOn P h fs made k gs → FramesStand P h fs → FramesStand P k gs
goes_stands P facts h k fs gs made run stand = frames_run P facts None h k fs gs [] [] made (run None [] (omega arith)) stand

-- ---- one more step, or none

module _ (P : ProgramTables) (service : Option ℕ) (steps made : ℕ) (s m t : State) (run : LimitedRun P service s [] made m) (more : made < steps) where
  made_one : OwnStep P service m t → LimitedRun P service s [] (made + 1) t
  made_one q = one_more P service made s m t run q.own q.step q.limits

  stayed_there : t ≡ m → LimitedRun P service s [] made t
  stayed_there e = subst (λ t. LimitedRun P service s [] made t) (sym e) run

  pub advanced : (answer : Option Turn) → Settles P service answer m t → Advanced P service steps s (with_step answer made) answer t
  advanced None q = record { run = made_one q; few = omega (arith, more); ends = tt }
  advanced (Some (Returned v)) q = record { run = made_one q; few = omega (arith, more); ends = tt }
  advanced (Some (Thrown a)) q = record { run = made_one q; few = omega (arith, more); ends = tt }
  advanced (Some Ran) q = absurd q.1
  advanced (Some BudgetSpent) q = absurd q.1
  advanced (Some (RemoteAsk n)) q = record { run = stayed_there q.0; few = omega (arith, more); ends = (more, subst (λ m. Stops P service m (RemoteAsk n)) (sym q.0) q.1) }
  advanced (Some TooDeep) q = record { run = stayed_there q.0; few = omega (arith, more); ends = (more, subst (λ m. Stops P service m TooDeep) (sym q.0) q.1) }
  advanced (Some HeapFull) q = record { run = stayed_there q.0; few = omega (arith, more); ends = (more, subst (λ m. Stops P service m HeapFull) (sym q.0) q.1) }
  advanced (Some OutputTooLong) q = record { run = stayed_there q.0; few = omega (arith, more); ends = (more, subst (λ m. Stops P service m OutputTooLong) (sym q.0) q.1) }
  advanced (Some NoMemory) q = record { run = stayed_there q.0; few = omega (arith, more); ends = (more, subst (λ m. Stops P service m NoMemory) (sym q.0) q.1) }

pub step_few : (answer : Option Turn) (made steps : ℕ) → made < steps → with_step answer made ≤ steps
step_few None made steps l = omega (arith, l)
step_few (Some (Returned v)) made steps l = omega (arith, l)
step_few (Some (Thrown a)) made steps l = omega (arith, l)
step_few (Some Ran) made steps l = omega (arith, l)
step_few (Some BudgetSpent) made steps l = omega (arith, l)
step_few (Some (RemoteAsk n)) made steps l = omega (arith, l)
step_few (Some TooDeep) made steps l = omega (arith, l)
step_few (Some HeapFull) made steps l = omega (arith, l)
step_few (Some OutputTooLong) made steps l = omega (arith, l)
step_few (Some NoMemory) made steps l = omega (arith, l)

pub step_some : (answer : Option Turn) (made : ℕ) → answer ≡ None → 0 < with_step answer made
step_some answer made e = subst (λ a. 0 < with_step a made) (sym e) (omega arith)

-- ---- parts

module _ (P : ProgramTables) (service : Option ℕ) (steps first then : ℕ) (s m t : State) (few : first ≤ steps) (run : LimitedRun P service s [] first m) where
  later : (answer : Turn) → EndsSo P service (steps - first) then t answer → EndsSo P service steps (first + then) t answer
  later (Returned v) q = tt
  later (Thrown a) q = tt
  later Ran q = absurd q.1
  later BudgetSpent q = absurd q.1
  later (RemoteAsk n) q = (omega (arith, few, q.0), q.1)
  later TooDeep q = (omega (arith, few, q.0), q.1)
  later HeapFull q = (omega (arith, few, q.0), q.1)
  later OutputTooLong q = (omega (arith, few, q.0), q.1)
  later NoMemory q = (omega (arith, few, q.0), q.1)

  all_later : (answer : Option Turn) → IfSome answer (EndsSo P service (steps - first) then t) → IfSome answer (EndsSo P service steps (first + then) t)
  all_later None q = tt
  all_later (Some answer) q = later answer q

  pub joined : (answer : Option Turn) → Advanced P service (steps - first) m then answer t → Advanced P service steps s (first + then) answer t
  joined answer q = record {
    run = limited_join P service first then s m t [] [] run q.run;
    few = omega (arith, few, q.few);
    ends = all_later answer q.ends;
  }

pub none_of : {X : Type 0} (o : Option X) → false ≡ is_some o → o ≡ None
none_of None e = refl
none_of (Some x) e = absurd (bad e)
  where
    bad : false ≡ true → ⊥
    bad e = cc
