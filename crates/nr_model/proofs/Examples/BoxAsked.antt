-- A machine that makes the worked call as a remote call, within the limits.
use Rattle.std.proofs.Common.{◌≡◌, ◌≢◌, ℕ, ◌≤◌, List, [], ◌∷◌, refl, sym, ap, subst, ◌∙◌, arith, inl, inr}
use Rattle.std.specs.Prelude.{Option, Some, None, IsSomeAnd, ◌==◌, true, false}
use Rattle.std.specs.FinMap.{get, empty, get-empty}
use Rattle.std.specs.Ordering.{nat_cmp}
use Rattle.nr_optable.specs.Rows.{all_rows}
use Rattle.nr_linked.specs.declared.program.tables.MethodInfo.{MethodInfo}
use Rattle.nr_linked.specs.declared.program.tables.ProgramTables.{ProgramTables}
use Rattle.nr_linked.specs.Programs.{method_at}
use Rattle.nr_linked.specs.Sites.{Site, site_at}
use Rattle.nr_model.specs.declared.value.Value.{Value}
use Rattle.nr_model.specs.declared.value.Value.TheVariants.{Ref}
use Rattle.nr_model.specs.Heaps.{Obj, total_cells, cells}
use Rattle.nr_model.specs.Scripts.{GoesTo, Gave, Runs}
use Rattle.nr_model.specs.States.{Frame, Running, State}
use Rattle.nr_model.specs.Steps.{script_at, Step}
use Rattle.nr_model.specs.Pairs.{NamedIn, PairedStates}
use Rattle.nr_model.specs.Outcomes.{max_cells, passed}
use Rattle.nr_model.specs.Asks.{Faulted, Asks, AskStep, AskRun}
use Rattle.nr_model.specs.LimitedRuns.{LimitedRun, there, own_step, remote_step}
use Rattle.nr_model.specs.LocalEntries.{IsFaulted, IsOwn, FaultedWhere, Mirrors, no_call, answered_call, faulted_call as both_faulted}
use Rattle.nr_model.specs.Example.{example, main, before, left, restored, heap, args, answered, call, own_call, faulted_call, service, main_start, main_end, end_with}
use Rattle.nr_model.proofs.Cells.{cells_insert_less}
use Rattle.nr_model.proofs.Counting.{all_counted}
use Rattle.nr_model.proofs.Following.{limited_is_run}
use Rattle.nr_model.proofs.Limits.{passes_none}
use Rattle.nr_model.proofs.ListedHeaps.{there as found, each_ref}
use Rattle.nr_model.proofs.PairedEnds.{closed_pair}
use Rattle.nr_model.proofs.Paths.{none_some, some_eq}
use Rattle.nr_model.proofs.Examples.Machine.{running, left_in, some_map}
use Rattle.nr_model.proofs.Examples.BoxCopied.{local_run}
use Rattle.nr_model.proofs.Examples.BoxRestored.{call_is_local, closed}

-- ---- sizes

empty_cells : cells empty ≡ 0
empty_cells = all_counted empty [] (λ i j x e f. absurd (none_some e)) (λ x n. absurd (n (get-empty nat_cmp x)))

-- a listed heap has no more cells than its list
listed_cells : (es : List (ℕ × Obj)) → cells (heap es) ≤ total_cells es
listed_cells [] = let e : cells empty ≡ 0 = empty_cells in omega (arith, e)
listed_cells (e ∷ es) =
    let rest : cells (heap es) ≤ total_cells es = listed_cells es in
    omega (arith, rest, cells_insert_less (heap es) e.0 e.1)

in_size : (es : List (ℕ × Obj)) → total_cells es ≤ 17 → cells (heap es) ≤ max_cells
in_size es l = omega (arith, l, listed_cells es)

-- ---- the machine

abbrev locals : List Value
locals = Ref 1 ∷ Ref 1 ∷ Ref 4 ∷ []

abbrev frame : ℕ → List Value → Frame
frame offset operands = record { method = 1; offset = offset; locals = locals; operands = operands }

abbrev at : List (ℕ × Obj) → ℕ → List Value → State
at es offset operands = running (heap es) (frame offset operands ∷ [])

keeps : (es : List (ℕ × Obj)) (offset : ℕ) (operands : List Value) → total_cells es ≤ 17 → passed example (at es offset operands) ≡ None
keeps es offset operands l = passes_none example (at es offset operands) (record { size = in_size es l; depth = refl; output = omega arith })

end_keeps : (es : List (ℕ × Obj)) → total_cells es ≤ 17 → passed example (main_end es) ≡ None
end_keeps es l = passes_none example (main_end es) (record { size = in_size es l; depth = refl; output = omega arith })

-- another instruction than invokestatic asks for nothing
module _ (P : ProgramTables) (asked : Option ℕ) (s : State) (f : Frame) (fs : List Frame) (i : MethodInfo) (x : Site) (running : s.control ≡ Running (f ∷ fs))
    (method : method_at P f.method ≡ Some i) (site : site_at i f.offset ≡ Some x) where
  pub asks_nothing : (x.instr.row.code ≡ 184 → ⊥) → Asks P asked s → ⊥
  asks_nothing other a =
      let same : f ≡ a.frame = top (sym running ∙ a.running) in
      let caller : i ≡ a.caller = some_eq (sym method ∙ ap (λ (f : Frame). method_at P f.method) same ∙ a.calling) in
      let here : site_at a.caller a.frame.offset ≡ Some x = subst (λ (g : Frame). site_at a.caller g.offset ≡ Some x) same (subst (λ i. site_at i f.offset ≡ Some x) caller site) in
      let one : x ≡ a.site = some_eq (sym here ∙ a.standing) in
      other (ap (λ (x : Site). x.instr.row.code) one ∙ a.code)
    where
      top : Running (f ∷ fs) ≡ Running (a.frame ∷ a.below) → f ≡ a.frame
      top e = cc

-- the instruction at an offset leads from operands on to an offset and operands
abbrev Goes : ℕ → List (ℕ × Obj) → List Value → ℕ → List Value → Type 0
Goes o es us p vs = IsSomeAnd (script_at example 1 o) (λ sc. Runs sc (left_in (heap es) locals us []) (GoesTo p) (left_in (heap es) locals vs []))

goes : (o : ℕ) (es : List (ℕ × Obj)) (us : List Value) (p : ℕ) (vs : List Value) → Goes o es us p vs → Step example (at es o us) (at es p vs)
goes o es us p vs r = some_map (script_at example 1 o) _ _ (λ sc r. record { ending = GoesTo p; left = left_in (heap es) locals vs []; runs = r; control = refl; heap = refl; printed = refl }) r

pub not_184 : (n : ℕ) → (n == 184) ≡ false → n ≡ 184 → ⊥
not_184 n f e = bad (sym f ∙ ap (λ n. n == 184) e)
  where
    bad : false ≡ true → ⊥
    bad e = cc

module _ (es : List (ℕ × Obj)) where
  no_ask_at_0 : (us : List Value) → Asks example service (at es 0 us) → ⊥
  unfolding all_rows
  no_ask_at_0 us = asks_nothing example service (at es 0 us) (frame 0 us) [] main _ refl refl refl (not_184 42 refl)

  no_ask_at_1 : (us : List Value) → Asks example service (at es 1 us) → ⊥
  unfolding all_rows
  no_ask_at_1 us = asks_nothing example service (at es 1 us) (frame 1 us) [] main _ refl refl refl (not_184 43 refl)

  no_ask_at_2 : (us : List Value) → Asks example service (at es 2 us) → ⊥
  unfolding all_rows
  no_ask_at_2 us = asks_nothing example service (at es 2 us) (frame 2 us) [] main _ refl refl refl (not_184 44 refl)

  no_ask_at_6 : (us : List Value) → Asks example service (at es 6 us) → ⊥
  unfolding all_rows
  no_ask_at_6 us = asks_nothing example service (at es 6 us) (frame 6 us) [] main _ refl refl refl (not_184 87 refl)

  no_ask_at_7 : (us : List Value) → Asks example service (at es 7 us) → ⊥
  unfolding all_rows
  no_ask_at_7 us = asks_nothing example service (at es 7 us) (frame 7 us) [] main _ refl refl refl (not_184 177 refl)

  aload_0_at_0 : Step example (at es 0 []) (at es 1 (Ref 1 ∷ []))
  unfolding all_rows
  aload_0_at_0 = goes 0 es [] 1 (Ref 1 ∷ []) (refl, refl)

  aload_1_at_1 : Step example (at es 1 (Ref 1 ∷ [])) (at es 2 (Ref 1 ∷ Ref 1 ∷ []))
  unfolding all_rows
  aload_1_at_1 = goes 1 es (Ref 1 ∷ []) 2 (Ref 1 ∷ Ref 1 ∷ []) (refl, refl)

  aload_2_at_2 : Step example (at es 2 (Ref 1 ∷ Ref 1 ∷ [])) (at es 3 args)
  unfolding all_rows
  aload_2_at_2 = goes 2 es (Ref 1 ∷ Ref 1 ∷ []) 3 args (refl, refl)

  pop_at_6 : (name : ℕ) → Step example (at es 6 (Ref name ∷ [])) (at es 7 [])
  unfolding all_rows
  pop_at_6 name = goes 6 es (Ref name ∷ []) 7 [] (omega arith, (refl, refl))

  returns_at_7 : Step example (at es 7 []) (main_end es)
  unfolding all_rows
  returns_at_7 = record { ending = Gave None; left = left_in (heap es) locals [] []; runs = (refl, refl); control = refl; heap = refl; printed = refl }

-- ---- the call

asks : Asks example service (at before 3 args)
unfolding all_rows
asks = record {
  frame = frame 3 args;
  below = [];
  running = refl;
  caller = main;
  calling = refl;
  site = _;
  standing = refl;
  family = refl;
  code = refl;
  method = 0;
  named = 0;
  found = refl;
  info = _;
  called = refl;
  has_code = refl;
  remote = refl;
  enough = refl;
}

asked : (es : List (ℕ × Obj)) (name : ℕ) → AskStep example service (at before 3 args) (answered es name) (at es 6 (Ref name ∷ []))
unfolding all_rows asks
asked es name = record { asks = asks; method = refl; args = refl; before = refl; answer = (refl, refl, refl) }

-- ---- the run, whatever the answer

few : total_cells before ≤ 17
few = omega arith

run_with : (es : List (ℕ × Obj)) (name : ℕ) → total_cells es ≤ 17 → LimitedRun example service main_start (answered es name ∷ []) 6 (main_end es)
run_with es name l =
    own_step (at before 1 (Ref 1 ∷ [])) (no_ask_at_0 before []) (aload_0_at_0 before) (keeps before 1 (Ref 1 ∷ []) few)
    (own_step (at before 2 (Ref 1 ∷ Ref 1 ∷ [])) (no_ask_at_1 before (Ref 1 ∷ [])) (aload_1_at_1 before) (keeps before 2 (Ref 1 ∷ Ref 1 ∷ []) few)
    (own_step (at before 3 args) (no_ask_at_2 before (Ref 1 ∷ Ref 1 ∷ [])) (aload_2_at_2 before) (keeps before 3 args few)
    (remote_step (at es 6 (Ref name ∷ [])) (asked es name) (keeps es 6 (Ref name ∷ []) l)
    (own_step (at es 7 []) (no_ask_at_6 es (Ref name ∷ [])) (pop_at_6 es name) (keeps es 7 [] l)
    (own_step (main_end es) (no_ask_at_7 es []) (returns_at_7 es) (end_keeps es l) there)))))

pub answered_run : LimitedRun example service main_start (call ∷ []) 6 (main_end restored)
answered_run = run_with restored 9 (omega arith)

pub own_run : AskRun example service main_start (own_call ∷ []) 6 (main_end left)
own_run = limited_is_run example service main_start (main_end left) (own_call ∷ []) 6 (run_with left 6 (omega arith))

-- ---- its entries

pub own_entry : IsOwn example own_call
own_entry = record { steps = 16; state = end_with left 6; result = Some (Ref 6); local = local_run; returned = refl; answer = refl }

faulted : IsFaulted faulted_call
faulted = (6, refl)

pub mirrored : Mirrors example (call ∷ faulted_call ∷ []) (own_call ∷ faulted_call ∷ [])
mirrored = answered_call refl call_is_local own_entry (both_faulted refl faulted faulted no_call)

pub one_faulted : FaultedWhere (λ n. n == 2) 1 (call ∷ faulted_call ∷ [])
one_faulted = (((λ f. absurd (no_fault f.0 f.1)), (λ t. absurd (bad t))), (((λ f. refl), (λ t. faulted)), tt))
  where
    no_fault : (name : ℕ) → call.answer ≡ Faulted name → ⊥
    no_fault name e = cc

    bad : false ≡ true → ⊥
    bad e = cc

-- ---- the start beside itself

named : (x : ℕ) → NamedIn main_start.control x → get (heap before) x ≢ None
named x (inl i) = each_ref (λ x. get (heap before) x ≢ None) locals (found before 1 held, (found before 1 held, (found before 4 held, tt))) i.0 x i.1
  where
    held : {X : Type 0} {x : X} → Some x ≢ None
    held e = none_some (sym e)
named x (inr (inl i)) = absurd (none_some i.1)
named x (inr (inr i)) = absurd i

pub itself : PairedStates [] main_start main_start
itself = closed_pair main_start closed named
