-- A machine that makes a remote call whose only argument is restored.
use Rattle.std.proofs.Common.{◌≢◌, ℕ, List, [], ◌∷◌, refl, sym, arith}
use Rattle.std.specs.Prelude.{Some, None, IsSomeAnd}
use Rattle.std.specs.FinMap.{get}
use Rattle.nr_optable.specs.Rows.{all_rows}
use Rattle.nr_linked.specs.BuiltIns.{built_in_class}
use Rattle.nr_linked.specs.BuiltInTables.{built_in_infos, built_in_info, built_in_methods, built_in_method}
use Rattle.nr_model.specs.declared.value.Value.{Value}
use Rattle.nr_model.specs.declared.value.Value.TheVariants.{Ref}
use Rattle.nr_model.specs.Scripts.{GoesTo, Gave, Runs}
use Rattle.nr_model.specs.States.{Frame, Returned, State}
use Rattle.nr_model.specs.Steps.{script_at, Step}
use Rattle.nr_model.specs.Pairs.{Holds}
use Rattle.nr_model.specs.Locals.{RestorableRoot, CallRun}
use Rattle.nr_model.specs.Asks.{Asks, AskStep, AskRun, arrived, own, asked}
use Rattle.nr_model.specs.LocalEntries.{AllRestorable, IsOwn, EachLocal, EachOwn}
use Rattle.nr_model.specs.Example.{example, same, relay, rows, before, heap, same_call, service, relay_start, main_end}
use Rattle.nr_model.proofs.ListedHeaps.{at as found, there, each_ref}
use Rattle.nr_model.proofs.OwnCalls.{own_local}
use Rattle.nr_model.proofs.Paths.{none_some}
use Rattle.nr_model.proofs.Plain.{plain_local}
use Rattle.nr_model.proofs.Examples.Machine.{running, left_in, some_map, held}
use Rattle.nr_model.proofs.Examples.BoxAsked.{not_184, asks_nothing}
use Rattle.nr_model.proofs.Examples.BoxRestored.{closed}

abbrev one : List Value
one = Ref 1 ∷ []

-- ---- the frames of both methods, and their instructions

module _ (m : ℕ) where
  abbrev frame : ℕ → List Value → Frame
  frame offset operands = record { method = m; offset = offset; locals = one; operands = operands }

  abbrev at : ℕ → List Value → State
  at offset operands = running (heap before) (frame offset operands ∷ [])

  abbrev Goes : ℕ → List Value → ℕ → List Value → Type 0
  Goes o us p vs = IsSomeAnd (script_at example m o) (λ sc. Runs sc (left_in (heap before) one us []) (GoesTo p) (left_in (heap before) one vs []))

  goes : (o : ℕ) (us : List Value) (p : ℕ) (vs : List Value) → Goes o us p vs → Step example (at o us) (at p vs)
  goes o us p vs r = some_map (script_at example m o) _ _ (λ sc r. record { ending = GoesTo p; left = left_in (heap before) one vs []; runs = r; control = refl; heap = refl; printed = refl }) r

-- ---- the called method

same_end : State
same_end = record { heap = heap before; control = Returned (Some (Ref 1)); printed = [] }

same_loads : Step example (at 2 0 []) (at 2 1 one)
unfolding all_rows
same_loads = goes 2 0 [] 1 one (refl, refl)

same_returns : Step example (at 2 1 one) same_end
unfolding all_rows same_end
same_returns = record { ending = Gave (Some (Ref 1)); left = left_in (heap before) one [] []; runs = (refl, refl); control = refl; heap = refl; printed = refl }

same_run : CallRun example (heap before) 2 one 2 same_end
unfolding same_end
same_run = record { first = at 2 0 []; begins = refl; run = (_, same_loads, (_, same_returns, refl)); ends = tt }

-- ---- its entry

array : RestorableRoot example (heap before) one 1
unfolding built_in_infos built_in_info built_in_methods built_in_method built_in_class
array = ((0, refl), held (heap before) 1 (rows (2 ∷ 3 ∷ [])) _ (found before 1) refl)

restorable : AllRestorable example (heap before) one
restorable a i = each_ref (RestorableRoot example (heap before) one) one (array, tt) i.0 a i.1

own_entry : IsOwn example same_call
unfolding same_end
own_entry = record { steps = 2; state = same_end; result = Some (Ref 1); local = plain_local example (heap before) one restorable 2 2 same_end same_run; returned = refl; answer = refl }

arguments_held : (x : ℕ) → Holds one x → get (heap before) x ≢ None
arguments_held x i = each_ref (λ x. get (heap before) x ≢ None) one (there before 1 (λ e. none_some (sym e)), tt) i.0 x i.1

pub each_own : EachOwn example (same_call ∷ [])
each_own = (own_entry, restorable, tt)

pub each_local : EachLocal example (same_call ∷ [])
each_local = (own_local example same_call closed arguments_held own_entry, restorable, tt)

-- ---- the machine

no_ask_at_0 : Asks example service (at 3 0 []) → ⊥
unfolding all_rows
no_ask_at_0 = asks_nothing example service (at 3 0 []) (frame 3 0 []) [] relay _ refl refl refl (not_184 42 refl)

no_ask_at_4 : Asks example service (at 3 4 one) → ⊥
unfolding all_rows
no_ask_at_4 = asks_nothing example service (at 3 4 one) (frame 3 4 one) [] relay _ refl refl refl (not_184 87 refl)

no_ask_at_5 : Asks example service (at 3 5 []) → ⊥
unfolding all_rows
no_ask_at_5 = asks_nothing example service (at 3 5 []) (frame 3 5 []) [] relay _ refl refl refl (not_184 177 refl)

relay_loads : Step example (at 3 0 []) (at 3 1 one)
unfolding all_rows
relay_loads = goes 3 0 [] 1 one (refl, refl)

relay_pops : Step example (at 3 4 one) (at 3 5 [])
unfolding all_rows
relay_pops = goes 3 4 one 5 [] (omega arith, (refl, refl))

relay_returns : Step example (at 3 5 []) (main_end before)
unfolding all_rows
relay_returns = record { ending = Gave None; left = left_in (heap before) one [] []; runs = (refl, refl); control = refl; heap = refl; printed = refl }

asks : Asks example service (at 3 1 one)
unfolding all_rows
asks = record {
  frame = frame 3 1 one;
  below = [];
  running = refl;
  caller = relay;
  calling = refl;
  site = _;
  standing = refl;
  family = refl;
  code = refl;
  method = 2;
  named = 0;
  found = refl;
  info = same;
  called = refl;
  has_code = refl;
  remote = refl;
  enough = refl;
}

answered : AskStep example service (at 3 1 one) same_call (at 3 4 one)
unfolding all_rows asks
answered = record { asks = asks; method = refl; args = refl; before = refl; answer = (refl, refl, refl) }

pub relay_run : AskRun example service relay_start (same_call ∷ []) 4 (main_end before)
relay_run =
    own (at 3 1 one) no_ask_at_0 relay_loads
    (asked (at 3 4 one) answered
    (own (at 3 5 []) no_ask_at_4 relay_pops
    (own (main_end before) no_ask_at_5 relay_returns arrived)))
