-- What a run prints: the text of one machine, of which there is one; and on the way a first part.
use Rattle.std.proofs.Common.{◌≡◌, ◌≢◌, ℕ, zero, suc, ◌+◌, List, [], ◌∷◌, ◌++◌, sym, ap, ap₂, subst, ◌∙◌, arith}
use Rattle.std.specs.Prelude.{Some, None, ℤ}
use Rattle.std.specs.FinMap.{empty, get}
use Rattle.nr_linked.specs.declared.program.tables.ProgramTables.{ProgramTables}
use Rattle.nr_model.specs.declared.value.Value.TheVariants.{Int}
use Rattle.nr_model.specs.Alike.{Any}
use Rattle.nr_model.specs.Outcomes.{CallOutcome}
use Rattle.nr_model.specs.Pairs.{Holds, IsClosed}
use Rattle.nr_model.specs.States.{State}
use Rattle.nr_model.specs.Steps.{Run}
use Rattle.nr_model.specs.States as states
use Rattle.nr_model.proofs.Heaps.{get_same}
use Rattle.nr_model.proofs.Kept.{pairs_kept, pairs_one_length}
use Rattle.nr_model.proofs.Limits.{call_run}
use Rattle.nr_model.proofs.Lone.{lone_starts}
use Rattle.nr_model.proofs.Outcomes.{begins_heap}
use Rattle.nr_model.proofs.Printed.{call_printed_comes, call_printed_ends, call_printed_grows}
use Rattle.nr_run.specs.declared.ran.Ran.{Ran}
use Rattle.nr_run.specs.declared.ran.RunEnd.TheVariants.{Returned}
use Rattle.nr_run.specs.Runs.{EndsAs, IsText, RunEnds, RunStops, first_args, first_heap, int_array, result_line}
use Rattle.nr_run.proofs.Renamed.{plain_ints, returned_over, start_in}

pub ended_text : (P : ProgramTables) (m : ℕ) (ints : List ℤ) (budget : ℕ) (r : Ran) (n : ℤ) → RunEnds P m ints budget r → r.end ≡ Returned n → IsText P m ints (r.printed ++ result_line n)
ended_text P m ints budget r n x e =
    let ends : EndsAs x.fate x.state (Returned n) = subst (EndsAs x.fate x.state) e x.ends in
    let outcome = subst (λ f. CallOutcome P (first_heap ints) m first_args budget x.steps f x.state) ends.0 x.outcome in
    record {
      steps = x.steps;
      state = x.state;
      result = n;
      run = (call_run P (first_heap ints) m first_args budget x.steps x.state outcome).0;
      returned = ends.1;
      is_text = ap (λ bytes. bytes ++ result_line n) x.printed;
    }

-- ---- one text

same_int : (n k : ℤ) → states.Returned (Some (Int n)) ≡ states.Returned (Some (Int k)) → n ≡ k
same_int n k e = cc

pub one_text : (P : ProgramTables) (m : ℕ) (ints : List ℤ) (text other : List ℕ) → IsText P m ints text → IsText P m ints other → text ≡ other
one_text P m ints text other x y =
    let start = (lone_starts (int_array ints) (plain_ints ints) P m 0 0 x.run.first y.run.first x.run.begins y.run.begins).0 in
    let long : x.steps ≡ y.steps = pairs_one_length P x.steps ((0, 0) ∷ []) x.run.first y.run.first x.state start x.run.run y.steps y.state y.run.run x.run.ends y.run.ends in
    let run = subst (λ k. Run P y.run.first k y.state) (sym long) y.run.run in
    let both = pairs_kept P x.steps ((0, 0) ∷ []) x.run.first y.run.first x.state start x.run.run y.state run in
    let over : y.state.control ≡ states.Returned (Some (Int x.result)) = returned_over Any x.state.control y.state.control x.result both.shape x.returned in
    x.is_text ∙ ap₂ (λ bytes n. bytes ++ result_line n) both.printed (same_int x.result y.result (sym over ∙ y.returned)) ∙ sym y.is_text

-- ---- on the way

argument_held : (ints : List ℤ) (x : ℕ) → Holds first_args x → get (first_heap ints) x ≢ None
argument_held ints x (zero, e) none = bad (sym (get_same empty 0 (int_array ints)) ∙ ap (get (first_heap ints)) (inner e) ∙ none)
  where
    inner : Some 0 ≡ Some x → 0 ≡ x
    inner e = cc

    bad : Some (int_array ints) ≡ None → ⊥
    bad e = cc
argument_held ints x (suc i, e) none = bad e
  where
    bad : None ≡ Some x → ⊥
    bad e = cc

pub printed_part : (P : ProgramTables) (m : ℕ) (ints : List ℤ) (budget : ℕ) (printed : List ℕ) (r : Ran) → RunStops P m ints budget printed → RunEnds P m ints budget r
    → (more : List ℕ) × (r.printed ≡ printed ++ more)
printed_part P m ints budget printed r stops x =
    let z = start_in P m 0 0 budget ints x.steps x.fate x.state x.outcome in
    let closed : IsClosed (first_heap ints) = subst IsClosed (begins_heap P (first_heap ints) m first_args z.right z.right_begins) z.closed in
    let last = stops.0 + x.steps in
    let all = call_printed_comes P (first_heap ints) m first_args budget x.steps x.fate x.state x.outcome last in
    let more = call_printed_grows P (first_heap ints) m first_args closed (argument_held ints) budget stops.0 last printed all.0 stops.1 all.1 (omega arith) in
    let whole = call_printed_ends P (first_heap ints) m first_args closed (argument_held ints) budget last x.steps x.fate x.state all.0 all.1 x.outcome (omega arith) in
    (more.0, x.printed ∙ sym whole ∙ more.1)
