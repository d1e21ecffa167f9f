-- iinc at a local variable that is an int.
use Rattle.std.proofs.Common.{◌≡◌, ℕ, ℤ, List, sym, subst}
use Rattle.std.specs.Prelude.{Some, IsSomeAnd, slice_get, slice_set}
use Rattle.std.specs.Int.{w32}
use Rattle.std.proofs.lemmas.Option.{slice_get_within}
use Rattle.nr_optable.specs.Arithmetic.{add}
use Rattle.nr_model.specs.declared.value.Value.{Value}
use Rattle.nr_model.specs.declared.value.Value.TheVariants.{Int}
use Rattle.nr_model.specs.Heaps.{Heap}
use Rattle.nr_model.specs.Scripts.{IsIn, OnInt, Runs}
use Rattle.nr_model.specs.ValueRules.{increment}
use Rattle.nr_step.specs.Windows.{Leads, view}

pub incremented : (h : Heap) (ls ops : List Value) (i : ℕ) (by n m : ℤ) → slice_get ls i ≡ Some (Int n) → m ≡ add w32 n by
    → Leads (increment i by) (view h ls ops) (view h (slice_set ls i (Int m)) ops)
incremented h ls ops i by n m q s = λ k e u r.
    subst (λ g. IsSomeAnd g (λ v. OnInt v (λ n. IsIn i ls × Runs k (view h (slice_set ls i (Int (add w32 n by))) ops) e u))) (sym q)
    (slice_get_within ls i (Int n) q, subst (λ m. Runs k (view h (slice_set ls i (Int m)) ops) e u) s r)
