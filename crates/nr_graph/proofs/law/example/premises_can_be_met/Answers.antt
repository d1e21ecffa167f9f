use Rattle.std.proofs.Common.{◌≢◌, ℕ, List, arith, get_or, ap}
use Rattle.nr_graph.proofs.Example.{fits, graph, heap, is_picture, just, names, roots}
use Rattle.nr_graph.proofs.law.example.premises_can_be_met.Goals as goal

pub returns : goal.returns
returns c = λ p.
    let a : 5 ≢ 3 = (λ e. absurd (omega (arith, e))) in
    let b : 0 ≢ 1 = (λ e. absurd (omega (arith, e))) in
    let other : names p 5 3 a ≢ names p 0 1 b = (λ e. let f = ap (λ (xs : List ℕ). get_or xs 0 9) e in absurd (omega (arith, f))) in (
      heap p 5 3 a,
      heap p 0 1 b,
      roots p 5 3 a,
      roots p 0 1 b,
      names p 5 3 a,
      names p 0 1 b,
      graph,
      fits p,
      is_picture p 5 3 a,
      is_picture p 0 1 b,
      just p 5 3 a,
      just p 0 1 b,
      other,
    )
