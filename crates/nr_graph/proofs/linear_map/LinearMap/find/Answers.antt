use Rattle.std.proofs.Common.{ap, ◌∙◌, sym}
use Rattle.std.specs.Prelude.{slice_get}
use Rattle.nr_graph.proofs.Listed.{position_at}
use Rattle.nr_graph.proofs.linear_map.LinearMap.find.Goals as goal

pub returns-in-Some : goal.returns-in-Some
returns-in-Some c =
    ap (λ xs. slice_get xs c.in-Some.place) (sym c.self.view_is) ∙ position_at c.self.inside.refs.keys c.args.r c.in-Some.place (sym c.in-Some.ensures.index)
