use Rattle.std.proofs.Common.{◌≡◌, length, false, sym, ap, ◌∙◌, arith}
use Rattle.std.specs.Prelude.{slice_get}
use Rattle.nr_graph.specs.Walks.{is_met}
use Rattle.nr_graph.proofs.Listed.{in_range, new_at, new_long, new_once, with_old}
use Rattle.nr_graph.proofs.Walks.{has_met}
use Rattle.nr_graph.proofs.linear_map.LinearMap.add.Goals as goal

pub returns-in-Some-clause-added : goal.returns-in-Some-clause-added
returns-in-Some-clause-added c = sym (with_old c.args.self.now c.args.r (has_met c.args.self.now c.args.r (c.in-Some.place, c.in-Some.ensures)))

pub returns-in-Some-clause-listed : goal.returns-in-Some-clause-listed
returns-in-Some-clause-listed c =
    ((λ l. has_met c.args.self.now c.args.r (c.in-Some.place, c.in-Some.ensures)), (λ m. in_range c.args.self.now c.in-Some.place c.args.r c.in-Some.ensures))

pub invariant_of-self-2 : goal.invariant_of-self-2
invariant_of-self-2 c =
    let m : is_met c.self.inside.refs.keys c.args.r ≡ false = ap (λ xs. is_met xs c.args.r) c.self.view_is ∙ c.in_default.ensures in
    let long = new_long c.self.inside.refs.keys c.insert.new.self.keys c.args.r m c.in_ok-insert.ensures.keys in
    let l : length c.self.inside.refs.keys ≡ c.len-place.result = ap length c.self.view_is ∙ sym c.len-place.ensures.len in
    (new_once c.self.inside.refs.keys c.insert.new.self.keys c.args.r m c.in_ok-insert.ensures.keys c.self.invariant.0, omega (arith, long, l, c.self.invariant.1))

pub returns-clause-place : goal.returns-clause-place
returns-clause-place c =
    let m : is_met c.self.inside.refs.keys c.args.r ≡ false = ap (λ xs. is_met xs c.args.r) c.self.view_is ∙ c.in_default.ensures in
    ap (slice_get c.insert.new.self.keys) (c.len-place.ensures.len ∙ ap length (sym c.self.view_is)) ∙ new_at c.self.inside.refs.keys c.insert.new.self.keys c.args.r m c.in_ok-insert.ensures.keys

pub returns-clause-once : goal.returns-clause-once
returns-clause-once c =
    let m : is_met c.self.inside.refs.keys c.args.r ≡ false = ap (λ xs. is_met xs c.args.r) c.self.view_is ∙ c.in_default.ensures in
    new_once c.self.inside.refs.keys c.insert.new.self.keys c.args.r m c.in_ok-insert.ensures.keys c.self.invariant.0
