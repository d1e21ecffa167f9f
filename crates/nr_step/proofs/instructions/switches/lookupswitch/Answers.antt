use Rattle.std.proofs.Common.{◌≡◌, ◌∙◌, ap₂, length, w32, SFits, rules}
use Rattle.std.specs.List.{position}
use Rattle.std.specs.Ordering.{int_eq}
use Rattle.std.proofs.lemmas.Int.{to_z-of_z}
use Rattle.nr_model.specs.ValueRules.{target_of}
use Rattle.nr_step.specs.Windows.{top_first}
use Rattle.nr_step.proofs.Switches.{at_or, beside, lookup_goes, lookup_there, switch_int, switched}
use Rattle.nr_step.proofs.instructions.switches.lookupswitch.Goals as goal

pub unreachable-requires : goal.unreachable-requires
unreachable-requires c = let a = lookup_there c.args.i.now c.requires.row c.requires.shaped in c.in_default.not-Look a.0 a.1 a.2 a.3

pub pop_int-n-requires-clause-some : goal.pop_int-n-requires-clause-some
pop_int-n-requires-clause-some c =
    let can = c.requires.can in
    switch_int can.0 can.1 c.args.i.now can.2 (λ n. target_of c.in-Look.keys c.in-Look.targets c.in-Look.other n) can.3 can.4 (top_first c.args.stack.now c.args.depth.now) (length c.args.stack.now)
    (lookup_goes can.0 can.1 c.args.i.now can.2 c.in-Look.other c.in-Look.keys c.in-Look.targets c.requires.row c.in-Look.is) can.5

pub returns-clause-went : goal.returns-clause-went
returns-clause-went c = λ P own found h ls.
    let x = c.pop_int-n.result in
    let fits : SFits w32 x = search rules in
    let is : c.from-told.result ≡ target_of c.in-Look.keys c.in-Look.targets c.in-Look.other x =
    c.from-told.ensures ∙ c.target_or-target.ensures ∙ ap₂ (λ t p. at_or t c.in-Look.other p) c.as_slice.ensures (c.place_of.ensures ∙ ap₂ (λ n k. position (λ key. int_eq key n) k) (to_z-of_z w32 x fits) c.as_slice-2.ensures)
    ∙ beside c.in-Look.keys c.in-Look.targets c.in-Look.other x in
    switched P own c.args.i.now found (λ n. target_of c.in-Look.keys c.in-Look.targets c.in-Look.other n) x c.from-told.result h ls (top_first c.args.stack.now c.args.depth.now) (top_first c.args.stack.now c.pop_int-n.new.depth)
    (lookup_goes P own c.args.i.now found c.in-Look.other c.in-Look.keys c.in-Look.targets c.requires.row c.in-Look.is) c.pop_int-n.ensures.popped is
