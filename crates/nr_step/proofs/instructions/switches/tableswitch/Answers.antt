use Rattle.std.proofs.Common.{◌≡◌, ◌∙◌, ◌-ℤ◌, ap₂, length, w32, SFits, rules}
use Rattle.std.proofs.lemmas.Int.{to_z-of_z}
use Rattle.nr_model.specs.ValueRules.{target_at}
use Rattle.nr_step.specs.Elements.{count_of}
use Rattle.nr_step.specs.Windows.{top_first}
use Rattle.nr_step.proofs.Switches.{at_or, at_place, switch_int, switched, table_goes, table_there}
use Rattle.nr_step.proofs.instructions.switches.tableswitch.Goals as goal

pub unreachable-requires : goal.unreachable-requires
unreachable-requires c = let a = table_there c.args.i.now c.requires.row c.requires.shaped in c.in_default.not-Switch a.0 a.1 a.2 a.3

pub pop_int-n-requires-clause-some : goal.pop_int-n-requires-clause-some
pop_int-n-requires-clause-some c =
    let can = c.requires.can in
    switch_int can.0 can.1 c.args.i.now can.2 (λ n. target_at c.in-Switch.targets c.in-Switch.other (n -ℤ c.in-Switch.low)) can.3 can.4 (top_first c.args.stack.now c.args.depth.now) (length c.args.stack.now)
    (table_goes can.0 can.1 c.args.i.now can.2 c.in-Switch.other c.in-Switch.low c.in-Switch.targets c.requires.row c.in-Switch.is) can.5

pub returns-clause-went : goal.returns-clause-went
returns-clause-went c = λ P own found h ls.
    let x = c.pop_int-n.result in
    let fits : SFits w32 x = search rules in
    let fits_low : SFits w32 c.in-Switch.low = search rules in
    let is : c.from-told.result ≡ target_at c.in-Switch.targets c.in-Switch.other (x -ℤ c.in-Switch.low) =
    c.from-told.ensures ∙ c.target_or-target.ensures ∙ ap₂ (λ t p. at_or t c.in-Switch.other p) c.as_slice.ensures (c.place_from.ensures ∙ ap₂ (λ n low. count_of (n -ℤ low)) (to_z-of_z w32 x fits) (to_z-of_z w32 c.in-Switch.low fits_low))
    ∙ at_place c.in-Switch.targets c.in-Switch.other (x -ℤ c.in-Switch.low) in
    switched P own c.args.i.now found (λ n. target_at c.in-Switch.targets c.in-Switch.other (n -ℤ c.in-Switch.low)) x c.from-told.result h ls (top_first c.args.stack.now c.args.depth.now) (top_first c.args.stack.now c.pop_int-n.new.depth)
    (table_goes P own c.args.i.now found c.in-Switch.other c.in-Switch.low c.in-Switch.targets c.requires.row c.in-Switch.is) c.pop_int-n.ensures.popped is
