use Rattle.std.proofs.Common.{sym, ◌∙◌}
use Rattle.std.specs.List.{flat_map}
use Rattle.nr_linked.proofs.Upward.{goes_on, stops}
use Rattle.nr_links.specs.Resolution.{interface_and_above, interfaces_of}
use Rattle.nr_link.specs.Declaring.{declares_method}
use Rattle.nr_link.proofs.methods.find_in_superinterfaces.Goals as goal

pub returns-in-Some-find_in_interfaces : goal.returns-in-Some-find_in_interfaces
returns-in-Some-find_in_interfaces c =
    stops (λ d. flat_map (interface_and_above c.args.tables.now c.len-most.result) (interfaces_of c.args.tables.now d)) (declares_method c.args.tables.now c.args.sought.now.name.now c.args.sought.now.desc.now) c.in-Some.class _ _ _ c.in-Some-find_in_interfaces.found
    c.in-Some.ensures.steps
    (sym (c.interfaces_of-interfaces.ensures (interface_and_above c.args.tables.now c.len-most.result) (declares_method c.args.tables.now c.args.sought.now.name.now c.args.sought.now.desc.now))
    ∙ sym c.find_in_interfaces.ensures ∙ c.in-Some-find_in_interfaces.is)
    c.loop-class.invariant.2

pub loop-class-preserved : goal.loop-class-preserved
loop-class-preserved c = (
  tt,
  tt,
  goes_on (λ d. flat_map (interface_and_above c.args.tables.now c.len-most.result) (interfaces_of c.args.tables.now d)) (declares_method c.args.tables.now c.args.sought.now.name.now c.args.sought.now.desc.now) c.in-Some.class _ _ _
      c.in-Some.ensures.steps
      (sym (c.interfaces_of-interfaces.ensures (interface_and_above c.args.tables.now c.len-most.result) (declares_method c.args.tables.now c.args.sought.now.name.now c.args.sought.now.desc.now))
      ∙ sym c.find_in_interfaces.ensures ∙ c.in_default.is)
      c.loop-class.invariant.2,
)
