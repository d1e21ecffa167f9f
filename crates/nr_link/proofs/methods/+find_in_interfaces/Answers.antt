use Rattle.std.proofs.Common.{◌-◌, sym, ◌∙◌}
use Rattle.std.proofs.lemmas.List.{get_or_default}
use Rattle.nr_links.specs.Resolution.{interface_and_above}
use Rattle.nr_link.specs.Declaring.{declares_method}
use Rattle.nr_link.proofs.Interfaces.{finds_above, finds_it, goes_by, none_left, passes_over}
use Rattle.nr_link.proofs.methods.+find_in_interfaces.Goals as goal
use Rattle.nr_link.proofs.methods.+find_in_interfaces.Goals.{then-may_find+else-declares_method+in_default, else-may_find}

pub returns-then-left-eq0 : goal.returns-then-left-eq0
returns-then-left-eq0 t c = none_left c.args.tables.now (declares_method c.args.tables.now c.args.sought.now.name.now c.args.sought.now.desc.now) c.args.left c.args.interfaces.now c.if-left-eq0.true

pub returns-then-declares_method : goal.returns-then-declares_method
returns-then-declares_method t c =
    finds_it c.args.tables.now (declares_method c.args.tables.now c.args.sought.now.name.now c.args.sought.now.desc.now) c.args.left c.args.interfaces.now _ _ c.loop-class-test.true (get_or_default c.args.interfaces.now _ _ _ c.loop-class-test.true)
    (sym c.declares_method.ensures ∙ c.if-declares_method.true) c.loop-class.invariant

pub returns-in-Some : goal.returns-in-Some
returns-in-Some t c =
    finds_above c.args.tables.now (declares_method c.args.tables.now c.args.sought.now.name.now c.args.sought.now.desc.now) c.args.left c.args.interfaces.now _ _ _ c.loop-class-test.true (get_or_default c.args.interfaces.now _ _ _ c.loop-class-test.true)
    (sym c.declares_method.ensures ∙ c.if-declares_method.false)
    (sym (c.interfaces_of-above.ensures (interface_and_above c.args.tables.now (c.args.left - 1)) (declares_method c.args.tables.now c.args.sought.now.name.now c.args.sought.now.desc.now))
    ∙ sym c.find_in_interfaces.ensures ∙ c.in-Some.is)
    c.loop-class.invariant

pub loop-class-preserved : goal.loop-class-preserved
loop-class-preserved t c = elim c.if-may_find.branch [
  | then-may_find+else-declares_method+in_default w ↦ goes_by c.args.tables.now (declares_method c.args.tables.now c.args.sought.now.name.now c.args.sought.now.desc.now) c.args.left c.args.interfaces.now _ _ c.loop-class-test.true (get_or_default c.args.interfaces.now _ _ _ c.loop-class-test.true)
      (sym w.declares_method.ensures ∙ w.if-declares_method.false)
      (sym (w.interfaces_of-above.ensures (interface_and_above c.args.tables.now (c.args.left - 1)) (declares_method c.args.tables.now c.args.sought.now.name.now c.args.sought.now.desc.now))
      ∙ sym w.find_in_interfaces.ensures ∙ w.in_default.is)
      c.loop-class.invariant
  | else-may_find w ↦ passes_over c.args.tables.now (declares_method c.args.tables.now c.args.sought.now.name.now c.args.sought.now.desc.now) c.args.left c.args.interfaces.now _ _ c.loop-class-test.true (get_or_default c.args.interfaces.now _ _ _ c.loop-class-test.true)
      (c.may_find.ensures w.if-may_find.false) c.loop-class.invariant
]
