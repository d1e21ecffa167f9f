use Rattle.std.proofs.Common.{rules, ◌≡◌, sym, subst, ◌∙◌, ◌||◌, ◌∷◌}
use Rattle.std.specs.List.{list_any}
use Rattle.std.proofs.lemmas.Bool.{not-true}
use Rattle.nr_linked.specs.SeenSlots.{has}
use Rattle.nr_linked.specs.Sendable.{has_twins}
use Rattle.nr_linked.proofs.SeenSlots.{begins, goes_on}
use Rattle.nr_linked.proofs.program.twins.has_twins_by_set.Goals as goal

pub loop-first-init : goal.loop-first-init
loop-first-init c = begins c.new-seen.result c.args.slots.now c.new-seen.ensures.empty

pub loop-first-preserved : goal.loop-first-preserved
loop-first-preserved c =
    let seen = c.loop-first.seen in
    let is : c.loop-first.left.now ≡ c.in-Some.first.now ∷ c.in-Some.others.now = search rules in
    goes_on seen c.add.new.seen c.in-Some.first.now c.in-Some.others.now c.args.slots.now
    (not-true (has seen c.in-Some.first.now) (sym c.in_ok-add.ensures.new ∙ c.if-not-branch.false)) c.in_ok-add.ensures.kept
    (subst (λ ss. (list_any (has seen) ss || has_twins ss) ≡ has_twins c.args.slots.now) is c.loop-first.invariant)
