use Rattle.std.proofs.Common.{arith, sym, ap, ◌∙◌}
use Rattle.std.proofs.lemmas.Grind.{common_steps}
use Rattle.nr_serform.proofs.PlacedSlots.{sort_kept, sort_left}
use Rattle.nr_serform.proofs.order.slots_of_sort.Goals as goal
use Rattle.nr_serform.proofs.order.slots_of_sort.Goals.{then-is_of_sort+in_ok-push, else-is_of_sort}

pub loop-place-preserved : goal.loop-place-preserved
loop-place-preserved c =
    elim c.if-is_of_sort.branch [
      | then-is_of_sort+in_ok-push w ↦ record {
        parts =
            sort_kept c.args.«class» c.args.references c.loop-place.place c.args.slots.now c.index-slots-place.result w.member_of.result c.loop-place.members.items _
            c.loop-place-test.true c.index-slots-place.is (sym c.is_of_sort.ensures ∙ w.if-is_of_sort.true) w.member_of.ensures.part
            (ap (λ v. v.items) w.members-is ∙ w.in_ok-push.ensures.items) c.loop-place.invariant.parts;
        short = rw (w.members-is, w.in_ok-push.ensures.items) (grind (arith, common_steps, c.loop-place.invariant.short, w.member_of.ensures.short));
      }
      | else-is_of_sort w ↦ record {
        parts =
            sort_left c.args.«class» c.args.references c.loop-place.place c.args.slots.now c.index-slots-place.result c.loop-place.members.items _
            c.loop-place-test.true c.index-slots-place.is (sym c.is_of_sort.ensures ∙ w.if-is_of_sort.false) (ap (λ v. v.items) w.members-is)
            c.loop-place.invariant.parts;
        short = rw w.members-is c.loop-place.invariant.short;
      }
    ]
