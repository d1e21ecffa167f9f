use Rattle.nr_link.proofs.room.+slots_upward.Given as goal

abbrev pub decreases-slots_upward : goal.decreases-slots_upward
decreases-slots_upward l = l.left
