use Rattle.nr_link.proofs.built_in.+push_above.Given as goal

abbrev pub decreases-push_above : goal.decreases-push_above
decreases-push_above l = l.steps
