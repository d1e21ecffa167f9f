use Rattle.std.proofs.Common.{◌≡◌, ◌++◌, drop}
use Rattle.nr_linkrules.specs.Outline.{own_names}
use Rattle.nr_link.proofs.names.push_loaded_names.Given as goal

abbrev pub invariant-loop-loaded : goal.invariant-loop-loaded
invariant-loop-loaded l = l.names ++ own_names (drop l.loaded-index l.classes) ≡ l.initial.names ++ own_names l.classes
