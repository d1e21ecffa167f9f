use Rattle.std.proofs.Common.{◌≡◌, ◌++◌, drop, map}
use Rattle.nr_linkrules.specs.Completion.{frame_of}
use Rattle.nr_linkrules.specs.Faults.{first_of}
use Rattle.nr_linkrules.specs.SiteRules.{map_fault}
use Rattle.nr_link.proofs.frames.frames_of.Given as goal

abbrev pub invariant-loop-frame : goal.invariant-loop-frame
invariant-loop-frame l = record {
  passed : first_of (map_fault l.tables) (drop l.frame-index l.frames) ≡ first_of (map_fault l.tables) l.frames;
  so_far : l.found ++ map (frame_of l.tables) (drop l.frame-index l.frames) ≡ map (frame_of l.tables) l.frames;
}
