use Rattle.std.proofs.Common.{◌≡◌, ◌++◌, drop}
use Rattle.nr_linkrules.specs.Completion.{types_of}
use Rattle.nr_linkrules.specs.Faults.{first_of}
use Rattle.nr_linkrules.specs.SiteRules.{type_fault}
use Rattle.nr_link.proofs.frames.types_of.Given as goal

abbrev pub invariant-loop-map_type : goal.invariant-loop-map_type
invariant-loop-map_type l = record {
  passed : first_of (type_fault l.tables) (drop l.map_type-index l.types) ≡ first_of (type_fault l.tables) l.types;
  so_far : l.found ++ types_of l.tables (drop l.map_type-index l.types) ≡ types_of l.tables l.types;
}
