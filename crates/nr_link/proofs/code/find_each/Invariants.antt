use Rattle.std.proofs.Common.{◌≡◌, ◌++◌, drop, map}
use Rattle.nr_linkrules.specs.Faults.{first_of}
use Rattle.nr_link.specs.Coded.{found_in, site_fault}
use Rattle.nr_link.proofs.code.find_each.Given as goal

abbrev pub invariant-loop-instr : goal.invariant-loop-instr
invariant-loop-instr l = record {
  fault : first_of (site_fault l.tables l.info l.class.pool) (drop l.instr-index l.instrs) ≡ first_of (site_fault l.tables l.info l.class.pool) l.instrs;
  found : l.found ++ map (found_in l.tables l.info l.class.pool) (drop l.instr-index l.instrs) ≡ map (found_in l.tables l.info l.class.pool) l.instrs;
}
