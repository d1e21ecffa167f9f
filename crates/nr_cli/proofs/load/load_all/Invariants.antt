use Rattle.std.proofs.Common.{◌≡◌, ◌+◌, ◌≤◌, true, drop, map}
use Rattle.std.specs.String.{string_bytes}
use Rattle.std.specs.List.{All}
use Rattle.nr_linkrules.specs.Readable.{IsReadable}
use Rattle.nr_cli.specs.Plan.{all_loaded, reads, are_listed}
use Rattle.nr_cli.proofs.Loadings.{Walk}
use Rattle.nr_cli.proofs.load.load_all.Given as goal

abbrev pub invariant-loop-path : goal.invariant-loop-path
invariant-loop-path g l = record {
  len : l.read.len ≤ 67108865;
  readable : l.read.len ≤ 67108864 → All IsReadable l.read.classes;
  faults : g.F.Folder.faults l.fn.folder ≤ g.F.Folder.faults l.folder;
  files : g.F.Folder.Tells → g.F.Folder.files l.folder ≡ g.F.Folder.files l.fn.folder;
  walk : g.F.Folder.Tells → Walk l.dir (g.F.Folder.files l.fn.folder) (all_loaded l.dir (g.F.Folder.files l.fn.folder) (map string_bytes l.paths)) (map string_bytes (drop l.path-index l.paths)) l.read.classes l.read.len;
  calls : g.F.Folder.Tells → g.F.Folder.calls l.folder + reads l.dir (g.F.Folder.files l.fn.folder) (map string_bytes (drop l.path-index l.paths)) ≤ g.F.Folder.calls l.fn.folder + reads l.dir (g.F.Folder.files l.fn.folder) (map string_bytes l.paths);
  listed : are_listed l.dir (g.F.Folder.files l.fn.folder) (map string_bytes l.paths) ≡ true → are_listed l.dir (g.F.Folder.files l.fn.folder) (map string_bytes (drop l.path-index l.paths)) ≡ true;
}
