use Rattle.std.proofs.Common.{◌≡◌, map, length}
use Rattle.nr_outside.specs.Folder.{is_each_once}
use Rattle.nr_outside.specs.Files.{told_of}
use Rattle.nr_outside.proofs.folder.files.are_each_once.Given as goal

abbrev pub invariant-files : goal.invariant-files
invariant-files l = is_each_once (map told_of l.rest) ≡ is_each_once (map told_of l.files)

abbrev pub decreases-files : goal.decreases-files
decreases-files l = length l.rest
