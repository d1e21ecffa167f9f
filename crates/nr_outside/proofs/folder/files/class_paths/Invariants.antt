use Rattle.std.proofs.Common.{◌≡◌, ◌++◌, map, drop}
use Rattle.std.specs.String.{string_bytes}
use Rattle.nr_outside.specs.Folder.{class_paths}
use Rattle.nr_outside.specs.Files.{told_of}
use Rattle.nr_outside.proofs.folder.files.class_paths.Given as goal

abbrev pub invariant-files : goal.invariant-files
invariant-files l =
    map string_bytes l.paths.items ++ class_paths l.dir (map told_of (drop l.file-index l.files)) ≡ class_paths l.dir (map told_of l.files)
