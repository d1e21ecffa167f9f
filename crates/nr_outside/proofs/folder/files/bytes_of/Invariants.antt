use Rattle.std.proofs.Common.{◌≡◌, map, drop}
use Rattle.nr_outside.specs.Folder.{file_at}
use Rattle.nr_outside.specs.Files.{told_of}
use Rattle.nr_outside.proofs.folder.files.bytes_of.Given as goal

abbrev pub invariant-files : goal.invariant-files
invariant-files l =
    file_at l.dir l.path (map told_of (drop l.file-index l.files)) ≡ file_at l.dir l.path (map told_of l.files)
