use Rattle.std.proofs.Common.{All, IsTrue}
use Rattle.std.specs.String.{string_bytes}
use Rattle.nr_outside.specs.Folder.{is_class_path}
use Rattle.nr_outside.proofs.folder.walk.walk.Given as goal

abbrev pub invariant-folders : goal.invariant-folders
invariant-folders g l = All (λ path. IsTrue (is_class_path (string_bytes path))) l.paths.items
