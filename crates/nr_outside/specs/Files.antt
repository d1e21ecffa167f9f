-- What a file in memory stands for.
use Rattle.std.specs.Prelude.{ℕ, Vec}
use Rattle.std.specs.String.{string_bytes}
use Rattle.std.specs.declared.alloc.Global.{Global}
use Rattle.std.specs.declared.string.String.{String}
use Rattle.nr_outside.specs.Folder.{ToldFile}

-- a folder, a path there and bytes, as a folder tells them
abbrev pub told_of : String Global × String Global × Vec ℕ Global → ToldFile
told_of f = record { dir = string_bytes f.0; path = string_bytes f.1; bytes = f.2.items }
