-- What a folder in memory tells.
use Rattle.std.specs.Prelude.{ℕ, List, map}
use Rattle.nr_outside.specs.Folder.{ToldFile}
use Rattle.nr_outside.specs.Files.{told_of}
use Rattle.nr_outside.specs.declared.folder.mem.MemFolder.{MemFolder}

-- its files
abbrev pub mem_folder_files : MemFolder → List ToldFile
mem_folder_files f = map told_of f.files.items

-- how often it was listed or read
abbrev pub mem_folder_calls : MemFolder → ℕ
mem_folder_calls f = f.plan.calls

-- the numbers of its calls that are to fail
abbrev pub mem_folder_fails : MemFolder → List ℕ
mem_folder_fails f = f.plan.fails.items
