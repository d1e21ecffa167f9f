-- What the program does with its words over a folder's files. The project's own rules.
use Rattle.std.specs.Prelude.{ℕ, ◌+◌, ◌-◌, List, [], ◌∷◌, length, slice_get, Option, None, Some, Result, Ok, Err, cond, nat_le, Bool, true, ◌&&◌, is_some, is_ok}
use Rattle.nr_outside.specs.Folder.{ToldFile, class_paths, file_at}
use Rattle.nr_prog.specs.declared.body.loaded.Loaded.{Loaded}
use Rattle.nr_linked.specs.declared.program.tables.ProgramTables.{ProgramTables}
use Rattle.nr_code.specs.Decoding.{loaded_of}
use Rattle.nr_code.specs.declared.fault.LoadFault.{LoadFault}
use Rattle.nr_code.specs.declared.fault.LoadFault.TheVariants as loads
use Rattle.nr_linkrules.specs.declared.fault.LinkFault.TheVariants as links
use Rattle.nr_cli.specs.Words.{Command, command_of}
use Rattle.nr_cli.specs.Order.{in_byte_order}
use Rattle.nr_cli.specs.Programs.{prepared}
use Rattle.nr_cli.specs.Dues.{Due, IsEndOf, MainRun, Settled}
use Rattle.nr_cli.specs.declared.ending.LoadFault.TheVariants.{Read, Code as CodeRefused, FileTooLong, FolderTooLong}
use Rattle.nr_cli.specs.declared.ending.End.{End}
use Rattle.nr_cli.specs.declared.ending.End.TheVariants.{Words, Folder, Class, Link, Run, Memory}
use Rattle.nr_cli.specs.declared.ending.Stop.TheVariants as stops

-- a file that can't be read, or whose code is refused
abbrev pub fault_end : List ℕ → LoadFault → End
fault_end path loads.NoMemory = Memory
fault_end path (loads.Class fault) = Class path (Read fault)
fault_end path (loads.Code method fault) = Class path (CodeRefused method fault)

-- ---- one class file

abbrev pub as_end : List ℕ → Result Loaded LoadFault → Result Loaded End
as_end path (Ok loaded) = Ok loaded
as_end path (Err fault) = Err (fault_end path fault)

-- The class in the file at a path, or the end of the program: first its length is looked at, then it is read with
-- the code of its methods.
abbrev pub file_class : List ℕ → List ℕ → Result Loaded End
file_class path bytes = cond (nat_le (length bytes) 1048576) (as_end path (loaded_of bytes)) (Err (Class path FileTooLong))

abbrev pub with_len : ℕ → Result Loaded End → Result (Loaded × ℕ) End
with_len len (Ok loaded) = Ok (loaded, len)
with_len len (Err end) = Err end

-- the same, and how many bytes the file has
abbrev pub loaded_at : List ℕ → Option (List ℕ) → Result (Loaded × ℕ) End
loaded_at path None = Err Memory
loaded_at path (Some bytes) = with_len (length bytes) (file_class path bytes)

-- ---- all class files

abbrev pub and_then_all : Result (Loaded × ℕ) End → Result (List Loaded × ℕ) End → Result (List Loaded × ℕ) End
and_then_all (Err end) others = Err end
and_then_all (Ok x) (Err end) = Err end
and_then_all (Ok x) (Ok others) = Ok (x.0 ∷ others.0, x.1 + others.1)

-- the classes in the files at these paths and how many bytes all of them have, or the first refusal
abbrev pub all_loaded : List ℕ → List ToldFile → List (List ℕ) → Result (List Loaded × ℕ) End
all_loaded dir files [] = Ok ([], 0)
all_loaded dir files (path ∷ paths) = and_then_all (loaded_at path (file_at dir path files)) (all_loaded dir files paths)

-- how many of the files at these paths are read: each up to the first that is refused
abbrev pub reads : List ℕ → List ToldFile → List (List ℕ) → ℕ
reads dir files [] = 0
reads dir files (path ∷ paths) = 1 + cond (is_ok (loaded_at path (file_at dir path files))) (reads dir files paths) 0

-- how many calls are made on the folder: it is listed, and its files are read
abbrev pub calls_of : Option Command → List ToldFile → ℕ
calls_of None files = 0
calls_of (Some c) files = 1 + reads c.dir files (in_byte_order (class_paths c.dir files))

-- ---- what is done with them

abbrev pub main_due : Command → Result (ProgramTables × ℕ) End → Due
main_due c (Ok x) = MainRun x.0 x.1 c
main_due c (Err end) = Settled end

-- they are linked and verified, the class of the command is looked up, and its `main` is run
abbrev pub judged : Command → List Loaded → Due
judged c classes = main_due c (prepared classes c.main)

abbrev pub last_end : Command → Option (List ℕ) → End
last_end c None = Link (links.NoClass c.main)
last_end c (Some path) = Class path FolderTooLong

-- First the length of all files together is looked at, of which the last path tells.
abbrev pub folder_due : Command → List (List ℕ) → ℕ → List Loaded → Due
folder_due c paths len classes = cond (nat_le len 67108864) (judged c classes) (Settled (last_end c (slice_get paths (length paths - 1))))

abbrev pub loaded_due : Command → List (List ℕ) → Result (List Loaded × ℕ) End → Due
loaded_due c paths (Ok x) = folder_due c paths x.1 x.0
loaded_due c paths (Err end) = Settled end

-- the files at these paths, in order
abbrev pub of_paths : Command → List ToldFile → List (List ℕ) → Due
of_paths c files paths = loaded_due c paths (all_loaded c.dir files paths)

abbrev pub of_command : Option Command → List ToldFile → Due
of_command None files = Settled Words
of_command (Some c) files = of_paths c files (in_byte_order (class_paths c.dir files))

-- what is due where the program is given these words over these files
abbrev pub due_of : List (List ℕ) → List ToldFile → Due
due_of words files = of_command (command_of words) files

-- each of the paths has a file
abbrev pub are_listed : List ℕ → List ToldFile → List (List ℕ) → Bool
are_listed dir files [] = true
are_listed dir files (path ∷ paths) = is_some (file_at dir path files) && are_listed dir files paths

-- nothing failed, neither memory nor the folder: no end of what is due tells of that
pub record NothingFailed (due : Due) : Type 0 where
  pub memory : IsEndOf due Memory → ⊥
  pub link_memory : IsEndOf due (Link links.NoMemory) → ⊥
  pub run_memory : (printed : List ℕ) → IsEndOf due (Run printed stops.Memory) → ⊥
  pub folder : IsEndOf due Folder → ⊥
