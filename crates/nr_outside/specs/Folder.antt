-- What a folder tells.
use Rattle.std.specs.Prelude.{◌≡◌, ℕ, ◌&&◌, Bool, true, List, [], ◌∷◌, take, nat_eq, Option, None, Some, is_none, Result, Ok, Err, Vec, codes, cond}
use Rattle.std.specs.Str.{bytes_eq}
use Rattle.std.specs.List.{ends_with}
use Rattle.std.specs.declared.alloc.Global.{Global}
use Rattle.nr_outside.specs.declared.fault.Fault.{Fault}

-- a file: the folder that is asked for it, its path below that folder, and its bytes
pub record ToldFile : Type 0 where
  pub dir : List ℕ
  pub path : List ℕ
  pub bytes : List ℕ

abbrev pub is_class_path : List ℕ → Bool
is_class_path path = ends_with nat_eq path (codes ".class")

-- the paths under this folder that end in `.class`
abbrev pub class_paths : List ℕ → List ToldFile → List (List ℕ)
class_paths dir [] = []
class_paths dir (f ∷ files) = cond (bytes_eq f.dir dir && is_class_path f.path) (f.path ∷ class_paths dir files) (class_paths dir files)

-- the bytes of the file
abbrev pub file_at : List ℕ → List ℕ → List ToldFile → Option (List ℕ)
file_at dir path [] = None
file_at dir path (f ∷ files) = cond (bytes_eq f.dir dir && bytes_eq f.path path) (Some f.bytes) (file_at dir path files)

-- No folder and path stand twice.
abbrev pub is_each_once : List ToldFile → Bool
is_each_once [] = true
is_each_once (f ∷ files) = is_none (file_at f.dir f.path files) && is_each_once files

-- The first `max` bytes of the file are read, or all where it is shorter. A file that isn't there is refused.
abbrev pub Reads : Option (List ℕ) → ℕ → Result (Vec ℕ Global) Fault → Type 0
Reads (Some whole) max (Ok bytes) = bytes.items ≡ take max whole
Reads None max (Ok bytes) = ⊥
Reads whole max (Err fault) = Unit {0}
