-- A call of a method that runs where the caller is, with copies of what is passed by copy (the project's own).
use Rattle.std.specs.Prelude.{◌≡◌, ◌≢◌, ℕ, ◌⊎◌, List, [], ◌∷◌, map, Some, None, IsSomeAnd, IsTrue}
use Rattle.std.specs.Option.{option_map}
use Rattle.std.specs.Ordering.{nat_cmp}
use Rattle.std.specs.FinMap.{FinMap, get}
use Rattle.nr_linked.specs.declared.program.tables.MethodInfo.{MethodInfo}
use Rattle.nr_linked.specs.declared.program.tables.ProgramTables.{ProgramTables}
use Rattle.nr_linked.specs.Programs.{method_at}
use Rattle.nr_linked.specs.Restorable.{is_restorable}
use Rattle.nr_model.specs.declared.value.Value.{Value}
use Rattle.nr_model.specs.declared.value.Value.TheVariants.{Ref}
use Rattle.nr_model.specs.Heaps.{Obj, Heap, on_some}
use Rattle.nr_model.specs.States.{Running, State, IsEnd}
use Rattle.nr_model.specs.Steps.{first_frame, Run}
use Rattle.nr_model.specs.Pairs.{Reach, Holds}

-- ---- the start

-- one frame of the method, with its arguments, the last first, and nothing printed
abbrev pub start_of : MethodInfo → ℕ → Heap → List Value → State
start_of i m h args = record { heap = h; control = Running (first_frame i m args ∷ []); printed = [] }

abbrev pub Begins : ProgramTables → Heap → ℕ → List Value → State → Type 0
Begins P h m args s = IsSomeAnd (method_at P m) (λ i. s ≡ start_of i m h args)

-- ---- copies

-- an argument that a call restores
abbrev pub RestorableRoot : ProgramTables → Heap → List Value → ℕ → Type 0
RestorableRoot P h args a = Holds args a × IsSomeAnd (get h a) (λ o. IsTrue (is_restorable P o.kind))

-- what such an argument reaches isn't copied
abbrev pub IsShared : ProgramTables → Heap → List Value → ℕ → Type 0
IsShared P h args x = Reach h (RestorableRoot P h args) x

-- the name itself, or that of its copy, where it has one
abbrev pub copy_of : FinMap nat_cmp ℕ → ℕ → ℕ
copy_of copies x = on_some (get copies x) x (λ z. z)

abbrev pub copied_value : FinMap nat_cmp ℕ → Value → Value
copied_value copies (Ref x) = Ref (copy_of copies x)
copied_value copies v = v

abbrev pub copied_object : FinMap nat_cmp ℕ → Obj → Obj
copied_object copies o = record { kind = o.kind; slots = map (copied_value copies) o.slots }

-- k is h with a copy of each object that arguments reach, but none that is shared; args' are the arguments with these
pub record CopyArgs (P : ProgramTables) (h : Heap) (args : List Value) (k : Heap) (args' : List Value) : Type 0 where
  -- the names of the copies, under those of the originals
  pub copies : FinMap nat_cmp ℕ
  pub originals : (x : ℕ) → get copies x ≢ None → Reach h (Holds args) x × ¬ IsShared P h args x
  pub whole : (x : ℕ) → Reach h (Holds args) x → IsShared P h args x ⊎ (get copies x ≢ None)
  -- the names are new, and each copy has its own
  pub new : (x z : ℕ) → get copies x ≡ Some z → get h z ≡ None
  pub distinct : (x y z : ℕ) → get copies x ≡ Some z → get copies y ≡ Some z → x ≡ y
  -- a copy names the copies of what its original names
  pub objects : (x z : ℕ) → get copies x ≡ Some z → get k z ≡ option_map (copied_object copies) (get h x)
  pub arguments : args' ≡ map (copied_value copies) args
  -- all else is as it was
  pub old : (x : ℕ) → get h x ≢ None → get k x ≡ get h x
  pub no_more : (y : ℕ) → get k y ≢ None → (get h y ≢ None) ⊎ ((x : ℕ) × (get copies x ≡ Some y))

-- ---- runs of a call

-- n steps lead from the call to an end, with no limit and no remote class
pub record CallRun (P : ProgramTables) (h : Heap) (m : ℕ) (args : List Value) (n : ℕ) (t : State) : Type 0 where
  pub first : State
  pub begins : Begins P h m args first
  pub run : Run P first n t
  pub ends : IsEnd t.control

-- the same of copied arguments
pub record Local (P : ProgramTables) (h : Heap) (m : ℕ) (args : List Value) (n : ℕ) (t : State) : Type 0 where
  pub heap : Heap
  pub args' : List Value
  pub copies : CopyArgs P h args heap args'
  pub call : CallRun P heap m args' n t
