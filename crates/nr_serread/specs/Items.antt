-- Items of a stream, and which bytes are due: Java Object Serialization Specification 6.4, in the project's profile.
use Rattle.std.specs.Prelude.{ℕ, suc, ◌+◌, List, [], ◌∷◌, Bool, true, ◌==◌, Option, Some, None, Result, Ok, Err, if◌then◌else◌}
use Rattle.std.specs.Int.{w8, w16, w32, w64}
use Rattle.std.specs.Str.{bytes_eq}
use Rattle.nr_base.specs.Reader.{Reader, ◌>>=◌, from, with_fault, spanned}
use Rattle.nr_base.specs.Bytes.{number_at, run_at}
use Rattle.nr_linked.specs.declared.program.kind.Kind.{Kind}
use Rattle.nr_serform.specs.Entries.{Entry, Class, Text, Object}
use Rattle.nr_serform.specs.Handles.{Table, entry_at}
use Rattle.nr_serread.specs.declared.fault.StreamFault.{StreamFault}
use Rattle.nr_serread.specs.declared.fault.StreamFault.TheVariants as faults
use Rattle.nr_serread.specs.Faults.{of_short}

abbrev pub Read : Type 0 → Type 0
Read A = Reader StreamFault A

-- ---- numbers and texts, each with its own offset in its fault

abbrev pub u1_at : Read ℕ
u1_at = with_fault of_short (number_at w8)

abbrev pub u2_at : Read ℕ
u2_at = with_fault of_short (number_at w16)

abbrev pub u4_at : Read ℕ
u4_at = with_fault of_short (number_at w32)

abbrev pub u8_at : Read ℕ
u8_at = with_fault of_short (number_at w64)

-- a length and so many bytes, which are one item
unfoldable pub utf_at : Read (List ℕ)
utf_at = from (λ at. u2_at >>= λ len. with_fault (λ s. faults.Short at) (run_at len))

-- ---- what is found for no byte

unfoldable pub given_by : {A : Type 0} → Result A StreamFault → Read A
given_by (Ok x) p = Ok (x, p)
given_by (Err e) p = Err e

-- ---- handles, behind a tag 71 at `at`

-- the node that has the handle n, where `e` is what has it
abbrev pub told_object : ℕ → ℕ → Option Entry → Result ℕ StreamFault
told_object at n None = Err (faults.Handle at n)
told_object at n (Some (Object i)) = Ok i
told_object at n (Some (Class k)) = Err (faults.HandleKind at)
told_object at n (Some (Text t)) = Err (faults.HandleKind at)

-- the class whose description has the handle
abbrev pub told_class : ℕ → ℕ → Option Entry → Result Kind StreamFault
told_class at n None = Err (faults.Handle at n)
told_class at n (Some (Class k)) = Ok k
told_class at n (Some (Text t)) = Err (faults.HandleKind at)
told_class at n (Some (Object i)) = Err (faults.HandleKind at)

unfoldable pub told_object_at : ℕ → Table → Read ℕ
told_object_at at table = u4_at >>= λ n. given_by (told_object at n (entry_at table n))

unfoldable pub told_class_at : ℕ → Table → Read Kind
told_class_at at table = u4_at >>= λ n. given_by (told_class at n (entry_at table n))

-- ---- items of which one text is due

-- where two texts begin to differ
abbrev pub differs_at : List ℕ → List ℕ → ℕ
differs_at [] ys = 0
differs_at (x ∷ xs) [] = 0
differs_at (x ∷ xs) (y ∷ ys) = if x == y then suc (differs_at xs ys) else 0

-- what was read from `at` on is what is due, or else the fault is at the first byte that differs
abbrev pub as_due : ℕ → List ℕ → List ℕ → Result Bool StreamFault
as_due at due got = if bytes_eq got due then Ok true else Err (faults.Fields (at + differs_at got due))

-- It is read whole, and then compared.
unfoldable pub due_at : {A : Type 0} → Read A → List ℕ → Read Bool
due_at item due = from (λ at. spanned item >>= λ got. given_by (as_due at due got))
