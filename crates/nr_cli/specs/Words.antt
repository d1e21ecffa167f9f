-- The words of the command line. The project's own rules.
use Rattle.std.specs.Prelude.{ℕ, ◌-◌, ◌^◌, ◌&&◌, ◌||◌, ◌==◌, not, Bool, List, [], ◌∷◌, ◌++◌, length, map, drop, Option, None, Some, codes, cond, nat_le, slice_index, ℤ, pos, neg_ℤ}
use Rattle.std.specs.Char.{is_ascii_digit, is_ascii_alphanumeric}
use Rattle.std.specs.List.{list_all, list_any}
use Rattle.std.specs.Str.{bytes_eq}
use Rattle.std.specs.Str.Parse.{digits_value}
use Rattle.nr_prog.specs.LegalTests.{is_class_text}
use Rattle.nr_cli.specs.declared.command.RunCommand.{RunCommand}

-- decimal digits with no zero in front, but for the digit 0 alone
abbrev pub is_number : List ℕ → Bool
is_number w = nat_le 1 (length w) && (list_all is_ascii_digit w && (length w == 1 || not (slice_index w 0 == 48)))

-- the number that the digits write, where it is at least `low` and at most `high`
abbrev pub number_within : ℕ → ℕ → List ℕ → Option ℕ
number_within low high w = cond (is_number w && (nat_le low (digits_value 10 w) && nat_le (digits_value 10 w) high)) (Some (digits_value 10 w)) None

-- how many steps a run may make: 1 to 1,000,000,000
abbrev pub budget_of : List ℕ → Option ℕ
budget_of w = number_within 1 1000000000 w

abbrev pub positive : Option ℕ → Option ℤ
positive None = None
positive (Some n) = Some (pos n)

abbrev pub negative : Option ℕ → Option ℤ
negative None = None
negative (Some n) = Some (neg_ℤ (pos n))

-- A number of `main`'s array: from -2^31 to 2^31 - 1, negative ones with `-` in front.
abbrev pub int_of : List ℕ → Option ℤ
int_of w = cond (slice_index w 0 == 45) (negative (number_within 1 (2 ^ 31) (drop 1 w))) (positive (number_within 0 (2 ^ 31 - 1) w))

abbrev pub ints_after : List ℤ → Option ℤ → (List ℤ → Option (List ℤ)) → Option (List ℤ)
ints_after ints None more = None
ints_after ints (Some n) more = more (ints ++ n ∷ [])

-- the numbers before, and those of these words
abbrev pub ints_onto : List (List ℕ) → List ℤ → Option (List ℤ)
ints_onto [] ints = Some ints
ints_onto (w ∷ ws) ints = ints_after ints (int_of w) (ints_onto ws)

-- the numbers of at most 1,000 words
abbrev pub ints_of : List (List ℕ) → Option (List ℤ)
ints_of ws = cond (nat_le (length ws) 1000) (ints_onto ws []) None

-- a folder has a name of 1 to 255 bytes, and so has a class
abbrev pub fits_word : List ℕ → Bool
fits_word w = nat_le 1 (length w) && nat_le (length w) 255

abbrev pub slashed : List ℕ → List ℕ
slashed w = map (λ c. cond (c == 46) 47 c) w

-- an ASCII letter, a digit, or one of these
abbrev pub is_name_byte : ℕ → Bool
is_name_byte c = is_ascii_alphanumeric c || list_any (λ d. d == c) (codes "_$/.")

-- The internal form of a class name of such bytes, each `.` of which is read as `/` (JVM Specification 4.2.1).
abbrev pub class_name_of : List ℕ → Option (List ℕ)
class_name_of w = cond (fits_word w && (list_all is_name_byte w && is_class_text (slashed w))) (Some (slashed w)) None

-- `run`: the class `main` of the folder `dir` is to be run for at most `budget` steps on an array of `ints`
pub record Command : Type 0 where
  pub dir : List ℕ
  pub main : List ℕ
  pub budget : ℕ
  pub ints : List ℤ

abbrev pub run_command : List ℕ → Option (List ℕ) → Option ℕ → Option (List ℤ) → Option Command
run_command dir (Some main) (Some budget) (Some ints) = Some (record { dir = dir; main = main; budget = budget; ints = ints })
run_command dir main budget ints = None

-- `run DIR MAIN BUDGET`, then 0 to 1,000 words INT; there is no other command
abbrev pub command_of : List (List ℕ) → Option Command
command_of (run ∷ dir ∷ main ∷ budget ∷ ints) =
    cond (bytes_eq run (codes "run") && fits_word dir) (run_command dir (class_name_of main) (budget_of budget) (ints_of ints)) None
command_of words = None

-- what a command of the program stands for
abbrev pub told : RunCommand → Command
told c = record { dir = c.dir.now; main = c.main; budget = c.budget; ints = c.ints }
