-- Reading descriptors from left to right, with the first fault.
use Rattle.std.specs.Prelude.{ℕ, zero, suc, ◌-◌, List, [], ◌∷◌, ◌++◌, length, take, Bool, true, false, Option, Some, None, Result, Ok, Err, nat_lt, ◌==◌, ◌||◌, if◌then◌else◌}
use Rattle.std.specs.Int.{w8}
use Rattle.nr_base.specs.Reader.{Reader, ◌>>=◌, pure, refuse, choose, from, with_fault, while_more, spanned, whole}
use Rattle.nr_base.specs.Bytes.{number_at}
use Rattle.nr_base.specs.Names.{unit_at}
use Rattle.nr_base.specs.LegalNames.{is_reserved}
use Rattle.nr_base.specs.Descs.{slots}
use Rattle.nr_base.specs.declared.cur.Short.{Short}
use Rattle.nr_base.specs.declared.name.fault.NameFault.{NameFault}
use Rattle.nr_base.specs.declared.name.fault.NameFault.TheVariants as names
use Rattle.nr_base.specs.declared.desc.fault.DescFault.{DescFault}
use Rattle.nr_base.specs.declared.desc.fault.DescFault.TheVariants as faults
use Rattle.nr_base.specs.declared.desc.types.DescBase.{DescBase}
use Rattle.nr_base.specs.declared.desc.types.DescBase.TheVariants as bases
use Rattle.nr_base.specs.declared.desc.types.Desc.{Desc}
use Rattle.nr_base.specs.declared.desc.types.MethodDesc.{MethodDesc}

-- want of memory may come at any time
abbrev pub is_free : DescFault → Bool
is_free faults.NoMemory = true
is_free e = false

abbrev pub of_short : Short → DescFault
of_short s = faults.BadDesc s.at

abbrev pub of_name : NameFault → DescFault
of_name (names.BadUtf at) = faults.BadDesc at
of_name (names.ZeroChar at) = faults.BadDesc at
of_name names.NoMemory = faults.NoMemory

unfoldable pub byte_at : Reader DescFault ℕ
byte_at = with_fault of_short (number_at w8)

unfoldable pub letter_at : Reader DescFault ℕ
letter_at = with_fault of_name unit_at

-- A character of a class name or the `;` behind it, where a part of the name has begun or not: whether
-- the name goes on, and whether a part has begun then.
unfoldable pub class_letter_at : Bool → Reader DescFault (Bool × Bool)
class_letter_at begun = from (λ at. do
  letter ← letter_at
  choose (letter == 0x3B) (choose begun (pure (false, begun)) (refuse (faults.BadDesc at)))
      (choose (letter == 0x2F) (choose begun (pure (true, false)) (refuse (faults.BadDesc at)))
      (choose (is_reserved letter) (refuse (faults.BadDesc at)) (pure (true, true)))))

-- a class name and the `;` behind it
unfoldable pub class_at : Reader DescFault (List ℕ)
class_at = do
  text ← spanned (while_more class_letter_at false)
  pure (take (length text - 1) text)

-- The type that begins with a letter, which stands at `at`: Z, B, C, S, I, J, L.
unfoldable pub base_at : ℕ → ℕ → Reader DescFault DescBase
base_at at letter =
    choose (letter == 0x5A) (pure bases.Bool)
    (choose (letter == 0x42) (pure bases.Byte)
    (choose (letter == 0x43) (pure bases.Char)
    (choose (letter == 0x53) (pure bases.Short)
    (choose (letter == 0x49) (pure bases.Int)
    (choose (letter == 0x4A) (pure bases.Long)
    (choose (letter == 0x4C) (class_at >>= λ name. pure (bases.Object name))
    (choose (letter == 0x46 || letter == 0x44) (refuse (faults.FloatDesc at))
    (refuse (faults.BadDesc at)))))))))

-- A type that begins with a letter, which stands at `at`, where so many of 255 dimensions are left.
unfoldable pub type_at : ℕ → ℕ → ℕ → Reader DescFault Desc
type_at zero at letter =
    choose (letter == 0x5B) (refuse (faults.BadDesc at))
    (base_at at letter >>= λ base. pure (record { dims = 255; base = base }))
type_at (suc k) at letter =
    choose (letter == 0x5B) (from (λ next. byte_at >>= λ l. type_at k next l))
    (base_at at letter >>= λ base. pure (record { dims = 255 - suc k; base = base }))

unfoldable pub desc_at : Reader DescFault Desc
desc_at = from (λ at. byte_at >>= λ letter. type_at 255 at letter)

-- the descriptor of a text
abbrev pub desc_of : List ℕ → Result Desc DescFault
desc_of = whole faults.BadDesc desc_at

-- a parameter or the `)` behind the last: whether it was one, and the parameters then
unfoldable pub param_at : List Desc → Reader DescFault (Bool × List Desc)
param_at params = from (λ at. do
  letter ← byte_at
  choose (letter == 0x29) (pure (false, params))
      (type_at 255 at letter >>= λ d. pure (true, params ++ d ∷ [])))

unfoldable pub params_at : Reader DescFault (List Desc)
params_at = while_more param_at []

-- the type of the result, or V for none
unfoldable pub result_at : Reader DescFault (Option Desc)
result_at = from (λ at. do
  letter ← byte_at
  choose (letter == 0x56) (pure None) (type_at 255 at letter >>= λ d. pure (Some d)))

unfoldable pub method_at : Reader DescFault MethodDesc
method_at = from (λ at. do
  letter ← byte_at
  choose (letter == 0x28)
      (params_at >>= λ params. (result_at >>= λ result. pure (record { params = params; result = result })))
      (refuse (faults.BadDesc at)))

abbrev pub counted : Result MethodDesc DescFault → Result MethodDesc DescFault
counted (Ok m) = if nat_lt 254 (slots m.params) then Err (faults.TooManyArgs (slots m.params)) else Ok m
counted (Err e) = Err e

-- The method descriptor of a text. Its parameters are counted once it is read.
abbrev pub method_of : List ℕ → Result MethodDesc DescFault
method_of bytes = counted (whole faults.BadDesc method_at bytes)
