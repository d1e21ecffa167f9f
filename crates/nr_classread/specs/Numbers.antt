-- The numbers of class files, as text and as they are read: JVM Specification 4.
use Rattle.std.specs.Prelude.{ℕ, List}
use Rattle.std.specs.Int.{w8, w16, w32, w64}
use Rattle.nr_base.specs.Reader.{Reader, with_fault}
use Rattle.nr_base.specs.Bytes.{number_at, run_at}
use Rattle.nr_base.specs.Grammar.{Grammar, number}
use Rattle.nr_classread.specs.declared.fault.ClassFault.{ClassFault}
use Rattle.nr_classread.specs.Faults.{of_short}

abbrev pub u1 : Grammar ℕ
u1 = number w8

abbrev pub u2 : Grammar ℕ
u2 = number w16

abbrev pub u4 : Grammar ℕ
u4 = number w32

abbrev pub u8 : Grammar ℕ
u8 = number w64

-- ---- reading them, each with its own offset as its fault

abbrev pub Read : Type 0 → Type 0
Read A = Reader ClassFault A

abbrev pub u1_at : Read ℕ
u1_at = with_fault of_short (number_at w8)

abbrev pub u2_at : Read ℕ
u2_at = with_fault of_short (number_at w16)

abbrev pub u4_at : Read ℕ
u4_at = with_fault of_short (number_at w32)

abbrev pub u8_at : Read ℕ
u8_at = with_fault of_short (number_at w64)

abbrev pub bytes_at : ℕ → Read (List ℕ)
bytes_at n = with_fault of_short (run_at n)
