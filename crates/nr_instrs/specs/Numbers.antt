-- The numbers of an instruction at an offset, as they are read: JVM Specification 6.5. The project's own rule says that
-- one that doesn't fit is told at the instruction's offset.
use Rattle.std.specs.Prelude.{ℕ, ℤ, pos, ◌+ℤ◌}
use Rattle.std.specs.Int.{Width, cast_signed}
use Rattle.nr_base.specs.Reader.{Reader, ◌>>=◌, pure, with_fault}
use Rattle.nr_base.specs.Bytes.{number_at, run_at}
use Rattle.nr_instrs.specs.declared.fault.CodeFault.{CodeFault}
use Rattle.nr_instrs.specs.Faults.{short_of}

abbrev pub Read : Type 0 → Type 0
Read A = Reader CodeFault A

unfoldable pub unsigned_at : Width → ℕ → Read ℕ
unsigned_at w at = with_fault (short_of at) (number_at w)

unfoldable pub signed_at : Width → ℕ → Read ℤ
signed_at w at = unsigned_at w at >>= λ bits. pure (cast_signed w bits)

-- the offset of a branch's target, which may lie anywhere
unfoldable pub branch_at : Width → ℕ → Read ℤ
branch_at w at = signed_at w at >>= λ offset. pure (pos at +ℤ offset)

unfoldable pub skipped_at : ℕ → ℕ → Read (Unit {0})
skipped_at n at = with_fault (short_of at) (run_at n) >>= λ bytes. pure tt
