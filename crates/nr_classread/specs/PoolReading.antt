-- Reading the constant pool, with the first fault: the project's own rule.
use Rattle.std.specs.Prelude.{ℕ, ◌-◌, List, [], ◌∷◌, ◌++◌, Bool, false, ◌==◌}
use Rattle.std.specs.Int.{w32, w64, cast_signed}
use Rattle.nr_base.specs.Reader.{◌>>=◌, pure, refuse, choose, from, with_fault, times, onto}
use Rattle.nr_base.specs.Bytes.{run_at}
use Rattle.nr_prog.specs.declared.pool.PoolEntry.{PoolEntry}
use Rattle.nr_prog.specs.declared.pool.PoolEntry.TheVariants.{Utf8, Integer, Float, Long, Double, Class, Str, FieldRef, MethodRef, InterfaceMethodRef, NameAndType, Unused}
use Rattle.nr_prog.specs.Pool.{is_wide}
use Rattle.nr_classread.specs.declared.fault.ClassFault.TheVariants as faults
use Rattle.nr_classread.specs.Numbers.{Read, u1_at, u2_at, u4_at, u8_at}

-- a length and so many bytes, which are one item
unfoldable pub utf8_at : Read (List ℕ)
utf8_at = from (λ at. u2_at >>= λ len. with_fault (λ s. faults.Short at) (run_at len))

unfoldable pub pair_at : Read (ℕ × ℕ)
pair_at = do
  a ← u2_at
  b ← u2_at
  pure (a, b)

-- what stands behind a tag, which stands at `at`
unfoldable pub body_at : ℕ → ℕ → Read PoolEntry
body_at at tag =
    choose (tag == 1) (utf8_at >>= λ bytes. pure (Utf8 bytes))
    (choose (tag == 3) (u4_at >>= λ bits. pure (Integer (cast_signed w32 bits)))
    (choose (tag == 4) (u4_at >>= λ bits. pure (Float bits))
    (choose (tag == 5) (u8_at >>= λ bits. pure (Long (cast_signed w64 bits)))
    (choose (tag == 6) (u8_at >>= λ bits. pure (Double bits))
    (choose (tag == 7) (u2_at >>= λ name. pure (Class name))
    (choose (tag == 8) (u2_at >>= λ bytes. pure (Str bytes))
    (choose (tag == 9) (pair_at >>= λ p. pure (FieldRef p.0 p.1))
    (choose (tag == 10) (pair_at >>= λ p. pure (MethodRef p.0 p.1))
    (choose (tag == 11) (pair_at >>= λ p. pure (InterfaceMethodRef p.0 p.1))
    (choose (tag == 12) (pair_at >>= λ p. pure (NameAndType p.0 p.1))
    (refuse (faults.PoolTag at tag))))))))))))

unfoldable pub entry_at : Read PoolEntry
entry_at = from (λ at. u1_at >>= λ tag. body_at at tag)

-- the entries so far, and whether the last is a long or a double
abbrev pub Entries : Type 0
Entries = List PoolEntry × Bool

-- The entry of the next index. The place after a long or a double takes no byte.
unfoldable pub next_at : Entries → Read Entries
next_at s =
    choose s.1 (pure (s.0 ++ Unused ∷ [], false))
    (entry_at >>= λ e. pure (s.0 ++ e ∷ [], is_wide e))

unfoldable pub pool_at : Read (List PoolEntry)
pool_at = do
  count ← u2_at
  s ← times next_at (count - 1) ([], false)
  pure s.0

-- a count and so many items
unfoldable pub list_at : {A : Type 0} → Read A → Read (List A)
list_at item = do
  count ← u2_at
  times (onto item) count []
