-- Reading fields and methods, with the first fault: the project's own rule.
use Rattle.std.specs.Prelude.{ℕ, List, Option, None, codes}
use Rattle.nr_base.specs.Reader.{◌>>=◌, pure, times, sized}
use Rattle.nr_prog.specs.declared.pool.PoolEntry.{PoolEntry}
use Rattle.nr_prog.specs.declared.member.Field.{Field}
use Rattle.nr_prog.specs.declared.member.Handler.{Handler}
use Rattle.nr_prog.specs.declared.member.Code.{Code}
use Rattle.nr_prog.specs.declared.member.Method.{Method}
use Rattle.nr_classread.specs.declared.fault.ClassFault.TheVariants as faults
use Rattle.nr_classread.specs.Numbers.{Read, u2_at, u4_at, bytes_at}
use Rattle.nr_classread.specs.PoolReading.{list_at}
use Rattle.nr_classread.specs.AttributeReading.{attribute_at}
use Rattle.nr_classread.specs.MemberText.{index_or_zero}

-- ---- fields

-- the index is read whatever the length says, and then the length is looked at
abbrev pub index_at : ℕ → ℕ → Read ℕ
index_at at len = sized len (faults.AttrLength at) u2_at

abbrev pub constant_value_at : List PoolEntry → Option ℕ → Read (Option ℕ)
constant_value_at pool = attribute_at pool (codes "ConstantValue") index_at

unfoldable pub field_at : List PoolEntry → Read Field
field_at pool = do
  flags ← u2_at
  name ← u2_at
  desc ← u2_at
  count ← u2_at
  constant ← times (constant_value_at pool) count None
  pure (record { flags = flags; name = name; desc = desc; constant = index_or_zero constant })

-- ---- code

unfoldable pub handler_at : Read Handler
handler_at = do
  start ← u2_at
  end ← u2_at
  handler ← u2_at
  catch ← u2_at
  pure (record { start = start; end = end; handler = handler; catch_type = catch })

abbrev pub kept_at : ℕ → ℕ → Read (List ℕ)
kept_at at len = bytes_at len

abbrev pub stack_map_table_at : List PoolEntry → Option (List ℕ) → Read (Option (List ℕ))
stack_map_table_at pool = attribute_at pool (codes "StackMapTable") kept_at

unfoldable pub code_contents_at : List PoolEntry → Read Code
code_contents_at pool = do
  stack ← u2_at
  locals ← u2_at
  len ← u4_at
  bytes ← bytes_at len
  handlers ← list_at handler_at
  count ← u2_at
  maps ← times (stack_map_table_at pool) count None
  pure (record { max_stack = stack; max_locals = locals; bytes = bytes; handlers = handlers; maps = maps })

-- each item is read whatever the length says, and then the length is looked at
abbrev pub whole_code_at : List PoolEntry → ℕ → ℕ → Read Code
whole_code_at pool at len = sized len (faults.AttrLength at) (code_contents_at pool)

abbrev pub code_at : List PoolEntry → Option Code → Read (Option Code)
code_at pool = attribute_at pool (codes "Code") (whole_code_at pool)

-- ---- methods

unfoldable pub method_at : List PoolEntry → Read Method
method_at pool = do
  flags ← u2_at
  name ← u2_at
  desc ← u2_at
  count ← u2_at
  code ← times (code_at pool) count None
  pure (record { flags = flags; name = name; desc = desc; code = code })
