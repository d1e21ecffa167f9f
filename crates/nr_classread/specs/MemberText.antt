-- Fields, methods and their attributes as text: JVM Specification 4.5, 4.6 and 4.7.
use Rattle.std.specs.Prelude.{◌≡◌, ℕ, List, Option, Some, None, codes}
use Rattle.nr_base.specs.Grammar.{Grammar, run, give, Then, Times}
use Rattle.nr_prog.specs.declared.pool.PoolEntry.{PoolEntry}
use Rattle.nr_prog.specs.declared.member.Field.{Field}
use Rattle.nr_prog.specs.declared.member.Handler.{Handler}
use Rattle.nr_prog.specs.declared.member.Code.{Code}
use Rattle.nr_prog.specs.declared.member.Method.{Method}
use Rattle.nr_classread.specs.Numbers.{u2, u4}
use Rattle.nr_classread.specs.PoolText.{list}
use Rattle.nr_classread.specs.AttributeText.{attribute}

-- ---- fields (4.5)

-- the contents are an index (4.7.2)
abbrev pub constant_value : List PoolEntry → Option ℕ → Grammar (Option ℕ)
constant_value pool = attribute pool (codes "ConstantValue") u2

-- the index of the constant value, or 0 for none
abbrev pub index_or_zero : Option ℕ → ℕ
index_or_zero None = 0
index_or_zero (Some index) = index

-- access_flags, name_index, descriptor_index, attributes_count, attributes
abbrev pub field : List PoolEntry → Grammar Field
field pool =
    Then u2 (λ flags. Then u2 (λ name. Then u2 (λ desc.
    Then u2 (λ count. Then (Times (constant_value pool) count None) (λ constant.
    give (record { flags = flags; name = name; desc = desc; constant = index_or_zero constant }))))))

-- ---- code (4.7.3)

-- start_pc, end_pc, handler_pc, catch_type
abbrev pub handler : Grammar Handler
handler =
    Then u2 (λ start. Then u2 (λ end. Then u2 (λ handler. Then u2 (λ catch.
    give (record { start = start; end = end; handler = handler; catch_type = catch })))))

-- the contents as they are
abbrev pub kept : Grammar (List ℕ)
kept contents text = text ≡ contents

-- frame maps (4.7.4), which are kept as they are
abbrev pub stack_map_table : List PoolEntry → Option (List ℕ) → Grammar (Option (List ℕ))
stack_map_table pool = attribute pool (codes "StackMapTable") kept

-- max_stack, max_locals, code_length, code, exception_table, attributes_count, attributes
abbrev pub code_contents : List PoolEntry → Grammar Code
code_contents pool =
    Then u2 (λ stack. Then u2 (λ locals. Then u4 (λ len. Then (run len) (λ bytes.
    Then (list handler) (λ handlers.
    Then u2 (λ count. Then (Times (stack_map_table pool) count None) (λ maps.
    give (record { max_stack = stack; max_locals = locals; bytes = bytes; handlers = handlers; maps = maps }))))))))

abbrev pub code : List PoolEntry → Option Code → Grammar (Option Code)
code pool = attribute pool (codes "Code") (code_contents pool)

-- ---- methods (4.6)

-- access_flags, name_index, descriptor_index, attributes_count, attributes
abbrev pub method : List PoolEntry → Grammar Method
method pool =
    Then u2 (λ flags. Then u2 (λ name. Then u2 (λ desc.
    Then u2 (λ count. Then (Times (code pool) count None) (λ code.
    give (record { flags = flags; name = name; desc = desc; code = code }))))))
