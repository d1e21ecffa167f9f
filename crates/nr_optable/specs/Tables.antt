-- Looking up a code, the order of the codes, and how many bytes of operands follow a code.
use Rattle.std.specs.Prelude.{ℕ, List, [], ◌∷◌, Option, Some, None, Bool, true, ◌&&◌, nat_lt}
use Rattle.nr_optable.specs.declared.table.Row.{Row}
use Rattle.nr_optable.specs.declared.table.Shape.{Shape}
use Rattle.nr_optable.specs.declared.table.Shape.TheVariants.{Plain, L1, S1, S2, P1, P2, B2, B4, Inc, Prim, Itf, Mul, Tab, Look, Wide}

-- each row's code is above the one before
abbrev pub rises_from : ℕ → List Row → Bool
rises_from low [] = true
rises_from low (r ∷ rs) = nat_lt low r.code && rises_from r.code rs

abbrev pub rises : List Row → Bool
rises [] = true
rises (r ∷ rs) = rises_from r.code rs

-- The bytes of the operands (JVM Specification 6.5, formats). A switch's depend on its place and its table, and
-- those of wide on the widened code.
abbrev pub operand_bytes : Shape → Option ℕ
operand_bytes Plain = Some 0
operand_bytes L1 = Some 1
operand_bytes S1 = Some 1
operand_bytes S2 = Some 2
operand_bytes P1 = Some 1
operand_bytes P2 = Some 2
operand_bytes B2 = Some 2
operand_bytes B4 = Some 4
operand_bytes Inc = Some 2
operand_bytes Prim = Some 1
operand_bytes Itf = Some 4
operand_bytes Mul = Some 3
operand_bytes Tab = None
operand_bytes Look = None
operand_bytes Wide = None
