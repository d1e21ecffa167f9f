-- The instruction at an offset of a method's code.
use Rattle.std.specs.Prelude.{ℕ, List, [], ◌∷◌, Option, Some, None, ◌==◌, if◌then◌else◌}
use Rattle.std.specs.Option.{option_and_then}
use Rattle.nr_prog.specs.declared.body.instruction.Instr.{Instr}
use Rattle.nr_linked.specs.declared.program.tables.MethodInfo.{MethodInfo}
use Rattle.nr_linked.specs.declared.program.tables.Resolved.{Resolved}

pub record Site : Type 0 where
  pub instr : Instr
  -- what linking found for it
  pub resolved : Resolved
  -- the offset of the next instruction
  pub next : Option ℕ

abbrev pub first_offset : List Instr → Option ℕ
first_offset [] = None
first_offset (i ∷ is) = Some i.at

-- the first instruction that stands at the offset
abbrev pub site_among : List Instr → List Resolved → ℕ → Option Site
site_among [] rs offset = None
site_among (i ∷ is) [] offset = None
site_among (i ∷ is) (r ∷ rs) offset =
    if i.at == offset then Some (record { instr = i; resolved = r; next = first_offset is })
    else site_among is rs offset

abbrev pub site_at : MethodInfo → ℕ → Option Site
site_at m offset = option_and_then (λ body. site_among body.instrs m.resolved offset) m.body
