-- The stack moves in each of their forms (JVM Specification 6.5). The operands are written the topmost first.
use Rattle.std.proofs.Common.{ℕ, List, [], ◌∷◌, ◌++◌, refl, arith}
use Rattle.std.specs.Prelude.{pos, negsuc}
use Rattle.nr_optable.specs.Rows.{all_rows}
use Rattle.nr_prog.specs.declared.body.instruction.Args.TheVariants as args
use Rattle.nr_linked.specs.declared.program.tables.Resolved.TheVariants as resolved
use Rattle.nr_model.specs.declared.value.Value.{Value}
use Rattle.nr_model.specs.declared.value.Value.TheVariants.{Int, Long, Null, Ref}
use Rattle.nr_model.specs.Heaps.{Heap}
use Rattle.nr_model.proofs.Examples.Machine.{instr, Leads, NoRule}

module _ (h : Heap) (n m : ℕ) where
  -- operands of one place, and longs; below them stands one more
  abbrev a : Value
  a = Int (pos n)

  abbrev b : Value
  b = Null

  abbrev c : Value
  c = Ref m

  abbrev d : Value
  d = Int (negsuc m)

  abbrev w : Value
  w = Long (pos n)

  abbrev x : Value
  x = Long (negsuc m)

  abbrev Moves : ℕ → List Value → List Value → Type 0
  Moves code before after = Leads (instr code args.Empty) resolved.Nothing h [] (before ++ Null ∷ []) 8 [] (after ++ Null ∷ []) []

  pop : Moves 87 (a ∷ []) []
  unfolding all_rows
  pop = (omega arith, (refl, refl))

  pop2_of_two : Moves 88 (a ∷ b ∷ []) []
  unfolding all_rows
  pop2_of_two = (omega arith, (omega arith, (refl, refl)))

  pop2_of_a_long : Moves 88 (w ∷ []) []
  unfolding all_rows
  pop2_of_a_long = (omega arith, (refl, refl))

  dup : Moves 89 (a ∷ []) (a ∷ a ∷ [])
  unfolding all_rows
  dup = (refl, refl)

  dup_x1 : Moves 90 (a ∷ b ∷ []) (a ∷ b ∷ a ∷ [])
  unfolding all_rows
  dup_x1 = (omega arith, (refl, refl))

  dup_x2_below_two : Moves 91 (a ∷ b ∷ c ∷ []) (a ∷ b ∷ c ∷ a ∷ [])
  unfolding all_rows
  dup_x2_below_two = (omega arith, (omega arith, (refl, refl)))

  dup_x2_below_a_long : Moves 91 (a ∷ w ∷ []) (a ∷ w ∷ a ∷ [])
  unfolding all_rows
  dup_x2_below_a_long = (omega arith, (refl, refl))

  dup2_of_two : Moves 92 (a ∷ b ∷ []) (a ∷ b ∷ a ∷ b ∷ [])
  unfolding all_rows
  dup2_of_two = (refl, refl)

  dup2_of_a_long : Moves 92 (w ∷ []) (w ∷ w ∷ [])
  unfolding all_rows
  dup2_of_a_long = (refl, refl)

  dup2_x1_of_two : Moves 93 (a ∷ b ∷ c ∷ []) (a ∷ b ∷ c ∷ a ∷ b ∷ [])
  unfolding all_rows
  dup2_x1_of_two = (omega arith, (refl, refl))

  dup2_x1_of_a_long : Moves 93 (w ∷ b ∷ []) (w ∷ b ∷ w ∷ [])
  unfolding all_rows
  dup2_x1_of_a_long = (omega arith, (refl, refl))

  dup2_x2_of_two_below_two : Moves 94 (a ∷ b ∷ c ∷ d ∷ []) (a ∷ b ∷ c ∷ d ∷ a ∷ b ∷ [])
  unfolding all_rows
  dup2_x2_of_two_below_two = (omega arith, (omega arith, (refl, refl)))

  dup2_x2_of_two_below_a_long : Moves 94 (a ∷ b ∷ x ∷ []) (a ∷ b ∷ x ∷ a ∷ b ∷ [])
  unfolding all_rows
  dup2_x2_of_two_below_a_long = (omega arith, (refl, refl))

  dup2_x2_of_a_long_below_two : Moves 94 (w ∷ b ∷ c ∷ []) (w ∷ b ∷ c ∷ w ∷ [])
  unfolding all_rows
  dup2_x2_of_a_long_below_two = (omega arith, (omega arith, (refl, refl)))

  dup2_x2_of_a_long_below_a_long : Moves 94 (w ∷ x ∷ []) (w ∷ x ∷ w ∷ [])
  unfolding all_rows
  dup2_x2_of_a_long_below_a_long = (omega arith, (refl, refl))

  swap : Moves 95 (a ∷ b ∷ []) (b ∷ a ∷ [])
  unfolding all_rows
  swap = (omega arith, (refl, refl))

  -- there is no rule for a long where one place is wanted

  no_pop_of_a_long : NoRule (instr 87 args.Empty) resolved.Nothing h [] (w ∷ [])
  unfolding all_rows
  no_pop_of_a_long e v r = r

  no_dup_of_a_long : NoRule (instr 89 args.Empty) resolved.Nothing h [] (w ∷ [])
  unfolding all_rows
  no_dup_of_a_long e v r = r

  no_swap_with_a_long : NoRule (instr 95 args.Empty) resolved.Nothing h [] (a ∷ w ∷ [])
  unfolding all_rows
  no_swap_with_a_long e v r = r

  no_dup_x1_below_a_long : NoRule (instr 90 args.Empty) resolved.Nothing h [] (a ∷ w ∷ [])
  unfolding all_rows
  no_dup_x1_below_a_long e v r = r
