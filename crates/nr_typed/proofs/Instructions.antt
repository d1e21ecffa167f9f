-- Each instruction of the table: where its rule passes, its script fits.
use Rattle.std.proofs.Common.{◌≡◌, ℕ, zero, suc, List, [], ◌∷◌, refl, subst, not, arith, T}
use Rattle.std.specs.Prelude.{pos, ◌-ℤ◌, ◌-◌, Option, Some, Contains}
use Rattle.std.specs.Int.{w8, w16, w32, w64, int_wrap, int_bit_and, int_bit_or, int_bit_xor}
use Rattle.nr_optable.specs.Arithmetic.{add, subtract, multiply, divide, remainder, negate, shift_left, shift_right, shift_right_unsigned, to_char, compare, is_equal, is_unequal, is_less, is_at_least, is_greater, is_at_most}
use Rattle.nr_optable.specs.Rows.{all_rows}
use Rattle.nr_optable.specs.declared.table.Row.{Row}
use Rattle.nr_optable.specs.declared.table.Shape.TheVariants as shapes
use Rattle.nr_optable.specs.declared.table.Letter.TheVariants as letters
use Rattle.nr_prog.specs.declared.body.instruction.Args.{Args}
use Rattle.nr_linked.specs.declared.program.kind.Base.TheVariants as bases
use Rattle.nr_linked.specs.declared.program.tables.MethodInfo.{MethodInfo}
use Rattle.nr_linked.specs.declared.program.tables.ProgramTables.{ProgramTables}
use Rattle.nr_linked.specs.declared.program.tables.Resolved.{Resolved}
use Rattle.nr_linked.specs.declared.program.types.VType.TheVariants as types
use Rattle.nr_linked.specs.Programs.{method_at}
use Rattle.nr_linked.specs.Sites.{Site, site_at}
use Rattle.nr_linked.specs.Subtypes.{is_above}
use Rattle.nr_linked.specs.TypingFrames.{TypeFrame}
use Rattle.nr_linked.specs.TypingChecks.{Leaves}
use Rattle.nr_linked.specs.ArrayKinds.{Of, Bytes, References}
use Rattle.nr_linked.specs.TypingRules.{type_op}
use Rattle.nr_linked.specs.TypingFacts.{TypingFacts, SiteFacts}
use Rattle.nr_model.specs.Heaps.{Heap}
use Rattle.nr_model.specs.Scripts.{PlainInt, PlainLong, PlainNull, GoTo, Within, Ending}
use Rattle.nr_model.specs.Throws.{onward}
use Rattle.nr_model.specs.ValueRules as values
use Rattle.nr_model.specs.Rules.{script}
use Rattle.nr_model.specs.Types.{operand_tys, local_tys}
use Rattle.nr_typed.specs.Fits.{Fits}
use Rattle.nr_typed.proofs.Assigning.{yes}
use Rattle.nr_typed.proofs.Owed.{Owed}
use Rattle.nr_typed.proofs.Numbers.{nothing, pushes, two_ints, two_longs, compares, int_to_int, int_to_long, long_to_int, long_to_long, shifts_int, shifts_long, tests_int, tests_ints, tests_same, tests_null, jumps, divides_ints, divides_longs, returns_nothing, returns_top}
use Rattle.nr_typed.proofs.Moves.{pop_fits, pop2_fits, dup_fits, dup_x1_fits, dup_x2_fits, dup2_fits, dup2_x1_fits, dup2_x2_fits, swap_fits}
use Rattle.nr_typed.proofs.Elements.{base_kept, bytes_kept, int_long, char_long, short_long}
use Rattle.nr_typed.proofs.Objects.{throws_top}
use Rattle.nr_typed.proofs.Arrays.{array_loads, int_stores, long_stores, reference_stores, lengths}
use Rattle.nr_typed.proofs.Shapes.{plain_constant, number_constant, int_constant, long_constant, numbered_loads, numbered_stores, incremented, widened, short_branch, long_branch, on_target, switched, found_gets, found_puts, found_casts, found_asks, found_makes, found_arrays}
use Rattle.nr_typed.proofs.Invokes.{invokes_virtual, invokes_special, invokes_static, invokes_interface}

-- what holds of each row of a list
infixr 60 ◌∷∷◌
data Each (C : Row → Type 0) : List Row → Type 0 where
  none_left : Each C []
  ◌∷∷◌ : {r : Row} {rs : List Row} → C r → Each C rs → Each C (r ∷ rs)

each_of : (C : Row → Type 0) (rs : List Row) → Each C rs → (r : Row) → Contains rs r → C r
each_of C rs none_left r c = absurd (let l = c.1 in omega arith)
each_of C rs (here ∷∷ more) r (zero, l, e) = subst C e here
each_of C rs (here ∷∷ more) r (suc k, l, e) = each_of C _ more r (k, omega arith, e)

module _ (P : ProgramTables) (facts : TypingFacts P) (own_number : ℕ) (own : MethodInfo) (is_own : method_at P own_number ≡ Some own) (own_above : T (is_above P own.«class» own.«class»))
    (F G : TypeFrame) (h0 : Heap) (Q : Ending → Within → Type 0) where
  -- the instruction of the row at an offset, with its operands, what linking found, and the next offset
  abbrev site : ℕ → Row → Args → Resolved → Option ℕ → Site
  site at row a r n = record { instr = record { at = at; row = row; args = a }; resolved = r; next = n }

  abbrev Serves : Row → Type 0
  Serves row = (a : Args) (r : Resolved) (at : ℕ) (n : Option ℕ) → SiteFacts P own.«class» (site at row a r n) → Owed P own F G h0 Q (site at row a r n) → site_at own at ≡ Some (site at row a r n)
      → type_op P own (site at row a r n) F ≡ Leaves G → Fits P h0 Q (script P own (site at row a r n)) (local_tys own own.max_locals F.locals) (operand_tys own F.operands)

  served : Each Serves all_rows
  unfolding all_rows
  served =
      (λ a r at n f o h e. nothing P facts own F G h0 Q (onward n) (o.next refl) e) ∷∷  -- nop
      (λ a r at n f o h e. pushes P facts own F G h0 Q PlainNull types.Null (onward n) (o.next refl) (λ x. tt) e) ∷∷  -- aconst_null
      (λ a r at n f o h e. plain_constant P facts own F G h0 Q 2 a (onward n) (yes _ f.shaped) (pushes P facts own F G h0 Q (PlainInt (pos 2 -ℤ pos 3)) types.Int (onward n) (o.next refl) (λ x. tt) e)) ∷∷  -- iconst_m1
      (λ a r at n f o h e. plain_constant P facts own F G h0 Q 3 a (onward n) (yes _ f.shaped) (pushes P facts own F G h0 Q (PlainInt (pos 3 -ℤ pos 3)) types.Int (onward n) (o.next refl) (λ x. tt) e)) ∷∷  -- iconst_0
      (λ a r at n f o h e. plain_constant P facts own F G h0 Q 4 a (onward n) (yes _ f.shaped) (pushes P facts own F G h0 Q (PlainInt (pos 4 -ℤ pos 3)) types.Int (onward n) (o.next refl) (λ x. tt) e)) ∷∷  -- iconst_1
      (λ a r at n f o h e. plain_constant P facts own F G h0 Q 5 a (onward n) (yes _ f.shaped) (pushes P facts own F G h0 Q (PlainInt (pos 5 -ℤ pos 3)) types.Int (onward n) (o.next refl) (λ x. tt) e)) ∷∷  -- iconst_2
      (λ a r at n f o h e. plain_constant P facts own F G h0 Q 6 a (onward n) (yes _ f.shaped) (pushes P facts own F G h0 Q (PlainInt (pos 6 -ℤ pos 3)) types.Int (onward n) (o.next refl) (λ x. tt) e)) ∷∷  -- iconst_3
      (λ a r at n f o h e. plain_constant P facts own F G h0 Q 7 a (onward n) (yes _ f.shaped) (pushes P facts own F G h0 Q (PlainInt (pos 7 -ℤ pos 3)) types.Int (onward n) (o.next refl) (λ x. tt) e)) ∷∷  -- iconst_4
      (λ a r at n f o h e. plain_constant P facts own F G h0 Q 8 a (onward n) (yes _ f.shaped) (pushes P facts own F G h0 Q (PlainInt (pos 8 -ℤ pos 3)) types.Int (onward n) (o.next refl) (λ x. tt) e)) ∷∷  -- iconst_5
      (λ a r at n f o h e. plain_constant P facts own F G h0 Q 9 a (onward n) (yes _ f.shaped) (pushes P facts own F G h0 Q (PlainLong (pos (9 - 9))) types.Long (onward n) (o.next refl) (λ x. tt) e)) ∷∷  -- lconst_0
      (λ a r at n f o h e. plain_constant P facts own F G h0 Q 10 a (onward n) (yes _ f.shaped) (pushes P facts own F G h0 Q (PlainLong (pos (10 - 9))) types.Long (onward n) (o.next refl) (λ x. tt) e)) ∷∷  -- lconst_1
      (λ a r at n f o h e. number_constant P facts own F G h0 Q shapes.S1 16 a (onward n) tt (yes _ f.shaped) (o.next refl) e) ∷∷  -- bipush
      (λ a r at n f o h e. number_constant P facts own F G h0 Q shapes.S2 17 a (onward n) tt (yes _ f.shaped) (o.next refl) e) ∷∷  -- sipush
      (λ a r at n f o h e. int_constant P facts own F G h0 Q r (onward n) (yes _ f.constant) (o.next refl) e) ∷∷  -- ldc
      (λ a r at n f o h e. int_constant P facts own F G h0 Q r (onward n) (yes _ f.constant) (o.next refl) e) ∷∷  -- ldc_w
      (λ a r at n f o h e. long_constant P facts own F G h0 Q r (onward n) (yes _ f.constant) (o.next refl) e) ∷∷  -- ldc2_w
      (λ a r at n f o h e. numbered_loads P facts own F G h0 Q letters.I 26 21 a (onward n) (o.next refl) e) ∷∷  -- iload
      (λ a r at n f o h e. numbered_loads P facts own F G h0 Q letters.J 30 22 a (onward n) (o.next refl) e) ∷∷  -- lload
      (λ a r at n f o h e. numbered_loads P facts own F G h0 Q letters.R 42 25 a (onward n) (o.next refl) e) ∷∷  -- aload
      (λ a r at n f o h e. numbered_loads P facts own F G h0 Q letters.I 26 26 a (onward n) (o.next refl) e) ∷∷  -- iload_0
      (λ a r at n f o h e. numbered_loads P facts own F G h0 Q letters.I 26 27 a (onward n) (o.next refl) e) ∷∷  -- iload_1
      (λ a r at n f o h e. numbered_loads P facts own F G h0 Q letters.I 26 28 a (onward n) (o.next refl) e) ∷∷  -- iload_2
      (λ a r at n f o h e. numbered_loads P facts own F G h0 Q letters.I 26 29 a (onward n) (o.next refl) e) ∷∷  -- iload_3
      (λ a r at n f o h e. numbered_loads P facts own F G h0 Q letters.J 30 30 a (onward n) (o.next refl) e) ∷∷  -- lload_0
      (λ a r at n f o h e. numbered_loads P facts own F G h0 Q letters.J 30 31 a (onward n) (o.next refl) e) ∷∷  -- lload_1
      (λ a r at n f o h e. numbered_loads P facts own F G h0 Q letters.J 30 32 a (onward n) (o.next refl) e) ∷∷  -- lload_2
      (λ a r at n f o h e. numbered_loads P facts own F G h0 Q letters.J 30 33 a (onward n) (o.next refl) e) ∷∷  -- lload_3
      (λ a r at n f o h e. numbered_loads P facts own F G h0 Q letters.R 42 42 a (onward n) (o.next refl) e) ∷∷  -- aload_0
      (λ a r at n f o h e. numbered_loads P facts own F G h0 Q letters.R 42 43 a (onward n) (o.next refl) e) ∷∷  -- aload_1
      (λ a r at n f o h e. numbered_loads P facts own F G h0 Q letters.R 42 44 a (onward n) (o.next refl) e) ∷∷  -- aload_2
      (λ a r at n f o h e. numbered_loads P facts own F G h0 Q letters.R 42 45 a (onward n) (o.next refl) e) ∷∷  -- aload_3
      (λ a r at n f o h e. array_loads P facts own F G h0 Q _ o (Of bases.Int) (onward n) (o.next refl) e) ∷∷  -- iaload
      (λ a r at n f o h e. array_loads P facts own F G h0 Q _ o (Of bases.Long) (onward n) (o.next refl) e) ∷∷  -- laload
      (λ a r at n f o h e. array_loads P facts own F G h0 Q _ o References (onward n) (o.next refl) e) ∷∷  -- aaload
      (λ a r at n f o h e. array_loads P facts own F G h0 Q _ o Bytes (onward n) (o.next refl) e) ∷∷  -- baload
      (λ a r at n f o h e. array_loads P facts own F G h0 Q _ o (Of bases.Char) (onward n) (o.next refl) e) ∷∷  -- caload
      (λ a r at n f o h e. array_loads P facts own F G h0 Q _ o (Of bases.Short) (onward n) (o.next refl) e) ∷∷  -- saload
      (λ a r at n f o h e. numbered_stores P facts own F G h0 Q letters.I 59 54 a (onward n) (o.next refl) e) ∷∷  -- istore
      (λ a r at n f o h e. numbered_stores P facts own F G h0 Q letters.J 63 55 a (onward n) (o.next refl) e) ∷∷  -- lstore
      (λ a r at n f o h e. numbered_stores P facts own F G h0 Q letters.R 75 58 a (onward n) (o.next refl) e) ∷∷  -- astore
      (λ a r at n f o h e. numbered_stores P facts own F G h0 Q letters.I 59 59 a (onward n) (o.next refl) e) ∷∷  -- istore_0
      (λ a r at n f o h e. numbered_stores P facts own F G h0 Q letters.I 59 60 a (onward n) (o.next refl) e) ∷∷  -- istore_1
      (λ a r at n f o h e. numbered_stores P facts own F G h0 Q letters.I 59 61 a (onward n) (o.next refl) e) ∷∷  -- istore_2
      (λ a r at n f o h e. numbered_stores P facts own F G h0 Q letters.I 59 62 a (onward n) (o.next refl) e) ∷∷  -- istore_3
      (λ a r at n f o h e. numbered_stores P facts own F G h0 Q letters.J 63 63 a (onward n) (o.next refl) e) ∷∷  -- lstore_0
      (λ a r at n f o h e. numbered_stores P facts own F G h0 Q letters.J 63 64 a (onward n) (o.next refl) e) ∷∷  -- lstore_1
      (λ a r at n f o h e. numbered_stores P facts own F G h0 Q letters.J 63 65 a (onward n) (o.next refl) e) ∷∷  -- lstore_2
      (λ a r at n f o h e. numbered_stores P facts own F G h0 Q letters.J 63 66 a (onward n) (o.next refl) e) ∷∷  -- lstore_3
      (λ a r at n f o h e. numbered_stores P facts own F G h0 Q letters.R 75 75 a (onward n) (o.next refl) e) ∷∷  -- astore_0
      (λ a r at n f o h e. numbered_stores P facts own F G h0 Q letters.R 75 76 a (onward n) (o.next refl) e) ∷∷  -- astore_1
      (λ a r at n f o h e. numbered_stores P facts own F G h0 Q letters.R 75 77 a (onward n) (o.next refl) e) ∷∷  -- astore_2
      (λ a r at n f o h e. numbered_stores P facts own F G h0 Q letters.R 75 78 a (onward n) (o.next refl) e) ∷∷  -- astore_3
      (λ a r at n f o h e. int_stores P facts own F G h0 Q _ o (Of bases.Int) (λ x p h v. base_kept P facts bases.Int x int_long p h v) (onward n) (o.next refl) e) ∷∷  -- iastore
      (λ a r at n f o h e. long_stores P facts own F G h0 Q _ o (onward n) (o.next refl) e) ∷∷  -- lastore
      (λ a r at n f o h e. reference_stores P facts own F G h0 Q _ o (onward n) (o.next refl) e) ∷∷  -- aastore
      (λ a r at n f o h e. int_stores P facts own F G h0 Q _ o Bytes (λ x p h v. bytes_kept P facts x p h v) (onward n) (o.next refl) e) ∷∷  -- bastore
      (λ a r at n f o h e. int_stores P facts own F G h0 Q _ o (Of bases.Char) (λ x p h v. base_kept P facts bases.Char x char_long p h v) (onward n) (o.next refl) e) ∷∷  -- castore
      (λ a r at n f o h e. int_stores P facts own F G h0 Q _ o (Of bases.Short) (λ x p h v. base_kept P facts bases.Short x short_long p h v) (onward n) (o.next refl) e) ∷∷  -- sastore
      (λ a r at n f o h e. pop_fits P facts own F G h0 Q (onward n) (o.next refl) e) ∷∷  -- pop
      (λ a r at n f o h e. pop2_fits P facts own F G h0 Q (onward n) (o.next refl) e) ∷∷  -- pop2
      (λ a r at n f o h e. dup_fits P facts own F G h0 Q (onward n) (o.next refl) e) ∷∷  -- dup
      (λ a r at n f o h e. dup_x1_fits P facts own F G h0 Q (onward n) (o.next refl) e) ∷∷  -- dup_x1
      (λ a r at n f o h e. dup_x2_fits P facts own F G h0 Q (onward n) (o.next refl) e) ∷∷  -- dup_x2
      (λ a r at n f o h e. dup2_fits P facts own F G h0 Q (onward n) (o.next refl) e) ∷∷  -- dup2
      (λ a r at n f o h e. dup2_x1_fits P facts own F G h0 Q (onward n) (o.next refl) e) ∷∷  -- dup2_x1
      (λ a r at n f o h e. dup2_x2_fits P facts own F G h0 Q (onward n) (o.next refl) e) ∷∷  -- dup2_x2
      (λ a r at n f o h e. swap_fits P facts own F G h0 Q (onward n) (o.next refl) e) ∷∷  -- swap
      (λ a r at n f o h e. two_ints P facts own F G h0 Q (add w32) (onward n) (o.next refl) e) ∷∷  -- iadd
      (λ a r at n f o h e. two_longs P facts own F G h0 Q (add w64) (onward n) (o.next refl) e) ∷∷  -- ladd
      (λ a r at n f o h e. two_ints P facts own F G h0 Q (subtract w32) (onward n) (o.next refl) e) ∷∷  -- isub
      (λ a r at n f o h e. two_longs P facts own F G h0 Q (subtract w64) (onward n) (o.next refl) e) ∷∷  -- lsub
      (λ a r at n f o h e. two_ints P facts own F G h0 Q (multiply w32) (onward n) (o.next refl) e) ∷∷  -- imul
      (λ a r at n f o h e. two_longs P facts own F G h0 Q (multiply w64) (onward n) (o.next refl) e) ∷∷  -- lmul
      (λ a r at n f o h e. divides_ints P facts own F G h0 Q _ o (divide w32) (onward n) (o.next refl) e) ∷∷  -- idiv
      (λ a r at n f o h e. divides_longs P facts own F G h0 Q _ o (divide w64) (onward n) (o.next refl) e) ∷∷  -- ldiv
      (λ a r at n f o h e. divides_ints P facts own F G h0 Q _ o remainder (onward n) (o.next refl) e) ∷∷  -- irem
      (λ a r at n f o h e. divides_longs P facts own F G h0 Q _ o remainder (onward n) (o.next refl) e) ∷∷  -- lrem
      (λ a r at n f o h e. int_to_int P facts own F G h0 Q (negate w32) (onward n) (o.next refl) e) ∷∷  -- ineg
      (λ a r at n f o h e. long_to_long P facts own F G h0 Q (negate w64) (onward n) (o.next refl) e) ∷∷  -- lneg
      (λ a r at n f o h e. shifts_int P facts own F G h0 Q (shift_left w32) (onward n) (o.next refl) e) ∷∷  -- ishl
      (λ a r at n f o h e. shifts_long P facts own F G h0 Q (shift_left w64) (onward n) (o.next refl) e) ∷∷  -- lshl
      (λ a r at n f o h e. shifts_int P facts own F G h0 Q (shift_right w32) (onward n) (o.next refl) e) ∷∷  -- ishr
      (λ a r at n f o h e. shifts_long P facts own F G h0 Q (shift_right w64) (onward n) (o.next refl) e) ∷∷  -- lshr
      (λ a r at n f o h e. shifts_int P facts own F G h0 Q (shift_right_unsigned w32) (onward n) (o.next refl) e) ∷∷  -- iushr
      (λ a r at n f o h e. shifts_long P facts own F G h0 Q (shift_right_unsigned w64) (onward n) (o.next refl) e) ∷∷  -- lushr
      (λ a r at n f o h e. two_ints P facts own F G h0 Q (int_bit_and w32) (onward n) (o.next refl) e) ∷∷  -- iand
      (λ a r at n f o h e. two_longs P facts own F G h0 Q (int_bit_and w64) (onward n) (o.next refl) e) ∷∷  -- land
      (λ a r at n f o h e. two_ints P facts own F G h0 Q (int_bit_or w32) (onward n) (o.next refl) e) ∷∷  -- ior
      (λ a r at n f o h e. two_longs P facts own F G h0 Q (int_bit_or w64) (onward n) (o.next refl) e) ∷∷  -- lor
      (λ a r at n f o h e. two_ints P facts own F G h0 Q (int_bit_xor w32) (onward n) (o.next refl) e) ∷∷  -- ixor
      (λ a r at n f o h e. two_longs P facts own F G h0 Q (int_bit_xor w64) (onward n) (o.next refl) e) ∷∷  -- lxor
      (λ a r at n f o h e. incremented P facts own F G h0 Q a (onward n) (o.next refl) e) ∷∷  -- iinc
      (λ a r at n f o h e. int_to_long P facts own F G h0 Q (λ x. x) (onward n) (o.next refl) e) ∷∷  -- i2l
      (λ a r at n f o h e. long_to_int P facts own F G h0 Q (int_wrap w32) (onward n) (o.next refl) e) ∷∷  -- l2i
      (λ a r at n f o h e. int_to_int P facts own F G h0 Q (int_wrap w8) (onward n) (o.next refl) e) ∷∷  -- i2b
      (λ a r at n f o h e. int_to_int P facts own F G h0 Q (λ x. pos (to_char x)) (onward n) (o.next refl) e) ∷∷  -- i2c
      (λ a r at n f o h e. int_to_int P facts own F G h0 Q (int_wrap w16) (onward n) (o.next refl) e) ∷∷  -- i2s
      (λ a r at n f o h e. compares P facts own F G h0 Q compare (onward n) (o.next refl) e) ∷∷  -- lcmp
      (λ a r at n f o h e. let t = short_branch a (yes _ f.shaped) in on_target P facts own F G h0 Q a t.0 t.1 o.branch (λ t. values.test_int 153 t (onward n)) (λ b. tests_int P facts own F G h0 Q is_equal t.0 (onward n) b (o.next refl) e)) ∷∷  -- ifeq
      (λ a r at n f o h e. let t = short_branch a (yes _ f.shaped) in on_target P facts own F G h0 Q a t.0 t.1 o.branch (λ t. values.test_int 154 t (onward n)) (λ b. tests_int P facts own F G h0 Q is_unequal t.0 (onward n) b (o.next refl) e)) ∷∷  -- ifne
      (λ a r at n f o h e. let t = short_branch a (yes _ f.shaped) in on_target P facts own F G h0 Q a t.0 t.1 o.branch (λ t. values.test_int 155 t (onward n)) (λ b. tests_int P facts own F G h0 Q is_less t.0 (onward n) b (o.next refl) e)) ∷∷  -- iflt
      (λ a r at n f o h e. let t = short_branch a (yes _ f.shaped) in on_target P facts own F G h0 Q a t.0 t.1 o.branch (λ t. values.test_int 156 t (onward n)) (λ b. tests_int P facts own F G h0 Q is_at_least t.0 (onward n) b (o.next refl) e)) ∷∷  -- ifge
      (λ a r at n f o h e. let t = short_branch a (yes _ f.shaped) in on_target P facts own F G h0 Q a t.0 t.1 o.branch (λ t. values.test_int 157 t (onward n)) (λ b. tests_int P facts own F G h0 Q is_greater t.0 (onward n) b (o.next refl) e)) ∷∷  -- ifgt
      (λ a r at n f o h e. let t = short_branch a (yes _ f.shaped) in on_target P facts own F G h0 Q a t.0 t.1 o.branch (λ t. values.test_int 158 t (onward n)) (λ b. tests_int P facts own F G h0 Q is_at_most t.0 (onward n) b (o.next refl) e)) ∷∷  -- ifle
      (λ a r at n f o h e. let t = short_branch a (yes _ f.shaped) in on_target P facts own F G h0 Q a t.0 t.1 o.branch (λ t. values.test_two 159 t (onward n)) (λ b. tests_ints P facts own F G h0 Q is_equal t.0 (onward n) b (o.next refl) e)) ∷∷  -- if_icmpeq
      (λ a r at n f o h e. let t = short_branch a (yes _ f.shaped) in on_target P facts own F G h0 Q a t.0 t.1 o.branch (λ t. values.test_two 160 t (onward n)) (λ b. tests_ints P facts own F G h0 Q is_unequal t.0 (onward n) b (o.next refl) e)) ∷∷  -- if_icmpne
      (λ a r at n f o h e. let t = short_branch a (yes _ f.shaped) in on_target P facts own F G h0 Q a t.0 t.1 o.branch (λ t. values.test_two 161 t (onward n)) (λ b. tests_ints P facts own F G h0 Q is_less t.0 (onward n) b (o.next refl) e)) ∷∷  -- if_icmplt
      (λ a r at n f o h e. let t = short_branch a (yes _ f.shaped) in on_target P facts own F G h0 Q a t.0 t.1 o.branch (λ t. values.test_two 162 t (onward n)) (λ b. tests_ints P facts own F G h0 Q is_at_least t.0 (onward n) b (o.next refl) e)) ∷∷  -- if_icmpge
      (λ a r at n f o h e. let t = short_branch a (yes _ f.shaped) in on_target P facts own F G h0 Q a t.0 t.1 o.branch (λ t. values.test_two 163 t (onward n)) (λ b. tests_ints P facts own F G h0 Q is_greater t.0 (onward n) b (o.next refl) e)) ∷∷  -- if_icmpgt
      (λ a r at n f o h e. let t = short_branch a (yes _ f.shaped) in on_target P facts own F G h0 Q a t.0 t.1 o.branch (λ t. values.test_two 164 t (onward n)) (λ b. tests_ints P facts own F G h0 Q is_at_most t.0 (onward n) b (o.next refl) e)) ∷∷  -- if_icmple
      (λ a r at n f o h e. let t = short_branch a (yes _ f.shaped) in on_target P facts own F G h0 Q a t.0 t.1 o.branch (λ t. values.test_references 165 t (onward n)) (λ b. tests_same P facts own F G h0 Q (λ x. x) t.0 (onward n) b (o.next refl) e)) ∷∷  -- if_acmpeq
      (λ a r at n f o h e. let t = short_branch a (yes _ f.shaped) in on_target P facts own F G h0 Q a t.0 t.1 o.branch (λ t. values.test_references 166 t (onward n)) (λ b. tests_same P facts own F G h0 Q (λ x. not x) t.0 (onward n) b (o.next refl) e)) ∷∷  -- if_acmpne
      (λ a r at n f o h e. let t = short_branch a (yes _ f.shaped) in on_target P facts own F G h0 Q a t.0 t.1 o.branch GoTo (λ b. jumps P facts own F G h0 Q t.0 b e)) ∷∷  -- goto
      (λ a r at n f o h e. (switched P facts own F G h0 Q shapes.Tab a o.branch e).0 (yes _ f.shaped)) ∷∷  -- tableswitch
      (λ a r at n f o h e. (switched P facts own F G h0 Q shapes.Look a o.branch e).1 (yes _ f.shaped)) ∷∷  -- lookupswitch
      (λ a r at n f o h e. returns_top P facts own F G h0 Q _ o letters.I e) ∷∷  -- ireturn
      (λ a r at n f o h e. returns_top P facts own F G h0 Q _ o letters.J e) ∷∷  -- lreturn
      (λ a r at n f o h e. returns_top P facts own F G h0 Q _ o letters.A e) ∷∷  -- areturn
      (λ a r at n f o h e. returns_nothing P facts own F G h0 Q _ o e) ∷∷  -- return
      (λ a r at n f o h e. found_gets P facts own F G h0 Q _ o f (onward n) (o.next refl) r e) ∷∷  -- getfield
      (λ a r at n f o h e. found_puts P facts own F G h0 Q _ o f (onward n) (o.next refl) r e) ∷∷  -- putfield
      (λ a r at n f o h e. invokes_virtual P facts own_number own is_own own_above F G h0 Q _ o refl f (onward n) r refl refl (o.next refl) e) ∷∷  -- invokevirtual
      (λ a r at n f o h e. invokes_special P facts own_number own is_own own_above F G h0 Q _ o refl f (onward n) r refl refl (o.next refl) e) ∷∷  -- invokespecial
      (λ a r at n f o h e. invokes_static P facts own_number own is_own own_above F G h0 Q _ o refl f (onward n) r refl refl (o.next refl) e) ∷∷  -- invokestatic
      (λ a r at n f o h e. invokes_interface P facts own_number own is_own own_above F G h0 Q _ o refl f (onward n) r refl refl (o.next refl) e) ∷∷  -- invokeinterface
      (λ a r at n f o h e. found_makes P facts own F G h0 Q _ o f (onward n) (o.next refl) r refl refl h e) ∷∷  -- new
      (λ a r at n f o h e. found_arrays P facts own F G h0 Q _ o f (onward n) (o.next refl) a r refl refl e) ∷∷  -- newarray
      (λ a r at n f o h e. found_arrays P facts own F G h0 Q _ o f (onward n) (o.next refl) a r refl refl e) ∷∷  -- anewarray
      (λ a r at n f o h e. lengths P facts own F G h0 Q _ o (onward n) (o.next refl) e) ∷∷  -- arraylength
      (λ a r at n f o h e. throws_top P facts own F G h0 Q _ o e) ∷∷  -- athrow
      (λ a r at n f o h e. found_casts P facts own F G h0 Q _ o f (onward n) (o.next refl) r e) ∷∷  -- checkcast
      (λ a r at n f o h e. found_asks P facts own F G h0 Q _ o f (onward n) (o.next refl) r e) ∷∷  -- instanceof
      (λ a r at n f o h e. widened P facts own F G h0 Q a (onward n) (o.next refl) e) ∷∷  -- wide
      (λ a r at n f o h e. found_arrays P facts own F G h0 Q _ o f (onward n) (o.next refl) a r refl refl e) ∷∷  -- multianewarray
      (λ a r at n f o h e. let t = short_branch a (yes _ f.shaped) in on_target P facts own F G h0 Q a t.0 t.1 o.branch (λ t. values.test_references 198 t (onward n)) (λ b. tests_null P facts own F G h0 Q (λ x. x) t.0 (onward n) b (o.next refl) e)) ∷∷  -- ifnull
      (λ a r at n f o h e. let t = short_branch a (yes _ f.shaped) in on_target P facts own F G h0 Q a t.0 t.1 o.branch (λ t. values.test_references 199 t (onward n)) (λ b. tests_null P facts own F G h0 Q (λ x. not x) t.0 (onward n) b (o.next refl) e)) ∷∷  -- ifnonnull
      (λ a r at n f o h e. let t = long_branch a (yes _ f.shaped) in on_target P facts own F G h0 Q a t.0 t.1 o.branch GoTo (λ b. jumps P facts own F G h0 Q t.0 b e)) ∷∷  -- goto_w
      none_left

  -- any instruction of the program
  pub instruction_fits : (s : Site) → SiteFacts P own.«class» s → Owed P own F G h0 Q s → site_at own s.instr.at ≡ Some s → type_op P own s F ≡ Leaves G
      → Fits P h0 Q (script P own s) (local_tys own own.max_locals F.locals) (operand_tys own F.operands)
  instruction_fits s f o h e = each_of Serves all_rows served s.instr.row f.row s.instr.args s.resolved s.instr.at s.next f o h e
