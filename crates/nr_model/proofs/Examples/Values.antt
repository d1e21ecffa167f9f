-- Instructions on values (JVM Specification 6.5): constants, locals, arithmetic, conversions and branches. The operands
-- are written the topmost first.
use Rattle.std.proofs.Common.{ℕ, List, [], ◌∷◌, refl, arith}
use Rattle.std.specs.Prelude.{pos, neg_ℤ}
use Rattle.std.specs.Int.{int_wrap}
use Rattle.nr_optable.specs.Rows.{all_rows}
use Rattle.nr_prog.specs.declared.body.instruction.Args.TheVariants as args
use Rattle.nr_linked.specs.declared.program.built_in.BuiltIn.TheVariants.{ArithmeticException}
use Rattle.nr_linked.specs.declared.program.tables.Resolved.TheVariants as resolved
use Rattle.nr_linked.specs.BuiltIns.{built_in_class}
use Rattle.nr_linked.specs.BuiltInTables.{built_in_infos, built_in_info}
use Rattle.nr_model.specs.declared.value.Value.{Value}
use Rattle.nr_model.specs.declared.value.Value.TheVariants.{Int, Long, Null, Ref}
use Rattle.nr_model.specs.Heaps.{Heap}
use Rattle.nr_model.proofs.Examples.Machine.{instr, Leads, Throws}

abbrev int : ℕ → Value
int n = Int (pos n)

-- the negative numbers -n
abbrev minus : ℕ → Value
minus n = Int (neg_ℤ (pos n))

abbrev long : ℕ → Value
long n = Long (pos n)

abbrev minus_long : ℕ → Value
minus_long n = Long (neg_ℤ (pos n))

module _ (h : Heap) where
  -- from operands to operands, on to the next instruction
  abbrev Makes : ℕ → List Value → List Value → Type 0
  Makes code before after = Leads (instr code args.Empty) resolved.Nothing h [] before 8 [] after []

  -- ---- arithmetic

  iadd_wraps : Makes 96 (int 1 ∷ int 2147483647 ∷ []) (minus 2147483648 ∷ [])
  unfolding all_rows int_wrap
  iadd_wraps = (refl, refl)

  isub_wraps : Makes 100 (int 1 ∷ minus 2147483648 ∷ []) (int 2147483647 ∷ [])
  unfolding all_rows int_wrap
  isub_wraps = (refl, refl)

  imul_wraps : Makes 104 (int 65536 ∷ int 65536 ∷ []) (int 0 ∷ [])
  unfolding all_rows int_wrap
  imul_wraps = (refl, refl)

  ladd_wraps : Makes 97 (long 1 ∷ long 9223372036854775807 ∷ []) (minus_long 9223372036854775808 ∷ [])
  unfolding all_rows int_wrap
  ladd_wraps = (refl, refl)

  iand_of_signed : Makes 126 (int 255 ∷ minus 1 ∷ []) (int 255 ∷ [])
  unfolding all_rows int_wrap
  iand_of_signed = (refl, refl)

  ixor_of_signed : Makes 130 (minus 1 ∷ int 5 ∷ []) (minus 6 ∷ [])
  unfolding all_rows int_wrap
  ixor_of_signed = (refl, refl)

  idiv_truncates : Makes 108 (int 2 ∷ minus 7 ∷ []) (minus 3 ∷ [])
  unfolding all_rows int_wrap
  idiv_truncates = (refl, refl)

  irem_has_the_dividends_sign : Makes 112 (int 2 ∷ minus 7 ∷ []) (minus 1 ∷ [])
  unfolding all_rows int_wrap
  irem_has_the_dividends_sign = (refl, refl)

  idiv_of_the_least : Makes 108 (minus 1 ∷ minus 2147483648 ∷ []) (minus 2147483648 ∷ [])
  unfolding all_rows int_wrap
  idiv_of_the_least = (refl, refl)

  irem_of_the_least : Makes 112 (minus 1 ∷ minus 2147483648 ∷ []) (int 0 ∷ [])
  unfolding all_rows int_wrap
  irem_of_the_least = (refl, refl)

  ldiv_of_the_least : Makes 109 (minus_long 1 ∷ minus_long 9223372036854775808 ∷ []) (minus_long 9223372036854775808 ∷ [])
  unfolding all_rows int_wrap
  ldiv_of_the_least = (refl, refl)

  lrem_truncates : Makes 113 (minus_long 3 ∷ long 10 ∷ []) (long 1 ∷ [])
  unfolding all_rows int_wrap
  lrem_truncates = (refl, refl)

  ineg_of_the_least : Makes 116 (minus 2147483648 ∷ []) (minus 2147483648 ∷ [])
  unfolding all_rows int_wrap
  ineg_of_the_least = (refl, refl)

  lneg : Makes 117 (long 4 ∷ []) (minus_long 4 ∷ [])
  unfolding all_rows int_wrap
  lneg = (refl, refl)

  -- ---- shifts: five bits of the count for an int, six for a long

  ishl_by_33 : Makes 120 (int 33 ∷ int 3 ∷ []) (int 6 ∷ [])
  unfolding all_rows int_wrap
  ishl_by_33 = (refl, refl)

  ishl_by_a_negative_count : Makes 120 (minus 1 ∷ int 1 ∷ []) (minus 2147483648 ∷ [])
  unfolding all_rows int_wrap
  ishl_by_a_negative_count = (refl, refl)

  ishr_rounds_down : Makes 122 (int 1 ∷ minus 7 ∷ []) (minus 4 ∷ [])
  unfolding all_rows int_wrap
  ishr_rounds_down = (refl, refl)

  iushr_brings_zeros : Makes 124 (int 28 ∷ minus 1 ∷ []) (int 15 ∷ [])
  unfolding all_rows int_wrap
  iushr_brings_zeros = (refl, refl)

  lshl_by_65 : Makes 121 (int 65 ∷ long 3 ∷ []) (long 6 ∷ [])
  unfolding all_rows int_wrap
  lshl_by_65 = (refl, refl)

  lushr_brings_zeros : Makes 125 (int 60 ∷ minus_long 1 ∷ []) (long 15 ∷ [])
  unfolding all_rows int_wrap
  lushr_brings_zeros = (refl, refl)

  -- ---- conversions and comparison

  i2b_narrows : Makes 145 (int 255 ∷ []) (minus 1 ∷ [])
  unfolding all_rows int_wrap
  i2b_narrows = (refl, refl)

  i2c_has_no_sign : Makes 146 (minus 1 ∷ []) (int 65535 ∷ [])
  unfolding all_rows int_wrap
  i2c_has_no_sign = (refl, refl)

  i2s_narrows : Makes 147 (int 32768 ∷ []) (minus 32768 ∷ [])
  unfolding all_rows int_wrap
  i2s_narrows = (refl, refl)

  l2i_keeps_the_low_bits : Makes 136 (long 4294967301 ∷ []) (int 5 ∷ [])
  unfolding all_rows int_wrap
  l2i_keeps_the_low_bits = (refl, refl)

  i2l_keeps_the_sign : Makes 133 (minus 5 ∷ []) (minus_long 5 ∷ [])
  unfolding all_rows int_wrap
  i2l_keeps_the_sign = (refl, refl)

  lcmp_less : Makes 148 (long 2 ∷ minus_long 2 ∷ []) (minus 1 ∷ [])
  unfolding all_rows int_wrap
  lcmp_less = (refl, refl)

  lcmp_equal : Makes 148 (long 2 ∷ long 2 ∷ []) (int 0 ∷ [])
  unfolding all_rows int_wrap
  lcmp_equal = (refl, refl)

  -- ---- constants

  iconst_m1 : Makes 2 [] (minus 1 ∷ [])
  unfolding all_rows int_wrap
  iconst_m1 = (refl, refl)

  lconst_1 : Makes 10 [] (long 1 ∷ [])
  unfolding all_rows int_wrap
  lconst_1 = (refl, refl)

  aconst_null : Makes 1 [] (Null ∷ [])
  unfolding all_rows int_wrap
  aconst_null = (refl, refl)

  sipush : Leads (instr 17 (args.Num (neg_ℤ (pos 300)))) resolved.Nothing h [] [] 8 [] (minus 300 ∷ []) []
  unfolding all_rows int_wrap
  sipush = (refl, refl)

  ldc2_w : Leads (instr 20 (args.Pool 3)) (resolved.Long (pos 9)) h [] [] 8 [] (long 9 ∷ []) []
  unfolding all_rows int_wrap
  ldc2_w = (refl, refl)

  -- ---- locals

  iload_1 : Leads (instr 27 args.Empty) resolved.Nothing h (Null ∷ int 6 ∷ []) [] 8 (Null ∷ int 6 ∷ []) (int 6 ∷ []) []
  unfolding all_rows int_wrap
  iload_1 = (refl, refl)

  lstore : Leads (instr 55 (args.Local 1)) resolved.Nothing h (Null ∷ Null ∷ Null ∷ []) (long 6 ∷ []) 8 (Null ∷ long 6 ∷ Null ∷ []) [] []
  unfolding all_rows int_wrap
  lstore = (omega arith, (refl, refl))

  wide_astore : Leads (instr 196 (args.Wide 58 0)) resolved.Nothing h (Null ∷ []) (Ref 4 ∷ []) 8 (Ref 4 ∷ []) [] []
  unfolding all_rows int_wrap
  wide_astore = (omega arith, (refl, refl))

  iinc_wraps : Leads (instr 132 (args.Inc 0 (pos 1))) resolved.Nothing h (int 2147483647 ∷ []) [] 8 (minus 2147483648 ∷ []) [] []
  unfolding all_rows int_wrap
  iinc_wraps = (omega arith, (refl, refl))

  -- ---- branches, to 40

  ifle_taken : Leads (instr 158 (args.Branch 40)) resolved.Nothing h [] (int 0 ∷ []) 40 [] [] []
  unfolding all_rows int_wrap
  ifle_taken = (refl, refl)

  iflt_not_taken : Leads (instr 155 (args.Branch 40)) resolved.Nothing h [] (int 0 ∷ []) 8 [] [] []
  unfolding all_rows int_wrap
  iflt_not_taken = (refl, refl)

  if_icmplt_taken : Leads (instr 161 (args.Branch 40)) resolved.Nothing h [] (int 2 ∷ minus 2 ∷ []) 40 [] [] []
  unfolding all_rows int_wrap
  if_icmplt_taken = (refl, refl)

  if_acmpeq_of_one_object : Leads (instr 165 (args.Branch 40)) resolved.Nothing h [] (Ref 3 ∷ Ref 3 ∷ []) 40 [] [] []
  unfolding all_rows int_wrap
  if_acmpeq_of_one_object = (refl, refl)

  if_acmpne_of_null : Leads (instr 166 (args.Branch 40)) resolved.Nothing h [] (Null ∷ Ref 3 ∷ []) 40 [] [] []
  unfolding all_rows int_wrap
  if_acmpne_of_null = (refl, refl)

  ifnull_not_taken : Leads (instr 198 (args.Branch 40)) resolved.Nothing h [] (Ref 3 ∷ []) 8 [] [] []
  unfolding all_rows int_wrap
  ifnull_not_taken = (omega arith, (refl, refl))

  goto : Leads (instr 167 (args.Branch 40)) resolved.Nothing h [] [] 40 [] [] []
  unfolding all_rows int_wrap
  goto = (refl, refl)

  tableswitch_within : Leads (instr 170 (args.Switch 90 (neg_ℤ (pos 1)) (40 ∷ 50 ∷ 60 ∷ []))) resolved.Nothing h [] (int 1 ∷ []) 60 [] [] []
  unfolding all_rows int_wrap
  tableswitch_within = (refl, refl)

  tableswitch_below : Leads (instr 170 (args.Switch 90 (neg_ℤ (pos 1)) (40 ∷ 50 ∷ 60 ∷ []))) resolved.Nothing h [] (minus 2 ∷ []) 90 [] [] []
  unfolding all_rows int_wrap
  tableswitch_below = (refl, refl)

  tableswitch_above : Leads (instr 170 (args.Switch 90 (neg_ℤ (pos 1)) (40 ∷ 50 ∷ 60 ∷ []))) resolved.Nothing h [] (int 2 ∷ []) 90 [] [] []
  unfolding all_rows int_wrap
  tableswitch_above = (refl, refl)

  lookupswitch_found : Leads (instr 171 (args.Look 90 (neg_ℤ (pos 5) ∷ pos 7 ∷ []) (40 ∷ 50 ∷ []))) resolved.Nothing h [] (int 7 ∷ []) 50 [] [] []
  unfolding all_rows int_wrap
  lookupswitch_found = (refl, refl)

  lookupswitch_not_found : Leads (instr 171 (args.Look 90 (neg_ℤ (pos 5) ∷ pos 7 ∷ []) (40 ∷ 50 ∷ []))) resolved.Nothing h [] (int 6 ∷ []) 90 [] [] []
  unfolding all_rows int_wrap
  lookupswitch_not_found = (refl, refl)

  -- ---- throws

  idiv_by_zero : Throws (instr 108 args.Empty) resolved.Nothing h [] (int 0 ∷ int 7 ∷ []) ArithmeticException
  unfolding all_rows built_in_infos built_in_info built_in_class
  idiv_by_zero = λ a n. (_, (a, n, (refl, refl)), refl)

  lrem_by_zero : Throws (instr 113 args.Empty) resolved.Nothing h [] (long 0 ∷ long 7 ∷ []) ArithmeticException
  unfolding all_rows built_in_infos built_in_info built_in_class
  lrem_by_zero = λ a n. (_, (a, n, (refl, refl)), refl)
