-- Instructions on arrays (JVM Specification 6.5). The operands are written the topmost first.
use Rattle.std.proofs.Common.{◌≡◌, ℕ, [], ◌∷◌, refl, arith}
use Rattle.std.specs.Prelude.{pos, neg_ℤ, Some}
use Rattle.std.specs.Int.{int_wrap}
use Rattle.std.specs.FinMap.{get}
use Rattle.nr_optable.specs.Rows.{all_rows}
use Rattle.nr_prog.specs.declared.body.instruction.Args.TheVariants as args
use Rattle.nr_linked.specs.declared.program.built_in.BuiltIn.TheVariants.{ArrayIndexOutOfBoundsException, ArrayStoreException, NegativeArraySizeException, NullPointerException}
use Rattle.nr_linked.specs.declared.program.kind.Base.TheVariants as bases
use Rattle.nr_linked.specs.declared.program.tables.Resolved.TheVariants as resolved
use Rattle.nr_linked.specs.BuiltIns.{built_in_class}
use Rattle.nr_linked.specs.BuiltInTables.{built_in_infos, built_in_info}
use Rattle.nr_model.specs.declared.value.Value.{Value}
use Rattle.nr_model.specs.declared.value.Value.TheVariants.{Int, Long, Null, Ref}
use Rattle.nr_model.specs.Heaps.{Obj, Heap}
use Rattle.nr_model.proofs.Examples.Machine.{instr, of_base, Leads, Wrote, Makes, Throws, held}

abbrev int : ℕ → Value
int n = Int (pos n)

abbrev minus : ℕ → Value
minus n = Int (neg_ℤ (pos n))

abbrev ints : Obj
ints = record { kind = of_base 1 bases.Int; slots = int 7 ∷ int 8 ∷ [] }

abbrev bytes : Obj
bytes = record { kind = of_base 1 bases.Byte; slots = int 0 ∷ int 0 ∷ [] }

abbrev booleans : Obj
booleans = record { kind = of_base 1 bases.Bool; slots = int 0 ∷ int 0 ∷ [] }

abbrev chars : Obj
chars = record { kind = of_base 1 bases.Char; slots = int 0 ∷ int 0 ∷ [] }

abbrev shorts : Obj
shorts = record { kind = of_base 1 bases.Short; slots = int 0 ∷ int 0 ∷ [] }

abbrev longs : Obj
longs = record { kind = of_base 1 bases.Long; slots = Long (pos 0) ∷ Long (pos 3) ∷ [] }

-- arrays of squares, and a cube, which is one, and a blob, which isn't
abbrev squares : Obj
squares = record { kind = of_base 1 (bases.Object 0); slots = Null ∷ Ref 5 ∷ [] }

abbrev cube : Obj
cube = record { kind = of_base 0 (bases.Object 1); slots = int 4 ∷ [] }

abbrev blob : Obj
blob = record { kind = of_base 0 (bases.Object 3); slots = [] }

module _ (h : Heap) where
  abbrev at : ℕ → Obj → Type 0
  at a o = get h a ≡ Some o

  -- ---- loads

  iaload : at 9 ints → Leads (instr 46 args.Empty) resolved.Nothing h [] (int 1 ∷ Ref 9 ∷ []) 8 [] (int 8 ∷ []) []
  unfolding all_rows built_in_infos built_in_info built_in_class int_wrap
  iaload e = held _ _ _ _ e (held _ _ _ _ e (refl, refl))

  laload : at 9 longs → Leads (instr 47 args.Empty) resolved.Nothing h [] (int 1 ∷ Ref 9 ∷ []) 8 [] (Long (pos 3) ∷ []) []
  unfolding all_rows built_in_infos built_in_info built_in_class int_wrap
  laload e = held _ _ _ _ e (held _ _ _ _ e (refl, refl))

  aaload : at 9 squares → Leads (instr 50 args.Empty) resolved.Nothing h [] (int 1 ∷ Ref 9 ∷ []) 8 [] (Ref 5 ∷ []) []
  unfolding all_rows built_in_infos built_in_info built_in_class int_wrap
  aaload e = held _ _ _ _ e (held _ _ _ _ e (refl, refl))

  baload_of_booleans : at 9 booleans → Leads (instr 51 args.Empty) resolved.Nothing h [] (int 0 ∷ Ref 9 ∷ []) 8 [] (int 0 ∷ []) []
  unfolding all_rows built_in_infos built_in_info built_in_class int_wrap
  baload_of_booleans e = held _ _ _ _ e (held _ _ _ _ e (refl, refl))

  -- ---- stores narrow: what the slot holds then

  iastore : at 9 ints → Wrote (instr 79 args.Empty) resolved.Nothing h (int 300 ∷ int 1 ∷ Ref 9 ∷ []) 9 ints 1 (int 300)
  unfolding all_rows built_in_infos built_in_info built_in_class int_wrap
  iastore e = held _ _ _ _ e (held _ _ _ _ e (omega arith, (refl, refl)))

  lastore : at 9 longs → Wrote (instr 80 args.Empty) resolved.Nothing h (Long (pos 5) ∷ int 1 ∷ Ref 9 ∷ []) 9 longs 1 (Long (pos 5))
  unfolding all_rows built_in_infos built_in_info built_in_class int_wrap
  lastore e = held _ _ _ _ e (held _ _ _ _ e (omega arith, (refl, refl)))

  bastore_of_bytes : at 9 bytes → Wrote (instr 84 args.Empty) resolved.Nothing h (int 200 ∷ int 1 ∷ Ref 9 ∷ []) 9 bytes 1 (minus 56)
  unfolding all_rows built_in_infos built_in_info built_in_class int_wrap
  bastore_of_bytes e = held _ _ _ _ e (held _ _ _ _ e (omega arith, (refl, refl)))

  bastore_of_booleans : at 9 booleans → Wrote (instr 84 args.Empty) resolved.Nothing h (int 6 ∷ int 1 ∷ Ref 9 ∷ []) 9 booleans 1 (int 0)
  unfolding all_rows built_in_infos built_in_info built_in_class int_wrap
  bastore_of_booleans e = held _ _ _ _ e (held _ _ _ _ e (omega arith, (refl, refl)))

  castore : at 9 chars → Wrote (instr 85 args.Empty) resolved.Nothing h (minus 1 ∷ int 1 ∷ Ref 9 ∷ []) 9 chars 1 (int 65535)
  unfolding all_rows built_in_infos built_in_info built_in_class int_wrap
  castore e = held _ _ _ _ e (held _ _ _ _ e (omega arith, (refl, refl)))

  sastore : at 9 shorts → Wrote (instr 86 args.Empty) resolved.Nothing h (int 40000 ∷ int 1 ∷ Ref 9 ∷ []) 9 shorts 1 (minus 25536)
  unfolding all_rows built_in_infos built_in_info built_in_class int_wrap
  sastore e = held _ _ _ _ e (held _ _ _ _ e (omega arith, (refl, refl)))

  aastore_of_a_subclass : at 9 squares → at 5 cube → Wrote (instr 83 args.Empty) resolved.Nothing h (Ref 5 ∷ int 1 ∷ Ref 9 ∷ []) 9 squares 1 (Ref 5)
  unfolding all_rows built_in_infos built_in_info built_in_class int_wrap
  aastore_of_a_subclass e f = held _ _ _ _ e (held _ _ _ _ f (omega arith, held _ _ _ _ e (omega arith, (refl, refl))))

  aastore_of_null : at 9 squares → Wrote (instr 83 args.Empty) resolved.Nothing h (Null ∷ int 1 ∷ Ref 9 ∷ []) 9 squares 1 Null
  unfolding all_rows built_in_infos built_in_info built_in_class int_wrap
  aastore_of_null e = held _ _ _ _ e (omega arith, held _ _ _ _ e (omega arith, (refl, refl)))

  -- ---- throws, in their order

  iaload_of_null : Throws (instr 46 args.Empty) resolved.Nothing h [] (minus 1 ∷ Null ∷ []) NullPointerException
  unfolding all_rows built_in_infos built_in_info built_in_class int_wrap
  iaload_of_null = λ a n. (_, (a, n, (refl, refl)), refl)

  iaload_past_the_end : at 9 ints → Throws (instr 46 args.Empty) resolved.Nothing h [] (int 2 ∷ Ref 9 ∷ []) ArrayIndexOutOfBoundsException
  unfolding all_rows built_in_infos built_in_info built_in_class int_wrap
  iaload_past_the_end e = λ a n. (_, held _ _ _ _ e (a, n, (refl, refl)), refl)

  iastore_below_0 : at 9 ints → Throws (instr 79 args.Empty) resolved.Nothing h [] (int 5 ∷ minus 1 ∷ Ref 9 ∷ []) ArrayIndexOutOfBoundsException
  unfolding all_rows built_in_infos built_in_info built_in_class int_wrap
  iastore_below_0 e = λ a n. (_, held _ _ _ _ e (a, n, (refl, refl)), refl)

  aastore_past_the_end : at 9 squares → at 5 blob → Throws (instr 83 args.Empty) resolved.Nothing h [] (Ref 5 ∷ int 2 ∷ Ref 9 ∷ []) ArrayIndexOutOfBoundsException
  unfolding all_rows built_in_infos built_in_info built_in_class int_wrap
  aastore_past_the_end e f = λ a n. (_, held _ _ _ _ e (a, n, (refl, refl)), refl)

  aastore_of_another_class : at 9 squares → at 5 blob → Throws (instr 83 args.Empty) resolved.Nothing h [] (Ref 5 ∷ int 1 ∷ Ref 9 ∷ []) ArrayStoreException
  unfolding all_rows built_in_infos built_in_info built_in_class int_wrap
  aastore_of_another_class e f = λ a n. (_, held _ _ _ _ e (held _ _ _ _ f (a, n, (refl, refl))), refl)

  arraylength_of_null : Throws (instr 190 args.Empty) resolved.Nothing h [] (Null ∷ []) NullPointerException
  unfolding all_rows built_in_infos built_in_info built_in_class int_wrap
  arraylength_of_null = λ a n. (_, (a, n, (refl, refl)), refl)

  newarray_negative : Throws (instr 188 (args.Prim 10)) resolved.Nothing h [] (minus 1 ∷ []) NegativeArraySizeException
  unfolding all_rows built_in_infos built_in_info built_in_class int_wrap
  newarray_negative = λ a n. (_, (a, n, (refl, refl)), refl)

  multianewarray_negative : Throws (instr 197 (args.Dims 3 2)) (resolved.Kind (of_base 2 bases.Int)) h [] (minus 1 ∷ int 0 ∷ []) NegativeArraySizeException
  unfolding all_rows built_in_infos built_in_info built_in_class int_wrap
  multianewarray_negative = λ a n. (_, (a, n, (refl, refl)), refl)

  -- ---- lengths and new arrays

  arraylength : at 9 ints → Leads (instr 190 args.Empty) resolved.Nothing h [] (Ref 9 ∷ []) 8 [] (int 2 ∷ []) []
  unfolding all_rows built_in_infos built_in_info built_in_class int_wrap
  arraylength e = held _ _ _ _ e (omega arith, (refl, refl))

  newarray : Makes (instr 188 (args.Prim 11)) resolved.Nothing h (int 2 ∷ []) (record { kind = of_base 1 bases.Long; slots = Long (pos 0) ∷ Long (pos 0) ∷ [] })
  unfolding all_rows built_in_infos built_in_info built_in_class int_wrap
  newarray a n = (a, n, (refl, refl))

  anewarray : Makes (instr 189 (args.Pool 3)) (resolved.Kind (of_base 1 bases.Int)) h (int 2 ∷ []) (record { kind = of_base 2 bases.Int; slots = Null ∷ Null ∷ [] })
  unfolding all_rows built_in_infos built_in_info built_in_class int_wrap
  anewarray a n = (a, n, (refl, refl))

  -- below the 0 nothing is made

  multianewarray_of_0_and_3 : Makes (instr 197 (args.Dims 3 2)) (resolved.Kind (of_base 2 bases.Int)) h (int 3 ∷ int 0 ∷ []) (record { kind = of_base 2 bases.Int; slots = [] })
  unfolding all_rows built_in_infos built_in_info built_in_class int_wrap
  multianewarray_of_0_and_3 a n = (a, n, (refl, refl))

  -- the third dimension has no count

  multianewarray_of_one_count : Makes (instr 197 (args.Dims 3 1)) (resolved.Kind (of_base 3 bases.Int)) h (int 1 ∷ []) (record { kind = of_base 3 bases.Int; slots = Null ∷ [] })
  unfolding all_rows built_in_infos built_in_info built_in_class int_wrap
  multianewarray_of_one_count a n = (a, n, (refl, refl))
