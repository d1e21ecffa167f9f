-- Instructions on objects (JVM Specification 6.5). The operands are written the topmost first.
use Rattle.std.proofs.Common.{◌≡◌, ℕ, [], ◌∷◌, refl, arith}
use Rattle.std.specs.Prelude.{pos, neg_ℤ, Some}
use Rattle.std.specs.Int.{int_wrap}
use Rattle.std.specs.FinMap.{get}
use Rattle.nr_optable.specs.Rows.{all_rows}
use Rattle.nr_prog.specs.declared.body.instruction.Args.TheVariants as args
use Rattle.nr_linked.specs.declared.program.built_in.BuiltIn.TheVariants.{ClassCastException, NullPointerException}
use Rattle.nr_linked.specs.declared.program.tables.Resolved.TheVariants as resolved
use Rattle.nr_linked.specs.BuiltIns.{built_in_class}
use Rattle.nr_linked.specs.BuiltInTables.{built_in_infos, built_in_info, built_in_methods, built_in_method}
use Rattle.nr_linked.specs.Kinds.{class_kind}
use Rattle.nr_model.specs.declared.value.Value.{Value}
use Rattle.nr_model.specs.declared.value.Value.TheVariants.{Int, Null, Ref}
use Rattle.nr_model.specs.Heaps.{Obj, Heap}
use Rattle.nr_model.proofs.Examples.Machine.{instr, Leads, Wrote, Makes, Throws, held}

abbrev int : ℕ → Value
int n = Int (pos n)

abbrev minus : ℕ → Value
minus n = Int (neg_ℤ (pos n))

abbrev cube : Obj
cube = record { kind = class_kind 1; slots = int 4 ∷ [] }

abbrev blob : Obj
blob = record { kind = class_kind 3; slots = [] }

module _ (h : Heap) where
  abbrev at : ℕ → Obj → Type 0
  at a o = get h a ≡ Some o

  -- ---- fields

  getfield : at 5 cube → Leads (instr 180 (args.Pool 3)) (resolved.Slot 1 0) h [] (Ref 5 ∷ []) 8 [] (int 4 ∷ []) []
  unfolding all_rows built_in_infos built_in_info built_in_methods built_in_method built_in_class int_wrap
  getfield e = held _ _ _ _ e (held _ _ _ _ e (refl, refl))

  putfield_of_a_byte : at 5 cube → Wrote (instr 181 (args.Pool 3)) (resolved.Slot 1 0) h (int 200 ∷ Ref 5 ∷ []) 5 cube 0 (minus 56)
  unfolding all_rows built_in_infos built_in_info built_in_methods built_in_method built_in_class int_wrap
  putfield_of_a_byte e = held _ _ _ _ e (held _ _ _ _ e (omega arith, (refl, refl)))

  getfield_of_null : Throws (instr 180 (args.Pool 3)) (resolved.Slot 1 0) h [] (Null ∷ []) NullPointerException
  unfolding all_rows built_in_infos built_in_info built_in_methods built_in_method built_in_class int_wrap
  getfield_of_null = λ a n. (_, (a, n, (refl, refl)), refl)

  putfield_of_null : Throws (instr 181 (args.Pool 3)) (resolved.Slot 1 0) h [] (int 1 ∷ Null ∷ []) NullPointerException
  unfolding all_rows built_in_infos built_in_info built_in_methods built_in_method built_in_class int_wrap
  putfield_of_null = λ a n. (_, (a, n, (refl, refl)), refl)

  -- ---- new objects and class tests

  new : Makes (instr 187 (args.Pool 3)) (resolved.Kind (class_kind 1)) h [] (record { kind = class_kind 1; slots = int 0 ∷ [] })
  unfolding all_rows built_in_infos built_in_info built_in_methods built_in_method built_in_class int_wrap
  new a n = (a, n, (refl, refl))

  checkcast_to_a_superclass : at 5 cube → Leads (instr 192 (args.Pool 3)) (resolved.Kind (class_kind 0)) h [] (Ref 5 ∷ []) 8 [] (Ref 5 ∷ []) []
  unfolding all_rows built_in_infos built_in_info built_in_methods built_in_method built_in_class int_wrap
  checkcast_to_a_superclass e = held _ _ _ _ e (refl, refl)

  checkcast_of_null : Leads (instr 192 (args.Pool 3)) (resolved.Kind (class_kind 0)) h [] (Null ∷ []) 8 [] (Null ∷ []) []
  unfolding all_rows built_in_infos built_in_info built_in_methods built_in_method built_in_class int_wrap
  checkcast_of_null = (refl, refl)

  checkcast_of_another_class : at 5 blob → Throws (instr 192 (args.Pool 3)) (resolved.Kind (class_kind 0)) h [] (Ref 5 ∷ []) ClassCastException
  unfolding all_rows built_in_infos built_in_info built_in_methods built_in_method built_in_class int_wrap
  checkcast_of_another_class e = λ a n. (_, held _ _ _ _ e (a, n, (refl, refl)), refl)

  instanceof_an_interface : at 5 cube → Leads (instr 193 (args.Pool 3)) (resolved.Kind (class_kind 2)) h [] (Ref 5 ∷ []) 8 [] (int 1 ∷ []) []
  unfolding all_rows built_in_infos built_in_info built_in_methods built_in_method built_in_class int_wrap
  instanceof_an_interface e = held _ _ _ _ e (omega arith, (refl, refl))

  instanceof_another_class : at 5 blob → Leads (instr 193 (args.Pool 3)) (resolved.Kind (class_kind 0)) h [] (Ref 5 ∷ []) 8 [] (int 0 ∷ []) []
  unfolding all_rows built_in_infos built_in_info built_in_methods built_in_method built_in_class int_wrap
  instanceof_another_class e = held _ _ _ _ e (omega arith, (refl, refl))

  instanceof_of_null : Leads (instr 193 (args.Pool 3)) (resolved.Kind (class_kind 0)) h [] (Null ∷ []) 8 [] (int 0 ∷ []) []
  unfolding all_rows built_in_infos built_in_info built_in_methods built_in_method built_in_class int_wrap
  instanceof_of_null = (omega arith, (refl, refl))

  athrow_of_null : Throws (instr 191 args.Empty) resolved.Nothing h [] (Null ∷ []) NullPointerException
  unfolding all_rows built_in_infos built_in_info built_in_methods built_in_method built_in_class int_wrap
  athrow_of_null = λ a n. (_, (a, n, (refl, refl)), refl)
