-- Calls, returns, throws through frames, and the built-in methods (JVM Specification 6.5, 2.10). The operands are written
-- the topmost first.
use Rattle.std.proofs.Common.{◌≡◌, ℕ, List, [], ◌∷◌, refl, ap, arith}
use Rattle.std.specs.Prelude.{pos, neg_ℤ, Some, None}
use Rattle.std.specs.Int.{int_wrap}
use Rattle.std.specs.FinMap.{get, insert}
use Rattle.std.specs.Option.{option_map}
use Rattle.std.specs.Fmt.{digits}
use Rattle.std.specs.Char.{encode_utf8}
use Rattle.nr_optable.specs.Rows.{all_rows}
use Rattle.nr_prog.specs.declared.body.instruction.Args.TheVariants as args
use Rattle.nr_linked.specs.declared.program.built_in.BuiltIn.TheVariants.{AbstractMethodError, ArithmeticException, ClassCastException, IncompatibleClassChangeError, NullPointerException, Object, RuntimeException}
use Rattle.nr_linked.specs.declared.program.kind.Base.TheVariants as bases
use Rattle.nr_linked.specs.declared.program.tables.ProgramTables.{ProgramTables}
use Rattle.nr_linked.specs.declared.program.tables.Resolved.TheVariants as resolved
use Rattle.nr_linked.specs.BuiltIns.{built_in_class}
use Rattle.nr_linked.specs.BuiltInTables.{built_in_infos, built_in_info, built_in_methods, built_in_method}
use Rattle.nr_linked.specs.Kinds.{class_kind}
use Rattle.nr_model.specs.declared.value.Value.{Value}
use Rattle.nr_model.specs.declared.value.Value.TheVariants.{Int, Null, Ref}
use Rattle.nr_model.specs.Heaps.{Obj, Heap}
use Rattle.nr_model.specs.Scripts.{Threw, Gave, Called, new_object}
use Rattle.nr_model.specs.States.{Frame, Running, Returned, Thrown, State}
use Rattle.nr_model.specs.Steps.{Step}
use Rattle.nr_model.proofs.Heaps.{get_same}
use Rattle.nr_model.proofs.Examples.Machine.{instr, of_base, built, body_of, program, alone, frame_at, running, left_in, Leads, Throws, held}

abbrev int : ℕ → Value
int n = Int (pos n)

abbrev minus : ℕ → Value
minus n = Int (neg_ℤ (pos n))

abbrev cube : Obj
cube = record { kind = class_kind 1; slots = int 4 ∷ [] }

abbrev blob : Obj
blob = record { kind = class_kind 3; slots = [] }

module _ (h : Heap) where
  abbrev at : ℕ → Obj → Type 0
  at a o = get h a ≡ Some o

  -- a state with these frames, after so much output
  abbrev after : List ℕ → List Frame → State
  after printed fs = record { heap = h; control = Running fs; printed = printed }

  abbrev callee : ℕ → List Value → Frame
  callee m locals = record { method = m; offset = 0; locals = locals; operands = [] }

  -- ---- calls

  -- the override of the receiver's class is called
  invokevirtual_of_an_override : at 5 cube
      → Step (alone (instr 182 (args.Pool 3)) (resolved.Method 1 0)) (running h (frame_at 0 [] (Ref 5 ∷ int 9 ∷ []) ∷ []))
      (running h (callee 2 (Ref 5 ∷ []) ∷ frame_at 0 [] (int 9 ∷ []) ∷ []))
  unfolding all_rows built_in_infos built_in_info built_in_methods built_in_method built_in_class int_wrap
  invokevirtual_of_an_override e = record {
    ending = Called 2;
    left = left_in h [] (Ref 5 ∷ int 9 ∷ []) [];
    runs = held _ _ _ _ e (refl, refl);
    control = refl;
    heap = refl;
    printed = refl;
  }

  -- of a superclass, the method of that class itself
  invokespecial_of_the_superclass : at 5 cube
      → Step (alone (instr 183 (args.Pool 3)) (resolved.Method 1 0)) (running h (frame_at 0 [] (Ref 5 ∷ []) ∷ []))
      (running h (callee 1 (Ref 5 ∷ []) ∷ frame_at 0 [] [] ∷ []))
  unfolding all_rows built_in_infos built_in_info built_in_methods built_in_method built_in_class int_wrap
  invokespecial_of_the_superclass e = record {
    ending = Called 1;
    left = left_in h [] (Ref 5 ∷ []) [];
    runs = held _ _ _ _ e (refl, refl);
    control = refl;
    heap = refl;
    printed = refl;
  }

  invokestatic : Step (alone (instr 184 (args.Pool 3)) (resolved.Method 0 0)) (running h (frame_at 0 [] [] ∷ []))
      (running h (callee 0 (Null ∷ Null ∷ Null ∷ Null ∷ []) ∷ frame_at 0 [] [] ∷ []))
  unfolding all_rows built_in_infos built_in_info built_in_methods built_in_method built_in_class int_wrap
  invokestatic = record { ending = Called 0; left = left_in h [] [] []; runs = (refl, refl); control = refl; heap = refl; printed = refl }

  invokevirtual_of_null : Throws (instr 182 (args.Pool 3)) (resolved.Method 1 0) h [] (Null ∷ []) NullPointerException
  unfolding all_rows built_in_infos built_in_info built_in_methods built_in_method built_in_class int_wrap
  invokevirtual_of_null = λ a n. (_, (a, n, (refl, refl)), refl)

  -- an interface call that finds no method with code

  invokeinterface_of_no_method : at 5 blob → Throws (instr 185 (args.Pool 3)) (resolved.Method 3 2) h [] (Ref 5 ∷ []) AbstractMethodError
  unfolding all_rows built_in_infos built_in_info built_in_methods built_in_method built_in_class int_wrap
  invokeinterface_of_no_method e = λ a n. (_, held _ _ _ _ e (a, n, (refl, refl)), refl)

  -- an interface call of an object whose class lacks the interface

  invokeinterface_of_another_class : at 5 (record { kind = class_kind (built Object); slots = [] }) → Throws (instr 185 (args.Pool 3)) (resolved.Method 3 2) h [] (Ref 5 ∷ []) IncompatibleClassChangeError
  unfolding all_rows built_in_infos built_in_info built_in_methods built_in_method built_in_class int_wrap
  invokeinterface_of_another_class e = λ a n. (_, held _ _ _ _ e (a, n, (refl, refl)), refl)

  -- ---- returns

  -- the frame below goes on at its next instruction
  ireturn_to_a_frame : Step (alone (instr 172 args.Empty) resolved.Nothing)
      (running h (frame_at 0 [] (int 5 ∷ int 6 ∷ []) ∷ frame_at 0 (Null ∷ []) (int 7 ∷ []) ∷ []))
      (running h (frame_at 8 (Null ∷ []) (int 5 ∷ int 7 ∷ []) ∷ []))
  unfolding all_rows built_in_infos built_in_info built_in_methods built_in_method built_in_class int_wrap
  ireturn_to_a_frame = record { ending = Gave (Some (int 5)); left = left_in h [] (int 6 ∷ []) []; runs = (refl, refl); control = refl; heap = refl; printed = refl }

  return_of_the_first_method : Step (alone (instr 177 args.Empty) resolved.Nothing) (running h (frame_at 0 [] [] ∷ []))
      (record { heap = h; control = Returned None; printed = [] })
  unfolding all_rows built_in_infos built_in_info built_in_methods built_in_method built_in_class int_wrap
  return_of_the_first_method = record { ending = Gave None; left = left_in h [] [] []; runs = (refl, refl); control = refl; heap = refl; printed = refl }

  -- ---- throws through frames

  -- The division stands at 8, and the handlers cover 0 to 8: the first catches ClassCastException, the second
  -- RuntimeException.
  abbrev handled : ProgramTables
  handled = program
      (body_of (record (instr 0 args.Empty) { at = 0 } ∷ record (instr 108 args.Empty) { at = 8 } ∷ [])
      (record { start = 0; end = 8; handler = 16; catch_type = 1 } ∷ record { start = 0; end = 8; handler = 24; catch_type = 2 } ∷ []))
      (resolved.Nothing ∷ resolved.Nothing ∷ [])
      (Some (class_kind (built ClassCastException)) ∷ Some (class_kind (built RuntimeException)) ∷ [])

  abbrev thrown : Obj
  thrown = new_object (class_kind (built ArithmeticException)) []

  -- two frames have no handler there; the third goes on at its second handler, with the object alone
  unwinds_two_frames : (a : ℕ) → get h a ≡ None
      → Step handled
      (running h (frame_at 8 [] (int 0 ∷ int 7 ∷ []) ∷ frame_at 8 [] [] ∷ frame_at 0 (int 3 ∷ []) (int 2 ∷ []) ∷ frame_at 0 [] [] ∷ []))
      (running (insert h a thrown) (frame_at 24 (int 3 ∷ []) (Ref a ∷ []) ∷ frame_at 0 [] [] ∷ []))
  unfolding all_rows built_in_infos built_in_info built_in_methods built_in_method built_in_class int_wrap
  unwinds_two_frames a n = record {
    ending = Threw a;
    left = left_in (insert h a thrown) [] [] [];
    runs = (a, n, (refl, refl));
    control = ap (option_map _) (get_same h a thrown);
    heap = refl;
    printed = refl;
  }

  -- where none handles it, the run ends
  thrown_out_of_all : (a : ℕ) → get h a ≡ None
      → Step handled (running h (frame_at 8 [] (int 0 ∷ int 7 ∷ []) ∷ frame_at 8 [] [] ∷ []))
      (record { heap = insert h a thrown; control = Thrown (Ref a); printed = [] })
  unfolding all_rows built_in_infos built_in_info built_in_methods built_in_method built_in_class int_wrap
  thrown_out_of_all a n = record {
    ending = Threw a;
    left = left_in (insert h a thrown) [] [] [];
    runs = (a, n, (refl, refl));
    control = ap (option_map _) (get_same h a thrown);
    heap = refl;
    printed = refl;
  }

  -- ---- built-in methods, which make no frame

  object_initialiser : at 5 cube → Leads (instr 183 (args.Pool 3)) (resolved.Method 4 4) h [] (Ref 5 ∷ []) 8 [] [] []
  unfolding all_rows built_in_infos built_in_info built_in_methods built_in_method built_in_class int_wrap
  object_initialiser e = held _ _ _ _ e (omega arith, (refl, refl))

  print_int : Leads (instr 184 (args.Pool 3)) (resolved.Method 23 24) h [] (minus 17 ∷ []) 8 [] [] (45 ∷ 49 ∷ 55 ∷ [])
  unfolding digits all_rows built_in_infos built_in_info built_in_methods built_in_method built_in_class int_wrap
  print_int = (refl, refl)

  line : Leads (instr 184 (args.Pool 3)) (resolved.Method 25 24) h [] [] 8 [] [] (10 ∷ [])
  unfolding all_rows built_in_infos built_in_info built_in_methods built_in_method built_in_class int_wrap
  line = (refl, refl)

  -- a euro sign, in three bytes

  print_char : Leads (instr 184 (args.Pool 3)) (resolved.Method 22 24) h [] (int 0x20AC ∷ []) 8 [] [] (0xE2 ∷ 0x82 ∷ 0xAC ∷ [])
  unfolding encode_utf8 all_rows built_in_infos built_in_info built_in_methods built_in_method built_in_class int_wrap
  print_char = (refl, refl)

  -- a letter, a pair of halves, in four bytes, and a half alone, as a question mark

  print_chars : at 9 (record { kind = of_base 1 bases.Char; slots = int 0x41 ∷ int 0xD83D ∷ int 0xDE00 ∷ int 0xD83D ∷ [] }) → Leads (instr 184 (args.Pool 3)) (resolved.Method 21 24) h [] (Ref 9 ∷ []) 8 [] [] (0x41 ∷ 0xF0 ∷ 0x9F ∷ 0x98 ∷ 0x80 ∷ 0x3F ∷ [])
  unfolding encode_utf8 all_rows built_in_infos built_in_info built_in_methods built_in_method built_in_class int_wrap
  print_chars e = held _ _ _ _ e (held _ _ _ _ e (held _ _ _ _ e (held _ _ _ _ e (held _ _ _ _ e (omega arith, (refl, refl))))))

  print_of_null : Throws (instr 184 (args.Pool 3)) (resolved.Method 21 24) h [] (Null ∷ []) NullPointerException
  unfolding all_rows built_in_infos built_in_info built_in_methods built_in_method built_in_class int_wrap
  print_of_null = λ a n. (_, (a, n, (refl, refl)), refl)
