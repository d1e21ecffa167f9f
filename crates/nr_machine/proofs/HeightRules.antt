-- Each instruction that doesn't go on in its frame leaves no more operands than there were.
use Rattle.std.proofs.Common.{◌≡◌, ℕ, zero, suc, ◌+◌, ◌-◌, ◌<◌, ◌≤◌, List, [], ◌∷◌, length, refl, sym, subst, ap, ◌∙◌, Bool, true, false, cond, arith}
use Rattle.std.specs.Prelude.{ℤ, pos, negsuc, Option, Some, None, slice_get, is_some, not, nat_lt, nat_le, codes, ◌==◌, ◌&&◌, ◌||◌}
use Rattle.std.specs.Option.{option_and_then}
use Rattle.nr_optable.specs.declared.table.Family.{Family}
use Rattle.nr_optable.specs.declared.table.Family.TheVariants.{F1, F2, F3, F4, F5, F6, F7, F8, F9, F10, F11, F12, F13, F14, F15, F16, F17, F18, F19, F20, F21, F22, F23, F24, F25, F26, F27, F28, F29, F30, F31, F32, F33, F34, F35, F36, F37, F38}
use Rattle.nr_optable.specs.declared.table.Letter.{Letter}
use Rattle.nr_optable.specs.declared.table.Letter.TheVariants as letters
use Rattle.nr_optable.specs.declared.table.Row.{Row}
use Rattle.nr_prog.specs.declared.body.instruction.Args.{Args}
use Rattle.nr_prog.specs.declared.body.instruction.Args.TheVariants as args
use Rattle.nr_linked.specs.declared.program.built_in.BuiltIn.{BuiltIn}
use Rattle.nr_linked.specs.declared.program.built_in.BuiltIn.TheVariants.{AbstractMethodError, IncompatibleClassChangeError, NegativeArraySizeException, Out, Throwable}
use Rattle.nr_linked.specs.declared.program.kind.Base.{Base}
use Rattle.nr_linked.specs.declared.program.kind.Base.TheVariants as bases
use Rattle.nr_linked.specs.declared.program.kind.Kind.{Kind}
use Rattle.nr_linked.specs.declared.program.tables.MethodInfo.{MethodInfo}
use Rattle.nr_linked.specs.declared.program.tables.ProgramTables.{ProgramTables}
use Rattle.nr_linked.specs.declared.program.tables.Resolved.{Resolved}
use Rattle.nr_linked.specs.declared.program.tables.Resolved.TheVariants as resolved
use Rattle.nr_linked.specs.declared.program.tables.SlotInfo.{SlotInfo}
use Rattle.nr_linked.specs.ArrayKinds.{Elements, elements_of, is_base, is_element, primitive_of}
use Rattle.nr_linked.specs.BuiltIns.{built_in}
use Rattle.nr_linked.specs.Initialisers.{is_initialiser}
use Rattle.nr_linked.specs.Kinds.{class_in, class_kind, element_of, is_array, is_reference}
use Rattle.nr_linked.specs.Linked.{is_loaded}
use Rattle.nr_linked.specs.LocalNumbers.{first_load, first_store, local_of}
use Rattle.nr_linked.specs.Programs.{method_at, super_of}
use Rattle.nr_linked.specs.Selection.{is_called, is_private, selected}
use Rattle.nr_linked.specs.Sites.{Site}
use Rattle.nr_linked.specs.Slots.{slots_of}
use Rattle.nr_linked.specs.Subtypes.{is_sub}
use Rattle.nr_optable.specs.Arithmetic.{to_char}
use Rattle.nr_optable.specs.Operations.{int_division, int_narrowing, int_operation, int_shift, long_division, long_operation, long_shift, pair_condition, zero_condition}
use Rattle.nr_model.specs.ArrayRules.{array_length, array_load, array_store, fill, in_array, make_array, narrowed, nested, new_array, new_arrays, storable, with_counts}
use Rattle.nr_model.specs.CallRules.{built_in_rule, call, call_selected, invoke_interface, invoke_special, invoke_virtual, on_receiver, out_rule, print_chars, selected_for, with_units}
use Rattle.nr_model.specs.Heaps.{on_some}
use Rattle.nr_model.specs.Printing.{bytes_of_units}
use Rattle.nr_model.specs.ObjectRules.{check_cast, get_field, instance_of, kept_as, new_of, put_field, throw_top}
use Rattle.nr_model.specs.Rules.{array_rule, first_letter, inc_rule, invoke_rule, on_branch, on_kind, on_slot, rule, script, switch_rule, third_letter, wide_rule}
use Rattle.nr_model.specs.Scripts.{Call, Drop, Ending, GoTo, GoesTo, Pick, PlainInt, PopInt, Print, Push, Return, ReturnTop, Runs, Script, Stuck, Throw, Within, WriteSlot}
use Rattle.nr_model.specs.Throws.{at_index, not_null, onward, throw_new, typed, which, with_found}
use Rattle.nr_model.specs.ValueRules.{again, branch, by_operands, by_size, comparison, conversion, copy_below, division, drop_top, dup, dup2, dup2_x1, dup2_x2, dup_x1, dup_x2, forget, increment, load, negation, not_zero, pool_constant, shift, single, small_constant, store, swap, test_int, test_references, test_two, times, two_operands}
use Rattle.nr_machine.proofs.Heights.{Low, low_left}

-- it is so with any number of operands
abbrev Free : ℕ → Script → Type 0
Free m k = (h : ℕ) → Low m h k

module _ (m : ℕ) where
  found : {X : Type 0} (o : Option X) (f : X → Script) (h : ℕ) → ((x : X) → Low m h (f x)) → Low m h (with_found o f)
  found None f h q = tt
  found (Some x) f h q = q x

  either : (b : Bool) (s t : Script) (h : ℕ) → Low m h s → Low m h t → Low m h (cond b s t)
  either true s t h p q = p
  either false s t h p q = q

  test : (b : Bool) (s : Script) (h : ℕ) → Low m h s → Low m h (which b s)
  test true s h p = p
  test false s h p = tt

  alone : (d : ℕ) (k : Script) (h : ℕ) → Low m h k → Low m h (single d k)
  alone d k h p true = tt
  alone d k h p false = p

  sized : (d : ℕ) (s t : Script) (h : ℕ) → Low m h s → Low m h t → Low m h (by_size d s t)
  sized d s t h p q true = p
  sized d s t h p q false = q

  goes_on : (n : Option ℕ) → Free m (onward n)
  goes_on None h = tt
  goes_on (Some n) h = tt

  typed_on : (l : Letter) (k : Script) → Free m k → Free m (typed l k)
  typed_on letters.I k q h = λ n l. q (suc (h - 1))
  typed_on letters.J k q h = λ n l. q (suc (h - 1))
  typed_on letter k q h = λ b. q h

  pick_times : (n d : ℕ) (k : Script) → Free m k → Free m (times n (Pick d) k)
  pick_times zero d k q h = q h
  pick_times (suc n) d k q h = pick_times n d k q (suc h)

  drop_times : (n d : ℕ) (k : Script) → Free m k → Free m (times n (Drop d) k)
  drop_times zero d k q h = q h
  drop_times (suc n) d k q h = drop_times n d k q (h - 1)

  copied : (n i : ℕ) (k : Script) → Free m k → Free m (copy_below n i k)
  copied n i k q h = pick_times (n + i) (n + i - 1) (forget (n + i + n) i k) (drop_times i (n + i + n) k q) h

  operands : {X : Type 0} (a b : Option X) (f g : X → Script) (h : ℕ) → ((x : X) → Low m h (f x)) → ((x : X) → Low m h (g x)) → Low m h (by_operands a b f g)
  operands (Some x) b f g h p q = p x
  operands None b f g h p q = found b g h q

  module _ (P : ProgramTables) where
    thrown : (b : BuiltIn) (h : ℕ) → h ≤ m → Low m h (throw_new P b)
    thrown b h l = omega (arith, l)

    null_or : (d : ℕ) (k : Script) (h : ℕ) → h ≤ m → Low m h k → Low m h (not_null P d k)
    null_or d k h l q true = omega (arith, l)
    null_or d k h l q false = q

    index_or : (n : ℕ) (i : ℤ) (k : ℕ → Script) (h : ℕ) → h ≤ m → ((j : ℕ) → Low m h (k j)) → Low m h (at_index P n i k)
    index_or n (pos i) k h l q = either (nat_lt i n) (k i) _ h (q i) (omega (arith, l))
    index_or n (negsuc i) k h l q = omega (arith, l)

    array_or : (code d : ℕ) (i : ℤ) (k : Kind → ℕ → Script) (h : ℕ) → h ≤ m → ((e : Kind) (j : ℕ) → Low m h (k e j)) → Low m h (in_array P code d i k)
    array_or code d i k h l q =
        found (elements_of code) _ h (λ elements. null_or d _ h l (λ kind n. found (element_of kind) _ h (λ e. test (is_element elements e) _ h (index_or n i (k e) h l (q e)))))

    storable_or : (e : Kind) (k : Script) (h : ℕ) → h ≤ m → Low m h k → Low m h (storable P e k)
    storable_or e k h l q true = q
    storable_or e k h l q false = λ kind n. either (is_sub P kind e) k _ h q (omega (arith, l))

    zero_or : (n : ℤ) (k : Script) (h : ℕ) → h ≤ m → Low m h k → Low m h (not_zero P n k)
    zero_or (pos zero) k h l q = omega (arith, l)
    zero_or (pos (suc n)) k h l q = q
    zero_or (negsuc n) k h l q = q

    counts : (d : ℕ) (negative : Bool) (ns : List ℕ) (k : List ℕ → Script) → ((ns : List ℕ) → Free m (k ns)) → (h : ℕ) → h ≤ m → Low m h (with_counts P d negative ns k)
    counts zero negative ns k q h l = either negative _ (k ns) h (omega (arith, l)) (q ns h)
    counts (suc d) negative ns k q h l = λ n p. counts d _ _ k q (h - 1) (omega (arith, l))

    selected_or : (o : Option ℕ) (h : ℕ) → h ≤ m → Low m h (call_selected P o)
    selected_or None h l = omega (arith, l)
    selected_or (Some n) h l = l

    receiver : (i : MethodInfo) (k : Kind → Script) (h : ℕ) → h ≤ m → ((kind : Kind) → Low m h (k kind)) → Low m h (on_receiver P i k)
    receiver i k h l q = null_or (length i.params) _ h l (λ kind n. q kind)

  filled : (i : ℕ) (make : Script → Script) (k : Script) → ((s : Script) → Free m s → Free m (make s)) → Free m k → Free m (fill i make k)
  filled zero make k f q h = q h
  filled (suc i) make k f q h = f _ (λ g. filled i make k f q (g - 2)) (suc h)

  nested_on : (ns : List ℕ) (kind : Kind) (k : Script) → Free m k → Free m (nested kind ns k)
  nested_on [] kind k q h = tt
  nested_on (n ∷ []) kind k q h = found (element_of kind) _ h (λ e. q (suc h))
  nested_on (n ∷ o ∷ ns) kind k q h = found (element_of kind) _ h (λ e. filled n (nested e (o ∷ ns)) k (λ s. nested_on (o ∷ ns) e s) q (suc h))

  units : (n : ℕ) (us : List ℕ) (k : List ℕ → Script) → ((us : List ℕ) → Free m (k us)) → Free m (with_units n us k)
  units zero us k q h = q us h
  units (suc n) us k q h = λ u l. units n _ k q (suc h - 1)

  -- an optional script
  abbrev LowIf : ℕ → Option Script → Type 0
  LowIf h None = Unit {0}
  LowIf h (Some sc) = Low m h sc

  one_of : (b : Bool) (o p : Option Script) (h : ℕ) → LowIf h o → LowIf h p → LowIf h (cond b o p)
  one_of true o p h q r = q
  one_of false o p h q r = r

  module _ (P : ProgramTables) (own : MethodInfo) (k : Script) (q : Free m k) where
    out_low : (i : MethodInfo) → LowIf m (out_rule P i k)
    out_low i =
        one_of (is_called (codes "print") (codes "([C)V") i) (Some (print_chars P k)) _ m
        (null_or P 0 _ m (omega arith) (λ kind n. found (element_of kind) _ m (λ e. test (is_base bases.Char e) _ m (units n [] (λ us. Drop 0 (Print (bytes_of_units us) k)) (λ us h. q (h - 1)) m))))
        (one_of (is_called (codes "print") (codes "(C)V") i) _ _ m (λ u l. q (m - 1))
        (one_of (is_called (codes "print") (codes "(I)V") i) _ _ m (λ u l. q (m - 1))
        (one_of (is_called (codes "print") (codes "(J)V") i) _ _ m (λ u l. q (m - 1))
        (one_of (is_called (codes "line") (codes "()V") i) _ None m (q m) tt))))

    built_in_low : (i : MethodInfo) → LowIf m (built_in_rule P i k)
    built_in_low i = one_of (i.«class» == built_in P Out) _ _ m (out_low i) (one_of (not (is_loaded P i.«class») && is_initialiser i) _ None m (q (m - 1)) tt)

    by_rule : (o : Option Script) → LowIf m o → Low m m (on_some o (throw_new P AbstractMethodError) (λ rule. rule))
    by_rule None l = omega arith
    by_rule (Some sc) l = l

    call_low : (n : ℕ) → Low m m (call P n k)
    call_low n = found (method_at P n) _ m (λ i. either (is_some i.body) (Call n) _ m (omega arith) (by_rule (built_in_rule P i k) (built_in_low i)))

    invoke_low : (code : ℕ) (found_it : Resolved) → Low m m (invoke_rule P own code found_it k)
    invoke_low code (resolved.Method n c) =
        either (code == 182) (invoke_virtual P n) _ m (found (method_at P n) _ m (λ i. receiver P i _ m (omega arith) (λ kind. selected_or P (selected_for P n kind) m (omega arith))))
        (either (code == 183) (invoke_special P own.«class» n k) _ m
        (found (method_at P n) _ m (λ i. receiver P i _ m (omega arith) (λ kind. either (is_initialiser i || is_private i.flags || i.«class» == own.«class») (call P n k) _ m (call_low n) (selected_or P (option_and_then (selected P n) (super_of P own.«class»)) m (omega arith)))))
        (either (code == 184) (call P n k) (invoke_interface P n c) m (call_low n)
        (found (method_at P n) _ m (λ i. receiver P i _ m (omega arith) (λ kind. either (is_sub P kind (class_kind c)) _ _ m (selected_or P (selected_for P n kind) m (omega arith)) (omega arith))))))
    invoke_low code found_it = tt

    loaded : (l : Letter) (i : ℕ) → Free m (load l i k)
    loaded l i h = typed_on l k q (suc h)

    stored : (l : Letter) (i : ℕ) → Free m (store l i k)
    stored l i h = typed_on l _ (λ h. q (h - 1)) h

    branched : (target : ℕ) (b : Bool) → Free m (branch target k b)
    branched target b h = either b (GoTo target) k h tt (q h)

    new_array_low : (e : Kind) → Low m m (new_array P e k)
    new_array_low e (pos i) l = q (suc (m - 1))
    new_array_low e (negsuc i) l = omega arith

    array_low : (a : Args) (found_it : Resolved) → Low m m (array_rule P a found_it k)
    array_low (args.Prim code) found_it = found (primitive_of code) _ m (λ base. new_array_low (record { dims = 0; base = base }))
    array_low (args.Pool i) (resolved.Kind e) = new_array_low e
    array_low (args.Dims i dims) (resolved.Kind kind) = counts P dims false [] _ (λ ns. nested_on ns kind k q) m (omega arith)
    array_low a found_it = tt

    store_low : (l : Letter) (code : ℕ) → Low m m (array_store P l code k)
    store_low letters.I code = λ v a i b. array_or P code 0 i _ (m - 1 - 1) (omega arith) (λ e j. q (suc (m - 1 - 1) - 2))
    store_low letters.J code = λ v a i b. array_or P code 0 i _ (m - 1 - 1) (omega arith) (λ e j. q (suc (m - 1 - 1) - 2))
    store_low letter code = λ i l. array_or P code 2 i _ (suc m - 1) (omega arith) (λ e j. storable_or P e _ (suc m - 1) (omega arith) (q (suc m - 1 - 1 - 2)))

    abbrev of_base : Script → Base → Script
    of_base s bases.Long = typed letters.J s
    of_base s base = PopInt (λ n. Push (PlainInt (narrowed base n)) s)

    base_low : (base : Base) (s : Script) → ((h : ℕ) → h ≤ m → Low m h s) → Low m m (of_base s base)
    base_low bases.Long s f = λ n l. f (suc (m - 1)) (omega (arith, l))
    base_low base s f = λ n l. f (suc (m - 1)) (omega (arith, l))

    kept_low : (kind : Kind) (s : Script) → ((h : ℕ) → h ≤ m → Low m h s) → Low m m (kept_as kind s)
    kept_low kind s f = either (is_reference kind) (typed letters.A s) (of_base s kind.base) m (λ b. f m (omega arith)) (base_low kind.base s f)

    field_low : (c i : ℕ) → Low m m (get_field P c i k)
    field_low c i = found (slice_get (slots_of P c) i) _ m (λ slot. null_or P 0 _ m (omega arith) (λ kind n. test (is_sub P kind (class_kind slot.declared_in)) _ m (q m)))

    put_low : (c i : ℕ) → Low m m (put_field P c i k)
    put_low c i = found (slice_get (slots_of P c) i) _ m (λ slot. kept_low slot.kind _ (λ h l. null_or P 1 _ h l (λ kind n. test (is_sub P kind (class_kind slot.declared_in)) _ h (q (h - 2)))))

    wide_low : (a : Args) → Low m m (wide_rule a k)
    wide_low (args.Wide code i) =
        either (code == 21) _ _ m (loaded letters.I i m)
        (either (code == 22) _ _ m (loaded letters.J i m)
        (either (code == 25) _ _ m (loaded letters.A i m)
        (either (code == 54) _ _ m (stored letters.I i m)
        (either (code == 55) _ _ m (stored letters.J i m)
        (either (code == 58) _ _ m (stored letters.A i m) tt)))))
    wide_low (args.WideInc i by) = λ n l. q (suc (suc m - 1) - 1)
    wide_low a = tt

    small_low : (code : ℕ) (a : Args) → Low m m (small_constant code a k)
    small_low code (args.Num n) = q (suc m)
    small_low code args.Empty = either (nat_le code 8) _ _ m (q (suc m)) (q (suc m))
    small_low code a = tt

    pool_low : (found_it : Resolved) → Low m m (pool_constant found_it k)
    pool_low (resolved.Int n) = q (suc m)
    pool_low (resolved.Long n) = q (suc m)
    pool_low found_it = tt

    inc_low : (a : Args) → Low m m (inc_rule a k)
    inc_low (args.Inc i by) = λ n l. q (suc (suc m - 1) - 1)
    inc_low a = tt

    branch_low : (a : Args) (f : ℕ → Script) → ((t : ℕ) → Low m m (f t)) → Low m m (on_branch a f)
    branch_low (args.Branch t) f p = p t
    branch_low a f p = tt

    switch_low : (a : Args) → Low m m (switch_rule a)
    switch_low (args.Switch other low ts) = λ n l. tt
    switch_low (args.Look other keys ts) = λ n l. tt
    switch_low a = tt

    kind_low : (found_it : Resolved) (f : Kind → Script) → ((kind : Kind) → Low m m (f kind)) → Low m m (on_kind found_it f)
    kind_low (resolved.Kind kind) f p = p kind
    kind_low found_it f p = tt

    slot_low : (found_it : Resolved) (f : ℕ → ℕ → Script) → ((c i : ℕ) → Low m m (f c i)) → Low m m (on_slot found_it f)
    slot_low (resolved.Slot c i) f p = p c i
    slot_low found_it f p = tt

    return_low : (l : Letter) → Low m m (typed l ReturnTop)
    return_low letters.I = λ n l. omega arith
    return_low letters.J = λ n l. omega arith
    return_low letter = λ b. omega arith

    cast_low : (kind : Kind) → Low m m (check_cast P kind k)
    cast_low kind true = q m
    cast_low kind false = λ of n. either (is_sub P of kind) k _ m (q m) (omega arith)

    instance_low : (kind : Kind) → Low m m (instance_of P kind k)
    instance_low kind true = q (suc (m - 1))
    instance_low kind false = λ of n. either (is_sub P of kind) _ _ m (q (suc (m - 1))) (q (suc (m - 1)))

    references_low : (code target : ℕ) → Low m m (test_references code target k)
    references_low code target =
        either (code == 165) _ _ m (λ b. branched target b (m - 2))
        (either (code == 166) _ _ m (λ b. branched target (not b) (m - 2)) (λ b. branched target (cond (code == 198) b (not b)) (m - 1)))

    pub low : (f : Family) (row : Row) (a : Args) (found_it : Resolved) → Low m m (rule f P own row a found_it k)
    low F1 row a r = q m
    low F2 row a r = small_low row.code a
    low F3 row a r = found (local_of (first_load (first_letter row.pushes)) row.code a) _ m (λ i. loaded (first_letter row.pushes) i m)
    low F4 row a r = found (local_of (first_store (first_letter row.pops)) row.code a) _ m (λ i. stored (first_letter row.pops) i m)
    low F5 row a r = operands (int_operation row.code) (long_operation row.code) _ _ m (λ f y a x b. q (suc (m - 1 - 1))) (λ f y a x b. q (suc (m - 1 - 1)))
    low F6 row a r = either (row.code == 177) Return _ m (omega arith) (return_low (first_letter row.pops))
    low F7 row a r = q (suc m)
    low F8 row a r = pool_low r
    low F9 row a r = inc_low a
    low F10 row a r = λ i l. array_or P row.code 0 i _ (m - 1) (omega arith) (λ e j. q (m - 1))
    low F11 row a r = store_low (third_letter row.pops) row.code
    low F12 row a r = either (row.code == 87) _ _ m (alone 0 _ m (q (m - 1))) (sized 0 _ _ m (q (m - 1)) (alone 1 _ m (drop_times 2 0 k q m)))
    low F13 row a r = alone 0 _ m (q (suc m))
    low F14 row a r = alone 0 _ m (alone 1 _ m (copied 1 1 k q m))
    low F15 row a r = alone 0 _ m (sized 1 _ _ m (copied 1 1 k q m) (alone 2 _ m (copied 1 2 k q m)))
    low F16 row a r = sized 0 _ _ m (q (suc m)) (alone 1 _ m (pick_times 2 (2 - 1) k q m))
    low F17 row a r = sized 0 _ _ m (alone 1 _ m (copied 1 1 k q m)) (alone 1 _ m (alone 2 _ m (copied 2 1 k q m)))
    low F18 row a r = sized 0 _ _ m (sized 1 _ _ m (copied 1 1 k q m) (alone 2 _ m (copied 1 2 k q m))) (alone 1 _ m (sized 2 _ _ m (copied 2 1 k q m) (alone 3 _ m (copied 2 2 k q m))))
    low F19 row a r = alone 0 _ m (alone 1 _ m (q (suc m - 1)))
    low F20 row a r = operands (int_division row.code) (long_division row.code) _ _ m (λ f y a x b. zero_or P y _ (m - 1 - 1) (omega arith) (q (suc (m - 1 - 1)))) (λ f y a x b. zero_or P y _ (m - 1 - 1) (omega arith) (q (suc (m - 1 - 1))))
    low F21 row a r = either (row.code == 116) _ _ m (λ x l. q (suc (m - 1))) (λ x l. q (suc (m - 1)))
    low F22 row a r = operands (int_shift row.code) (long_shift row.code) _ _ m (λ f c a x b. q (suc (m - 1 - 1))) (λ f c a x b. q (suc (m - 1 - 1)))
    low F23 row a r = either (row.code == 133) _ _ m (λ x l. q (suc (m - 1))) (either (row.code == 136) _ _ m (λ x l. q (suc (m - 1))) (found (int_narrowing row.code) _ m (λ f x l. q (suc (m - 1)))))
    low F24 row a r = λ y l x n. q (suc (m - 1 - 1))
    low F25 row a r = branch_low a _ (λ t. found (zero_condition row.code) _ m (λ f x l. branched t (f x (pos 0)) (m - 1)))
    low F26 row a r = branch_low a _ (λ t. found (pair_condition row.code) _ m (λ f y a x b. branched t (f x y) (m - 1 - 1)))
    low F27 row a r = branch_low a _ (λ t. references_low row.code t)
    low F28 row a r = branch_low a GoTo (λ t. tt)
    low F29 row a r = switch_low a
    low F30 row a r = slot_low r _ field_low
    low F31 row a r = slot_low r _ put_low
    low F32 row a r = invoke_low row.code r
    low F33 row a r = kind_low r _ (λ kind. either (is_array kind) Stuck _ m tt (found (class_in kind.base) _ m (λ c. q (suc m))))
    low F34 row a r = array_low a r
    low F35 row a r = null_or P 0 _ m (omega arith) (λ kind n. test (is_array kind) _ m (q (suc (m - 1))))
    low F36 row a r = null_or P 0 _ m (omega arith) (λ kind n. test (is_sub P kind (class_kind (built_in P Throwable))) Throw m (omega arith))
    low F37 row a r = kind_low r _ (λ kind. either (row.code == 192) _ _ m (cast_low kind) (instance_low kind))
    low F38 row a r = wide_low a

pub left_fits : (P : ProgramTables) (own : MethodInfo) (site : Site) (w u : Within) (e : Ending) (room : ℕ) → Runs (script P own site) w e u → length w.operands ≤ room
    → ((n : ℕ) → e ≡ GoesTo n → length u.operands ≤ room) → length u.operands ≤ room
left_fits P own site w u e room r l on =
    low_left (script P own site) w u e room (low (length w.operands) P own (onward site.next) (goes_on (length w.operands) site.next) site.instr.row.family site.instr.row site.instr.args site.resolved) r l on
