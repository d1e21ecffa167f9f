-- The example: its exceptions, its selection and its methods have the facts that typing takes of a linked program.
use Rattle.std.proofs.Common.{◌≡◌, ℕ, zero, suc, ◌<◌, List, [], ◌∷◌, length, refl, sym, ap, subst, subst₂, ◌∙◌, Bool, true, false, not, arith, T, nat_eq}
use Rattle.std.specs.Prelude.{Option, Some, None, IsTrue, is_none, find, ◌++◌, if◌then◌else◌, ◌&&◌, ◌||◌}
use Rattle.std.specs.List.{flat_map, range_with_len}
use Rattle.std.specs.Option.{option_map_or, option_and_then}
use Rattle.std.proofs.Math.Facts.{eqb_yes}
use Rattle.nr_prog.specs.declared.body.whole.Body.{Body}
use Rattle.nr_linked.specs.declared.program.built_in.BuiltIn.{BuiltIn}
use Rattle.nr_linked.specs.declared.program.built_in.BuiltIn.TheVariants as built_ins
use Rattle.nr_linked.specs.declared.program.kind.Base.{Base}
use Rattle.nr_linked.specs.declared.program.kind.Base.TheVariants as bases
use Rattle.nr_linked.specs.declared.program.kind.Kind.{Kind}
use Rattle.nr_linked.specs.declared.program.tables.ClassInfo.{ClassInfo}
use Rattle.nr_linked.specs.declared.program.tables.MethodInfo.{MethodInfo}
use Rattle.nr_linked.specs.declared.program.tables.ProgramTables.{ProgramTables}
use Rattle.nr_prog.specs.Members.{is_static}
use Rattle.nr_linked.specs.Kinds.{is_same_primitive}
use Rattle.nr_linked.specs.BuiltIns.{built_in, built_in_class}
use Rattle.nr_linked.specs.BuiltInTables.{built_in_infos, built_in_methods, built_in_info, built_in_method}
use Rattle.nr_linked.specs.Programs.{class_at, method_at, methods_of, super_of, upward}
use Rattle.nr_linked.specs.Selection.{first_selected, is_private, is_selectable, selected, with_body}
use Rattle.nr_linked.specs.Subtypes.{is_above}
use Rattle.nr_linked.specs.Initialisers.{is_initialiser}
use Rattle.nr_linked.specs.TypingFacts.{is_makeable, is_thrown, Selected, BuiltInFacts}
use Rattle.nr_typed.proofs.Assigning.{yes, holds, and_both}
use Rattle.nr_typed.specs.Example.{int_kind, example}
use Rattle.nr_typed.proofs.ExampleTyped.{none_some, AtEach, at_place}
use Rattle.nr_typed.proofs.ExampleFacts.{up_to, each_below, own_check, count_check, select_check, is_plain_result, same_results, is_selected, method_below, class_below, at_option}

pub thrown : (b : BuiltIn) → IsTrue (is_thrown b) → IsTrue (is_above example (built_in example b) (built_in example built_ins.Throwable)) × IsTrue (is_makeable example (built_in example b))
unfolding example built_in_infos built_in_info built_in_class
thrown built_ins.Object p = absurd (yes false p)
thrown built_ins.Cloneable p = absurd (yes false p)
thrown built_ins.Throwable p = absurd (yes false p)
thrown built_ins.Exception p = absurd (yes false p)
thrown built_ins.Error p = absurd (yes false p)
thrown built_ins.RuntimeException p = absurd (yes false p)
thrown built_ins.ArithmeticException p = (refl, refl)
thrown built_ins.ArrayStoreException p = (refl, refl)
thrown built_ins.ClassCastException p = (refl, refl)
thrown built_ins.IllegalArgumentException p = absurd (yes false p)
thrown built_ins.IllegalStateException p = absurd (yes false p)
thrown built_ins.IndexOutOfBoundsException p = absurd (yes false p)
thrown built_ins.NegativeArraySizeException p = (refl, refl)
thrown built_ins.NullPointerException p = (refl, refl)
thrown built_ins.ArrayIndexOutOfBoundsException p = (refl, refl)
thrown built_ins.LinkageError p = absurd (yes false p)
thrown built_ins.IncompatibleClassChangeError p = (refl, refl)
thrown built_ins.AbstractMethodError p = (refl, refl)
thrown built_ins.Serializable p = absurd (yes false p)
thrown built_ins.Restorable p = absurd (yes false p)
thrown built_ins.Out p = absurd (yes false p)
thrown built_ins.RemoteFault p = (refl, refl)

-- ---- selection

no_items : {X : Type 0} (xs : List X) → T (nat_eq (length xs) 0) → xs ≡ []
no_items [] p = refl
no_items (x ∷ xs) p = absurd (let e : suc (length xs) ≡ 0 = eqb_yes p in omega arith)

plain_kind : (k : Kind) → T (is_plain_result (Some k)) → k ≡ int_kind
unfolding is_plain_result
plain_kind k p = parts k.dims k.base p
  where
    parts : (n : ℕ) (b : Base) → T (nat_eq n 0 && is_same_primitive bases.Int b) → ◌≡◌ {A = Kind} (record { dims = n; base = b }) int_kind
    parts zero bases.Int p = refl
    parts zero bases.Bool p = absurd p
    parts zero bases.Byte p = absurd p
    parts zero bases.Char p = absurd p
    parts zero bases.Short p = absurd p
    parts zero bases.Long p = absurd p
    parts zero (bases.Object c) p = absurd p
    parts (suc n) b p = absurd (let e : suc n ≡ 0 = eqb_yes (and_both (nat_eq (suc n) 0) _ p).0 in omega arith)

results : (a b : Option Kind) → T (same_results a b) → a ≡ b
unfolding same_results
results None None p = refl
results (Some j) (Some k) p = let q = and_both (is_plain_result (Some j)) (is_plain_result (Some k)) p in ap (λ k. Some k) (plain_kind j q.0 ∙ sym (plain_kind k q.1))
results None (Some k) p = absurd p
results (Some j) None p = absurd p

is_false : (b : Bool) → T (not b) → b ≡ false
is_false true p = absurd p
is_false false p = refl

pub never : (b : Bool) → b ≡ false → T b → ⊥
never b e p = subst T e p

of_selected : (c : ℕ) (i j : MethodInfo) → T (is_selected c i j) → Selected example i c j
unfolding is_selected
of_selected c i j p =
    let b = and_both (is_above example c j.«class») _ p in
    let f = and_both (nat_eq (length i.params) 0) _ b.1 in
    let g = and_both (nat_eq (length j.params) 0) _ f.1 in
    record {
      above = holds (is_above example c j.«class») b.0;
      params = no_items i.params f.0 ∙ sym (no_items j.params g.0);
      result = results i.result j.result g.1;
    }

-- a class that isn't there has no methods
module _ (P : ProgramTables) (c : ℕ) (none : class_at P c ≡ None) where
  nothing_upward : (n : ℕ) → upward P n None ≡ []
  nothing_upward zero = refl
  nothing_upward (suc n) = refl

  no_super : super_of P c ≡ None
  no_super = ap (option_and_then (λ e. e.super_class)) none

  no_methods : methods_of P c ≡ []
  no_methods = ap (λ o. option_map_or (λ e. range_with_len e.first_method e.methods) o []) none

  none_upward : (n : ℕ) → flat_map (methods_of P) (upward P n (Some c)) ≡ []
  none_upward zero = refl
  none_upward (suc n) = subst₂ (λ ms o. ms ++ flat_map (methods_of P) (upward P n o) ≡ []) (sym no_methods) (sym no_super)
      (ap (flat_map (methods_of P)) (nothing_upward n))

  none_selected : (n : ℕ) (i : MethodInfo) → method_at P n ≡ Some i → is_private i.flags ≡ false → selected P n c ≡ None
  none_selected n i is_i hid =
      let e : option_and_then (with_body P) (first_selected P n i c) ≡ None =
      subst₂ (λ h ms. option_and_then (with_body P) (if h then Some n else find (λ n. option_map_or (is_selectable i.name i.desc) (method_at P n) false) ms) ≡ None) (sym hid) (sym (none_upward (length P.classes))) refl in
      subst (λ o. option_and_then (λ (i : MethodInfo). option_and_then (with_body P) (first_selected P n i c)) o ≡ None) (sym is_i) e

pub selects : (n c k : ℕ) (i j : MethodInfo) → method_at example n ≡ Some i → is_static i.flags ≡ false → is_private i.flags ≡ false → selected example n c ≡ Some k → method_at example k ≡ Some j → Selected example i c j
selects n c k i j is_i instance hid e is_j = by_class (class_at example c) refl
  where
    below : c < 25 → Selected example i c j
    below l =
        let a = at_option (λ (i : MethodInfo). is_static i.flags || up_to 25 (λ c. option_map_or (λ k. option_map_or (λ j. is_selected c i j) (method_at example k) false) (selected example n c) true)) (method_at example n) i
        (each_below 29 (λ n. option_map_or (λ (i : MethodInfo). is_static i.flags || up_to 25 (λ c. option_map_or (λ k. option_map_or (λ j. is_selected c i j) (method_at example k) false) (selected example n c) true)) (method_at example n) true) select_check n (method_below n i is_i)) is_i in
        let b = second (is_static i.flags) _ instance a in
        let d = at_option (λ k. option_map_or (λ j. is_selected c i j) (method_at example k) false) (selected example n c) k (each_below 25 (λ c. option_map_or (λ k. option_map_or (λ j. is_selected c i j) (method_at example k) false) (selected example n c) true) b c l) e in
        of_selected c i j (subst (λ o. T (option_map_or (λ j. is_selected c i j) o false)) is_j d)
      where
        second : (x y : Bool) → x ≡ false → T (x || y) → T y
        second true y e p = absurd (never true e tt)
        second false y e p = p

    by_class : (o : Option ClassInfo) → class_at example c ≡ o → Selected example i c j
    by_class None x = absurd (none_some (sym (none_selected example c x n i is_i hid) ∙ e))
    by_class (Some x) y = below (class_below c x y)

-- ---- methods

pub own : (n : ℕ) (i : MethodInfo) (body : Body) → method_at example n ≡ Some i → i.body ≡ Some body → IsTrue (is_above example i.«class» i.«class»)
own n i body is_i is_body =
    let a = at_option (λ (i : MethodInfo). is_none i.body || is_above example i.«class» i.«class») (method_at example n) i (each_below 29 (λ n. option_map_or (λ (i : MethodInfo). is_none i.body || is_above example i.«class» i.«class») (method_at example n) true) own_check n (method_below n i is_i)) is_i in
    holds (is_above example i.«class» i.«class») (subst (λ b. T (is_none b || is_above example i.«class» i.«class»)) is_body a)

pub one_each : (n : ℕ) (i : MethodInfo) (body : Body) → method_at example n ≡ Some i → i.body ≡ Some body → length i.resolved ≡ length body.instrs
one_each n i body is_i is_body =
    let a = at_option (λ (i : MethodInfo). option_map_or (λ (b : Body). nat_eq (length i.resolved) (length b.instrs)) i.body true) (method_at example n) i (each_below 29 (λ n. option_map_or (λ (i : MethodInfo). option_map_or (λ (b : Body). nat_eq (length i.resolved) (length b.instrs)) i.body true) (method_at example n) true) count_check n (method_below n i is_i)) is_i in
    eqb_yes (at_option (λ (b : Body). nat_eq (length i.resolved) (length b.instrs)) i.body body a is_body)

abbrev BuiltInAt : ℕ → MethodInfo → Type 0
BuiltInAt n i = i.body ≡ None → BuiltInFacts example i

with_code : (n : ℕ) (i : MethodInfo) (body : Body) → i.body ≡ Some body → BuiltInAt n i
with_code n i body e none = absurd (none_some (sym none ∙ e))

-- one that isn't of nrmi/Out
elsewhere : (n : ℕ) (i : MethodInfo) → T (not (nat_eq i.«class» 23)) → (IsTrue (is_initialiser i) → i.params ≡ []) → BuiltInAt n i
unfolding example built_in_infos
elsewhere n i p f none = record { out = λ e. absurd (never (nat_eq i.«class» 23) (is_false (nat_eq i.«class» 23) p) (subst (λ c. T (nat_eq c 23)) (sym e) tt)); initialiser = f }

pub built_in_facts : (n : ℕ) (i : MethodInfo) → method_at example n ≡ Some i → i.body ≡ None → BuiltInFacts example i
unfolding AtEach example built_in_infos built_in_methods built_in_method built_in_class
built_in_facts n i e none = at_place BuiltInAt example.methods (
  with_code 0 _ _ refl,
  (
    with_code 1 _ _ refl,
    (
      with_code 2 _ _ refl,
      (
        with_code 3 _ _ refl,
        (
          with_code 4 _ _ refl,
          (
            elsewhere 5 _ tt (λ p. absurd (yes false p)),
            (
              elsewhere 6 _ tt (λ p. refl),
              (
                elsewhere 7 _ tt (λ p. refl),
                (
                  elsewhere 8 _ tt (λ p. refl),
                  (
                    elsewhere 9 _ tt (λ p. refl),
                    (
                      elsewhere 10 _ tt (λ p. refl),
                      (
                        elsewhere 11 _ tt (λ p. refl),
                        (
                          elsewhere 12 _ tt (λ p. refl),
                          (
                            elsewhere 13 _ tt (λ p. refl),
                            (
                              elsewhere 14 _ tt (λ p. refl),
                              (
                                elsewhere 15 _ tt (λ p. refl),
                                (
                                  elsewhere 16 _ tt (λ p. refl),
                                  (
                                    elsewhere 17 _ tt (λ p. refl),
                                    (
                                      elsewhere 18 _ tt (λ p. refl),
                                      (
                                        elsewhere 19 _ tt (λ p. refl),
                                        (
                                          elsewhere 20 _ tt (λ p. refl),
                                          (
                                            elsewhere 21 _ tt (λ p. refl),
                                            (
                                              elsewhere 22 _ tt (λ p. refl),
                                              (
                                                λ x. record { out = λ y. (refl, refl, _, (0, omega arith, refl), refl, refl, refl); initialiser = λ p. absurd (yes false p) },
                                                (
                                                  λ x. record { out = λ y. (refl, refl, _, (1, omega arith, refl), refl, refl, refl); initialiser = λ p. absurd (yes false p) },
                                                  (
                                                    λ x. record { out = λ y. (refl, refl, _, (2, omega arith, refl), refl, refl, refl); initialiser = λ p. absurd (yes false p) },
                                                    (
                                                      λ x. record { out = λ y. (refl, refl, _, (3, omega arith, refl), refl, refl, refl); initialiser = λ p. absurd (yes false p) },
                                                      (
                                                        λ x. record { out = λ y. (refl, refl, _, (4, omega arith, refl), refl, refl, refl); initialiser = λ p. absurd (yes false p) },
                                                        (
                                                          elsewhere 28 _ tt (λ p. refl),
                                                          tt,
                                                        ),
                                                      ),
                                                    ),
                                                  ),
                                                ),
                                              ),
                                            ),
                                          ),
                                        ),
                                      ),
                                    ),
                                  ),
                                ),
                              ),
                            ),
                          ),
                        ),
                      ),
                    ),
                  ),
                ),
              ),
            ),
          ),
        ),
      ),
    ),
  ),
) n i e none
