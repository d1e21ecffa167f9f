-- The example has the facts that typing takes of a linked program.
use Rattle.std.proofs.Common.{◌≡◌, ℕ, zero, suc, ◌<◌, ◌⊎◌, inl, inr, List, [], ◌∷◌, length, refl, sym, subst, ◌∙◌, Bool, true, false, not, arith, T, nat_eq}
use Rattle.std.specs.Prelude.{Option, Some, None, IsTrue, is_none, slice_get, ◌==◌, ◌&&◌, ◌||◌}
use Rattle.std.specs.List.{list_any, list_all}
use Rattle.std.specs.Option.{option_map_or, option_and_then}
use Rattle.std.proofs.Math.Facts.{eqb_yes}
use Rattle.nr_linked.specs.declared.program.kind.Kind.{Kind}
use Rattle.nr_linked.specs.declared.program.tables.ClassInfo.{ClassInfo}
use Rattle.nr_linked.specs.declared.program.tables.MethodInfo.{MethodInfo}
use Rattle.nr_linked.specs.declared.program.tables.SlotInfo.{SlotInfo}
use Rattle.nr_prog.specs.Members.{is_abstract, is_static}
use Rattle.nr_linked.specs.BuiltIns.{built_in_class}
use Rattle.nr_linked.specs.BuiltInTables.{built_in_infos, built_in_methods, built_in_info, built_in_method}
use Rattle.nr_linked.specs.Programs.{class_at, method_at, super_of}
use Rattle.nr_linked.specs.Slots.{slots_of}
use Rattle.nr_linked.specs.Selection.{selected}
use Rattle.nr_linked.specs.Subtypes.{is_above, admits_any}
use Rattle.nr_linked.specs.TypingFacts.{is_makeable}
use Rattle.nr_typed.proofs.Assigning.{holds, and_both, or_cases}
use Rattle.nr_prog.specs.declared.body.whole.Body.{Body}
use Rattle.nr_linked.specs.declared.program.kind.Base.TheVariants as bases
use Rattle.nr_linked.specs.Kinds.{is_same_primitive}
use Rattle.nr_typed.specs.Example.{example, field, face}
use Rattle.nr_typed.proofs.ExampleTyped.{none_some, some_same}

-- ---- checks of all numbers below a bound, and of all elements of a list

pub up_to : ℕ → (ℕ → Bool) → Bool
up_to zero f = true
up_to (suc n) f = f n && up_to n f

pub each_below : (n : ℕ) (f : ℕ → Bool) → T (up_to n f) → (k : ℕ) → k < n → T (f k)
unfolding up_to
each_below zero f p k l = absurd (omega arith)
each_below (suc n) f p k l = cases (nat_eq k n) (λ q. eqb_yes q) (λ l. each_below n f (and_both (f n) (up_to n f) p).1 k l)
  where
    apart : (a b : ℕ) → (nat_eq a b ≡ false) → a < suc b → a < b
    apart a b e l = grind (arith)

    cases : (c : Bool) → (T c → k ≡ n) → (k < n → T (f k)) → T (f k)
    cases c same go = by_eq (nat_eq k n) refl
      where
        by_eq : (d : Bool) → nat_eq k n ≡ d → T (f k)
        by_eq true e = subst (λ k. T (f k)) (sym (eqb_yes (subst T (sym e) tt))) (and_both (f n) (up_to n f) p).0
        by_eq false e = go (apart k n e l)

member_all : (f : ℕ → Bool) (d : ℕ) (xs : List ℕ) → T (list_any (λ s. s == d) xs) → T (list_all f xs) → T (f d)
member_all f d [] p q = absurd p
member_all f d (x ∷ xs) p q = elim (or_cases (x == d) (list_any (λ s. s == d) xs) p) [
  | inl e ↦ subst (λ d. T (f d)) (eqb_yes e) (and_both (f x) (list_all f xs) q).0
  | inr e ↦ member_all f d xs e (and_both (f x) (list_all f xs) q).1
]

pub supers_of : ℕ → List ℕ
supers_of c = option_map_or (λ (e : ClassInfo). e.supers) (class_at example c) []

above_check : T (up_to 25 (λ c. list_all (λ d. list_all (λ e. is_above example c e) (supers_of d)) (supers_of c)))
unfolding up_to supers_of example built_in_infos built_in_info built_in_class
above_check = tt

any_check : T (up_to 25 (λ d. not (admits_any example d) || list_all (λ e. admits_any example e) (supers_of d)))
unfolding up_to supers_of example built_in_infos built_in_info built_in_class
any_check = tt

super_check : T (up_to 25 (λ c. option_map_or (λ d. is_above example c d) (super_of example c) true))
unfolding up_to supers_of example built_in_infos built_in_info built_in_class
super_check = tt

make_check : T (up_to 25 (λ c. not (is_makeable example c) || is_above example c c))
unfolding up_to supers_of example built_in_infos built_in_info built_in_class
make_check = tt

pub own_check : T (up_to 29 (λ n. option_map_or (λ (i : MethodInfo). is_none i.body || is_above example i.«class» i.«class») (method_at example n) true))
unfolding up_to supers_of example built_in_infos built_in_info built_in_class built_in_methods built_in_method
own_check = tt

slots_above_check : T (up_to 25 (λ c. list_all (λ d. nat_eq (length (slots_of example d)) 0 || nat_eq (length (slots_of example c)) 1) (supers_of c)))
unfolding up_to supers_of example built_in_infos built_in_info built_in_class
slots_above_check = tt

declared_check : T (up_to 25 (λ c. nat_eq (length (slots_of example c)) 0 || is_above example c 0))
unfolding up_to supers_of example built_in_infos built_in_info built_in_class
declared_check = tt

slotted_check : T (up_to 25 (λ c. nat_eq (length (slots_of example c)) 0 || not (admits_any example c)))
unfolding up_to supers_of example built_in_infos built_in_info built_in_class
slotted_check = tt

pub count_check : T (up_to 29 (λ n. option_map_or (λ (i : MethodInfo). option_map_or (λ (b : Body). nat_eq (length i.resolved) (length b.instrs)) i.body true) (method_at example n) true))
unfolding up_to supers_of example built_in_infos built_in_info built_in_class built_in_methods built_in_method
count_check = tt

-- an int or nothing
unfoldable pub is_plain_result : Option Kind → Bool
is_plain_result None = true
is_plain_result (Some k) = nat_eq k.dims 0 && is_same_primitive bases.Int k.base

unfoldable pub same_results : Option Kind → Option Kind → Bool
same_results None None = true
same_results (Some j) (Some k) = is_plain_result (Some j) && is_plain_result (Some k)
same_results a b = false

unfoldable pub is_selected : ℕ → MethodInfo → MethodInfo → Bool
is_selected c i j = is_above example c j.«class» && (nat_eq (length i.params) 0 && (nat_eq (length j.params) 0 && same_results i.result j.result))

pub select_check : T (up_to 29 (λ n. option_map_or (λ (i : MethodInfo). is_static i.flags || up_to 25 (λ c. option_map_or (λ k. option_map_or (λ j. is_selected c i j) (method_at example k) false) (selected example n c) true)) (method_at example n) true))
unfolding up_to supers_of example built_in_infos built_in_info built_in_class built_in_methods built_in_method is_selected same_results is_plain_result
select_check = tt

-- ---- numbers of classes and methods

place_below : {X : Type 0} (xs : List X) (k : ℕ) (x : X) → slice_get xs k ≡ Some x → k < length xs
place_below [] k x e = absurd (none_some e)
place_below (y ∷ ys) zero x e = omega arith
place_below (y ∷ ys) (suc k) x e = let l = place_below ys k x e in omega arith

pub class_below : (c : ℕ) (e : ClassInfo) → class_at example c ≡ Some e → c < 25
unfolding example built_in_infos
class_below c e p = place_below example.classes c e p

pub method_below : (n : ℕ) (i : MethodInfo) → method_at example n ≡ Some i → n < 29
unfolding example built_in_methods built_in_class
method_below n i p = place_below example.methods n i p

-- where a test of an entry passes, there is an entry
pub there : {X : Type 0} (f : X → Bool) (o : Option X) → T (option_map_or f o false) → (x : X) × (o ≡ Some x) × T (f x)
there f None p = absurd p
there f (Some x) p = (x, refl, p)

above_there : (c d : ℕ) → T (is_above example c d) → (c < 25) × T (list_any (λ s. s == d) (supers_of c))
unfolding supers_of
above_there c d p =
    let r = there (λ (e : ClassInfo). list_any (λ s. s == d) e.supers) (class_at example c) p in
    (class_below c r.0 r.1, subst (λ o. T (list_any (λ s. s == d) (option_map_or (λ (e : ClassInfo). e.supers) o []))) (sym r.1) r.2)

pub above_above : (c d e : ℕ) → T (is_above example c d) → T (is_above example d e) → T (is_above example c e)
above_above c d e p q =
    let a = above_there c d p in
    let b = above_there d e q in
    member_all (λ e. is_above example c e) e (supers_of d) b.1 (member_all (λ d. list_all (λ e. is_above example c e) (supers_of d)) d (supers_of c) a.1 (each_below 25 _ above_check c a.0))

pub implied : (b c : Bool) → T (not b || c) → T b → T c
implied true c p q = p
implied false c p q = absurd q

pub any_up : (d e : ℕ) → T (admits_any example d) → T (is_above example d e) → T (admits_any example e)
any_up d e p q =
    let a = above_there d e q in
    member_all (λ e. admits_any example e) e (supers_of d) a.1 (implied (admits_any example d) _ (each_below 25 (λ d. not (admits_any example d) || list_all (λ e. admits_any example e) (supers_of d)) any_check d a.0) p)

pub at_option : {X : Type 0} (f : X → Bool) (o : Option X) (x : X) → T (option_map_or f o true) → o ≡ Some x → T (f x)
at_option f o x p e = subst (λ o. T (option_map_or f o true)) e p

pub super_above : (c d : ℕ) → super_of example c ≡ Some d → T (is_above example c d)
super_above c d e =
    let r = of_class (class_at example c) refl e in
    at_option (λ d. is_above example c d) (super_of example c) d (each_below 25 (λ c. option_map_or (λ d. is_above example c d) (super_of example c) true) super_check c r) e
  where
    of_class : (o : Option ClassInfo) → class_at example c ≡ o → option_and_then (λ (e : ClassInfo). e.super_class) o ≡ Some d → c < 25
    of_class None x e = absurd (none_some e)
    of_class (Some i) x e = class_below c i x

pub makeable_above : (c : ℕ) → T (is_makeable example c) → T (is_above example c c)
makeable_above c p =
    let r = there (λ (e : ClassInfo). not (is_abstract e.flags)) (class_at example c) (and_both (option_map_or (λ (e : ClassInfo). not (is_abstract e.flags)) (class_at example c) false) _ p).0 in
    implied (is_makeable example c) _ (each_below 25 (λ c. not (is_makeable example c) || is_above example c c) make_check c (class_below c r.0 r.1)) p

-- ---- slots

slots_are : (c : ℕ) → (slots_of example c ≡ []) ⊎ ((slots_of example c ≡ field ∷ []) × (c < 25))
unfolding example built_in_infos built_in_info built_in_class
slots_are zero = inr (refl, omega arith)
slots_are (suc zero) = inr (refl, omega arith)
slots_are (suc (suc n)) = inl (rest n)
  where
    rest : (n : ℕ) → option_map_or (λ (e : ClassInfo). e.slots) (slice_get (face ∷ built_in_infos 3 6) n) [] ≡ []
    rest zero = refl
    rest (suc zero) = refl
    rest (suc (suc zero)) = refl
    rest (suc (suc (suc zero))) = refl
    rest (suc (suc (suc (suc zero)))) = refl
    rest (suc (suc (suc (suc (suc zero))))) = refl
    rest (suc (suc (suc (suc (suc (suc zero)))))) = refl
    rest (suc (suc (suc (suc (suc (suc (suc zero))))))) = refl
    rest (suc (suc (suc (suc (suc (suc (suc (suc zero)))))))) = refl
    rest (suc (suc (suc (suc (suc (suc (suc (suc (suc zero))))))))) = refl
    rest (suc (suc (suc (suc (suc (suc (suc (suc (suc (suc zero)))))))))) = refl
    rest (suc (suc (suc (suc (suc (suc (suc (suc (suc (suc (suc zero))))))))))) = refl
    rest (suc (suc (suc (suc (suc (suc (suc (suc (suc (suc (suc (suc zero)))))))))))) = refl
    rest (suc (suc (suc (suc (suc (suc (suc (suc (suc (suc (suc (suc (suc zero))))))))))))) = refl
    rest (suc (suc (suc (suc (suc (suc (suc (suc (suc (suc (suc (suc (suc (suc zero)))))))))))))) = refl
    rest (suc (suc (suc (suc (suc (suc (suc (suc (suc (suc (suc (suc (suc (suc (suc zero))))))))))))))) = refl
    rest (suc (suc (suc (suc (suc (suc (suc (suc (suc (suc (suc (suc (suc (suc (suc (suc zero)))))))))))))))) = refl
    rest (suc (suc (suc (suc (suc (suc (suc (suc (suc (suc (suc (suc (suc (suc (suc (suc (suc zero))))))))))))))))) = refl
    rest (suc (suc (suc (suc (suc (suc (suc (suc (suc (suc (suc (suc (suc (suc (suc (suc (suc (suc zero)))))))))))))))))) = refl
    rest (suc (suc (suc (suc (suc (suc (suc (suc (suc (suc (suc (suc (suc (suc (suc (suc (suc (suc (suc zero))))))))))))))))))) = refl
    rest (suc (suc (suc (suc (suc (suc (suc (suc (suc (suc (suc (suc (suc (suc (suc (suc (suc (suc (suc (suc zero)))))))))))))))))))) = refl
    rest (suc (suc (suc (suc (suc (suc (suc (suc (suc (suc (suc (suc (suc (suc (suc (suc (suc (suc (suc (suc (suc zero))))))))))))))))))))) = refl
    rest (suc (suc (suc (suc (suc (suc (suc (suc (suc (suc (suc (suc (suc (suc (suc (suc (suc (suc (suc (suc (suc (suc zero)))))))))))))))))))))) = refl
    rest (suc (suc (suc (suc (suc (suc (suc (suc (suc (suc (suc (suc (suc (suc (suc (suc (suc (suc (suc (suc (suc (suc (suc n))))))))))))))))))))))) = refl

no_slot : (c i : ℕ) (s : SlotInfo) → slots_of example c ≡ [] → slice_get (slots_of example c) i ≡ Some s → ⊥
no_slot c i s e p = none_some (subst (λ xs. slice_get xs i ≡ Some s) e p)

only_slot : (i : ℕ) (s : SlotInfo) → slice_get (field ∷ []) i ≡ Some s → field ≡ s
only_slot zero s e = some_same e
only_slot (suc i) s e = absurd (none_some e)

-- a class with a slot
has_slot : (f : ℕ → Bool) → T (up_to 25 (λ c. nat_eq (length (slots_of example c)) 0 || f c)) → (c : ℕ) → slots_of example c ≡ field ∷ [] → c < 25 → T (f c)
has_slot f p c e l = subst (λ xs. T (nat_eq (length xs) 0 || f c)) e (each_below 25 (λ c. nat_eq (length (slots_of example c)) 0 || f c) p c l)

pub inherited : (c d i : ℕ) (s : SlotInfo) → T (is_above example c d) → slice_get (slots_of example d) i ≡ Some s → slice_get (slots_of example c) i ≡ Some s
inherited c d i s p e = elim (slots_are d) [
  | inl z ↦ absurd (no_slot d i s z e)
  | inr z ↦ (let a = above_there c d p in
      let q = member_all (λ d. nat_eq (length (slots_of example d)) 0 || nat_eq (length (slots_of example c)) 1) d (supers_of c) a.1 (each_below 25 _ slots_above_check c a.0) in
      let r : T (nat_eq (length (slots_of example c)) 1) = subst (λ xs. T (nat_eq (length xs) 0 || nat_eq (length (slots_of example c)) 1)) z.0 q in
      elim (slots_are c) [ inl y ↦ absurd (subst (λ xs. T (nat_eq (length xs) 1)) y r) | inr y ↦ subst (λ xs. slice_get xs i ≡ Some s) (z.0 ∙ sym y.0) e ])
]

pub declared : (c i : ℕ) (s : SlotInfo) → slice_get (slots_of example c) i ≡ Some s → IsTrue (is_above example c s.declared_in) × (slice_get (slots_of example s.declared_in) i ≡ Some s)
unfolding example
declared c i s e = elim (slots_are c) [
  | inl z ↦ absurd (no_slot c i s z e)
  | inr z ↦ (let e' : slice_get (field ∷ []) i ≡ Some s = subst (λ xs. slice_get xs i ≡ Some s) z.0 e in
      let f = only_slot i s e' in
      subst (λ (s : SlotInfo). slice_get (field ∷ []) i ≡ Some s → IsTrue (is_above example c s.declared_in) × (slice_get (slots_of example s.declared_in) i ≡ Some s)) f
      (λ e'. (holds (is_above example c 0) (has_slot (λ c. is_above example c 0) declared_check c z.0 z.1), e')) e')
]

pub slotted : (c i : ℕ) (s : SlotInfo) → slice_get (slots_of example c) i ≡ Some s → admits_any example c ≡ false
slotted c i s e = elim (slots_are c) [
  | inl z ↦ absurd (no_slot c i s z e)
  | inr z ↦ is_false (admits_any example c) (has_slot (λ c. not (admits_any example c)) slotted_check c z.0 z.1)
]
  where
    is_false : (b : Bool) → T (not b) → b ≡ false
    is_false true p = absurd p
    is_false false p = refl
