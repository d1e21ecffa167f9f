-- What stands above the built-in classes, in the program of them alone: `supers` lists it.
use Rattle.std.proofs.Common.{◌≡◌, ℕ, zero, suc, ◌+◌, ◌<◌, Bool, true, false, List, [], ◌∷◌, ◌++◌, length, map, refl, sym, ap, subst, ◌∙◌, ◌⊎◌, inl, inr, arith, T, ◌&&◌}
use Rattle.std.specs.Prelude.{Option, Some, None, ◌==◌, ◌||◌, slice_index_or, IsTrue, ◌↔◌, Contains}
use Rattle.std.specs.List.{list_any, flat_map, AllByRecursion}
use Rattle.std.proofs.Math.Facts.{eqb_yes}
use lib.Dec.{eqb_refl}
use Rattle.std.specs.Option.{option_map_or, option_map, option_to_list, IsSomeAnd}
use Rattle.nr_linked.specs.declared.program.built_in.BuiltIn.{BuiltIn}
use Rattle.nr_linked.specs.declared.program.built_in.BuiltIn.TheVariants.{Object, Cloneable, Throwable, Exception, Error, RuntimeException, ArithmeticException, ArrayStoreException, ClassCastException, IllegalArgumentException, IllegalStateException, IndexOutOfBoundsException, NegativeArraySizeException, NullPointerException, ArrayIndexOutOfBoundsException, LinkageError, IncompatibleClassChangeError, AbstractMethodError, Serializable, Restorable, Out, RemoteFault}
use Rattle.nr_linked.specs.BuiltIns.{built_in_class, number}
use Rattle.nr_linked.specs.BuiltInTables.{built_in_info, built_in_infos, built_in_tables, within_steps}
use Rattle.nr_linked.specs.Programs.{class_at}
use Rattle.nr_linked.specs.Subtypes.{Above, IsDirectlyAbove, further, is_above, itself}

-- ---- what stands above a built-in class

abbrev directly_above : BuiltIn → List BuiltIn
directly_above b = option_to_list (built_in_class b).super_class ++ (built_in_class b).interfaces

pub at_number : (b : BuiltIn) → class_at built_in_tables (number b) ≡ Some (built_in_info 0 0 b)
unfolding built_in_tables built_in_infos
at_number Object = refl
at_number Cloneable = refl
at_number Throwable = refl
at_number Exception = refl
at_number Error = refl
at_number RuntimeException = refl
at_number ArithmeticException = refl
at_number ArrayStoreException = refl
at_number ClassCastException = refl
at_number IllegalArgumentException = refl
at_number IllegalStateException = refl
at_number IndexOutOfBoundsException = refl
at_number NegativeArraySizeException = refl
at_number NullPointerException = refl
at_number ArrayIndexOutOfBoundsException = refl
at_number LinkageError = refl
at_number IncompatibleClassChangeError = refl
at_number AbstractMethodError = refl
at_number Serializable = refl
at_number Restorable = refl
at_number Out = refl
at_number RemoteFault = refl

mem : ℕ → List BuiltIn → Bool
mem d [] = false
mem d (a ∷ xs) = number a == d || mem d xs

or_true : (b c : Bool) → (b || c) ≡ true → (b ≡ true) ⊎ (c ≡ true)
or_true true c e = inl refl
or_true false c e = inr e

mem_append : (d : ℕ) (xs bs : List BuiltIn) → mem d (xs ++ bs) ≡ true → (mem d xs ≡ true) ⊎ (mem d bs ≡ true)
unfolding mem
mem_append d [] bs e = inr e
mem_append d (a ∷ xs) bs e = elim (or_true (number a == d) (mem d (xs ++ bs)) e) [
  | inl p ↦ inl (ap (λ b. b || mem d xs) p)
  | inr q ↦ elim (mem_append d xs bs q) [ inl r ↦ inl (or_later (number a == d) (mem d xs) r) | inr r ↦ inr r ]
]
  where
    or_later : (b c : Bool) → c ≡ true → (b || c) ≡ true
    or_later true c e = refl
    or_later false c e = e

same_number : (a b : ℕ) → (a == b) ≡ true → a ≡ b
same_number a b e = eqb_yes (subst T (sym e) tt)

-- what is within some steps stands above
steps : (b : BuiltIn) → AllByRecursion (λ s. IsDirectlyAbove built_in_tables (number b) (number s)) (directly_above b)
unfolding built_in_tables built_in_infos built_in_class built_in_info
steps Object = tt
steps Cloneable = (inl refl, tt)
steps Throwable = (inl refl, tt)
steps Exception = (inl refl, tt)
steps Error = (inl refl, tt)
steps RuntimeException = (inl refl, tt)
steps ArithmeticException = (inl refl, tt)
steps ArrayStoreException = (inl refl, tt)
steps ClassCastException = (inl refl, tt)
steps IllegalArgumentException = (inl refl, tt)
steps IllegalStateException = (inl refl, tt)
steps IndexOutOfBoundsException = (inl refl, tt)
steps NegativeArraySizeException = (inl refl, tt)
steps NullPointerException = (inl refl, tt)
steps ArrayIndexOutOfBoundsException = (inl refl, tt)
steps LinkageError = (inl refl, tt)
steps IncompatibleClassChangeError = (inl refl, tt)
steps AbstractMethodError = (inl refl, tt)
steps Serializable = (inl refl, tt)
steps Restorable = (inl refl, (inr (0, omega arith, refl), tt))
steps Out = (inl refl, tt)
steps RemoteFault = (inl refl, tt)

module _ (n b_number d : ℕ) (up : (s : BuiltIn) → mem d (within_steps n s) ≡ true → Above built_in_tables (number s) d) where
  through : (ss : List BuiltIn) → AllByRecursion (λ s. IsDirectlyAbove built_in_tables b_number (number s)) ss → mem d (flat_map (within_steps n) ss) ≡ true → Above built_in_tables b_number d
  unfolding mem
  through [] all e = absurd (cc)
  through (s ∷ ss) all e = elim (mem_append d (within_steps n s) (flat_map (within_steps n) ss) e) [ inl p ↦ further all.0 (up s p) | inr q ↦ through ss all.1 q ]

here : (b : BuiltIn) (d : ℕ) → (number b == d) ≡ true → Above built_in_tables (number b) d
here b d e = subst (λ d. Above built_in_tables (number b) d) (same_number (number b) d e) itself

listed_above : (n : ℕ) (b : BuiltIn) (d : ℕ) → mem d (within_steps n b) ≡ true → Above built_in_tables (number b) d
unfolding mem
listed_above zero b d e = elim (or_true (number b == d) false e) [ inl p ↦ here b d p | inr q ↦ absurd (cc) ]
listed_above (suc n) b d e = elim (or_true (number b == d) (mem d (flat_map (within_steps n) (directly_above b))) e) [
  | inl p ↦ here b d p
  | inr q ↦ through n (number b) d (λ s. listed_above n s d) (directly_above b) (steps b) q
]

-- what stands above is within some steps
subset : List BuiltIn → List BuiltIn → Bool
subset [] ys = true
subset (x ∷ xs) ys = mem (number x) ys && subset xs ys

and_true : (b c : Bool) → (b && c) ≡ true → (b ≡ true) × (c ≡ true)
and_true true c e = (refl, e)
and_true false c e = absurd (cc)

subset_mem : (d : ℕ) (xs ys : List BuiltIn) → subset xs ys ≡ true → mem d xs ≡ true → mem d ys ≡ true
unfolding mem subset
subset_mem d [] ys s e = absurd (cc)
subset_mem d (x ∷ xs) ys s e =
    let both = and_true (mem (number x) ys) (subset xs ys) s in
    elim (or_true (number x == d) (mem d xs) e) [
      | inl p ↦ subst (λ d. mem d ys ≡ true) (same_number (number x) d p) both.0
      | inr q ↦ subset_mem d xs ys both.1 q
    ]

Closed : BuiltIn → BuiltIn → Type 0
Closed b a = subset (within_steps 5 a) (within_steps 5 b) ≡ true

closed : (b : BuiltIn) → AllByRecursion (Closed b) (directly_above b)
unfolding Closed mem subset built_in_class
closed Object = tt
closed Cloneable = (refl, tt)
closed Throwable = (refl, tt)
closed Exception = (refl, tt)
closed Error = (refl, tt)
closed RuntimeException = (refl, tt)
closed ArithmeticException = (refl, tt)
closed ArrayStoreException = (refl, tt)
closed ClassCastException = (refl, tt)
closed IllegalArgumentException = (refl, tt)
closed IllegalStateException = (refl, tt)
closed IndexOutOfBoundsException = (refl, tt)
closed NegativeArraySizeException = (refl, tt)
closed NullPointerException = (refl, tt)
closed ArrayIndexOutOfBoundsException = (refl, tt)
closed LinkageError = (refl, tt)
closed IncompatibleClassChangeError = (refl, tt)
closed AbstractMethodError = (refl, tt)
closed Serializable = (refl, tt)
closed Restorable = (refl, (refl, tt))
closed Out = (refl, tt)
closed RemoteFault = (refl, tt)

module _ (Q : BuiltIn → Type 0) (s : ℕ) where
  of_interface : (bs : List BuiltIn) (k : ℕ) → k < length (map (λ a. 0 + number a) bs) → slice_index_or (map (λ a. 0 + number a) bs) k s ≡ s → AllByRecursion Q bs → (a : BuiltIn) × (number a ≡ s) × Q a
  of_interface [] k l e all = absurd (omega arith)
  of_interface (b ∷ bs) zero l e all = (b, omega (arith, e), all.0)
  of_interface (b ∷ bs) (suc k) l e all = of_interface bs k (omega arith) e all.1

  of_direct : (o : Option BuiltIn) (bs : List BuiltIn) → (option_map (λ a. 0 + number a) o ≡ Some s) ⊎ Contains (map (λ a. 0 + number a) bs) s
      → AllByRecursion Q (option_to_list o ++ bs) → (a : BuiltIn) × (number a ≡ s) × Q a
  of_direct None bs (inl e) all = absurd (cc)
  of_direct None bs (inr (k, l, e)) all = of_interface bs k l e all
  of_direct (Some b) bs (inl e) all = let same : 0 + number b ≡ s = cc in (b, omega (arith, same), all.0)
  of_direct (Some b) bs (inr (k, l, e)) all = of_interface bs k l e all.1

direct : (b : BuiltIn) (s : ℕ) → IsDirectlyAbove built_in_tables (number b) s → (a : BuiltIn) × (number a ≡ s) × Closed b a
unfolding built_in_info
direct b s h =
    of_direct (Closed b) s (built_in_class b).super_class (built_in_class b).interfaces
    (subst (λ o. IsSomeAnd o (λ e. (e.super_class ≡ Some s) ⊎ Contains e.interfaces s)) (at_number b) h) (closed b)

itself_in : (b : BuiltIn) (c : ℕ) → number b ≡ c → mem c (within_steps 5 b) ≡ true
unfolding mem
itself_in b c e = first (number b == c) (mem c (flat_map (within_steps 4) (directly_above b))) (subst (λ c. (number b == c) ≡ true) e (is_same (number b)))
  where
    first : (x y : Bool) → x ≡ true → (x || y) ≡ true
    first true y e = refl
    first false y e = absurd (cc)

    is_so : (x : Bool) → T x → x ≡ true
    is_so true p = refl
    is_so false p = absurd p

    is_same : (n : ℕ) → (n == n) ≡ true
    is_same n = is_so (n == n) (eqb_refl n)

above_listed : (c d : ℕ) → Above built_in_tables c d → (b : BuiltIn) → number b ≡ c → mem d (within_steps 5 b) ≡ true
unfolding Closed
above_listed c d itself b e = itself_in b _ e
above_listed c d (further {s = s} step rest) b e =
    onward (direct b s (subst (λ c. IsDirectlyAbove built_in_tables c s) (sym e) step)) (above_listed s d rest)
  where
    onward : (a : BuiltIn) × (number a ≡ s) × Closed b a → ((a : BuiltIn) → number a ≡ s → mem d (within_steps 5 a) ≡ true) → mem d (within_steps 5 b) ≡ true
    onward (a, same, sub) below = subset_mem d (within_steps 5 a) (within_steps 5 b) sub (below a same)

-- the list of what stands above, as a test of a run looks into it
any_mem : (d : ℕ) (xs : List BuiltIn) → list_any (λ s. s == d) (map (λ a. 0 + number a) xs) ≡ mem d xs
unfolding mem
any_mem d [] = refl
any_mem d (x ∷ xs) = let e : 0 + number x ≡ number x = omega arith in rw (e, any_mem d xs) refl

is_above_mem : (b : BuiltIn) (d : ℕ) → is_above built_in_tables (number b) d ≡ mem d (within_steps 5 b)
unfolding built_in_info
is_above_mem b d = ap (λ o. option_map_or (λ e. list_any (λ s. s == d) e.supers) o false) (at_number b) ∙ any_mem d (within_steps 5 b)

pub supers : (b : BuiltIn) (d : ℕ) → IsTrue (is_above built_in_tables (number b) d) ↔ Above built_in_tables (number b) d
supers b d = (λ t. listed_above 5 b d (sym (is_above_mem b d) ∙ t), λ h. is_above_mem b d ∙ above_listed (number b) d h b refl)
