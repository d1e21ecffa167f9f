-- Each step up of an outline leads to a class of it, and its entries have the names of the classes.
use Rattle.std.proofs.Common.{◌≡◌, ℕ, zero, suc, ◌+◌, ◌<◌, Bool, true, false, List, [], ◌∷◌, ◌++◌, length, map, refl, sym, ap, subst, ◌∙◌, arith, length-append}
use Rattle.std.specs.Prelude.{Option, Some, None, IsTrue, slice_get, nat_lt, ◌==◌, ◌||◌}
use Rattle.std.specs.List.{flat_map, list_all, list_any}
use Rattle.std.specs.Option.{option_and_then, option_map, option_map_or, option_to_list}
use Rattle.std.specs.Str.{bytes_eq}
use Rattle.std.proofs.lemmas.Bool.{and_parts, and_from, eqb-true, lt-ltb, ltb-true}
use Rattle.std.proofs.lemmas.List.{length-map}
use Rattle.std.proofs.lemmas.List.Quantifiers.{position-Some}
use Rattle.nr_prog.specs.declared.body.loaded.Loaded.{Loaded}
use Rattle.nr_prog.specs.declared.pool.PoolEntry.{PoolEntry}
use Rattle.nr_prog.specs.BodyNames.{class_text_at}
use Rattle.nr_linked.specs.declared.program.built_in.BuiltIn.{BuiltIn}
use Rattle.nr_linked.specs.declared.program.built_in.BuiltIn.TheVariants.{Object, Cloneable, Throwable, Exception, Error, RuntimeException, ArithmeticException, ArrayStoreException, ClassCastException, IllegalArgumentException, IllegalStateException, IndexOutOfBoundsException, NegativeArraySizeException, NullPointerException, ArrayIndexOutOfBoundsException, LinkageError, IncompatibleClassChangeError, AbstractMethodError, Serializable, Restorable, Out, RemoteFault}
use Rattle.nr_linked.specs.declared.program.tables.ClassInfo.{ClassInfo}
use Rattle.nr_linked.specs.BuiltIns.{built_in_class, built_in_count, number}
use Rattle.nr_linked.specs.BuiltInTables.{built_in_info, built_in_infos, built_ins}
use Rattle.nr_linked.specs.Programs.{class_at}
use Rattle.nr_links.specs.Entries.{method_count}
use Rattle.nr_linkrules.specs.Outline.{class_number, names_of, number_in, outline, outline_class, outline_classes, own_name, own_names}
use Rattle.nr_linkrules.specs.Reaches.{HasSteps}
use Rattle.nr_link.proofs.Outlines.{class_count}

-- ---- numbers below a bound

abbrev are_below : ℕ → List ℕ → Bool
are_below n ss = list_all (λ s. nat_lt s n) ss

both_below : (n : ℕ) (xs ys : List ℕ) → are_below n xs ≡ true → are_below n ys ≡ true → are_below n (xs ++ ys) ≡ true
both_below n [] ys e f = f
both_below n (x ∷ xs) ys e f = let p = and_parts (nat_lt x n) (are_below n xs) e in and_from (nat_lt x n) (are_below n (xs ++ ys)) p.0 (both_below n xs ys p.1 f)

below : (n s : ℕ) (ss : List ℕ) → are_below n ss ≡ true → IsTrue (list_any (λ t. t == s) ss) → s < n
below n s [] e h = absurd cc
below n s (t ∷ ss) e h =
    by_test (t == s) refl (and_parts (nat_lt t n) (are_below n ss) e) h (λ others among. below n s ss others among)
  where
    by_test : (b : Bool) → (t == s) ≡ b → (nat_lt t n ≡ true) × (are_below n ss ≡ true) → IsTrue (b || list_any (λ t. t == s) ss)
        → (are_below n ss ≡ true → IsTrue (list_any (λ t. t == s) ss) → s < n) → s < n
    by_test true is p h others = subst (λ s. s < n) (eqb-true t s is) (ltb-true t n p.0)
    by_test false is p h others = others p.1 h

abbrev is_short : ℕ → ClassInfo → Bool
is_short n e = are_below n (option_to_list e.super_class ++ e.interfaces)

-- ---- loaded classes

numbers_below : (names : List (List ℕ)) (pool : List PoolEntry) (i : ℕ) → are_below (length names) (option_to_list (class_number names pool i)) ≡ true
numbers_below names pool i = of_text (class_text_at pool i)
  where
    of_number : (name : List ℕ) (found : Option ℕ) → number_in names name ≡ found → are_below (length names) (option_to_list found) ≡ true
    of_number name None is = refl
    of_number name (Some s) is =
        and_from (nat_lt s (length names)) true (lt-ltb s (length names) (position-Some (λ n. bytes_eq n name) names s [] is).0) refl

    of_text : (t : Option (List ℕ)) → are_below (length names) (option_to_list (option_and_then (number_in names) t)) ≡ true
    of_text None = refl
    of_text (Some text) = of_number text (number_in names text) refl

all_below : (names : List (List ℕ)) (pool : List PoolEntry) (is : List ℕ) → are_below (length names) (flat_map (λ i. option_to_list (class_number names pool i)) is) ≡ true
all_below names pool [] = refl
all_below names pool (i ∷ is) = both_below (length names) (option_to_list (class_number names pool i)) (flat_map (λ i. option_to_list (class_number names pool i)) is) (numbers_below names pool i) (all_below names pool is)

loaded_short : (names : List (List ℕ)) (first : ℕ) (classes : List Loaded) → list_all (is_short (length names)) (outline_classes names first classes) ≡ true
unfolding outline_classes outline_class
loaded_short names first [] = refl
loaded_short names first (l ∷ ls) =
    and_from (is_short (length names) (outline_class names first l.«class»)) (list_all (is_short (length names)) (outline_classes names (first + length l.«class».methods) ls))
    (both_below (length names) (option_to_list (class_number names l.«class».pool l.«class».super_class)) _ (numbers_below names l.«class».pool l.«class».super_class) (all_below names l.«class».pool l.«class».interfaces))
    (loaded_short names (first + length l.«class».methods) ls)

-- ---- built-in classes

few : (b : BuiltIn) → nat_lt (number b) built_in_count ≡ true
few Object = refl
few Cloneable = refl
few Throwable = refl
few Exception = refl
few Error = refl
few RuntimeException = refl
few ArithmeticException = refl
few ArrayStoreException = refl
few ClassCastException = refl
few IllegalArgumentException = refl
few IllegalStateException = refl
few IndexOutOfBoundsException = refl
few NegativeArraySizeException = refl
few NullPointerException = refl
few ArrayIndexOutOfBoundsException = refl
few LinkageError = refl
few IncompatibleClassChangeError = refl
few AbstractMethodError = refl
few Serializable = refl
few Restorable = refl
few Out = refl
few RemoteFault = refl

built_in_short : (first n : ℕ) → n ≡ first + built_in_count → (m : ℕ) (b : BuiltIn) → is_short n (built_in_info first m b) ≡ true
unfolding built_in_info
built_in_short first n e m b = both_below n (option_to_list (option_map (λ a. first + number a) (built_in_class b).super_class)) (map (λ a. first + number a) (built_in_class b).interfaces)
    (of_super (built_in_class b).super_class) (of_faces (built_in_class b).interfaces)
  where
    here : (a : BuiltIn) → nat_lt (first + number a) n ≡ true
    here a = let small = ltb-true (number a) built_in_count (few a) in lt-ltb (first + number a) n (omega (arith, e, small))

    of_super : (o : Option BuiltIn) → are_below n (option_to_list (option_map (λ a. first + number a) o)) ≡ true
    of_super None = refl
    of_super (Some a) = and_from (nat_lt (first + number a) n) true (here a) refl

    of_faces : (bs : List BuiltIn) → are_below n (map (λ a. first + number a) bs) ≡ true
    of_faces [] = refl
    of_faces (a ∷ bs) = and_from (nat_lt (first + number a) n) (are_below n (map (λ a. first + number a) bs)) (here a) (of_faces bs)

built_ins_short : (first n m : ℕ) → n ≡ first + built_in_count → (bs : List BuiltIn) → list_all (is_short n) (map (built_in_info first m) bs) ≡ true
built_ins_short first n m e [] = refl
built_ins_short first n m e (b ∷ bs) = and_from (is_short n (built_in_info first m b)) (list_all (is_short n) (map (built_in_info first m) bs)) (built_in_short first n e m b) (built_ins_short first n m e bs)

-- ---- the whole

all_both : (p : ClassInfo → Bool) (xs ys : List ClassInfo) → list_all p xs ≡ true → list_all p ys ≡ true → list_all p (xs ++ ys) ≡ true
all_both p [] ys e f = f
all_both p (x ∷ xs) ys e f = let q = and_parts (p x) (list_all p xs) e in and_from (p x) (list_all p (xs ++ ys)) q.0 (all_both p xs ys q.1 f)

at_place : (p : ClassInfo → Bool) (es : List ClassInfo) → list_all p es ≡ true → (c : ℕ) (e : ClassInfo) → slice_get es c ≡ Some e → p e ≡ true
at_place p [] all c e at = absurd cc
at_place p (x ∷ es) all zero e at = subst (λ y. p y ≡ true) (Rattle.std.proofs.lemmas.Option.same_Some x e at) (and_parts (p x) (list_all p es) all).0
at_place p (x ∷ es) all (suc c) e at = at_place p es (and_parts (p x) (list_all p es) all).1 c e at

module _ (classes : List Loaded) where
  name_count : length (names_of classes) ≡ length classes + built_in_count
  name_count = length-append (own_names classes) (map (λ b. (built_in_class b).name) built_ins)
      ∙ ap (λ n. n + built_in_count) (length-map classes (λ (l : Loaded). own_name l.«class»))

  pub entry_count : length (outline classes).classes ≡ length classes + built_in_count
  unfolding outline built_in_infos
  entry_count = length-append (outline_classes (names_of classes) 0 classes) (built_in_infos (length classes) (method_count classes))
      ∙ ap (λ n. n + built_in_count) (class_count (names_of classes) 0 classes)

  all_short : list_all (is_short (length classes + built_in_count)) (outline classes).classes ≡ true
  unfolding outline built_in_infos
  all_short = all_both (is_short (length classes + built_in_count)) (outline_classes (names_of classes) 0 classes) (built_in_infos (length classes) (method_count classes))
      (subst (λ n. list_all (is_short n) (outline_classes (names_of classes) 0 classes) ≡ true) name_count (loaded_short (names_of classes) 0 classes))
      (built_ins_short (length classes) (length classes + built_in_count) (method_count classes) refl built_ins)

  pub has_steps : HasSteps (outline classes)
  has_steps c s h = of_entry (class_at (outline classes) c) refl h
    where
      of_entry : (o : Option ClassInfo) → class_at (outline classes) c ≡ o → IsTrue (list_any (λ t. t == s) (option_map_or (λ (e : ClassInfo). option_to_list e.super_class ++ e.interfaces) o [])) → s < length (outline classes).classes
      of_entry None is h = absurd cc
      of_entry (Some e) is h =
          subst (λ n. s < n) (sym entry_count) (below (length classes + built_in_count) s (option_to_list e.super_class ++ e.interfaces)
          (at_place (is_short (length classes + built_in_count)) (outline classes).classes all_short c e is) h)

  -- ---- names

  loaded_names : (names : List (List ℕ)) (first : ℕ) (ls : List Loaded) → map (λ (e : ClassInfo). e.name) (outline_classes names first ls) ≡ own_names ls
  unfolding outline_classes outline_class
  loaded_names names first [] = refl
  loaded_names names first (l ∷ ls) = ap (λ ns. own_name l.«class» ∷ ns) (loaded_names names (first + length l.«class».methods) ls)

  built_in_names : (first m : ℕ) (bs : List BuiltIn) → map (λ (e : ClassInfo). e.name) (map (built_in_info first m) bs) ≡ map (λ b. (built_in_class b).name) bs
  unfolding built_in_info
  built_in_names first m [] = refl
  built_in_names first m (b ∷ bs) = ap (λ ns. (built_in_class b).name ∷ ns) (built_in_names first m bs)

  map_both : (xs ys : List ClassInfo) → map (λ (e : ClassInfo). e.name) (xs ++ ys) ≡ map (λ (e : ClassInfo). e.name) xs ++ map (λ (e : ClassInfo). e.name) ys
  map_both [] ys = refl
  map_both (x ∷ xs) ys = ap (λ ns. x.name ∷ ns) (map_both xs ys)

  pub names_are : map (λ (e : ClassInfo). e.name) (outline classes).classes ≡ names_of classes
  unfolding outline built_in_infos
  names_are = map_both (outline_classes (names_of classes) 0 classes) (built_in_infos (length classes) (method_count classes))
      ∙ ap (λ ns. ns ++ map (λ (e : ClassInfo). e.name) (built_in_infos (length classes) (method_count classes))) (loaded_names (names_of classes) 0 classes)
      ∙ ap (λ ns. own_names classes ++ ns) (built_in_names (length classes) (method_count classes) built_ins)
