-- Looking for a method upward through interfaces.
use Rattle.std.proofs.Common.{◌≡◌, ℕ, zero, suc, ◌+◌, ◌-◌, ◌<◌, ◌≤◌, Bool, true, false, List, [], ◌∷◌, ◌++◌, length, drop, get_or, find, cond, refl, sym, ap, subst, ◌∙◌, arith, add-one, drop-cons}
use Rattle.std.specs.Prelude.{Option, Some, None, IsTrue, slice_get, is_some}
use Rattle.std.specs.List.{flat_map}
use Rattle.std.specs.Option.{option_and_then, option_map_or, option_or}
use Rattle.std.proofs.lemmas.List.{drop_all}
use Rattle.std.proofs.lemmas.Option.{slice_get_within}
use Rattle.nr_linked.specs.declared.program.tables.ClassInfo.{ClassInfo}
use Rattle.nr_linked.specs.declared.program.tables.ProgramTables.{ProgramTables}
use Rattle.nr_linked.specs.Linked.{declared}
use Rattle.nr_linked.specs.Programs.{class_at, is_interface, methods_of}
use Rattle.nr_linked.specs.Subtypes.{further, itself}
use Rattle.nr_links.specs.Resolution.{classes_for, interface_and_above, interfaces_of, is_called_at, method_classes, resolved_method, superinterfaces}
use Rattle.nr_linkrules.specs.Reaches.{HasSteps}
use Rattle.nr_link.specs.Barren.{IsBarren}
use Rattle.nr_link.specs.Declaring.{declares_method}
use Rattle.nr_link.proofs.Loops.{append_nil}
use Rattle.nr_link.proofs.Resolving.{NoneBelow, barren_of, find_both, interface_step}

-- ---- classes above which nothing is found

-- a class that declares a method is one of the program
declares_within : (P : ProgramTables) (name desc : List ℕ) (c : ℕ) → IsTrue (declares_method P name desc c) → c < length P.classes
declares_within P name desc c p = of_entry (class_at P c) refl p
  where
    of_entry : (o : Option ClassInfo) → class_at P c ≡ o
        → IsTrue (is_some (find (is_called_at P name desc) (option_map_or (λ (e : ClassInfo). Rattle.std.specs.List.range_with_len e.first_method e.methods) o []))) → c < length P.classes
    of_entry None is p = absurd cc
    of_entry (Some e) is p = slice_get_within P.classes c e is

pub barren : (P : ProgramTables) (name desc : List ℕ) (c : ℕ) → HasSteps P → NoneBelow P (declares_method P name desc) c (length P.classes) → IsBarren P (declares_method P name desc) c
barren P name desc c steps none = barren_of P (declares_method P name desc) c steps (declares_within P name desc) none

-- ---- the search through interfaces

module _ (P : ProgramTables) (test : ℕ → Bool) where
  none_flat : (n : ℕ) (ss : List ℕ) → ((k s : ℕ) → slice_get ss k ≡ Some s → find test (interface_and_above P n s) ≡ None) → find test (flat_map (interface_and_above P n) ss) ≡ None
  none_flat n [] h = refl
  none_flat n (s ∷ ss) h =
      find_both test (interface_and_above P n s) (flat_map (interface_and_above P n) ss)
      ∙ ap (λ o. option_or o (find test (flat_map (interface_and_above P n) ss))) (h 0 s refl) ∙ none_flat n ss (λ k. h (suc k))

  -- nothing is found above an interface above which nothing is
  none_found : (n c : ℕ) → IsBarren P test c → find test (interface_and_above P n c) ≡ None
  none_found zero c none = refl
  none_found (suc n) c none =
      ap (λ b. cond b (Some c) (find test (flat_map (interface_and_above P n) (interfaces_of P c)))) (none c itself)
      ∙ none_flat n (interfaces_of P c) (λ k s at. none_found n s (λ d above. none d (further (interface_step P test c k s at) above)))

  -- what is left to look at: the interfaces from place i on
  pub record Left (left : ℕ) (interfaces : List ℕ) (i : ℕ) : Type 0 where
    pub found : find test (flat_map (interface_and_above P left) (drop i interfaces)) ≡ find test (flat_map (interface_and_above P left) interfaces)
    pub more : 0 < left

  -- what is found at or above the interface at place i
  one_left : (left : ℕ) (interfaces : List ℕ) (i s : ℕ) → i < length interfaces → s ≡ get_or interfaces i s → Left left interfaces i
      → option_or (find test (interface_and_above P left s)) (find test (flat_map (interface_and_above P left) (drop (i + 1) interfaces))) ≡ find test (flat_map (interface_and_above P left) interfaces)
  one_left left interfaces i s lt here l =
      let e : drop i interfaces ≡ s ∷ drop (i + 1) interfaces = rw (drop-cons interfaces i s lt, add-one i) (ap (λ x. x ∷ drop (suc i) interfaces) (sym here)) in
      sym (find_both test (interface_and_above P left s) (flat_map (interface_and_above P left) (drop (i + 1) interfaces)))
      ∙ ap (λ xs. find test (flat_map (interface_and_above P left) xs)) (sym e) ∙ l.found

  goes_on : (left : ℕ) (interfaces : List ℕ) (i s : ℕ) → i < length interfaces → s ≡ get_or interfaces i s → find test (interface_and_above P left s) ≡ None → Left left interfaces i → Left left interfaces (i + 1)
  goes_on left interfaces i s lt here none l = record {
    found = sym (ap (λ o. option_or o (find test (flat_map (interface_and_above P left) (drop (i + 1) interfaces)))) none) ∙ one_left left interfaces i s lt here l;
    more = l.more;
  }

  finds : (left : ℕ) (interfaces : List ℕ) (i s d : ℕ) → i < length interfaces → s ≡ get_or interfaces i s → find test (interface_and_above P left s) ≡ Some d → Left left interfaces i
      → Some d ≡ find test (flat_map (interface_and_above P left) interfaces)
  finds left interfaces i s d lt here some l =
      sym (ap (λ o. option_or o (find test (flat_map (interface_and_above P left) (drop (i + 1) interfaces)))) some) ∙ one_left left interfaces i s lt here l

  -- the interface itself, then those above it
  opened : (left s : ℕ) → 0 < left → find test (interface_and_above P left s) ≡ cond (test s) (Some s) (find test (flat_map (interface_and_above P (left - 1)) (interfaces_of P s)))
  opened zero s lt = absurd (omega (arith, lt))
  opened (suc n) s lt =
      let less : suc n - 1 ≡ n = omega arith in
      ap (λ m. cond (test s) (Some s) (find test (flat_map (interface_and_above P m) (interfaces_of P s)))) (sym less)

  -- the interface is passed over: nothing stands at or above it
  pub passes_over : (left : ℕ) (interfaces : List ℕ) (i s : ℕ) → i < length interfaces → s ≡ get_or interfaces i s → IsBarren P test s → Left left interfaces i → Left left interfaces (i + 1)
  passes_over left interfaces i s lt here none l = goes_on left interfaces i s lt here (none_found left s none) l

  -- nothing was found at it and above it
  pub goes_by : (left : ℕ) (interfaces : List ℕ) (i s : ℕ) → i < length interfaces → s ≡ get_or interfaces i s → test s ≡ false
      → find test (flat_map (interface_and_above P (left - 1)) (interfaces_of P s)) ≡ None → Left left interfaces i → Left left interfaces (i + 1)
  goes_by left interfaces i s lt here not_it none l =
      goes_on left interfaces i s lt here (opened left s l.more ∙ (λ j. cond (not_it j) (Some s) (none j))) l

  pub finds_it : (left : ℕ) (interfaces : List ℕ) (i s : ℕ) → i < length interfaces → s ≡ get_or interfaces i s → test s ≡ true → Left left interfaces i
      → Some s ≡ find test (flat_map (interface_and_above P left) interfaces)
  finds_it left interfaces i s lt here is_it l =
      finds left interfaces i s s lt here (opened left s l.more ∙ ap (λ b. cond b (Some s) (find test (flat_map (interface_and_above P (left - 1)) (interfaces_of P s)))) is_it) l

  pub finds_above : (left : ℕ) (interfaces : List ℕ) (i s d : ℕ) → i < length interfaces → s ≡ get_or interfaces i s → test s ≡ false
      → find test (flat_map (interface_and_above P (left - 1)) (interfaces_of P s)) ≡ Some d → Left left interfaces i
      → Some d ≡ find test (flat_map (interface_and_above P left) interfaces)
  finds_above left interfaces i s d lt here not_it some l =
      finds left interfaces i s d lt here (opened left s l.more ∙ (λ j. cond (not_it j) (Some s) (some j))) l

  pub ends : (left : ℕ) (interfaces : List ℕ) (i : ℕ) → length interfaces ≤ i → Left left interfaces i → None ≡ find test (flat_map (interface_and_above P left) interfaces)
  ends left interfaces i le l = ap (λ xs. find test (flat_map (interface_and_above P left) xs)) (sym (drop_all i interfaces le)) ∙ l.found

  pub none_left : (left : ℕ) (interfaces : List ℕ) → left ≡ 0 → None ≡ find test (flat_map (interface_and_above P left) interfaces)
  none_left left interfaces e = sym (ap (λ n. find test (flat_map (interface_and_above P n) interfaces)) e ∙ nothing interfaces)
    where
      nothing : (ss : List ℕ) → find test (flat_map (interface_and_above P 0) ss) ≡ None
      nothing [] = refl
      nothing (s ∷ ss) = nothing ss

-- ---- the search upward, class by class

pub none_here : (test : ℕ → Bool) (c : ℕ) (left later : List ℕ) (total : Option ℕ) → left ≡ c ∷ later → test c ≡ false → find test left ≡ total → find test later ≡ total
none_here test c left later total step none so_far =
    sym (ap (λ b. cond b (Some c) (find test later)) none) ∙ ap (find test) (sym step) ∙ so_far

pub it_is_here : (test : ℕ → Bool) (c : ℕ) (left later : List ℕ) (total : Option ℕ) → left ≡ c ∷ later → test c ≡ true → find test left ≡ total → Some c ≡ total
it_is_here test c left later total step is so_far =
    sym (ap (λ b. cond b (Some c) (find test later)) is) ∙ ap (find test) (sym step) ∙ so_far

-- ---- parts

pub find_first : (test : ℕ → Bool) (xs ys : List ℕ) (m : ℕ) → find test xs ≡ Some m → find test (xs ++ ys) ≡ Some m
find_first test xs ys m e = find_both test xs ys ∙ ap (λ o. option_or o (find test ys)) e

pub find_second : (test : ℕ → Bool) (xs ys : List ℕ) → find test xs ≡ None → find test (xs ++ ys) ≡ find test ys
find_second test xs ys e = find_both test xs ys ∙ ap (λ o. option_or o (find test ys)) e

-- an interface by itself
pub of_interface : (P : ProgramTables) (test : ℕ → Bool) (n c : ℕ) → find test (flat_map (interface_and_above P n) (c ∷ [])) ≡ find test (interface_and_above P n c)
of_interface P test n c = ap (find test) (append_nil (interface_and_above P n c))

-- ---- the method of the class that declares it

module _ (P : ProgramTables) (name desc : List ℕ) where
  -- the methods of classes one after the other, by the first class that has one
  by_class : (cs : List ℕ) → find (is_called_at P name desc) (flat_map (methods_of P) cs) ≡ option_and_then (λ c. declared P c name desc) (find (declares_method P name desc) cs)
  by_class [] = refl
  by_class (c ∷ cs) = find_both (is_called_at P name desc) (methods_of P c) (flat_map (methods_of P) cs) ∙ by_found (declared P c name desc) refl (by_class cs)
    where
      by_found : (o : Option ℕ) → declared P c name desc ≡ o → find (is_called_at P name desc) (flat_map (methods_of P) cs) ≡ option_and_then (λ c. declared P c name desc) (find (declares_method P name desc) cs)
          → option_or o (find (is_called_at P name desc) (flat_map (methods_of P) cs)) ≡ option_and_then (λ c. declared P c name desc) (cond (is_some o) (Some c) (find (declares_method P name desc) cs))
      by_found None is e = e
      by_found (Some m) is e = sym is

  pub found_in : (c d : ℕ) (m : Option ℕ) → Some d ≡ find (declares_method P name desc) (classes_for P c name) → m ≡ declared P d name desc → m ≡ resolved_method P c name desc
  found_in c d m at e = e ∙ ap (option_and_then (λ c. declared P c name desc)) at ∙ sym (by_class (classes_for P c name))

  pub found_nowhere : (c : ℕ) → None ≡ find (declares_method P name desc) (classes_for P c name) → None ≡ resolved_method P c name desc
  found_nowhere c e = ap (option_and_then (λ c. declared P c name desc)) e ∙ sym (by_class (classes_for P c name))
