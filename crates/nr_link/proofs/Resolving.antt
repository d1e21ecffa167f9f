-- Looking for a member upward.
use Rattle.std.proofs.Common.{◌≡◌, ℕ, zero, suc, ◌+◌, ◌-◌, ◌<◌, ◌≤◌, ◌⊎◌, inl, inr, Bool, true, false, List, [], ◌∷◌, ◌++◌, length, drop, get_or, find, cond, refl, sym, ap, subst, ◌∙◌, arith, add-one, drop-cons}
use Rattle.std.specs.Prelude.{Option, Some, None, IsTrue, slice_get}
use Rattle.std.specs.List.{flat_map}
use Rattle.std.specs.Option.{option_map_or, option_or, option_to_list}
use Rattle.std.proofs.lemmas.Bool.{false_from_ne_true}
use Rattle.std.proofs.lemmas.Grind.{flat_map-append}
use Rattle.std.proofs.lemmas.List.{drop_all}
use Rattle.std.proofs.lemmas.Option.{get_or_from_slice_get, slice_get_within}
use Rattle.nr_linked.specs.declared.program.tables.ClassInfo.{ClassInfo}
use Rattle.nr_linked.specs.declared.program.tables.ProgramTables.{ProgramTables}
use Rattle.nr_linked.specs.Programs.{class_at, super_of}
use Rattle.nr_linked.specs.Subtypes.{IsDirectlyAbove, further, itself}
use Rattle.nr_links.specs.Resolution.{declares_field, field_classes, interfaces_of}
use Rattle.nr_linked.proofs.Elements.{get_either, passing}
use Rattle.nr_linked.proofs.Ascents.{step_of, super_step}
use Rattle.nr_linkrules.specs.Reaches.{HasSteps, reaches}
use Rattle.nr_link.specs.Barren.{IsBarren}
use Rattle.nr_link.specs.Leading.{LeadAlike}
use Rattle.nr_linkrules.proofs.Reached.{reaches_above}

-- ---- classes above which nothing is found

-- no class of the first n at or above the class declares the field
abbrev pub NoneBelow : ProgramTables → (ℕ → Bool) → ℕ → ℕ → Type 0
NoneBelow P test c n = (d : ℕ) → d < n → IsTrue (reaches P c d) → test d ≡ false

pub none_more : (P : ProgramTables) (test : ℕ → Bool) (c n : ℕ) → (IsTrue (reaches P c n) → test n ≡ false) → NoneBelow P test c n → NoneBelow P test c (n + 1)
none_more P test c n h none d lt p = elim (last d n lt) [
  | inl e ↦ subst (λ d. test d ≡ false) (sym e) (h (subst (λ d. IsTrue (reaches P c d)) e p))
  | inr l ↦ none d l p
]
  where
    last : (d n : ℕ) → d < n + 1 → (d ≡ n) ⊎ (d < n)
    last d n lt = grind arith

pub none_at_first : (P : ProgramTables) (test : ℕ → Bool) (c : ℕ) → NoneBelow P test c 0
none_at_first P test c d lt p = absurd (omega (arith, lt))

-- where the test fails of what is no class
pub barren_of : (P : ProgramTables) (test : ℕ → Bool) (c : ℕ) → HasSteps P → ((d : ℕ) → IsTrue (test d) → d < length P.classes) → NoneBelow P test c (length P.classes) → IsBarren P test c
barren_of P test c short within none d above = false_from_ne_true (test d) (λ p.
    Rattle.std.proofs.lemmas.Bool.both_ways (test d) (none d (within d p) ((reaches_above P short c d).1 above)) p)

pub barren : (P : ProgramTables) (name desc : List ℕ) (c : ℕ) → HasSteps P → NoneBelow P (declares_field P name desc) c (length P.classes) → IsBarren P (declares_field P name desc) c
barren P name desc c short none = barren_of P (declares_field P name desc) c short (λ d p.
    let r = passing (λ (e : ClassInfo). option_map_or (Rattle.nr_links.specs.Resolution.has_field name desc) e.read false) (class_at P d) p in
    slice_get_within P.classes d r.0 r.1) none

-- ---- the search upward

pub find_both : (test : ℕ → Bool) (xs ys : List ℕ) → find test (xs ++ ys) ≡ option_or (find test xs) (find test ys)
find_both test [] ys = refl
find_both test (x ∷ xs) ys = by_head (test x) (find_both test xs ys)
  where
    by_head : (b : Bool) → find test (xs ++ ys) ≡ option_or (find test xs) (find test ys) → cond b (Some x) (find test (xs ++ ys)) ≡ option_or (cond b (Some x) (find test xs)) (find test ys)
    by_head true e = refl
    by_head false e = e

module _ (P : ProgramTables) (test : ℕ → Bool) where
  -- from one step up and from those behind it
  stepwise : (n s : ℕ) (ss : List ℕ) → find test (flat_map (field_classes P n) (s ∷ ss)) ≡ option_or (find test (field_classes P n s)) (find test (flat_map (field_classes P n) ss))
  stepwise n s ss = find_both test (field_classes P n s) (flat_map (field_classes P n) ss)

  pub interface_step : (c k s : ℕ) → slice_get (interfaces_of P c) k ≡ Some s → IsDirectlyAbove P c s
  interface_step c k s at = of_option (class_at P c) refl at
    where
      of_option : (o : Option ClassInfo) → class_at P c ≡ o → slice_get (option_map_or (λ (e : ClassInfo). e.interfaces) o []) k ≡ Some s → IsDirectlyAbove P c s
      of_option None is at = absurd cc
      of_option (Some e) is at = step_of P c s e is (inr (k, slice_get_within e.interfaces k s at, get_or_from_slice_get e.interfaces k s s at))

  super_at : (c k s : ℕ) → slice_get (option_to_list (super_of P c)) k ≡ Some s → super_of P c ≡ Some s
  super_at c k s at = of_option (super_of P c) k at
    where
      of_option : (o : Option ℕ) (k : ℕ) → slice_get (option_to_list o) k ≡ Some s → o ≡ Some s
      of_option None k at = absurd cc
      of_option (Some t) zero at = at
      of_option (Some t) (suc k) at = absurd cc

  ups_step : (c k s : ℕ) → slice_get (interfaces_of P c ++ option_to_list (super_of P c)) k ≡ Some s → IsDirectlyAbove P c s
  ups_step c k s at = elim (get_either (interfaces_of P c) (option_to_list (super_of P c)) k s at) [
    | inl h ↦ interface_step c k s h
    | inr h ↦ super_step P c s (super_at c h.0 s h.2)
  ]

  none_flat : (n : ℕ) (ss : List ℕ) → ((k s : ℕ) → slice_get ss k ≡ Some s → find test (field_classes P n s) ≡ None) → find test (flat_map (field_classes P n) ss) ≡ None
  none_flat n [] h = refl
  none_flat n (s ∷ ss) h = stepwise n s ss ∙ ap (λ o. option_or o (find test (flat_map (field_classes P n) ss))) (h 0 s refl) ∙ none_flat n ss (λ k. h (suc k))

  -- nothing is found above a class above which nothing is
  pub none_found : (n c : ℕ) → IsBarren P test c → find test (field_classes P n c) ≡ None
  none_found zero c none = refl
  none_found (suc n) c none =
      ap (λ b. cond b (Some c) (find test (flat_map (field_classes P n) (interfaces_of P c ++ option_to_list (super_of P c))))) (none c itself)
      ∙ none_flat n (interfaces_of P c ++ option_to_list (super_of P c)) (λ k s at. none_found n s (λ d above. none d (further (ups_step c k s at) above)))

  -- from some classes and from those behind them
  parted : (n : ℕ) (cs ds : List ℕ) → find test (flat_map (field_classes P n) (cs ++ ds)) ≡ option_or (find test (flat_map (field_classes P n) cs)) (find test (flat_map (field_classes P n) ds))
  parted n cs ds = ap (find test) (flat_map-append (field_classes P n) cs ds) ∙ find_both test (flat_map (field_classes P n) cs) (flat_map (field_classes P n) ds)

  -- what is left to look at: the interfaces from place i on, then the superclass
  pub record Left (left c : ℕ) (interfaces : List ℕ) (i : ℕ) : Type 0 where
    pub found : find test (flat_map (field_classes P (left - 1)) (drop i interfaces ++ option_to_list (super_of P c))) ≡ find test (field_classes P left c)
    pub more : 0 < left

  pub begins : (left c : ℕ) (interfaces : List ℕ) → LeadAlike interfaces (interfaces_of P c) → 0 < left → test c ≡ false → Left left c interfaces 0
  begins zero c interfaces e lt none = absurd (omega (arith, lt))
  begins (suc n) c interfaces e lt none =
      let less : suc n - 1 ≡ n = omega arith in
      record {
        found = ap (λ m. find test (flat_map (field_classes P m) (interfaces ++ option_to_list (super_of P c)))) less
            ∙ parted n interfaces (option_to_list (super_of P c))
            ∙ ap (λ o. option_or o (find test (flat_map (field_classes P n) (option_to_list (super_of P c))))) (e (field_classes P n) test)
            ∙ sym (parted n (interfaces_of P c) (option_to_list (super_of P c)))
            ∙ sym (ap (λ b. cond b (Some c) (find test (flat_map (field_classes P n) (interfaces_of P c ++ option_to_list (super_of P c))))) none);
        more = lt;
      }

  one_left : (left c : ℕ) (interfaces : List ℕ) (i s : ℕ) → i < length interfaces → s ≡ get_or interfaces i s → Left left c interfaces i
      → option_or (find test (field_classes P (left - 1) s)) (find test (flat_map (field_classes P (left - 1)) (drop (i + 1) interfaces ++ option_to_list (super_of P c)))) ≡ find test (field_classes P left c)
  one_left left c interfaces i s lt here l =
      let rest = drop (i + 1) interfaces ++ option_to_list (super_of P c) in
      let e : drop i interfaces ≡ s ∷ drop (i + 1) interfaces = rw (drop-cons interfaces i s lt, add-one i) (ap (λ x. x ∷ drop (suc i) interfaces) (sym here)) in
      sym (stepwise (left - 1) s rest) ∙ ap (λ xs. find test (flat_map (field_classes P (left - 1)) (xs ++ option_to_list (super_of P c)))) (sym e) ∙ l.found

  -- nothing was found from the interface at place i
  pub goes_on : (left c : ℕ) (interfaces : List ℕ) (i s : ℕ) → i < length interfaces → s ≡ get_or interfaces i s → find test (field_classes P (left - 1) s) ≡ None → Left left c interfaces i → Left left c interfaces (i + 1)
  goes_on left c interfaces i s lt here none l = record {
    found = sym (ap (λ o. option_or o (find test (flat_map (field_classes P (left - 1)) (drop (i + 1) interfaces ++ option_to_list (super_of P c))))) none) ∙ one_left left c interfaces i s lt here l;
    more = l.more;
  }

  pub finds : (left c : ℕ) (interfaces : List ℕ) (i s d : ℕ) → i < length interfaces → s ≡ get_or interfaces i s → find test (field_classes P (left - 1) s) ≡ Some d → Left left c interfaces i → find test (field_classes P left c) ≡ Some d
  finds left c interfaces i s d lt here some l =
      sym (one_left left c interfaces i s lt here l) ∙ ap (λ o. option_or o (find test (flat_map (field_classes P (left - 1)) (drop (i + 1) interfaces ++ option_to_list (super_of P c))))) some

  -- all interfaces were looked at: the superclass is left
  all_left : (left c : ℕ) (interfaces : List ℕ) (i : ℕ) → length interfaces ≤ i → Left left c interfaces i → find test (flat_map (field_classes P (left - 1)) (option_to_list (super_of P c))) ≡ find test (field_classes P left c)
  all_left left c interfaces i le l = ap (λ xs. find test (flat_map (field_classes P (left - 1)) (xs ++ option_to_list (super_of P c)))) (sym (drop_all i interfaces le)) ∙ l.found

  or_none : (o : Option ℕ) → option_or o None ≡ o
  or_none None = refl
  or_none (Some d) = refl

  pub then_super : (left c s : ℕ) (interfaces : List ℕ) (i : ℕ) (found : Option ℕ) → length interfaces ≤ i → Left left c interfaces i → super_of P c ≡ Some s → found ≡ find test (field_classes P (left - 1) s) → found ≡ find test (field_classes P left c)
  then_super left c s interfaces i found le l above e =
      e ∙ sym (or_none (find test (field_classes P (left - 1) s))) ∙ sym (stepwise (left - 1) s []) ∙ ap (λ o. find test (flat_map (field_classes P (left - 1)) (option_to_list o))) (sym above) ∙ all_left left c interfaces i le l

  pub then_none : (left c : ℕ) (interfaces : List ℕ) (i : ℕ) → length interfaces ≤ i → Left left c interfaces i → super_of P c ≡ None → None ≡ find test (field_classes P left c)
  then_none left c interfaces i le l above = ap (λ o. find test (flat_map (field_classes P (left - 1)) (option_to_list o))) (sym above) ∙ all_left left c interfaces i le l

  pub none_left : (c : ℕ) → None ≡ find test (field_classes P 0 c)
  none_left c = refl

  pub at_once : (left c : ℕ) → 0 < left → test c ≡ true → Some c ≡ find test (field_classes P left c)
  at_once zero c lt e = absurd (omega (arith, lt))
  at_once (suc n) c lt e = sym (ap (λ b. cond b (Some c) (find test (flat_map (field_classes P n) (interfaces_of P c ++ option_to_list (super_of P c))))) e)
