-- The built-in classes behind others are linked as they are alone.
use Rattle.std.proofs.Common.{◌≡◌, ℕ, zero, suc, ◌+◌, ◌-◌, ◌<◌, ◌≤◌, Bool, true, false, cond, find, List, [], ◌∷◌, ◌++◌, length, map, drop, refl, sym, ap, subst, ◌∙◌, arith, inl, inr, ◌&&◌, ◌||◌, not}
use Rattle.std.specs.Prelude.{Option, Some, None, IsTrue, slice_get, ◌==◌, nat_lt, is_none, is_some, ◌↔◌}
use Rattle.std.specs.List.{list_all, list_any, range_with_len}
use Rattle.std.specs.Option.{option_and_then, option_map, option_map_or, option_to_list}
use Rattle.std.proofs.lemmas.Bool.{and_parts, cases_Bool, cases_lt, eq-eqb, eqb-false, eqb-true, false_from_ne_true, lt-ltb, or_cases, or_left, or_right}
use Rattle.std.proofs.lemmas.Option.{same_Some, slice_get-map, slice_get_within}
use Rattle.nr_base.specs.Descs.{method_text}
use Rattle.nr_linked.specs.declared.program.built_in.BuiltIn.TheVariants.{Object}
use Rattle.nr_linked.specs.declared.program.kind.Base.{Base}
use Rattle.nr_linked.specs.declared.program.kind.Base.TheVariants as bases
use Rattle.nr_linked.specs.declared.program.kind.Kind.{Kind}
use Rattle.nr_linked.specs.declared.program.tables.ClassInfo.{ClassInfo}
use Rattle.nr_linked.specs.declared.program.tables.MethodInfo.{MethodInfo}
use Rattle.nr_linked.specs.declared.program.tables.ProgramTables.{ProgramTables}
use Rattle.nr_linked.specs.declared.program.tables.SlotInfo.{SlotInfo}
use Rattle.nr_prog.specs.Members.{has_flag, is_abstract}
use Rattle.nr_linked.specs.BuiltIns.{BuiltInMethod, built_in, built_in_class, built_in_count, number}
use Rattle.nr_linked.specs.BuiltInTables.{built_in_info, built_in_infos, built_in_method, built_in_methods, built_in_tables, built_ins}
use Rattle.nr_linked.specs.KindTexts.{base_desc, kind_desc}
use Rattle.nr_linked.specs.Kinds.{class_in}
use Rattle.nr_linked.specs.Linked.{IsClassLinked, IsMethodLinked, declared, inherited_slots, is_class_in, is_kind_in, is_loaded, is_method_of, is_super_in, own_slots}
use Rattle.nr_linked.specs.Programs.{class_at, class_named, is_interface, method_at, methods_of, super_of, superclasses, upward}
use Rattle.nr_linked.specs.Selection.{is_called}
use Rattle.nr_linked.specs.Slots.{slots_of}
use Rattle.nr_linked.specs.Subtypes.{Above, further, is_above, itself}
use Rattle.nr_linked.proofs.Witness as witness
use Rattle.nr_linked.proofs.BuiltInEntries.{on_all}
use Rattle.nr_linked.proofs.Listed.{is_listed, listed_all}
use Rattle.nr_linked.proofs.Ascents.{has_entry}
use Rattle.nr_linkrules.proofs.Rising.{range_listed}
use Rattle.nr_linked.proofs.Elements.{get_below, get_flat, get_mapped, passes_at}
use Rattle.nr_links.proofs.Reaching.{direct_step, step_direct}
use Rattle.nr_linkrules.specs.Reaches.{is_step, steps_up}
use Rattle.nr_linkrules.proofs.Behind.{not_below, lt_behind, eq_behind, any_behind, all_behind, range_behind, find_behind, listed_behind}

-- ---- entries behind n classes and m methods

abbrev pub shift_class : ℕ → ℕ → ClassInfo → ClassInfo
shift_class n m e = record e {
  super_class = option_map (λ a. n + a) e.super_class;
  interfaces = map (λ a. n + a) e.interfaces;
  supers = map (λ a. n + a) e.supers;
  first_method = m + e.first_method;
}

abbrev shift_method : ℕ → MethodInfo → MethodInfo
shift_method n i = record i { «class» = n + i.«class» }

abbrev T : ProgramTables
T = built_in_tables

shifted_infos : (n m : ℕ) → built_in_infos n m ≡ map (shift_class n m) T.classes
unfolding built_in_tables built_in_infos built_in_info built_in_class
shifted_infos n m = refl

shifted_methods : (n : ℕ) → built_in_methods n ≡ map (shift_method n) T.methods
unfolding built_in_tables built_in_methods built_in_method built_in_class
shifted_methods n = refl

few : length T.classes ≡ built_in_count
unfolding built_in_tables built_in_infos
few = refl

no_slots : (j : ℕ) (e : ClassInfo) → class_at T j ≡ Some e → (e.slots ≡ []) × (e.read ≡ None)
unfolding built_in_tables built_in_infos built_in_info
no_slots j e at = let r = get_mapped (built_in_info 0 0) built_ins j e at in (ap (λ (e : ClassInfo). e.slots) r.2, ap (λ (e : ClassInfo). e.read) r.2)

-- a method without code whose parameters are of primitive types or arrays of such
record Plain (i : MethodInfo) : Type 0 where
  body : i.body ≡ None
  resolved : i.resolved ≡ []
  catches : i.catches ≡ []
  maps : i.maps ≡ []
  result : i.result ≡ None
  params : IsTrue (list_all (λ k. is_none (class_in k.base)) i.params)

plain : (j : ℕ) (i : MethodInfo) → method_at T j ≡ Some i → Plain i
unfolding built_in_tables built_in_methods built_in_method built_in_class
plain j i at =
    let r = get_flat (λ b. map (built_in_method (0 + number b)) (built_in_class b).methods) built_ins j i at in
    let m = get_mapped (built_in_method (0 + number r.1)) (built_in_class r.1).methods r.2 i r.4 in
    let primitive = on_all (λ b. list_all (λ (m : BuiltInMethod). list_all (λ k. is_none (class_in k.base)) m.params) (built_in_class b).methods) refl r.1 in
    record {
      body = ap (λ (i : MethodInfo). i.body) m.2;
      resolved = ap (λ (i : MethodInfo). i.resolved) m.2;
      catches = ap (λ (i : MethodInfo). i.catches) m.2;
      maps = ap (λ (i : MethodInfo). i.maps) m.2;
      result = ap (λ (i : MethodInfo). i.result) m.2;
      params = subst (λ (ks : List Kind). IsTrue (list_all (λ (k : Kind). is_none (class_in k.base)) ks)) (ap (λ (i : MethodInfo). i.params) (sym m.2)) (passes_at (λ (m : BuiltInMethod). list_all (λ k. is_none (class_in k.base)) m.params) (built_in_class r.1).methods r.2 m.0 primitive m.1);
    }

module _ (P : ProgramTables) (n m : ℕ) (count : length P.classes ≡ n + built_in_count)
    (class_there : (j : ℕ) → class_at P (n + j) ≡ slice_get (built_in_infos n m) j)
    (method_there : (j : ℕ) → method_at P (m + j) ≡ slice_get (built_in_methods n) j) where
  pub class_behind : (j : ℕ) → class_at P (n + j) ≡ option_map (shift_class n m) (class_at T j)
  class_behind j = class_there j ∙ ap (λ es. slice_get es j) (shifted_infos n m) ∙ slice_get-map (shift_class n m) T.classes j

  method_behind : (j : ℕ) → method_at P (m + j) ≡ option_map (shift_method n) (method_at T j)
  method_behind j = method_there j ∙ ap (λ is. slice_get is j) (shifted_methods n) ∙ slice_get-map (shift_method n) T.methods j

  on_class : {X : Type 0} (f g : ClassInfo → X) (d : X) → ((e : ClassInfo) → f (shift_class n m e) ≡ g e) → (j : ℕ) → option_map_or f (class_at P (n + j)) d ≡ option_map_or g (class_at T j) d
  on_class f g d same j = ap (λ o. option_map_or f o d) (class_behind j) ∙ of_option (class_at T j)
    where
      of_option : (o : Option ClassInfo) → option_map_or f (option_map (shift_class n m) o) d ≡ option_map_or g o d
      of_option None = refl
      of_option (Some e) = same e

  on_method : {X : Type 0} (f g : MethodInfo → X) (d : X) → ((i : MethodInfo) → f (shift_method n i) ≡ g i) → (j : ℕ) → option_map_or f (method_at P (m + j)) d ≡ option_map_or g (method_at T j) d
  on_method f g d same j = ap (λ o. option_map_or f o d) (method_behind j) ∙ of_option (method_at T j)
    where
      of_option : (o : Option MethodInfo) → option_map_or f (option_map (shift_method n) o) d ≡ option_map_or g o d
      of_option None = refl
      of_option (Some i) = same i

  -- ---- tests

  object_there : built_in P Object ≡ n + built_in T Object
  object_there = let e = few in omega (arith, count, e)

  interface_there : (j : ℕ) → is_interface P (n + j) ≡ is_interface T j
  interface_there j = on_class (λ (e : ClassInfo). has_flag 0x0200 e.flags) (λ (e : ClassInfo). has_flag 0x0200 e.flags) false (λ e. refl) j

  class_in_there : (j : ℕ) → is_class_in P (n + j) ≡ is_class_in T j
  class_in_there j = ap (nat_lt (n + j)) (count ∙ ap (λ c. n + c) (sym few)) ∙ lt_behind n j (length T.classes)

  is_object_there : (j : ℕ) → ((n + j) == built_in P Object) ≡ (j == built_in T Object)
  is_object_there j = ap (λ o. (n + j) == o) object_there ∙ eq_behind n j (built_in T Object)

  super_in_there : (c s : ℕ) → is_super_in P (n + c) (n + s) ≡ is_super_in T c s
  super_in_there c s = λ i. class_in_there s i && (not (interface_there s i) && (not (interface_there c i) || is_object_there s i))

  super_there : (j : ℕ) → super_of P (n + j) ≡ option_map (λ a. n + a) (super_of T j)
  super_there j = ap (option_and_then (λ (e : ClassInfo). e.super_class)) (class_behind j) ∙ of_option (class_at T j)
    where
      of_option : (o : Option ClassInfo) → option_and_then (λ (e : ClassInfo). e.super_class) (option_map (shift_class n m) o) ≡ option_map (λ a. n + a) (option_and_then (λ (e : ClassInfo). e.super_class) o)
      of_option None = refl
      of_option (Some e) = refl

  pub upward_there : (k : ℕ) (o : Option ℕ) → upward P k (option_map (λ a. n + a) o) ≡ map (λ a. n + a) (upward T k o)
  upward_there zero o = refl
  upward_there (suc k) None = refl
  upward_there (suc k) (Some c) = ap (λ (cs : List ℕ). (n + c) ∷ cs) (ap (upward P k) (super_there c) ∙ upward_there k (super_of T c))

  above_there : (c d : ℕ) → is_above P (n + c) (n + d) ≡ is_above T c d
  above_there c d = on_class (λ (e : ClassInfo). list_any (λ s. s == n + d) e.supers) (λ (e : ClassInfo). list_any (λ s. s == d) e.supers) false (λ e. any_behind (λ s. s == n + d) (λ a. n + a) (λ s. s == d) (λ s. eq_behind n s d) e.supers) c

  above_behind : (c x : ℕ) → IsTrue (is_above P (n + c) x) → (d : ℕ) × (x ≡ n + d)
  above_behind c x p = of_entry (class_at T c) (ap (λ o. option_map_or (λ (e : ClassInfo). list_any (λ s. s == x) e.supers) o false) (sym (class_behind c)) ∙ p)
    where
      of_entry : (o : Option ClassInfo) → option_map_or (λ (e : ClassInfo). list_any (λ s. s == x) e.supers) (option_map (shift_class n m) o) false ≡ true → (d : ℕ) × (x ≡ n + d)
      of_entry None p = absurd cc
      of_entry (Some e) p = let r = listed_behind n x e.supers p in (r.0, r.1)

  steps_there : (c : ℕ) → steps_up P (n + c) ≡ map (λ a. n + a) (steps_up T c)
  steps_there c = ap (λ o. option_map_or (λ (e : ClassInfo). option_to_list e.super_class ++ e.interfaces) o []) (class_behind c) ∙ of_entry (class_at T c)
    where
      of_super : (o : Option ℕ) (is : List ℕ) → option_to_list (option_map (λ a. n + a) o) ++ map (λ a. n + a) is ≡ map (λ a. n + a) (option_to_list o ++ is)
      of_super None is = refl
      of_super (Some a) is = refl

      of_entry : (o : Option ClassInfo) → option_map_or (λ (e : ClassInfo). option_to_list e.super_class ++ e.interfaces) (option_map (shift_class n m) o) [] ≡ map (λ a. n + a) (option_map_or (λ (e : ClassInfo). option_to_list e.super_class ++ e.interfaces) o [])
      of_entry None = refl
      of_entry (Some e) = of_super e.super_class e.interfaces

  pub step_behind : (c s : ℕ) → IsTrue (is_step P (n + c) s) → (t : ℕ) × (s ≡ n + t) × IsTrue (is_step T c t)
  step_behind c s p = listed_behind n s (steps_up T c) (subst (λ ss. IsTrue (is_listed s ss)) (steps_there c) p)

  step_there : (c t : ℕ) → IsTrue (is_step T c t) → IsTrue (is_step P (n + c) (n + t))
  step_there c t p = subst (λ ss. IsTrue (is_listed (n + t) ss)) (sym (steps_there c)) (sym (sym (any_behind (λ s. s == n + t) (λ a. n + a) (λ s. s == t) (λ s. eq_behind n s t) (steps_up T c))) ∙ p)

  pub back : (c x : ℕ) → Above P c x → (d : ℕ) → c ≡ n + d → (y : ℕ) × (x ≡ n + y) × Above T d y
  back c x itself d e = (d, e, itself)
  back c x (further {s = s} step rest) d e =
      let t = step_behind d s (subst (λ c. IsTrue (is_step P c s)) e (direct_step (class_at P c) s step)) in
      let r = back s x rest t.0 t.1 in
      (r.0, r.1, further (step_direct (class_at T d) t.0 t.2) r.2)

  forth : (c d : ℕ) → Above T c d → Above P (n + c) (n + d)
  forth c d itself = itself
  forth c d (further {s = s} step rest) = further (step_direct (class_at P (n + c)) (n + s) (step_there c s (direct_step (class_at T c) s step))) (forth s d rest)

  supers_there : (c : ℕ) (e : ClassInfo) → class_at T c ≡ Some e → (x : ℕ) → IsTrue (is_above P (n + c) x) ↔ Above P (n + c) x
  supers_there c e at x = (
    λ p. let d = above_behind c x p in
        let there = subst (λ x. IsTrue (is_above P (n + c) x)) d.1 p in
        subst (Above P (n + c)) (sym d.1) (forth c d.0 (((witness.linked.classes c e at).supers d.0).0 (sym (above_there c d.0) ∙ there))),
    λ a. let r = back (n + c) x a c refl in
        subst (λ x. IsTrue (is_above P (n + c) x)) (sym r.1) (above_there c r.0 ∙ ((witness.linked.classes c e at).supers r.0).1 r.2),
  )

  slots_there : (j : ℕ) → slots_of P (n + j) ≡ slots_of T j
  slots_there j = on_class (λ (e : ClassInfo). e.slots) (λ (e : ClassInfo). e.slots) [] (λ e. refl) j

  pub no_slots_there : (j : ℕ) → slots_of P (n + j) ≡ []
  no_slots_there j = slots_there j ∙ of_entry (class_at T j) refl
    where
      of_entry : (o : Option ClassInfo) → class_at T j ≡ o → option_map_or (λ (e : ClassInfo). e.slots) o [] ≡ []
      of_entry None at = refl
      of_entry (Some e) at = (no_slots j e at).0

  inherited_there : (e : ClassInfo) → inherited_slots P (shift_class n m e) ≡ inherited_slots T e
  inherited_there e = of_super e.super_class
    where
      of_super : (o : Option ℕ) → option_map_or (slots_of P) (option_map (λ a. n + a) o) [] ≡ option_map_or (slots_of T) o []
      of_super None = refl
      of_super (Some s) = slots_there s

  own_there : (e : ClassInfo) → own_slots P (shift_class n m e) ≡ own_slots T e
  own_there e = ap (λ (ss : List SlotInfo). drop (length ss) e.slots) (inherited_there e)

  methods_there : (c : ℕ) → methods_of P (n + c) ≡ map (λ x. m + x) (methods_of T c)
  methods_there c = ap (λ o. option_map_or (λ (e : ClassInfo). range_with_len e.first_method e.methods) o []) (class_behind c) ∙ of_entry (class_at T c)
    where
      of_entry : (o : Option ClassInfo) → option_map_or (λ (e : ClassInfo). range_with_len e.first_method e.methods) (option_map (shift_class n m) o) [] ≡ map (λ x. m + x) (option_map_or (λ (e : ClassInfo). range_with_len e.first_method e.methods) o [])
      of_entry None = refl
      of_entry (Some e) = range_behind m e.first_method e.methods

  method_of_there : (c x : ℕ) → is_method_of P (n + c) (m + x) ≡ is_method_of T c x
  method_of_there c x = on_method (λ (i : MethodInfo). i.«class» == n + c) (λ (i : MethodInfo). i.«class» == c) false (λ i. eq_behind n i.«class» c) x

  -- the walk upward goes on
  longer : (f : ℕ → Bool) (k j : ℕ) (o : Option ℕ) → IsTrue (list_any f (upward P k o)) → IsTrue (list_any f (upward P (k + j) o))
  longer f zero j o p = absurd cc
  longer f (suc k) j None p = absurd cc
  longer f (suc k) j (Some c) p =
      let e : suc (k + j) ≡ suc k + j = omega arith in
      subst (λ k. IsTrue (list_any f (upward P k (Some c)))) e (elim (or_cases (f c) (list_any f (upward P k (super_of P c))) p) [
        | inl q ↦ or_left (f c) _ q
        | inr q ↦ or_right (f c) _ (longer f k j (super_of P c) q)
      ])

  ends_there : (c : ℕ) → IsTrue (list_any (λ d. d == built_in T Object) (superclasses T c)) → IsTrue (list_any (λ d. d == built_in P Object) (superclasses P (n + c)))
  ends_there c p =
      let sum : length T.classes + n ≡ length P.classes = (let e = few in omega (arith, count, e)) in
      subst (λ k. IsTrue (list_any (λ d. d == built_in P Object) (upward P k (Some (n + c))))) sum
      (longer (λ d. d == built_in P Object) (length T.classes) n (Some (n + c))
      (ap (list_any (λ d. d == built_in P Object)) (upward_there (length T.classes) (Some c)) ∙ any_behind (λ d. d == built_in P Object) (λ a. n + a) (λ d. d == built_in T Object) is_object_there (upward T (length T.classes) (Some c)) ∙ p))

  pub not_loaded_there : (c : ℕ) → is_loaded P (n + c) ≡ false
  not_loaded_there c = not_below (n + c) (length P.classes - built_in_count) (omega (arith, count))

  -- ---- classes

  pub class_linked : (c : ℕ) (e : ClassInfo) → class_at P (n + c) ≡ Some e → class_named P e.name ≡ Some (n + c) → IsClassLinked P (n + c) e
  class_linked c e at name = of_entry (class_at T c) refl (sym (class_behind c) ∙ at)
    where
      given : (d : ClassInfo) → class_at T c ≡ Some d → class_named P d.name ≡ Some (n + c) → IsClassLinked P (n + c) (shift_class n m d)
      given d there name =
          let t = witness.linked.classes c d there in
          let none = no_slots c d there in
          record {
            name = name;
            read = ap is_some none.1 ∙ sym (not_loaded_there c);
            read_as = subst (λ o. Rattle.std.specs.Prelude.IfSome o (Rattle.nr_linked.specs.Linked.IsReadAs P (n + c) (shift_class n m d))) (sym none.1) tt;
            root = of_super d.super_class ∙ t.root ∙ sym (is_object_there c);
            super_class = super_is d.super_class ∙ t.super_class;
            interfaces = all_behind (is_interface P) (λ a. n + a) (is_interface T) interface_there d.interfaces ∙ t.interfaces;
            ends = ends_there c t.ends;
            supers = supers_there c d there;
            inherited = t.inherited ∙ (λ i. sym (inherited_there d) i ++ sym (own_there d) i);
            own = ap (list_all (λ (s : SlotInfo). s.declared_in == n + c)) (own_there d ∙ ap (λ (ss : List SlotInfo). drop (length (inherited_slots T d)) ss) none.0 ∙ drop_none (length (inherited_slots T d)));
            slots = ap (list_all (Rattle.nr_linked.specs.Linked.is_slot_linked P)) none.0;
            few_slots = t.few_slots;
            methods = ap (list_all (is_method_of P (n + c))) (methods_there c) ∙ all_behind (is_method_of P (n + c)) (λ x. m + x) (is_method_of T c) (method_of_there c) (methods_of T c) ∙ t.methods;
          }
        where
          drop_none : (k : ℕ) → ◌≡◌ {A = List SlotInfo} (drop k []) []
          drop_none zero = refl
          drop_none (suc k) = refl

          of_super : (o : Option ℕ) → is_none (option_map (λ a. n + a) o) ≡ is_none o
          of_super None = refl
          of_super (Some s) = refl

          super_is : (o : Option ℕ) → option_map_or (is_super_in P (n + c)) (option_map (λ a. n + a) o) true ≡ option_map_or (is_super_in T c) o true
          super_is None = refl
          super_is (Some s) = super_in_there c s

      of_entry : (o : Option ClassInfo) → class_at T c ≡ o → option_map (shift_class n m) o ≡ Some e → IsClassLinked P (n + c) e
      of_entry None there e = absurd cc
      of_entry (Some d) there same =
          let s = same_Some (shift_class n m d) e same in
          subst (IsClassLinked P (n + c)) s (given d there (ap (class_named P) (ap (λ (e : ClassInfo). e.name) s) ∙ name))

  -- ---- methods

  plain_desc : (k : Kind) → IsTrue (is_none (class_in k.base)) → kind_desc P k ≡ kind_desc T k
  plain_desc k p = λ i. record { dims = k.dims; base = of_base k.base p i }
    where
      of_base : (b : Base) → IsTrue (is_none (class_in b)) → base_desc P b ≡ base_desc T b
      of_base (bases.Object c) p = absurd cc
      of_base b p = refl

  plain_descs : (ks : List Kind) → IsTrue (list_all (λ k. is_none (class_in k.base)) ks) → map (kind_desc P) ks ≡ map (kind_desc T) ks
  plain_descs [] p = refl
  plain_descs (k ∷ ks) p = let both = and_parts (is_none (class_in k.base)) _ p in λ i. plain_desc k both.0 i ∷ plain_descs ks both.1 i

  plain_kinds : (ks : List Kind) → IsTrue (list_all (λ k. is_none (class_in k.base)) ks) → IsTrue (list_all (is_kind_in P) ks)
  plain_kinds [] p = refl
  plain_kinds (k ∷ ks) p = let both = and_parts (is_none (class_in k.base)) _ p in Rattle.std.proofs.lemmas.Bool.and_from _ _ (of_base k.base both.0) (plain_kinds ks both.1)
    where
      of_base : (b : Base) → IsTrue (is_none (class_in b)) → IsTrue (option_map_or (is_class_in P) (class_in b) true)
      of_base (bases.Object c) p = absurd cc
      of_base b p = refl

  declared_there : (c : ℕ) (name desc : List ℕ) → declared P (n + c) name desc ≡ option_map (λ x. m + x) (declared T c name desc)
  declared_there c name desc =
      ap (find (λ x. option_map_or (is_called name desc) (method_at P x) false)) (methods_there c)
      ∙ find_behind (λ x. option_map_or (is_called name desc) (method_at P x) false) (λ x. option_map_or (is_called name desc) (method_at T x) false) m (λ x. on_method (is_called name desc) (is_called name desc) false (λ i. refl) x) (methods_of T c)

  pub method_linked : (j : ℕ) (i : MethodInfo) → method_at P (m + j) ≡ Some i → IsMethodLinked P (m + j) i
  method_linked j i at = of_entry (method_at T j) refl (sym (method_behind j) ∙ at)
    where
      given : (d : MethodInfo) → method_at T j ≡ Some d → IsMethodLinked P (m + j) (shift_method n d)
      given d there =
          let t = witness.linked.methods j d there in
          let p = plain j d there in
          record {
            alone = declared_there d.«class» d.name d.desc ∙ ap (option_map (λ x. m + x)) t.alone;
            desc = t.desc ∙ (λ i. method_text (record { params = sym (plain_descs d.params p.params) i; result = (ap (option_map (kind_desc T)) p.result ∙ sym (ap (option_map (kind_desc P)) p.result)) i }));
            params = plain_kinds d.params p.params;
            result = ap (option_map_or_kind) p.result;
            body = ap is_some p.body ∙ ap (λ b. b && not (is_abstract d.flags)) (sym (not_loaded_there d.«class»));
            one_each = t.one_each;
            resolved = ap (list_all (Rattle.nr_linked.specs.Linked.is_resolved_in P)) p.resolved;
            one_catch_each = t.one_catch_each;
            catches = ap (list_all (Rattle.nr_linked.specs.Linked.is_kind_in_or_none P)) p.catches;
            offsets = t.offsets;
            maps = ap (list_all (λ (f : ℕ × Rattle.nr_linked.specs.declared.program.types.VFrame.VFrame). Rattle.nr_linked.specs.Linked.is_frame_in P f.1)) p.maps;
          }
        where
          option_map_or_kind : Option Kind → Bool
          option_map_or_kind o = Rattle.nr_linked.specs.Linked.is_kind_in_or_none P o

      of_entry : (o : Option MethodInfo) → method_at T j ≡ o → option_map (shift_method n) o ≡ Some i → IsMethodLinked P (m + j) i
      of_entry None there e = absurd cc
      of_entry (Some d) there same = subst (IsMethodLinked P (m + j)) (same_Some (shift_method n d) i same) (given d there)

-- ---- no built-in class stands above itself

no_cycle : IsTrue (list_all (λ c. list_all (λ s. not (is_above built_in_tables s c)) (steps_up built_in_tables c)) (range_with_len 0 (length T.classes)))
unfolding built_in_tables built_in_infos built_in_info built_in_class
no_cycle = refl

pub acyclic : (c s : ℕ) → IsTrue (is_step built_in_tables c s) → Above built_in_tables s c → ⊥
acyclic c s step above =
    let none = passing_all (λ c. list_all (λ s. not (is_above built_in_tables s c)) (steps_up built_in_tables c)) (length T.classes) no_cycle c (below c s step) in
    let off = listed_all (λ s. not (is_above built_in_tables s c)) s (steps_up built_in_tables c) step none in
    let d = entry s c above (below c s step) in
    both (is_above built_in_tables s c) off (((witness.linked.classes s d.0 d.1).supers c).1 above)
  where
    below : (c s : ℕ) → IsTrue (is_step built_in_tables c s) → c < length T.classes
    below c s p = of_entry (class_at T c) refl p
      where
        of_entry : (o : Option ClassInfo) → class_at T c ≡ o → IsTrue (is_listed s (option_map_or (λ (e : ClassInfo). option_to_list e.super_class ++ e.interfaces) o [])) → c < length T.classes
        of_entry None at p = absurd cc
        of_entry (Some e) at p = slice_get_within T.classes c e at

    passing_all : (f : ℕ → Bool) (k : ℕ) → IsTrue (list_all f (range_with_len 0 k)) → (c : ℕ) → c < k → IsTrue (f c)
    passing_all f k p c lt = listed_all f c (range_with_len 0 k) (range_listed 0 k c (omega arith) (omega (arith, lt))) p

    entry : (s c : ℕ) → Above built_in_tables s c → c < length T.classes → (e : ClassInfo) × (class_at T s ≡ Some e)
    entry s c above lt = let f = get_below T.classes c lt in has_entry T s c f.0 above f.1

    both : (b : Bool) → IsTrue (not b) → IsTrue b → ⊥
    both true p q = absurd cc
    both false p q = absurd cc
