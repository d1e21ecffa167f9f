-- Two programs that the same classes link to have the same entries of classes.
use Rattle.std.proofs.Common.{◌≡◌, ℕ, zero, suc, ◌+◌, ◌<◌, ◌⊎◌, inl, inr, Bool, true, false, List, [], ◌∷◌, ◌++◌, length, map, refl, sym, ap, subst, ◌∙◌, arith, ◌||◌}
use Rattle.std.specs.Prelude.{Option, Some, None, Contains, IsTrue, slice_get, nat_lt, ◌==◌}
use Rattle.std.specs.List.{list_all, list_any, range_with_len}
use Rattle.std.specs.Option.{option_and_then, option_map, option_map_or}
use Rattle.std.proofs.lemmas.Bool.{and_from, and_parts, both_ways, cases_Bool, eqb-true, eq-eqb, false_from_ne_true, ltb-true, lt-ltb, or_cases, or_left, or_right}
use Rattle.std.proofs.lemmas.List.{length-map}
use Rattle.std.proofs.lemmas.List.FromFn.{length-range_with_len}
use Rattle.std.proofs.lemmas.Option.{get_or_from_slice_get, same_Some, slice_get_within}
use Rattle.nr_base.specs.Descs.{desc}
use Rattle.nr_prog.specs.declared.body.loaded.Loaded.{Loaded}
use Rattle.nr_prog.specs.declared.parts.ClassParts.{ClassParts}
use Rattle.nr_linked.specs.declared.program.built_in.BuiltIn.TheVariants.{Object}
use Rattle.nr_linked.specs.declared.program.kind.Kind.{Kind}
use Rattle.nr_linked.specs.declared.program.tables.ClassInfo.{ClassInfo}
use Rattle.nr_linked.specs.declared.program.tables.ProgramTables.{ProgramTables}
use Rattle.nr_linked.specs.declared.program.tables.SlotInfo.{SlotInfo}
use Rattle.nr_linked.specs.BuiltIns.{built_in}
use Rattle.nr_linked.specs.KindTexts.{class_name, kind_desc}
use Rattle.nr_linked.specs.Linked.{Linked, inherited_slots, is_class_in, is_kind_in, is_loaded, is_slot_linked, is_super_in, method_texts, own_slots, read_texts, slot_texts}
use Rattle.nr_linked.specs.Programs.{class_at, is_interface, methods_of, super_of, upward}
use Rattle.nr_linked.specs.Slots.{slots_of}
use Rattle.nr_linked.specs.Subtypes.{Above, IsDirectlyAbove, further, itself}
use Rattle.nr_links.specs.Entries.{is_rising}
use Rattle.nr_links.specs.Links.{Links}
use Rattle.nr_links.proofs.Descriptors.{one_class, one_desc, one_kind}
use Rattle.nr_linked.proofs.Listed.{is_listed, listed_all}
use Rattle.nr_links.proofs.OneNames.{class_back, kind_back, same_descs, same_names, same_past_classes, there, twins}
use Rattle.nr_linked.proofs.Elements.{get_below, get_dropped, passes_at, passing, some_of}
use Rattle.nr_linked.proofs.AnyReferences.{super_in}
use Rattle.nr_linked.proofs.BuiltInEntries.{not_loaded}
use Rattle.nr_linked.proofs.Ascents.{down, step_of, up}

-- ---- rising lists

all_above : ℕ → List ℕ → Bool
all_above x ys = list_all (nat_lt x) ys

rises_above : (x : ℕ) (ys : List ℕ) → IsTrue (is_rising (x ∷ ys)) → IsTrue (all_above x ys) × IsTrue (is_rising ys)
unfolding all_above
rises_above x [] p = (refl, refl)
rises_above x (y ∷ ys) p =
    let both = and_parts (nat_lt x y) (is_rising (y ∷ ys)) p in
    let rest = rises_above y ys both.1 in
    (and_from (nat_lt x y) (list_all (nat_lt x) ys) both.0 (above_more x y ys (ltb-true x y both.0) rest.0), both.1)
  where
    above_more : (x y : ℕ) (zs : List ℕ) → x < y → IsTrue (list_all (nat_lt y) zs) → IsTrue (list_all (nat_lt x) zs)
    above_more x y [] l p = refl
    above_more x y (z ∷ zs) l p =
        let both = and_parts (nat_lt y z) (list_all (nat_lt y) zs) p in
        let m = ltb-true y z both.0 in
        and_from (nat_lt x z) (list_all (nat_lt x) zs) (lt-ltb x z (omega (arith, l, m))) (above_more x y zs l both.1)

listed_is_above : (x d : ℕ) (ys : List ℕ) → IsTrue (all_above x ys) → IsTrue (is_listed d ys) → x < d
unfolding all_above
listed_is_above x d ys p q = ltb-true x d (listed_all (nat_lt x) d ys q p)

-- rising lists of the same numbers are one
pub one_rising : (xs ys : List ℕ) → IsTrue (is_rising xs) → IsTrue (is_rising ys) → ((d : ℕ) → IsTrue (is_listed d xs) → IsTrue (is_listed d ys)) → ((d : ℕ) → IsTrue (is_listed d ys) → IsTrue (is_listed d xs)) → xs ≡ ys
one_rising [] [] p q f g = refl
one_rising [] (y ∷ ys) p q f g = let h = g y (or_left (y == y) (is_listed y ys) (eq-eqb y y refl)) in absurd cc
one_rising (x ∷ xs) [] p q f g = let h = f x (or_left (x == x) (is_listed x xs) (eq-eqb x x refl)) in absurd cc
one_rising (x ∷ xs) (y ∷ ys) p q f g =
    let a = rises_above x xs p in
    let b = rises_above y ys q in
    let same = same_head x y xs ys a.0 b.0 (f x (or_left (x == x) (is_listed x xs) (eq-eqb x x refl))) (g y (or_left (y == y) (is_listed y ys) (eq-eqb y y refl))) in
    let rest = one_rising xs ys a.1 b.1
    (λ d l. later y d ys (let m = listed_is_above x d xs a.0 l in omega (arith, m, same)) (f d (or_right (x == d) (is_listed d xs) l)))
    (λ d l. later x d xs (let m = listed_is_above y d ys b.0 l in omega (arith, m, same)) (g d (or_right (y == d) (is_listed d ys) l))) in
    cc
  where
    same_head : (x y : ℕ) (xs ys : List ℕ) → IsTrue (all_above x xs) → IsTrue (all_above y ys) → IsTrue ((y == x) || is_listed x ys) → IsTrue ((x == y) || is_listed y xs) → x ≡ y
    same_head x y xs ys a b f g = elim (or_cases (y == x) (is_listed x ys) f) [
      | inl e ↦ sym (eqb-true y x e)
      | inr l ↦ elim (or_cases (x == y) (is_listed y xs) g) [
        | inl e ↦ eqb-true x y e
        | inr m ↦ let u = listed_is_above y x ys b l in let v = listed_is_above x y xs a m in absurd (omega (arith, u, v))
      ]
    ]

    later : (y d : ℕ) (ys : List ℕ) → y < d → IsTrue ((y == d) || is_listed d ys) → IsTrue (is_listed d ys)
    later y d ys l p = elim (or_cases (y == d) (is_listed d ys) p) [
      | inl e ↦ let same = eqb-true y d e in absurd (omega (arith, l, same))
      | inr m ↦ m
    ]

-- ---- slots

-- a slot of class c in one program
pub record SlotOk (P : ProgramTables) (c : ℕ) (s : SlotInfo) : Type 0 where
  pub own : s.declared_in ≡ c
  pub known : IsTrue (is_kind_in P s.kind)
  pub says : desc (kind_desc P s.kind) s.desc

slot_same : (s t : SlotInfo) → s.declared_in ≡ t.declared_in → s.name ≡ t.name → s.desc ≡ t.desc → s.kind ≡ t.kind → s ≡ t
slot_same s t a b c d = λ i. record { declared_in = a i; name = b i; desc = c i; kind = d i }

one_slots : (P : ProgramTables) → Linked P → (c : ℕ) (xs ys : List SlotInfo) → ((k : ℕ) (s : SlotInfo) → slice_get xs k ≡ Some s → SlotOk P c s) → ((k : ℕ) (s : SlotInfo) → slice_get ys k ≡ Some s → SlotOk P c s)
    → map slot_texts xs ≡ map slot_texts ys → xs ≡ ys
one_slots P linked c [] [] p q e = refl
one_slots P linked c [] (y ∷ ys) p q e = absurd cc
one_slots P linked c (x ∷ xs) [] p q e = absurd cc
one_slots P linked c (x ∷ xs) (y ∷ ys) p q e =
    let a = p 0 x refl in
    let b = q 0 y refl in
    let texts : slot_texts x ≡ slot_texts y = cc in
    let names = same_Some x.name y.name (ap (λ (t : Option (List ℕ) × Option (List ℕ)). t.0) texts) in
    let descs = same_Some x.desc y.desc (ap (λ (t : Option (List ℕ) × Option (List ℕ)). t.1) texts) in
    let kinds = one_kind P linked x.kind y.kind a.known b.known (one_desc (kind_desc P x.kind) (kind_desc P y.kind) y.desc (subst (desc (kind_desc P x.kind)) descs a.says) b.says) in
    let first = slot_same x y (a.own ∙ sym b.own) names descs kinds in
    let rest = one_slots P linked c xs ys (λ k. p (suc k)) (λ k. q (suc k)) (cc) in
    cc

own_ok : (classes : List Loaded) (P : ProgramTables) (L : Links classes P) (c : ℕ) (e : ClassInfo) (l : Loaded) → slice_get classes c ≡ Some l → class_at P c ≡ Some e → (k : ℕ) (s : SlotInfo) → slice_get (own_slots P e) k ≡ Some s → SlotOk P c s
own_ok classes P L c e l at is k s here =
    let n = length (inherited_slots P e) in
    let among = sym (get_dropped e.slots n k) ∙ here in
    let linked = L.linked.classes c e is in
    let said = (L.entries c l e at is).slots in
    record {
      own = eqb-true s.declared_in c (passes_at (λ (s : SlotInfo). s.declared_in == c) (own_slots P e) k s linked.own here);
      known = (and_parts (is_kind_in P s.kind) _ (passes_at (is_slot_linked P) e.slots (n + k) s linked.slots among)).0;
      says = subst (λ (s : SlotInfo). desc (kind_desc P s.kind) s.desc) (get_or_from_slice_get e.slots (n + k) s s among) (said (n + k) s (slice_get_within e.slots (n + k) s among));
    }

-- ---- what stands directly above

module _ (classes : List Loaded) (P Q : ProgramTables) (L : Links classes P) (M : Links classes Q) where
  one_super : (c : ℕ) (o p : Option ℕ) → IsTrue (option_map_or (is_super_in P c) o true) → IsTrue (option_map_or (is_super_in Q c) p true) → option_map (class_name P) o ≡ option_map (class_name P) p → o ≡ p
  one_super c None None a b e = refl
  one_super c None (Some t) a b e = absurd cc
  one_super c (Some s) None a b e = absurd cc
  one_super c (Some s) (Some t) a b e =
      ap (λ s. Some s) (one_class P L.linked s t (and_parts (is_class_in P s) _ a).0 (class_back classes P Q L M t (and_parts (is_class_in Q t) _ b).0) (same_Some (class_name P s) (class_name P t) e))

  pub face_in : (R : ProgramTables) (c : ℕ) → IsTrue (is_interface R c) → IsTrue (is_class_in R c)
  face_in R c p = let r = passing (λ (e : ClassInfo). Rattle.nr_prog.specs.Members.has_flag 0x0200 e.flags) (class_at R c) p in lt-ltb c (length R.classes) (slice_get_within R.classes c r.0 r.1)

  one_interfaces : (is js : List ℕ) → IsTrue (list_all (is_interface P) is) → IsTrue (list_all (is_interface Q) js) → map (λ c. Some (class_name P c)) is ≡ map (λ c. Some (class_name P c)) js → is ≡ js
  one_interfaces [] [] a b e = refl
  one_interfaces [] (j ∷ js) a b e = absurd cc
  one_interfaces (i ∷ is) [] a b e = absurd cc
  one_interfaces (i ∷ is) (j ∷ js) a b e =
      let p = and_parts (is_interface P i) (list_all (is_interface P) is) a in
      let q = and_parts (is_interface Q j) (list_all (is_interface Q) js) b in
      let names : class_name P i ≡ class_name P j = cc in
      let first = one_class P L.linked i j (face_in P i p.0) (class_back classes P Q L M j (face_in Q j q.0)) names in
      let rest = one_interfaces is js p.1 q.1 (cc) in
      cc

  pub record Steps (e f : ClassInfo) : Type 0 where
    pub super_class : e.super_class ≡ f.super_class
    pub interfaces : e.interfaces ≡ f.interfaces

  loaded_steps : (c : ℕ) (e f : ClassInfo) → class_at P c ≡ Some e → class_at Q c ≡ Some f → IsTrue (is_loaded P c) → Steps e f
  loaded_steps c e f is js p =
      let t = twins classes P Q L M c e f is js p in
      let names = sym (same_names classes P Q L M) in
      record {
        super_class = one_super c e.super_class f.super_class (L.linked.classes c e is).super_class (M.linked.classes c f js).super_class
            (t.mine.super_class ∙ sym t.theirs.super_class ∙ ap (λ n. option_map n f.super_class) names);
        interfaces = one_interfaces e.interfaces f.interfaces (L.linked.classes c e is).interfaces (M.linked.classes c f js).interfaces
            (t.mine.interfaces ∙ sym t.theirs.interfaces ∙ ap (λ (n : ℕ → List ℕ). map (λ c. Some (n c)) f.interfaces) names);
      }

  pub steps : (c : ℕ) (e f : ClassInfo) → class_at P c ≡ Some e → class_at Q c ≡ Some f → Steps e f
  steps c e f is js = elim (cases_Bool (is_loaded P c)) [
    | inl p ↦ loaded_steps c e f is js p
    | inr p ↦ let same = same_Some e f (sym is ∙ same_past_classes classes P Q L M c p ∙ js) in
        record { super_class = ap (λ (e : ClassInfo). e.super_class) same; interfaces = ap (λ (e : ClassInfo). e.interfaces) same }
  ]

  step_there : (c s : ℕ) → IsDirectlyAbove P c s → IsDirectlyAbove Q c s
  step_there c s step =
      let r = some_of (λ (e : ClassInfo). (e.super_class ≡ Some s) ⊎ Contains e.interfaces s) (class_at P c) step in
      let f = there classes P Q L M c r.0 r.1 in
      let same = steps c r.0 f.0 r.1 f.1 in
      step_of Q c s f.0 f.1 (subst (λ is. (f.0.super_class ≡ Some s) ⊎ Contains is s) same.interfaces (subst (λ o. (o ≡ Some s) ⊎ Contains r.0.interfaces s) same.super_class r.2))

  pub above_there : (c d : ℕ) → Above P c d → Above Q c d
  above_there c d itself = itself
  above_there c d (further {s = s} step rest) = further (step_there c s step) (above_there s d rest)

  pub super_in_list : (c d : ℕ) (e f : ClassInfo) → class_at P c ≡ Some e → class_at Q c ≡ Some f → IsTrue (is_listed d e.supers) → IsTrue (is_listed d f.supers)
  super_in_list c d e f is js p =
      let above = up P L.linked c d (ap (λ o. option_map_or (λ (e : ClassInfo). list_any (λ s. s == d) e.supers) o false) is ∙ p) in
      sym (ap (λ o. option_map_or (λ (e : ClassInfo). list_any (λ s. s == d) e.supers) o false) js) ∙ down Q M.linked c d f js (above_there c d above)

  -- ---- slots

  one_own : (c : ℕ) (e f : ClassInfo) → class_at P c ≡ Some e → class_at Q c ≡ Some f → IsTrue (is_loaded P c) → own_slots P e ≡ own_slots Q f
  one_own c e f is js p =
      let t = twins classes P Q L M c e f is js p in
      let descs = sym (same_descs classes P Q L M) in
      one_slots P L.linked c (own_slots P e) (own_slots Q f) (own_ok classes P L c e t.l t.at is)
      (λ k s here. let ok = own_ok classes Q M c f t.l t.at js k s here in
      record { own = ok.own; known = kind_back classes P Q L M s.kind ok.known; says = subst (λ (d : Kind → Rattle.nr_base.specs.declared.desc.types.Desc.Desc). desc (d s.kind) s.desc) descs ok.says })
      (t.mine.fields ∙ sym t.theirs.fields)

  same_inherited : (s : ℕ) (e f a b : ClassInfo) → e.super_class ≡ Some s → f.super_class ≡ Some s → class_at P s ≡ Some a → class_at Q s ≡ Some b → a.slots ≡ b.slots → inherited_slots P e ≡ inherited_slots Q f
  same_inherited s e f a b mine theirs at there same =
      ap (λ o. option_map_or (slots_of P) o []) mine ∙ ap (λ o. option_map_or (λ (e : ClassInfo). e.slots) o []) at ∙ same
      ∙ sym (ap (λ o. option_map_or (slots_of Q) o []) theirs ∙ ap (λ o. option_map_or (λ (e : ClassInfo). e.slots) o []) there)

  joined : (e f : ClassInfo) → inherited_slots P e ≡ inherited_slots Q f → own_slots P e ≡ own_slots Q f → e.slots ≡ inherited_slots P e ++ own_slots P e → f.slots ≡ inherited_slots Q f ++ own_slots Q f → e.slots ≡ f.slots
  joined e f above own mine theirs = cc

  pub slots_from : (n c : ℕ) → IsTrue (list_any (λ d. d == built_in P Object) (upward P n (Some c))) → (e f : ClassInfo) → class_at P c ≡ Some e → class_at Q c ≡ Some f → e.slots ≡ f.slots
  slots_from zero c ends e f is js = absurd cc
  slots_from (suc n) c ends e f is js = elim (cases_Bool (is_loaded P c)) [
    | inr p ↦ ap (λ (e : ClassInfo). e.slots) (same_Some e f (sym is ∙ same_past_classes classes P Q L M c p ∙ js))
    | inl p ↦ let apart : (c == built_in P Object) ≡ false = false_from_ne_true (c == built_in P Object) (λ q. both_ways (is_loaded P (built_in P Object)) (not_loaded P Object) (subst (λ c. IsTrue (is_loaded P c)) (eqb-true c (built_in P Object) q) p)) in
        let s = super_in P L.linked c e is apart in
        let t = steps c e f is js in
        let a = get_below P.classes s.0 (ltb-true s.0 (length P.classes) (and_parts (is_class_in P s.0) _ s.2).0) in
        let b = there classes P Q L M s.0 a.0 a.1 in
        let onward = subst (λ o. IsTrue (list_any (λ d. d == built_in P Object) (upward P n o))) (ap (option_and_then (λ (e : ClassInfo). e.super_class)) is ∙ s.1) (past_head (c == built_in P Object) apart ends) in
        let rest = slots_from n s.0 onward a.0 b.0 a.1 b.1 in
        joined e f (same_inherited s.0 e f a.0 b.0 s.1 (sym t.super_class ∙ s.1) a.1 b.1 rest) (one_own c e f is js p) (L.linked.classes c e is).inherited (M.linked.classes c f js).inherited
  ]
    where
      past_head : (b : Bool) → b ≡ false → (b || list_any (λ d. d == built_in P Object) (upward P n (super_of P c))) ≡ true → IsTrue (list_any (λ d. d == built_in P Object) (upward P n (super_of P c)))
      past_head true e p = absurd cc
      past_head false e p = p

  -- ---- numbers of methods

  pub counted : (R : ProgramTables) (c : ℕ) (e : ClassInfo) (parts : ClassParts) → class_at R c ≡ Some e → map (method_texts R) (methods_of R c) ≡ map (read_texts parts.pool) parts.methods → e.methods ≡ length parts.methods
  counted R c e parts is same =
      let range : methods_of R c ≡ range_with_len e.first_method e.methods = ap (λ o. option_map_or (λ (e : ClassInfo). range_with_len e.first_method e.methods) o []) is in
      sym (length-range_with_len e.first_method e.methods) ∙ ap length (sym range) ∙ sym (length-map (methods_of R c) (method_texts R)) ∙ ap length same ∙ length-map parts.methods (read_texts parts.pool)
