-- Two programs that the same classes link to have the same names at the same numbers.
use Rattle.std.proofs.Common.{◌≡◌, ℕ, suc, ◌+◌, ◌-◌, ◌≤◌, inl, inr, true, false, List, [], ◌∷◌, length, drop, refl, sym, ap, subst, ◌∙◌, arith}
use Rattle.std.specs.Prelude.{Option, Some, None, IsTrue, slice_get, nat_lt}
use Rattle.std.specs.Option.{option_map_or}
use Rattle.std.proofs.lemmas.Bool.{cases_Bool, ltb-false, ltb-true}
use Rattle.std.proofs.lemmas.Option.{same_Some, slice_get_within}
use Rattle.nr_base.specs.declared.desc.types.DescBase.{DescBase}
use Rattle.nr_prog.specs.declared.body.loaded.Loaded.{Loaded}
use Rattle.nr_linked.specs.declared.program.kind.Base.{Base}
use Rattle.nr_linked.specs.declared.program.kind.Base.TheVariants.{Bool as BoolBase, Byte, Char, Short, Int, Long, Object}
use Rattle.nr_linked.specs.declared.program.kind.Kind.{Kind}
use Rattle.nr_linked.specs.declared.program.tables.ClassInfo.{ClassInfo}
use Rattle.nr_linked.specs.declared.program.tables.ProgramTables.{ProgramTables}
use Rattle.nr_linked.specs.BuiltInTables.{built_in_infos, built_in_methods}
use Rattle.nr_linked.specs.KindTexts.{base_desc, class_name, kind_desc}
use Rattle.nr_linked.specs.Linked.{IsReadAs, first_built_in, first_built_in_method, is_class_in, is_kind_in, is_loaded}
use Rattle.nr_linked.specs.Kinds.{class_in}
use Rattle.nr_linked.specs.Programs.{class_at, method_at}
use Rattle.nr_links.specs.Links.{Links}
use Rattle.nr_links.proofs.Descriptors.{name_of}
use Rattle.nr_linked.proofs.Elements.{get_below, get_dropped}
use Rattle.nr_links.proofs.SlotFacts.{loaded_entry}

-- ---- lists

pub same_list : {X : Type 0} (xs ys : List X) → ((k : ℕ) → slice_get xs k ≡ slice_get ys k) → xs ≡ ys
same_list [] [] e = refl
same_list [] (y ∷ ys) e = let p = e 0 in absurd cc
same_list (x ∷ xs) [] e = let p = e 0 in absurd cc
same_list (x ∷ xs) (y ∷ ys) e =
    let first = same_Some x y (e 0) in
    let rest = same_list xs ys (λ k. e (suc k)) in
    cc

pub same_functions : {X Y : Type 0} (f g : X → Y) → ((x : X) → f x ≡ g x) → f ≡ g
same_functions f g e = λ i x. e x i

-- what holds past a place, of two lists that end alike
same_past : {X : Type 0} (xs ys : List X) (m n k : ℕ) → m ≡ n → drop m xs ≡ drop n ys → m ≤ k → slice_get xs k ≡ slice_get ys k
same_past xs ys m n k e tails l =
    let p : m + (k - m) ≡ k = omega (arith, l) in
    let q : n + (k - m) ≡ k = omega (arith, l, e) in
    ap (slice_get xs) (sym p) ∙ sym (get_dropped xs m (k - m)) ∙ ap (λ zs. slice_get zs (k - m)) tails ∙ get_dropped ys n (k - m) ∙ ap (slice_get ys) q

-- two lists of options by their elements
pub same_options : {X : Type 0} (o p : Option X) → ((x y : X) → o ≡ Some x → p ≡ Some y → x ≡ y) → ((x : X) → o ≡ Some x → (y : X) × (p ≡ Some y)) → ((y : X) → p ≡ Some y → (x : X) × (o ≡ Some x)) → o ≡ p
same_options None None same there back = refl
same_options None (Some y) same there back = let r = (back y refl).1 in absurd cc
same_options (Some x) None same there back = let r = (there x refl).1 in absurd cc
same_options (Some x) (Some y) same there back = ap (λ x. Some x) (same x y refl refl)

module _ (classes : List Loaded) (P Q : ProgramTables) (L : Links classes P) (M : Links classes Q) where
  -- ---- numbers

  pub same_count : length P.classes ≡ length Q.classes
  same_count = L.class_count ∙ sym M.class_count

  pub same_first : first_built_in P ≡ first_built_in Q
  same_first = omega (arith, L.class_count, M.class_count)

  pub same_first_method : first_built_in_method P ≡ first_built_in_method Q
  same_first_method = omega (arith, L.method_count, M.method_count)

  pub loaded_there : (c : ℕ) → IsTrue (is_loaded P c) → IsTrue (is_loaded Q c)
  loaded_there c p = subst (λ n. IsTrue (nat_lt c n)) same_first p

  -- ---- what is built in

  infos : (a b m n : ℕ) → a ≡ b → m ≡ n → built_in_infos a m ≡ built_in_infos b n
  infos a b m n e f = cc

  pub same_past_classes : (c : ℕ) → is_loaded P c ≡ false → class_at P c ≡ class_at Q c
  same_past_classes c past =
      same_past P.classes Q.classes (first_built_in P) (first_built_in Q) c same_first
      (L.linked.built_ins ∙ infos (first_built_in P) (first_built_in Q) (first_built_in_method P) (first_built_in_method Q) same_first same_first_method ∙ sym M.linked.built_ins)
      (ltb-false c (first_built_in P) past)

  pub same_past_methods : (n : ℕ) → first_built_in_method P ≤ n → method_at P n ≡ method_at Q n
  same_past_methods n l =
      same_past P.methods Q.methods (first_built_in_method P) (first_built_in_method Q) n same_first_method
      (L.linked.built_in_methods ∙ ap built_in_methods same_first ∙ sym M.linked.built_in_methods) l

  -- ---- what was loaded

  -- entries of one class file
  pub record Twins (c : ℕ) (e f : ClassInfo) : Type 0 where
    pub l : Loaded
    pub at : slice_get classes c ≡ Some l
    pub mine : IsReadAs P c e l.«class»
    pub theirs : IsReadAs Q c f l.«class»

  pub twins : (c : ℕ) (e f : ClassInfo) → class_at P c ≡ Some e → class_at Q c ≡ Some f → IsTrue (is_loaded P c) → Twins c e f
  twins c e f is js p =
      let a = loaded_entry classes P L c e is p in
      let b = loaded_entry classes Q M c f js (loaded_there c p) in
      record {
        l = a.l;
        at = a.at;
        mine = a.read_as;
        theirs = subst (λ (l : Loaded). IsReadAs Q c f l.«class») (same_Some b.l a.l (sym b.at ∙ a.at)) b.read_as;
      }

  -- a class of one is a class of the other
  pub there : (c : ℕ) (e : ClassInfo) → class_at P c ≡ Some e → (f : ClassInfo) × (class_at Q c ≡ Some f)
  there c e is = let l = slice_get_within P.classes c e is in get_below Q.classes c (omega (arith, l, same_count))

  pub back : (c : ℕ) (f : ClassInfo) → class_at Q c ≡ Some f → (e : ClassInfo) × (class_at P c ≡ Some e)
  back c f js = let l = slice_get_within Q.classes c f js in get_below P.classes c (omega (arith, l, same_count))

  -- ---- names

  twin_name : (c : ℕ) (e f : ClassInfo) → class_at P c ≡ Some e → class_at Q c ≡ Some f → Twins c e f → class_name P c ≡ class_name Q c
  twin_name c e f is js t =
      let named = name_of P c e is in
      let there_named = name_of Q c f js in
      let same = same_Some e.name f.name (sym t.mine.name ∙ t.theirs.name) in
      cc

  loaded_name : (c : ℕ) → IsTrue (is_loaded P c) → class_name P c ≡ class_name Q c
  loaded_name c p =
      let l = ltb-true c (first_built_in P) p in
      let e = get_below P.classes c (omega (arith, l)) in
      let f = there c e.0 e.1 in
      twin_name c e.0 f.0 e.1 f.1 (twins c e.0 f.0 e.1 f.1 p)

  pub same_name : (c : ℕ) → class_name P c ≡ class_name Q c
  same_name c = elim (cases_Bool (is_loaded P c)) [
    | inl p ↦ loaded_name c p
    | inr p ↦ ap (λ o. option_map_or (λ (e : ClassInfo). e.name) o []) (same_past_classes c p)
  ]

  pub same_names : class_name P ≡ class_name Q
  same_names = same_functions (class_name P) (class_name Q) same_name

  same_base : (b : Base) → base_desc P b ≡ base_desc Q b
  same_base (Object c) = ap (λ n. Rattle.nr_base.specs.declared.desc.types.DescBase.TheVariants.Object n) (same_name c)
  same_base BoolBase = refl
  same_base Byte = refl
  same_base Char = refl
  same_base Short = refl
  same_base Int = refl
  same_base Long = refl

  pub same_descs : kind_desc P ≡ kind_desc Q
  same_descs = same_functions (kind_desc P) (kind_desc Q) (λ k. ap (λ (b : DescBase). record { dims = k.dims; base = b }) (same_base k.base))

  -- ---- numbers of one are numbers of the other

  pub class_back : (c : ℕ) → IsTrue (is_class_in Q c) → IsTrue (is_class_in P c)
  class_back c p = subst (λ n. IsTrue (nat_lt c n)) (sym same_count) p

  pub kind_back : (k : Kind) → IsTrue (is_kind_in Q k) → IsTrue (is_kind_in P k)
  kind_back k p = of_option (class_in k.base) p
    where
      of_option : (o : Option ℕ) → IsTrue (option_map_or (is_class_in Q) o true) → IsTrue (option_map_or (is_class_in P) o true)
      of_option None p = refl
      of_option (Some c) p = class_back c p
