-- Two programs with one table of classes that the same classes link to have one table of methods.
use Rattle.std.proofs.Common.{◌≡◌, ℕ, ◌<◌, inl, inr, Bool, List, [], ◌∷◌, map, refl, sym, ap, subst, ◌∙◌, arith}
use Rattle.std.specs.Prelude.{Some, All, IsTrue}
use Rattle.std.specs.List.{AllZip, list_all, list_any}
use Rattle.std.specs.Option.{option_map_or}
use Rattle.std.proofs.lemmas.Bool.{and_from, and_parts, cases_lt}
use Rattle.std.proofs.lemmas.Option.{same_Some}
use Rattle.nr_base.specs.declared.desc.types.Desc.{Desc}
use Rattle.nr_base.specs.declared.desc.types.MethodDesc.{MethodDesc}
use Rattle.nr_base.specs.Descs.{method_desc}
use Rattle.nr_prog.specs.declared.body.frame_map.FrameMap.{FrameMap}
use Rattle.nr_prog.specs.declared.body.frame_map.MapType.TheVariants as map_types
use Rattle.nr_prog.specs.declared.body.loaded.Loaded.{Loaded}
use Rattle.nr_prog.specs.declared.body.whole.Body.{Body}
use Rattle.nr_linked.specs.declared.program.tables.ClassInfo.{ClassInfo}
use Rattle.nr_linked.specs.declared.program.tables.MethodInfo.{MethodInfo}
use Rattle.nr_linked.specs.declared.program.tables.ProgramTables.{ProgramTables}
use Rattle.nr_linked.specs.declared.program.types.VFrame.{VFrame}
use Rattle.nr_linked.specs.declared.program.types.VType.{VType}
use Rattle.nr_linked.specs.declared.program.types.VType.TheVariants.{Top, Int, Long, Null, UninitThis, Uninit, Class}
use Rattle.nr_linked.specs.KindTexts.{kind_desc}
use Rattle.nr_linked.specs.Linked.{frame_maps_of, handlers_of, instrs_of, is_frame_in, is_type_in}
use Rattle.nr_linked.specs.Programs.{method_at}
use Rattle.nr_linked.specs.TypingCalls.{is_uninit_this}
use Rattle.nr_linked.specs.TypingFrames.{in_places}
use Rattle.nr_links.specs.Entries.{IsCaught, IsFrameOf, map_type, method_count}
use Rattle.nr_links.specs.Found.{IsFound}
use Rattle.nr_links.specs.Links.{IsDecoded, Links}
use Rattle.nr_links.proofs.Descriptors.{one_kind, one_list, one_method_desc, one_option}
use Rattle.nr_links.proofs.MethodEntries.{method_from, stand}
use Rattle.nr_links.proofs.OneFound.{one_caught, one_found, with_methods}
use Rattle.nr_links.proofs.OneNames.{same_list, same_options, same_past_methods}
use Rattle.nr_links.proofs.OneTable.{one_table}
use Rattle.nr_linked.proofs.Elements.{get_below}

-- ---- lists place by place

one_zip : {X Y : Type 0} (R S : X → Y → Type 0) → ((x : X) (y z : Y) → R x y → S x z → y ≡ z) → (xs : List X) (ys zs : List Y) → AllZip R xs ys → AllZip S xs zs → ys ≡ zs
one_zip R S one [] [] [] a b = refl
one_zip R S one [] [] (z ∷ zs) a b = absurd b
one_zip R S one [] (y ∷ ys) zs a b = absurd a
one_zip R S one (x ∷ xs) [] zs a b = absurd a
one_zip R S one (x ∷ xs) (y ∷ ys) [] a b = absurd b
one_zip R S one (x ∷ xs) (y ∷ ys) (z ∷ zs) a b =
    let first = one x y z a.0 b.0 in
    let rest = one_zip R S one xs ys zs a.1 b.1 in
    cc

-- with a test that each passes
zip_passing : {X Y : Type 0} (R : X → Y → Type 0) (f : Y → Bool) (xs : List X) (ys : List Y) → AllZip R xs ys → IsTrue (list_all f ys) → AllZip (λ x y. R x y × IsTrue (f y)) xs ys
zip_passing R f [] [] a p = tt
zip_passing R f [] (y ∷ ys) a p = absurd a
zip_passing R f (x ∷ xs) [] a p = absurd a
zip_passing R f (x ∷ xs) (y ∷ ys) a p = let both = and_parts (f y) (list_all f ys) p in ((a.0, both.0), zip_passing R f xs ys a.1 both.1)

-- ---- types of frame maps

places_pass : (f : VType → Bool) (ts : List VType) → IsTrue (list_all f (in_places ts)) → IsTrue (list_all f ts)
places_pass f [] p = refl
places_pass f (Long ∷ ts) p =
    let a = and_parts (f Long) _ p in
    let b = and_parts (f Top) _ a.1 in
    and_from (f Long) (list_all f ts) a.0 (places_pass f ts b.1)
places_pass f (Top ∷ ts) p = let a = and_parts (f Top) _ p in and_from (f Top) (list_all f ts) a.0 (places_pass f ts a.1)
places_pass f (Int ∷ ts) p = let a = and_parts (f Int) _ p in and_from (f Int) (list_all f ts) a.0 (places_pass f ts a.1)
places_pass f (Null ∷ ts) p = let a = and_parts (f Null) _ p in and_from (f Null) (list_all f ts) a.0 (places_pass f ts a.1)
places_pass f (UninitThis ∷ ts) p = let a = and_parts (f UninitThis) _ p in and_from (f UninitThis) (list_all f ts) a.0 (places_pass f ts a.1)
places_pass f (Uninit n ∷ ts) p = let a = and_parts (f (Uninit n)) _ p in and_from (f (Uninit n)) (list_all f ts) a.0 (places_pass f ts a.1)
places_pass f (Class k ∷ ts) p = let a = and_parts (f (Class k)) _ p in and_from (f (Class k)) (list_all f ts) a.0 (places_pass f ts a.1)

frame_same : (e f : ℕ × VFrame) → e.0 ≡ f.0 → e.1.locals ≡ f.1.locals → e.1.stack ≡ f.1.stack → e.1.this_uninit ≡ f.1.this_uninit → e ≡ f
frame_same e f at locals stack mark = λ i. (at i, record { locals = locals i; stack = stack i; this_uninit = mark i })

method_same : (i j : MethodInfo) → i.«class» ≡ j.«class» → i.name ≡ j.name → i.desc ≡ j.desc → i.flags ≡ j.flags → i.params ≡ j.params → i.result ≡ j.result → i.max_stack ≡ j.max_stack → i.max_locals ≡ j.max_locals
    → i.body ≡ j.body → i.resolved ≡ j.resolved → i.catches ≡ j.catches → i.maps ≡ j.maps → i ≡ j
method_same i j own name desc flags params result max_stack max_locals body resolved catches maps = λ k. record {
  «class» = own k;
  name = name k;
  desc = desc k;
  flags = flags k;
  params = params k;
  result = result k;
  max_stack = max_stack k;
  max_locals = max_locals k;
  body = body k;
  resolved = resolved k;
  catches = catches k;
  maps = maps k;
}

module _ (classes : List Loaded) (all : All IsDecoded classes) (C : List ClassInfo) (M N : List MethodInfo) (L : Links classes (with_methods C M)) (K : Links classes (with_methods C N)) where
  one_type : (t u : VType) → IsTrue (is_type_in (with_methods C M) t) → IsTrue (is_type_in (with_methods C N) u) → map_type (with_methods C M) t ≡ map_type (with_methods C N) u → t ≡ u
  one_type Top Top p q e = refl
  one_type Int Int p q e = refl
  one_type Long Long p q e = refl
  one_type Null Null p q e = refl
  one_type UninitThis UninitThis p q e = refl
  one_type (Uninit n) (Uninit m) p q e = let same : n ≡ m = cc in ap (λ n. Uninit n) same
  one_type (Class j) (Class k) p q e = ap (λ k. Class k) (one_kind (with_methods C M) L.linked j k p q (object_same (kind_desc (with_methods C M) j) (kind_desc (with_methods C M) k) e))
    where
      object_same : (d e : Desc) → map_types.Object d ≡ map_types.Object e → d ≡ e
      object_same d e p = cc
  one_type t u p q e = absurd cc

  one_types : (ts us : List VType) → IsTrue (list_all (is_type_in (with_methods C M)) ts) → IsTrue (list_all (is_type_in (with_methods C N)) us) → map (map_type (with_methods C M)) ts ≡ map (map_type (with_methods C N)) us → ts ≡ us
  one_types [] [] p q e = refl
  one_types [] (u ∷ us) p q e = absurd cc
  one_types (t ∷ ts) [] p q e = absurd cc
  one_types (t ∷ ts) (u ∷ us) p q e =
      let a = and_parts (is_type_in (with_methods C M) t) (list_all (is_type_in (with_methods C M)) ts) p in
      let b = and_parts (is_type_in (with_methods C N) u) (list_all (is_type_in (with_methods C N)) us) q in
      let heads : map_type (with_methods C M) t ≡ map_type (with_methods C N) u = cc in
      let tails : map (map_type (with_methods C M)) ts ≡ map (map_type (with_methods C N)) us = cc in
      let first = one_type t u a.0 b.0 heads in
      let rest = one_types ts us a.1 b.1 tails in
      cc

  one_frame : (f : FrameMap) (e g : ℕ × VFrame) → IsFrameOf (with_methods C M) f e × IsTrue (is_frame_in (with_methods C M) e.1) → IsFrameOf (with_methods C N) f g × IsTrue (is_frame_in (with_methods C N) g.1) → e ≡ g
  one_frame f e g a b =
      let p = and_parts (list_all (is_type_in (with_methods C M)) e.1.locals) (list_all (is_type_in (with_methods C M)) e.1.stack) a.1 in
      let q = and_parts (list_all (is_type_in (with_methods C N)) g.1.locals) (list_all (is_type_in (with_methods C N)) g.1.stack) b.1 in
      let mine = places_pass (is_type_in (with_methods C M)) a.0.locals (subst (λ ts. IsTrue (list_all (is_type_in (with_methods C M)) ts)) a.0.in_places p.0) in
      let theirs = places_pass (is_type_in (with_methods C N)) b.0.locals (subst (λ ts. IsTrue (list_all (is_type_in (with_methods C N)) ts)) b.0.in_places q.0) in
      let listed = one_types a.0.locals b.0.locals mine theirs (a.0.are_locals ∙ sym b.0.are_locals) in
      let locals = a.0.in_places ∙ ap in_places listed ∙ sym b.0.in_places in
      frame_same e g (a.0.at ∙ sym b.0.at) locals (one_types e.1.stack g.1.stack p.1 q.1 (a.0.stack ∙ sym b.0.stack)) (a.0.this_uninit ∙ ap (list_any is_uninit_this) locals ∙ sym b.0.this_uninit)

  one_method : (n : ℕ) (i j : MethodInfo) → method_at (with_methods C M) n ≡ Some i → method_at (with_methods C N) n ≡ Some j → n < method_count classes → i ≡ j
  one_method n i j is js below =
      let s = stand classes all n below in
      let f = method_from classes (with_methods C M) L n i s.own s.l s.m s.place s.decoded is s.at s.declares s.decodes s.sum in
      let g = method_from classes (with_methods C N) K n j s.own s.l s.m s.place s.decoded js s.at s.declares s.decodes s.sum in
      let a = f.said in
      let b = g.said in
      let p = L.linked.methods n i is in
      let q = K.linked.methods n j js in
      let pool = s.l.«class».pool in
      let descs = same_Some i.desc j.desc (sym f.desc ∙ g.desc) in
      let says = one_method_desc a.says b.says j.desc (subst (method_desc a.says) descs a.spelled) b.spelled in
      let body = a.body ∙ sym b.body in
      let instrs = sym (ap (λ o. option_map_or (λ (b : Body). b.instrs) o []) body) in
      let handlers = sym (ap (λ o. option_map_or (λ (b : Body). b.handlers) o []) body) in
      let maps = sym (ap (λ o. option_map_or (λ (b : Body). b.maps) o []) body) in
      method_same i j
      (f.is_own ∙ sym g.is_own)
      (same_Some i.name j.name (sym f.name ∙ g.name))
      descs
      (f.flags ∙ sym g.flags)
      (one_list (with_methods C M) L.linked i.params j.params p.params q.params (a.params ∙ ap (λ (d : MethodDesc). d.params) says ∙ sym b.params))
      (one_option (with_methods C M) L.linked i.result j.result p.result q.result (a.result ∙ ap (λ (d : MethodDesc). d.result) says ∙ sym b.result))
      (a.max_stack ∙ sym b.max_stack)
      (a.max_locals ∙ sym b.max_locals)
      body
      (one_zip (IsFound (with_methods C M) s.own pool) (IsFound (with_methods C N) s.own pool) (one_found classes all C M N L K s.own pool) (instrs_of i) i.resolved j.resolved a.resolved
      (subst (λ is. AllZip (IsFound (with_methods C N) s.own pool) is j.resolved) instrs b.resolved))
      (one_zip (IsCaught (with_methods C M) pool) (IsCaught (with_methods C N) pool) (one_caught classes all C M N L K pool) (handlers_of i) i.catches j.catches a.catches
      (subst (λ hs. AllZip (IsCaught (with_methods C N) pool) hs j.catches) handlers b.catches))
      (one_zip (λ f e. IsFrameOf (with_methods C M) f e × IsTrue (is_frame_in (with_methods C M) e.1)) (λ f e. IsFrameOf (with_methods C N) f e × IsTrue (is_frame_in (with_methods C N) e.1)) one_frame (frame_maps_of i) i.maps j.maps
      (zip_passing (IsFrameOf (with_methods C M)) (λ e. is_frame_in (with_methods C M) e.1) (frame_maps_of i) i.maps a.maps p.maps)
      (subst (λ fs. AllZip (λ f e. IsFrameOf (with_methods C N) f e × IsTrue (is_frame_in (with_methods C N) e.1)) fs j.maps) maps
      (zip_passing (IsFrameOf (with_methods C N)) (λ e. is_frame_in (with_methods C N) e.1) (frame_maps_of j) j.maps b.maps q.maps)))

  same_method : (n : ℕ) → method_at (with_methods C M) n ≡ method_at (with_methods C N) n
  same_method n = elim (cases_lt n (method_count classes)) [
    | inl below ↦ same_options (method_at (with_methods C M) n) (method_at (with_methods C N) n) (λ i j is js. one_method n i j is js below)
        (λ i is. get_below N n (omega (arith, K.method_count, below)))
        (λ j js. get_below M n (omega (arith, L.method_count, below)))
    | inr past ↦ same_past_methods classes (with_methods C M) (with_methods C N) L K n (omega (arith, L.method_count, past))
  ]

  pub one_methods : M ≡ N
  one_methods = same_list M N same_method

-- ---- the whole

pub one_program : (classes : List Loaded) (P Q : ProgramTables) → All IsDecoded classes → Links classes P → Links classes Q → P ≡ Q
one_program classes P Q all L K =
    let table = one_table classes P Q L K in
    let moved = subst (Links classes) (λ i. with_methods (table i) P.methods) L in
    let methods = one_methods classes all Q.classes P.methods Q.methods moved K in
    λ i. record { classes = table i; methods = methods i }
