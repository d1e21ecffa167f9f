-- A descriptor says one type, and a type of a program has one kind.
use Rattle.std.proofs.Common.{◌≡◌, ℕ, true, List, [], ◌∷◌, length, map, refl, sym, ap, ◌∙◌, Result, Ok}
use Rattle.std.specs.Prelude.{Option, Some, None, IsTrue}
use Rattle.std.specs.List.{list_all}
use Rattle.std.specs.Option.{option_map, option_map_or}
use Rattle.std.proofs.lemmas.Bool.{and_parts, ltb-true}
use Rattle.std.proofs.lemmas.Option.{same_Some}
use Rattle.nr_base.specs.declared.desc.fault.DescFault.{DescFault}
use Rattle.nr_base.specs.declared.desc.fault.DescFault.TheVariants as faults
use Rattle.nr_base.specs.declared.desc.types.Desc.{Desc}
use Rattle.nr_base.specs.declared.desc.types.MethodDesc.{MethodDesc}
use Rattle.nr_base.specs.Descs.{desc, method_desc}
use Rattle.nr_base.proofs.DescLaws.{desc_law}
use Rattle.nr_base.proofs.Laws.{whole_only}
use Rattle.nr_prog.proofs.LegalLaws.{method_only}
use Rattle.nr_linked.specs.declared.program.kind.Base.{Base}
use Rattle.nr_linked.specs.declared.program.kind.Base.TheVariants.{Bool as BoolBase, Byte, Char, Short, Int, Long, Object}
use Rattle.nr_linked.specs.declared.program.kind.Kind.{Kind}
use Rattle.nr_linked.specs.declared.program.tables.ClassInfo.{ClassInfo}
use Rattle.nr_linked.specs.declared.program.tables.ProgramTables.{ProgramTables}
use Rattle.nr_linked.specs.Kinds.{class_in}
use Rattle.nr_linked.specs.KindTexts.{base_desc, class_name, kind_desc}
use Rattle.nr_linked.specs.Linked.{Linked, is_class_in, is_kind_in, is_kind_in_or_none}
use Rattle.nr_linked.specs.Programs.{class_at, class_named}
use Rattle.nr_linked.proofs.Elements.{get_below}

-- ---- texts

same_ok : {A : Type 0} (x y : A) → ◌≡◌ {A = Result A DescFault} (Ok x) (Ok y) → x ≡ y
same_ok x y e = cc

pub one_desc : (d e : Desc) (text : List ℕ) → desc d text → desc e text → d ≡ e
one_desc d e text p q = same_ok d e (sym (whole_only faults.BadDesc desc_law text d p) ∙ whole_only faults.BadDesc desc_law text e q)

pub one_method_desc : (d e : MethodDesc) (text : List ℕ) → method_desc d text → method_desc e text → d ≡ e
one_method_desc d e text p q = same_ok d e (sym (method_only text d p) ∙ method_only text e q)

-- ---- kinds

pub name_of : (P : ProgramTables) (c : ℕ) (e : ClassInfo) → class_at P c ≡ Some e → class_name P c ≡ e.name
name_of P c e is = ap (λ o. option_map_or (λ (e : ClassInfo). e.name) o []) is

module _ (P : ProgramTables) (linked : Linked P) where
  pub one_class : (c d : ℕ) → IsTrue (is_class_in P c) → IsTrue (is_class_in P d) → class_name P c ≡ class_name P d → c ≡ d
  one_class c d p q e =
      let r = get_below P.classes c (ltb-true c (length P.classes) p) in
      let s = get_below P.classes d (ltb-true d (length P.classes) q) in
      let names = sym (name_of P c r.0 r.1) ∙ e ∙ name_of P d s.0 s.1 in
      same_Some c d (sym (linked.classes c r.0 r.1).name ∙ ap (class_named P) names ∙ (linked.classes d s.0 s.1).name)

  one_base : (a b : Base) → IsTrue (option_map_or (is_class_in P) (class_in a) true) → IsTrue (option_map_or (is_class_in P) (class_in b) true) → base_desc P a ≡ base_desc P b → a ≡ b
  one_base BoolBase BoolBase p q e = refl
  one_base Byte Byte p q e = refl
  one_base Char Char p q e = refl
  one_base Short Short p q e = refl
  one_base Int Int p q e = refl
  one_base Long Long p q e = refl
  one_base (Object c) (Object d) p q e = ap (λ c. Object c) (one_class c d p q (cc))
  one_base a b p q e = absurd cc

  pub one_kind : (j k : Kind) → IsTrue (is_kind_in P j) → IsTrue (is_kind_in P k) → kind_desc P j ≡ kind_desc P k → j ≡ k
  one_kind j k p q e =
      let dims = ap (λ (d : Desc). d.dims) e in
      let base = one_base j.base k.base p q (ap (λ (d : Desc). d.base) e) in
      of_parts j.dims k.dims j.base k.base dims base
    where
      of_parts : (m n : ℕ) (a b : Base) → m ≡ n → a ≡ b → ◌≡◌ {A = Kind} (record { dims = m; base = a }) (record { dims = n; base = b })
      of_parts m n a b e f = cc

  pub one_list : (js ks : List Kind) → IsTrue (list_all (is_kind_in P) js) → IsTrue (list_all (is_kind_in P) ks) → map (kind_desc P) js ≡ map (kind_desc P) ks → js ≡ ks
  one_list [] [] p q e = refl
  one_list [] (k ∷ ks) p q e = absurd cc
  one_list (j ∷ js) [] p q e = absurd cc
  one_list (j ∷ js) (k ∷ ks) p q e =
      let a = and_parts (is_kind_in P j) (list_all (is_kind_in P) js) p in
      let b = and_parts (is_kind_in P k) (list_all (is_kind_in P) ks) q in
      let first = one_kind j k a.0 b.0 (cc) in
      let rest = one_list js ks a.1 b.1 (cc) in
      cc

  pub one_option : (j k : Option Kind) → IsTrue (is_kind_in_or_none P j) → IsTrue (is_kind_in_or_none P k) → option_map (kind_desc P) j ≡ option_map (kind_desc P) k → j ≡ k
  one_option None None p q e = refl
  one_option None (Some k) p q e = absurd cc
  one_option (Some j) None p q e = absurd cc
  one_option (Some j) (Some k) p q e = ap (λ k. Some k) (one_kind j k p q (same_Some (kind_desc P j) (kind_desc P k) e))
