-- The program that classes make where they have no fault is a linked program.
use Rattle.std.proofs.Common.{◌≡◌, ℕ, ◌+◌, ◌*◌, ◌-◌, ◌≤◌, List, [], ◌∷◌, length, drop, sym, ap, subst, ◌∙◌, arith, inl, inr, length-append}
use Rattle.std.specs.Prelude.{All, Some, None}
use Rattle.std.specs.List.{flat_map}
use Rattle.std.proofs.Math.Nat.{suc-mul}
use Rattle.std.proofs.lemmas.Bool.{cases_lt}
use Rattle.std.proofs.lemmas.Option.{same_Some}
use Rattle.nr_prog.specs.declared.body.loaded.Loaded.{Loaded}
use Rattle.nr_linked.specs.declared.program.tables.ClassInfo.{ClassInfo}
use Rattle.nr_linked.specs.declared.program.tables.MethodInfo.{MethodInfo}
use Rattle.nr_linked.specs.declared.program.tables.ProgramTables.{ProgramTables}
use Rattle.nr_linked.specs.BuiltInTables.{built_in_infos, built_in_methods}
use Rattle.nr_linked.specs.Linked.{IsClassLinked, IsMethodLinked, Linked, first_built_in, first_built_in_method}
use Rattle.nr_linked.specs.Programs.{class_at, method_at}
use Rattle.nr_links.specs.Entries.{method_count}
use Rattle.nr_links.proofs.MethodEntries.{Stands, stand}
use Rattle.nr_links.proofs.OneNames.{same_list}
use Rattle.nr_linked.proofs.Elements.{get_dropped}
use Rattle.nr_linkrules.specs.LinkFaults.{link_fault}
use Rattle.nr_linkrules.specs.Readable.{IsReadable}
use Rattle.nr_linkrules.proofs.Known as known
use Rattle.nr_linkrules.proofs.KnownAbove as above
use Rattle.nr_linkrules.proofs.KnownClasses as classes_known
use Rattle.nr_linkrules.proofs.KnownMethods as methods_known
use Rattle.nr_linkrules.proofs.Learnt as learnt
use Rattle.nr_linkrules.proofs.OutlinedMethods.{all_parts}
use Rattle.nr_linkrules.proofs.Program as program
use Rattle.nr_linkrules.proofs.Shifted as shifted

-- classes have few methods
count_few : (classes : List Loaded) → All IsReadable classes → method_count classes ≤ length classes * 65536
count_few [] all = omega arith
count_few (l ∷ ls) all =
    let parts = all_parts IsReadable l ls all in
    let rest = count_few ls parts.1 in
    let here = parts.0.decoded.bounds.methods in
    let sum = length-append l.«class».methods (flat_map (λ (l : Loaded). l.«class».methods) ls) in
    let product = suc-mul (length ls) 65536 in
    omega (arith, rest, here, sum, product)

module _ (classes : List Loaded) (none : link_fault classes ≡ None) (all : All IsReadable classes) where
  abbrev P : ProgramTables
  P = known.P classes none all

  abbrev n : ℕ
  n = length classes

  abbrev m : ℕ
  m = method_count classes

  few : n ≤ 1024
  few = learnt.few classes (known.passed classes none all).list

  built_in_classes : drop n P.classes ≡ built_in_infos n m
  built_in_classes = same_list (drop n P.classes) (built_in_infos n m) (λ j. get_dropped P.classes n j ∙ program.class_at_built_in classes j)

  built_in_rest : drop m P.methods ≡ built_in_methods n
  built_in_rest = same_list (drop m P.methods) (built_in_methods n) (λ j. get_dropped P.methods m j ∙ program.method_at_built_in classes (known.decoded classes none all) j)

  first_class : first_built_in P ≡ n
  first_class = program.first_class classes

  first_method : first_built_in_method P ≡ m
  first_method = program.first_method classes (known.decoded classes none all)

  each_class : (c : ℕ) (e : ClassInfo) → class_at P c ≡ Some e → IsClassLinked P c e
  each_class c e is = of_kind (above.kind classes none all c) e is
    where
      of_kind : {c : ℕ} → above.Kind classes none all c → (e : ClassInfo) → class_at P c ≡ Some e → IsClassLinked P c e
      of_kind (above.loaded k l at) e is = subst (IsClassLinked P k) (same_Some (program.entry_of classes k l) e (sym (above.is_entry classes none all k l at) ∙ is)) (classes_known.class_linked classes none all k l at)
      of_kind (above.built_in_at j) e is = above.built_in_linked classes none all j e is

  loaded_method : (k : ℕ) (i : MethodInfo) (s : Stands classes k) → method_at P k ≡ Some i → IsMethodLinked P k i
  loaded_method k i s is =
      let there = ap (method_at P) s.sum ∙ methods_known.here classes none all s.own s.l s.place s.m s.decoded s.at s.declares s.decodes in
      let same = same_Some (methods_known.i classes none all s.own s.l s.place s.m s.decoded s.at s.declares s.decodes) i (sym there ∙ is) in
      subst (IsMethodLinked P k) same
      (subst (λ k. IsMethodLinked P k (methods_known.i classes none all s.own s.l s.place s.m s.decoded s.at s.declares s.decodes)) (sym s.sum)
      (methods_known.is_linked classes none all s.own s.l s.place s.m s.decoded s.at s.declares s.decodes s.body_for))

  each_method : (k : ℕ) (i : MethodInfo) → method_at P k ≡ Some i → IsMethodLinked P k i
  each_method k i is = elim (cases_lt k m) [
    | inl lt ↦ loaded_method k i (stand classes (known.decoded classes none all) k lt) is
    | inr le ↦
        let e : m + (k - m) ≡ k = omega (arith, le) in
        subst (λ k. IsMethodLinked P k i) e
        (shifted.method_linked P n m (program.class_count classes) (above.class_there classes none all) (above.method_there classes none all) (k - m) i (ap (method_at P) e ∙ is))
  ]

  pub linked : Linked P
  linked = record {
    few_classes = let total = program.class_count classes in let f = few in omega (arith, total, f);
    few_methods = let total = program.all_methods classes (known.decoded classes none all) in let c = count_few classes all in let f = few in omega (arith, total, c, f);
    built_ins = ap (λ k. drop k P.classes) first_class ∙ built_in_classes ∙ (λ i. built_in_infos (sym first_class i) (sym first_method i));
    built_in_methods = ap (λ k. drop k P.methods) first_method ∙ built_in_rest ∙ ap built_in_methods (sym first_class);
    classes = each_class;
    methods = each_method;
  }
