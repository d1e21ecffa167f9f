-- The tables that linking puts together are the program that the classes link to.
use Rattle.std.proofs.Common.{◌≡◌, ℕ, ◌+◌, ◌-◌, ◌<◌, ◌≤◌, ◌^◌, Bool, List, [], ◌∷◌, ◌++◌, length, drop, take, map, refl, sym, ap, subst, ◌∙◌, arith, length-append}
use Rattle.std.specs.Prelude.{All, IfOk, Option, Some, None, Result, Ok, Err}
use Rattle.std.specs.Bool.{MatchBool}
use Rattle.std.specs.Borrow.{Bor}
use Rattle.std.specs.List.{flat_map}
use Rattle.std.specs.Option.{option_or}
use Rattle.std.proofs.lemmas.List.Elements.{All-append, All-cons, All-nil}
use Rattle.std.proofs.Math.Seq.{drop-append_seam, take-append_seam}
use Rattle.nr_base.specs.Clauses.{GivesWhole}
use Rattle.nr_prog.specs.declared.body.loaded.Loaded.{Loaded}
use Rattle.nr_prog.specs.BodyText.{HasBodies}
use Rattle.nr_linked.specs.declared.program.built_in.BuiltIn.{BuiltIn}
use Rattle.nr_linked.specs.declared.program.tables.ClassInfo.{ClassInfo}
use Rattle.nr_linked.specs.declared.program.tables.MethodInfo.{MethodInfo}
use Rattle.nr_linked.specs.declared.program.tables.ProgramTables.{ProgramTables}
use Rattle.nr_linked.specs.BuiltIns.{BuiltInMethod, built_in_class, number}
use Rattle.nr_linked.specs.BuiltInTables.{built_in_method, built_in_methods, built_ins}
use Rattle.nr_linked.specs.Facts.{ProgramFacts}
use Rattle.nr_linked.specs.Linked.{built_in_method_count, first_built_in_method}
use Rattle.nr_links.specs.Links.{IsDecoded, Links}
use Rattle.nr_links.proofs.Facts.{program_facts}
use Rattle.nr_linkrules.specs.declared.fault.LinkFault.{LinkFault}
use Rattle.nr_linkrules.specs.ClassRules.{list_fault}
use Rattle.nr_linkrules.specs.Completion.{completed, linked_program}
use Rattle.nr_linkrules.specs.Faults.{Fails, Finds, is_free}
use Rattle.nr_linkrules.specs.Layout.{laid_out}
use Rattle.nr_linkrules.specs.LinkFaults.{classes_fault, code_faults, link_fault}
use Rattle.nr_linkrules.specs.Outline.{names_of, outline, outline_methods}
use Rattle.nr_linkrules.specs.Reaches.{HasSteps, rows_of}
use Rattle.nr_linkrules.specs.Readable.{IsReadable}
use Rattle.nr_linkrules.proofs.Linking.{links, no_other}
use Rattle.nr_linkrules.proofs.PassedCode.{no_fault}
use Rattle.nr_linkrules.proofs.Program.{laid_methods, methods_length}
use Rattle.nr_link.specs.Finished.{finished, later_methods, loaded_methods}
use Rattle.nr_link.specs.Coded.{IsCoded}
use Rattle.nr_link.specs.Ready.{IsReady}
use Rattle.nr_link.specs.Seen.{AreApart}
use Rattle.nr_names.specs.Numbers.{texts}
use Rattle.nr_link.proofs.Apart.{all_apart}
use Rattle.nr_link.proofs.Prepared.{coded, ready}
use Rattle.nr_link.proofs.Steps.{entry_count, has_steps, names_are}
use Rattle.nr_link.proofs.Walks.{either, fails_first}
use Rattle.indexmap.specs.IndexSet.{IndexSet}

module _ (classes : List Loaded) where
  abbrev L : ProgramTables
  L = laid_out (outline classes)

  seam : first_built_in_method L ≡ length (outline_methods 0 classes)
  seam =
      let a = ap length (laid_methods classes) in
      let b = length-append (outline_methods 0 classes) (built_in_methods (length classes)) in
      let c = methods_length (length classes) in
      omega (arith, a, b, c)

  loaded_are : loaded_methods L ≡ outline_methods 0 classes
  loaded_are = (λ i. take (seam i) (laid_methods classes i)) ∙ take-append_seam (outline_methods 0 classes) (built_in_methods (length classes))

  later_are : later_methods L ≡ built_in_methods (length classes)
  later_are = (λ i. drop (seam i) (laid_methods classes i)) ∙ drop-append_seam (outline_methods 0 classes) (built_in_methods (length classes))

  -- the methods of built-in classes have no code
  built_in_none : (first : ℕ) (bs : List BuiltIn) → All (λ (i : MethodInfo). i.body ≡ None) (flat_map (λ b. map (built_in_method (first + number b)) (built_in_class b).methods) bs)
  unfolding built_in_method
  built_in_none first [] = All-nil (λ (i : MethodInfo). i.body ≡ None)
  built_in_none first (b ∷ bs) =
      All-append (λ (i : MethodInfo). i.body ≡ None) (map (built_in_method (first + number b)) (built_in_class b).methods) (flat_map (λ b. map (built_in_method (first + number b)) (built_in_class b).methods) bs)
      (each (built_in_class b).methods) (built_in_none first bs)
    where
      each : (ms : List BuiltInMethod) → All (λ (i : MethodInfo). i.body ≡ None) (map (built_in_method (first + number b)) ms)
      each [] = All-nil (λ (i : MethodInfo). i.body ≡ None)
      each (m ∷ ms) = All-cons (λ (i : MethodInfo). i.body ≡ None) (built_in_method (first + number b) m) (map (built_in_method (first + number b)) ms) refl (each ms)

  pub later_none : All (λ (i : MethodInfo). i.body ≡ None) (later_methods L)
  unfolding built_in_methods
  later_none = subst (All (λ (i : MethodInfo). i.body ≡ None)) (sym later_are) (built_in_none (length classes) built_ins)

  pub finished_is : finished L ≡ linked_program classes
  unfolding linked_program
  finished_is = λ i. record { classes = L.classes; methods = map (completed L) (loaded_are i) ++ later_are i }

  -- ---- tables that are the outline, or that laid out

  pub names_at : (P : ProgramTables) (ns : List (List ℕ)) → P ≡ outline classes → ns ≡ names_of classes → ns ≡ map (λ (e : ClassInfo). e.name) P.classes
  names_at P ns e n = n ∙ sym (names_are classes) ∙ ap (λ (P : ProgramTables). map (λ (e : ClassInfo). e.name) P.classes) (sym e)

  pub few_at : (P : ProgramTables) → P ≡ outline classes → length classes ≤ 1024 → length P.classes < 2 ^ 32
  few_at P e few = subst (λ (P : ProgramTables). length P.classes < 2 ^ 32) (sym e) (let count = entry_count classes in omega (arith, count, few))

  pub steps_at : (P : ProgramTables) → P ≡ outline classes → HasSteps P
  steps_at P e = subst HasSteps (sym e) (has_steps classes)

  pub fails_at_outline : (P : ProgramTables) (f : LinkFault) → P ≡ outline classes → Fails f (classes_fault P) → Fails f (classes_fault (outline classes))
  fails_at_outline P f e h = subst (λ (P : ProgramTables). Fails f (classes_fault P)) e h

  pub rows_at : (P : ProgramTables) (rows : List (List Bool)) → P ≡ outline classes → rows ≡ rows_of P (length P.classes) → rows ≡ rows_of (outline classes) (length (outline classes).classes)
  rows_at P rows e r = r ∙ ap (λ (P : ProgramTables). rows_of P (length P.classes)) e

  pub laid_at : (P Q : ProgramTables) → P ≡ outline classes → Q ≡ laid_out P → Q ≡ L
  laid_at P Q e laid = laid ∙ ap laid_out e

  pub bodies_in : All IsReadable classes → All (λ (l : Loaded). HasBodies l.«class» l.bodies) classes
  bodies_in all k d lt = (all k d lt).decoded.bodies

  -- of the tables laid out
  pub ready_at : {S : Type 0} (all : All IsReadable classes) (few : length classes ≤ 1024) (P : ProgramTables) (names : IndexSet (Bor (List ℕ)) S) (rows : List (List Bool)) → P ≡ L → texts names ≡ names_of classes → rows ≡ rows_of (outline classes) (length (outline classes).classes) → IsReady P names rows
  ready_at all few P names rows e n r = subst (λ (P : ProgramTables). IsReady P names rows) (sym e) (ready classes all few names rows n r)

  pub coded_at : (all : All IsReadable classes) (few : length classes ≤ 1024) (P : ProgramTables) → P ≡ L → All (IsCoded P) P.methods
  coded_at all few P e = subst (λ (P : ProgramTables). All (IsCoded P) P.methods) (sym e) (coded classes all few)

  pub later_at : (P : ProgramTables) → P ≡ L → All (λ (i : MethodInfo). i.body ≡ None) (later_methods P)
  later_at P e = subst (λ (P : ProgramTables). All (λ (i : MethodInfo). i.body ≡ None) (later_methods P)) (sym e) later_none

  -- ---- faults, pass by pass

  pub at_list : (e : LinkFault) → Fails e (list_fault classes) → Fails e (link_fault classes)
  unfolding link_fault
  at_list e f = fails_first e (list_fault classes) (option_or (classes_fault (outline classes)) (code_faults L)) f

  pub at_classes : (e : LinkFault) → list_fault classes ≡ None → Fails e (classes_fault (outline classes)) → Fails e (link_fault classes)
  unfolding link_fault
  at_classes e none f =
      subst (Fails e) (sym (ap (λ o. option_or o (option_or (classes_fault (outline classes)) (code_faults L))) none))
      (fails_first e (classes_fault (outline classes)) (code_faults L) f)

  pub behind_classes : list_fault classes ≡ None → classes_fault (outline classes) ≡ None → code_faults L ≡ link_fault classes
  unfolding link_fault
  behind_classes list_none none = sym (λ i. option_or (list_none i) (option_or (none i) (code_faults L)))

  -- ---- the program

  module _ (all : All IsReadable classes) where
    decoded : All IsDecoded classes
    decoded k d lt = (all k d lt).decoded

    pub facts : link_fault classes ≡ None → ProgramFacts (linked_program classes)
    facts none = program_facts classes (linked_program classes) (links classes none all) decoded

    pub linked : link_fault classes ≡ None → Links classes (linked_program classes)
    linked none = links classes none all

    -- where the classes link, nothing but want of memory fails
    pub only_memory : (e : LinkFault) (P : ProgramTables) → Fails e (link_fault classes) → Links classes P → MatchBool (is_free e) (Unit {0}) (◌≡◌ {A = Result ProgramTables LinkFault} (Ok P) (Err e))
    only_memory e P f given = either (is_free e) (λ some. absurd (both (no_fault classes P given decoded) some)) f
      where
        both : link_fault classes ≡ None → link_fault classes ≡ Some e → ⊥
        both none some = cc

    pub only_one : (P : ProgramTables) → Links classes P → ◌≡◌ {A = Result ProgramTables LinkFault} (Ok P) (Ok (linked_program classes))
    only_one P given = ap (λ P. Ok P) (no_other classes P all given)

pub apart_at : (classes : List Loaded) (made : Result (List (List ℕ)) LinkFault) → list_fault classes ≡ None → IfOk made (λ names. names ≡ names_of classes) → IfOk made AreApart
apart_at classes (Ok names) none is = subst AreApart (sym is) (all_apart classes none)
apart_at classes (Err e) none is = tt

pub finished_if : (classes : List Loaded) (P : ProgramTables) (made : Result ProgramTables LinkFault) → P ≡ laid_out (outline classes) → IfOk made (λ done. done ≡ finished P) → IfOk made (λ tables. tables ≡ linked_program classes)
finished_if classes P (Ok tables) e is = is ∙ ap finished e ∙ finished_is classes
finished_if classes P (Err f) e is = tt

-- what tables that were linked owe
pub facts_at : (classes : List Loaded) (P : ProgramTables) → All IsReadable classes → link_fault classes ≡ None → P ≡ linked_program classes → ProgramFacts P
facts_at classes P all none e = subst ProgramFacts (sym e) (facts classes all none)

pub links_at : (classes : List Loaded) (P : ProgramTables) → All IsReadable classes → link_fault classes ≡ None → P ≡ linked_program classes → Links classes P
links_at classes P all none e = subst (Links classes) (sym e) (linked classes all none)

pub only_at : (classes : List Loaded) (P Q : ProgramTables) → All IsReadable classes → Links classes P → Q ≡ linked_program classes → ◌≡◌ {A = Result ProgramTables LinkFault} (Ok P) (Ok Q)
only_at classes P Q all given e = only_one classes all P given ∙ ap (λ P. Ok P) (sym e)
