-- What is said of the classes of a program is said of its outline.
use Rattle.std.proofs.Common.{◌≡◌, ℕ, zero, suc, Bool, true, false, List, [], ◌∷◌, length, map, refl, sym, ap, ◌∙◌, ◌&&◌, ◌||◌, not}
use Rattle.std.specs.Prelude.{Option, Some, None, slice_get}
use Rattle.std.specs.List.{list_all, list_any, range_with_len}
use Rattle.std.specs.Option.{option_and_then, option_map, option_map_or}
use Rattle.std.specs.Str.{bytes_eq}
use Rattle.std.proofs.lemmas.List.{length-map}
use Rattle.std.proofs.lemmas.Option.{slice_get-map}
use Rattle.nr_base.specs.declared.desc.types.Desc.{Desc}
use Rattle.nr_base.specs.declared.desc.types.DescBase.{DescBase}
use Rattle.nr_base.specs.declared.desc.types.DescBase.TheVariants as desc_bases
use Rattle.nr_prog.specs.declared.parts.ClassParts.{ClassParts}
use Rattle.nr_linked.specs.declared.program.built_in.BuiltIn.{BuiltIn}
use Rattle.nr_linked.specs.declared.program.kind.Base.TheVariants as bases
use Rattle.nr_linked.specs.declared.program.tables.ClassInfo.{ClassInfo}
use Rattle.nr_linked.specs.declared.program.tables.MethodInfo.{MethodInfo}
use Rattle.nr_linked.specs.declared.program.tables.ProgramTables.{ProgramTables}
use Rattle.nr_prog.specs.Members.{has_flag}
use Rattle.nr_linked.specs.BuiltIns.{built_in, built_in_count, number}
use Rattle.nr_linked.specs.Linked.{is_super_in}
use Rattle.nr_linked.specs.Programs.{class_at, class_named, is_interface, method_at, methods_of, super_of, upward}
use Rattle.nr_linked.specs.Selection.{is_selectable}
use Rattle.nr_links.specs.Rules.{is_final, is_final_class}
use Rattle.nr_links.proofs.OneNames.{same_functions}
use Rattle.nr_linkrules.specs.declared.fault.LinkFault.TheVariants.{FinalOverride}
use Rattle.nr_linkrules.specs.ClassRules.{has_final, has_final_above, has_final_over, has_kinds_above, hides_final, is_above_itself, is_final_as, method_name, override_fault}
use Rattle.nr_linkrules.specs.Faults.{unless}
use Rattle.nr_linkrules.specs.Layout.{base_of, kind_of}
use Rattle.nr_linkrules.specs.Outline.{bare_class, bare_method}
use Rattle.nr_linkrules.specs.Reaches.{reaches, reaches_by, steps_up}
use Rattle.nr_linkrules.proofs.NameLaws.{same_place}

-- what an entry says beside its slots and what stands above it
pub bare_says : {X : Type 0} (f : ClassInfo → X) → ((e : ClassInfo) → f (record e { supers = []; slots = [] }) ≡ f e) → (e : ClassInfo) → f (bare_class e) ≡ f e
unfolding bare_class
bare_says f h e = of_read e.read
  where
    of_read : (o : Option ClassParts) → f (option_map_or (λ parts. record e { supers = []; slots = [] }) o e) ≡ f e
    of_read None = refl
    of_read (Some parts) = h e

module _ (P Q : ProgramTables) (same : map bare_class P.classes ≡ Q.classes) where
  pub entry : (c : ℕ) → class_at Q c ≡ option_map bare_class (class_at P c)
  entry c = ap (λ es. slice_get es c) (sym same) ∙ slice_get-map bare_class P.classes c

  -- what is asked of an entry but its slots and what stands above it
  pub on_entry : {X : Type 0} (f : ClassInfo → X) (d : X) → ((e : ClassInfo) → f (bare_class e) ≡ f e) → (c : ℕ) → option_map_or f (class_at Q c) d ≡ option_map_or f (class_at P c) d
  on_entry f d alike c = ap (λ o. option_map_or f o d) (entry c) ∙ of_option (class_at P c)
    where
      of_option : (o : Option ClassInfo) → option_map_or f (option_map bare_class o) d ≡ option_map_or f o d
      of_option None = refl
      of_option (Some e) = alike e

  pub count : length Q.classes ≡ length P.classes
  count = ap length (sym same) ∙ length-map P.classes bare_class

  pub built_ins : (b : BuiltIn) → built_in Q b ≡ built_in P b
  built_ins b = λ i. Rattle.std.proofs.Common.◌+◌ (Rattle.std.proofs.Common.◌-◌ (count i) built_in_count) (number b)

  flags_alike : (test : ℕ → Bool) (e : ClassInfo) → test (bare_class e).flags ≡ test e.flags
  flags_alike test e = bare_says (λ (e : ClassInfo). test e.flags) (λ e. refl) e

  pub interfaces : is_interface Q ≡ is_interface P
  interfaces = same_functions (is_interface Q) (is_interface P) (λ c. on_entry (λ (e : ClassInfo). has_flag 0x0200 e.flags) false (flags_alike (has_flag 0x0200)) c)

  pub finals : is_final_class Q ≡ is_final_class P
  finals = same_functions (is_final_class Q) (is_final_class P) (λ c. on_entry (λ (e : ClassInfo). is_final e.flags) false (flags_alike is_final) c)

  pub super_in : (c s : ℕ) → is_super_in Q c s ≡ is_super_in P c s
  super_in c s = λ i. Rattle.std.specs.Prelude.nat_lt s (count i) && (not (interfaces i s) && (not (interfaces i c) || Rattle.std.specs.Prelude.◌==◌ s (built_ins Rattle.nr_linked.specs.declared.program.built_in.BuiltIn.TheVariants.Object i)))

  pub kinds_above : (c : ℕ) (e : ClassInfo) → has_kinds_above Q c (bare_class e) ≡ has_kinds_above P c e
  kinds_above c e = bare_says (has_kinds_above Q c) (λ e. refl) e ∙ λ i. option_map_or (same_functions (is_super_in Q c) (is_super_in P c) (super_in c) i) e.super_class true && list_all (interfaces i) e.interfaces

  pub final_above : (e : ClassInfo) → has_final_above Q (bare_class e) ≡ has_final_above P e
  final_above e = bare_says (has_final_above Q) (λ e. refl) e ∙ λ i. option_map_or (finals i) e.super_class false

  name_alike : (name : List ℕ) (e : ClassInfo) → bytes_eq e.name name ≡ bytes_eq (bare_class e).name name
  name_alike name e = sym (bare_says (λ (e : ClassInfo). bytes_eq e.name name) (λ e. refl) e)

  pub named : (name : List ℕ) → class_named Q name ≡ class_named P name
  named name = ap (λ es. Rattle.std.specs.List.position (λ (e : ClassInfo). bytes_eq e.name name) es) (sym same)
      ∙ sym (same_place bare_class (λ (e : ClassInfo). bytes_eq e.name name) (λ (e : ClassInfo). bytes_eq e.name name) (name_alike name) P.classes)

  pub declares : (c : ℕ) → methods_of Q c ≡ methods_of P c
  declares c = on_entry (λ (e : ClassInfo). range_with_len e.first_method e.methods) [] (bare_says (λ (e : ClassInfo). range_with_len e.first_method e.methods) (λ e. refl)) c

  pub supers_alike : (c : ℕ) → super_of Q c ≡ super_of P c
  supers_alike c = by_option (class_at Q c) ∙ on_entry (λ (e : ClassInfo). e.super_class) None (bare_says (λ (e : ClassInfo). e.super_class) (λ e. refl)) c ∙ sym (by_option (class_at P c))
    where
      by_option : (o : Option ClassInfo) → option_and_then (λ (e : ClassInfo). e.super_class) o ≡ option_map_or (λ (e : ClassInfo). e.super_class) o None
      by_option None = refl
      by_option (Some e) = refl

  pub upward_alike : (n : ℕ) (o : Option ℕ) → upward Q n o ≡ upward P n o
  upward_alike zero o = refl
  upward_alike (suc n) None = refl
  upward_alike (suc n) (Some c) = ap (λ cs. c ∷ cs) (upward_alike n (super_of Q c) ∙ ap (upward P n) (supers_alike c))

  pub steps : (c : ℕ) → steps_up Q c ≡ steps_up P c
  steps c = on_entry (λ (e : ClassInfo). Rattle.std.specs.Prelude.◌++◌ (Rattle.std.specs.Option.option_to_list e.super_class) e.interfaces) [] (bare_says (λ (e : ClassInfo). Rattle.std.specs.Prelude.◌++◌ (Rattle.std.specs.Option.option_to_list e.super_class) e.interfaces) (λ e. refl)) c

  reaching : (k c d : ℕ) → reaches_by Q k c d ≡ reaches_by P k c d
  unfolding reaches_by
  reaching zero c d = λ i. Rattle.std.specs.Prelude.◌==◌ c d || list_any (λ s. Rattle.std.specs.Prelude.◌==◌ s d) (steps c i)
  reaching (suc k) c d = λ i. reaching k c d i || (reaching k c k i && reaching k k d i)

  pub reached : (c d : ℕ) → reaches Q c d ≡ reaches P c d
  reached c d = ap (λ n. reaches_by Q n c d) count ∙ reaching (length P.classes) c d

  pub above_itself : (c : ℕ) → is_above_itself Q c ≡ is_above_itself P c
  above_itself c = λ i. list_any (same_functions (λ s. reaches Q s c) (λ s. reaches P s c) (λ s. reached s c) i) (steps c i)

-- ---- kinds

module _ (P Q : ProgramTables) (same : (name : List ℕ) → class_named Q name ≡ class_named P name) where
  bases_alike : (b : DescBase) → base_of Q b ≡ base_of P b
  bases_alike desc_bases.Bool = refl
  bases_alike desc_bases.Byte = refl
  bases_alike desc_bases.Char = refl
  bases_alike desc_bases.Short = refl
  bases_alike desc_bases.Int = refl
  bases_alike desc_bases.Long = refl
  bases_alike (desc_bases.Object name) = ap (option_map (λ c. bases.Object c)) (same name)

  pub kinds_alike : (d : Desc) → kind_of Q d ≡ kind_of P d
  kinds_alike d = ap (option_map (λ b. record { dims = d.dims; base = b })) (bases_alike d.base)

-- ---- methods

pub bare_method_says : {X : Type 0} (f : MethodInfo → X) → ((i : MethodInfo) → f (record i { params = []; result = None; resolved = []; catches = []; maps = [] }) ≡ f i) → (i : MethodInfo) → f (bare_method i) ≡ f i
unfolding bare_method
bare_method_says f h i = h i

module _ (P Q : ProgramTables) (methods : map bare_method P.methods ≡ map bare_method Q.methods) where
  pub method_entry : (m : ℕ) → option_map bare_method (method_at Q m) ≡ option_map bare_method (method_at P m)
  method_entry m = sym (slice_get-map bare_method Q.methods m) ∙ ap (λ is. slice_get is m) (sym methods) ∙ slice_get-map bare_method P.methods m

  -- what is asked of a method but its kinds and what linking finds
  pub on_method : {X : Type 0} (f : MethodInfo → X) (d : X) → ((i : MethodInfo) → f (bare_method i) ≡ f i) → (m : ℕ) → option_map_or f (method_at Q m) d ≡ option_map_or f (method_at P m) d
  on_method f d alike m = sym (of_option (method_at Q m)) ∙ ap (λ o. option_map_or f o d) (method_entry m) ∙ of_option (method_at P m)
    where
      of_option : (o : Option MethodInfo) → option_map_or f (option_map bare_method o) d ≡ option_map_or f o d
      of_option None = refl
      of_option (Some i) = alike i

-- ---- methods that hide final ones

module _ (P Q : ProgramTables) (same : map bare_class P.classes ≡ Q.classes) (methods : map bare_method P.methods ≡ map bare_method Q.methods) where
  final_as : (i over : MethodInfo) → is_final_as i (bare_method over) ≡ is_final_as i over
  final_as i over = bare_method_says (is_final_as i) (λ over. refl) over

  final_there : (i : MethodInfo) (d : ℕ) → has_final Q i d ≡ has_final P i d
  final_there i d = λ at. list_any (same_functions (λ m. option_map_or (is_final_as i) (method_at Q m) false) (λ m. option_map_or (is_final_as i) (method_at P m) false) (on_method P Q methods (is_final_as i) false (final_as i)) at) (declares P Q same d at)

  final_over : (i : MethodInfo) (d : ℕ) → has_final_over Q i d ≡ has_final_over P i d
  final_over i d = λ at. not (Rattle.std.specs.Prelude.◌==◌ d i.«class») && (reached P Q same i.«class» d at && final_there i d at)

  hides : (i : MethodInfo) → hides_final Q i ≡ hides_final P i
  hides i = λ at. is_selectable i.name i.desc i && list_any (same_functions (has_final_over Q i) (has_final_over P i) (final_over i) at) (range_with_len 0 (count P Q same at))

  -- the fault of the method is asked of the entry in the other program
  pub overrides : (name : List ℕ) (m : ℕ) → override_fault Q name m ≡ override_fault P name m
  unfolding override_fault
  overrides name m =
      on_method P Q methods (λ i. unless (not (hides_final Q i)) (FinalOverride name (method_name i))) None (bare_method_says (λ i. unless (not (hides_final Q i)) (FinalOverride name (method_name i))) (λ i. refl)) m
      ∙ ap (λ (hides : MethodInfo → Bool). option_map_or (λ i. unless (not (hides i)) (FinalOverride name (method_name i))) (method_at P m) None) (same_functions (hides_final Q) (hides_final P) hides)
