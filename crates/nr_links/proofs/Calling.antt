-- The facts of a call for which linking found a method.
use Rattle.std.proofs.Common.{◌≡◌, ℕ, zero, suc, inl, inr, Bool, true, false, List, [], ◌∷◌, ◌++◌, length, refl, sym, ap, subst, ◌∙◌}
use Rattle.std.specs.Prelude.{Option, Some, None, All, IsTrue, slice_get, codes, if◌then◌else◌}
use Rattle.std.specs.List.{flat_map}
use Rattle.std.specs.Option.{option_map_or}
use Rattle.std.specs.Str.{bytes_eq}
use Rattle.std.proofs.lemmas.Bool.{and_parts}
use Rattle.std.proofs.lemmas.Option.{get_or_from_slice_get, same_Some, slice_get_within}
use Rattle.nr_prog.specs.declared.body.loaded.Loaded.{Loaded}
use Rattle.nr_linked.specs.declared.program.tables.ClassInfo.{ClassInfo}
use Rattle.nr_linked.specs.declared.program.tables.MethodInfo.{MethodInfo}
use Rattle.nr_linked.specs.declared.program.tables.ProgramTables.{ProgramTables}
use Rattle.nr_linked.specs.declared.program.tables.Resolved.{Resolved}
use Rattle.nr_linked.specs.declared.program.tables.Resolved.TheVariants as resolved
use Rattle.nr_prog.specs.declared.pool.PoolEntry.{PoolEntry}
use Rattle.nr_linked.specs.Linked.{Linked}
use Rattle.nr_linked.specs.Programs.{class_at, is_interface, method_at, methods_of, superclasses}
use Rattle.nr_linked.specs.Selection.{is_called}
use Rattle.nr_linked.specs.Subtypes.{Above, IsDirectlyAbove, further, is_above, itself}
use Rattle.nr_linked.specs.TypingFacts.{CallFacts}
use Rattle.nr_links.specs.Found.{CanCall, IsCallFound}
use Rattle.nr_links.specs.Links.{IsDecoded, Links}
use Rattle.nr_links.specs.Resolution.{classes_for, interface_and_above, interfaces_of, is_called_at, method_classes, resolved_method, superinterfaces}
use Rattle.nr_links.proofs.Described.{initialiser_result, same_bytes}
use Rattle.nr_linked.proofs.Elements.{found, get_either, get_flat, passing}
use Rattle.nr_linked.proofs.Declaring.{held}
use Rattle.nr_linked.proofs.Ascents.{above_trans, down, has_entry, step_of, superclass_above}

-- ---- where a method is looked for stands above

pub interface_step : (P : ProgramTables) (c k s : ℕ) → slice_get (interfaces_of P c) k ≡ Some s → IsDirectlyAbove P c s
interface_step P c k s at = of_option (class_at P c) refl at
  where
    of_option : (o : Option ClassInfo) → class_at P c ≡ o → slice_get (option_map_or (λ (e : ClassInfo). e.interfaces) o []) k ≡ Some s → IsDirectlyAbove P c s
    of_option None is at = absurd cc
    of_option (Some e) is at = step_of P c s e is (inr (k, slice_get_within e.interfaces k s at, get_or_from_slice_get e.interfaces k s s at))

interfaces_above : (P : ProgramTables) (n c k d : ℕ) → slice_get (interface_and_above P n c) k ≡ Some d → Above P c d
interfaces_above P zero c k d at = absurd cc
interfaces_above P (suc n) c zero d at = subst (λ d. Above P c d) (same_Some c d at) itself
interfaces_above P (suc n) c (suc k) d at =
    let r = get_flat (interface_and_above P n) (interfaces_of P c) k d at in
    further (interface_step P c r.0 r.1 r.3) (interfaces_above P n r.1 r.2 d r.4)

superinterfaces_above : (P : ProgramTables) (c k d : ℕ) → slice_get (superinterfaces P c) k ≡ Some d → Above P c d
superinterfaces_above P c k d at =
    let r = get_flat (λ d. flat_map (interface_and_above P (length P.classes)) (interfaces_of P d)) (superclasses P c) k d at in
    let s = get_flat (interface_and_above P (length P.classes)) (interfaces_of P r.1) r.2 d r.4 in
    above_trans P c r.1 d (superclass_above P c r.0 r.1 r.3) (further (interface_step P r.1 s.0 s.1 s.3) (interfaces_above P (length P.classes) s.1 s.2 d s.4))

method_classes_above : (P : ProgramTables) (c k d : ℕ) → slice_get (method_classes P c) k ≡ Some d → Above P c d
method_classes_above P c k d at = by_flag (is_interface P c) at
  where
    by_flag : (b : Bool) → slice_get (if b then interface_and_above P (length P.classes) c else superclasses P c ++ superinterfaces P c) k ≡ Some d → Above P c d
    by_flag true at = interfaces_above P (length P.classes) c k d at
    by_flag false at = elim (get_either (superclasses P c) (superinterfaces P c) k d at) [
      | inl h ↦ superclass_above P c k d h
      | inr h ↦ superinterfaces_above P c h.0 d h.2
    ]

only_one : (c k d : ℕ) → slice_get (c ∷ []) k ≡ Some d → c ≡ d
only_one c zero d at = same_Some c d at
only_one c (suc k) d at = absurd cc

classes_above : (P : ProgramTables) (c : ℕ) (name : List ℕ) (k d : ℕ) → slice_get (classes_for P c name) k ≡ Some d → Above P c d
classes_above P c name k d at = by_flag (bytes_eq name (codes "<init>")) at
  where
    by_flag : (b : Bool) → slice_get (if b then c ∷ [] else method_classes P c) k ≡ Some d → Above P c d
    by_flag true at = subst (λ d. Above P c d) (only_one c k d at) itself
    by_flag false at = method_classes_above P c k d at

-- ---- the method that was found

pub record Resolves (P : ProgramTables) (c m : ℕ) (name : List ℕ) (callee : MethodInfo) : Type 0 where
  pub above : IsTrue (is_above P c callee.«class»)
  pub named : callee.name ≡ name
  pub alone : IsTrue (bytes_eq name (codes "<init>")) → callee.«class» ≡ c

pub resolves : (P : ProgramTables) → Linked P → (c m : ℕ) (name desc : List ℕ) (callee : MethodInfo) → resolved_method P c name desc ≡ Some m → method_at P m ≡ Some callee → Resolves P c m name callee
resolves P linked c m name desc callee res is =
    let f = found (is_called_at P name desc) (flat_map (methods_of P) (classes_for P c name)) m res in
    let r = get_flat (methods_of P) (classes_for P c name) f.1.0 m f.1.1 in
    let h = held P linked r.1 r.2 m r.4 in
    let up = classes_above P c name r.0 r.1 r.3 in
    let e = has_entry P c r.1 h.entry up h.is_entry in
    let same = same_Some h.method callee (sym h.is_method ∙ is) in
    let own : callee.«class» ≡ r.1 = sym (ap (λ (j : MethodInfo). j.«class») same) ∙ h.own in
    let t = passing (is_called name desc) (method_at P m) f.0 in
    let test = subst (λ j. IsTrue (is_called name desc j)) (same_Some t.0 callee (sym t.1 ∙ is)) t.2 in
    record {
      above = subst (λ d. IsTrue (is_above P c d)) (sym own) (down P linked c r.1 e.0 e.1 up);
      named = same_bytes callee.name name (and_parts (bytes_eq callee.name name) (bytes_eq callee.desc desc) test).0;
      alone = λ init. own ∙ sym (only_one c r.0 r.1 (sym (ap (λ b. slice_get (if b then c ∷ [] else method_classes P c) r.0) init) ∙ r.3));
    }

module _ (classes : List Loaded) (P : ProgramTables) (links : Links classes P) (all : All IsDecoded classes) where
  pub call_facts : (own code : ℕ) (own_entry : ClassInfo) (pool : List PoolEntry) (named member : ℕ) (r : Resolved) → class_at P own ≡ Some own_entry → IsCallFound P own code pool named member r
      → (n c : ℕ) (callee : MethodInfo) → r ≡ resolved.Method n c → method_at P n ≡ Some callee → CallFacts P own code c callee
  call_facts own code own_entry pool named member r own_is call n c callee is at =
      let both = sym call.found ∙ is in
      let same_method : call.method ≡ n = cc in
      let same_class : call.holder ≡ c = cc in
      let same = same_Some call.callee callee (sym call.is_callee ∙ ap (method_at P) same_method ∙ at) in
      let can = subst (λ c. CanCall P own code c callee) same_class (subst (CanCall P own code call.holder) same call.can_call) in
      let res = resolves P links.linked c n call.name call.desc callee (subst (λ c. resolved_method P c call.name call.desc ≡ Some n) same_class (call.resolves ∙ ap (λ m. Some m) same_method)) at in
      record {
        static = can.static;
        initialiser = λ init. (can.initialiser init, res.alone (subst (λ t. IsTrue (bytes_eq t (codes "<init>"))) res.named init), initialiser_result classes P links all n callee at init);
        private = λ p. res.above;
        ancestor = λ e p. down P links.linked own c own_entry own_is (can.above e p);
      }
