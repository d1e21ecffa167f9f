-- The method that is selected for a call.
use Rattle.std.proofs.Common.{◌≡◌, ℕ, Bool, true, false, List, find, cond, sym, ap, subst, ◌∙◌, not}
use Rattle.std.specs.Prelude.{Option, Some, None, All, IsTrue, if◌then◌else◌}
use Rattle.std.specs.Option.{option_and_then}
use Rattle.std.specs.Str.{bytes_eq}
use Rattle.std.proofs.lemmas.Bool.{and_parts}
use Rattle.std.proofs.lemmas.Option.{same_Some}
use Rattle.nr_prog.specs.declared.body.loaded.Loaded.{Loaded}
use Rattle.nr_prog.specs.Members.{is_static}
use Rattle.nr_linked.specs.declared.program.tables.MethodInfo.{MethodInfo}
use Rattle.nr_linked.specs.declared.program.tables.ProgramTables.{ProgramTables}
use Rattle.nr_linked.specs.Programs.{method_at, methods_of, superclasses}
use Rattle.nr_linked.specs.Selection.{can_select, first_selected, has_body, is_called, is_private, is_selectable, methods_upward, selected, with_body}
use Rattle.nr_linked.specs.Subtypes.{is_above}
use Rattle.nr_linked.specs.TypingFacts.{Selected}
use Rattle.nr_links.specs.Links.{IsDecoded, Links}
use Rattle.nr_links.proofs.Described.{same_bytes, same_signature}
use Rattle.nr_linked.proofs.Declaring.{held}
use Rattle.nr_linked.proofs.Elements.{found, get_flat, passing}
use Rattle.nr_linked.proofs.Ascents.{down, has_entry, superclass_above}

-- ---- what a selection finds

-- the method is the first that can be selected
first_is : (P : ProgramTables) (n c k : ℕ) (i : MethodInfo) → method_at P n ≡ Some i → selected P n c ≡ Some k → first_selected P n i c ≡ Some k
first_is P n c k i is sel = of_first (first_selected P n i c) (sym (ap (option_and_then (λ i. option_and_then (with_body P) (first_selected P n i c))) is) ∙ sel)
  where
    with_test : (m : ℕ) (b : Bool) → (if b then Some m else None) ≡ Some k → Some m ≡ Some k
    with_test m true e = e
    with_test m false e = absurd cc

    of_first : (o : Option ℕ) → option_and_then (with_body P) o ≡ Some k → o ≡ Some k
    of_first None e = absurd cc
    of_first (Some m) e = with_test m (has_body P m) e

module _ (classes : List Loaded) (P : ProgramTables) (links : Links classes P) (all : All IsDecoded classes) where
  pub selects : (n c k : ℕ) (i j : MethodInfo) → method_at P n ≡ Some i → is_private i.flags ≡ false → selected P n c ≡ Some k → method_at P k ≡ Some j → Selected P i c j
  selects n c k i j is shared sel js =
      let first = sym (ap (λ b. cond b (Some n) (find (can_select P i.name i.desc) (methods_upward P c))) shared) ∙ first_is P n c k i is sel in
      let f = found (can_select P i.name i.desc) (methods_upward P c) k first in
      let where_ = get_flat (methods_of P) (superclasses P c) f.1.0 k f.1.1 in
      let h = held P links.linked where_.1 where_.2 k where_.4 in
      let up = superclass_above P c where_.0 where_.1 where_.3 in
      let e = has_entry P c where_.1 h.entry up h.is_entry in
      let same = same_Some h.method j (sym h.is_method ∙ js) in
      let t = passing (is_selectable i.name i.desc) (method_at P k) f.0 in
      let test = subst (λ j. IsTrue (is_selectable i.name i.desc j)) (same_Some t.0 j (sym t.1 ∙ js)) t.2 in
      let a = and_parts (not (is_static j.flags)) _ test in
      let b = and_parts (not (is_private j.flags)) (is_called i.name i.desc j) a.1 in
      let d = and_parts (bytes_eq j.name i.name) (bytes_eq j.desc i.desc) b.1 in
      let s = same_signature classes P links all n k i j is js (sym (same_bytes j.desc i.desc d.1)) in
      record {
        above = subst (λ d. IsTrue (is_above P c d)) (sym h.own ∙ ap (λ (j : MethodInfo). j.«class») same) (down P links.linked c where_.1 e.0 e.1 up);
        params = s.0;
        result = s.1;
      }
