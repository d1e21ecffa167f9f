-- The method that is selected: it has code, and the name of the other; one that is private is the method itself.
use Rattle.std.proofs.Common.{◌≡◌, ℕ, List, [], ◌∷◌, refl, sym, subst, Bool, true, false, not, T}
use Rattle.std.specs.Prelude.{Option, Some, None, IsTrue, is_some, find, if◌then◌else◌, ◌&&◌}
use Rattle.std.specs.Option.{option_map_or, option_and_then}
use Rattle.std.specs.Str.{bytes_eq}
use Rattle.std.proofs.lemmas.Slice.Eq.{bytes_eq-Decides}
use Rattle.nr_prog.specs.declared.body.whole.Body.{Body}
use Rattle.nr_linked.specs.declared.program.tables.MethodInfo.{MethodInfo}
use Rattle.nr_linked.specs.declared.program.tables.ProgramTables.{ProgramTables}
use Rattle.nr_prog.specs.Members.{is_static}
use Rattle.nr_linked.specs.Programs.{method_at}
use Rattle.nr_linked.specs.Selection.{is_private, is_called, is_selectable, can_select, methods_upward, has_body, with_body, first_selected, selected}
use Rattle.nr_typed.proofs.Assigning.{holds, and_both}

-- what is found passes the test
found_passes : (test : ℕ → Bool) (ns : List ℕ) (k : ℕ) → find test ns ≡ Some k → T (test k)
found_passes test [] k e = absurd (cc)
found_passes test (n ∷ ns) k e = cases (test n) (λ p. p) (λ e. found_passes test ns k e) e
  where
    cases : (b : Bool) → (T b → T (test n)) → (find test ns ≡ Some k → T (test k)) → (if b then Some n else find test ns) ≡ Some k → T (test k)
    cases true here go e = let s : n ≡ k = cc in subst (λ n. T (test n)) s (here tt)
    cases false here go e = go e

-- a method with code
pub record Coded (P : ProgramTables) (k : ℕ) : Type 0 where
  pub method : MethodInfo
  pub body : Body
  pub is_method : method_at P k ≡ Some method
  pub is_body : method.body ≡ Some body

module _ (P : ProgramTables) where
  coded : (k : ℕ) → T (has_body P k) → Coded P k
  coded k p = cases (method_at P k) refl p
    where
      of_body : (i : MethodInfo) (o : Option Body) → method_at P k ≡ Some i → i.body ≡ o → T (is_some o) → Coded P k
      of_body i None e f p = absurd p
      of_body i (Some body) e f p = record { method = i; body = body; is_method = e; is_body = f }

      cases : (o : Option MethodInfo) → method_at P k ≡ o → T (option_map_or (λ (i : MethodInfo). is_some i.body) o false) → Coded P k
      cases None e p = absurd p
      cases (Some i) e p = of_body i i.body e refl p

  -- a method with a body is itself
  body_same : (m k : ℕ) → with_body P m ≡ Some k → (m ≡ k) × T (has_body P m)
  body_same m k e = cases (has_body P m) e
    where
      cases : (b : Bool) → (if b then Some m else None) ≡ Some k → (m ≡ k) × T b
      cases true e = (cc, tt)
      cases false e = absurd (cc)

  through_body : (o : Option ℕ) (k : ℕ) → option_and_then (with_body P) o ≡ Some k → (o ≡ Some k) × T (has_body P k)
  through_body None k e = absurd (cc)
  through_body (Some m) k e = let b = body_same m k e in (subst (λ k. Some m ≡ Some k) b.0 refl, subst (λ k. T (has_body P k)) b.0 b.1)

  pub selected_coded : (n c k : ℕ) → selected P n c ≡ Some k → Coded P k
  selected_coded n c k e = cases (method_at P n) e
    where
      cases : (o : Option MethodInfo) → option_and_then (λ (i : MethodInfo). option_and_then (with_body P) (first_selected P n i c)) o ≡ Some k → Coded P k
      cases None e = absurd (cc)
      cases (Some i) e = coded k (through_body (first_selected P n i c) k e).1

  module _ (n c k : ℕ) (i : MethodInfo) (is_i : method_at P n ≡ Some i) (e : selected P n c ≡ Some k) where
    first : (if is_private i.flags then Some n else find (can_select P i.name i.desc) (methods_upward P c)) ≡ Some k
    first = (through_body (first_selected P n i c) k (subst (λ o. option_and_then (λ (i : MethodInfo). option_and_then (with_body P) (first_selected P n i c)) o ≡ Some k) is_i e)).0

    -- a private method selects itself
    pub selected_itself : IsTrue (is_private i.flags) → n ≡ k
    selected_itself hid = let s : Some n ≡ Some k = subst (λ b. (if b then Some n else find (can_select P i.name i.desc) (methods_upward P c)) ≡ Some k) hid first in cc

    selectable : (j : MethodInfo) → T (is_selectable i.name i.desc j) → (i.name ≡ j.name) × (is_static j.flags ≡ false)
    selectable j p =
        let a = and_both (not (is_static j.flags)) (not (is_private j.flags) && is_called i.name i.desc j) p in
        let b = and_both (not (is_private j.flags)) (is_called i.name i.desc j) a.1 in
        let d = and_both (bytes_eq j.name i.name) (bytes_eq j.desc i.desc) b.1 in
        (sym ((bytes_eq-Decides j.name i.name).0 (holds (bytes_eq j.name i.name) d.0)), is_false (is_static j.flags) a.0)
      where
        is_false : (b : Bool) → T (not b) → b ≡ false
        is_false true p = absurd p
        is_false false p = refl

    -- any other method selects one of its name, which isn't static
    pub selected_called : is_private i.flags ≡ false → (j : MethodInfo) → method_at P k ≡ Some j → (i.name ≡ j.name) × (is_static j.flags ≡ false)
    selected_called shown j is_j =
        let f : find (can_select P i.name i.desc) (methods_upward P c) ≡ Some k = subst (λ b. (if b then Some n else find (can_select P i.name i.desc) (methods_upward P c)) ≡ Some k) shown first in
        selectable j (subst (λ o. T (option_map_or (is_selectable i.name i.desc) o false)) is_j (found_passes (can_select P i.name i.desc) (methods_upward P c) k f))
