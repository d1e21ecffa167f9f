-- Looking for final methods in the lists of them alone.
use Rattle.std.proofs.Common.{◌≡◌, ℕ, ◌&&◌, ◌||◌, Bool, true, false, not, cond, List, [], ◌∷◌, length, refl, sym, ap, ◌∙◌, arith}
use Rattle.std.specs.Prelude.{Option, Some, None, ◌==◌, if◌then◌else◌}
use Rattle.std.specs.List.{filter, flat_map, list_any, range_with_len}
use Rattle.std.specs.Option.{option_map_or}
use Rattle.std.specs.Str.{bytes_eq}
use Rattle.std.proofs.lemmas.Bool.{eqb-true, false_from_ne_true}
use Rattle.std.proofs.lemmas.List.Folds.{list_any-append}
use Rattle.std.proofs.lemmas.Slice.Eq.{bytes_eq-Decides}
use Rattle.nr_linked.specs.declared.program.tables.MethodInfo.{MethodInfo}
use Rattle.nr_linked.specs.declared.program.tables.ProgramTables.{ProgramTables}
use Rattle.nr_prog.specs.Members.{is_static}
use Rattle.nr_linked.specs.Programs.{method_at, methods_of}
use Rattle.nr_linked.specs.Selection.{is_called, is_private, is_selectable}
use Rattle.nr_links.specs.Rules.{is_final}
use Rattle.nr_linkrules.specs.ClassRules.{has_final, has_final_over, is_final_as}
use Rattle.nr_linkrules.specs.Reaches.{reaches}
use Rattle.nr_link.specs.Finals.{finals_in, finals_of, finals_with, hides_one, is_called_as, is_open_final, is_open_final_at, some_finals}

any_of_both : (p q r : ℕ → Bool) → ((x : ℕ) → r x ≡ (q x && p x)) → (xs : List ℕ) → list_any p (filter q xs) ≡ list_any r xs
any_of_both p q r same [] = refl
any_of_both p q r same (x ∷ xs) = by_test (q x) (any_of_both p q r same xs) ∙ ap (λ b. b || list_any r xs) (sym (same x))
  where
    by_test : (b : Bool) → list_any p (filter q xs) ≡ list_any r xs → list_any p (cond b (x ∷ filter q xs) (filter q xs)) ≡ ((b && p x) || list_any r xs)
    by_test true e = ap (λ b. p x || b) e
    by_test false e = e

four : (s p c f : Bool) → ((not s && (not p && c)) && f) ≡ ((not s && (not p && f)) && c)
four true p c f = refl
four false true c f = refl
four false false true true = refl
four false false true false = refl
four false false false true = refl
four false false false false = refl

never : (a b c : Bool) → c ≡ false → (a && (b && c)) ≡ false
never true true c e = e
never true false c e = refl
never false b c e = refl

some_there : (m : ℕ) (ms : List ℕ) → (length (m ∷ ms) == 0) ≡ false
some_there m ms = false_from_ne_true (length (m ∷ ms) == 0) (λ e. let none = eqb-true (length (m ∷ ms)) 0 e in absurd (omega (arith, none)))

or_false : (b : Bool) → (b || false) ≡ b
or_false true = refl
or_false false = refl

module _ (P : ProgramTables) (i : MethodInfo) where
  final_as : (m : ℕ) → option_map_or (is_final_as i) (method_at P m) false ≡ (is_open_final_at P m && is_called_as P i m)
  final_as m = of_option (method_at P m)
    where
      of_option : (o : Option MethodInfo) → option_map_or (is_final_as i) o false
          ≡ (option_map_or is_open_final o false && option_map_or (is_called i.name i.desc) o false)
      of_option None = refl
      of_option (Some over) = four (is_static over.flags) (is_private over.flags) (is_called i.name i.desc over) (is_final over.flags)

  pub has_final_by : (d : ℕ) → list_any (is_called_as P i) (finals_in P d) ≡ has_final P i d
  has_final_by d = any_of_both (is_called_as P i) (is_open_final_at P) (λ m. option_map_or (is_final_as i) (method_at P m) false) final_as (methods_of P d)

  one_class : (d : ℕ) (ms : List ℕ) → list_any (is_called_as P i) ms ≡ has_final P i d → list_any (hides_one P i) (some_finals d ms) ≡ has_final_over P i d
  one_class d [] e = sym (never (not (d == i.«class»)) (reaches P i.«class» d) (has_final P i d) (sym e))
  one_class d (m ∷ ms) e =
      ap (λ b. list_any (hides_one P i) (if not b then record { «class» = d; methods = m ∷ ms } ∷ [] else [])) (some_there m ms)
      ∙ or_false (hides_one P i (record { «class» = d; methods = m ∷ ms }))
      ∙ ap (λ b. not (d == i.«class») && (reaches P i.«class» d && b)) e

  by_classes : (ds : List ℕ) → list_any (hides_one P i) (flat_map (finals_with P) ds) ≡ list_any (has_final_over P i) ds
  by_classes [] = refl
  by_classes (d ∷ ds) =
      list_any-append (hides_one P i) (finals_with P d) (flat_map (finals_with P) ds)
      ∙ (λ k. one_class d (finals_in P d) (has_final_by d) k || by_classes ds k)

  -- those of the classes that have any are enough
  pub hides_by_lists : list_any (hides_one P i) (finals_of P) ≡ list_any (has_final_over P i) (range_with_len 0 (length P.classes))
  hides_by_lists = by_classes (range_with_len 0 (length P.classes))

same_text : (a : List ℕ) → bytes_eq a a ≡ true
same_text a = (bytes_eq-Decides a a).1 refl

pub selects_itself : (i : MethodInfo) → is_selectable i.name i.desc i ≡ (not (is_static i.flags) && not (is_private i.flags))
selects_itself i =
    ap (λ b. not (is_static i.flags) && (not (is_private i.flags) && (b && bytes_eq i.desc i.desc))) (same_text i.name)
    ∙ ap (λ b. not (is_static i.flags) && (not (is_private i.flags) && b)) (same_text i.desc)
    ∙ ap (λ b. not (is_static i.flags) && b) (and_true (not (is_private i.flags)))
  where
    and_true : (b : Bool) → (b && true) ≡ b
    and_true true = refl
    and_true false = refl
