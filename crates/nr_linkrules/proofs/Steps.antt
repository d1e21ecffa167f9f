-- Steps up lead to classes of the program, where superclasses are classes and superinterfaces are interfaces.
use Rattle.std.proofs.Common.{◌≡◌, ℕ, ◌<◌, ◌++◌, [], length, refl, subst, inl, inr}
use Rattle.std.specs.Prelude.{Option, Some, None, true, IsTrue, ◌==◌}
use Rattle.std.specs.List.{list_all}
use Rattle.std.specs.Option.{option_map_or, option_to_list}
use Rattle.std.proofs.lemmas.Bool.{and_parts, eqb-true, lt-ltb, ltb-true, or_cases}
use Rattle.std.proofs.lemmas.Option.{slice_get_within}
use Rattle.nr_prog.specs.Members.{has_flag}
use Rattle.nr_linked.specs.declared.program.tables.ClassInfo.{ClassInfo}
use Rattle.nr_linked.specs.declared.program.tables.ProgramTables.{ProgramTables}
use Rattle.nr_linked.specs.Linked.{is_class_in, is_super_in}
use Rattle.nr_linked.specs.Programs.{class_at, is_interface}
use Rattle.nr_linked.proofs.Listed.{is_listed, listed_all}
use Rattle.nr_linked.proofs.Elements.{passing}
use Rattle.nr_linkrules.specs.Reaches.{HasSteps}

pub face_within : (P : ProgramTables) (c : ℕ) → IsTrue (is_interface P c) → IsTrue (is_class_in P c)
face_within P c p = let r = passing (λ (e : ClassInfo). has_flag 0x0200 e.flags) (class_at P c) p in lt-ltb c (length P.classes) (slice_get_within P.classes c r.0 r.1)

module _ (P : ProgramTables) (kinds : (c : ℕ) (e : ClassInfo) → class_at P c ≡ Some e → IsTrue (option_map_or (is_super_in P c) e.super_class true) × IsTrue (list_all (is_interface P) e.interfaces)) where
  pub steps_in : HasSteps P
  steps_in c s p = of_entry (class_at P c) refl p
    where
      above_is : (e : ClassInfo) → class_at P c ≡ Some e → (o : Option ℕ) → IsTrue (option_map_or (is_super_in P c) o true) → IsTrue (is_listed s (option_to_list o ++ e.interfaces)) → IsTrue (is_class_in P s)
      above_is e is None q p = face_within P s (listed_all (is_interface P) s e.interfaces p (kinds c e is).1)
      above_is e is (Some a) q p = elim (or_cases (a == s) (is_listed s e.interfaces) p) [
        | inl same ↦ subst (λ a. IsTrue (is_class_in P a)) (eqb-true a s same) (and_parts (is_class_in P a) _ q).0
        | inr more ↦ face_within P s (listed_all (is_interface P) s e.interfaces more (kinds c e is).1)
      ]

      of_entry : (o : Option ClassInfo) → class_at P c ≡ o → IsTrue (is_listed s (option_map_or (λ e. option_to_list e.super_class ++ e.interfaces) o [])) → s < length P.classes
      of_entry None is p = absurd cc
      of_entry (Some e) is p = ltb-true s (length P.classes) (above_is e is e.super_class (kinds c e is).0 p)
