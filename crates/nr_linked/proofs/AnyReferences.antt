-- What stands above a class or an interface to which any reference goes: only such.
use Rattle.std.proofs.Common.{◌≡◌, ℕ, ◌⊎◌, inl, inr, Bool, true, false, [], refl, sym, subst, ◌∙◌, arith, not}
use Rattle.std.specs.Prelude.{Option, Some, None, IsTrue, Contains, ◌==◌, is_none}
use Rattle.std.specs.Option.{option_map_or}
use Rattle.std.proofs.lemmas.Bool.{and_parts, eqb-true, eq-eqb, both_ways, cases_Bool, or_cases, or_left, or_right}
use Rattle.std.proofs.lemmas.Option.{same_Some}
use Rattle.nr_linked.specs.declared.program.built_in.BuiltIn.TheVariants.{Object}
use Rattle.nr_linked.specs.declared.program.tables.ClassInfo.{ClassInfo}
use Rattle.nr_linked.specs.declared.program.tables.ProgramTables.{ProgramTables}
use Rattle.nr_linked.specs.BuiltIns.{built_in, built_in_class}
use Rattle.nr_linked.specs.BuiltInTables.{built_in_info}
use Rattle.nr_linked.specs.Linked.{Linked, is_class_in, is_super_in}
use Rattle.nr_linked.specs.Programs.{class_at, is_interface}
use Rattle.nr_linked.specs.Subtypes.{Above, IsDirectlyAbove, admits_any, further, itself}
use Rattle.nr_linked.proofs.BuiltInEntries.{built_in_at, info_of}
use Rattle.nr_linked.proofs.Elements.{some_of}
use Rattle.nr_linked.proofs.Listed.{listed_all, listed_contains}

-- the superclass of a class that isn't java/lang/Object
pub super_in : (P : ProgramTables) → Linked P → (c : ℕ) (e : ClassInfo) → class_at P c ≡ Some e → (c == built_in P Object) ≡ false → (s : ℕ) × (e.super_class ≡ Some s) × IsTrue (is_super_in P c s)
super_in P linked c e is apart = of_option e.super_class refl ((linked.classes c e is).root ∙ apart) (linked.classes c e is).super_class
  where
    of_option : (o : Option ℕ) → e.super_class ≡ o → is_none o ≡ false → IsTrue (option_map_or (is_super_in P c) o true) → (s : ℕ) × (e.super_class ≡ Some s) × IsTrue (is_super_in P c s)
    of_option None e none p = absurd cc
    of_option (Some s) e none p = (s, e, p)

-- the superclass of an interface is java/lang/Object
pub super_of_interface : (P : ProgramTables) (c s : ℕ) → IsTrue (is_super_in P c s) → IsTrue (is_interface P c) → s ≡ built_in P Object
super_of_interface P c s p face =
    let a = and_parts (is_class_in P s) _ p in
    let b = and_parts (not (is_interface P s)) _ a.1 in
    elim (or_cases (not (is_interface P c)) (s == built_in P Object) b.1) [
      | inl q ↦ absurd (both_ways (is_interface P c) (of_not (is_interface P c) q) face)
      | inr q ↦ eqb-true s (built_in P Object) q
    ]
  where
    of_not : (b : Bool) → not b ≡ true → b ≡ false
    of_not true e = cc
    of_not false e = refl

object_entry : (P : ProgramTables) → Linked P → (e : ClassInfo) → class_at P (built_in P Object) ≡ Some e → e ≡ info_of P Object
object_entry P linked e is = same_Some e (info_of P Object) (sym is ∙ built_in_at P linked Object)

none_direct : (s : ℕ) → ◌⊎◌ (◌≡◌ {A = Option ℕ} None (Some s)) (Contains [] s) → ⊥
none_direct s (inl q) = cc
none_direct s (inr q) = omega (arith, q.1)

nothing_above : (P : ProgramTables) → Linked P → (s : ℕ) → IsDirectlyAbove P (built_in P Object) s → ⊥
unfolding built_in_info built_in_class
nothing_above P linked s step =
    let r = some_of (λ (e : ClassInfo). (e.super_class ≡ Some s) ⊎ Contains e.interfaces s) (class_at P (built_in P Object)) step in
    none_direct s (subst (λ (e : ClassInfo). (e.super_class ≡ Some s) ⊎ Contains e.interfaces s) (object_entry P linked r.0 r.1) r.2)

pub is_face : (P : ProgramTables) (c : ℕ) → (c == built_in P Object) ≡ false → IsTrue (admits_any P c) → IsTrue (is_interface P c)
is_face P c apart any = elim (or_cases (c == built_in P Object) (is_interface P c) any) [
  | inl q ↦ absurd (both_ways (c == built_in P Object) apart q)
  | inr q ↦ q
]

above_face : (P : ProgramTables) → Linked P → (c s : ℕ) (e : ClassInfo) → class_at P c ≡ Some e → (c == built_in P Object) ≡ false → IsTrue (is_interface P c)
    → (e.super_class ≡ Some s) ⊎ Contains e.interfaces s → IsTrue (admits_any P s)
above_face P linked c s e is apart face (inl q) =
    let r = super_in P linked c e is apart in
    let same : r.0 ≡ s = same_Some r.0 s (sym r.1 ∙ q) in
    or_left (s == built_in P Object) (is_interface P s) (eq-eqb s (built_in P Object) (sym same ∙ super_of_interface P c r.0 r.2 face))
above_face P linked c s e is apart face (inr q) =
    or_right (s == built_in P Object) (is_interface P s) (listed_all (is_interface P) s e.interfaces (listed_contains s e.interfaces q) (linked.classes c e is).interfaces)

-- above such a class or interface only such stand
any_step : (P : ProgramTables) → Linked P → (c s : ℕ) → IsTrue (admits_any P c) → IsDirectlyAbove P c s → IsTrue (admits_any P s)
any_step P linked c s any step = elim (cases_Bool (c == built_in P Object)) [
  | inl p ↦ absurd (nothing_above P linked s (subst (λ c. IsDirectlyAbove P c s) (eqb-true c (built_in P Object) p) step))
  | inr p ↦ let r = some_of (λ (e : ClassInfo). (e.super_class ≡ Some s) ⊎ Contains e.interfaces s) (class_at P c) step in above_face P linked c s r.0 r.1 p (is_face P c p any) r.2
]

pub any_up : (P : ProgramTables) → Linked P → (c d : ℕ) → IsTrue (admits_any P c) → Above P c d → IsTrue (admits_any P d)
any_up P linked c d any itself = any
any_up P linked c d any (further {s = s} step rest) = any_up P linked s d (any_step P linked c s any step) rest
