-- What linking gives of the built-in classes: those that arrays implement, those that are thrown, their slots and methods.
use Rattle.std.proofs.Common.{◌≡◌, ℕ, ◌+◌, inl, inr, Bool, true, false, List, [], ◌∷◌, map, refl, sym, ap, subst, ◌∙◌, arith, not, ◌||◌}
use Rattle.std.specs.Prelude.{Option, Some, None, IsTrue, slice_get, codes, ◌==◌}
use Rattle.std.specs.List.{list_all, list_any}
use Rattle.std.specs.Option.{option_map_or}
use Rattle.std.specs.Str.{bytes_eq}
use Rattle.std.proofs.lemmas.Bool.{and_from, and_parts, both_ways, eq-eqb, eqb-true, ne_eqb, not-true, not_from_false, or_cases, or_from, or_left, or_right}
use Rattle.std.proofs.lemmas.Option.{get_or_from_slice_get, same_Some, slice_get_within}
use Rattle.nr_prog.specs.Members.{has_flag, is_abstract, is_static}
use Rattle.nr_linked.specs.declared.program.built_in.BuiltIn.{BuiltIn}
use Rattle.nr_linked.specs.declared.program.built_in.BuiltIn.TheVariants.{Object, Cloneable, Throwable, ArithmeticException, ArrayStoreException, ClassCastException, NegativeArraySizeException, NullPointerException, ArrayIndexOutOfBoundsException, IncompatibleClassChangeError, AbstractMethodError, Serializable, Out, RemoteFault}
use Rattle.nr_linked.specs.declared.program.kind.Kind.{Kind}
use Rattle.nr_linked.specs.declared.program.tables.ClassInfo.{ClassInfo}
use Rattle.nr_linked.specs.declared.program.tables.ProgramTables.{ProgramTables}
use Rattle.nr_linked.specs.BuiltIns.{BuiltInMethod, built_in, built_in_class, number}
use Rattle.nr_linked.specs.BuiltInTables.{built_in_info, built_in_method, built_ins, within_steps}
use Rattle.nr_linked.specs.Linked.{Linked, first_built_in, first_built_in_method, is_loaded}
use Rattle.nr_linked.specs.Programs.{class_at, is_interface}
use Rattle.nr_linked.specs.Slots.{slots_of}
use Rattle.nr_linked.specs.Subtypes.{admits_any, is_above}
use Rattle.nr_linked.specs.TypingFacts.{BuiltInFacts, is_makeable, is_thrown}
use Rattle.nr_linked.proofs.Ascents.{itself_above}
use Rattle.nr_linked.proofs.BuiltInEntries.{built_in_at, info_of, listed, of_built_in, on_all}
use Rattle.nr_linked.proofs.Elements.{passes_at, passing}

is_face : (P : ProgramTables) → Linked P → (b : BuiltIn) → is_interface P (built_in P b) ≡ has_flag 0x0200 (info_of P b).flags
is_face P linked b = ap (λ o. option_map_or (λ (e : ClassInfo). has_flag 0x0200 e.flags) o false) (built_in_at P linked b)

pub cloneable : (P : ProgramTables) → Linked P → IsTrue (is_interface P (built_in P Cloneable))
unfolding built_in_info built_in_class
cloneable P linked = is_face P linked Cloneable

pub serializable : (P : ProgramTables) → Linked P → IsTrue (is_interface P (built_in P Serializable))
unfolding built_in_info built_in_class
serializable P linked = is_face P linked Serializable

pub throwable : (P : ProgramTables) → Linked P → admits_any P (built_in P Throwable) ≡ false
unfolding built_in_info built_in_class
throwable P linked = or_from (built_in P Throwable == built_in P Object) (is_interface P (built_in P Throwable)) (ne_eqb (built_in P Throwable) (built_in P Object) (λ e. omega (arith, e))) (is_face P linked Throwable)

-- the same built-in class among some
abbrev is_among : BuiltIn → List BuiltIn → Bool
is_among b bs = list_any (λ a. number a == number b) bs

numbers_among : (f : ℕ) (b : BuiltIn) (bs : List BuiltIn) → IsTrue (is_among b bs) → IsTrue (list_any (λ s. s == f + number b) (map (λ a. f + number a) bs))
numbers_among f b [] p = absurd cc
numbers_among f b (a ∷ bs) p = elim (or_cases (number a == number b) (is_among b bs) p) [
  | inl q ↦ or_left (f + number a == f + number b) _ (eq-eqb (f + number a) (f + number b) (ap (λ n. f + n) (eqb-true (number a) (number b) q)))
  | inr q ↦ or_right (f + number a == f + number b) _ (numbers_among f b bs q)
]

info_above : (P : ProgramTables) → Linked P → (b d : BuiltIn) → IsTrue (is_among d (within_steps 5 b)) → IsTrue (is_above P (built_in P b) (built_in P d))
unfolding built_in_info
info_above P linked b d p = ap (λ o. option_map_or (λ (e : ClassInfo). list_any (λ s. s == built_in P d) e.supers) o false) (built_in_at P linked b) ∙ numbers_among (first_built_in P) d (within_steps 5 b) p

info_makeable : (P : ProgramTables) → Linked P → (b : BuiltIn) → is_abstract (built_in_class b).flags ≡ false → has_flag 0x0200 (built_in_class b).flags ≡ false → IsTrue (is_makeable P (built_in P b))
unfolding built_in_info
info_makeable P linked b concrete no_face = and_from (option_map_or (λ (e : ClassInfo). not (is_abstract e.flags)) (class_at P (built_in P b)) false) (not (is_interface P (built_in P b)))
    (ap (λ o. option_map_or (λ (e : ClassInfo). not (is_abstract e.flags)) o false) (built_in_at P linked b) ∙ not_from_false (is_abstract (built_in_class b).flags) concrete)
    (not_from_false (is_interface P (built_in P b)) (is_face P linked b ∙ no_face))

pub thrown : (P : ProgramTables) → Linked P → (b : BuiltIn) → IsTrue (is_thrown b) → IsTrue (is_above P (built_in P b) (built_in P Throwable)) × IsTrue (is_makeable P (built_in P b))
unfolding built_in_class
thrown P linked ArithmeticException p = (info_above P linked ArithmeticException Throwable refl, info_makeable P linked ArithmeticException refl refl)
thrown P linked ArrayStoreException p = (info_above P linked ArrayStoreException Throwable refl, info_makeable P linked ArrayStoreException refl refl)
thrown P linked ClassCastException p = (info_above P linked ClassCastException Throwable refl, info_makeable P linked ClassCastException refl refl)
thrown P linked NegativeArraySizeException p = (info_above P linked NegativeArraySizeException Throwable refl, info_makeable P linked NegativeArraySizeException refl refl)
thrown P linked NullPointerException p = (info_above P linked NullPointerException Throwable refl, info_makeable P linked NullPointerException refl refl)
thrown P linked ArrayIndexOutOfBoundsException p = (info_above P linked ArrayIndexOutOfBoundsException Throwable refl, info_makeable P linked ArrayIndexOutOfBoundsException refl refl)
thrown P linked IncompatibleClassChangeError p = (info_above P linked IncompatibleClassChangeError Throwable refl, info_makeable P linked IncompatibleClassChangeError refl refl)
thrown P linked AbstractMethodError p = (info_above P linked AbstractMethodError Throwable refl, info_makeable P linked AbstractMethodError refl refl)
thrown P linked RemoteFault p = (info_above P linked RemoteFault Throwable refl, info_makeable P linked RemoteFault refl refl)
thrown P linked b p = absurd cc

pub makeable : (P : ProgramTables) → Linked P → (c : ℕ) → IsTrue (is_makeable P c) → IsTrue (is_above P c c)
makeable P linked c p =
    let a = and_parts (option_map_or (λ (e : ClassInfo). not (is_abstract e.flags)) (class_at P c) false) (not (is_interface P c)) p in
    let e = passing (λ (e : ClassInfo). not (is_abstract e.flags)) (class_at P c) a.0 in
    itself_above P linked c e.0 e.1

-- ---- slots

pub built_in_slots : (f m : ℕ) (b : BuiltIn) → (built_in_info f m b).slots ≡ []
unfolding built_in_info
built_in_slots f m b = refl

-- a class that wasn't loaded has no slot
pub no_built_in_slots : (P : ProgramTables) → Linked P → (c : ℕ) → is_loaded P c ≡ false → slots_of P c ≡ []
no_built_in_slots P linked c past = of_option (class_at P c) refl
  where
    of_option : (o : Option ClassInfo) → class_at P c ≡ o → option_map_or (λ (e : ClassInfo). e.slots) o [] ≡ []
    of_option None is = refl
    of_option (Some e) is =
        let r = of_built_in P linked c e is past in
        ap (λ (e : ClassInfo). e.slots) r.1 ∙ built_in_slots (first_built_in P) (first_built_in_method P) r.0

-- ---- methods

pub built_in_result : (c : ℕ) (m : BuiltInMethod) → (built_in_method c m).result ≡ None
unfolding built_in_method
built_in_result c m = refl

abbrev is_empty : List Kind → Bool
is_empty [] = true
is_empty (k ∷ ks) = false

empty_is : (ks : List Kind) → is_empty ks ≡ true → ks ≡ []
empty_is [] e = refl
empty_is (k ∷ ks) e = absurd cc

abbrev is_bare : BuiltInMethod → Bool
is_bare m = not (bytes_eq m.name (codes "<init>")) || is_empty m.params

bare_initialisers : IsTrue (list_all (λ b. list_all is_bare (built_in_class b).methods) built_ins)
unfolding built_in_class
bare_initialisers = refl

no_params : (m : BuiltInMethod) → IsTrue (is_bare m) → IsTrue (bytes_eq m.name (codes "<init>")) → m.params ≡ []
no_params m p init = elim (or_cases (not (bytes_eq m.name (codes "<init>"))) (is_empty m.params) p) [
  | inl q ↦ absurd (both_ways (bytes_eq m.name (codes "<init>")) (not-true (bytes_eq m.name (codes "<init>")) q) init)
  | inr q ↦ empty_is m.params q
]

static_out : IsTrue (list_all (λ (m : BuiltInMethod). is_static m.flags) (built_in_class Out).methods)
unfolding built_in_class
static_out = refl

one_number : (a b : BuiltIn) → number a ≡ number b → a ≡ b
one_number a b e = same_Some a b (sym (listed a) ∙ ap (slice_get built_ins) e ∙ listed b)

out_holder : (P : ProgramTables) (b : BuiltIn) → first_built_in P + number b ≡ built_in P Out → b ≡ Out
out_holder P b e = one_number b Out (omega (arith, e))

pub built_in_method_facts : (P : ProgramTables) (b : BuiltIn) (m : BuiltInMethod) (k : ℕ) → slice_get (built_in_class b).methods k ≡ Some m → BuiltInFacts P (built_in_method (first_built_in P + number b) m)
unfolding built_in_method
built_in_method_facts P b m k at = record {
  out = λ e. let there = subst (λ b. slice_get (built_in_class b).methods k ≡ Some m) (out_holder P b e) at in (
    passes_at (λ (m : BuiltInMethod). is_static m.flags) (built_in_class Out).methods k m static_out there,
    refl,
    m,
    (k, slice_get_within (built_in_class Out).methods k m there, get_or_from_slice_get (built_in_class Out).methods k m m there),
    refl,
    refl,
    refl,
  );
  initialiser = λ init. no_params m (passes_at is_bare (built_in_class b).methods k m (on_all (λ b. list_all is_bare (built_in_class b).methods) bare_initialisers b) at) init;
}

pub no_code : (c : ℕ) (m : BuiltInMethod) → (built_in_method c m).body ≡ None
unfolding built_in_method
no_code c m = refl
