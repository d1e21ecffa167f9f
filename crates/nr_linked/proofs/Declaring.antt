-- The class that declares a method, and its public static methods.
use Rattle.std.proofs.Common.{◌≡◌, ℕ, Bool, true, false, List, [], ◌∷◌, cond, find, refl, sym, subst}
use Rattle.std.specs.Prelude.{Option, Some, None, IsTrue, slice_get, ◌==◌}
use Rattle.std.specs.List.{range_with_len}
use Rattle.std.specs.Option.{option_map_or}
use Rattle.std.proofs.lemmas.Bool.{and_from, and_parts, both_ways, eqb-true}
use Rattle.std.proofs.lemmas.Option.{same_Some}
use Rattle.nr_prog.specs.Members.{is_static}
use Rattle.nr_linked.specs.declared.program.tables.ClassInfo.{ClassInfo}
use Rattle.nr_linked.specs.declared.program.tables.MethodInfo.{MethodInfo}
use Rattle.nr_linked.specs.declared.program.tables.ProgramTables.{ProgramTables}
use Rattle.nr_linked.specs.Linked.{Linked, is_method_of}
use Rattle.nr_linked.specs.Programs.{class_at, method_at, methods_of}
use Rattle.nr_linked.specs.Selection.{is_called, is_public, is_static_at, is_static_called, static_named}
use Rattle.nr_linked.specs.Subtypes.{is_above}
use Rattle.nr_linked.proofs.Ascents.{itself_above}
use Rattle.nr_linked.proofs.Elements.{found, passes_at, passing}

pub record Held (P : ProgramTables) (d n : ℕ) : Type 0 where
  pub entry : ClassInfo
  pub is_entry : class_at P d ≡ Some entry
  pub method : MethodInfo
  pub is_method : method_at P n ≡ Some method
  pub own : method.«class» ≡ d

entry_of_methods : (P : ProgramTables) (d k n : ℕ) → slice_get (methods_of P d) k ≡ Some n → (e : ClassInfo) × (class_at P d ≡ Some e)
entry_of_methods P d k n at = of_option (class_at P d) at
  where
    of_option : (o : Option ClassInfo) → slice_get (option_map_or (λ (e : ClassInfo). range_with_len e.first_method e.methods) o []) k ≡ Some n → (e : ClassInfo) × (o ≡ Some e)
    of_option None at = absurd cc
    of_option (Some e) at = (e, refl)

pub held : (P : ProgramTables) → Linked P → (d k n : ℕ) → slice_get (methods_of P d) k ≡ Some n → Held P d n
held P linked d k n at =
    let e = entry_of_methods P d k n at in
    let r = passing (λ (i : MethodInfo). i.«class» == d) (method_at P n) (passes_at (is_method_of P d) (methods_of P d) k n (linked.classes d e.0 e.1).methods at) in
    record { entry = e.0; is_entry = e.1; method = r.0; is_method = r.1; own = eqb-true r.0.«class» d r.2 }

pub own_above : (P : ProgramTables) → Linked P → (n : ℕ) (i : MethodInfo) → method_at P n ≡ Some i → IsTrue (is_above P i.«class» i.«class»)
own_above P linked n i is =
    let r = found _ (methods_of P i.«class») n (linked.methods n i is).alone in
    let e = entry_of_methods P i.«class» r.1.0 n r.1.1 in
    itself_above P linked i.«class» e.0 e.1

-- ---- public static methods

-- a narrower search finds the same, where that passes its test
find_narrower : (f g : ℕ → Bool) (xs : List ℕ) (m : ℕ) → ((n : ℕ) → IsTrue (g n) → IsTrue (f n)) → find f xs ≡ Some m → IsTrue (g m) → find g xs ≡ Some m
find_narrower f g [] m narrower e p = absurd cc
find_narrower f g (x ∷ xs) m narrower e p = at_first (f x) (g x) refl refl e (λ e. find_narrower f g xs m narrower e p)
  where
    at_first : (b c : Bool) → f x ≡ b → g x ≡ c → cond b (Some x) (find f xs) ≡ Some m → (find f xs ≡ Some m → find g xs ≡ Some m) → cond c (Some x) (find g xs) ≡ Some m
    at_first true true is gs e rest = e
    at_first true false is gs e rest = let same = same_Some x m e in absurd (both_ways (g x) gs (subst (λ m. IsTrue (g m)) (sym same) p))
    at_first false true is gs e rest = absurd (both_ways (f x) is (narrower x gs))
    at_first false false is gs e rest = rest e

static_called : (P : ProgramTables) (name desc : List ℕ) (n : ℕ) → IsTrue (is_static_at P name desc n) → IsTrue (option_map_or (is_called name desc) (method_at P n) false)
static_called P name desc n p = of_option (method_at P n) p
  where
    of_option : (o : Option MethodInfo) → IsTrue (option_map_or (is_static_called name desc) o false) → IsTrue (option_map_or (is_called name desc) o false)
    of_option None p = absurd cc
    of_option (Some i) p = (and_parts (is_static i.flags) (is_called name desc i) (and_parts (is_public i.flags) _ p).1).1

-- a public static method is found under its name and descriptor
pub static_found : (P : ProgramTables) → Linked P → (m : ℕ) (i : MethodInfo) → method_at P m ≡ Some i → IsTrue (is_public i.flags) → IsTrue (is_static i.flags) → static_named P i.«class» i.name i.desc ≡ Some m
static_found P linked m i is shown static =
    let alone = (linked.methods m i is).alone in
    let test = (found (λ n. option_map_or (is_called i.name i.desc) (method_at P n) false) (methods_of P i.«class») m alone).0 in
    let called = subst (λ o. IsTrue (option_map_or (is_called i.name i.desc) o false)) is test in
    find_narrower (λ n. option_map_or (is_called i.name i.desc) (method_at P n) false) (is_static_at P i.name i.desc) (methods_of P i.«class») m (static_called P i.name i.desc) alone
    (subst (λ o. IsTrue (option_map_or (is_static_called i.name i.desc) o false)) (sym is) (and_from (is_public i.flags) _ shown (and_from (is_static i.flags) _ static called)))
