-- Tests of what indices name hold exactly where the facts do.
use Rattle.std.proofs.Common.{◌≡◌, ℕ, ◌+◌, ◌≤◌, Bool, true, false, not, cond, ◌&&◌, ◌||◌, eqb, leb, List, Option, Some, None, Result, Ok, Err, ◌⊎◌, inl, inr, refl, ap, ◌∙◌}
use Rattle.std.specs.Prelude.{IsSomeAnd}
use Rattle.std.specs.Option.{option_map_or}
use Rattle.std.specs.List.{All}
use Rattle.std.proofs.lemmas.Bool.{eqb-true, eq-eqb, leb-true, le-leb}
use Rattle.nr_base.specs.Grammar.{IsBytes}
use Rattle.nr_base.specs.Names.{is_name}
use Rattle.nr_base.specs.ModifiedUtf8.{IsModifiedUtf8}
use Rattle.nr_base.specs.Descs.{desc, method_desc, slots}
use Rattle.nr_base.specs.DescReading.{desc_of, method_of}
use Rattle.nr_base.specs.declared.desc.fault.DescFault.{DescFault}
use Rattle.nr_base.specs.declared.desc.fault.DescFault.TheVariants as descs
use Rattle.nr_base.specs.declared.desc.types.Desc.{Desc}
use Rattle.nr_base.specs.declared.desc.types.MethodDesc.{MethodDesc}
use Rattle.nr_base.proofs.ClassNames.{both_true, and_true}
use Rattle.nr_base.proofs.NameLaws.{legal, is_name_only}
use Rattle.nr_base.proofs.Laws.{whole_found, whole_only}
use Rattle.nr_base.proofs.DescLaws.{desc_law}
use Rattle.nr_base.proofs.MethodLaws.{method_found}
use Rattle.nr_optable.specs.declared.table.Family.{Family}
use Rattle.nr_optable.specs.declared.table.Family.TheVariants.{F8, F30, F31, F32, F33, F34, F37}
use Rattle.nr_optable.specs.declared.table.Kinds.{Kinds}
use Rattle.nr_prog.specs.declared.pool.PoolEntry.{PoolEntry}
use Rattle.nr_prog.specs.declared.pool.PoolEntry.TheVariants.{Integer, Float, Long, Double, Class, Str, FieldRef, MethodRef, InterfaceMethodRef, NameAndType}
use Rattle.nr_prog.specs.Pool.{IsText, entry_at, text_at, is_wide, is_integer, is_long}
use Rattle.nr_prog.specs.Members.{spells}
use Rattle.nr_prog.specs.Form.{Spells}
use Rattle.nr_prog.specs.BodyNames.{class_text_in, class_text_at, NamesClassBy, NamesAnyClass, IsComponent, IsArrayOf, IsFieldRef, IsMethodRef, desc_text_in, desc_text_at, IsCounted, IsInterfaceRef, IsSingle, IsTwofold, IsKept, is_of_long, IsConstant, IsUsed}
use Rattle.nr_prog.proofs.Spelled.{text_bytes}
use Rattle.nr_prog.proofs.LegalLaws.{method_only}
use Rattle.nr_instrs.specs.NameTests.{names_class_by, names_class, is_full, is_component, has_dims, is_array, is_field_ref, is_method_ref, takes, is_counted, is_interface_ref, is_single, is_used, is_kept}

-- a test holds exactly where P does
pub record Decides (b : Bool) (P : Type 0) : Type 0 where
  pub is : b ≡ true → P
  pub of : P → b ≡ true

-- the same of a test of texts
pub record Tells (test : List ℕ → Bool) (P : List ℕ → Type 0) : Type 0 where
  pub tells : (t : List ℕ) → IsBytes t → Decides (test t) (P t)

pub never : Decides false ⊥
never = record { is = λ e. absurd cc; of = λ h. absurd h }

pub always : Decides true (Unit {0})
always = record { is = λ e. tt; of = λ h. refl }

pub both : {a b : Bool} {P Q : Type 0} → Decides a P → Decides b Q → Decides (a && b) (P × Q)
both {a = a} {b = b} p q = record { is = λ e. let h = both_true a b e in (p.is h.0, q.is h.1); of = λ h. and_true a b (p.of h.0) (q.of h.1) }

pub or_is : (a b : Bool) {P Q : Type 0} → (a ≡ true → P) → (b ≡ true → Q) → (a || b) ≡ true → P ⊎ Q
or_is true b f g e = inl (f refl)
or_is false b f g e = inr (g e)

or_of : (a b : Bool) → (a ≡ true) ⊎ (b ≡ true) → (a || b) ≡ true
or_of true b h = refl
or_of false b (inl h) = absurd cc
or_of false b (inr h) = h

pub either : {a b : Bool} {P Q : Type 0} → Decides a P → Decides b Q → Decides (a || b) (P ⊎ Q)
either {a = a} {b = b} p q = record { is = λ e. or_is a b (p.is) (q.is) e; of = λ h. or_of a b (elim h [ inl x ↦ inl (p.of x) | inr y ↦ inr (q.of y) ]) }

pub equal : (m n : ℕ) → Decides (eqb m n) (m ≡ n)
equal m n = record { is = λ e. eqb-true m n e; of = λ e. eq-eqb m n e }

pub at_most : (m n : ℕ) → Decides (leb m n) (m ≤ n)
at_most m n = record { is = λ e. leb-true m n e; of = λ h. le-leb m n h }

-- ---- texts

pub names_tell : Tells is_name IsModifiedUtf8
names_tell = record { tells = λ t fits. record { is = λ e. legal t fits e; of = λ h. is_name_only t h } }

pub reads_desc : (t : List ℕ) (d : Desc) → desc d t → desc_of t ≡ Ok d
reads_desc t d g = whole_only descs.BadDesc desc_law t d g

pub desc_is : (t : List ℕ) (d : Desc) → IsBytes t → desc_of t ≡ Ok d → desc d t
desc_is t d fits e = whole_found descs.BadDesc desc_law t d fits e

pub method_is : (t : List ℕ) (m : MethodDesc) → IsBytes t → method_of t ≡ Ok m → method_desc m t
method_is t m fits e = method_found t (Ok m) fits e

not_true : (b : Bool) → not b ≡ true → b ≡ true → ⊥
not_true true e h = absurd cc
not_true false e h = absurd cc

false_of : (b : Bool) → (b ≡ true → ⊥) → not b ≡ true
false_of true ne = absurd (ne refl)
false_of false ne = refl

full_is : (r : Result Desc DescFault) → is_full r ≡ true → (d : Desc) × (r ≡ Ok d) × (d.dims ≡ 255)
full_is (Ok d) e = (d, refl, eqb-true d.dims 255 e)
full_is (Err f) e = absurd cc

not_full : (t : List ℕ) → IsBytes t → Decides (not (is_full (desc_of t))) ((d : Desc) → desc d t → d.dims ≡ 255 → ⊥)
not_full t fits = record {
  is = λ e d g is. not_true (is_full (desc_of t)) e (ap is_full (reads_desc t d g) ∙ eq-eqb d.dims 255 is);
  of = λ h. false_of (is_full (desc_of t)) (λ e. let f = full_is (desc_of t) e in h f.0 (desc_is t f.0 fits f.1) f.2);
}

pub components_tell : Tells is_component IsComponent
unfolding is_component
components_tell = record { tells = λ t fits. both (names_tell.tells t fits) (not_full t fits) }

dims_are : (n : ℕ) (r : Result Desc DescFault) → has_dims n r ≡ true → (d : Desc) × (r ≡ Ok d) × (1 ≤ n) × (n ≤ d.dims)
dims_are n (Ok d) e = let b = both_true (leb 1 n) (leb n d.dims) e in (d, refl, leb-true 1 n b.0, leb-true n d.dims b.1)
dims_are n (Err f) e = absurd cc

pub arrays_tell : (n : ℕ) → Tells (is_array n) (IsArrayOf n)
unfolding is_array
arrays_tell n = record {
  tells = λ t fits. record {
    is = λ e. let f = dims_are n (desc_of t) e in (f.0, desc_is t f.0 fits f.1, f.2, f.3);
    of = λ h. ap (has_dims n) (reads_desc t h.0 h.1) ∙ and_true (leb 1 n) (leb n h.0.dims) (le-leb 1 n h.2) (le-leb n h.0.dims h.3);
  };
}

takes_is : (n : ℕ) (r : Result MethodDesc DescFault) → takes n r ≡ true → (m : MethodDesc) × (r ≡ Ok m) × (n ≡ slots m.params + 1)
takes_is n (Ok m) e = (m, refl, eqb-true n (slots m.params + 1) e)
takes_is n (Err f) e = absurd cc

pub counted_tell : (n : ℕ) → Tells (is_counted n) (IsCounted n)
unfolding is_counted
counted_tell n = record {
  tells = λ t fits. record {
    is = λ e. let f = takes_is n (method_of t) e in (f.0, method_is t f.0 fits f.1, f.2);
    of = λ h. ap (takes n) (method_only t h.0 h.1) ∙ eq-eqb n (slots h.0.params + 1) h.2;
  };
}

-- ---- texts that are looked up

pub in_option : {test : List ℕ → Bool} {P : List ℕ → Type 0} (o : Option (List ℕ)) → Tells test P → ((t : List ℕ) → o ≡ Some t → IsBytes t) → Decides (option_map_or test o false) (IsSomeAnd o P)
in_option (Some t) tell fits = let d = tell.tells t (fits t refl) in record { is = λ e. d.is e; of = λ h. d.of h }
in_option None tell fits = record { is = λ e. absurd cc; of = λ h. absurd h }

pub spelled : {test : List ℕ → Bool} {P : List ℕ → Type 0} (pool : List PoolEntry) (index : ℕ) → All IsText pool → Tells test P → Decides (spells test pool index) (Spells P pool index)
unfolding spells
spelled pool index all tell = in_option (text_at pool index) tell (λ t e. text_bytes pool index t all e)

class_bytes_in : (pool : List PoolEntry) (o : Option PoolEntry) (t : List ℕ) → All IsText pool → option_map_or (class_text_in pool) o None ≡ Some t → IsBytes t
class_bytes_in pool (Some (Class name)) t all e = text_bytes pool name t all e
class_bytes_in pool (Some x) t all e = absurd cc
class_bytes_in pool None t all e = absurd cc

pub class_bytes : (pool : List PoolEntry) (index : ℕ) (t : List ℕ) → All IsText pool → class_text_at pool index ≡ Some t → IsBytes t
unfolding class_text_at
class_bytes pool index t all e = class_bytes_in pool (entry_at pool index) t all e

pub class_by : {test : List ℕ → Bool} {P : List ℕ → Type 0} (pool : List PoolEntry) (index : ℕ) → All IsText pool → Tells test P → Decides (names_class_by test pool index) (NamesClassBy P pool index)
unfolding names_class_by
class_by pool index all tell = in_option (class_text_at pool index) tell (λ t e. class_bytes pool index t all e)

pub any_class : (pool : List PoolEntry) (index : ℕ) → All IsText pool → Decides (names_class pool index) (NamesAnyClass pool index)
any_class pool index all = class_by pool index all names_tell

desc_bytes_in : (pool : List PoolEntry) (o : Option PoolEntry) (t : List ℕ) → All IsText pool → option_map_or (desc_text_in pool) o None ≡ Some t → IsBytes t
desc_bytes_in pool (Some (NameAndType name desc)) t all e = text_bytes pool desc t all e
desc_bytes_in pool (Some x) t all e = absurd cc
desc_bytes_in pool None t all e = absurd cc

desc_bytes : (pool : List PoolEntry) (index : ℕ) (t : List ℕ) → All IsText pool → desc_text_at pool index ≡ Some t → IsBytes t
unfolding desc_text_at
desc_bytes pool index t all e = desc_bytes_in pool (entry_at pool index) t all e

-- ---- entries

field_refs : (pool : List PoolEntry) (e : PoolEntry) → All IsText pool → Decides (is_field_ref pool e) (IsFieldRef pool e)
field_refs pool (FieldRef class member) all = any_class pool class all
field_refs pool e all = never

method_refs : (pool : List PoolEntry) (e : PoolEntry) → All IsText pool → Decides (is_method_ref pool e) (IsMethodRef pool e)
method_refs pool (MethodRef class member) all = any_class pool class all
method_refs pool e all = never

pub interface_refs : (pool : List PoolEntry) (n : ℕ) (e : PoolEntry) → All IsText pool → Decides (is_interface_ref pool n e) (IsInterfaceRef pool n e)
interface_refs pool n (InterfaceMethodRef class member) all = both (any_class pool class all) (in_option (desc_text_at pool member) (counted_tell n) (λ t e. desc_bytes pool member t all e))
interface_refs pool n e all = never

singles : (pool : List PoolEntry) (e : PoolEntry) → All IsText pool → Decides (is_single pool e) (IsSingle pool e)
singles pool (Integer n) all = always
singles pool (Float bits) all = always
singles pool (Str text) all = always
singles pool (Class name) all = spelled pool name all names_tell
singles pool e all = never

twofolds : (e : PoolEntry) → Decides (is_wide e) (IsTwofold e)
twofolds (Long n) = always
twofolds (Double bits) = always
twofolds e = never

keeps : (e : PoolEntry) → Decides (is_integer e || is_long e) (IsKept e)
keeps (Integer n) = always
keeps (Long n) = always
keeps e = never

pub named : {test : PoolEntry → Bool} {P : PoolEntry → Type 0} (o : Option PoolEntry) → ((e : PoolEntry) → Decides (test e) (P e)) → Decides (option_map_or test o false) (IsSomeAnd o P)
named (Some e) each = record { is = λ h. (each e).is h; of = λ h. (each e).of h }
named None each = record { is = λ e. absurd cc; of = λ h. absurd h }

-- two tests of the same entry
both_of : (test other : PoolEntry → Bool) (P Q : PoolEntry → Type 0) (o : Option PoolEntry) → ((e : PoolEntry) → Decides (test e) (P e)) → ((e : PoolEntry) → Decides (other e) (Q e))
    → Decides (option_map_or test o false && option_map_or other o false) (IsSomeAnd o (λ e. P e × Q e))
both_of test other P Q (Some e) p q = both (p e) (q e)
both_of test other P Q None p q = never

constants : (pool : List PoolEntry) (long : Bool) (o : Option PoolEntry) → All IsText pool
    → Decides (cond long (option_map_or is_wide o false) (option_map_or (is_single pool) o false) && option_map_or (λ e. is_integer e || is_long e) o false) (IsSomeAnd o (IsConstant pool long))
constants pool true o all = both_of is_wide _ IsTwofold IsKept o twofolds keeps
constants pool false o all = both_of (is_single pool) _ (IsSingle pool) IsKept o (λ e. singles pool e all) keeps

alone : {b : Bool} {P : Type 0} → Decides b P → Decides (b && true) P
alone {b = b} d = record { is = λ e. d.is (both_true b true e).0; of = λ h. and_true b true (d.of h) refl }

nothing : Decides (false && true) ⊥
nothing = never

-- what an instruction names by its index
pub used : (pool : List PoolEntry) (family : Family) (pushes : Kinds) (index : ℕ) → All IsText pool → Decides (is_used pool family pushes index && is_kept pool family index) (IsUsed pool family pushes index)
unfolding is_used is_kept
used pool F8 pushes index all = constants pool (is_of_long pushes) (entry_at pool index) all
used pool F30 pushes index all = alone (named (entry_at pool index) (λ e. field_refs pool e all))
used pool F31 pushes index all = alone (named (entry_at pool index) (λ e. field_refs pool e all))
used pool F32 pushes index all = alone (named (entry_at pool index) (λ e. method_refs pool e all))
used pool F33 pushes index all = alone (any_class pool index all)
used pool F34 pushes index all = alone (class_by pool index all components_tell)
used pool F37 pushes index all = alone (any_class pool index all)
used pool family pushes index all = nothing
