-- What calls make of a class's parts.
use Rattle.std.proofs.Common.{◌≡◌, ℕ, ◌+◌, ◌<◌, ◌≤◌, ◌^◌, Bool, true, false, cond, List, [], ◌∷◌, ◌++◌, length, take, Option, Some, None, Result, Ok, Err, refl, sym, ap, subst, ◌∙◌, arith, length-append}
use Rattle.std.specs.Prelude.{IfOk, IfErr, ◌==◌}
use Rattle.std.specs.Result.{IsErrAnd}
use Rattle.nr_prog.specs.declared.pool.PoolEntry.{PoolEntry}
use Rattle.nr_prog.specs.declared.pool.PoolEntry.TheVariants.{Utf8, Class, FieldRef, MethodRef, InterfaceMethodRef}
use Rattle.nr_prog.specs.declared.member.Field.{Field}
use Rattle.nr_prog.specs.declared.member.Method.{Method}
use Rattle.nr_prog.specs.declared.parts.ClassParts.{ClassParts}
use Rattle.nr_classmake.specs.declared.fault.MakeFault.{MakeFault}
use Rattle.nr_classmake.specs.declared.fault.MakeFault.TheVariants as faults
use Rattle.nr_classmake.specs.Items.{Item, FieldOf, MethodOf, InterfaceMethodOf}
use Rattle.nr_classmake.specs.Calls.{Place, ref_item}
use Rattle.nr_classmake.specs.Classes.{Does, placed, place_in}
use Rattle.nr_classmake.specs.Making.{Making, and_then, class_ref, name_and_type, member_ref}
use Rattle.nr_classmake.specs.Places.{with_entry, at_slot, slot_of}
use Rattle.nr_classmake.specs.Words.{Extends, Makes}
use Rattle.nr_classmake.proofs.Steps.{Keeps}

places_if : (r : Result ℕ MakeFault) (was : ClassParts) (mid : List PoolEntry) (item : Item) → Makes r was.pool mid (placed item was.pool)
    → Does r was (record was { pool = mid }) (Place item) × IfOk r (λ place. place ≡ place_in was item)
places_if (Ok x) was mid item t = (
  (ap (λ (p : List PoolEntry × ℕ). record was { pool = p.0 }) (sym t.0), t.1),
  ap (λ (p : List PoolEntry × ℕ). p.1) (sym t.0),
)
places_if (Err faults.PoolFull) was mid item t = ((t.0, ap (λ p. record was { pool = p }) t.1), tt)
places_if (Err faults.NoMemory) was mid item t = (ap (λ p. record was { pool = p }) t, tt)

pub places : (r : Result ℕ MakeFault) (was old : ClassParts) (mid : List PoolEntry) (item : Item) → was ≡ old → Makes r was.pool mid (placed item was.pool)
    → Does r old (record was { pool = mid }) (Place item) × IfOk r (λ place. place ≡ place_in old item)
places r was old mid item view t =
    subst (λ o. Does r o (record was { pool = mid }) (Place item) × IfOk r (λ place. place ≡ place_in o item)) view (places_if r was mid item t)

-- a reference is placed by its tag
ref_if : (nine ten : Bool) (class name desc : List ℕ)
    → placed (cond nine (FieldOf class name desc) (cond ten (MethodOf class name desc) (InterfaceMethodOf class name desc)))
    ≡ and_then (class_ref class) (λ c. and_then (name_and_type name desc) (λ m. with_entry (cond nine (FieldRef c m) (cond ten (MethodRef c m) (InterfaceMethodRef c m)))))
unfolding member_ref
ref_if true ten class name desc = refl
ref_if false true class name desc = refl
ref_if false false class name desc = refl

pub placed_ref : (tag : ℕ) (class name desc : List ℕ) → placed (ref_item tag class name desc) ≡ member_ref tag class name desc
unfolding member_ref
placed_ref tag class name desc = ref_if (tag == 9) (tag == 10) class name desc

-- what was added to the pool is taken back
pub back : {X : Type 0} (m : Making X) (x : X) (mark : ℕ) (old mid new : List PoolEntry) → Keeps m → m old ≡ (mid, x) → mark ≡ length old → new ≡ take mark mid → new ≡ old
back m x mark old mid new keeps is len first =
    first ∙ ap (λ n. take n mid) len ∙ subst (λ p. Extends old p.0) is (keeps.keeps old)

pub restored_interfaces : (was old : ClassParts) (pool : List PoolEntry) (all : List ℕ) → was ≡ old → pool ≡ was.pool → all ≡ was.interfaces → record was { pool = pool; interfaces = all } ≡ old
restored_interfaces was old pool all view p e = ap (λ l. record was { pool = pool; interfaces = l }) e ∙ ap (λ q. record was { pool = q }) p ∙ view

pub restored_fields : (was old : ClassParts) (pool : List PoolEntry) (all : List Field) → was ≡ old → pool ≡ was.pool → all ≡ was.fields → record was { pool = pool; fields = all } ≡ old
restored_fields was old pool all view p e = ap (λ l. record was { pool = pool; fields = l }) e ∙ ap (λ q. record was { pool = q }) p ∙ view

pub restored_methods : (was old : ClassParts) (pool : List PoolEntry) (all : List Method) → was ≡ old → pool ≡ was.pool → all ≡ was.methods → record was { pool = pool; methods = all } ≡ old
restored_methods was old pool all view p e = ap (λ l. record was { pool = pool; methods = l }) e ∙ ap (λ q. record was { pool = q }) p ∙ view

-- ---- a new class's pool isn't full

spread_len : (b : List PoolEntry) (pool : List PoolEntry) → length b ≤ 2 → length (pool ++ b) ≤ length pool + 2
spread_len b pool h = omega (arith, length-append pool b)

slot_len : (name : List ℕ) (pool : List PoolEntry) (o : Option ℕ) → length (at_slot (Utf8 name) pool o).0 ≤ length pool + 2
slot_len name pool None = spread_len (Utf8 name ∷ []) pool (omega arith)
slot_len name pool (Some slot) = omega arith

class_slot_len : (n : ℕ) (pool : List PoolEntry) (o : Option ℕ) → length (at_slot (Class n) pool o).0 ≤ length pool + 2
class_slot_len n pool None = spread_len (Class n ∷ []) pool (omega arith)
class_slot_len n pool (Some slot) = omega arith

pub class_len : (name : List ℕ) (pool : List PoolEntry) → length (class_ref name pool).0 ≤ length pool + 4
unfolding class_ref with_entry
class_len name pool =
    let p = at_slot (Utf8 name) pool (slot_of (Utf8 name) pool) in
    omega (arith, slot_len name pool (slot_of (Utf8 name) pool), class_slot_len p.1 p.0 (slot_of (Class p.1) p.0))

pub not_full : {X Y : Type 0} (r : Result Y MakeFault) (e : MakeFault) (old new : List PoolEntry) (made : List PoolEntry × X) → IsErrAnd r (λ d. d ≡ e) → length made.0 < 2 ^ 16
    → Makes {X = X} (Err e) old new made → IfErr r (λ d. d ≡ faults.NoMemory)
not_full (Ok y) e old new made is short t = absurd is
not_full (Err d) faults.PoolFull old new made is short t = absurd (omega (arith, t.0))
not_full (Err d) faults.NoMemory old new made is short t = is
