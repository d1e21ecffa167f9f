-- What is made step by step of a pool.
use Rattle.std.proofs.Common.{◌≡◌, ℕ, ◌+◌, ◌<◌, ◌≤◌, ◌^◌, Bool, List, ◌++◌, length, take, Option, Some, None, sym, ap, subst, ◌∙◌, arith, length-take, take-take, take_all}
use Rattle.std.proofs.lemmas.List.{take-append-le}
use Rattle.std.specs.Prelude.{ℤ, codes, Result, Ok, Err, OnOk, OnErr}
use Rattle.std.specs.Result.{IsErrAnd}
use Rattle.nr_classmake.specs.declared.fault.MakeFault.{MakeFault}
use Rattle.nr_classmake.specs.declared.fault.MakeFault.TheVariants as faults
use Rattle.nr_classmake.specs.Words.{Extends, Tries, Makes}
use Rattle.nr_classmake.specs.Making.{Making, and_then, class_ref, names, name_and_type, number_entry, number, constant, is_long_desc, field, maps_name, code_names, body_names, method}
use Rattle.nr_prog.specs.declared.pool.PoolEntry.{PoolEntry}
use Rattle.nr_prog.specs.declared.pool.PoolEntry.TheVariants.{Utf8, Class, NameAndType}
use Rattle.nr_prog.specs.declared.member.Code.{Code}
use Rattle.nr_classmake.specs.Places.{slot_of, with_entry, added, at_slot, spread}

pub is_added : (e : PoolEntry) (pool : List PoolEntry) → slot_of e pool ≡ None → with_entry e pool ≡ added e pool
unfolding with_entry
is_added e pool h = ap (at_slot e pool) h

pub is_there : (e : PoolEntry) (pool : List PoolEntry) (slot : ℕ) → slot_of e pool ≡ Some slot → with_entry e pool ≡ (pool, slot + 1)
unfolding with_entry
is_there e pool slot h = ap (at_slot e pool) h

-- ---- pools that begin with the old one

pub extends_same : (a : List PoolEntry) → Extends a a
extends_same a = take_all (length a) a (omega arith)

pub extends_append : (a b : List PoolEntry) → Extends a (a ++ b)
extends_append a b = take-append-le (length a) a b (omega arith) ∙ extends_same a

pub extends_len : (a b : List PoolEntry) → Extends a b → length a ≤ length b
extends_len a b h = omega (arith, ap length h, length-take (length a) b)

pub extends_on : (a b c : List PoolEntry) → Extends a b → Extends b c → Extends a c
extends_on a b c h k =
    sym (take-take (length a) (length b) c (extends_len a b h)) ∙ ap (take (length a)) k ∙ h

at_slot_extends : (e : PoolEntry) (pool : List PoolEntry) (o : Option ℕ) → Extends pool (at_slot e pool o).0
at_slot_extends e pool None = extends_append pool (spread e)
at_slot_extends e pool (Some slot) = extends_same pool

-- a making that keeps the pool's beginning
pub record Keeps {X : Type 0} (m : Making X) : Type 0 where
  pub keeps : (pool : List PoolEntry) → Extends pool (m pool).0

pub entry_keeps : (e : PoolEntry) → Keeps (with_entry e)
unfolding with_entry
entry_keeps e = record { keeps = λ pool. at_slot_extends e pool (slot_of e pool) }

pub then_keeps : {X Y : Type 0} (m : Making X) (f : X → Making Y) → Keeps m → ((x : X) → Keeps (f x)) → Keeps (and_then m f)
then_keeps m f k l = record { keeps = λ pool. extends_on pool (m pool).0 (f (m pool).1 (m pool).0).0 (k.keeps pool) ((l (m pool).1).keeps (m pool).0) }

pub nothing_keeps : {X : Type 0} (x : X) → Keeps (λ pool. (pool, x))
nothing_keeps x = record { keeps = λ pool. extends_same pool }

-- ---- calls one after another

-- the first call fails
pub stops : {X Y : Type 0} (m : Making X) (f : X → Making Y) (e : MakeFault) (old new : List PoolEntry) → ((x : X) → Keeps (f x))
    → Tries {X = X} (Err e) old new (m old) → Tries {X = Y} (Err e) old new (and_then m f old)
stops m f faults.PoolFull old new k t = (omega (arith, t.0, extends_len (m old).0 (f (m old).1 (m old).0).0 ((k (m old).1).keeps (m old).0)), t.1)
stops m f faults.NoMemory old new k t = t

-- and hands its fault on
pub hands_on : {X Y : Type 0} (m : Making X) (f : X → Making Y) (r : Result Y MakeFault) (e : MakeFault) (old new : List PoolEntry) → IsErrAnd r (λ d. d ≡ e) → ((x : X) → Keeps (f x))
    → Tries {X = X} (Err e) old new (m old) → Tries r old new (and_then m f old)
hands_on m f (Ok y) e old new is k t = absurd is
hands_on m f (Err d) e old new is k t = subst (λ z. Tries (Err z) old new (and_then m f old)) (sym is) (stops m f e old new k t)

later : {X Y : Type 0} (m : Making X) (r : Result Y MakeFault) (old mid new : List PoolEntry) (made : List PoolEntry × Y) → Extends old mid → Tries r mid new made → Tries r old new made
later m (Ok y) old mid new made h t = t
later m (Err faults.PoolFull) old mid new made h t = (t.0, extends_on old mid new h t.1)
later m (Err faults.NoMemory) old mid new made h t = extends_on old mid new h t

-- the first call gives x, and what follows does what is to be done with it
pub goes_on : {X Y : Type 0} (m : Making X) (f : X → Making Y) (r : Result Y MakeFault) (x : X) (old mid new : List PoolEntry) → Keeps m
    → m old ≡ (mid, x) → Tries r mid new (f x mid) → Tries r old new (and_then m f old)
goes_on m f r x old mid new k is t =
    let h = subst (λ p. Extends old p.0) is (k.keeps old) in
    later m r old mid new (and_then m f old) h (subst (λ p. Tries r mid new (f p.1 p.0)) (sym is) t)

pub goes_ok : {X Y : Type 0} (m : Making X) (f : X → Making Y) (old mid : List PoolEntry) (x : X) → m old ≡ (mid, x) → and_then m f old ≡ f x mid
goes_ok m f old mid x is = ap (λ p. f p.1 p.0) is

settles_if : {X : Type 0} (r : Result X MakeFault) (mark : ℕ) (old mid new : List PoolEntry) (made : List PoolEntry × X) → mark ≡ length old
    → OnOk r (new ≡ mid) → OnErr r (new ≡ take mark mid) → (OnOk r (length mid < 2 ^ 16)) → Tries r old mid made → Makes r old new made
settles_if (Ok x) mark old mid new made m ok err short t = (subst (λ p. made ≡ (p, x)) (sym ok) t, subst (λ p. length p < 2 ^ 16) (sym ok) short)
settles_if (Err faults.PoolFull) mark old mid new made m ok err short t = (t.0, err ∙ subst (λ n. take n mid ≡ old) (sym m) t.1)
settles_if (Err faults.NoMemory) mark old mid new made m ok err short t = err ∙ subst (λ n. take n mid ≡ old) (sym m) t

shorter : {X : Type 0} (r : Result X MakeFault) (mid new : List PoolEntry) → length new < 2 ^ 16 → OnOk r (new ≡ mid) → OnOk r (length mid < 2 ^ 16)
shorter (Ok x) mid new short ok = subst (λ p. length p < 2 ^ 16) ok short
shorter (Err e) mid new short ok = tt

-- a call whose entries are taken back where it fails
pub settles : {X : Type 0} (r s : Result X MakeFault) (mark : ℕ) (old mid new : List PoolEntry) (made : List PoolEntry × X) → s ≡ r → mark ≡ length old
    → OnOk r (new ≡ mid) → OnErr r (new ≡ take mark mid) → length new < 2 ^ 16 → Tries r old mid made → Makes s old new made
settles r s mark old mid new made same m ok err short t =
    subst (λ z. Makes z old new made) (sym same) (settles_if r mark old mid new made m ok err (shorter r mid new short ok) t)

-- ---- what keeps the pool's beginning

pub class_keeps : (name : List ℕ) → Keeps (class_ref name)
unfolding class_ref
class_keeps name = then_keeps (with_entry (Utf8 name)) (λ n. with_entry (Class n)) (entry_keeps (Utf8 name)) (λ n. entry_keeps (Class n))

pub names_keep : (name desc : List ℕ) → Keeps (names name desc)
unfolding names
names_keep name desc =
    then_keeps (with_entry (Utf8 name)) _ (entry_keeps (Utf8 name)) (λ n. then_keeps (with_entry (Utf8 desc)) _ (entry_keeps (Utf8 desc)) (λ d. nothing_keeps (n, d)))

pub name_and_type_keeps : (name desc : List ℕ) → Keeps (name_and_type name desc)
unfolding name_and_type
name_and_type_keeps name desc = then_keeps (names name desc) _ (names_keep name desc) (λ m. entry_keeps (NameAndType m.0 m.1))

pub number_keeps : (long : Bool) (n : ℤ) → Keeps (number long n)
unfolding number
number_keeps long n = then_keeps (with_entry (Utf8 (codes "ConstantValue"))) _ (entry_keeps (Utf8 (codes "ConstantValue"))) (λ _. entry_keeps (number_entry long n))

pub constant_keeps : (long : Bool) (value : Option ℤ) → Keeps (constant long value)
unfolding constant
constant_keeps long None = nothing_keeps 0
constant_keeps long (Some n) = number_keeps long n

pub maps_keep : (maps : Option (List ℕ)) → Keeps (maps_name maps)
unfolding maps_name
maps_keep None = nothing_keeps 0
maps_keep (Some maps) = entry_keeps (Utf8 (codes "StackMapTable"))

pub code_names_keep : (c : Code) → Keeps (code_names c)
unfolding code_names
code_names_keep c = then_keeps (with_entry (Utf8 (codes "Code"))) _ (entry_keeps (Utf8 (codes "Code"))) (λ _. maps_keep c.maps)

pub code_keeps : (c : Option Code) → Keeps (body_names c)
unfolding body_names
code_keeps None = nothing_keeps 0
code_keeps (Some c) = code_names_keep c

pub field_keeps : (flags : ℕ) (name desc : List ℕ) (value : Option ℤ) → Keeps (field flags name desc value)
unfolding field
field_keeps flags name desc value =
    then_keeps (names name desc) _ (names_keep name desc) (λ m. then_keeps (constant (is_long_desc desc) value) _ (constant_keeps (is_long_desc desc) value) (λ k. nothing_keeps (record { flags = flags; name = m.0; desc = m.1; constant = k })))

pub method_keeps : (name desc : List ℕ) (c : Option Code) → Keeps (method name desc c)
unfolding method
method_keeps name desc c =
    then_keeps (names name desc) _ (names_keep name desc) (λ m. then_keeps (body_names c) _ (code_keeps c) (λ _. nothing_keeps m))
