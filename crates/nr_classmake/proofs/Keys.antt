-- Entries that are looked up by the same key are equal.
use Rattle.std.proofs.Common.{◌≡◌, ℕ, Bool, true, false, cond, List, refl, sym, ap, ◌∙◌}
use Rattle.std.specs.Prelude.{ℤ, ◌&&◌, ◌==◌}
use Rattle.std.specs.declared.cmp.Ordering.{Ordering}
use Rattle.std.specs.Ordering.{ordering_then, nat_cmp, int_cmp, is_eq}
use Rattle.std.specs.Cmp.{tied_then, unsigned_ties, unsigned_Decides, signed_Decides}
use Rattle.std.specs.Cmp.Lexicographic.{slice_cmp, lists_ties, bytes_decides}
use Rattle.nr_prog.specs.declared.pool.PoolEntry.{PoolEntry}
use Rattle.nr_prog.specs.declared.pool.PoolEntry.TheVariants.{Utf8, Integer, Long, Class, FieldRef, MethodRef, InterfaceMethodRef, NameAndType}
use Rattle.nr_classmake.specs.Places.{is_same}
use Rattle.nr_classmake.specs.Keys.{Key, is_kept, key_in, order}

first_so : (s t : Bool) → (s && t) ≡ true → s ≡ true
first_so true t h = refl
first_so false t h = absurd cc

second_so : (s t : Bool) → (s && t) ≡ true → t ≡ true
second_so true t h = h
second_so false t h = absurd cc

first_tied : (a b : Ordering) → is_eq (ordering_then a b) ≡ true → is_eq a ≡ true
first_tied a b h = first_so _ _ (tied_then a b ∙ h)

rest_tied : (a b : Ordering) → is_eq (ordering_then a b) ≡ true → is_eq b ≡ true
rest_tied a b h = second_so (is_eq a) (is_eq b) (tied_then a b ∙ h)

nats : (x y : ℕ) → is_eq (nat_cmp x y) ≡ true → x ≡ y
nats x y h = (unsigned_Decides x y).0 (unsigned_ties x y ∙ h)

ints : (x y : ℤ) → is_eq (int_cmp x y) ≡ true → x ≡ y
ints x y h = (signed_Decides x y).0 h

texts : (x y : List ℕ) → is_eq (slice_cmp nat_cmp x y) ≡ true → x ≡ y
texts x y h = (bytes_decides x y).0 (lists_ties nat_cmp unsigned_ties x y ∙ h)

abbrev front : Key → Key → Ordering
front a b = ordering_then (ordering_then (ordering_then (nat_cmp a.0 b.0) (int_cmp a.1 b.1)) (nat_cmp a.2 b.2)) (nat_cmp a.3 b.3)

pub same_key : (a b : Key) → is_eq (order a b) ≡ true → a ≡ b
same_key a b h =
    let r4 = first_tied (front a b) _ h in
    let r3 = first_tied (ordering_then (ordering_then (nat_cmp a.0 b.0) (int_cmp a.1 b.1)) (nat_cmp a.2 b.2)) _ r4 in
    let r2 = first_tied (ordering_then (nat_cmp a.0 b.0) (int_cmp a.1 b.1)) _ r3 in
    let p0 : a.0 ≡ b.0 = nats _ _ (first_tied (nat_cmp a.0 b.0) _ r2) in
    let p1 : a.1 ≡ b.1 = ints _ _ (rest_tied (nat_cmp a.0 b.0) _ r2) in
    let p2 : a.2 ≡ b.2 = nats _ _ (rest_tied (ordering_then (nat_cmp a.0 b.0) (int_cmp a.1 b.1)) _ r3) in
    let p3 : a.3 ≡ b.3 = nats _ _ (rest_tied (ordering_then (ordering_then (nat_cmp a.0 b.0) (int_cmp a.1 b.1)) (nat_cmp a.2 b.2)) _ r4) in
    let p4 : a.4 ≡ b.4 = texts _ _ (rest_tied (front a b) _ h) in
    λ i. (p0 i, p1 i, p2 i, p3 i, p4 i)

-- the entry of a key
entry_for : Key → PoolEntry
entry_for k = cond (k.0 == 1) (Utf8 k.4) (cond (k.0 == 3) (Integer k.1) (cond (k.0 == 5) (Long k.1) (cond (k.0 == 7) (Class k.2)
    (cond (k.0 == 9) (FieldRef k.2 k.3) (cond (k.0 == 10) (MethodRef k.2 k.3) (cond (k.0 == 11) (InterfaceMethodRef k.2 k.3) (NameAndType k.2 k.3)))))))

back : (e : PoolEntry) → is_kept e ≡ true → entry_for (key_in e) ≡ e
unfolding entry_for
back (Utf8 a) h = refl
back (Integer a) h = refl
back (Long a) h = refl
back (Class a) h = refl
back (FieldRef a b) h = refl
back (MethodRef a b) h = refl
back (InterfaceMethodRef a b) h = refl
back (NameAndType a b) h = refl
back e h = absurd cc

pub one_key : (a b : PoolEntry) → is_kept a ≡ true → is_kept b ≡ true → key_in a ≡ key_in b → a ≡ b
one_key a b p q k = sym (back a p) ∙ ap entry_for k ∙ back b q

pub equal : (a b : PoolEntry) → is_same a b ≡ true → a ≡ b
equal (Utf8 a) (Utf8 b) h = ap Utf8 ((bytes_decides a b).0 h)
equal (Integer a) (Integer b) h = ap Integer ((signed_Decides a b).0 h)
equal (Long a) (Long b) h = ap Long ((signed_Decides a b).0 h)
equal (Class a) (Class b) h = ap Class ((unsigned_Decides a b).0 h)
equal (FieldRef a b) (FieldRef c d) h =
    let p = (unsigned_Decides a c).0 (first_so _ _ h) in let q = (unsigned_Decides b d).0 (second_so (a == c) _ h) in λ i. FieldRef (p i) (q i)
equal (MethodRef a b) (MethodRef c d) h =
    let p = (unsigned_Decides a c).0 (first_so _ _ h) in let q = (unsigned_Decides b d).0 (second_so (a == c) _ h) in λ i. MethodRef (p i) (q i)
equal (InterfaceMethodRef a b) (InterfaceMethodRef c d) h =
    let p = (unsigned_Decides a c).0 (first_so _ _ h) in let q = (unsigned_Decides b d).0 (second_so (a == c) _ h) in λ i. InterfaceMethodRef (p i) (q i)
equal (NameAndType a b) (NameAndType c d) h =
    let p = (unsigned_Decides a c).0 (first_so _ _ h) in let q = (unsigned_Decides b d).0 (second_so (a == c) _ h) in λ i. NameAndType (p i) (q i)
equal a b h = absurd cc
