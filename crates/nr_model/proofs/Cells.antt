-- What a write and a new object do to the cells.
use Rattle.std.proofs.Common.{◌≡◌, ℕ, ◌+◌, ◌≤◌, List, [], ◌∷◌, length, refl, ap, ◌∙◌, arith, Bool, true, false, cond, T, Ordering}
use Rattle.std.specs.Prelude.{Option, Some, None, ◌&&◌}
use Rattle.std.specs.Ordering.{nat_cmp, is_eq, is_lt}
use Rattle.std.specs.declared.cmp.Ordering.TheVariants.{Less, Equal, Greater}
use Rattle.std.proofs.lemmas.Cmp.{nat_cmp_total}
use Rattle.std.specs.FinMap.{get, insert, find, put, is_sorted, entries, entries_sorted, entries-insert, get-entries}
use Rattle.std.specs.FinMap.Entries.{by_order, below_all}
use Rattle.nr_model.specs.Heaps.{Obj, Heap, cells_of, total_cells, cells}

pub first : (a b : Bool) → T (a && b) → T a
first true b p = tt
first false b p = p

pub second : (a b : Bool) → T (a && b) → T b
second true b p = p
second false b p = absurd p

pub less : (r : Ordering) → T (is_lt r) → r ≡ Less
less Less p = refl
less Equal p = absurd p
less Greater p = absurd p

-- a key below all keys is not found
find_below : (k : ℕ) (es : List (ℕ × Obj)) → T (below_all nat_cmp k es) → find nat_cmp k es ≡ None
find_below k [] h = refl
find_below k (e ∷ es) h = ap (λ r. cond (is_eq r) (Some e.1) (find nat_cmp k es)) (less _ (first _ _ h)) ∙ find_below k es (second _ _ h)

below_less : (x y : ℕ) (es : List (ℕ × Obj)) → nat_cmp x y ≡ Less → T (below_all nat_cmp y es) → T (below_all nat_cmp x es)
below_less x y [] p h = tt
below_less x y (e ∷ es) p h =
    let l : nat_cmp y e.0 ≡ Less = less _ (first (is_lt (nat_cmp y e.0)) _ h) in
    rw (nat_cmp_total.trans x y e.0 p l) (below_less x y es p (second (is_lt (nat_cmp y e.0)) _ h))

abbrev found : Option Obj → ℕ
found None = 0
found (Some o) = cells_of o

total_put : (k : ℕ) (v : Obj) (es : List (ℕ × Obj)) → T (is_sorted nat_cmp es) → total_cells (put nat_cmp k v es) + found (find nat_cmp k es) ≡ total_cells es + cells_of v
total_put k v [] h = omega arith
total_put k v (e ∷ es) h =
    elim (nat_cmp k e.0) as (λ r. nat_cmp k e.0 ≡ r → total_cells (by_order r ((k, v) ∷ e ∷ es) ((e.0, v) ∷ es) (e ∷ put nat_cmp k v es)) + found (cond (is_eq r) (Some e.1) (find nat_cmp k es)) ≡ cells_of e.1 + total_cells es + cells_of v) [
      | Less ↦ λ p. let n : find nat_cmp k es ≡ None = find_below k es (below_less k e.0 es p (first _ _ h)) in rw n (omega arith)
      | Equal ↦ λ p. omega arith
      | Greater ↦ λ p. omega (arith, total_put k v es (second _ _ h))
    ] refl

cells_insert : (h : Heap) (k : ℕ) (v : Obj) → cells (insert h k v) + found (get h k) ≡ cells h + cells_of v
cells_insert h k v = rw (entries-insert nat_cmp_total h k v, get-entries h k) (total_put k v (entries h) (entries_sorted h))

pub cells_insert_less : (h : Heap) (k : ℕ) (v : Obj) → cells (insert h k v) ≤ cells h + cells_of v
cells_insert_less h k v = let e = cells_insert h k v in omega (arith, e)

pub cells_new : (h : Heap) (k : ℕ) (v : Obj) → get h k ≡ None → cells (insert h k v) ≡ cells h + cells_of v
cells_new h k v n = let e = cells_insert h k v in let f : found (get h k) ≡ 0 = rw n refl in omega arith

pub cells_write : (h : Heap) (k : ℕ) (o v : Obj) → get h k ≡ Some o → length v.slots ≡ length o.slots → cells (insert h k v) ≡ cells h
cells_write h k o v n l = let e = cells_insert h k v in let f : found (get h k) ≡ cells_of o = rw n refl in omega arith
