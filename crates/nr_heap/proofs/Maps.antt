-- Reads and writes of the map of the objects.
use Rattle.std.proofs.Common.{◌≡◌, ◌≢◌, ℕ, zero, suc, ◌+◌, ◌<◌, List, [], ◌∷◌, ◌++◌, length, refl, sym, ap, subst, ◌∙◌, arith, add-zero}
use Rattle.std.specs.Prelude.{Some, None, slice_get, slice_set}
use Rattle.std.specs.Ordering.{nat_cmp}
use Rattle.std.proofs.lemmas.Cmp.{nat_cmp_total}
use Rattle.std.proofs.Math.Decide.{ℕ_discrete}
use Rattle.std.specs.FinMap.{get, insert, find, get-from_entries, same_map, nat_cmp-IsAntisymmetric}
use Rattle.std.proofs.lemmas.Option.{slice_get_past}
use Rattle.nr_model.specs.Heaps.{Obj, Heap}
use Rattle.nr_model.proofs.Heaps.{eq_self, not_equal, get_same, get_other}
use Rattle.nr_heap.specs.Arenas.{numbered, map_of, map_of_is}

find_numbered : (os : List Obj) (k i : ℕ) → find nat_cmp (k + i) (numbered k os) ≡ slice_get os i
find_numbered [] k i = refl
find_numbered (o ∷ os) k zero = rw (add-zero, eq_self)
find_numbered (o ∷ os) k (suc i) =
    rw (not_equal (k + suc i) k _ refl (λ e. absurd (omega arith))) (subst (λ n. find nat_cmp n (numbered (suc k) os) ≡ slice_get os i) (omega arith) (find_numbered os (suc k) i))

pub get-map_of : (os : List Obj) (i : ℕ) → get (map_of os) i ≡ slice_get os i
get-map_of os i = rw map_of_is (get-from_entries nat_cmp_total (numbered 0 os) i ∙ subst (λ n. find nat_cmp n (numbered 0 os) ≡ slice_get os i) (omega arith) (find_numbered os 0 i))

pub slice_get-set : {X : Type 0} (os : List X) (i : ℕ) (o : X) → i < length os → slice_get (slice_set os i o) i ≡ Some o
slice_get-set [] i o l = absurd (omega arith)
slice_get-set (p ∷ os) zero o l = refl
slice_get-set (p ∷ os) (suc i) o l = slice_get-set os i o (omega arith)

pub slice_get-set_other : {X : Type 0} (os : List X) (i j : ℕ) (o : X) → j ≢ i → slice_get (slice_set os i o) j ≡ slice_get os j
slice_get-set_other [] i j o n = refl
slice_get-set_other (p ∷ os) zero zero o n = absurd (n refl)
slice_get-set_other (p ∷ os) zero (suc j) o n = refl
slice_get-set_other (p ∷ os) (suc i) zero o n = refl
slice_get-set_other (p ∷ os) (suc i) (suc j) o n = slice_get-set_other os i j o (λ e. n (ap suc e))

slice_get-push : (os : List Obj) (o : Obj) → slice_get (os ++ o ∷ []) (length os) ≡ Some o
slice_get-push [] o = refl
slice_get-push (p ∷ os) o = slice_get-push os o

slice_get-push_other : (os : List Obj) (j : ℕ) (o : Obj) → j ≢ length os → slice_get (os ++ o ∷ []) j ≡ slice_get os j
slice_get-push_other [] zero o n = absurd (n refl)
slice_get-push_other [] (suc j) o n = refl
slice_get-push_other (p ∷ os) zero o n = refl
slice_get-push_other (p ∷ os) (suc j) o n = slice_get-push_other os j o (λ e. n (ap suc e))

pub same_heap : (h k : Heap) → ((q : ℕ) → get h q ≡ get k q) → h ≡ k
same_heap h k e = same_map nat_cmp_total nat_cmp-IsAntisymmetric h k e

pub map_of_set : (os : List Obj) (i : ℕ) (o : Obj) → i < length os → map_of (slice_set os i o) ≡ insert (map_of os) i o
map_of_set os i o l = same_heap _ _ (λ q. go q (ℕ_discrete q i))
  where
    go : (q : ℕ) → Dec (q ≡ i) → get (map_of (slice_set os i o)) q ≡ get (insert (map_of os) i o) q
    go q (yes e) = rw (get-map_of, e) (slice_get-set os i o l ∙ sym (get_same (map_of os) i o))
    go q (no n) = rw (get-map_of, get_other (map_of os) i q o n, get-map_of os q) (slice_get-set_other os i q o n)

pub map_of_push : (os : List Obj) (o : Obj) → map_of (os ++ o ∷ []) ≡ insert (map_of os) (length os) o
map_of_push os o = same_heap _ _ (λ q. go q (ℕ_discrete q (length os)))
  where
    go : (q : ℕ) → Dec (q ≡ length os) → get (map_of (os ++ o ∷ [])) q ≡ get (insert (map_of os) (length os) o) q
    go q (yes e) = rw (get-map_of, e) (slice_get-push os o ∙ sym (get_same (map_of os) (length os) o))
    go q (no n) = rw (get-map_of, get_other (map_of os) (length os) q o n, get-map_of os q) (slice_get-push_other os q o n)

pub map_of_fresh : (os : List Obj) → get (map_of os) (length os) ≡ None
map_of_fresh os = get-map_of os _ ∙ slice_get_past os _ (omega arith)
