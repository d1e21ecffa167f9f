-- Loops that look for the first of a list: what they look for from place i on is what the whole look-out finds.
use Rattle.std.proofs.Common.{◌≡◌, ℕ, ◌+◌, ◌<◌, ◌≤◌, Bool, true, false, cond, List, length, get_or, drop, Option, Some, None, sym, ap, ◌∙◌, add-one, drop-cons, refl}
use Rattle.std.specs.Option.{option_or}
use Rattle.std.proofs.lemmas.List.{drop_all}
use Rattle.nr_prog.specs.declared.pool.PoolEntry.{PoolEntry}
use Rattle.nr_classwrite.specs.declared.fault.WriteFault.{WriteFault}
use Rattle.nr_classwrite.specs.Names.{index_from}
use Rattle.nr_classwrite.specs.Faults.{first_fault}

-- ---- faults

one : {X : Type 0} (fault : X → Option WriteFault) (i : ℕ) (xs : List X) (d : X) → i < length xs
    → first_fault fault (drop i xs) ≡ option_or (fault (get_or xs i d)) (first_fault fault (drop (i + 1) xs))
unfolding first_fault
one fault i xs d lt = rw (drop-cons xs i d lt, add-one i) refl

-- the item has no fault
pub goes_on : {X : Type 0} (fault : X → Option WriteFault) (i : ℕ) (xs : List X) (d : X) (total : Option WriteFault) → i < length xs
    → fault (get_or xs i d) ≡ None → first_fault fault (drop i xs) ≡ total → first_fault fault (drop (i + 1) xs) ≡ total
goes_on fault i xs d total lt none so_far =
    sym (ap (λ o. option_or o (first_fault fault (drop (i + 1) xs))) none) ∙ sym (one fault i xs d lt) ∙ so_far

-- the item has one
pub stops : {X : Type 0} (fault : X → Option WriteFault) (i : ℕ) (xs : List X) (d : X) (total : Option WriteFault) (e : WriteFault) → i < length xs
    → fault (get_or xs i d) ≡ Some e → first_fault fault (drop i xs) ≡ total → total ≡ Some e
stops fault i xs d total e lt some so_far =
    sym so_far ∙ one fault i xs d lt ∙ ap (λ o. option_or o (first_fault fault (drop (i + 1) xs))) some

pub ends : {X : Type 0} (fault : X → Option WriteFault) (i : ℕ) (xs : List X) (total : Option WriteFault) → length xs ≤ i
    → first_fault fault (drop i xs) ≡ total → total ≡ None
unfolding first_fault
ends fault i xs total le so_far = sym so_far ∙ rw (drop_all i xs le) refl

-- ---- indices

next : (n : ℕ) (test : PoolEntry → Bool) (i : ℕ) (xs : List PoolEntry) (d : PoolEntry) → i < length xs
    → index_from n test (drop i xs) ≡ cond (test (get_or xs i d)) (Some n) (index_from (n + 1) test (drop (i + 1) xs))
unfolding index_from
next n test i xs d lt = rw (drop-cons xs i d lt, add-one i) refl

pub looks_on : (n : ℕ) (test : PoolEntry → Bool) (i : ℕ) (xs : List PoolEntry) (d : PoolEntry) (total : Option ℕ) → i < length xs
    → test (get_or xs i d) ≡ false → index_from n test (drop i xs) ≡ total → index_from (n + 1) test (drop (i + 1) xs) ≡ total
looks_on n test i xs d total lt not so_far =
    sym (ap (λ b. cond b (Some n) (index_from (n + 1) test (drop (i + 1) xs))) not) ∙ sym (next n test i xs d lt) ∙ so_far

pub is_there : (n : ℕ) (test : PoolEntry → Bool) (i : ℕ) (xs : List PoolEntry) (d : PoolEntry) (total : Option ℕ) → i < length xs
    → test (get_or xs i d) ≡ true → index_from n test (drop i xs) ≡ total → total ≡ Some n
is_there n test i xs d total lt it so_far =
    sym so_far ∙ next n test i xs d lt ∙ ap (λ b. cond b (Some n) (index_from (n + 1) test (drop (i + 1) xs))) it

pub is_nowhere : (n : ℕ) (test : PoolEntry → Bool) (i : ℕ) (xs : List PoolEntry) (total : Option ℕ) → length xs ≤ i
    → index_from n test (drop i xs) ≡ total → total ≡ None
unfolding index_from
is_nowhere n test i xs total le so_far = sym so_far ∙ rw (drop_all i xs le) refl
