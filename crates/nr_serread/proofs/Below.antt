-- The objects that have a handle are among the nodes.
use Rattle.std.proofs.Common.{◌≡◌, ◌≤◌, ◌<◌, ◌++◌, ◌||◌, ◌==◌, nat_eq, ℕ, suc, List, [], ◌∷◌, length, map, Bool, true, false, ◌+◌, refl, ap, subst, arith}
use Rattle.std.specs.List.{AllByRecursion, list_any}
use Rattle.std.proofs.lemmas.Bool.{ne_eqb}
use Rattle.nr_linked.specs.declared.program.kind.Kind.{Kind}
use Rattle.nr_serform.specs.Entries.{Entry, Class, Text, Object, is_same_entry}
use Rattle.nr_serform.specs.declared.order.StreamSlot.{StreamSlot}
use Rattle.nr_serform.specs.StreamSlots.{placed_of}
use Rattle.nr_serform.specs.Handles.{Table, has, objects}
use Rattle.nr_serread.specs.Working.{AreBelow}

pub none_yet : (n : ℕ) (table : Table) → AreBelow n table → has table (Object n) ≡ false
none_yet n [] b = refl
none_yet n (Class k ∷ t) b = none_yet n t b
none_yet n (Text a ∷ t) b = none_yet n t b
none_yet n (Object i ∷ t) b = rw (ne_eqb n i (λ e. omega (arith, b.0, e))) (none_yet n t b.1)

pub one_more : (n : ℕ) (table : Table) → AreBelow n table → AreBelow (suc n) (table ++ Object n ∷ [])
one_more n [] b = (omega arith, tt)
one_more n (Class k ∷ t) b = one_more n t b
one_more n (Text a ∷ t) b = one_more n t b
one_more n (Object i ∷ t) b = (omega (arith, b.0), one_more n t b.1)

pub with_class : (n : ℕ) (table : Table) (k : Kind) → AreBelow n table → AreBelow n (table ++ Class k ∷ [])
with_class n [] k b = tt
with_class n (Class l ∷ t) k b = with_class n t k b
with_class n (Text a ∷ t) k b = with_class n t k b
with_class n (Object i ∷ t) k b = (b.0, with_class n t k b.1)

pub with_text : (n : ℕ) (table : Table) (a : List ℕ) → AreBelow n table → AreBelow n (table ++ Text a ∷ [])
with_text n [] a b = tt
with_text n (Class l ∷ t) a b = with_text n t a b
with_text n (Text c ∷ t) a b = with_text n t a b
with_text n (Object i ∷ t) a b = (b.0, with_text n t a b.1)

pub opened_below : (n m : ℕ) (before after : Table) → m ≡ n + 1 → after ≡ before ++ Object n ∷ [] → AreBelow n before → AreBelow m after
opened_below n m before after em ea b = rw (em, ea) (subst (λ k. AreBelow k (before ++ Object n ∷ [])) one (one_more n before b))
  where
    one : suc n ≡ n + 1
    one = omega arith

pub as_many : (ss : List StreamSlot) → length (map (λ a. a.1.kind) (map placed_of ss)) ≡ length ss
as_many [] = refl
as_many (s ∷ ss) = ap suc (as_many ss)
