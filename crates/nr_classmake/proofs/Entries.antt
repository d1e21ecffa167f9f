-- Each item's entry stands at its place in the pool.
use Rattle.std.proofs.Common.{◌≡◌, ℕ, suc, ◌+◌, Bool, true, false, cond, ◌||◌, List, [], ◌∷◌, ◌++◌, Some, refl, sym, ap, subst, ◌∙◌, arith, add-one}
use Rattle.std.specs.Prelude.{slice_get, Contains}
use Rattle.std.proofs.lemmas.List.Folds.{list_any_at}
use Rattle.nr_prog.specs.Pool.{entry_at}
use Rattle.nr_prog.specs.declared.pool.PoolEntry.{PoolEntry}
use Rattle.nr_classmake.specs.Places.{spread}
use Rattle.nr_classmake.specs.Items.{Item, Text, IntNumber, LongNumber, ClassNamed, NameWithType, FieldOf, MethodOf, InterfaceMethodOf, is_item, places_taken, place_of, entry_in, pool_of}
use Rattle.nr_classmake.proofs.Items.{one_item, itself, has, ahead, ahead_step}
use Rattle.nr_classmake.proofs.Pools.{laid}

first_entry : (items : List Item) (y : Item) (rest : List PoolEntry) → slice_get (spread (entry_in items y) ++ rest) 0 ≡ Some (entry_in items y)
unfolding entry_in
first_entry items (Text a) rest = refl
first_entry items (IntNumber a) rest = refl
first_entry items (LongNumber a) rest = refl
first_entry items (ClassNamed a) rest = refl
first_entry items (NameWithType a b) rest = refl
first_entry items (FieldOf a b c) rest = refl
first_entry items (MethodOf a b c) rest = refl
first_entry items (InterfaceMethodOf a b c) rest = refl

one_on : (e : PoolEntry) (rest : List PoolEntry) (n : ℕ) → slice_get (e ∷ rest) (1 + n) ≡ slice_get rest n
one_on e rest n = let is : 1 + n ≡ suc n = omega arith in ap (slice_get (e ∷ rest)) is

two_on : (d e : PoolEntry) (rest : List PoolEntry) (n : ℕ) → slice_get (d ∷ e ∷ rest) (2 + n) ≡ slice_get rest n
two_on d e rest n = let is : 2 + n ≡ suc (suc n) = omega arith in ap (slice_get (d ∷ e ∷ rest)) is

next_entry : (items : List Item) (y : Item) (rest : List PoolEntry) (n : ℕ) → slice_get (spread (entry_in items y) ++ rest) (places_taken y + n) ≡ slice_get rest n
unfolding entry_in
next_entry items (LongNumber a) rest n = two_on _ _ rest n
next_entry items (Text a) rest n = one_on _ rest n
next_entry items (IntNumber a) rest n = one_on _ rest n
next_entry items (ClassNamed a) rest n = one_on _ rest n
next_entry items (NameWithType a b) rest n = one_on _ rest n
next_entry items (FieldOf a b c) rest n = one_on _ rest n
next_entry items (MethodOf a b c) rest n = one_on _ rest n
next_entry items (InterfaceMethodOf a b c) rest n = one_on _ rest n

entry_if : (b : Bool) (items : List Item) (x y : Item) (rest : List PoolEntry) (n : ℕ) (there : Bool) → is_item x y ≡ b → (there ≡ true → slice_get rest n ≡ Some (entry_in items x))
    → (b || there) ≡ true → slice_get (spread (entry_in items y) ++ rest) (cond b 0 (places_taken y + n)) ≡ Some (entry_in items x)
entry_if true items x y rest n there is below h = first_entry items y rest ∙ ap (λ z. Some (entry_in items z)) (sym (one_item x y is))
entry_if false items x y rest n there is below h = next_entry items y rest n ∙ below h

laid_entry : (items : List Item) (x : Item) (xs : List Item) → has x xs ≡ true → slice_get (laid items xs) (ahead x xs) ≡ Some (entry_in items x)
laid_entry items x [] h = absurd cc
laid_entry items x (y ∷ xs) h =
    ap (slice_get (laid items (y ∷ xs))) (ahead_step x y xs) ∙ entry_if (is_item x y) items x y (laid items xs) (ahead x xs) (has x xs) refl (laid_entry items x xs) h

has_from : (x : Item) (items : List Item) → Contains items x → has x items ≡ true
has_from x items c = list_any_at (is_item x) items c.0 x c.1 (subst (λ z. is_item x z ≡ true) (sym c.2) (itself x))

pub entry_there : (items : List Item) (item : Item) → Contains items item → entry_at (pool_of items) (place_of item items) ≡ Some (entry_in items item)
unfolding pool_of place_of
entry_there items item c = ap (entry_at (laid items items)) (add-one (ahead item items)) ∙ laid_entry items item items (has_from item items c)
