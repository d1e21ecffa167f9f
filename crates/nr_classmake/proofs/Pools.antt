-- The pool of items, and the slots of their entries.
use Rattle.std.proofs.Common.{◌≡◌, ℕ, zero, suc, ◌+◌, Bool, true, false, cond, ◌&&◌, ◌||◌, List, [], ◌∷◌, ◌++◌, length, Option, Some, None, refl, sym, ap, ◌∙◌, arith, length-append}
use Rattle.std.specs.Prelude.{sum_by}
use Rattle.std.specs.List.{flat_map}
use Rattle.std.specs.Option.{option_map}
use Rattle.std.proofs.lemmas.List.{flat_map_more}
use Rattle.std.proofs.lemmas.List.Sums.{sum_by-cons}
use Rattle.nr_prog.specs.declared.pool.PoolEntry.{PoolEntry}
use Rattle.nr_prog.specs.declared.pool.PoolEntry.TheVariants.{Long, Class, FieldRef, MethodRef, InterfaceMethodRef, NameAndType, Unused}
use Rattle.nr_classmake.specs.Places.{is_same, slot_of, spread, with_entry}
use Rattle.nr_classmake.specs.Items.{Item, Text, IntNumber, LongNumber, ClassNamed, NameWithType, FieldOf, MethodOf, InterfaceMethodOf, is_item, places_taken, place_of, entry_in, pool_of}
use Rattle.nr_classmake.proofs.Items.{has, has_front, ahead, ahead_step, ahead_front, ahead_end, place_test}
use Rattle.nr_classmake.proofs.Once.{add}
use Rattle.nr_classmake.proofs.Steps.{is_added, is_there}

-- ---- what an item names is among the items

abbrev pub HasParts : List Item → Item → Type 0
HasParts items (ClassNamed name) = has (Text name) items ≡ true
HasParts items (NameWithType name desc) = (has (Text name) items ≡ true) × (has (Text desc) items ≡ true)
HasParts items (FieldOf class name desc) = (has (ClassNamed class) items ≡ true) × (has (NameWithType name desc) items ≡ true)
HasParts items (MethodOf class name desc) = (has (ClassNamed class) items ≡ true) × (has (NameWithType name desc) items ≡ true)
HasParts items (InterfaceMethodOf class name desc) = (has (ClassNamed class) items ≡ true) × (has (NameWithType name desc) items ≡ true)
HasParts items x = Unit {0}

abbrev EachHasParts : List Item → List Item → Type 0
EachHasParts items [] = Unit {0}
EachHasParts items (x ∷ xs) = HasParts items x × EachHasParts items xs

pub record IsClosed (items : List Item) : Type 0 where
  pub each : EachHasParts items items

pub parts_front : (items more : List Item) (x : Item) → HasParts items x → HasParts (items ++ more) x
parts_front items more (ClassNamed name) h = has_front (Text name) items more h
parts_front items more (NameWithType name desc) h = (has_front (Text name) items more h.0, has_front (Text desc) items more h.1)
parts_front items more (FieldOf class name desc) h = (has_front (ClassNamed class) items more h.0, has_front (NameWithType name desc) items more h.1)
parts_front items more (MethodOf class name desc) h = (has_front (ClassNamed class) items more h.0, has_front (NameWithType name desc) items more h.1)
parts_front items more (InterfaceMethodOf class name desc) h = (has_front (ClassNamed class) items more h.0, has_front (NameWithType name desc) items more h.1)
parts_front items more x h = tt

each_end : (items : List Item) (x : Item) (xs : List Item) → EachHasParts items xs → HasParts items x → EachHasParts (items ++ x ∷ []) (xs ++ x ∷ [])
each_end items x [] h p = (parts_front items (x ∷ []) x p, tt)
each_end items x (y ∷ xs) h p = (parts_front items (x ∷ []) y h.0, each_end items x xs h.1 p)

closed_if : (b : Bool) (items : List Item) (x : Item) → IsClosed items → HasParts items x → IsClosed (cond b items (items ++ x ∷ []))
closed_if true items x c p = c
closed_if false items x c p = record { each = each_end items x items c.each p }

pub closed_add : (items : List Item) (x : Item) → IsClosed items → HasParts items x → IsClosed (add x items)
closed_add items x = closed_if (has x items) items x

-- ---- places stay

pub place_front : (x : Item) (items more : List Item) → has x items ≡ true → place_of x (items ++ more) ≡ place_of x items
unfolding place_of
place_front x items more h = ap (λ n. n + 1) (ahead_front x items more h)

pub entry_front : (items more : List Item) (x : Item) → HasParts items x → entry_in (items ++ more) x ≡ entry_in items x
unfolding entry_in
entry_front items more (ClassNamed name) h = ap Class (place_front (Text name) items more h)
entry_front items more (NameWithType name desc) h =
    let p = place_front (Text name) items more h.0 in let q = place_front (Text desc) items more h.1 in λ i. NameAndType (p i) (q i)
entry_front items more (FieldOf class name desc) h =
    let p = place_front (ClassNamed class) items more h.0 in let q = place_front (NameWithType name desc) items more h.1 in λ i. FieldRef (p i) (q i)
entry_front items more (MethodOf class name desc) h =
    let p = place_front (ClassNamed class) items more h.0 in let q = place_front (NameWithType name desc) items more h.1 in λ i. MethodRef (p i) (q i)
entry_front items more (InterfaceMethodOf class name desc) h =
    let p = place_front (ClassNamed class) items more h.0 in let q = place_front (NameWithType name desc) items more h.1 in λ i. InterfaceMethodRef (p i) (q i)
entry_front items more x h = refl

-- ---- entries are told apart as items are

both : (a b c d : Bool) → a ≡ c → b ≡ d → (a && b) ≡ (c && d)
both a b c d p q = λ i. p i && q i

pub same_entry : (items : List Item) (x y : Item) → HasParts items x → HasParts items y → is_same (entry_in items x) (entry_in items y) ≡ is_item x y
unfolding entry_in
same_entry items (Text a) (Text b) p q = refl
same_entry items (IntNumber a) (IntNumber b) p q = refl
same_entry items (LongNumber a) (LongNumber b) p q = refl
same_entry items (ClassNamed a) (ClassNamed b) p q = place_test (Text a) (Text b) items p q
same_entry items (NameWithType a b) (NameWithType c d) p q = both _ _ _ _ (place_test (Text a) (Text c) items p.0 q.0) (place_test (Text b) (Text d) items p.1 q.1)
same_entry items (FieldOf a b c) (FieldOf d e f) p q = both _ _ _ _ (place_test (ClassNamed a) (ClassNamed d) items p.0 q.0) (place_test (NameWithType b c) (NameWithType e f) items p.1 q.1)
same_entry items (MethodOf a b c) (MethodOf d e f) p q = both _ _ _ _ (place_test (ClassNamed a) (ClassNamed d) items p.0 q.0) (place_test (NameWithType b c) (NameWithType e f) items p.1 q.1)
same_entry items (InterfaceMethodOf a b c) (InterfaceMethodOf d e f) p q = both _ _ _ _ (place_test (ClassNamed a) (ClassNamed d) items p.0 q.0) (place_test (NameWithType b c) (NameWithType e f) items p.1 q.1)
same_entry items x y p q = refl

never_unused : (items : List Item) (x : Item) → is_same (entry_in items x) Unused ≡ false
unfolding entry_in
never_unused items (Text a) = refl
never_unused items (IntNumber a) = refl
never_unused items (LongNumber a) = refl
never_unused items (ClassNamed a) = refl
never_unused items (NameWithType a b) = refl
never_unused items (FieldOf a b c) = refl
never_unused items (MethodOf a b c) = refl
never_unused items (InterfaceMethodOf a b c) = refl

-- ---- the entries of some items, where all stand as in the pool of others

abbrev pub laid : List Item → List Item → List PoolEntry
laid items xs = flat_map (λ x. spread (entry_in items x)) xs

one_more : (b : Bool) (o : Option ℕ) → cond b (Some zero) (option_map suc o) ≡ cond b (Some zero) (option_map (λ n. 1 + n) o)
one_more true o = refl
one_more false None = refl
one_more false (Some n) = ap Some (omega arith)

two_more : (b c : Bool) (o : Option ℕ) → c ≡ false → cond b (Some zero) (option_map suc (cond c (Some zero) (option_map suc o))) ≡ cond b (Some zero) (option_map (λ n. 2 + n) o)
two_more b true o never = absurd cc
two_more true false o never = refl
two_more false false None never = refl
two_more false false (Some n) never = ap Some (omega arith)

slot_step : (items : List Item) (e : PoolEntry) (y : Item) (rest : List PoolEntry) → is_same e Unused ≡ false
    → slot_of e (spread (entry_in items y) ++ rest) ≡ cond (is_same e (entry_in items y)) (Some zero) (option_map (λ n. places_taken y + n) (slot_of e rest))
unfolding entry_in slot_of
slot_step items e (LongNumber n) rest never = two_more (is_same e (Long n)) (is_same e Unused) (slot_of e rest) never
slot_step items e (Text a) rest never = one_more _ (slot_of e rest)
slot_step items e (IntNumber a) rest never = one_more _ (slot_of e rest)
slot_step items e (ClassNamed a) rest never = one_more _ (slot_of e rest)
slot_step items e (NameWithType a b) rest never = one_more _ (slot_of e rest)
slot_step items e (FieldOf a b c) rest never = one_more _ (slot_of e rest)
slot_step items e (MethodOf a b c) rest never = one_more _ (slot_of e rest)
slot_step items e (InterfaceMethodOf a b c) rest never = one_more _ (slot_of e rest)

slot_if : (n k : ℕ) (here there : Bool) → cond here (Some zero) (option_map (λ m. n + m) (cond there (Some k) None)) ≡ cond (here || there) (Some (cond here 0 (n + k))) None
slot_if n k true there = refl
slot_if n k false true = refl
slot_if n k false false = refl

-- an item's entry stands first where the item does
slot_at : (items : List Item) (x : Item) (xs : List Item) → HasParts items x → EachHasParts items xs → slot_of (entry_in items x) (laid items xs) ≡ cond (has x xs) (Some (ahead x xs)) None
unfolding slot_of
slot_at items x [] p each = refl
slot_at items x (y ∷ xs) p each =
    slot_step items (entry_in items x) y (laid items xs) (never_unused items x)
    ∙ ap (λ b. cond b (Some zero) (option_map (λ n. places_taken y + n) (slot_of (entry_in items x) (laid items xs)))) (same_entry items x y p each.0)
    ∙ ap (λ o. cond (is_item x y) (Some zero) (option_map (λ n. places_taken y + n) o)) (slot_at items x xs p each.1)
    ∙ slot_if (places_taken y) (ahead x xs) (is_item x y) (has x xs)
    ∙ ap (λ n. cond (has x (y ∷ xs)) (Some n) None) (sym (ahead_step x y xs))

spread_len : (items : List Item) (y : Item) → length (spread (entry_in items y)) ≡ places_taken y
unfolding entry_in
spread_len items (LongNumber n) = refl
spread_len items (Text a) = refl
spread_len items (IntNumber a) = refl
spread_len items (ClassNamed a) = refl
spread_len items (NameWithType a b) = refl
spread_len items (FieldOf a b c) = refl
spread_len items (MethodOf a b c) = refl
spread_len items (InterfaceMethodOf a b c) = refl

laid_len : (items xs : List Item) → length (laid items xs) ≡ sum_by places_taken xs
laid_len items [] = refl
laid_len items (y ∷ xs) =
    length-append (spread (entry_in items y)) (laid items xs) ∙ (λ i. spread_len items y i + laid_len items xs i) ∙ sym (sum_by-cons places_taken y xs)

laid_front : (items more xs : List Item) → EachHasParts items xs → laid (items ++ more) xs ≡ laid items xs
laid_front items more [] each = refl
laid_front items more (y ∷ xs) each = λ i. spread (entry_front items more y each.0 i) ++ laid_front items more xs each.1 i

-- ---- an entry that is placed

placed_if : (b : Bool) (items : List Item) (x : Item) → has x items ≡ b → IsClosed items → HasParts items x
    → with_entry (entry_in items x) (pool_of items) ≡ (pool_of (cond b items (items ++ x ∷ [])), place_of x (cond b items (items ++ x ∷ [])))
unfolding pool_of place_of
placed_if true items x h c p =
    is_there (entry_in items x) (pool_of items) (ahead x items) (slot_at items x items p c.each ∙ ap (λ b. cond b (Some (ahead x items)) None) h)
placed_if false items x h c p =
    let more = items ++ x ∷ [] in
    let kept : laid more items ≡ laid items items = laid_front items (x ∷ []) items c.each in
    let last : entry_in more x ≡ entry_in items x = entry_front items (x ∷ []) x p in
    let grown : laid items items ++ spread (entry_in items x) ≡ laid more more =
    sym (λ i. kept i ++ spread (last i)) ∙ flat_map_more (λ y. spread (entry_in more y)) [] items x in
    let place : length (laid items items) + 1 ≡ ahead x more + 1 = ap (λ n. n + 1) (laid_len items items ∙ sym (ahead_end x items h)) in
    is_added (entry_in items x) (pool_of items) (slot_at items x items p c.each ∙ ap (λ b. cond b (Some (ahead x items)) None) h) ∙ (λ i. (grown i, place i))

-- An item's entry is placed as the item is added.
pub placed_entry : (items : List Item) (x : Item) → IsClosed items → HasParts items x
    → with_entry (entry_in items x) (pool_of items) ≡ (pool_of (add x items), place_of x (add x items))
placed_entry items x = placed_if (has x items) items x refl
