-- Items and their places in a list.
use Rattle.std.proofs.Common.{◌≡◌, ℕ, suc, ◌+◌, ◌≤◌, Bool, true, false, cond, not, ◌&&◌, ◌||◌, List, [], ◌∷◌, ◌++◌, take, refl, sym, ap, subst, ◌∙◌, arith}
use Rattle.std.specs.Prelude.{sum_by, ◌==◌}
use Rattle.std.specs.List.{list_any, before_first, prefix_len}
use Rattle.std.specs.Str.{bytes_eq}
use Rattle.std.specs.Cmp.{unsigned_Decides, signed_Decides}
use Rattle.std.specs.Cmp.Lexicographic.{bytes_decides}
use Rattle.std.proofs.lemmas.Bool.{and_parts, and_from, or_left, or_right, both_ways, false_from_ne_true}
use Rattle.std.proofs.lemmas.List.Folds.{list_any-append}
use Rattle.std.proofs.lemmas.List.Sums.{sum_by-cons}
use Rattle.nr_classmake.specs.Items.{Item, Text, IntNumber, LongNumber, ClassNamed, NameWithType, FieldOf, MethodOf, InterfaceMethodOf, is_item, places_taken, place_of}

-- ---- items are told apart

three : (x y z : Bool) → (x && (y && z)) ≡ true → (x ≡ true) × (y ≡ true) × (z ≡ true)
three x y z h = let p = and_parts x (y && z) h in let q = and_parts y z p.1 in (p.0, q.0, q.1)

pub one_item : (x y : Item) → is_item x y ≡ true → x ≡ y
one_item (Text a) (Text b) h = ap Text ((bytes_decides a b).0 h)
one_item (IntNumber a) (IntNumber b) h = ap IntNumber ((signed_Decides a b).0 h)
one_item (LongNumber a) (LongNumber b) h = ap LongNumber ((signed_Decides a b).0 h)
one_item (ClassNamed a) (ClassNamed b) h = ap ClassNamed ((bytes_decides a b).0 h)
one_item (NameWithType a b) (NameWithType c d) h =
    let t = and_parts _ _ h in let p = (bytes_decides a c).0 t.0 in let q = (bytes_decides b d).0 t.1 in λ i. NameWithType (p i) (q i)
one_item (FieldOf a b c) (FieldOf d e f) h =
    let t = three _ _ _ h in let p = (bytes_decides a d).0 t.0 in let q = (bytes_decides b e).0 t.1 in let r = (bytes_decides c f).0 t.2 in λ i. FieldOf (p i) (q i) (r i)
one_item (MethodOf a b c) (MethodOf d e f) h =
    let t = three _ _ _ h in let p = (bytes_decides a d).0 t.0 in let q = (bytes_decides b e).0 t.1 in let r = (bytes_decides c f).0 t.2 in λ i. MethodOf (p i) (q i) (r i)
one_item (InterfaceMethodOf a b c) (InterfaceMethodOf d e f) h =
    let t = three _ _ _ h in let p = (bytes_decides a d).0 t.0 in let q = (bytes_decides b e).0 t.1 in let r = (bytes_decides c f).0 t.2 in λ i. InterfaceMethodOf (p i) (q i) (r i)
one_item a b h = absurd cc

one_text : (a : List ℕ) → bytes_eq a a ≡ true
one_text a = (bytes_decides a a).1 refl

three_texts : (a b c : List ℕ) → (bytes_eq a a && (bytes_eq b b && bytes_eq c c)) ≡ true
three_texts a b c = and_from _ _ (one_text a) (and_from _ _ (one_text b) (one_text c))

pub itself : (x : Item) → is_item x x ≡ true
itself (Text a) = one_text a
itself (IntNumber a) = (signed_Decides a a).1 refl
itself (LongNumber a) = (signed_Decides a a).1 refl
itself (ClassNamed a) = one_text a
itself (NameWithType a b) = and_from _ _ (one_text a) (one_text b)
itself (FieldOf a b c) = three_texts a b c
itself (MethodOf a b c) = three_texts a b c
itself (InterfaceMethodOf a b c) = three_texts a b c

-- ---- lists that have an item

abbrev pub has : Item → List Item → Bool
has x items = list_any (is_item x) items

pub has_front : (x : Item) (items more : List Item) → has x items ≡ true → has x (items ++ more) ≡ true
has_front x items more h = list_any-append (is_item x) items more ∙ or_left _ _ h

pub has_end : (x : Item) (items : List Item) → has x (items ++ x ∷ []) ≡ true
has_end x items = list_any-append (is_item x) items (x ∷ []) ∙ or_right (has x items) _ (or_left _ _ (itself x))

-- ---- places

-- the places that the items before an item take
abbrev pub ahead : Item → List Item → ℕ
ahead x items = sum_by places_taken (before_first (is_item x) items)

ahead_if : (b : Bool) (n : ℕ) (y : Item) (items : List Item) → sum_by places_taken (take (cond (not b) (1 + n) 0) (y ∷ items)) ≡ cond b 0 (places_taken y + sum_by places_taken (take n items))
ahead_if true n y items = refl
ahead_if false n y items =
    let e : 1 + n ≡ suc n = omega arith in
    ap (λ k. sum_by places_taken (take k (y ∷ items))) e ∙ sum_by-cons places_taken y (take n items)

pub ahead_step : (x y : Item) (items : List Item) → ahead x (y ∷ items) ≡ cond (is_item x y) 0 (places_taken y + ahead x items)
ahead_step x y items = ahead_if (is_item x y) (prefix_len (λ z. not (is_item x z)) items) y items

pub some_taken : (x : Item) → 1 ≤ places_taken x
some_taken (LongNumber n) = omega arith
some_taken x = omega arith

-- behind an item that it has, a list may go on
kept_if : (b : Bool) (n : ℕ) (here there : Bool) (k l : ℕ) → (there ≡ true → k ≡ l) → (here || there) ≡ true → cond here 0 (n + k) ≡ cond here 0 (n + l)
kept_if b n true there k l same h = refl
kept_if b n false there k l same h = ap (λ m. n + m) (same h)

pub ahead_front : (x : Item) (items more : List Item) → has x items ≡ true → ahead x (items ++ more) ≡ ahead x items
ahead_front x [] more h = absurd cc
ahead_front x (y ∷ items) more h =
    ahead_step x y (items ++ more) ∙ kept_if true (places_taken y) (is_item x y) (has x items) (ahead x (items ++ more)) (ahead x items) (ahead_front x items more) h ∙ sym (ahead_step x y items)

-- an item that a list hasn't would stand behind it
end_if : (n : ℕ) (here there : Bool) (k l : ℕ) → (there ≡ false → k ≡ l) → (here || there) ≡ false → cond here 0 (n + k) ≡ n + l
end_if n true there k l same h = absurd cc
end_if n false there k l same h = ap (λ m. n + m) (same h)

pub ahead_end : (x : Item) (items : List Item) → has x items ≡ false → ahead x (items ++ x ∷ []) ≡ sum_by places_taken items
ahead_end x [] h = ahead_step x x [] ∙ ap (λ b. cond b 0 (places_taken x + ahead x [])) (itself x)
ahead_end x (y ∷ items) h =
    ahead_step x y (items ++ x ∷ []) ∙ end_if (places_taken y) (is_item x y) (has x items) (ahead x (items ++ x ∷ [])) (sum_by places_taken items) (ahead_end x items) h ∙ sym (sum_by-cons places_taken y items)

-- ---- items at one place are one

apart_if : (n k l : ℕ) (here there a b : Bool) → 1 ≤ n → (here ≡ true → there ≡ true → ⊥) → (a ≡ true → b ≡ true → k ≡ l → ⊥)
    → (here || a) ≡ true → (there || b) ≡ true → cond here 0 (n + k) ≡ cond there 0 (n + l) → ⊥
apart_if n k l true true a b one both below p q e = both refl refl
apart_if n k l true false a b one both below p q e = omega arith
apart_if n k l false true a b one both below p q e = omega arith
apart_if n k l false false a b one both below p q e = below p q (omega arith)

apart : (x y : Item) (items : List Item) → is_item x y ≡ false → has x items ≡ true → has y items ≡ true → ahead x items ≡ ahead y items → ⊥
apart x y [] ne p q e = cc
apart x y (z ∷ items) ne p q e =
    apart_if (places_taken z) (ahead x items) (ahead y items) (is_item x z) (is_item y z) (has x items) (has y items) (some_taken z)
    (λ s t. both_ways (is_item x y) ne (subst (λ u. is_item x u ≡ true) (one_item x z s ∙ sym (one_item y z t)) (itself x)))
    (apart x y items ne) p q (sym (ahead_step x z items) ∙ e ∙ ahead_step y z items)

test_if : (x y : Item) (items : List Item) (b : Bool) → is_item x y ≡ b → has x items ≡ true → has y items ≡ true → (place_of x items == place_of y items) ≡ b
unfolding place_of
test_if x y items true is p q = (unsigned_Decides (place_of x items) (place_of y items)).1 (ap (λ z. place_of z items) (one_item x y is))
test_if x y items false is p q =
    false_from_ne_true _ (λ t. let e = (unsigned_Decides (place_of x items) (place_of y items)).0 t in apart x y items is p q (omega arith))

-- the test of two places is the test of the items
pub place_test : (x y : Item) (items : List Item) → has x items ≡ true → has y items ≡ true → (place_of x items == place_of y items) ≡ is_item x y
place_test x y items = test_if x y items (is_item x y) refl
