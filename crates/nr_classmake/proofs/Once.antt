-- Items that are added one after another, each once.
use Rattle.std.proofs.Common.{◌≡◌, Bool, true, false, cond, not, ◌&&◌, ◌||◌, List, [], ◌∷◌, ◌++◌, refl, sym, ap, subst, ◌∙◌, append_assoc}
use Rattle.std.specs.Prelude.{filter}
use Rattle.std.proofs.lemmas.List.{append-nil}
use Rattle.std.proofs.lemmas.List.Elements.{filter_agree}
use Rattle.std.proofs.lemmas.List.Folds.{list_any-append}
use Rattle.nr_classmake.specs.Items.{Item, is_item, once}
use Rattle.nr_classmake.proofs.Items.{one_item, itself, has}

-- the items with one more, where they haven't it
abbrev pub add : Item → List Item → List Item
add x items = cond (has x items) items (items ++ x ∷ [])

abbrev pub adds : List Item → List Item → List Item
adds items [] = items
adds items (x ∷ raw) = adds (add x items) raw

abbrev fresh : List Item → Item → Bool
fresh items y = not (has y items)

filter_if : (b : Bool) (p q : Item → Bool) (x : Item) (l m : List Item) → filter p l ≡ m → filter p (cond b (x ∷ l) l) ≡ cond (b && p x) (x ∷ m) m
filter_if true p q x l m e = ap (λ k. cond (p x) (x ∷ k) k) e
filter_if false p q x l m e = e

filter-filter : (p q : Item → Bool) (l : List Item) → filter p (filter q l) ≡ filter (λ y. q y && p y) l
filter-filter p q [] = refl
filter-filter p q (x ∷ l) = filter_if (q x) p q x (filter q l) (filter (λ y. q y && p y) l) (filter-filter p q l)

filter_all : (l : List Item) → filter (λ _. true) l ≡ l
filter_all [] = refl
filter_all (x ∷ l) = ap (λ k. x ∷ k) (filter_all l)

turn_if : (b c : Bool) (x y : Item) → is_item x y ≡ b → is_item y x ≡ c → b ≡ c
turn_if true true x y p q = refl
turn_if false false x y p q = refl
turn_if true false x y p q = sym (subst (λ z. is_item z x ≡ true) (one_item x y p) (itself x)) ∙ q
turn_if false true x y p q = sym p ∙ subst (λ z. is_item z y ≡ true) (one_item y x q) (itself y)

turned : (x y : Item) → is_item x y ≡ is_item y x
turned x y = turn_if (is_item x y) (is_item y x) x y refl refl

-- ---- what is new among the others of an item

old_if : (b : Bool) (x y : Item) (items : List Item) → is_item x y ≡ b → has x items ≡ true → fresh items y ≡ (not b && fresh items y)
old_if true x y items is h = ap not (subst (λ z. has z items ≡ true) (one_item x y is) h)
old_if false x y items is h = refl

new_if : (b c : Bool) → not (c || (b || false)) ≡ (not b && not c)
new_if true true = refl
new_if true false = refl
new_if false true = refl
new_if false false = refl

new_more : (x y : Item) (items : List Item) → fresh (items ++ x ∷ []) y ≡ (not (is_item x y) && fresh items y)
new_more x y items =
    ap not (list_any-append (is_item y) items (x ∷ [])) ∙ new_if (is_item y x) (has y items) ∙ ap (λ b. not b && fresh items y) (turned y x)

add_if : (b : Bool) (x : Item) (items l : List Item) → has x items ≡ b
    → cond b items (items ++ x ∷ []) ++ filter (fresh (cond b items (items ++ x ∷ []))) l
    ≡ items ++ filter (fresh items) (x ∷ filter (λ y. not (is_item x y)) l)
add_if true x items l h =
    ap (λ k. items ++ k) (filter_agree (fresh items) (λ y. not (is_item x y) && fresh items y) (λ y. old_if (is_item x y) x y items refl h) l
    ∙ sym (filter-filter (fresh items) (λ y. not (is_item x y)) l)
    ∙ ap (λ b. cond (not b) (x ∷ filter (fresh items) (filter (λ y. not (is_item x y)) l)) (filter (fresh items) (filter (λ y. not (is_item x y)) l))) (sym h))
add_if false x items l h =
    append_assoc items (x ∷ []) _
    ∙ ap (λ k. items ++ x ∷ k) (filter_agree (fresh (items ++ x ∷ [])) (λ y. not (is_item x y) && fresh items y) (λ y. new_more x y items) l
    ∙ sym (filter-filter (fresh items) (λ y. not (is_item x y)) l))
    ∙ ap (λ b. items ++ cond (not b) (x ∷ filter (fresh items) (filter (λ y. not (is_item x y)) l)) (filter (fresh items) (filter (λ y. not (is_item x y)) l))) (sym h)

-- adding leaves the items, and then those that are new
pub adds-append : (items raw : List Item) → adds items raw ≡ items ++ filter (fresh items) (once raw)
unfolding once
adds-append items [] = sym (append-nil items)
adds-append items (x ∷ raw) = adds-append (add x items) raw ∙ add_if (has x items) x items (once raw) refl

pub once_by_adds : (raw : List Item) → adds [] raw ≡ once raw
once_by_adds raw = adds-append [] raw ∙ filter_all (once raw)
