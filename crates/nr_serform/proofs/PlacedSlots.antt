-- Slots with their places, one by one, and those of one sort.
use Rattle.std.proofs.Common.{◌≡◌, ℕ, zero, suc, ◌+◌, ◌<◌, Bool, true, false, not, ◌&&◌, cond, List, [], ◌∷◌, ◌++◌, length, map, get_or, take, refl, sym, ap, ◌∙◌, add-one, append-nil, arith}
use Rattle.std.specs.Prelude.{◌==◌}
use Rattle.std.specs.List.{filter, flat_map}
use Rattle.std.proofs.lemmas.Grind.{flat_map-append}
use Rattle.std.proofs.lemmas.List.{map-append}
use Rattle.nr_linked.specs.declared.program.tables.SlotInfo.{SlotInfo}
use Rattle.nr_linked.specs.declared.program.tables.ProgramTables.{ProgramTables}
use Rattle.nr_linked.specs.Slots.{slots_of}
use Rattle.nr_graph.specs.Sorted.{sorted}
use Rattle.nr_graph.specs.StreamOrder.{Placed, declared_slots, holds_reference, is_before, placed}
use Rattle.nr_serform.specs.StreamSlots.{is_of_sort, placed_of, slot_part, slots_declared, slots_of_sort}
use Rattle.nr_serform.specs.declared.order.StreamSlot.{StreamSlot}
use Rattle.nr_serform.specs.declared.members.Member.{Member}
use Rattle.nr_serform.specs.Members.{part_of}

-- one slot more
placed_more : (b i : ℕ) (ss : List SlotInfo) (s : SlotInfo) → i < length ss → placed b (take (suc i) ss) ≡ placed b (take i ss) ++ (b + i, get_or ss i s) ∷ []
placed_more b i [] s l = absurd (omega arith)
placed_more b zero (t ∷ ss) s l = let e : b ≡ b + 0 = omega arith in λ i. (e i, t) ∷ []
placed_more b (suc i) (t ∷ ss) s l =
    let e : suc b + i ≡ b + suc i = omega arith in
    ap (λ zs. (b, t) ∷ zs) (placed_more (suc b) i ss s (omega arith) ∙ ap (λ n. placed (suc b) (take i ss) ++ (n, get_or ss i s) ∷ []) e)

filter_both : (p : Placed → Bool) (xs ys : List Placed) → filter p (xs ++ ys) ≡ filter p xs ++ filter p ys
filter_both p [] ys = refl
filter_both p (x ∷ xs) ys = by (p x) (filter_both p xs ys)
  where
    by : (b : Bool) → filter p (xs ++ ys) ≡ filter p xs ++ filter p ys
        → cond b (x ∷ filter p (xs ++ ys)) (filter p (xs ++ ys)) ≡ cond b (x ∷ filter p xs) (filter p xs) ++ filter p ys
    by true e = ap (λ zs. x ∷ zs) e
    by false e = e

pub sort_more : (d : ℕ) (references : Bool) (i : ℕ) (ss : List SlotInfo) (s : SlotInfo) → i < length ss
    → slots_of_sort (take (i + 1) ss) d references
    ≡ slots_of_sort (take i ss) d references ++ cond (is_of_sort d references (get_or ss i s)) ((i, get_or ss i s) ∷ []) []
sort_more d references i ss s l =
    let p : Placed → Bool = λ a. is_of_sort d references a.1 in
    let z : 0 + i ≡ i = omega arith in
    ap (λ n. filter p (placed 0 (take n ss))) (add-one i) ∙ ap (filter p) (placed_more 0 i ss s l)
    ∙ filter_both p (placed 0 (take i ss)) ((0 + i, get_or ss i s) ∷ [])
    ∙ ap (λ n. filter p (placed 0 (take i ss)) ++ filter p ((n, get_or ss i s) ∷ [])) z

-- the slot at place i is wanted, and m is its member
pub sort_kept : (d : ℕ) (references : Bool) (i : ℕ) (ss : List SlotInfo) (s : SlotInfo) (m : Member) (ms more : List Member) → i < length ss → s ≡ get_or ss i s
    → is_of_sort d references s ≡ true → part_of m ≡ slot_part (i, s) → more ≡ ms ++ m ∷ []
    → map part_of ms ≡ map slot_part (slots_of_sort (take i ss) d references) → map part_of more ≡ map slot_part (slots_of_sort (take (i + 1) ss) d references)
sort_kept d references i ss s m ms more l at wanted part pushed so_far =
    ap (map part_of) pushed ∙ map-append part_of ms (m ∷ []) ∙ (λ j. so_far j ++ part j ∷ [])
    ∙ sym (map-append slot_part (slots_of_sort (take i ss) d references) ((i, s) ∷ []))
    ∙ ap (λ zs. map slot_part (slots_of_sort (take i ss) d references ++ zs)) (sym (ap (λ b. cond b ((i, s) ∷ []) []) wanted) ∙ ap (λ t. cond (is_of_sort d references t) ((i, t) ∷ []) []) at)
    ∙ sym (ap (map slot_part) (sort_more d references i ss s l))

-- it isn't wanted
pub sort_left : (d : ℕ) (references : Bool) (i : ℕ) (ss : List SlotInfo) (s : SlotInfo) (ms more : List Member) → i < length ss → s ≡ get_or ss i s
    → is_of_sort d references s ≡ false → more ≡ ms
    → map part_of ms ≡ map slot_part (slots_of_sort (take i ss) d references) → map part_of more ≡ map slot_part (slots_of_sort (take (i + 1) ss) d references)
sort_left d references i ss s ms more l at unwanted same so_far =
    ap (map part_of) same ∙ so_far
    ∙ sym (ap (map slot_part) (sort_more d references i ss s l
    ∙ ap (λ t. slots_of_sort (take i ss) d references ++ cond (is_of_sort d references t) ((i, t) ∷ []) []) (sym at)
    ∙ ap (λ b. slots_of_sort (take i ss) d references ++ cond b ((i, s) ∷ []) []) unwanted ∙ append-nil (slots_of_sort (take i ss) d references)))

-- ---- what a class declares

filter_twice : (p q r : Placed → Bool) → ((a : Placed) → r a ≡ (p a && q a)) → (xs : List Placed) → filter q (filter p xs) ≡ filter r xs
filter_twice p q r e [] = refl
filter_twice p q r e (x ∷ xs) = by (filter_twice p q r e xs) (p x) (q x) (r x) refl refl (e x)
  where
    by : filter q (filter p xs) ≡ filter r xs → (a b c : Bool) → p x ≡ a → q x ≡ b → c ≡ (p x && q x)
        → filter q (cond a (x ∷ filter p xs) (filter p xs)) ≡ cond c (x ∷ filter r xs) (filter r xs)
    by others true b c f g h =
        ap (λ t. cond t (x ∷ filter q (filter p xs)) (filter q (filter p xs))) (sym (h ∙ λ i. f i && q x)) ∙ ap (λ zs. cond c (x ∷ zs) zs) others
    by others false b c f g h = others ∙ ap (λ t. cond t (x ∷ filter r xs) (filter r xs)) (sym (h ∙ λ i. f i && q x))

pub declared_is : (P : ProgramTables) (c d : ℕ) → declared_slots P c d ≡ slots_declared (slots_of P c) d
declared_is P c d =
    let own : Placed → Bool = λ a. a.1.declared_in == d in
    let xs = placed 0 (slots_of P c) in
    λ i. sorted is_before (filter_twice own (λ a. not (holds_reference a)) (λ a. is_of_sort d false a.1) (λ a. refl) xs i)
    ++ sorted is_before (filter_twice own holds_reference (λ a. is_of_sort d true a.1) (λ a. refl) xs i)

-- what a class declares comes next
pub declared_more : (P : ProgramTables) (c d : ℕ) (ss : List SlotInfo) (ds : List ℕ) (had more : List Placed) → ss ≡ slots_of P c
    → more ≡ had ++ slots_declared ss d → had ≡ flat_map (declared_slots P c) ds → more ≡ flat_map (declared_slots P c) (ds ++ d ∷ [])
declared_more P c d ss ds had more of pushed so_far =
    pushed ∙ (λ i. so_far i ++ slots_declared (of i) d) ∙ ap (λ zs. flat_map (declared_slots P c) ds ++ zs) (sym (declared_is P c d) ∙ sym (append-nil (declared_slots P c d)))
    ∙ sym (flat_map-append (declared_slots P c) ds (d ∷ []))

pub declared_first : (P : ProgramTables) (c d : ℕ) (ss : List SlotInfo) (had more : List Placed) → ss ≡ slots_of P c
    → had ≡ [] → more ≡ had ++ slots_declared ss d → more ≡ declared_slots P c d
declared_first P c d ss had more of none pushed = pushed ∙ (λ i. none i ++ slots_declared (of i) d) ∙ sym (declared_is P c d)

-- places alone
pub places_of : (slots : List StreamSlot) (all : List Placed) → map placed_of slots ≡ all → map (λ (s : StreamSlot). s.place) slots ≡ map (λ (a : Placed). a.0) all
places_of slots all e = twice slots ∙ ap (map (λ (a : Placed). a.0)) e
  where
    twice : (xs : List StreamSlot) → map (λ (s : StreamSlot). s.place) xs ≡ map (λ (a : Placed). a.0) (map placed_of xs)
    twice [] = refl
    twice (x ∷ xs) = ap (λ zs. x.place ∷ zs) (twice xs)
