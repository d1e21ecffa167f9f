-- Slots behind members that were sorted.
use Rattle.std.proofs.Common.{◌≡◌, ℕ, zero, suc, ◌+◌, ◌<◌, List, [], ◌∷◌, ◌++◌, length, map, get_or, take, refl, sym, ap, ◌∙◌, add-one, append_assoc, arith, ◌≤◌}
use Rattle.std.proofs.lemmas.List.{length-map, map-append, take_all}
use Rattle.std.specs.Prelude.{Bool, Some, slice_get}
use Rattle.std.specs.List.{AllByRecursion}
use Rattle.nr_linked.specs.declared.program.tables.SlotInfo.{SlotInfo}
use Rattle.nr_model.proofs.Paths.{none_some, some_eq}
use Rattle.nr_graph.specs.Sorted.{sorted}
use Rattle.nr_graph.specs.StreamOrder.{Placed, is_before, placed}
use Rattle.nr_graph.proofs.StreamPlaces.{IsSlotOf, all_filter, all_get, all_sorted, placed_all}
use Rattle.nr_serform.specs.declared.members.Member.{Member}
use Rattle.nr_serform.specs.declared.order.StreamSlot.{StreamSlot}
use Rattle.nr_serform.specs.ClassNumbers.{Part, is_sooner}
use Rattle.nr_serform.specs.Members.{part_of}
use Rattle.nr_serform.specs.StreamSlots.{is_of_sort, placed_of, slot_part, slots_in_order, slots_of_sort}
use Rattle.nr_serform.proofs.SortedMembers.{map_sorted}

-- each is a slot at its place
all_slots : (ss : List SlotInfo) (d : ℕ) (references : Bool) → AllByRecursion (IsSlotOf ss) (slots_in_order ss d references)
all_slots ss d references =
    all_sorted (IsSlotOf ss) is_before (slots_of_sort ss d references)
    (all_filter (IsSlotOf ss) (λ (a : Placed). is_of_sort d references a.1) (placed 0 ss)
    (placed_all ss ss 0 (λ j s e. let m : 0 + j ≡ j = omega arith in ap (slice_get ss) m ∙ e)))

-- what stands beside the i-th of two lists that map alike
beside : (xs : List Placed) (ms : List Member) → map part_of ms ≡ map slot_part xs → (i : ℕ) (d : Member) → i < length ms
    → (a : Placed) × (slice_get xs i ≡ Some a) × (slot_part a ≡ part_of (get_or ms i d))
beside xs [] e i d l = absurd (omega arith)
beside [] (n ∷ ms) e i d l = absurd (cc)
beside (a ∷ xs) (n ∷ ms) e zero d l = let f : slot_part a ≡ part_of n = cc in (a, refl, f)
beside (a ∷ xs) (n ∷ ms) e (suc i) d l = let f : map part_of ms ≡ map slot_part xs = cc in beside xs ms f i d (omega arith)

one_more : {X : Type 0} (xs : List X) (i : ℕ) (a : X) → slice_get xs i ≡ Some a → take (suc i) xs ≡ take i xs ++ a ∷ []
one_more [] i a e = absurd (none_some e)
one_more (x ∷ xs) zero a e = λ j. some_eq e j ∷ []
one_more (x ∷ xs) (suc i) a e = ap (λ zs. x ∷ zs) (one_more xs i a e)

-- members of these slots, sorted
pub sorted_parts : (ss : List SlotInfo) (d : ℕ) (references : Bool) (ms more : List Member)
    → map part_of ms ≡ map slot_part (slots_of_sort ss d references) → map part_of more ≡ sorted is_sooner (map part_of ms)
    → map part_of more ≡ map slot_part (slots_in_order ss d references)
sorted_parts ss d references ms more parts up =
    up ∙ ap (sorted is_sooner) parts ∙ sym (map_sorted slot_part is_sooner (slots_of_sort ss d references))

pub record AtMember (ss : List SlotInfo) (xs : List Placed) (i : ℕ) (m : Member) : Type 0 where
  pub slot : SlotInfo
  pub found : slice_get ss m.number ≡ Some slot
  pub more : take (i + 1) xs ≡ take i xs ++ (m.number, slot) ∷ []

-- what stands for a member that isn't there
abbrev pub no_member : Member
no_member = record { name = record { ref_ptr = (0, 0); now = [] }; desc = record { ref_ptr = (0, 0); now = [] }; number = 0 }

-- the slot of the i-th member
pub at_member : (ss : List SlotInfo) (d : ℕ) (references : Bool) (ms : List Member) → map part_of ms ≡ map slot_part (slots_in_order ss d references)
    → (i : ℕ) → i < length ms → AtMember ss (slots_in_order ss d references) i (get_or ms i no_member)
at_member ss d references ms parts i l =
    let xs = slots_in_order ss d references in
    let a = beside xs ms parts i no_member l in
    let n : a.0.0 ≡ (get_or ms i no_member).number = ap (λ (p : Part). p.flags) a.2 in
    record {
      slot = a.0.1;
      found = ap (slice_get ss) (sym n) ∙ all_get (IsSlotOf ss) xs i a.0 (all_slots ss d references) a.1;
      more = ap (λ k. take k xs) (add-one i) ∙ one_more xs i a.0 a.1 ∙ ap (λ k. take i xs ++ (k, a.0.1) ∷ []) n;
    }

within : (ss : List SlotInfo) (n : ℕ) (s : SlotInfo) → slice_get ss n ≡ Some s → n < length ss
within [] n s e = absurd (none_some e)
within (t ∷ ss) zero s e = omega arith
within (t ∷ ss) (suc n) s e = let l = within ss n s e in omega arith

pub member_within : (ss : List SlotInfo) (xs : List Placed) (i : ℕ) (m : Member) → AtMember ss xs i m → m.number < length ss
member_within ss xs i m a = within ss m.number a.slot a.found

found_is : (ss : List SlotInfo) (n : ℕ) (s t : SlotInfo) → slice_get ss n ≡ Some t → s ≡ get_or ss n s → s ≡ t
found_is [] n s t e at = absurd (none_some e)
found_is (x ∷ ss) zero s t e at = at ∙ some_eq e
found_is (x ∷ ss) (suc n) s t e at = found_is ss n s t e at

-- v, which is put at the end, is the member's slot s
pub slot_added : (ss : List SlotInfo) (xs front : List Placed) (i : ℕ) (m : Member) → AtMember ss xs i m → (s : SlotInfo) → s ≡ get_or ss m.number s
    → (v : StreamSlot) → placed_of v ≡ (m.number, s) → (had more : List StreamSlot) → more ≡ had ++ v ∷ []
    → map placed_of had ≡ front ++ take i xs → map placed_of more ≡ front ++ take (i + 1) xs
slot_added ss xs front i m a s at v is had more pushed so_far =
    ap (map placed_of) pushed ∙ map-append placed_of had (v ∷ []) ∙ (λ j. so_far j ++ is j ∷ [])
    ∙ append_assoc front (take i xs) ((m.number, s) ∷ [])
    ∙ ap (λ t. front ++ (take i xs ++ (m.number, t) ∷ [])) (found_is ss m.number s a.slot a.found at) ∙ ap (λ zs. front ++ zs) (sym a.more)

-- all were put
pub slots_added : (xs front : List Placed) (ms : List Member) (had : List StreamSlot) (i : ℕ) → map part_of ms ≡ map slot_part xs → length ms ≤ i
    → map placed_of had ≡ front ++ take i xs → map placed_of had ≡ front ++ xs
slots_added xs front ms had i parts le so_far =
    let e : length ms ≡ length xs = sym (length-map ms part_of) ∙ ap length parts ∙ length-map xs slot_part in
    so_far ∙ ap (λ zs. front ++ zs) (take_all i xs (omega arith))
