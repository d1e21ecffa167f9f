-- The slots of a class of objects or arrays, as a stream has them.
use Rattle.std.proofs.Common.{◌≡◌, ℕ, zero, suc, ◌+◌, ◌<◌, Bool, true, false, not, ◌&&◌, List, [], ◌∷◌, ◌++◌, length, map, replicate, Option, Some, None, refl, sym, ap, ◌∙◌, if◌then◌else◌, true≢false, arith}
use Rattle.std.specs.Prelude.{T, slice_get}
use Rattle.std.specs.Option.{option_and_then, option_map, option_map_or}
use Rattle.std.proofs.lemmas.Bool.{lt-ltb}
use Rattle.nr_prog.specs.Members.{has_flag, is_abstract}
use Rattle.nr_linked.specs.declared.program.kind.Base.{Base}
use Rattle.nr_linked.specs.declared.program.kind.Base.TheVariants as bases
use Rattle.nr_linked.specs.declared.program.kind.Kind.{Kind}
use Rattle.nr_linked.specs.declared.program.tables.ClassInfo.{ClassInfo}
use Rattle.nr_linked.specs.declared.program.tables.ProgramTables.{ProgramTables}
use Rattle.nr_linked.specs.Kinds.{class_in, class_kind, element_of, is_array}
use Rattle.nr_linked.specs.Linked.{Linked}
use Rattle.nr_linked.specs.Programs.{class_at}
use Rattle.nr_linked.specs.Sendable.{is_concrete, is_sendable}
use Rattle.nr_linked.specs.Subtypes.{is_assignable}
use Rattle.nr_linked.specs.TypingFacts.{is_makeable}
use Rattle.nr_model.specs.Heaps.{on_some}
use Rattle.nr_model.specs.TypedHeaps.{Counts}
use Rattle.nr_graph.specs.declared.graph.Slot.{Slot}
use Rattle.nr_graph.specs.declared.graph.Node.{Node}
use Rattle.nr_graph.specs.StreamOrder.{Placed, stream_kind, stream_slots}
use Rattle.nr_graph.proofs.StreamSlots.{stream_long}
use Rattle.nr_serform.specs.Spelling.{items_from, items_of}
use Rattle.nr_serform.specs.StreamSlots.{stream_kinds}
use Rattle.nr_serread.specs.Describing.{is_of_sort}
use Rattle.nr_serread.specs.Reading.{elements_due, slots_due}
use Rattle.nr_serlaws.proofs.Filling.{items}
use Rattle.nr_serlaws.proofs.Names.{Known}

-- these are the kinds of the slots of a new object or array, in the order of the stream
pub record AreSlots (P : ProgramTables) (kind : Kind) (ks : List Kind) : Type 0 where
  pub each : (i : ℕ) → i < length ks → stream_kind P kind i ≡ slice_get ks i
  pub counts : Counts P kind (length ks)

slice_get-map : {X Y : Type 0} (f : X → Y) (xs : List X) (i : ℕ) → slice_get (map f xs) i ≡ option_map f (slice_get xs i)
slice_get-map f [] i = refl
slice_get-map f (x ∷ xs) zero = refl
slice_get-map f (x ∷ xs) (suc i) = slice_get-map f xs i

length_map : {X Y : Type 0} (f : X → Y) (xs : List X) → length (map f xs) ≡ length xs
length_map f [] = refl
length_map f (x ∷ xs) = ap suc (length_map f xs)

pub length_replicate : {X : Type 0} (n : ℕ) (x : X) → length (replicate n x) ≡ n
length_replicate zero x = refl
length_replicate (suc n) x = ap suc (length_replicate n x)

replicate_at : {X : Type 0} (n : ℕ) (x : X) (i : ℕ) → i < n → slice_get (replicate n x) i ≡ Some x
replicate_at zero x i l = absurd (omega arith)
replicate_at (suc n) x zero l = refl
replicate_at (suc n) x (suc i) l = replicate_at n x i (omega arith)

both_true : (a b : Bool) → (a && b) ≡ true → (a ≡ true) × (b ≡ true)
both_true true b e = (refl, e)
both_true false b e = absurd (true≢false (sym e))

-- ---- objects

concrete_makes : (P : ProgramTables) (c : ℕ) → is_concrete P c ≡ true → T (is_makeable P c)
concrete_makes P c e = by (class_at P c) e
  where
    so : (a b : Bool) → (not a && not b) ≡ true → T (not b && not a)
    so true b e = absurd (true≢false (sym e))
    so false true e = absurd (true≢false (sym e))
    so false false e = tt

    by : (o : Option ClassInfo) → option_map_or (λ e. not (has_flag 0x0200 e.flags) && not (is_abstract e.flags)) o false ≡ true
        → T (option_map_or (λ e. not (is_abstract e.flags)) o false && not (option_map_or (λ e. has_flag 0x0200 e.flags) o false))
    by None e = absurd (true≢false (sym e))
    by (Some i) e = so (has_flag 0x0200 i.flags) (is_abstract i.flags) e

class_slots : (P : ProgramTables) → Linked P → (c : ℕ) → is_sendable P (class_kind c) ≡ true → AreSlots P (class_kind c) (stream_kinds P c)
class_slots P linked c e = record {
  each = λ i l. sym (slice_get-map (λ (a : Placed). a.1.kind) (stream_slots P c) i);
  counts = record {
    makeable = concrete_makes P c (both_true (is_concrete P c) _ e).0;
    count = length_map (λ (a : Placed). a.1.kind) (stream_slots P c) ∙ stream_long P linked c;
  };
}

-- an object's class
pub record IsObject (P : ProgramTables) (kind : Kind) : Type 0 where
  pub number : ℕ
  pub is : kind ≡ class_kind number
  pub slots : AreSlots P kind (stream_kinds P number)

pub object_slots : (P : ProgramTables) → Linked P → (kind : Kind) → is_of_sort P false kind ≡ true → IsObject P kind
object_slots P linked kind e = by kind.dims kind.base e
  where
    by : (d : ℕ) (b : Base) → is_of_sort P false (record { dims = d; base = b }) ≡ true → IsObject P (record { dims = d; base = b })
    by zero (bases.Object c) e = record { number = c; is = refl; slots = class_slots P linked c e }
    by zero bases.Bool e = absurd (true≢false (sym e))
    by zero bases.Byte e = absurd (true≢false (sym e))
    by zero bases.Char e = absurd (true≢false (sym e))
    by zero bases.Short e = absurd (true≢false (sym e))
    by zero bases.Int e = absurd (true≢false (sym e))
    by zero bases.Long e = absurd (true≢false (sym e))
    by (suc d) b e = absurd (true≢false (sym (sym (ap (λ a. not a && is_sendable P (record { dims = suc d; base = b })) (lt-ltb 0 (suc d) (omega arith))) ∙ e)))

-- ---- arrays

pub record IsArray (P : ProgramTables) (kind : Kind) : Type 0 where
  pub element : Kind
  pub is : element_of kind ≡ Some element
  pub slots : (size : ℕ) → AreSlots P kind (replicate size element)

pub array_slots : (P : ProgramTables) (kind : Kind) → is_array kind ≡ true → Known P kind → IsArray P kind
array_slots P kind e known = by kind.dims kind.base e known
  where
    true_is : (b : Bool) → b ≡ true → T b
    true_is true e = tt
    true_is false e = absurd (true≢false (sym e))

    by : (d : ℕ) (b : Base) → is_array (record { dims = d; base = b }) ≡ true → Known P (record { dims = d; base = b }) → IsArray P (record { dims = d; base = b })
    by zero b e known = absurd (true≢false (sym e))
    by (suc d) b e known =
        let element : Kind = record { dims = d; base = b } in
        record {
          element = element;
          is = refl;
          slots = λ size. record {
            each = λ i l. ap (λ a. if a then Some element else option_and_then (λ c. option_map (λ (a : Placed). a.1.kind) (slice_get (stream_slots P c) i)) (class_in b)) (lt-ltb 0 (suc d) (omega arith))
                ∙ sym (replicate_at size element i (omega (arith, l, length_replicate size element)));
            counts = true_is (is_assignable P (record { dims = suc d; base = b }) (record { dims = suc d; base = b })) (known.itself e);
          };
        }

due_elements : (i size : ℕ) (k : Kind) → replicate size (record { owner = Some i; kind = k }) ≡ slots_due i (replicate size k)
due_elements i zero k = refl
due_elements i (suc size) k = ap (λ z. record { owner = Some i; kind = k } ∷ z) (due_elements i size k)

pub elements_are : (i size : ℕ) (kind element : Kind) → element_of kind ≡ Some element → elements_due i kind size ≡ slots_due i (replicate size element)
elements_are i size kind element e = ap (λ o. option_map_or (λ k. replicate size (record { owner = Some i; kind = k })) o []) e ∙ due_elements i size element

-- ---- the items of a node

items_are_from : (P : ProgramTables) (n : Node) (ks : List Kind) (ss : List Slot) (j : ℕ) → length ss ≡ length ks → ((i : ℕ) → i < length ks → stream_kind P n.kind (j + i) ≡ slice_get ks i) → items_from P n j ss ≡ items ks ss
items_are_from P n [] [] j l each = refl
items_are_from P n [] (s ∷ ss) j l each = absurd (omega arith)
items_are_from P n (k ∷ ks) [] j l each = absurd (omega arith)
items_are_from P n (k ∷ ks) (s ∷ ss) j l each =
    let here : stream_kind P n.kind j ≡ Some k = ap (stream_kind P n.kind) (omega arith) ∙ each 0 (omega arith) in
    let rest = items_are_from P n ks ss (suc j) (omega arith) (λ i lt. ap (stream_kind P n.kind) (omega arith) ∙ each (suc i) (omega arith)) in
    ap (λ o. on_some o [] (λ kind. (kind, s) ∷ []) ++ items_from P n (suc j) ss) here ∙ ap (λ z. (k, s) ∷ z) rest

pub items_are : (P : ProgramTables) (kind : Kind) (ks : List Kind) (ss : List Slot) → length ss ≡ length ks → AreSlots P kind ks → items_of P (record { kind = kind; slots = ss }) ≡ items ks ss
unfolding items_of
items_are P kind ks ss l a = items_are_from P (record { kind = kind; slots = ss }) ks ss 0 l (λ i lt. ap (stream_kind P kind) (omega arith) ∙ a.each i lt)
