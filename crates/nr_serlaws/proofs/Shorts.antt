-- The texts of the fields of a description are short.
use Rattle.std.proofs.Common.{◌≡◌, ℕ, zero, suc, ◌<◌, ◌^◌, Bool, true, false, not, List, [], ◌∷◌, ◌++◌, length, map, Option, Some, None, refl, arith, if◌then◌else◌}
use Rattle.std.specs.Prelude.{◌==◌}
use Rattle.std.specs.List.{All, AllByRecursion, filter}
use Rattle.std.specs.Option.{option_map_or}
use Rattle.nr_linked.specs.declared.program.kind.Base.{Base}
use Rattle.nr_linked.specs.declared.program.kind.Base.TheVariants as bases
use Rattle.nr_linked.specs.declared.program.kind.Kind.{Kind}
use Rattle.nr_linked.specs.declared.program.tables.ClassInfo.{ClassInfo}
use Rattle.nr_linked.specs.declared.program.tables.ProgramTables.{ProgramTables}
use Rattle.nr_linked.specs.declared.program.tables.SlotInfo.{SlotInfo}
use Rattle.nr_linked.specs.Facts.{ProgramFacts}
use Rattle.nr_linked.specs.Kinds.{class_in, is_array}
use Rattle.nr_linked.specs.Programs.{class_at}
use Rattle.nr_linked.specs.Slots.{slots_of}
use Rattle.nr_graph.specs.Sorted.{sorted}
use Rattle.nr_graph.specs.StreamOrder.{Placed, placed, is_before, holds_reference, declared_slots}
use Rattle.nr_graph.proofs.StreamPlaces.{all_filter, all_sorted}
use Rattle.nr_serform.specs.Descriptions.{described_fields, own_fields}
use Rattle.nr_serlaws.proofs.Fields.{IsShort}

abbrev Short : Placed → Type 0
Short a = IsShort a.1

placed_all : (i : ℕ) (ss : List SlotInfo) → AllByRecursion IsShort ss → AllByRecursion Short (placed i ss)
placed_all i [] a = tt
placed_all i (s ∷ ss) a = (a.0, placed_all (suc i) ss a.1)

all_both : (xs ys : List Placed) → AllByRecursion Short xs → AllByRecursion Short ys → AllByRecursion Short (xs ++ ys)
all_both [] ys a b = b
all_both (x ∷ xs) ys a b = (a.0, all_both xs ys a.1 b)

all_slots : (xs : List Placed) → AllByRecursion Short xs → AllByRecursion IsShort (map (λ a. a.1) xs)
all_slots [] a = tt
all_slots (x ∷ xs) a = (a.0, all_slots xs a.1)

declared_all : (P : ProgramTables) (c d : ℕ) → AllByRecursion IsShort (slots_of P c) → AllByRecursion Short (declared_slots P c d)
declared_all P c d a =
    let own = filter (λ (a : Placed). a.1.declared_in == d) (placed 0 (slots_of P c)) in
    let o = all_filter Short (λ (a : Placed). a.1.declared_in == d) (placed 0 (slots_of P c)) (placed_all 0 (slots_of P c) a) in
    all_both (sorted is_before (filter (λ a. not (holds_reference a)) own)) (sorted is_before (filter holds_reference own))
    (all_sorted Short is_before (filter (λ a. not (holds_reference a)) own) (all_filter Short (λ a. not (holds_reference a)) own o))
    (all_sorted Short is_before (filter holds_reference own) (all_filter Short holds_reference own o))

from_all : (ss : List SlotInfo) → All (λ s. length s.name < 2 ^ 16) ss → All (λ s. length s.desc < 2 ^ 16) ss → AllByRecursion IsShort ss
from_all [] a b = tt
from_all (s ∷ ss) a b = (record { name = a zero s (omega arith); desc = b zero s (omega arith) }, from_all ss (λ k d l. a (suc k) d (omega arith)) (λ k d l. b (suc k) d (omega arith)))

module _ (P : ProgramTables) (facts : ProgramFacts P) where
  class_short : (c : ℕ) → AllByRecursion IsShort (slots_of P c)
  class_short c = by (class_at P c) refl
    where
      by : (o : Option ClassInfo) → class_at P c ≡ o → AllByRecursion IsShort (option_map_or (λ e. e.slots) o [])
      by None is = tt
      by (Some e) is = let t = facts.classes c e is in from_all e.slots t.slot_names t.slot_descs

  pub fields_short : (kind : Kind) → AllByRecursion IsShort (described_fields P kind)
  unfolding described_fields
  fields_short kind = by (is_array kind) kind.base
    where
      by : (b : Bool) (base : Base) → AllByRecursion IsShort (if b then [] else option_map_or (own_fields P) (class_in base) [])
      by true base = tt
      by false (bases.Object c) = all_slots (declared_slots P c c) (declared_all P c c (class_short c))
      by false bases.Bool = tt
      by false bases.Byte = tt
      by false bases.Char = tt
      by false bases.Short = tt
      by false bases.Int = tt
      by false bases.Long = tt
