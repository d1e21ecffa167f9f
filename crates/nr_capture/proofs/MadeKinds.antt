-- A new object or array of a kind.
use Rattle.std.proofs.Common.{◌≡◌, ℕ, zero, suc, ◌+◌, ◌-◌, ◌<◌, length, refl, sym, subst, ◌∙◌, arith, replicate}
use Rattle.std.specs.Prelude.{T}
use Rattle.std.proofs.lemmas.List.{length-map, length-replicate}
use Rattle.nr_linked.specs.declared.program.kind.Base.{Base}
use Rattle.nr_linked.specs.declared.program.kind.Base.TheVariants as bases
use Rattle.nr_linked.specs.declared.program.kind.Kind.{Kind}
use Rattle.nr_linked.specs.declared.program.tables.ProgramTables.{ProgramTables}
use Rattle.nr_linked.specs.Kinds.{array_of, class_kind}
use Rattle.nr_linked.specs.Slots.{slots_of}
use Rattle.nr_linked.specs.Subtypes.{is_assignable}
use Rattle.nr_model.specs.Scripts.{plain}
use Rattle.nr_model.specs.Throws.{zero_of, zeros}
use Rattle.nr_model.specs.TypedHeaps.{Counts, IsObjectOf, TypedHeap}
use Rattle.nr_heap.specs.Contents.{Contents, HasMade, array_with, object_of}
use Rattle.nr_heap.proofs.Typed.{typed_array, typed_object}
use Rattle.nr_capture.specs.Making.{HasMadeOf}

pub object_long : (P : ProgramTables) (c : ℕ) → length (object_of P c).slots ≡ length (slots_of P c)
object_long P c = length-map (zeros P c) plain ∙ length-map (slots_of P c) (λ s. zero_of s.kind)

pub array_long : (e : Kind) (n : ℕ) → length (array_with e n).slots ≡ n
array_long e n = length-map (replicate n (zero_of e)) plain ∙ length-replicate n (zero_of e)

pub made_object : (P : ProgramTables) (old new : Contents) (name c n : ℕ) → TypedHeap P old.objects → IsObjectOf P c n → HasMade old new name (object_of P c)
    → HasMadeOf old new name (class_kind c) n × TypedHeap P new.objects
made_object P old new name c n typed is made = (
  record { object = object_of P c; made = made; of_kind = record { kind_is = refl; count = object_long P c ∙ sym is.count } },
  typed_object P old new name c typed is.makeable made,
)

pub made_array : (P : ProgramTables) (old new : Contents) (name : ℕ) (kind e : Kind) (n : ℕ) → TypedHeap P old.objects → T (is_assignable P kind kind) → kind ≡ array_of e → HasMade old new name (array_with e n)
    → HasMadeOf old new name kind n × TypedHeap P new.objects
made_array P old new name kind e n typed self is made = (
  record { object = array_with e n; made = made; of_kind = record { kind_is = sym is; count = array_long e n } },
  typed_array P old new name n e typed (subst (λ kind. T (is_assignable P kind kind)) is self) made,
)

-- ---- as code makes them

pub object_typed : (P Q : ProgramTables) (old new : Contents) (name : ℕ) (kind : Kind) (n c : ℕ) → TypedHeap P old.objects → Counts P kind n → kind.dims ≡ 0 → kind.base ≡ bases.Object c → Q ≡ P
    → HasMade old new name (object_of Q c) → TypedHeap P new.objects
object_typed P Q old new name kind n c typed counts dims base same made =
    let is : kind ≡ class_kind c = (λ i. record { dims = dims i; base = base i }) in
    let object : IsObjectOf P c n = subst (λ k. Counts P k n) is counts in
    typed_object P old new name c typed object.makeable (subst (λ Q. HasMade old new name (object_of Q c)) same made)

pub array_typed : (P : ProgramTables) (old new : Contents) (name : ℕ) (kind : Kind) (n : ℕ) → TypedHeap P old.objects → Counts P kind n → 0 < kind.dims
    → HasMade old new name (array_with (record { dims = kind.dims - 1; base = kind.base }) n) → TypedHeap P new.objects
array_typed P old new name kind n typed counts dims made =
    let is : kind.dims ≡ kind.dims - 1 + 1 = omega (arith, dims) in
    let same : kind ≡ array_of (record { dims = kind.dims - 1; base = kind.base }) = (λ i. record { dims = is i; base = kind.base }) in
    typed_array P old new name n (record { dims = kind.dims - 1; base = kind.base }) typed (subst (λ k. T (is_assignable P k k)) same (self kind.dims kind.base dims counts)) made
  where
    self : (d : ℕ) (base : Base) → 0 < d → Counts P (record { dims = d; base = base }) n → T (is_assignable P (record { dims = d; base = base }) (record { dims = d; base = base }))
    self zero base l c = absurd (omega arith)
    self (suc d) base l c = c
