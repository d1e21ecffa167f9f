-- Numbers that are spelled are read.
use Rattle.std.proofs.Common.{◌≡◌, ℕ, ◌<◌, ◌^◌, false, List, is_some, refl, sym, ap, ◌∙◌, append-nil, arith}
use Rattle.std.specs.Prelude.{ℤ, pos}
use mir.Val.{bits}
use Rattle.std.specs.Int.{Width, w8, w16, w32, w64, cast_signed, cast_unsigned, to_be_bytes}
use Rattle.std.specs.Int.RustNames.{FitsSigned}
use Rattle.std.proofs.Math.Facts.{Fits-of_z}
use Rattle.std.proofs.lemmas.Bool.{le-leb}
use Rattle.std.proofs.lemmas.Int.{to_z-of_z}
use Rattle.nr_linked.specs.declared.program.kind.Base.{Base}
use Rattle.nr_linked.specs.declared.program.kind.Base.TheVariants as bases
use Rattle.nr_linked.specs.Kinds.{class_in}
use Rattle.nr_graph.specs.declared.graph.Slot.{Slot}
use Rattle.nr_graph.specs.declared.graph.Slot.TheVariants.{Int, Long}
use Rattle.nr_graph.specs.Fitting.{IsNumber}
use Rattle.nr_serform.specs.Spelling.{IsNumberText}
use Rattle.nr_serread.specs.Reading.{number_at}
use Rattle.nr_serlaws.proofs.Items.{one_law, two_law, four_law, eight_law}
use Rattle.nr_serlaws.proofs.Numbers.{small_is}
use Rattle.nr_serlaws.proofs.Gives.{Gives, gives_bind, gives_from, gives_pure, gives_reads, gives_text, gives_true, gives_value}

bits_fit : (w : Width) (n : ℤ) → FitsSigned w n → cast_unsigned w n < 2 ^ bits w
bits_fit w n f = (Fits-of_z f).fits

pub number_gives : (base : Base) (x : Slot) (own : List ℕ) → is_some (class_in base) ≡ false → IsNumberText base x own → IsNumber base x → Gives (number_at base) x own
unfolding number_at
number_gives bases.Bool (Int n) own e t f =
    let b = f.0.0 in
    let same : n ≡ pos b = f.0.1 in
    let few : b < 2 = f.0.2 in
    let text : own ≡ to_be_bytes w8 b = t ∙ ap (λ z. to_be_bytes w8 (cast_unsigned w8 z)) same in
    gives_text (append-nil (to_be_bytes w8 b) ∙ sym text) (gives_value (ap Int (small_is b (omega (arith, few)) ∙ sym same))
    (gives_from (λ at. gives_bind {x = b} {front = to_be_bytes w8 b} _ (gives_reads one_law (omega (arith, few), refl)) (gives_true _ (le-leb b 1 (omega (arith, few))) (gives_pure (Int (cast_signed w32 b)))))))
number_gives bases.Bool x own e t f = absurd f
number_gives bases.Byte (Int n) own e t f =
    let l = bits_fit w8 n f.0 in
    gives_text (append-nil (to_be_bytes w8 (cast_unsigned w8 n)) ∙ sym t) (gives_value (ap Int (to_z-of_z w8 n f.0))
    (gives_bind {x = cast_unsigned w8 n} {front = to_be_bytes w8 (cast_unsigned w8 n)} _ (gives_reads one_law (omega (arith, l), refl)) (gives_pure (Int (cast_signed w8 (cast_unsigned w8 n))))))
number_gives bases.Byte x own e t f = absurd f
number_gives bases.Char (Int n) own e t f =
    let b = f.0.0 in
    let same : n ≡ pos b = f.0.1 in
    let few : b < 2 ^ 16 = f.0.2 in
    let text : own ≡ to_be_bytes w16 b = t ∙ ap (λ z. to_be_bytes w16 (cast_unsigned w16 z)) same in
    gives_text (append-nil (to_be_bytes w16 b) ∙ sym text) (gives_value (ap Int (small_is b few ∙ sym same))
    (gives_bind {x = b} {front = to_be_bytes w16 b} _ (gives_reads two_law (omega (arith, few), refl)) (gives_pure (Int (cast_signed w32 b)))))
number_gives bases.Char x own e t f = absurd f
number_gives bases.Short (Int n) own e t f =
    let l = bits_fit w16 n f.0 in
    gives_text (append-nil (to_be_bytes w16 (cast_unsigned w16 n)) ∙ sym t) (gives_value (ap Int (to_z-of_z w16 n f.0))
    (gives_bind {x = cast_unsigned w16 n} {front = to_be_bytes w16 (cast_unsigned w16 n)} _ (gives_reads two_law (omega (arith, l), refl)) (gives_pure (Int (cast_signed w16 (cast_unsigned w16 n))))))
number_gives bases.Short x own e t f = absurd f
number_gives bases.Int (Int n) own e t f =
    let l = bits_fit w32 n f.1 in
    gives_text (append-nil (to_be_bytes w32 (cast_unsigned w32 n)) ∙ sym t) (gives_value (ap Int (to_z-of_z w32 n f.1))
    (gives_bind {x = cast_unsigned w32 n} {front = to_be_bytes w32 (cast_unsigned w32 n)} _ (gives_reads four_law (omega (arith, l), refl)) (gives_pure (Int (cast_signed w32 (cast_unsigned w32 n))))))
number_gives bases.Int x own e t f = absurd f
number_gives bases.Long (Long n) own e t f =
    let l = bits_fit w64 n f in
    gives_text (append-nil (to_be_bytes w64 (cast_unsigned w64 n)) ∙ sym t) (gives_value (ap Long (to_z-of_z w64 n f))
    (gives_bind {x = cast_unsigned w64 n} {front = to_be_bytes w64 (cast_unsigned w64 n)} _ (gives_reads eight_law (omega (arith, l), refl)) (gives_pure (Long (cast_signed w64 (cast_unsigned w64 n))))))
number_gives bases.Long x own e t f = absurd f
number_gives (bases.Object c) x own e t f = absurd cc
