-- Numbers that are read are spelled so, and are numbers of their type.
use Rattle.std.proofs.Common.{◌≡◌, ℕ, ◌<◌, ◌≤◌, ◌^◌, false, List, [], ◌++◌, is_some, refl, sym, ap, subst, ◌∙◌, append-nil, nat_le, arith}
use Rattle.std.specs.Prelude.{ℤ, pos}
use mir.Val.{bits, hbits}
use Rattle.std.specs.Int.{Width, w8, w16, w32, w64, cast_signed, cast_unsigned, to_be_bytes}
use Rattle.std.specs.Int.RustNames.{FitsSigned}
use Rattle.std.proofs.lemmas.Bool.{leb-true}
use Rattle.std.proofs.Math.Facts.{sfits_to_z}
use Rattle.std.proofs.lemmas.Int.{of_z-to_z, to_z_pos}
use Rattle.nr_linked.specs.declared.program.kind.Base.{Base}
use Rattle.nr_linked.specs.declared.program.kind.Base.TheVariants as bases
use Rattle.nr_linked.specs.Kinds.{class_in}
use Rattle.nr_graph.specs.declared.graph.Slot.{Slot}
use Rattle.nr_graph.specs.declared.graph.Slot.TheVariants.{Int, Long}
use Rattle.nr_graph.specs.Fitting.{IsNumber}
use Rattle.nr_serform.specs.Spelling.{IsNumberText}
use Rattle.nr_serread.specs.Reading.{number_at}
use Rattle.nr_serlaws.proofs.Items.{one_law, two_law, four_law, eight_law}
use Rattle.nr_serlaws.proofs.Finds.{Finds, bind_finds, choose_finds, from_finds, never_finds, of_reads, pure_finds, refuse_never}

pub record IsRead (base : Base) (s : Slot) (text : List ℕ) : Type 0 where
  pub spelled : IsNumberText base s text
  pub fits : IsNumber base s

again_text : (w : Width) (n : ℕ) (front : List ℕ) → n < 2 ^ bits w → front ≡ to_be_bytes w n → front ++ [] ≡ to_be_bytes w (cast_unsigned w (cast_signed w n))
again_text w n front l e = append-nil front ∙ e ∙ ap (to_be_bytes w) (sym (of_z-to_z w n l))

signed_fits : (w : Width) (n : ℕ) → n < 2 ^ bits w → FitsSigned w (cast_signed w n)
signed_fits w n l = sfits_to_z (record { fits = l })

-- a number that is no sign's
pub small_is : (n : ℕ) → n < 2 ^ 16 → cast_signed w32 n ≡ pos n
small_is n l = to_z_pos w32 n (omega arith)

bool_read : (n : ℕ) (front : List ℕ) → n < 2 → front ≡ to_be_bytes w8 n → IsRead bases.Bool (Int (cast_signed w32 n)) (front ++ [])
bool_read n front l e =
    subst (λ z. IsRead bases.Bool (Int z) (front ++ [])) (sym (small_is n (omega arith)))
    (record { spelled = append-nil front ∙ e; fits = ((n, refl, l), record { sfits = omega arith }) })

char_read : (n : ℕ) (front : List ℕ) → n < 2 ^ 16 → front ≡ to_be_bytes w16 n → IsRead bases.Char (Int (cast_signed w32 n)) (front ++ [])
char_read n front l e =
    subst (λ z. IsRead bases.Char (Int z) (front ++ [])) (sym (small_is n l))
    (record { spelled = append-nil front ∙ e; fits = ((n, refl, l), record { sfits = omega arith }) })

narrow : (w : Width) (z : ℤ) → 2 ^ hbits w ≤ 2 ^ hbits w32 → FitsSigned w z → FitsSigned w32 z
narrow w z le f = record { sfits = omega (arith, le, f.sfits) }

pub number_finds : (base : Base) → is_some (class_in base) ≡ false → Finds (number_at base) (IsRead base)
unfolding number_at
number_finds bases.Bool e = from_finds (λ at. bind_finds (of_reads one_law) (λ n front g. choose_finds (nat_le n 1)
    (λ l. pure_finds (Int (cast_signed w32 n)) (bool_read n front (omega (arith, leb-true n 1 l)) g.1))
    (λ l. never_finds (refuse_never _))))
number_finds bases.Byte e = bind_finds (of_reads one_law) (λ n front g.
    let l : n < 2 ^ bits w8 = omega (arith, g.0) in let f = signed_fits w8 n l in
    pure_finds (Int (cast_signed w8 n)) (record { spelled = again_text w8 n front l g.1; fits = (f, narrow w8 (cast_signed w8 n) (omega arith) f) }))
number_finds bases.Char e = bind_finds (of_reads two_law) (λ n front g. pure_finds (Int (cast_signed w32 n)) (char_read n front (omega (arith, g.0)) g.1))
number_finds bases.Short e = bind_finds (of_reads two_law) (λ n front g.
    let l : n < 2 ^ bits w16 = omega (arith, g.0) in let f = signed_fits w16 n l in
    pure_finds (Int (cast_signed w16 n)) (record { spelled = again_text w16 n front l g.1; fits = (f, narrow w16 (cast_signed w16 n) (omega arith) f) }))
number_finds bases.Int e = bind_finds (of_reads four_law) (λ n front g.
    let l : n < 2 ^ bits w32 = omega (arith, g.0) in
    pure_finds (Int (cast_signed w32 n)) (record { spelled = again_text w32 n front l g.1; fits = (tt, signed_fits w32 n l) }))
number_finds bases.Long e = bind_finds (of_reads eight_law) (λ n front g.
    let l : n < 2 ^ bits w64 = omega (arith, g.0) in
    pure_finds (Long (cast_signed w64 n)) (record { spelled = again_text w64 n front l g.1; fits = signed_fits w64 n l }))
number_finds (bases.Object c) e = absurd cc
