-- The laws of runs and numbers.
use Rattle.std.proofs.Common.{◌≡◌, ℕ, ◌^◌, ◌<◌, ◌≤◌, false, ltb, List, [], ◌∷◌, ◌++◌, length, take, refl, sym, ap, subst, arith}
use Rattle.std.specs.Int.{Width, w8, w16, w32, w64, byte_len, from_be_bytes, to_be_bytes}
use Rattle.std.proofs.lemmas.Bool.{ltb-false, le-ltb}
use Rattle.std.proofs.lemmas.List.{take_at, drop_at, take-append-drop, length-append, length-take}
use Rattle.std.proofs.lemmas.Nat.{be_bytes_2, be_bytes_4, be_bytes_8, from_be_bytes-to_be_bytes_2, from_be_bytes-to_be_bytes_4, from_be_bytes-to_be_bytes_8}
use Rattle.nr_base.specs.Place.{Place, skip}
use Rattle.nr_base.specs.Bytes.{number_at, run_at, short_at}
use Rattle.nr_base.specs.Grammar.{IsBytes, number, run}
use Rattle.nr_base.proofs.Bytes.{IsBytes-drop, IsBytes-take}
use Rattle.nr_base.proofs.Laws.{Reads, guard_ok}

pub run_law : (n : ℕ) → Reads (run_at n) (run n)
run_law n = record {
  found = λ p q x fits e.
      let g = guard_ok (ltb (length p.rest) n) (short_at p) (take n p.rest, skip n p) (x, q) e in
      let long : n ≤ length p.rest = ltb-false _ _ g.0 in
      let x-is : take n p.rest ≡ x = ap (λ (a : List ℕ × Place). a.0) g.1 in
      let q-is : skip n p ≡ q = ap (λ (a : List ℕ × Place). a.1) g.1 in
      record {
        text = x;
        spelled = (rw (← x-is) (omega (arith, length-take n p.rest)), refl);
        total = ap (λ (a : Place). a.total) q-is;
        rest = rw (← x-is, ← q-is) (sym (take-append-drop n p.rest));
        fits = subst (λ (a : Place). IsBytes a.rest) q-is (IsBytes-drop n p.rest fits);
      };
  only = λ x text rest total g.
      let long : ltb (length (x ++ rest)) n ≡ false = le-ltb _ _ (omega (arith, length-append x rest, g.0)) in
      rw (g.1, long, take_at x rest n g.0, drop_at x rest n g.0) refl;
}

-- what is known of the numbers of a width
pub record IsWide (w : Width) : Type 0 where
  pub len : (n : ℕ) → length (to_be_bytes w n) ≡ byte_len w
  pub back : (bytes : List ℕ) → length bytes ≡ byte_len w → IsBytes bytes → to_be_bytes w (from_be_bytes w bytes) ≡ bytes
  pub again : (n : ℕ) → n < 256 ^ byte_len w → from_be_bytes w (to_be_bytes w n) ≡ n
  pub below : (bytes : List ℕ) → IsBytes bytes → from_be_bytes w bytes < 256 ^ byte_len w

one : (bytes : List ℕ) → length bytes ≡ 1 → IsBytes bytes → to_be_bytes w8 (from_be_bytes w8 bytes) ≡ bytes
one [] len fits = absurd (omega arith)
one (b ∷ []) len fits = ap (λ (z : ℕ). z ∷ []) (omega (arith, fits 0))
one (b ∷ c ∷ bytes) len fits = absurd (omega arith)

pub wide8 : IsWide w8
wide8 = record {
  len = λ n. refl;
  back = λ bytes len fits. one bytes len fits;
  again = λ n lt. omega arith;
  below = λ bytes fits. omega (arith, fits 0);
}

pub wide16 : IsWide w16
wide16 = record {
  len = λ n. refl;
  back = λ bytes len fits. be_bytes_2 bytes _ len fits refl;
  again = λ n lt. from_be_bytes-to_be_bytes_2 n lt;
  below = λ bytes fits. omega (arith, fits 0, fits 1);
}

pub wide32 : IsWide w32
wide32 = record {
  len = λ n. refl;
  back = λ bytes len fits. be_bytes_4 bytes _ len fits refl;
  again = λ n lt. from_be_bytes-to_be_bytes_4 n lt;
  below = λ bytes fits. omega (arith, fits 0, fits 1, fits 2, fits 3);
}

pub wide64 : IsWide w64
wide64 = record {
  len = λ n. refl;
  back = λ bytes len fits. be_bytes_8 bytes _ len fits refl;
  again = λ n lt. from_be_bytes-to_be_bytes_8 n lt;
  below = λ bytes fits. omega (arith, fits 0, fits 1, fits 2, fits 3, fits 4, fits 5, fits 6, fits 7);
}

-- a byte is its own text
pub byte_alone : (n : ℕ) → n < 256 → to_be_bytes w8 n ≡ n ∷ []
byte_alone n lt = ap (λ (z : ℕ). z ∷ []) (omega arith)

wide_law : (w : Width) → IsWide w → Reads (number_at w) (number w)
wide_law w wide = record {
  found = λ p q n fits e.
      let g = guard_ok (ltb (length p.rest) (byte_len w)) (short_at p) (from_be_bytes w (take (byte_len w) p.rest), skip (byte_len w) p) (n, q) e in
      let long : byte_len w ≤ length p.rest = ltb-false _ _ g.0 in
      let n-is : from_be_bytes w (take (byte_len w) p.rest) ≡ n = ap (λ (a : ℕ × Place). a.0) g.1 in
      let q-is : skip (byte_len w) p ≡ q = ap (λ (a : ℕ × Place). a.1) g.1 in
      let front-fits = IsBytes-take (byte_len w) p.rest fits in
      let front : to_be_bytes w n ≡ take (byte_len w) p.rest = rw (← n-is) (wide.back (take (byte_len w) p.rest) (omega (arith, length-take (byte_len w) p.rest)) front-fits) in
      record {
        text = to_be_bytes w n;
        spelled = (rw (← n-is) (wide.below (take (byte_len w) p.rest) front-fits), refl);
        total = ap (λ (a : Place). a.total) q-is;
        rest = rw (front, ← q-is) (sym (take-append-drop (byte_len w) p.rest));
        fits = subst (λ (a : Place). IsBytes a.rest) q-is (IsBytes-drop (byte_len w) p.rest fits);
      };
  only = λ n text rest total g.
      let long : ltb (length (to_be_bytes w n ++ rest)) (byte_len w) ≡ false = le-ltb _ _ (omega (arith, length-append (to_be_bytes w n) rest, wide.len n)) in
      rw (g.1, long, take_at (to_be_bytes w n) rest (byte_len w) (wide.len n), drop_at (to_be_bytes w n) rest (byte_len w) (wide.len n), wide.again n g.0) refl;
}

pub u8_law : Reads (number_at w8) (number w8)
u8_law = wide_law w8 wide8

pub u16_law : Reads (number_at w16) (number w16)
u16_law = wide_law w16 wide16

pub u32_law : Reads (number_at w32) (number w32)
u32_law = wide_law w32 wide32

pub u64_law : Reads (number_at w64) (number w64)
u64_law = wide_law w64 wide64
