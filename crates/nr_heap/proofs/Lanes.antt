-- One slot of a word is read or written.
use Rattle.std.proofs.Common.{◌≡◌, ℕ, zero, suc, ◌+◌, ◌-◌, ◌*◌, ◌^◌, ◌/◌, ◌%◌, ◌<◌, ◌≤◌, ◌∷◌, refl, sym, ap, ap₂, ◌∙◌, arith, subst, Some}
use Rattle.std.specs.Prelude.{slice_get, slice_set, ℤ, pos, negsuc, FitsSigned}
use Rattle.std.proofs.lemmas.Nat.{pow_pos, pow-add, shr-shr, mod-mul-add, div-mul-add, shr_below, mul-add-lt, mul-le, shl_whole}
use Rattle.std.proofs.lemmas.Int.{to_z-of_z}
use Rattle.std.specs.Int.{w8, w16, w32, w64, cast_signed, cast_unsigned}
use Rattle.nr_model.specs.declared.value.Value.{Value}
use Rattle.nr_model.specs.declared.value.Value.TheVariants as values
use Rattle.nr_heap.specs.declared.form.Form.{Form}
use Rattle.nr_heap.specs.declared.form.Form.TheVariants as forms
use Rattle.nr_heap.specs.Forms.{bits, bits_of, lanes, per_word, value_in, values_in, reference, Holds, IsSized}

-- the word with p in place of slot k's bits
abbrev pub changed : ℕ → ℕ → ℕ → ℕ → ℕ
changed b zero w p = w / 2 ^ b * 2 ^ b + p
changed b (suc k) w p = changed b k (w / 2 ^ b) p * 2 ^ b + w % 2 ^ b

low_below : (b w : ℕ) → w % 2 ^ b < 2 ^ b
low_below b w = omega (arith, pow_pos b)

parts_make : (b w : ℕ) → w / 2 ^ b * 2 ^ b + w % 2 ^ b ≡ w
parts_make b w = omega (arith, pow_pos b)

step : (b k : ℕ) → 2 ^ (b * suc k) ≡ 2 ^ (b * k) * 2 ^ b
step b k = let e : b * suc k ≡ b * k + b = omega arith in ap (λ n. 2 ^ n) e ∙ pow-add 2 (b * k) b

shifted : (b k w : ℕ) → w / 2 ^ (b * suc k) ≡ w / 2 ^ b / 2 ^ (b * k)
shifted b k w = let e : b * suc k ≡ b + b * k = omega arith in ap (λ n. w / 2 ^ n) e ∙ sym (shr-shr w b (b * k))

at_once : (b w : ℕ) → w / 2 ^ (b * 0) ≡ w
at_once b w = let e : b * 0 ≡ 0 = omega arith in ap (λ n. w / 2 ^ n) e ∙ div-one w
  where
    div-one : (w : ℕ) → w / 1 ≡ w
    div-one w = omega arith

pub changed_is : (b k w p : ℕ) → changed b k w p + w / 2 ^ (b * k) % 2 ^ b * 2 ^ (b * k) ≡ w + p * 2 ^ (b * k)
changed_is b zero w p =
    let e : b * 0 ≡ 0 = omega arith in
    rw (at_once b w, e) (omega (arith, parts_make b w))
changed_is b (suc k) w p =
    let i = ap (λ n. n * 2 ^ b) (changed_is b k (w / 2 ^ b) p) in
    rw (shifted b k w, step b k) (omega (arith, i, parts_make b w))

pub changed_below : (b n k w p : ℕ) → k < n → w < 2 ^ (b * n) → p < 2 ^ b → changed b k w p < 2 ^ (b * n)
changed_below b zero k w p l m q = absurd (omega arith)
changed_below b (suc n) zero w p l m q =
    let h : w / 2 ^ b < 2 ^ (b * n) = shr_below w (b * n) b (let e : b * suc n ≡ b * n + b = omega arith in subst (λ m. w < 2 ^ m) e m) in
    rw (step b n) (omega (arith, mul-add-lt (w / 2 ^ b) (2 ^ b) p (2 ^ (b * n)) h q))
changed_below b (suc n) (suc k) w p l m q =
    let h : w / 2 ^ b < 2 ^ (b * n) = shr_below w (b * n) b (let e : b * suc n ≡ b * n + b = omega arith in subst (λ m. w < 2 ^ m) e m) in
    rw (step b n) (omega (arith, mul-add-lt (changed b k (w / 2 ^ b) p) (2 ^ b) (w % 2 ^ b) (2 ^ (b * n)) (changed_below b n k (w / 2 ^ b) p (omega arith) h q) (low_below b w)))

pub old_within : (b k w : ℕ) → w / 2 ^ (b * k) % 2 ^ b * 2 ^ (b * k) ≤ w
old_within b k w =
    let q = w / 2 ^ (b * k) in
    let l : q % 2 ^ b ≤ q = omega (arith, pow_pos b) in
    omega (arith, mul-le (q % 2 ^ b) (2 ^ (b * k)) q (2 ^ (b * k)) l (omega arith), parts_make (b * k) w)

mod_twice : (b w : ℕ) → w % 2 ^ b ≡ w % 2 ^ b % 2 ^ b
mod_twice b w =
    let e : 0 * 2 ^ b + w % 2 ^ b ≡ w % 2 ^ b = omega arith in
    sym (ap (λ n. n % 2 ^ b) (sym e) ∙ mod-mul-add 0 (2 ^ b) (w % 2 ^ b) (low_below b w))

pub value_low : (f : Form) (w : ℕ) → value_in f w ≡ value_in f (w % 2 ^ bits f)
value_low forms.Bool w = ap (λ n. values.Int (pos n)) (mod_twice 8 w)
value_low forms.Byte w = ap (λ n. values.Int (cast_signed w8 n)) (mod_twice 8 w)
value_low forms.Char w = ap (λ n. values.Int (pos n)) (mod_twice 16 w)
value_low forms.Short w = ap (λ n. values.Int (cast_signed w16 n)) (mod_twice 16 w)
value_low forms.Int w = ap (λ n. values.Int (cast_signed w32 n)) (mod_twice 32 w)
value_low forms.Long w = ap (λ n. values.Long (cast_signed w64 n)) (mod_twice 64 w)
value_low forms.Reference w = ap reference (mod_twice 64 w)

pub lane_at : (f : Form) (n k w : ℕ) → k < n → slice_get (lanes f n w) k ≡ Some (value_in f (w / 2 ^ (bits f * k)))
lane_at f zero k w l = absurd (omega arith)
lane_at f (suc n) zero w l = ap (λ w. Some (value_in f w)) (sym (at_once (bits f) w))
lane_at f (suc n) (suc k) w l = rw (shifted (bits f) k w) (lane_at f n k (w / 2 ^ bits f) (omega arith))

pub lanes_changed : (f : Form) (n k w p : ℕ) (v : Value) → k < n → p < 2 ^ bits f → value_in f p ≡ v → lanes f n (changed (bits f) k w p) ≡ slice_set (lanes f n w) k v
lanes_changed f zero k w p v l q e = absurd (omega arith)
lanes_changed f (suc n) zero w p v l q e =
    ap₂ (λ x u. x ∷ lanes f n u)
    (value_low f _ ∙ ap (value_in f) (mod-mul-add (w / 2 ^ bits f) (2 ^ bits f) p q) ∙ e)
    (div-mul-add (w / 2 ^ bits f) (2 ^ bits f) p q)
lanes_changed f (suc n) (suc k) w p v l q e =
    let r = low_below (bits f) w in
    let c = changed (bits f) k (w / 2 ^ bits f) p in
    ap₂ (λ x us. x ∷ us)
    (value_low f _ ∙ ap (value_in f) (mod-mul-add c (2 ^ bits f) (w % 2 ^ bits f) r) ∙ sym (value_low f w))
    (ap (lanes f n) (div-mul-add c (2 ^ bits f) (w % 2 ^ bits f) r) ∙ lanes_changed f n k (w / 2 ^ bits f) p v (omega arith) q e)

byte_bits : (n : ℤ) → FitsSigned w8 n → cast_unsigned w32 n % 2 ^ 8 % 2 ^ 8 ≡ cast_unsigned w8 n
byte_bits (pos m) h = let l = h.sfits in omega arith
byte_bits (negsuc m) h = let l = h.sfits in omega arith

short_bits : (n : ℤ) → FitsSigned w16 n → cast_unsigned w32 n % 2 ^ 16 % 2 ^ 16 ≡ cast_unsigned w16 n
short_bits (pos m) h = let l = h.sfits in omega arith
short_bits (negsuc m) h = let l = h.sfits in omega arith

int_bits : (n : ℤ) → FitsSigned w32 n → cast_unsigned w32 n % 2 ^ 32 % 2 ^ 32 ≡ cast_unsigned w32 n
int_bits (pos m) h = let l = h.sfits in omega arith
int_bits (negsuc m) h = let l = h.sfits in omega arith

long_bits : (n : ℤ) → FitsSigned w64 n → cast_unsigned w64 n % 2 ^ 64 % 2 ^ 64 ≡ cast_unsigned w64 n
long_bits (pos m) h = let l = h.sfits in omega arith
long_bits (negsuc m) h = let l = h.sfits in omega arith

name_bits : (a : ℕ) → a < 2 ^ 32 → reference ((a + 1) % 2 ^ 64 % 2 ^ 64) ≡ values.Ref a
name_bits a l =
    let e : (a + 1) % 2 ^ 64 % 2 ^ 64 ≡ suc a = omega arith in
    let f : a % 2 ^ 32 ≡ a = omega arith in
    ap reference e ∙ ap values.Ref f

pub kept : (f : Form) (v : Value) → Holds f v → IsSized v → value_in f (bits_of v % 2 ^ bits f) ≡ v
kept forms.Bool (values.Int n) h s = let l = h.2 in subst (λ n. value_in forms.Bool (bits_of (values.Int n) % 256) ≡ values.Int n) (sym h.1) (ap (λ n. values.Int (pos n)) (omega arith))
kept forms.Byte (values.Int n) h s = ap values.Int (ap (cast_signed w8) (byte_bits n h) ∙ to_z-of_z w8 n h)
kept forms.Char (values.Int n) h s = let l = h.2 in subst (λ n. value_in forms.Char (bits_of (values.Int n) % 2 ^ 16) ≡ values.Int n) (sym h.1) (ap (λ n. values.Int (pos n)) (omega arith))
kept forms.Short (values.Int n) h s = ap values.Int (ap (cast_signed w16) (short_bits n h) ∙ to_z-of_z w16 n h)
kept forms.Int (values.Int n) h s = ap values.Int (ap (cast_signed w32) (int_bits n s) ∙ to_z-of_z w32 n s)
kept forms.Long (values.Long n) h s = ap values.Long (ap (cast_signed w64) (long_bits n s) ∙ to_z-of_z w64 n s)
kept forms.Reference values.Null h s = refl
kept forms.Reference (values.Ref a) h s = name_bits a s
kept forms.Bool (values.Long n) h s = elim h [ ]
kept forms.Bool values.Null h s = elim h [ ]
kept forms.Bool (values.Ref a) h s = elim h [ ]
kept forms.Byte (values.Long n) h s = elim h [ ]
kept forms.Byte values.Null h s = elim h [ ]
kept forms.Byte (values.Ref a) h s = elim h [ ]
kept forms.Char (values.Long n) h s = elim h [ ]
kept forms.Char values.Null h s = elim h [ ]
kept forms.Char (values.Ref a) h s = elim h [ ]
kept forms.Short (values.Long n) h s = elim h [ ]
kept forms.Short values.Null h s = elim h [ ]
kept forms.Short (values.Ref a) h s = elim h [ ]
kept forms.Int (values.Long n) h s = elim h [ ]
kept forms.Int values.Null h s = elim h [ ]
kept forms.Int (values.Ref a) h s = elim h [ ]
kept forms.Long (values.Int n) h s = elim h [ ]
kept forms.Long values.Null h s = elim h [ ]
kept forms.Long (values.Ref a) h s = elim h [ ]
kept forms.Reference (values.Int n) h s = elim h [ ]
kept forms.Reference (values.Long n) h s = elim h [ ]

pub place_within : (f : Form) (k : ℕ) → k < per_word f → bits f * k < 64
place_within forms.Bool k l = omega arith
place_within forms.Byte k l = omega arith
place_within forms.Char k l = omega arith
place_within forms.Short k l = omega arith
place_within forms.Int k l = omega arith
place_within forms.Long k l = omega arith
place_within forms.Reference k l = omega arith

whole : (f : Form) → bits f * per_word f ≡ 64
whole forms.Bool = refl
whole forms.Byte = refl
whole forms.Char = refl
whole forms.Short = refl
whole forms.Int = refl
whole forms.Long = refl
whole forms.Reference = refl

-- what the code computes is the changed word
module _ (f : Form) (k w old new shift : ℕ) (v : Value) (l : k < per_word f) (h : Holds f v) (s : IsSized v) (m : w < 2 ^ 64)
    (es : shift ≡ bits f * k) (eo : old ≡ w / 2 ^ shift % 2 ^ bits f) (en : new ≡ bits_of v % 2 ^ bits f) where
  old_whole : old * 2 ^ shift % 2 ^ 64 ≡ old * 2 ^ shift
  old_whole = let o : old * 2 ^ shift ≤ w = rw (eo, es) (old_within (bits f) k w) in omega arith

  new_whole : new * 2 ^ shift % 2 ^ 64 ≡ new * 2 ^ shift
  new_whole =
      let b : bits f * suc k ≤ 64 = omega (arith, whole f, mul-le (bits f) (suc k) (bits f) (per_word f) (omega arith) (omega arith)) in
      shl_whole new (bits f) shift 64 (subst (λ n. n < 2 ^ bits f) (sym en) (low_below (bits f) (bits_of v))) (omega (arith, es))

  word_is : w - old * 2 ^ shift % 2 ^ 64 + new * 2 ^ shift % 2 ^ 64 ≡ changed (bits f) k w new
  word_is =
      let o : old * 2 ^ shift ≤ w = rw (eo, es) (old_within (bits f) k w) in
      let c : changed (bits f) k w new + old * 2 ^ shift ≡ w + new * 2 ^ shift = rw (eo, es) (changed_is (bits f) k w new) in
      omega (arith, old_whole, new_whole)

  new_below : new < 2 ^ bits f
  new_below = subst (λ n. n < 2 ^ bits f) (sym en) (low_below (bits f) (bits_of v))

  pub word_fits : w - old * 2 ^ shift % 2 ^ 64 + new * 2 ^ shift % 2 ^ 64 < 2 ^ 64
  word_fits =
      let b : changed (bits f) k w new < 2 ^ (bits f * per_word f) = changed_below (bits f) (per_word f) k w new l (subst (λ n. w < 2 ^ n) (sym (whole f)) m) new_below in
      subst (λ n. n < 2 ^ 64) (sym word_is) (subst (λ n. changed (bits f) k w new < 2 ^ n) (whole f) b)

  pub word_stored : values_in f (w - old * 2 ^ shift % 2 ^ 64 + new * 2 ^ shift % 2 ^ 64) ≡ slice_set (values_in f w) k v
  unfolding values_in
  word_stored =
      ap (values_in f) word_is ∙ lanes_changed f (per_word f) k w new v l new_below (ap (value_in f) en ∙ kept f v h s)
