-- The frame in front of some bytes.
use Rattle.std.proofs.Common.{◌≡◌, ◌≤◌, ◌+◌, ◌-◌, ◌++◌, Bool, true, false, List, ℕ, suc, [], ◌∷◌, length, take, drop, cond, None, Some, refl, sym, ap, ◌∙◌, subst, arith, append_assoc, length-append}
use Rattle.std.specs.Prelude.{All, nat_le, slice_index_or}
use Rattle.std.proofs.lemmas.List.{length-take, drop_at}
use Rattle.std.proofs.lemmas.Grind.{common_steps}
use Rattle.std.proofs.lemmas.List.Elements.{All-head, All-tail}
use Rattle.nr_frame.specs.declared.kind.Side.{Side}
use Rattle.nr_frame.specs.declared.kind.Side.TheVariants.{Client, Server}
use Rattle.nr_frame.specs.Kinds.{reads_code}
use Rattle.nr_frame.specs.Headers.{FrameOf, word_of, broken_by, broken_at, frame_len, frame_of}
use Rattle.nr_frame.specs.Splits.{texts_of, IsFrame, Splits}

pub picked : (b : Bool) (m n : ℕ) → cond b (Some m) None ≡ Some n → (b ≡ true) × (m ≡ n)
picked true m n e = (refl, cc)
picked false m n e = absurd (cc)

pub le_true : (m n : ℕ) → nat_le m n ≡ true → m ≤ n
le_true m n e = grind (arith, common_steps)

pub true_le : (m n : ℕ) → m ≤ n → nat_le m n ≡ true
true_le m n e = grind (arith, common_steps)

take_five : (a b c d k w : ℕ) (rest : List ℕ) → take (w + 5) (a ∷ b ∷ c ∷ d ∷ k ∷ rest) ≡ a ∷ b ∷ c ∷ d ∷ k ∷ take w rest
take_five a b c d k w rest = let e : w + 5 ≡ suc (suc (suc (suc (suc w)))) = omega arith in rw e refl

whole_five : (a b c d k w n : ℕ) (rest : List ℕ) → n ≡ w → w ≤ length rest
    → cond (nat_le w (length (take n rest))) (Some (w + 5)) None ≡ Some (length (a ∷ b ∷ c ∷ d ∷ k ∷ take n rest))
whole_five a b c d k w n rest e le =
    let len : length (take n rest) ≡ w = simp length-take (omega arith) in
    rw (len, true_le w w (omega arith)) (ap Some (omega arith))

pub frame_front : (side : Side) (xs : List ℕ) (n : ℕ) → broken_at side xs ≡ None → frame_len xs ≡ Some n → IsFrame side (take n xs)
frame_front side [] n good len = absurd (cc)
frame_front side (a ∷ []) n good len = absurd (cc)
frame_front side (a ∷ b ∷ []) n good len = absurd (cc)
frame_front side (a ∷ b ∷ c ∷ []) n good len = absurd (cc)
frame_front side (a ∷ b ∷ c ∷ d ∷ []) n good len = absurd (cc)
frame_front side (a ∷ b ∷ c ∷ d ∷ k ∷ rest) n good len =
    let p = picked (nat_le (word_of a b c d) (length rest)) (word_of a b c d + 5) n len in
    let front : take n (a ∷ b ∷ c ∷ d ∷ k ∷ rest) ≡ a ∷ b ∷ c ∷ d ∷ k ∷ take (word_of a b c d) rest
    = rw (← p.1) (take_five a b c d k (word_of a b c d) rest) in
    subst (λ (ys : List ℕ). IsFrame side ys) (sym front)
    (record { good = good; whole = whole_five a b c d k (word_of a b c d) (word_of a b c d) rest refl (le_true _ _ p.0) })

grow : (w m m' n : ℕ) → m ≤ m' → cond (nat_le w m) (Some (w + 5)) None ≡ Some n → cond (nat_le w m') (Some (w + 5)) None ≡ Some n
grow w m m' n le e =
    let p = picked (nat_le w m) (w + 5) n e in
    let h = le_true w m p.0 in
    rw (true_le w m' (omega arith)) (ap Some p.1)

-- what follows a whole frame doesn't change it
pub frame_len_front : (t r : List ℕ) (n : ℕ) → frame_len t ≡ Some n → frame_len (t ++ r) ≡ Some n
frame_len_front [] r n len = absurd (cc)
frame_len_front (a ∷ []) r n len = absurd (cc)
frame_len_front (a ∷ b ∷ []) r n len = absurd (cc)
frame_len_front (a ∷ b ∷ c ∷ []) r n len = absurd (cc)
frame_len_front (a ∷ b ∷ c ∷ d ∷ []) r n len = absurd (cc)
frame_len_front (a ∷ b ∷ c ∷ d ∷ k ∷ rest) r n len =
    grow (word_of a b c d) (length rest) (length (rest ++ r)) n (simp length-append (omega arith)) len

pub broken_front : (side : Side) (t r : List ℕ) (n : ℕ) → frame_len t ≡ Some n → broken_at side (t ++ r) ≡ broken_at side t
broken_front side [] r n len = absurd (cc)
broken_front side (a ∷ []) r n len = absurd (cc)
broken_front side (a ∷ b ∷ []) r n len = absurd (cc)
broken_front side (a ∷ b ∷ c ∷ []) r n len = absurd (cc)
broken_front side (a ∷ b ∷ c ∷ d ∷ []) r n len = absurd (cc)
broken_front side (a ∷ b ∷ c ∷ d ∷ k ∷ rest) r n len = refl

-- the frame in front of bytes that split
pub record IsFirst (side : Side) (xs : List ℕ) (n : ℕ) (left : List ℕ) : Type 0 where
  pub good : broken_at side xs ≡ None
  pub rest : Splits side (drop n xs)
  pub left_is : rest.rest ≡ left

first_in : (side : Side) (texts : List (List ℕ)) (rest xs : List ℕ) (n : ℕ) → xs ≡ texts_of texts ++ rest → All (IsFrame side) texts
    → broken_at side rest ≡ None → frame_len rest ≡ None → frame_len xs ≡ Some n → IsFirst side xs n rest
first_in side [] rest xs n whole each good partial len = absurd (cc)
first_in side (t ∷ ts) rest xs n whole each good partial len =
    let frame = All-head (IsFrame side) t ts each in
    let xs_is : xs ≡ t ++ (texts_of ts ++ rest) = whole ∙ append_assoc t (texts_of ts) rest in
    let same : frame_len xs ≡ Some (length t) = ap (λ (ys : List ℕ). frame_len ys) xs_is ∙ frame_len_front t (texts_of ts ++ rest) (length t) frame.whole in
    let n_is : length t ≡ n = cc in
    record {
      good = ap (λ (ys : List ℕ). broken_at side ys) xs_is ∙ broken_front side t (texts_of ts ++ rest) (length t) frame.whole ∙ frame.good;
      rest = record {
        texts = ts;
        rest = rest;
        whole = ap (λ (ys : List ℕ). drop n ys) xs_is ∙ drop_at t (texts_of ts ++ rest) n n_is;
        each = All-tail (IsFrame side) t ts each;
        good = good;
        partial = partial;
      };
      left_is = refl;
    }

pub first_of : (side : Side) (xs : List ℕ) (n : ℕ) (splits : Splits side xs) → frame_len xs ≡ Some n → IsFirst side xs n splits.rest
first_of side xs n splits len = first_in side splits.texts splits.rest xs n splits.whole splits.each splits.good splits.partial len

read_range : (side : Side) (k : ℕ) → reads_code side k ≡ true → (1 ≤ k) × (k ≤ 4)
read_range Client k e = (grind (arith, common_steps), grind (arith, common_steps))
read_range Server k e = (grind (arith, common_steps), grind (arith, common_steps))

good_code : (side : Side) (w k : ℕ) → broken_by side w k ≡ None → reads_code side k ≡ true
good_code side w k e = grind (arith, common_steps)

pub code_range : (side : Side) (xs : List ℕ) (n : ℕ) → broken_at side xs ≡ None → frame_len xs ≡ Some n
    → (1 ≤ slice_index_or xs 4 0) × (slice_index_or xs 4 0 ≤ 4)
code_range side [] n good len = absurd (cc)
code_range side (a ∷ []) n good len = absurd (cc)
code_range side (a ∷ b ∷ []) n good len = absurd (cc)
code_range side (a ∷ b ∷ c ∷ []) n good len = absurd (cc)
code_range side (a ∷ b ∷ c ∷ d ∷ []) n good len = absurd (cc)
code_range side (a ∷ b ∷ c ∷ d ∷ k ∷ rest) n good len = read_range side k (good_code side (word_of a b c d) k good)

pick_frame : (k w : ℕ) (b : Bool) (body : List ℕ) → b ≡ true → cond b (Some (let f : FrameOf = record { kind = k; body = body } in f)) None ≡ Some (record { kind = k; body = body })
pick_frame k w true body e = refl
pick_frame k w false body e = absurd (cc)

drop_five : (a b c d k w n : ℕ) (rest : List ℕ) → w + 5 ≡ n → take (n - 5) (drop 5 (a ∷ b ∷ c ∷ d ∷ k ∷ rest)) ≡ take w rest
drop_five a b c d k w n rest e = let h : n - 5 ≡ w = omega arith in rw h refl

pub frame_is : (xs : List ℕ) (n : ℕ) → frame_len xs ≡ Some n
    → frame_of xs ≡ Some (record { kind = slice_index_or xs 4 0; body = take (n - 5) (drop 5 xs) })
frame_is [] n len = absurd (cc)
frame_is (a ∷ []) n len = absurd (cc)
frame_is (a ∷ b ∷ []) n len = absurd (cc)
frame_is (a ∷ b ∷ c ∷ []) n len = absurd (cc)
frame_is (a ∷ b ∷ c ∷ d ∷ []) n len = absurd (cc)
frame_is (a ∷ b ∷ c ∷ d ∷ k ∷ rest) n len =
    let p = picked (nat_le (word_of a b c d) (length rest)) (word_of a b c d + 5) n len in
    rw (drop_five a b c d k (word_of a b c d) n rest p.1)
    (pick_frame k (word_of a b c d) (nat_le (word_of a b c d) (length rest)) (take (word_of a b c d) rest) p.0)
