-- Lists and the operands that they hold.
use Rattle.std.proofs.Common.{◌≡◌, ℕ, zero, suc, ◌+◌, ◌-◌, ◌<◌, ◌≤◌, List, [], ◌∷◌, ◌++◌, length, take, drop, get_or, refl, sym, ap, ap₂, subst, ◌∙◌, arith, add-one}
use Rattle.std.specs.Prelude.{reverse, replicate, slice_index_or}
use Rattle.std.proofs.lemmas.List.{reverse-append, append-nil, length-append, length-drop, get_or-drop}
use Rattle.std.proofs.lemmas.Grind.{reverse_onto}
use Rattle.std.proofs.Math.Seq.{take-suc}
use Rattle.nr_model.specs.declared.value.Value.{Value}
use Rattle.nr_model.specs.declared.value.Value.TheVariants.{Null}
use Rattle.nr_step.specs.Windows.{top_first}

module _ {X : Type 0} where
  pub none_left : (xs : List X) → length xs ≡ 0 → xs ≡ []
  none_left [] e = refl
  none_left (x ∷ xs) e = absurd (omega (arith, e))

  pub take_whole : (n : ℕ) (xs : List X) → length xs ≡ n → take n xs ≡ xs
  take_whole zero [] e = refl
  take_whole zero (x ∷ xs) e = absurd (omega (arith, e))
  take_whole (suc n) [] e = absurd (omega (arith, e))
  take_whole (suc n) (x ∷ xs) e = ap (λ ys. x ∷ ys) (take_whole n xs (omega (arith, e)))

  pub drop_whole : (n : ℕ) (xs : List X) → length xs ≤ n → drop n xs ≡ []
  drop_whole zero [] l = refl
  drop_whole zero (x ∷ xs) l = absurd (omega (arith, l))
  drop_whole (suc n) [] l = refl
  drop_whole (suc n) (x ∷ xs) l = drop_whole n xs (omega (arith, l))

  pub drop_drop : (a b : ℕ) (xs : List X) → drop a (drop b xs) ≡ drop (b + a) xs
  drop_drop a zero xs = let e : 0 + a ≡ a = omega arith in ap (λ n. drop n xs) (sym e)
  drop_drop zero (suc b) [] = let e : suc b + 0 ≡ suc b = omega arith in ap (λ n. drop {A = X} n []) (sym e)
  drop_drop (suc a) (suc b) [] = let e : suc b + suc a ≡ suc (b + suc a) = omega arith in ap (λ n. drop {A = X} n []) (sym e)
  drop_drop a (suc b) (x ∷ xs) = let e : suc b + a ≡ suc (b + a) = omega arith in drop_drop a b xs ∙ ap (λ n. drop n (x ∷ xs)) (sym e)

  pub take_same : (n m : ℕ) (x : X) → n ≤ m → take n (replicate m x) ≡ replicate n x
  take_same zero m x l = refl
  take_same (suc n) zero x l = absurd (omega (arith, l))
  take_same (suc n) (suc m) x l = ap (λ ys. x ∷ ys) (take_same n m x (omega (arith, l)))

  pub drop_same : (n m : ℕ) (x : X) → drop n (replicate (n + m) x) ≡ replicate m x
  drop_same zero m x = let e : 0 + m ≡ m = omega arith in ap (λ k. replicate k x) e
  drop_same (suc n) m x = let e : suc n + m ≡ suc (n + m) = omega arith in ap (λ k. drop (suc n) (replicate k x)) e ∙ drop_same n m x

  pub reverse_more : (x : X) (xs : List X) → reverse (x ∷ xs) ≡ reverse xs ++ (x ∷ [])
  reverse_more x xs = reverse_onto xs x []

-- ---- operands

pub top_length : (xs : List Value) (d : ℕ) → length (top_first xs d) ≡ d
top_length xs zero = refl
top_length xs (suc d) = ap suc (top_length xs d)

-- without the topmost
pub drop_top : (xs : List Value) (c d : ℕ) → drop c (top_first xs (d + c)) ≡ top_first xs d
drop_top xs zero d = let e : d + 0 ≡ d = omega arith in ap (top_first xs) e
drop_top xs (suc c) d = let e : d + suc c ≡ suc (d + c) = omega arith in ap (λ n. drop (suc c) (top_first xs n)) e ∙ drop_top xs c d

read_append : (xs ys : List Value) (i : ℕ) → i < length xs → slice_index_or (xs ++ ys) i Null ≡ slice_index_or xs i Null
read_append [] ys i l = absurd (omega (arith, l))
read_append (x ∷ xs) ys zero l = refl
read_append (x ∷ xs) ys (suc i) l = read_append xs ys i (omega (arith, l))

-- what lies above isn't read
pub top_append : (xs ys : List Value) (d : ℕ) → d ≤ length xs → top_first (xs ++ ys) d ≡ top_first xs d
top_append xs ys zero l = refl
top_append xs ys (suc d) l = ap₂ ◌∷◌ (read_append xs ys d (omega (arith, l))) (top_append xs ys d (omega (arith, l)))

-- the topmost, from the lowest of them on
pub take_top : (xs : List Value) (c d : ℕ) → d + c ≤ length xs → reverse (take c (top_first xs (d + c))) ≡ take c (drop d xs)
take_top xs zero d l = refl
take_top xs (suc c) d l =
    let e : d + suc c ≡ suc (d + c) = omega arith in
    let n : c < length (drop d xs) = omega (arith, length-drop d xs, l) in
    ap (λ n. reverse (take (suc c) (top_first xs n))) e
    ∙ reverse_more (slice_index_or xs (d + c) Null) (take c (top_first xs (d + c)))
    ∙ ap (λ ys. ys ++ (slice_index_or xs (d + c) Null ∷ [])) (take_top xs c d (omega (arith, l)))
    ∙ ap (λ v. take c (drop d xs) ++ (v ∷ [])) (sym (get_or-drop d xs c Null))
    ∙ sym (take-suc (drop d xs) c Null n)
