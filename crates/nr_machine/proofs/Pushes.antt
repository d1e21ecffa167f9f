-- A window is put behind the values.
use Rattle.std.proofs.Common.{◌≡◌, ℕ, ◌+◌, ◌-◌, ◌≤◌, List, [], ◌∷◌, ◌++◌, length, take, drop, refl, sym, ap, ap₂, ◌∙◌, arith}
use Rattle.std.specs.Prelude.{Result, IsOk, Ok, Err, is_ok, replicate, if◌then◌else◌}
use Rattle.std.proofs.lemmas.List.{append-nil, length-append, length-drop, length-replicate, take-append-le, drop-append-le, take-append-drop}
use Rattle.std.proofs.Math.Seq.{take-append_seam, drop-append-add}
use Rattle.nr_model.specs.declared.value.Value.{Value}
use Rattle.nr_model.specs.declared.value.Value.TheVariants.{Null}
use Rattle.nr_model.specs.Steps.{spread}
use Rattle.nr_machine.specs.CallStacks.{filled}
use Rattle.nr_machine.proofs.Lists.{take_whole, drop_whole, drop_same}

pub resized : {E : Type 0} (r : Result (Unit {0}) E) (old new : List Value) (n m : ℕ) (v : Value) → IsOk r
    → new ≡ (if is_ok r then take n old ++ replicate (n - m) v else old) → m ≡ length old → m ≤ n → new ≡ old ++ replicate (n - m) v
resized (Ok u) old new n m v ok e l le = e ∙ ap (λ xs. xs ++ replicate (n - m) v) (all old n (omega (arith, l, le)))
  where
    all : (xs : List Value) (n : ℕ) → length xs ≤ n → take n xs ≡ xs
    all xs n l = sym (append-nil (take n xs)) ∙ ap (λ ys. take n xs ++ ys) (sym (drop_whole n xs l)) ∙ take-append-drop n xs
resized (Err e) old new n m v ok f l le = absurd cc

pub pushed : {X E : Type 0} (r : Result (Unit {0}) E) (old new : List X) (x : X) → IsOk r → new ≡ (if is_ok r then old ++ x ∷ [] else old) → new ≡ old ++ x ∷ []
pushed (Ok u) old new x ok e = e
pushed (Err f) old new x ok e = absurd cc

module _ (vs : List Value) (slots first count : ℕ) (before : first + count ≤ length vs) where
  abbrev grown : List Value
  grown = vs ++ replicate slots Null

  arguments_stay : take count (drop first grown) ≡ take count (drop first vs)
  arguments_stay =
      ap (take count) (drop-append-le first vs (replicate slots Null) (omega (arith, before)))
      ∙ take-append-le count (drop first vs) (replicate slots Null) (omega (arith, before, length-drop first vs))

  abbrev placed : List Value
  placed = spread (take count (drop first vs))

  module _ (fits : length placed ≤ slots) where
    rest_is : drop (length vs + length placed) grown ≡ replicate (slots - length placed) Null
    rest_is =
        let e : slots ≡ length placed + (slots - length placed) = omega (arith, fits) in
        drop-append-add vs (replicate slots Null) (length placed)
        ∙ ap (λ n. drop (length placed) (replicate n Null)) e
        ∙ drop_same (length placed) (slots - length placed) Null

    pub passed_is : (passed : List Value) → passed ≡ take (length vs) grown ++ (spread (take count (drop first grown)) ++ drop (length vs + length (spread (take count (drop first grown)))) grown)
        → passed ≡ vs ++ filled slots placed
    passed_is passed e =
        e ∙ ap (λ us. take (length vs) grown ++ (spread us ++ drop (length vs + length (spread us)) grown)) arguments_stay
        ∙ ap₂ (λ xs ys. xs ++ (placed ++ ys)) (take-append_seam vs (replicate slots Null)) rest_is

    fits_grown : length vs + length (spread (take count (drop first grown))) ≤ length grown
    fits_grown = omega (arith, fits, ap (λ us. length (spread us)) arguments_stay, length-append vs (replicate slots Null), length-replicate slots Null)

    pub passed_length : length (vs ++ filled slots placed) ≡ length grown
    passed_length = omega (arith, fits, length-append vs (filled slots placed), length-append placed (replicate (slots - length placed) Null), length-replicate (slots - length placed) Null, length-append vs (replicate slots Null), length-replicate slots Null)

    -- what stands behind is nothing
    pub whole : (n : ℕ) (passed : List Value) → n ≡ length grown → passed ≡ vs ++ filled slots placed → take n (passed ++ drop (length passed) grown) ≡ vs ++ filled slots placed
    whole n passed e f =
        let l : length passed ≡ length grown = ap length f ∙ passed_length in
        ap (λ xs. take n (passed ++ xs)) (drop_whole (length passed) grown (omega (arith, l)))
        ∙ ap (take n) (append-nil passed) ∙ take_whole n passed (omega (arith, l, e)) ∙ f

    pub room_grown : length vs + length (spread (take count (drop first grown))) ≤ length grown
    room_grown = fits_grown

-- the first window
module _ (slots : ℕ) (placed : List Value) (fits : length placed ≤ slots) where
  pub first_window : (n : ℕ) (passed : List Value) → n ≡ slots → passed ≡ placed ++ drop (length placed) (replicate slots Null)
      → take n (passed ++ drop (length passed) (replicate slots Null)) ≡ filled slots placed
  first_window n passed e f =
      let s : slots ≡ length placed + (slots - length placed) = omega (arith, fits) in
      let g : passed ≡ filled slots placed = f ∙ ap (λ xs. placed ++ xs) (ap (λ k. drop (length placed) (replicate k Null)) s ∙ drop_same (length placed) (slots - length placed) Null) in
      let l : length passed ≡ slots = omega (arith, ap length g, length-append placed (replicate (slots - length placed) Null), length-replicate (slots - length placed) Null, fits) in
      ap (λ xs. take n (passed ++ xs)) (drop_whole (length passed) (replicate slots Null) (omega (arith, l, length-replicate slots Null)))
      ∙ ap (take n) (append-nil passed) ∙ take_whole n passed (omega (arith, l, e)) ∙ g
