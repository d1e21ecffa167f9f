-- Arguments as they are put into the first locals.
use Rattle.std.proofs.Common.{◌≡◌, ℕ, suc, ◌+◌, ◌<◌, ◌≤◌, List, [], ◌∷◌, ◌++◌, length, take, drop, set, get_or, refl, sym, ap, subst, ◌∙◌, arith, add-one}
use Rattle.std.specs.Prelude.{ℤ}
use Rattle.std.proofs.lemmas.List.{append_assoc, length-append, length-drop, length-set, take-append-drop}
use Rattle.std.proofs.Math.Seq.{take-suc, drop-cons, set-append_seam}
use Rattle.nr_model.specs.declared.value.Value.{Value}
use Rattle.nr_model.specs.declared.value.Value.TheVariants.{Int, Long, Null, Ref}
use Rattle.nr_model.specs.Steps.{spread}

pub spread_append : (vs ws : List Value) → spread (vs ++ ws) ≡ spread vs ++ spread ws
spread_append [] ws = refl
spread_append (Int n ∷ vs) ws = ap (λ us. Int n ∷ us) (spread_append vs ws)
spread_append (Long n ∷ vs) ws = ap (λ us. Long n ∷ Null ∷ us) (spread_append vs ws)
spread_append (Null ∷ vs) ws = ap (λ us. Null ∷ us) (spread_append vs ws)
spread_append (Ref a ∷ vs) ws = ap (λ us. Ref a ∷ us) (spread_append vs ws)

-- the arguments up to the one at i, and how many places they take
pub spread_more : (args : List Value) (i : ℕ) (d : Value) → i < length args → spread (take (i + 1) args) ≡ spread (take i args) ++ spread (get_or args i d ∷ [])
spread_more args i d l = rw add-one (ap spread (take-suc args i d l) ∙ spread_append (take i args) (get_or args i d ∷ []))

pub spread_within : (args : List Value) (i : ℕ) → length (spread (take i args)) ≤ length (spread args)
spread_within args i =
    let e : spread args ≡ spread (take i args) ++ spread (drop i args) = sym (ap spread (take-append-drop i args)) ∙ spread_append (take i args) (drop i args) in
    omega (arith, ap length e, length-append (spread (take i args)) (spread (drop i args)))

-- an argument takes a place at least, and one alone where it is no long
pub spread_some : (v : Value) → 1 ≤ length (spread (v ∷ []))
spread_some (Int n) = omega arith
spread_some (Long n) = omega arith
spread_some Null = omega arith
spread_some (Ref a) = omega arith

pub spread_one : (v : Value) → ((n : ℤ) → v ≡ Long n → ⊥) → spread (v ∷ []) ≡ v ∷ []
spread_one (Int n) other = refl
spread_one (Long n) other = absurd (other n refl)
spread_one Null other = refl
spread_one (Ref a) other = refl

-- one more is written behind what is there
pub written : (placed init : List Value) (v : Value) → length placed < length init
    → set (placed ++ drop (length placed) init) (length placed) v ≡ (placed ++ v ∷ []) ++ drop (length placed + 1) init
written placed init v l =
    ap (λ (xs : List Value). set (placed ++ xs) (length placed) v) (drop-cons init (length placed) v l)
    ∙ set-append_seam placed (get_or init (length placed) v) (drop (suc (length placed)) init) v
    ∙ rw add-one (sym (append_assoc placed (v ∷ []) (drop (suc (length placed)) init)))

-- what is written behind the arguments that are placed
module _ (args init : List Value) (i at : ℕ) (d : Value) (l : i < length args) (fits : length (spread args) ≤ length init) (locals : List Value)
    (at_is : at ≡ length (spread (take i args))) (locals_are : locals ≡ spread (take i args) ++ drop at init) where
  abbrev placed : List Value
  placed = spread (take i args)

  locals_here : locals ≡ placed ++ drop (length placed) init
  locals_here = locals_are ∙ ap (λ n. placed ++ drop n init) at_is

  enough : (ws : List Value) → spread (get_or args i d ∷ []) ≡ ws → length placed + length ws ≤ length init
  enough ws e = omega (arith, ap length (spread_more args i d l), length-append placed (spread (get_or args i d ∷ [])), ap length e, spread_within args (i + 1), fits)

  pub one_within : at < length locals
  one_within = omega (arith, enough (spread (get_or args i d ∷ [])) refl, spread_some (get_or args i d), at_is, ap length locals_here, length-append placed (drop (length placed) init), length-drop (length placed) init)

  pub one_placed : (v : Value) → spread (get_or args i d ∷ []) ≡ v ∷ [] → (at + 1 ≡ length (spread (take (i + 1) args))) × (set locals at v ≡ spread (take (i + 1) args) ++ drop (at + 1) init)
  one_placed v e =
      let m : spread (take (i + 1) args) ≡ placed ++ v ∷ [] = spread_more args i d l ∙ ap (λ ws. placed ++ ws) e in (
        omega (arith, at_is, ap length m, length-append placed (v ∷ [])),
        ap (λ n. set locals n v) at_is ∙ ap (λ xs. set xs (length placed) v) locals_here ∙ written placed init v (omega (arith, enough (v ∷ []) e))
            ∙ ap (λ n. (placed ++ v ∷ []) ++ drop (n + 1) init) (sym at_is) ∙ ap (λ xs. xs ++ drop (at + 1) init) (sym m),
      )

  pub two_within : (v w u : Value) → spread (get_or args i d ∷ []) ≡ v ∷ w ∷ [] → at + 1 < length (set locals at u)
  two_within v w u e = omega (arith, enough (v ∷ w ∷ []) e, at_is, ap length locals_here, length-append placed (drop (length placed) init), length-drop (length placed) init, length-set locals at u)

  pub two_placed : (v w : Value) → spread (get_or args i d ∷ []) ≡ v ∷ w ∷ [] → (at + 1 + 1 ≡ length (spread (take (i + 1) args))) × (set (set locals at v) (at + 1) w ≡ spread (take (i + 1) args) ++ drop (at + 1 + 1) init)
  two_placed v w e =
      let m : spread (take (i + 1) args) ≡ placed ++ v ∷ w ∷ [] = spread_more args i d l ∙ ap (λ ws. placed ++ ws) e in
      let n : at + 1 ≡ length (placed ++ v ∷ []) = omega (arith, at_is, length-append placed (v ∷ [])) in
      let one : set locals at v ≡ (placed ++ v ∷ []) ++ drop (length (placed ++ v ∷ [])) init
      = ap (λ n. set locals n v) at_is ∙ ap (λ xs. set xs (length placed) v) locals_here ∙ written placed init v (omega (arith, enough (v ∷ w ∷ []) e))
      ∙ ap (λ n. (placed ++ v ∷ []) ++ drop n init) (sym (length-append placed (v ∷ []))) in (
        omega (arith, at_is, ap length m, length-append placed (v ∷ w ∷ [])),
        ap (λ n. set (set locals at v) n w) n ∙ ap (λ xs. set xs (length (placed ++ v ∷ [])) w) one ∙ written (placed ++ v ∷ []) init w (omega (arith, enough (v ∷ w ∷ []) e, length-append placed (v ∷ [])))
            ∙ ap (λ xs. xs ++ drop (length (placed ++ v ∷ []) + 1) init) (append_assoc placed (v ∷ []) (w ∷ []))
            ∙ ap (λ n. (placed ++ v ∷ w ∷ []) ++ drop (n + 1) init) (sym n) ∙ ap (λ xs. xs ++ drop (at + 1 + 1) init) (sym m),
      )

-- the same at other names
pub kept : (placed init : List Value) (n m : ℕ) (xs ys : List Value) → n ≡ m → xs ≡ ys → (m ≡ length placed) × (ys ≡ placed ++ drop m init) → (n ≡ length placed) × (xs ≡ placed ++ drop n init)
kept placed init n m xs ys e f p = (e ∙ p.0, f ∙ p.1 ∙ ap (λ n. placed ++ drop n init) (sym e))
