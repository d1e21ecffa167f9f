-- In code whose offsets rise, instructions stand in the order of their offsets.
use Rattle.std.proofs.Common.{◌≡◌, ℕ, zero, suc, ◌+◌, ◌<◌, ◌≤◌, List, [], ◌∷◌, length, refl, sym, ap, subst, ◌∙◌, Bool, true, false, arith, nat_le, inl, inr}
use Rattle.std.specs.Prelude.{◌⊎◌, Option, Some, None, IsSomeAnd, slice_get, slice_index_or}
use Rattle.std.proofs.lemmas.Bool.Decides.{leb_tells}
use Rattle.nr_prog.specs.declared.body.instruction.Instr.{Instr}
use Rattle.nr_prog.specs.Offsets.{RiseAbove, StandInOrder}
use Rattle.nr_machine.proofs.InFrame.{IsAt, at_there}

some_eq : {X : Type 0} {a b : X} → Some a ≡ Some b → a ≡ b
some_eq e = cc

none_some : {X : Type 0} {a : X} → ◌≡◌ {A = Option X} None (Some a) → ⊥
none_some e = cc

above : (low : ℕ) (is : List Instr) (i : ℕ) (x : Instr) → RiseAbove low is → slice_get is i ≡ Some x → low < x.at
above low [] i x r e = absurd (none_some e)
above low (y ∷ is) zero x r e = subst (λ x. low < x.at) (some_eq e) r.0
above low (y ∷ is) (suc i) x r e = omega (arith, r.0, above y.at is i x r.1 e)

rising : (is : List Instr) (low j k : ℕ) (x y : Instr) → RiseAbove low is → slice_get is j ≡ Some x → slice_get is k ≡ Some y → j < k → x.at < y.at
rising [] low j k x y r e f l = absurd (none_some e)
rising (z ∷ is) low zero zero x y r e f l = absurd (omega (arith, l))
rising (z ∷ is) low zero (suc k) x y r e f l = subst (λ x. x.at < y.at) (some_eq e) (above z.at is k y r.1 f)
rising (z ∷ is) low (suc j) zero x y r e f l = absurd (omega (arith, l))
rising (z ∷ is) low (suc j) (suc k) x y r e f l = rising is z.at j k x y r.1 e f (omega (arith, l))

rises : (is : List Instr) → StandInOrder is → (j k : ℕ) (x y : Instr) → slice_get is j ≡ Some x → slice_get is k ≡ Some y → j < k → x.at < y.at
rises [] o j k x y e f l = absurd o
rises (z ∷ is) o zero zero x y e f l = absurd (omega (arith, l))
rises (z ∷ is) o zero (suc k) x y e f l = subst (λ x. x.at < y.at) (some_eq e) (above z.at is k y o.1 f)
rises (z ∷ is) o (suc j) zero x y e f l = absurd (omega (arith, l))
rises (z ∷ is) o (suc j) (suc k) x y e f l = rising is z.at j k x y o.1 e f (omega (arith, l))

pub before : (is : List Instr) → StandInOrder is → (j k : ℕ) (x y : Instr) → slice_get is j ≡ Some x → slice_get is k ≡ Some y → x.at < y.at → j < k
before is o j k x y e f l = by (leb_tells (suc j) k)
  where
    not_above : ((nat_le (suc k) j ≡ true) × (suc k ≤ j)) ⊎ ((nat_le (suc k) j ≡ false) × (j < suc k)) → k < suc j → j < k
    not_above (inl m) b = absurd (omega (arith, rises is o k j y x f e (omega (arith, m.1)), l))
    not_above (inr m) b =
        let s : j ≡ k = omega (arith, m.1, b) in
        let t : x ≡ y = some_eq (sym e ∙ ap (slice_get is) s ∙ f) in
        absurd (omega (arith, l, ap (λ (x : Instr). x.at) t))

    by : ((nat_le (suc j) k ≡ true) × (suc j ≤ k)) ⊎ ((nat_le (suc j) k ≡ false) × (k < suc j)) → j < k
    by (inl m) = omega (arith, m.1)
    by (inr m) = not_above (leb_tells (suc k) j) m.1

-- what is read within a list is there
pub read_there : {X : Type 0} (is : List X) (i : ℕ) (d x : X) → i < length is → x ≡ slice_index_or is i d → slice_get is i ≡ Some x
read_there [] i d x l e = absurd (omega (arith, l))
read_there (y ∷ is) zero d x l e = ap Some (sym e)
read_there (y ∷ is) (suc i) d x l e = read_there is i d x (omega (arith, l)) e

-- the instruction searched for stands above one with a lower offset, and below one with a higher
module _ (is : List Instr) (o : StandInOrder is) (k n m : ℕ) (there : IsAt is k n) (x d : Instr) (l : m < length is) (e : x ≡ slice_index_or is m d) where
  pub stands_above : x.at < n → m < k
  stands_above low = let y = at_there is k n there in before is o m k x y.0 (read_there is m d x l e) y.1 (omega (arith, low, y.2))

  pub stands_below : n < x.at → k < m
  stands_below high = let y = at_there is k n there in before is o k m y.0 x y.1 (read_there is m d x l e) (omega (arith, high, y.2))
