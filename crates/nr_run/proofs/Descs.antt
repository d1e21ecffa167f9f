-- A method whose descriptor is `([I)I` takes an array of int and returns an int.
use Rattle.std.proofs.Common.{◌≡◌, ℕ, zero, suc, List, [], ◌∷◌, get_or, refl, sym, ap, ◌∙◌, arith}
use Rattle.std.specs.Prelude.{Option, Some, None, codes}
use Rattle.nr_linked.specs.declared.program.kind.Base.{Base}
use Rattle.nr_linked.specs.declared.program.kind.Base.TheVariants.{Bool, Byte, Char, Short, Int, Long, Object}
use Rattle.nr_linked.specs.declared.program.kind.Kind.{Kind}
use Rattle.nr_linked.specs.declared.program.tables.ProgramTables.{ProgramTables}
use Rattle.nr_linked.specs.KindTexts.{signature_text}
use Rattle.nr_linked.specs.Kinds.{array_of}
use Rattle.nr_run.specs.Runs.{int_kind}

abbrev Same : ℕ → ℕ → Type 0
Same m n = m ≡ n

-- one byte of two texts
at : (i : ℕ) {xs ys : List ℕ} → xs ≡ ys → get_or xs i 0 ≡ get_or ys i 0
at i e = ap (λ cs. get_or cs i 0) e

-- the text is that of a descriptor `([I)I`
abbrev IsText : ProgramTables → List Kind → Option Kind → Type 0
IsText P ks r = signature_text P ks r ≡ codes "([I)I"

module _ (P : ProgramTables) where
  result_of : (r : Option Kind) → IsText P (array_of int_kind ∷ []) r → r ≡ Some int_kind
  result_of None e = let n : Same 86 73 = at 4 e in absurd (omega arith)
  result_of (Some k) e = by_dims k.dims k.base e
    where
      by_dims : (d : ℕ) (b : Base) → IsText P (array_of int_kind ∷ []) (Some (record { dims = d; base = b })) → Some (record { dims = d; base = b }) ≡ Some int_kind
      by_dims zero Int e = refl
      by_dims zero Bool e = let n : Same 90 73 = at 4 e in absurd (omega arith)
      by_dims zero Byte e = let n : Same 66 73 = at 4 e in absurd (omega arith)
      by_dims zero Char e = let n : Same 67 73 = at 4 e in absurd (omega arith)
      by_dims zero Short e = let n : Same 83 73 = at 4 e in absurd (omega arith)
      by_dims zero Long e = let n : Same 74 73 = at 4 e in absurd (omega arith)
      by_dims zero (Object c) e = let n : Same 76 73 = at 4 e in absurd (omega arith)
      by_dims (suc d) b e = let n : Same 91 73 = at 4 e in absurd (omega arith)

  no_second : (k : Kind) (ks : List Kind) (r : Option Kind) → IsText P (array_of int_kind ∷ k ∷ ks) r → ⊥
  no_second k ks r e = by_dims k.dims k.base e
    where
      by_dims : (d : ℕ) (b : Base) → IsText P (array_of int_kind ∷ record { dims = d; base = b } ∷ ks) r → ⊥
      by_dims zero Int e = let n : Same 73 41 = at 3 e in omega arith
      by_dims zero Bool e = let n : Same 90 41 = at 3 e in omega arith
      by_dims zero Byte e = let n : Same 66 41 = at 3 e in omega arith
      by_dims zero Char e = let n : Same 67 41 = at 3 e in omega arith
      by_dims zero Short e = let n : Same 83 41 = at 3 e in omega arith
      by_dims zero Long e = let n : Same 74 41 = at 3 e in omega arith
      by_dims zero (Object c) e = let n : Same 76 41 = at 3 e in omega arith
      by_dims (suc d) b e = let n : Same 91 41 = at 3 e in omega arith

  first : (k : Kind) (ks : List Kind) (r : Option Kind) → IsText P (k ∷ ks) r → k ≡ array_of int_kind
  first k ks r e = by_dims k.dims k.base e
    where
      by_dims : (d : ℕ) (b : Base) → IsText P (record { dims = d; base = b } ∷ ks) r → record { dims = d; base = b } ≡ array_of int_kind
      by_dims zero Int e = let n : Same 73 91 = at 1 e in absurd (omega arith)
      by_dims zero Bool e = let n : Same 90 91 = at 1 e in absurd (omega arith)
      by_dims zero Byte e = let n : Same 66 91 = at 1 e in absurd (omega arith)
      by_dims zero Char e = let n : Same 67 91 = at 1 e in absurd (omega arith)
      by_dims zero Short e = let n : Same 83 91 = at 1 e in absurd (omega arith)
      by_dims zero Long e = let n : Same 74 91 = at 1 e in absurd (omega arith)
      by_dims zero (Object c) e = let n : Same 76 91 = at 1 e in absurd (omega arith)
      by_dims (suc zero) Int e = refl
      by_dims (suc zero) Bool e = let n : Same 90 73 = at 2 e in absurd (omega arith)
      by_dims (suc zero) Byte e = let n : Same 66 73 = at 2 e in absurd (omega arith)
      by_dims (suc zero) Char e = let n : Same 67 73 = at 2 e in absurd (omega arith)
      by_dims (suc zero) Short e = let n : Same 83 73 = at 2 e in absurd (omega arith)
      by_dims (suc zero) Long e = let n : Same 74 73 = at 2 e in absurd (omega arith)
      by_dims (suc zero) (Object c) e = let n : Same 76 73 = at 2 e in absurd (omega arith)
      by_dims (suc (suc d)) b e = let n : Same 91 73 = at 2 e in absurd (omega arith)

  pub main_kinds : (ks : List Kind) (r : Option Kind) → signature_text P ks r ≡ codes "([I)I" → (ks ≡ array_of int_kind ∷ []) × (r ≡ Some int_kind)
  main_kinds [] r e = let n : Same 41 91 = at 1 e in absurd (omega arith)
  main_kinds (k ∷ []) r e =
      let f = first k [] r e in
      (ap (λ k. k ∷ []) f, result_of r (ap (λ k. signature_text P (k ∷ []) r) (sym f) ∙ e))
  main_kinds (k ∷ l ∷ ks) r e =
      let f = first k (l ∷ ks) r e in
      absurd (no_second l ks r (ap (λ k. signature_text P (k ∷ l ∷ ks) r) (sym f) ∙ e))
