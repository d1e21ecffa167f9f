-- Kinds compared by their components: it comes to their numbers of dimensions.
use Rattle.std.proofs.Common.{◌≡◌, ℕ, zero, suc, ◌<◌, Bool, false, refl, arith}
use Rattle.nr_linked.specs.declared.program.kind.Base.{Base}
use Rattle.nr_linked.specs.Subtypes.{by_components}

pub components_more : (bases : Base → Base → Bool) (of_array : Base → Bool) (m : ℕ) (a : Base) (n : ℕ) (b : Base) → n < m → by_components bases of_array m a n b ≡ of_array b
components_more bases of_array zero a n b l = absurd (omega arith)
components_more bases of_array (suc m) a zero b l = refl
components_more bases of_array (suc m) a (suc n) b l = components_more bases of_array m a n b (omega arith)

pub components_same : (bases : Base → Base → Bool) (of_array : Base → Bool) (m : ℕ) (a : Base) (n : ℕ) (b : Base) → m ≡ n → by_components bases of_array m a n b ≡ bases a b
components_same bases of_array zero a zero b e = refl
components_same bases of_array zero a (suc n) b e = absurd (omega arith)
components_same bases of_array (suc m) a zero b e = absurd (omega arith)
components_same bases of_array (suc m) a (suc n) b e = components_same bases of_array m a n b (omega arith)

pub components_less : (bases : Base → Base → Bool) (of_array : Base → Bool) (m : ℕ) (a : Base) (n : ℕ) (b : Base) → m < n → by_components bases of_array m a n b ≡ false
components_less bases of_array zero a zero b l = absurd (omega arith)
components_less bases of_array zero a (suc n) b l = refl
components_less bases of_array (suc m) a zero b l = absurd (omega arith)
components_less bases of_array (suc m) a (suc n) b l = components_less bases of_array m a n b (omega arith)
