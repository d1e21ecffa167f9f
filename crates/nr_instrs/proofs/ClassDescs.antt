-- The class that bytes name: by its name, or an array by its descriptor.
use Rattle.std.proofs.Common.{◌≡◌, ℕ, suc, ◌-◌, ◌≤◌, Bool, true, false, cond, ◌&&◌, eqb, List, ◌∷◌, ◌++◌, replicate, Some, None, Result, Ok, Err, inl, inr, refl, sym, ap, ◌∙◌, arith}
use Rattle.std.proofs.lemmas.Bool.{ne_eqb, eqb-false}
use Rattle.nr_base.specs.Grammar.{IsBytes}
use Rattle.nr_base.specs.Names.{is_name}
use Rattle.nr_base.specs.LegalNames.{class_from}
use Rattle.nr_base.specs.Descs.{desc, base_text}
use Rattle.nr_base.specs.DescReading.{desc_of}
use Rattle.nr_base.specs.declared.desc.fault.DescFault.{DescFault}
use Rattle.nr_base.specs.declared.desc.types.Desc.{Desc}
use Rattle.nr_prog.specs.LegalTests.{is_class_text}
use Rattle.nr_prog.specs.BodyNames.{object, IsClassOf}
use Rattle.nr_prog.specs.TextForms.{array_in, class_desc}
use Rattle.nr_prog.proofs.LegalLaws.{class_is, of_class}
use Rattle.nr_instrs.proofs.Facts.{desc_is, reads_desc}

array_at : (b : Bool) (x d : Desc) → eqb x.dims 0 ≡ b → cond b None (Some x) ≡ Some d → (x ≡ d) × (d.dims ≡ 0 → ⊥)
array_at true x d e f = absurd cc
array_at false x d e f = let is : x ≡ d = cc in (is, λ z. eqb-false x.dims 0 e (ap (λ (y : Desc). y.dims) is ∙ z))

array_is : (r : Result Desc DescFault) (d : Desc) → array_in r ≡ Some d → (r ≡ Ok d) × (d.dims ≡ 0 → ⊥)
array_is (Ok x) d e = let a = array_at (eqb x.dims 0) x d refl e in (ap (λ z. Ok z) a.0, a.1)
array_is (Err f) d e = absurd cc

-- a class by its name, or else an array by its descriptor
class_or : (bytes : List ℕ) (b : Bool) (d : Desc) → IsBytes bytes → is_class_text bytes ≡ b → cond b (Some (object bytes)) (array_in (desc_of bytes)) ≡ Some d → IsClassOf bytes d
class_or bytes true d fits is e = inl (cc, class_is bytes fits is)
class_or bytes false d fits is e = let a = array_is (desc_of bytes) d e in inr (desc_is bytes d fits a.0, omega (arith, a.1))

-- the class or the array that bytes name is one of which the definition holds
pub class_desc_is : (bytes : List ℕ) (d : Desc) → IsBytes bytes → class_desc bytes ≡ Some d → IsClassOf bytes d
unfolding class_desc
class_desc_is bytes d fits e = class_or bytes (is_class_text bytes) d fits refl e

and_false : (b : Bool) → (b && false) ≡ false
and_false true = refl
and_false false = refl

-- an array's descriptor is no name of a class
no_class : (bytes : List ℕ) (d : Desc) → desc d bytes → 1 ≤ d.dims → is_class_text bytes ≡ false
unfolding is_class_text
no_class bytes d g le =
    let k : d.dims ≡ suc (d.dims - 1) = omega arith in
    let here : bytes ≡ 0x5B ∷ (replicate (d.dims - 1) 0x5B ++ base_text d.base) = g.1 ∙ ap (λ n. replicate n 0x5B ++ base_text d.base) k in
    ap (λ z. is_name bytes && class_from false z) here ∙ and_false (is_name bytes)

-- and each of which it holds is found
pub class_desc_of : (bytes : List ℕ) (d : Desc) → IsClassOf bytes d → class_desc bytes ≡ Some d
unfolding class_desc
class_desc_of bytes d (inl h) = ap (λ b. cond b (Some (object bytes)) (array_in (desc_of bytes))) (of_class bytes h.1) ∙ ap (λ z. Some z) (sym h.0)
class_desc_of bytes d (inr h) =
    ap (λ b. cond b (Some (object bytes)) (array_in (desc_of bytes))) (no_class bytes d h.0 h.1)
    ∙ ap array_in (reads_desc bytes d h.0) ∙ ap (λ b. cond b None (Some d)) (ne_eqb d.dims 0 (omega (arith, h.1)))
