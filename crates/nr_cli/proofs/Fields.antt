-- What the linker is given of a class that was read.
use Rattle.std.proofs.Common.{◌≡◌, ℕ, ◌+◌, ◌<◌, ◌≤◌, ◌^◌, List, [], ◌∷◌, ◌++◌, length, min, sym, subst, arith}
use Rattle.std.specs.List.{All}
use Rattle.std.proofs.lemmas.List.Elements.{All-append, All-cons, All-nil}
use Rattle.nr_prog.specs.declared.parts.ClassParts.{ClassParts}
use Rattle.nr_prog.specs.declared.body.loaded.Loaded.{Loaded}
use Rattle.nr_prog.specs.BodyText.{HasBodies}
use Rattle.nr_prog.specs.Form.{IsFormed, IsWithinBounds}
use Rattle.nr_prog.specs.Pool.{IsText}
use Rattle.nr_classread.specs.ClassText.{parts, class_file, ReadsAs}
use Rattle.nr_linkrules.specs.Readable.{IsReadable}

-- the count of fields is a number of 16 bits
few_in : (c : ClassParts) (text : List ℕ) → parts c text → length c.fields < 2 ^ 16
few_in c text t =
    let f = t.second.second.second.second.second in
    subst (λ (z : ClassParts). length z.fields < 2 ^ 16) (sym f.second.second.0) (omega (arith, f.first.first.0, f.first.second.0))

few_fields : (c : ClassParts) (bytes : List ℕ) → class_file c bytes → length c.fields < 2 ^ 16
few_fields c bytes t =
    let p = t.second.second in
    subst (λ (z : ClassParts). length z.fields < 2 ^ 16) (sym p.second.second.second.0) (few_in p.value p.front p.first)

pub readable : (l : Loaded) (bytes : List ℕ) → ReadsAs bytes l.«class» → HasBodies l.«class» l.bodies → IsFormed l.«class» → IsWithinBounds l.«class» → All IsText l.«class».pool → IsReadable l
readable l bytes reads bodies formed bounds texts = record {
  decoded = record { formed = formed; bounds = bounds; bodies = bodies };
  texts = texts;
  few_fields = few_fields l.«class» bytes reads.0;
}

-- with one more, where the files aren't too long together
pub one_more : (old new : List Loaded) (old_len new_len len : ℕ) (l : Loaded) → new_len ≡ min (old_len + len) 67108865 → (new_len ≤ 67108864 → new ≡ old ++ l ∷ [])
    → IsReadable l → (old_len ≤ 67108864 → All IsReadable old) → new_len ≤ 67108864 → All IsReadable new
one_more old new old_len new_len len l lens is own before few =
    let fewer : old_len ≤ 67108864 = omega (arith, lens, few) in
    subst (All IsReadable) (sym (is few))
    (All-append IsReadable old (l ∷ []) (before fewer) (All-cons IsReadable l [] own (All-nil IsReadable)))
