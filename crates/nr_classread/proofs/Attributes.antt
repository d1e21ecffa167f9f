-- The laws of attributes.
use Rattle.std.proofs.Common.{◌≡◌, ℕ, ◌<◌, ◌^◌, true, false, List, ◌++◌, length, Option, Some, None, refl, sym, ap, subst, ◌∙◌}
use Rattle.std.specs.Prelude.{is_some}
use Rattle.std.specs.Int.{w16, w32, to_be_bytes}
use Rattle.nr_base.specs.Grammar.{Grammar, number, run, give, none, Then, pick, Sized}
use Rattle.nr_base.proofs.Laws.{Reads, give_law, none_law, then_law, pick_law, from_law, same_law}
use Rattle.nr_base.proofs.Lists.{leaf, made, picked, picks_first, picks_second}
use Rattle.nr_prog.specs.declared.pool.PoolEntry.{PoolEntry}
use Rattle.nr_classread.specs.declared.fault.ClassFault.TheVariants as faults
use Rattle.nr_classread.specs.Numbers.{Read, u2, u4}
use Rattle.nr_classread.specs.AttributeText.{is_named, IsAttribute, IsRead, IsSkipped, attribute}
use Rattle.nr_classread.specs.AttributeReading.{skip_at, attribute_at, ignored_at}
use Rattle.nr_classread.specs.ClassText.{ignored}
use Rattle.nr_classread.proofs.Pools.{two_law, four_law, bytes_law}

-- ---- the same in the order in which it is read

-- a length and so many bytes
abbrev skipped : Grammar (Unit {0})
skipped = Then u4 (λ len. Then (run len) (λ bytes. give tt))

-- a length and contents of that size
abbrev sized : {A : Type 0} → (A → List ℕ → Type 0) → Option A → List ℕ → Type 0
sized G = Then u4 (λ len. Then (Sized len G) (λ x. give (Some x)))

abbrev unchanged : {A : Type 0} → Option A → Option A → List ℕ → Type 0
unchanged seen = Then skipped (λ u. give seen)

abbrev in_order : {A : Type 0} → List PoolEntry → List ℕ → (A → List ℕ → Type 0) → Option A → Option A → List ℕ → Type 0
in_order pool known G seen =
    Then u2 (λ name. pick (is_named pool known name) (pick (is_some seen) none (sized G)) (unchanged seen))

skip_law : Reads skip_at skipped
unfolding skip_at
skip_law = then_law four_law (λ len. then_law (bytes_law len) (λ bytes. give_law tt))

in_order_law : {A : Type 0} (pool : List PoolEntry) (known : List ℕ) {contents_at : ℕ → ℕ → Read A} {G : A → List ℕ → Type 0} → ((at len : ℕ) → Reads (contents_at at len) (Sized len G)) → (seen : Option A)
    → Reads (attribute_at pool known contents_at seen) (in_order pool known G seen)
unfolding attribute_at
in_order_law pool known contents seen = from_law (λ at. then_law two_law (λ name.
    pick_law (is_named pool known name)
    (pick_law (is_some seen) (none_law (faults.DoubledAttr at)) (then_law four_law (λ len. then_law (contents at len) (λ x. give_law (Some x)))))
    (then_law skip_law (λ u. give_law seen))))

-- ---- from what was read to the cases

is_attribute : (name len : ℕ) (contents front middle back text : List ℕ) → number w16 name front → number w32 len middle → length contents ≡ len → back ≡ middle ++ contents → text ≡ front ++ back → IsAttribute name contents text
is_attribute name len contents front middle back text n l size inner outer = record {
  name_fits = n.0;
  length_fits = subst (λ z. z < 2 ^ 32) (sym size) l.0;
  whole = outer ∙ ap (λ z. z ++ back) n.1 ∙ ap (λ z. to_be_bytes w16 name ++ z) (inner ∙ ap (λ z. z ++ contents) (l.1 ∙ ap (to_be_bytes w32) (sym size)));
}

-- a length and bytes that were skipped, behind a name
ignores : (name : ℕ) (u : Unit {0}) (front back text : List ℕ) → number w16 name front → skipped u back → text ≡ front ++ back → (contents : List ℕ) × IsAttribute name contents text
ignores name u front back text n s outer =
    let m = leaf {f = λ bytes. tt} s.second in
    (s.back, is_attribute name s.value s.back front s.front back text n s.first (ap length m.2.1 ∙ m.2.0) s.whole outer)

skips : {A : Type 0} (pool : List PoolEntry) (known : List ℕ) (seen y : Option A) (name : ℕ) (front back text : List ℕ) → number w16 name front → is_named pool known name ≡ false → unchanged seen y back → text ≡ front ++ back
    → (y ≡ seen) × IsSkipped pool known text
skips pool known seen y name front back text n other t outer =
    let l = leaf {f = λ u. seen} t in
    let s = ignores name l.0 front back text n l.2 outer in
    (l.1, record { name = name; contents = s.0; attribute = s.1; other = other })

reads : {A : Type 0} (pool : List PoolEntry) (known : List ℕ) (G : A → List ℕ → Type 0) (y : Option A) (name : ℕ) (front back text : List ℕ) → number w16 name front → is_named pool known name ≡ true → sized G y back → text ≡ front ++ back
    → (x : A) × (y ≡ Some x) × IsRead pool known G x text
reads pool known G y name front back text n named t outer =
    let l = leaf t.second in
    (l.0, l.1, record { name = name; contents = t.back; attribute = is_attribute name t.value t.back front t.front back text n t.first l.2.1 t.whole outer; named = named; value = l.2.0 })

to_cases : {A : Type 0} (pool : List PoolEntry) (known : List ℕ) (G : A → List ℕ → Type 0) (seen y : Option A) (text : List ℕ) → in_order pool known G seen y text → attribute pool known G seen y text
to_cases pool known G None y text t =
    picked (is_named pool known t.value) (sized G) (unchanged None) y t.back t.second
    (λ named g. let r = reads pool known G y t.value t.front t.back text t.first named g t.whole in subst (λ z. attribute pool known G None z text) (sym r.1) r.2)
    (λ other g. let s = skips pool known None y t.value t.front t.back text t.first other g t.whole in subst (λ z. attribute pool known G None z text) (sym s.0) s.1)
to_cases pool known G (Some x) y text t =
    picked (is_named pool known t.value) none (unchanged (Some x)) y t.back t.second
    (λ named g. absurd g)
    (λ other g. let s = skips pool known (Some x) y t.value t.front t.back text t.first other g t.whole in subst (λ z. attribute pool known G (Some x) z text) (sym s.0) (refl, s.1))

-- ---- and back

abbrev behind : List ℕ → List ℕ
behind contents = to_be_bytes w32 (length contents) ++ contents

skipped_back : (contents : List ℕ) → length contents < 2 ^ 32 → skipped tt (behind contents)
skipped_back contents fits = record { value = length contents; front = to_be_bytes w32 (length contents); back = contents; first = (fits, refl); second = made {f = λ bytes. tt} contents contents (refl, refl); whole = refl }

from_skipped : {A : Type 0} (pool : List PoolEntry) (known : List ℕ) (G : A → List ℕ → Type 0) (seen : Option A) (text : List ℕ) → IsSkipped pool known text → in_order pool known G seen seen text
from_skipped pool known G seen text s = record {
  value = s.name;
  front = to_be_bytes w16 s.name;
  back = behind s.contents;
  first = (s.attribute.name_fits, refl);
  second = picks_second (is_named pool known s.name) _ (unchanged seen) seen (behind s.contents) s.other (made {f = λ u. seen} tt (behind s.contents) (skipped_back s.contents s.attribute.length_fits));
  whole = s.attribute.whole;
}

from_read : {A : Type 0} (pool : List PoolEntry) (known : List ℕ) (G : A → List ℕ → Type 0) (x : A) (text : List ℕ) → IsRead pool known G x text → in_order pool known G None (Some x) text
from_read pool known G x text r = record {
  value = r.name;
  front = to_be_bytes w16 r.name;
  back = behind r.contents;
  first = (r.attribute.name_fits, refl);
  second = picks_first (is_named pool known r.name) (sized G) _ (Some x) (behind r.contents) r.named
      (record { value = length r.contents; front = to_be_bytes w32 (length r.contents); back = r.contents; first = (r.attribute.length_fits, refl); second = made x r.contents (r.value, refl); whole = refl });
  whole = r.attribute.whole;
}

from_cases : {A : Type 0} (pool : List PoolEntry) (known : List ℕ) (G : A → List ℕ → Type 0) (seen y : Option A) (text : List ℕ) → attribute pool known G seen y text → in_order pool known G seen y text
from_cases pool known G None None text s = from_skipped pool known G None text s
from_cases pool known G None (Some x) text r = from_read pool known G x text r
from_cases pool known G (Some x) (Some y) text s = subst (λ z. in_order pool known G (Some x) (Some z) text) (sym s.0) (from_skipped pool known G (Some x) text s.1)
from_cases pool known G (Some x) None text s = absurd s

-- an attribute by cases
pub attribute_law : {A : Type 0} (pool : List PoolEntry) (known : List ℕ) {contents_at : ℕ → ℕ → Read A} {G : A → List ℕ → Type 0} → ((at len : ℕ) → Reads (contents_at at len) (Sized len G)) → (seen : Option A)
    → Reads (attribute_at pool known contents_at seen) (attribute pool known G seen)
attribute_law pool known {G = G} contents seen = same_law (in_order_law pool known contents seen) (λ y t g. to_cases pool known G seen y t g) (λ y t g. from_cases pool known G seen y t g)

pub ignored_law : (s : Unit {0}) → Reads (ignored_at s) (ignored s)
unfolding ignored_at
ignored_law s = same_law (then_law two_law (λ name. skip_law))
    (λ u t g. let a = ignores g.value u g.front g.back t g.first g.second g.whole in record { name = g.value; contents = a.0; attribute = a.1 })
    (λ u t g. record { value = g.name; front = to_be_bytes w16 g.name; back = behind g.contents; first = (g.attribute.name_fits, refl); second = skipped_back g.contents g.attribute.length_fits; whole = g.attribute.whole })
