-- Members that no earlier member doubles are members that stand apart.
use Rattle.std.proofs.Common.{◌≡◌, ℕ, ◌<◌, Bool, true, false, ◌&&◌, List, length, get_or, take, Option, Some, None, refl, sym, ap, ◌∙◌, arith}
use Rattle.std.specs.List.{AllPairs}
use Rattle.std.specs.Option.{option_map_or}
use Rattle.std.specs.Str.{bytes_eq}
use Rattle.std.specs.Cmp.Lexicographic.{bytes_decides}
use Rattle.std.proofs.lemmas.List.{get_or-take, get_or_default, length-take}
use Rattle.std.proofs.lemmas.List.Folds.{list_any_at, list_any_none}
use Rattle.nr_prog.specs.declared.pool.PoolEntry.{PoolEntry}
use Rattle.nr_prog.specs.declared.fault.FormFault.TheVariants.{Doubled}
use Rattle.nr_prog.specs.Pool.{text_at}
use Rattle.nr_prog.specs.Members.{spells, is_spelled, is_in}
use Rattle.nr_prog.specs.Rules.{doubled_fault}
use Rattle.nr_prog.specs.Form.{AreApart}
use Rattle.nr_prog.proofs.Members.{spells_at, among_at}
use Rattle.nr_prog.proofs.NoFault.{passes, passed, is_false, not_false}

has_value : (test : List ℕ → Bool) (o : Option (List ℕ)) → option_map_or test o false ≡ true → (t : List ℕ) × (o ≡ Some t)
has_value test (Some t) e = (t, refl)
has_value test None e = absurd cc

-- an index that names a text which passes some test names a text
pub has_text : (test : List ℕ → Bool) (pool : List PoolEntry) (index : ℕ) → spells test pool index ≡ true → (t : List ℕ) × (text_at pool index ≡ Some t)
unfolding spells
has_text test pool index e = has_value test (text_at pool index) e

so_both : (a b : Bool) → (a && b) ≡ true → (a ≡ true) × (b ≡ true)
so_both true b e = (refl, e)
so_both false b e = absurd cc

both_so : (a b : Bool) → a ≡ true → b ≡ true → (a && b) ≡ true
both_so true b e f = f
both_so false b e f = absurd cc

spelled_so : (pool : List PoolEntry) (x : List ℕ) (n : ℕ) → spells (bytes_eq x) pool n ≡ true → text_at pool n ≡ Some x
spelled_so pool x n e =
    let t = has_text (bytes_eq x) pool n e in
    let same : x ≡ t.0 = (bytes_decides x t.0).0 (sym (spells_at (bytes_eq x) pool n t.0 t.1) ∙ e) in
    t.1 ∙ ap (λ z. Some z) (sym same)

so_spelled : (pool : List PoolEntry) (x : List ℕ) (n : ℕ) → text_at pool n ≡ Some x → spells (bytes_eq x) pool n ≡ true
so_spelled pool x n e = spells_at (bytes_eq x) pool n x e ∙ (bytes_decides x x).1 refl

no_true : (b : Bool) → (b ≡ true → ⊥) → b ≡ false
no_true true h = absurd (h refl)
no_true false h = refl

-- the indices name texts
pub record HasTexts (pool : List PoolEntry) (n d : ℕ) : Type 0 where
  pub name : (t : List ℕ) × (text_at pool n ≡ Some t)
  pub desc : (t : List ℕ) × (text_at pool d ≡ Some t)

module _ {X : Type 0} (name_of desc_of : X → ℕ) (pool : List PoolEntry) (members : List X) where
  abbrev Apart : X → X → Type 0
  Apart m n = AreApart pool (name_of m) (desc_of m) (name_of n) (desc_of n)

  -- the member m is not doubled by those before place j
  abbrev pub IsNew : ℕ → X → Type 0
  IsNew j m = doubled_fault (is_in name_of desc_of pool (take j members)) pool (name_of m) (desc_of m) ≡ None

  new_in : (j : ℕ) (m : X) (t : HasTexts pool (name_of m) (desc_of m)) → IsNew j m → is_in name_of desc_of pool (take j members) t.name.0 t.desc.0 ≡ false
  unfolding doubled_fault
  new_in j m t new =
      sym (among_at (is_in name_of desc_of pool (take j members)) pool (name_of m) (desc_of m) t.name.0 t.desc.0 t.name.1 t.desc.1)
      ∙ is_false _ (passes _ (Doubled (name_of m)) new)

  in_new : (j : ℕ) (m : X) (t : HasTexts pool (name_of m) (desc_of m)) → is_in name_of desc_of pool (take j members) t.name.0 t.desc.0 ≡ false → IsNew j m
  unfolding doubled_fault
  in_new j m t out =
      passed _ (Doubled (name_of m)) (not_false _
      (among_at (is_in name_of desc_of pool (take j members)) pool (name_of m) (desc_of m) t.name.0 t.desc.0 t.name.1 t.desc.1 ∙ out))

  clash : (i j : ℕ) (d : X) (t : HasTexts pool (name_of (get_or members j d)) (desc_of (get_or members j d))) → i < j → j < length members
      → (text_at pool (name_of (get_or members i d)) ≡ Some t.name.0) × (text_at pool (desc_of (get_or members i d)) ≡ Some t.desc.0)
      → is_in name_of desc_of pool (take j members) t.name.0 t.desc.0 ≡ true
  unfolding is_in is_spelled
  clash i j d t lt in' same =
      let test : X → Bool = λ n. is_spelled pool t.name.0 t.desc.0 (name_of n) (desc_of n) in
      let short : i < length (take j members) = omega (arith, length-take j members) in
      let hit : test (get_or members i d) ≡ true = both_so _ _ (so_spelled pool t.name.0 _ same.0) (so_spelled pool t.desc.0 _ same.1) in
      list_any_at test (take j members) i d short (ap test (get_or-take j members i d lt) ∙ hit)

  pub apart_of_new : ((i : ℕ) (d : X) → i < length members → HasTexts pool (name_of (get_or members i d)) (desc_of (get_or members i d))) → ((i : ℕ) (d : X) → i < length members → IsNew i (get_or members i d)) → AllPairs Apart members
  apart_of_new texts new i j d lt in' same =
      let t = texts j d in' in
      let out = new_in j (get_or members j d) t (new j d in') in
      let hit = clash i j d t lt in' (same.0 ∙ t.name.1, same.1 ∙ t.desc.1) in
      let bad : false ≡ true = sym out ∙ hit in
      absurd cc

  pub new_of_apart : ((i : ℕ) (d : X) → i < length members → HasTexts pool (name_of (get_or members i d)) (desc_of (get_or members i d))) → AllPairs Apart members → (j : ℕ) (d : X) → j < length members → IsNew j (get_or members j d)
  unfolding is_in is_spelled
  new_of_apart texts apart j d in' =
      let m = get_or members j d in
      let t = texts j d in' in
      let test : X → Bool = λ n. is_spelled pool t.name.0 t.desc.0 (name_of n) (desc_of n) in
      in_new j m t (list_any_none test (take j members) (λ i e short.
      let lt : i < j = omega (arith, length-take j members) in
      let same : get_or (take j members) i e ≡ get_or members i e = get_or-take j members i e lt in
      no_true (test (get_or (take j members) i e)) (λ hit.
      let both = so_both _ _ (sym (ap test same) ∙ hit) in
      let later : get_or members j d ≡ get_or members j e = get_or_default members j d e in' in
      apart i j e lt in' (
        spelled_so pool t.name.0 _ both.0 ∙ sym t.name.1 ∙ ap (λ (k : X). text_at pool (name_of k)) later,
        spelled_so pool t.desc.0 _ both.1 ∙ sym t.desc.1 ∙ ap (λ (k : X). text_at pool (desc_of k)) later,
      ))))
