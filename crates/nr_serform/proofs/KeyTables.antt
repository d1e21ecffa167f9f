-- Handles by keys, and by what these say.
use Rattle.std.proofs.Common.{◌≡◌, ℕ, ◌+◌, Bool, true, false, cond, not, ◌&&◌, ◌||◌, List, [], ◌∷◌, ◌++◌, length, map, nat_lt, Option, None, Some, is_some, position, refl, sym, ap, ◌∙◌, if◌then◌else◌}
use Rattle.std.specs.Prelude.{◌==◌}
use Rattle.std.specs.List.{list_any, position_or_len}
use Rattle.std.proofs.lemmas.List.{map-append}
use Rattle.nr_linked.specs.contracts.program.kind.BasePartialEq.TheImpl.{eq-value as base_eq}
use Rattle.nr_linked.specs.declared.program.kind.Base.{Base}
use Rattle.nr_linked.specs.declared.program.kind.Base.TheVariants as bases
use Rattle.nr_serform.specs.contracts.handled.HandledPartialEq.TheImpl.{eq-value}
use Rattle.nr_serform.specs.declared.handled.Handled.{Handled}
use Rattle.nr_serform.specs.declared.handled.Handled.TheVariants as keys
use Rattle.nr_serform.specs.Entries.{Entry, is_same_base, is_same_entry}
use Rattle.nr_serform.specs.Handles.{has}
use Rattle.nr_serform.specs.Keys.{entry_of}

-- ---- keys are equal where they say the same

same_base : (a b : Base) → base_eq.it a b ≡ is_same_base a b
same_base bases.Bool bases.Bool = refl
same_base bases.Byte bases.Byte = refl
same_base bases.Char bases.Char = refl
same_base bases.Short bases.Short = refl
same_base bases.Int bases.Int = refl
same_base bases.Long bases.Long = refl
same_base (bases.Object c) (bases.Object d) = refl
same_base a b = refl

same_key : (x y : Handled) → eq-value.it x y ≡ is_same_entry (entry_of x) (entry_of y)
same_key (keys.Class k) (keys.Class l) = λ i. (k.dims == l.dims) && same_base k.base l.base i
same_key (keys.Text s) (keys.Text t) = refl
same_key (keys.Object i) (keys.Object j) = refl
same_key a b = refl

-- whether a key says the same as x
abbrev says : Handled → Handled → Bool
says x y = is_same_entry (entry_of x) (entry_of y)

says_is : (x : Handled) → eq-value.it x ≡ says x
says_is x = λ i y. same_key x y i

-- ---- along a map

any_map : {X Y : Type 0} (p : Y → Bool) (f : X → Y) (xs : List X) → list_any p (map f xs) ≡ list_any (λ x. p (f x)) xs
any_map p f [] = refl
any_map p f (x ∷ xs) = ap (λ b. p (f x) || b) (any_map p f xs)

place_map : {X Y : Type 0} (p : Y → Bool) (f : X → Y) (xs : List X) → position_or_len p (map f xs) ≡ position_or_len (λ x. p (f x)) xs
place_map p f [] = refl
place_map p f (x ∷ xs) = ap (λ n. cond (not (p (f x))) (1 + n) 0) (place_map p f xs)

-- ---- what was looked for

module _ (ks : List Handled) (table : List Entry) (x : Handled) (view : map entry_of ks ≡ table) where
  has_is : list_any (eq-value.it x) ks ≡ has table (entry_of x)
  has_is =
      ap (λ p. list_any p ks) (says_is x) ∙ sym (any_map (is_same_entry (entry_of x)) entry_of ks)
      ∙ ap (list_any (is_same_entry (entry_of x))) view

  place_is : position_or_len (eq-value.it x) ks ≡ position_or_len (is_same_entry (entry_of x)) table
  place_is =
      ap (λ p. position_or_len p ks) (says_is x) ∙ sym (place_map (is_same_entry (entry_of x)) entry_of ks)
      ∙ ap (position_or_len (is_same_entry (entry_of x))) view

  pub key_missed : (r : Option ℕ) → r ≡ None → is_some r ≡ list_any (eq-value.it x) ks → has table (entry_of x) ≡ false
  key_missed r none e = sym has_is ∙ sym e ∙ ap is_some none

  pub key_found : (i : ℕ) → Some i ≡ position (eq-value.it x) ks → is_some (Some i) ≡ list_any (eq-value.it x) ks
      → (i ≡ position_or_len (is_same_entry (entry_of x)) table) × (has table (entry_of x) ≡ true)
  key_found i e f = (by (nat_lt (position_or_len (eq-value.it x) ks) (length ks)) e ∙ place_is, sym has_is ∙ sym f)
    where
      by : (b : Bool) → Some i ≡ cond b (Some (position_or_len (eq-value.it x) ks)) None → i ≡ position_or_len (eq-value.it x) ks
      by true h = cc
      by false h = cc

  pub key_given : (more : List Handled) → has table (entry_of x) ≡ false → more ≡ (if list_any (eq-value.it x) ks then ks else ks ++ x ∷ [])
      → map entry_of more ≡ table ++ entry_of x ∷ []
  key_given more new e =
      ap (map entry_of) (e ∙ ap (λ b. if b then ks else ks ++ x ∷ []) (has_is ∙ new)) ∙ map-append entry_of ks (x ∷ [])
      ∙ ap (λ zs. zs ++ entry_of x ∷ []) view
