-- Where no rule on the list of classes is broken, the names of all classes are apart.
use Rattle.std.proofs.Common.{◌≡◌, ℕ, zero, suc, ◌+◌, ◌-◌, ◌<◌, ◌&&◌, ◌||◌, Bool, true, false, not, List, [], ◌∷◌, ◌++◌, length, map, take, get_or, refl, sym, ap, subst, ◌∙◌, inl, inr, arith, append_assoc, length-append}
use Rattle.std.specs.Prelude.{Some, None, slice_get, nat_lt}
use Rattle.std.specs.Option.{option_map}
use Rattle.std.specs.List.{list_all, list_any}
use Rattle.std.specs.Str.{bytes_eq}
use Rattle.std.proofs.lemmas.Bool.{and_parts, both_ways, false_from_ne_true, ltb-false, ltb-true}
use Rattle.std.proofs.lemmas.List.{get_or_append_left, length-map}
use Rattle.std.proofs.lemmas.Option.{get_or_from_slice_get, same_Some, slice_get-map, slice_get_cases, slice_get_within}
use Rattle.std.proofs.lemmas.Slice.Eq.{bytes_eq-Decides}
use Rattle.nr_prog.specs.declared.body.loaded.Loaded.{Loaded}
use Rattle.nr_linked.specs.BuiltIns.{built_in_class}
use Rattle.nr_linked.specs.BuiltInTables.{built_ins}
use Rattle.nr_links.specs.Rules.{is_reserved}
use Rattle.nr_linkrules.specs.ClassRules.{doubled_fault, is_earlier, list_fault}
use Rattle.nr_linkrules.specs.Outline.{names_of, own_name, own_names}
use Rattle.nr_linkrules.proofs.Learnt.{not_reserved}
use Rattle.nr_linkrules.proofs.NoFault.{any_at, both_none, each_numbered, is_false, passes}
use Rattle.nr_linkrules.specs.Faults.{first_numbered}
use Rattle.nr_link.specs.Seen.{AreApart}
use Rattle.nr_link.proofs.Loops.{append_nil}

-- ---- names behind one another: none of them stands before it in `seen` or among those before it

abbrev go_on_apart : List (List ℕ) → List (List ℕ) → Bool
go_on_apart seen [] = true
go_on_apart seen (n ∷ ns) = not (list_any (bytes_eq n) seen) && go_on_apart (seen ++ n ∷ []) ns

apart_behind : (seen ns : List (List ℕ)) → go_on_apart seen ns ≡ true → (j : ℕ) (d : List ℕ) → j < length ns → list_any (bytes_eq (get_or ns j d)) (seen ++ take j ns) ≡ false
apart_behind seen [] e j d lt = absurd (omega (arith, lt))
apart_behind seen (n ∷ ns) e zero d lt =
    let p = and_parts (not (list_any (bytes_eq n) seen)) (go_on_apart (seen ++ n ∷ []) ns) e in
    ap (list_any (bytes_eq n)) (append_nil seen) ∙ is_false (list_any (bytes_eq n) seen) p.0
apart_behind seen (n ∷ ns) e (suc j) d lt =
    let p = and_parts (not (list_any (bytes_eq n) seen)) (go_on_apart (seen ++ n ∷ []) ns) e in
    ap (list_any (bytes_eq (get_or ns j d))) (sym (append_assoc seen (n ∷ []) (take j ns)))
    ∙ apart_behind (seen ++ n ∷ []) ns p.1 j d (omega (arith, lt))

take_past : (xs ys : List (List ℕ)) (j : ℕ) → take (length xs + j) (xs ++ ys) ≡ xs ++ take j ys
take_past [] ys j = let e : 0 + j ≡ j = omega arith in ap (λ n. take n ys) e
take_past (x ∷ xs) ys j =
    let e : suc (length xs) + j ≡ suc (length xs + j) = omega arith in
    ap (λ n. take n (x ∷ (xs ++ ys))) e ∙ ap (λ zs. x ∷ zs) (take_past xs ys j)

get_past : (xs ys : List (List ℕ)) (j : ℕ) (d : List ℕ) → get_or (xs ++ ys) (length xs + j) d ≡ get_or ys j d
get_past [] ys j d = let e : 0 + j ≡ j = omega arith in ap (λ n. get_or ys n d) e
get_past (x ∷ xs) ys j d =
    let e : suc (length xs) + j ≡ suc (length xs + j) = omega arith in
    ap (λ n. get_or (x ∷ (xs ++ ys)) n d) e ∙ get_past xs ys j d

take_front : (xs ys : List (List ℕ)) (k : ℕ) → k < length xs → take k (xs ++ ys) ≡ take k xs
take_front [] ys k lt = absurd (omega (arith, lt))
take_front (x ∷ xs) ys zero lt = refl
take_front (x ∷ xs) ys (suc k) lt = ap (λ zs. x ∷ zs) (take_front xs ys k (omega (arith, lt)))

any_both : (p : List ℕ → Bool) (xs ys : List (List ℕ)) → list_any p xs ≡ false → list_any p ys ≡ false → list_any p (xs ++ ys) ≡ false
any_both p [] ys e f = f
any_both p (x ∷ xs) ys e f = by_test (p x) e (λ e. any_both p xs ys e f)
  where
    by_test : (b : Bool) → (b || list_any p xs) ≡ false → (list_any p xs ≡ false → list_any p (xs ++ ys) ≡ false) → (b || list_any p (xs ++ ys)) ≡ false
    by_test true e h = absurd cc
    by_test false e h = h e

apart_both : (xs ys : List (List ℕ)) → AreApart xs → AreApart ys → ((j : ℕ) (d : List ℕ) → j < length ys → list_any (bytes_eq (get_or ys j d)) xs ≡ false) → AreApart (xs ++ ys)
apart_both xs ys first second others k d lt = by_test (nat_lt k (length xs)) refl
  where
    by_test : (b : Bool) → nat_lt k (length xs) ≡ b → list_any (bytes_eq (get_or (xs ++ ys) k d)) (take k (xs ++ ys)) ≡ false
    by_test true e =
        let short = ltb-true k (length xs) e in
        ap (λ n. list_any (bytes_eq n) (take k (xs ++ ys))) (get_or_append_left xs ys d k short)
        ∙ ap (list_any (bytes_eq (get_or xs k d))) (take_front xs ys k short) ∙ first k d short
    by_test false e =
        let past = ltb-false k (length xs) e in
        let j : ℕ = k - length xs in
        let is : k ≡ length xs + j = omega (arith, past) in
        let sum = length-append xs ys in
        let short : j < length ys = omega (arith, lt, sum, past) in
        subst (λ k. list_any (bytes_eq (get_or (xs ++ ys) k d)) (take k (xs ++ ys)) ≡ false) (sym is)
        (ap (λ n. list_any (bytes_eq n) (take (length xs + j) (xs ++ ys))) (get_past xs ys j d)
        ∙ ap (list_any (bytes_eq (get_or ys j d))) (take_past xs ys j)
        ∙ any_both (bytes_eq (get_or ys j d)) xs (take j ys) (others j d short) (second j d short))

-- ---- built-in names

abbrev built_in_names : List (List ℕ)
built_in_names = map (λ b. (built_in_class b).name) built_ins

tested : go_on_apart [] built_in_names ≡ true
unfolding built_in_class
tested = refl

built_ins_apart : AreApart built_in_names
built_ins_apart k d lt = apart_behind [] built_in_names tested k d lt

all_reserved : list_all is_reserved built_in_names ≡ true
unfolding built_in_class
all_reserved = refl

reserved_at : (names : List (List ℕ)) → list_all is_reserved names ≡ true → (j : ℕ) (d : List ℕ) → j < length names → is_reserved (get_or names j d) ≡ true
reserved_at [] e j d lt = absurd (omega (arith, lt))
reserved_at (n ∷ ns) e zero d lt = (and_parts (is_reserved n) (list_all is_reserved ns) e).0
reserved_at (n ∷ ns) e (suc j) d lt = reserved_at ns (and_parts (is_reserved n) (list_all is_reserved ns) e).1 j d (omega (arith, lt))

-- ---- all names

module _ (classes : List Loaded) (none : list_fault classes ≡ None) where
  doubled_none : first_numbered (doubled_fault (own_names classes)) 0 classes ≡ None
  unfolding list_fault
  doubled_none = (both_none _ _ (both_none _ _ none).1).1

  loaded_at : (k : ℕ) → k < length (own_names classes) → (l : Loaded) × (slice_get classes k ≡ Some l)
  loaded_at k lt = elim (slice_get_cases classes k).1 [
    | inl x ↦ (x.0, x.2)
    | inr y ↦ absurd (let past = y.0 in let count = length-map classes (λ (l : Loaded). own_name l.«class») in omega (arith, lt, count, past))
  ]

  name_at : (k : ℕ) (l : Loaded) → slice_get classes k ≡ Some l → slice_get (own_names classes) k ≡ Some (own_name l.«class»)
  name_at k l at = slice_get-map (λ (l : Loaded). own_name l.«class») classes k ∙ ap (option_map (λ (l : Loaded). own_name l.«class»)) at

  own_apart : AreApart (own_names classes)
  own_apart k d lt =
      let found = loaded_at k lt in
      let each = each_numbered (doubled_fault (own_names classes)) 0 classes doubled_none k k found.0 (omega arith) found.1 in
      let here = get_or_from_slice_get (own_names classes) k (own_name found.0.«class») d (name_at k found.0 found.1) in
      ap (λ n. list_any (bytes_eq n) (take k (own_names classes))) here ∙ is_false (is_earlier (own_names classes) k (own_name found.0.«class»)) (passes _ _ each)

  own_unreserved : (k : ℕ) (name : List ℕ) → slice_get (own_names classes) k ≡ Some name → is_reserved name ≡ false
  own_unreserved k name at =
      let short = slice_get_within (own_names classes) k name at in
      let found = loaded_at k short in
      subst (λ n. is_reserved n ≡ false) (same_Some (own_name found.0.«class») name (sym (name_at k found.0 found.1) ∙ at)) (not_reserved classes none k found.0 found.1)

  pub all_apart : AreApart (names_of classes)
  all_apart = apart_both (own_names classes) built_in_names own_apart built_ins_apart (λ j d lt.
      let b = get_or built_in_names j d in
      false_from_ne_true (list_any (bytes_eq b) (own_names classes)) (λ e.
      let found = any_at (bytes_eq b) (own_names classes) e in
      let same = (bytes_eq-Decides b found.1).0 found.3 in
      both_ways (is_reserved b) (ap is_reserved same ∙ own_unreserved found.0 found.1 found.2) (reserved_at built_in_names all_reserved j d lt)))
