-- Lists of names, each once: the place of a name, one more name, and names that are picked by rising places.
use Rattle.std.proofs.Common.{◌≡◌, ℕ, zero, suc, ◌+◌, ◌<◌, Bool, true, false, List, [], ◌∷◌, ◌++◌, length, nat_eq, get_or, take, refl, sym, ap, subst, subst₂, ◌∙◌, arith, length-append, if◌then◌else◌}
use Rattle.std.specs.Prelude.{Some, slice_get, position}
use Rattle.std.specs.List.{AllByRecursion}
use Rattle.std.proofs.lemmas.Bool.{eqb-true}
use Rattle.std.proofs.lemmas.List.{take_more}
use Rattle.std.proofs.lemmas.List.Quantifiers.{position-Some}
use Rattle.std.proofs.lemmas.Option.{slice_get-get_or}
use Rattle.nr_model.specs.Heaps.{EachOnce, Has}
use Rattle.nr_model.proofs.Paths.{none_some, some_eq}
use Rattle.nr_graph.specs.Listing.{Picked, none_picked, one_picked, Rises, with_last}
use Rattle.nr_graph.specs.Walks.{is_met}
use Rattle.nr_graph.proofs.Walks.{met_has, once_more}

pub in_range : (xs : List ℕ) (i x : ℕ) → slice_get xs i ≡ Some x → i < length xs
in_range [] i x e = absurd (none_some e)
in_range (y ∷ ys) zero x e = omega arith
in_range (y ∷ ys) (suc i) x e = let l = in_range ys i x e in omega arith

pub last_there : (xs : List ℕ) (x : ℕ) → slice_get (xs ++ x ∷ []) (length xs) ≡ Some x
last_there [] x = refl
last_there (y ∷ ys) x = last_there ys x

pub front_there : (xs ys : List ℕ) (i x : ℕ) → slice_get xs i ≡ Some x → slice_get (xs ++ ys) i ≡ Some x
front_there [] ys i x e = absurd (none_some e)
front_there (z ∷ zs) ys zero x e = e
front_there (z ∷ zs) ys (suc i) x e = front_there zs ys i x e

pub with_new : (xs : List ℕ) (x : ℕ) → is_met xs x ≡ false → with_last xs x ≡ xs ++ x ∷ []
with_new xs x m = ap (λ b. if b then xs else xs ++ x ∷ []) m

pub with_old : (xs : List ℕ) (x : ℕ) → is_met xs x ≡ true → with_last xs x ≡ xs
with_old xs x m = ap (λ b. if b then xs else xs ++ x ∷ []) m

-- ---- the place of a name

pub position_at : (xs : List ℕ) (x i : ℕ) → position (nat_eq x) xs ≡ Some i → slice_get xs i ≡ Some x
position_at xs x i e =
    let p = position-Some (nat_eq x) xs i 0 e in
    slice_get-get_or xs i 0 p.0 ∙ ap Some (sym (eqb-true x (get_or xs i 0) p.1))

-- ---- one more name

module _ (xs ys : List ℕ) (x : ℕ) (m : is_met xs x ≡ false) (e : ys ≡ with_last xs x) where
  is_new : ys ≡ xs ++ x ∷ []
  is_new = e ∙ with_new xs x m

  pub new_once : EachOnce xs → EachOnce ys
  new_once once = subst EachOnce (sym is_new) (once_more xs x once m)

  pub new_long : length ys ≡ length xs + 1
  new_long = ap length is_new ∙ length-append xs (x ∷ [])

  pub new_at : slice_get ys (length xs) ≡ Some x
  new_at = ap (λ zs. slice_get zs (length xs)) is_new ∙ last_there xs x

-- ---- names at rising places

pub picked_one : (names : List ℕ) {is xs : List ℕ} (i x : ℕ) → Picked names is xs → slice_get names i ≡ Some x → Picked names (is ++ i ∷ []) (xs ++ x ∷ [])
picked_one names i x none_picked e = one_picked e none_picked
picked_one names i x (one_picked f p) e = one_picked f (picked_one names i x p e)

-- a name that was picked has one of the places
pub picked_has : (names : List ℕ) {is xs : List ℕ} (x : ℕ) → Picked names is xs → Has xs x → (i : ℕ) × Has is i × (slice_get names i ≡ Some x)
picked_has names x none_picked h = absurd (none_some h.1)
picked_has names x (one_picked {i = i} f p) (zero, e) = (i, (zero, refl), f ∙ e)
picked_has names x (one_picked f p) (suc k, e) = let r = picked_has names x p (k, e) in (r.0, (suc r.1.0, r.1.1), r.2)

before_last : (nodes : List ℕ) (k i : ℕ) → Rises nodes → k < length nodes → Has (take k nodes) i → i < get_or nodes k 0
before_last [] k i r l h = absurd (omega arith)
before_last (n ∷ ns) zero i r l h = absurd (none_some h.1)
before_last (n ∷ ns) (suc k) i r l (zero, e) = subst (λ j. j < get_or ns k 0) (some_eq e) (above ns k r.0 (omega arith))
  where
    above : (ns : List ℕ) (k : ℕ) → AllByRecursion (λ y. n < y) ns → k < length ns → n < get_or ns k 0
    above [] k a l = absurd (omega arith)
    above (m ∷ ms) zero a l = a.0
    above (m ∷ ms) (suc k) a l = above ms k a.1 (omega arith)
before_last (n ∷ ns) (suc k) i r l (suc j, e) = before_last ns k i r.1 (omega arith) (j, e)

pub picked_more : (names nodes picked picked' : List ℕ) (k x : ℕ) → EachOnce names → Rises nodes → k < length nodes → slice_get names (get_or nodes k 0) ≡ Some x
    → Picked names (take k nodes) picked → picked' ≡ with_last picked x → Picked names (take (k + 1) nodes) picked'
picked_more names nodes picked picked' k x once rises l at p e =
    let more = picked_one names (get_or nodes k 0) x p at in
    subst₂ (Picked names) (sym (take_more nodes k 0 l)) (sym (e ∙ with_new picked x (not_met (is_met picked x) refl))) more
  where
    not_met : (b : Bool) → is_met picked x ≡ b → is_met picked x ≡ false
    not_met false m = m
    not_met true m =
        let r = picked_has names x p (met_has picked x m) in
        let same : r.0 ≡ get_or nodes k 0 = once r.0 (get_or nodes k 0) x r.2 at in
        let less : r.0 < get_or nodes k 0 = before_last nodes k r.0 rises l r.1 in
        absurd (omega (arith, same, less))

pub all_at : (n : ℕ) (xs : List ℕ) (k : ℕ) → AllByRecursion (λ x. x < n) xs → k < length xs → get_or xs k 0 < n
all_at n [] k a l = absurd (omega arith)
all_at n (x ∷ xs) zero a l = a.0
all_at n (x ∷ xs) (suc k) a l = all_at n xs k a.1 (omega arith)
