-- Walks: the steps of a work list, that there is one result, and what a walk has met in the end.
use Rattle.std.proofs.Common.{◌≡◌, ℕ, zero, suc, Bool, true, false, ◌||◌, List, [], ◌∷◌, ◌++◌, length, nat_eq, refl, sym, ap, subst, ◌∙◌, ◌⊎◌, inl, inr, true≢false, append_assoc, append-nil}
use Rattle.std.specs.Prelude.{Some, slice_get}
use Rattle.std.specs.List.{AllByRecursion}
use Rattle.std.proofs.lemmas.Bool.{cases_eq, ne_eqb, eq-eqb, or_left, eqb-true}
use Rattle.std.proofs.lemmas.List.Folds.{list_any-append}
use Rattle.nr_model.specs.Heaps.{Has, EachOnce}
use Rattle.nr_model.proofs.Paths.{none_some, some_eq}
use Rattle.nr_graph.specs.Walks.{is_met, Walk, over, again, first, MeetsRefused, here, onward}

-- ---- the test

pub is_met-push : (seen : List ℕ) (x y : ℕ) → is_met (seen ++ x ∷ []) y ≡ (is_met seen y || (nat_eq y x || false))
is_met-push seen x y = list_any-append (nat_eq y) seen (x ∷ [])

or_false : (a b : Bool) → b ≡ false → (a || (b || false)) ≡ a
or_false true b h = refl
or_false false b h = ap (λ x. x || false) h

or_true : (a b : Bool) → b ≡ true → (a || (b || false)) ≡ true
or_true true b h = refl
or_true false b h = ap (λ x. x || false) h

or_last : (b : Bool) → (b || true) ≡ true
or_last true = refl
or_last false = refl

pub is_met-other : (seen : List ℕ) (x y : ℕ) → (y ≡ x → ⊥) → is_met (seen ++ x ∷ []) y ≡ is_met seen y
is_met-other seen x y h = is_met-push seen x y ∙ or_false (is_met seen y) (nat_eq y x) (ne_eqb y x h)

pub is_met-same : (seen : List ℕ) (x : ℕ) → is_met (seen ++ x ∷ []) x ≡ true
is_met-same seen x = is_met-push seen x x ∙ or_true (is_met seen x) (nat_eq x x) (eq-eqb x x refl)

pub is_met-kept : (seen : List ℕ) (x y : ℕ) → is_met seen y ≡ true → is_met (seen ++ x ∷ []) y ≡ true
is_met-kept seen x y h = is_met-push seen x y ∙ or_left (is_met seen y) (nat_eq y x || false) h

-- a name is met exactly where the list has it
pub has_met : (xs : List ℕ) (x : ℕ) → Has xs x → is_met xs x ≡ true
has_met [] x h = absurd (none_some h.1)
has_met (y ∷ ys) x (zero, e) = ap (λ b. b || is_met ys x) (eq-eqb x y (sym (some_eq e)))
has_met (y ∷ ys) x (suc i, e) = ap (λ b. nat_eq x y || b) (has_met ys x (i, e)) ∙ or_last (nat_eq x y)

pub met_has : (xs : List ℕ) (x : ℕ) → is_met xs x ≡ true → Has xs x
met_has [] x h = absurd (true≢false (sym h))
met_has (y ∷ ys) x h = by (nat_eq x y) refl h (met_has ys x)
  where
    by : (b : Bool) → nat_eq x y ≡ b → (b || is_met ys x) ≡ true → (is_met ys x ≡ true → Has ys x) → Has (y ∷ ys) x
    by true e h rest = (zero, ap Some (sym (eqb-true x y e)))
    by false e h rest = let r = rest h in (suc r.0, r.1)

-- ---- lists that have each name once

at_end : (xs : List ℕ) (y i x : ℕ) → slice_get (xs ++ y ∷ []) i ≡ Some x → (slice_get xs i ≡ Some x) ⊎ ((i ≡ length xs) × (y ≡ x))
at_end [] y zero x e = inr (refl, some_eq e)
at_end [] y (suc i) x e = absurd (none_some e)
at_end (z ∷ xs) y zero x e = inl e
at_end (z ∷ xs) y (suc i) x e = by (at_end xs y i x e)
  where
    by : (slice_get xs i ≡ Some x) ⊎ ((i ≡ length xs) × (y ≡ x)) → (slice_get xs i ≡ Some x) ⊎ ((suc i ≡ suc (length xs)) × (y ≡ x))
    by (inl a) = inl a
    by (inr a) = inr (ap suc a.0, a.1)

pub once_more : (xs : List ℕ) (y : ℕ) → EachOnce xs → is_met xs y ≡ false → EachOnce (xs ++ y ∷ [])
once_more xs y once new i j x e f = by (at_end xs y i x e) (at_end xs y j x f)
  where
    clash : (k : ℕ) → slice_get xs k ≡ Some x → y ≡ x → ⊥
    clash k g s = true≢false (sym (has_met xs y (k, g ∙ ap Some (sym s))) ∙ new)

    by : (slice_get xs i ≡ Some x) ⊎ ((i ≡ length xs) × (y ≡ x)) → (slice_get xs j ≡ Some x) ⊎ ((j ≡ length xs) × (y ≡ x)) → i ≡ j
    by (inl a) (inl b) = once i j x a b
    by (inl a) (inr b) = absurd (clash i a b.1)
    by (inr a) (inl b) = absurd (clash j b a.1)
    by (inr a) (inr b) = a.0 ∙ sym b.0

pub no_names_once : EachOnce []
no_names_once i j x e f = absurd (none_some e)

-- ---- steps

module _ (next : ℕ → List ℕ) where
  -- a walk of two lists goes through the first, then through the second
  pub split : (xs ys : List ℕ) {seen out : List ℕ} → Walk next (xs ++ ys) seen out → (mid : List ℕ) × Walk next xs seen mid × Walk next ys mid out
  split [] ys {seen} w = (seen, over, w)
  split (x ∷ xs) ys (again m w) = let s = split xs ys w in (s.0, again m s.1, s.2)
  split (x ∷ xs) ys (first m inner w) = let s = split xs ys w in (s.0, first m inner s.1, s.2)

  pub join : {xs seen mid : List ℕ} (ys : List ℕ) {out : List ℕ} → Walk next xs seen mid → Walk next ys mid out → Walk next (xs ++ ys) seen out
  join ys over v = v
  join ys (again m w) v = again m (join ys w v)
  join ys (first m inner w) v = first m inner (join ys w v)

  -- a step of a work list
  pub open_first : (x : ℕ) (xs seen out : List ℕ) → is_met seen x ≡ false → Walk next (next x ++ xs) (seen ++ x ∷ []) out → Walk next (x ∷ xs) seen out
  open_first x xs seen out m w = let s = split (next x) xs w in first m s.1 s.2

  pub at_first : {x : ℕ} {xs seen out : List ℕ} → Walk next (x ∷ xs) seen out → is_met seen x ≡ false → Walk next (next x ++ xs) (seen ++ x ∷ []) out
  at_first (again m w) h = absurd (true≢false (sym m ∙ h))
  at_first {xs = xs} (first m i w) h = join xs i w

  pub at_again : {x : ℕ} {xs seen out : List ℕ} → Walk next (x ∷ xs) seen out → is_met seen x ≡ true → Walk next xs seen out
  at_again (again m w) h = w
  at_again (first m i w) h = absurd (true≢false (sym h ∙ m))

  -- ---- the result

  -- there is one order of first visit
  pub one_walk : {xs seen a b : List ℕ} → Walk next xs seen a → Walk next xs seen b → a ≡ b
  one_walk over over = refl
  one_walk (again m w) (again n v) = one_walk w v
  one_walk (again m w) (first n i v) = absurd (true≢false (sym m ∙ n))
  one_walk (first m i w) (again n v) = absurd (true≢false (sym n ∙ m))
  one_walk {b = b} (first {xs = xs} m i w) (first n j v) = one_walk w (subst (λ s. Walk next xs s b) (sym (one_walk i j)) v)

  -- what is met stays at the front
  pub prefix : {xs seen out : List ℕ} → Walk next xs seen out → (more : List ℕ) × (out ≡ seen ++ more)
  prefix {seen = seen} over = ([], sym (append-nil seen))
  prefix (again m w) = prefix w
  prefix (first {x = x} {seen = seen} m i w) = let p = prefix i in let q = prefix w in
      (x ∷ (p.0 ++ q.0), q.1 ∙ ap (λ xs. xs ++ q.0) p.1 ∙ append_assoc (seen ++ x ∷ []) p.0 q.0 ∙ append_assoc seen (x ∷ []) (p.0 ++ q.0))

  -- ---- what is met in the end

  pub kept : {xs seen out : List ℕ} → Walk next xs seen out → (y : ℕ) → is_met seen y ≡ true → is_met out y ≡ true
  kept over y h = h
  kept (again m w) y h = kept w y h
  kept (first {x = x} {seen = seen} m i w) y h = kept w y (kept i y (is_met-kept seen x y h))

  -- these are met
  abbrev pub AreMet : List ℕ → List ℕ → Type 0
  AreMet out xs = AllByRecursion (λ x. is_met out x ≡ true) xs

  pub all_met : {xs seen out : List ℕ} → Walk next xs seen out → AreMet out xs
  all_met over = tt
  all_met (again {x = x} m w) = (kept w x m, all_met w)
  all_met (first {x = x} {seen = seen} m i w) = (kept w x (kept i x (is_met-same seen x)), all_met w)

  are_met_kept : {ys seen out : List ℕ} (xs : List ℕ) → Walk next ys seen out → AreMet seen xs → AreMet out xs
  are_met_kept [] w a = tt
  are_met_kept (x ∷ xs) w a = (kept w x a.0, are_met_kept xs w a.1)

  -- what one leads to is met, where it was met by the walk
  pub led : {xs seen out : List ℕ} → Walk next xs seen out → (y : ℕ) → is_met out y ≡ true → (is_met seen y ≡ true) ⊎ AreMet out (next y)
  led over y h = inl h
  led (again m w) y h = led w y h
  led {out = out} (first {x = x} {seen = seen} {mid = mid} m i w) y h = by (led w y h) (led i y)
    where
      last : is_met (seen ++ x ∷ []) y ≡ true → (y ≡ x) ⊎ (y ≡ x → ⊥) → (is_met seen y ≡ true) ⊎ AreMet out (next y)
      last a (inl e) = inr (subst (λ p. AreMet out (next p)) (sym e) (are_met_kept (next x) w (all_met i)))
      last a (inr ne) = inl (sym (is_met-other seen x y ne) ∙ a)

      before : (is_met (seen ++ x ∷ []) y ≡ true) ⊎ AreMet mid (next y) → (is_met seen y ≡ true) ⊎ AreMet out (next y)
      before (inl a) = last a (cases_eq y x)
      before (inr a) = inr (are_met_kept (next y) w a)

      by : (is_met mid y ≡ true) ⊎ AreMet out (next y) → (is_met mid y ≡ true → (is_met (seen ++ x ∷ []) y ≡ true) ⊎ AreMet mid (next y)) → (is_met seen y ≡ true) ⊎ AreMet out (next y)
      by (inl a) rec = before (rec a)
      by (inr a) rec = inr a

  -- the same of lists that have the names
  pub root_met : {xs out : List ℕ} → Walk next xs [] out → (x : ℕ) → Has xs x → Has out x
  root_met {xs = xs} {out = out} w x h = met_has out x (at xs (all_met w) h)
    where
      at : (xs : List ℕ) → AreMet out xs → Has xs x → is_met out x ≡ true
      at [] a h = absurd (none_some h.1)
      at (y ∷ ys) a (zero, e) = subst (λ x. is_met out x ≡ true) (some_eq e) a.0
      at (y ∷ ys) a (suc i, e) = at ys a.1 (i, e)

  pub led_on : {xs out : List ℕ} → Walk next xs [] out → (x y : ℕ) → Has out x → Has (next x) y → Has out y
  led_on {out = out} w x y h i = by (led w x (has_met out x h))
    where
      at : (xs : List ℕ) → AreMet out xs → Has xs y → Has out y
      at [] a h = absurd (none_some h.1)
      at (z ∷ zs) a (zero, e) = met_has out y (subst (λ x. is_met out x ≡ true) (some_eq e) a.0)
      at (z ∷ zs) a (suc i, e) = at zs a.1 (i, e)

      by : (is_met [] x ≡ true) ⊎ AreMet out (next x) → Has out y
      by (inl e) = absurd (true≢false (sym e))
      by (inr a) = at (next x) a i

  -- each name once
  pub walk_once : {xs seen out : List ℕ} → Walk next xs seen out → EachOnce seen → EachOnce out
  walk_once over once = once
  walk_once (again m w) once = walk_once w once
  walk_once (first {x = x} {seen = seen} m i w) once = walk_once w (walk_once i (once_more seen x once m))

  -- what holds of all that is walked, and of what each leads to, holds of all that is met
  module _ (Q : ℕ → Type 0) (closed : (x : ℕ) → Q x → AllByRecursion Q (next x)) where
    pub all_and : (xs ys : List ℕ) → AllByRecursion Q xs → AllByRecursion Q ys → AllByRecursion Q (xs ++ ys)
    all_and [] ys a b = b
    all_and (x ∷ xs) ys a b = (a.0, all_and xs ys a.1 b)

    pub walk_all : {xs seen out : List ℕ} → Walk next xs seen out → AllByRecursion Q xs → AllByRecursion Q seen → AllByRecursion Q out
    walk_all over a b = b
    walk_all (again m w) a b = walk_all w a.1 b
    walk_all (first {x = x} {seen = seen} m i w) a b = walk_all w a.1 (walk_all i (closed x a.0) (all_and seen (x ∷ []) b (a.0, tt)))

pub all_has : (Q : ℕ → Type 0) (xs : List ℕ) (x : ℕ) → AllByRecursion Q xs → Has xs x → Q x
all_has Q [] x a h = absurd (none_some h.1)
all_has Q (y ∷ ys) x a (zero, e) = subst Q (some_eq e) a.0
all_has Q (y ∷ ys) x a (suc i, e) = all_has Q ys x a.1 (i, e)

pub has_all : (Q : ℕ → Type 0) (xs : List ℕ) → ((x : ℕ) → Has xs x → Q x) → AllByRecursion Q xs
has_all Q [] k = tt
has_all Q (x ∷ xs) k = (k x (zero, refl), has_all Q xs (λ y h. k y (suc h.0, h.1)))

-- ---- the first that is refused

module _ (next : ℕ → List ℕ) (refused : ℕ → Bool) where
  -- there is one
  pub one_refused : {xs seen : List ℕ} {x y : ℕ} → MeetsRefused next refused xs seen x → MeetsRefused next refused xs seen y → x ≡ y
  one_refused (here m r) (here n s) = refl
  one_refused (here m r) (again n v) = absurd (true≢false (sym n ∙ m))
  one_refused (here m r) (onward n s v) = absurd (true≢false (sym r ∙ s))
  one_refused (again m w) (here n s) = absurd (true≢false (sym m ∙ n))
  one_refused (again m w) (again n v) = one_refused w v
  one_refused (again m w) (onward n s v) = absurd (true≢false (sym m ∙ n))
  one_refused (onward m r w) (here n s) = absurd (true≢false (sym s ∙ r))
  one_refused (onward m r w) (again n v) = absurd (true≢false (sym n ∙ m))
  one_refused (onward m r w) (onward n s v) = one_refused w v

  -- and a whole walk meets it
  pub refused_met : {xs seen out : List ℕ} {x : ℕ} → MeetsRefused next refused xs seen x → Walk next xs seen out → (refused x ≡ true) × (is_met out x ≡ true)
  refused_met (here m r) w = (r, (all_met next w).0)
  refused_met (again m v) w = refused_met v (at_again next w m)
  refused_met (onward m r v) w = refused_met v (at_first next w m)
