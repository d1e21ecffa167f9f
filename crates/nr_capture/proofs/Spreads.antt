-- Which nodes are listed: what the flags and the stack say while nodes are walked, and the places of the flags.
use Rattle.std.proofs.Common.{◌≡◌, ℕ, zero, suc, ◌+◌, ◌<◌, ◌≤◌, Bool, true, false, List, [], ◌∷◌, ◌++◌, length, get_or, take, replicate, reverse, refl, sym, ap, subst, ◌∙◌, ◌⊎◌, inl, inr, length-append, arith, if◌then◌else◌, Option, Some, None}
use Rattle.std.specs.Prelude.{IsSomeAnd, IsTrue, slice_get, slice_set}
use Rattle.std.specs.List.{AllByRecursion, cons_option}
use Rattle.std.specs.Option.{option_map_or}
use Rattle.std.proofs.Math.Decide.{ℕ_discrete}
use Rattle.std.proofs.lemmas.Bool.{false≢true}
use Rattle.std.proofs.lemmas.List.{length-set, take_more, reverse-append, reverse-reverse, length-reverse}
use Rattle.std.proofs.lemmas.Option.{slice_get-get_or, slice_get_read}
use Rattle.nr_linked.specs.declared.program.kind.Kind.{Kind}
use Rattle.nr_linked.specs.declared.program.tables.ProgramTables.{ProgramTables}
use Rattle.nr_linked.specs.Restorable.{is_restorable}
use Rattle.nr_model.specs.Heaps.{Has}
use Rattle.nr_model.proofs.Paths.{none_some, some_eq}
use Rattle.nr_heap.proofs.Maps.{slice_get-set, slice_get-set_other}
use Rattle.nr_graph.specs.declared.graph.Graph.{Graph}
use Rattle.nr_graph.specs.Graphs.{AreThere, IsWithin, next_node, node_kind, nodes_in, root_nodes, root_slots}
use Rattle.nr_graph.specs.Listing.{IsListed, LeadsTo, Lists, Rises, here, onward}
use Rattle.nr_graph.proofs.Left.{left_of, left_less}
use Rattle.nr_graph.proofs.Listed.{front_there}
use Rattle.nr_graph.proofs.Walks.{all_has}
use Rattle.nr_capture.specs.Listed.{Flags, IsFlagged, places_from, starts}

-- ---- lists of numbers

has_left : (xs ys : List ℕ) (k : ℕ) → Has xs k → Has (xs ++ ys) k
has_left xs ys k h = (h.0, front_there xs ys h.0 k h.1)

has_right : (xs ys : List ℕ) (k : ℕ) → Has ys k → Has (xs ++ ys) k
has_right [] ys k h = h
has_right (x ∷ xs) ys k h = let r = has_right xs ys k h in (suc r.0, r.1)

has_either : (xs ys : List ℕ) (k : ℕ) → Has (xs ++ ys) k → Has xs k ⊎ Has ys k
has_either [] ys k h = inr h
has_either (x ∷ xs) ys k (zero, e) = inl (zero, e)
has_either (x ∷ xs) ys k (suc i, e) = by (has_either xs ys k (i, e))
  where
    by : Has xs k ⊎ Has ys k → Has (x ∷ xs) k ⊎ Has ys k
    by (inl h) = inl (suc h.0, h.1)
    by (inr h) = inr h

has_last : (x k : ℕ) → Has (x ∷ []) k → x ≡ k
has_last x k (zero, e) = some_eq e
has_last x k (suc i, e) = absurd (none_some e)

turned : (xs : List ℕ) (k : ℕ) → Has xs k → Has (reverse xs) k
turned [] k h = absurd (none_some h.1)
turned (x ∷ xs) k h = subst (λ ys. Has ys k) (sym (reverse-append (x ∷ []) xs)) (by (has_either (x ∷ []) xs k h) (turned xs k))
  where
    by : Has (x ∷ []) k ⊎ Has xs k → (Has xs k → Has (reverse xs) k) → Has (reverse xs ++ x ∷ []) k
    by (inl h) rec = has_right (reverse xs) (x ∷ []) k h
    by (inr h) rec = has_left (reverse xs) (x ∷ []) k (rec h)

turned_back : (xs : List ℕ) (k : ℕ) → Has (reverse xs) k → Has xs k
turned_back xs k h = subst (λ ys. Has ys k) (reverse-reverse xs) (turned (reverse xs) k h)

-- ---- where the walk begins

module _ (P : ProgramTables) (g : Graph) where
  abbrev Restores : ℕ → Type 0
  Restores k = IsSomeAnd (node_kind g k) (λ kind. IsTrue (is_restorable P kind))

  restores_so : (o : Option Kind) → option_map_or (is_restorable P) o false ≡ true → IsSomeAnd o (λ kind. IsTrue (is_restorable P kind))
  restores_so None e = absurd (false≢true e)
  restores_so (Some kind) e = e

  so_restores : (o : Option Kind) → IsSomeAnd o (λ kind. IsTrue (is_restorable P kind)) → option_map_or (is_restorable P) o false ≡ true
  so_restores None e = absurd e
  so_restores (Some kind) e = e

  start_has : (rs : List (Option ℕ)) (k : ℕ) → Has (starts P g rs) k → Has (nodes_in (root_slots rs)) k × Restores k
  start_has [] k h = absurd (none_some h.1)
  start_has (None ∷ rs) k h = start_has rs k h
  start_has (Some i ∷ rs) k h = by (option_map_or (is_restorable P) (node_kind g i) false) refl h (start_has rs k)
    where
      more : Has (nodes_in (root_slots rs)) k × Restores k → Has (i ∷ nodes_in (root_slots rs)) k × Restores k
      more r = ((suc r.0.0, r.0.1), r.1)

      by : (b : Bool) → option_map_or (is_restorable P) (node_kind g i) false ≡ b → Has (cons_option (if b then Some i else None) (starts P g rs)) k
          → (Has (starts P g rs) k → Has (nodes_in (root_slots rs)) k × Restores k) → Has (i ∷ nodes_in (root_slots rs)) k × Restores k
      by false e h rec = more (rec h)
      by true e (zero, f) rec = ((zero, f), subst Restores (some_eq f) (restores_so (node_kind g i) e))
      by true e (suc j, f) rec = more (rec (j, f))

  has_start : (rs : List (Option ℕ)) (k : ℕ) → Has (nodes_in (root_slots rs)) k → Restores k → Has (starts P g rs) k
  has_start [] k h r = absurd (none_some h.1)
  has_start (None ∷ rs) k h r = has_start rs k h r
  has_start (Some i ∷ rs) k (zero, e) r =
      let t : option_map_or (is_restorable P) (node_kind g i) false ≡ true = so_restores (node_kind g i) (subst Restores (sym (some_eq e)) r) in
      subst (λ (b : Bool). Has (cons_option (if b then Some i else None) (starts P g rs)) k) (sym t) (zero, e)
  has_start (Some i ∷ rs) k (suc j, e) r = by (option_map_or (is_restorable P) (node_kind g i) false) (has_start rs k (j, e) r)
    where
      by : (b : Bool) → Has (starts P g rs) k → Has (cons_option (if b then Some i else None) (starts P g rs)) k
      by true h = (suc h.0, h.1)
      by false h = h

  leads_more : {i j k : ℕ} → LeadsTo g i j → Has (next_node g j) k → LeadsTo g i k
  leads_more here h = onward h here
  leads_more (onward a l) h = onward a (leads_more l h)

-- ---- the state of the walk

-- What is flagged or waits is listed, where the walk begins is flagged or waits, and so is all that what is flagged names.
pub record Spreads (P : ProgramTables) (g : Graph) (stack : List ℕ) (flags : List Bool) : Type 0 where
  pub count : length flags ≡ length g.nodes
  pub sound : (k : ℕ) → IsFlagged flags k → IsListed P g k
  pub waiting : (k : ℕ) → Has stack k → (k < length g.nodes) × IsListed P g k
  pub first : (k : ℕ) → Has (starts P g g.roots) k → IsFlagged flags k ⊎ Has stack k
  pub onward : (i j : ℕ) → IsFlagged flags i → Has (next_node g i) j → IsFlagged flags j ⊎ Has stack j

no_flag : (n k : ℕ) → slice_get (replicate n false) k ≡ Some true → ⊥
no_flag zero k e = none_some e
no_flag (suc n) zero e = false≢true (some_eq e)
no_flag (suc n) (suc k) e = no_flag n k e

long : (n : ℕ) → length (replicate n false) ≡ n
long zero = refl
long (suc n) = ap suc (long n)

module _ (P : ProgramTables) (g : Graph) (within : IsWithin g) where
  pub at_start : (s : List ℕ) (flags : List Bool) → s ≡ reverse (starts P g g.roots) → flags ≡ replicate (length g.nodes) false → Spreads P g s flags
  at_start s flags e f = record {
    count = ap length f ∙ long (length g.nodes);
    sound = λ k h. absurd (never k h);
    waiting = λ k h.
        let r = start_has P g g.roots k (turned_back (starts P g g.roots) k (subst (λ xs. Has xs k) e h)) in
        (all_has (λ i. i < length g.nodes) (root_nodes g) k within.roots r.0, record { root = k; named = r.0; restorable = r.1; leads = here });
    first = λ k h. inr (subst (λ xs. Has xs k) (sym e) (turned (starts P g g.roots) k h));
    onward = λ i j h n. absurd (never i h);
  }
    where
      never : (k : ℕ) → IsFlagged flags k → ⊥
      never k h = no_flag (length g.nodes) k (sym (ap (λ bs. slice_get bs k) f) ∙ h)

  module _ (s t : List ℕ) (r : ℕ) (flags : List Bool) (a : Spreads P g s flags) (e : s ≡ t ++ r ∷ []) where
    top : Has s r
    top = subst (λ xs. Has xs r) (sym e) (has_right t (r ∷ []) r (zero, refl))

    below : (k : ℕ) → Has t k → Has s k
    below k h = subst (λ xs. Has xs k) (sym e) (has_left t (r ∷ []) k h)

    split : (k : ℕ) → Has s k → Has t k ⊎ (r ≡ k)
    split k h = by (has_either t (r ∷ []) k (subst (λ xs. Has xs k) e h))
      where
        by : Has t k ⊎ Has (r ∷ []) k → Has t k ⊎ (r ≡ k)
        by (inl h) = inl h
        by (inr h) = inr (has_last r k h)

    pub top_below : r < length g.nodes
    top_below = (a.waiting r top).0

    pub at_old : IsFlagged flags r → Spreads P g t flags
    at_old m = record {
      count = a.count;
      sound = a.sound;
      waiting = λ k h. a.waiting k (below k h);
      first = λ k h. still k (a.first k h);
      onward = λ i j f n. still j (a.onward i j f n);
    }
      where
        again : (k : ℕ) → Has t k ⊎ (r ≡ k) → IsFlagged flags k ⊎ Has t k
        again k (inl h) = inr h
        again k (inr e) = inl (subst (IsFlagged flags) e m)

        still : (k : ℕ) → IsFlagged flags k ⊎ Has s k → IsFlagged flags k ⊎ Has t k
        still k (inl f) = inl f
        still k (inr h) = again k (split k h)

    module _ (u : List ℕ) (flags' : List Bool) (set : flags' ≡ slice_set flags r true) (pushed : u ≡ t ++ reverse (next_node g r)) where
      flagged : IsFlagged flags' r
      flagged = ap (λ bs. slice_get bs r) set ∙ slice_get-set flags r true (subst (λ n. r < n) (sym a.count) top_below)

      other : (k : ℕ) → (k ≡ r → ⊥) → slice_get flags' k ≡ slice_get flags k
      other k n = ap (λ bs. slice_get bs k) set ∙ slice_get-set_other flags r k true n

      kept : (k : ℕ) → IsFlagged flags k → Dec (k ≡ r) → IsFlagged flags' k
      kept k f (yes d) = subst (IsFlagged flags') (sym d) flagged
      kept k f (no n) = other k n ∙ f

      before : (k : ℕ) → IsFlagged flags' k → Dec (k ≡ r) → (k ≡ r) ⊎ IsFlagged flags k
      before k f (yes d) = inl d
      before k f (no n) = inr (sym (other k n) ∙ f)

      old_waits : (k : ℕ) → Has t k → Has u k
      old_waits k h = subst (λ xs. Has xs k) (sym pushed) (has_left t (reverse (next_node g r)) k h)

      new_waits : (k : ℕ) → Has (next_node g r) k → Has u k
      new_waits k h = subst (λ xs. Has xs k) (sym pushed) (has_right t (reverse (next_node g r)) k (turned (next_node g r) k h))

      still_waits : (k : ℕ) → IsFlagged flags k ⊎ Has s k → IsFlagged flags' k ⊎ Has u k
      still_waits k (inl f) = inl (kept k f (ℕ_discrete k r))
      still_waits k (inr h) = by (split k h)
        where
          by : Has t k ⊎ (r ≡ k) → IsFlagged flags' k ⊎ Has u k
          by (inl h) = inr (old_waits k h)
          by (inr e) = inl (subst (IsFlagged flags') e flagged)

      pub at_new : AreThere g (next_node g r) → Spreads P g u flags'
      at_new next_there = record {
        count = ap length set ∙ length-set flags r true ∙ a.count;
        sound = λ k f. sound k (before k f (ℕ_discrete k r));
        waiting = λ k h. waits k (has_either t (reverse (next_node g r)) k (subst (λ xs. Has xs k) pushed h));
        first = λ k h. still_waits k (a.first k h);
        onward = λ i j f n. on i j n (before i f (ℕ_discrete i r));
      }
        where
          listed : IsListed P g r
          listed = (a.waiting r top).1

          sound : (k : ℕ) → (k ≡ r) ⊎ IsFlagged flags k → IsListed P g k
          sound k (inl e) = subst (IsListed P g) (sym e) listed
          sound k (inr f) = a.sound k f

          waits : (k : ℕ) → Has t k ⊎ Has (reverse (next_node g r)) k → (k < length g.nodes) × IsListed P g k
          waits k (inl h) = a.waiting k (below k h)
          waits k (inr h) =
              let n = turned_back (next_node g r) k h in (
                all_has (λ i. i < length g.nodes) (next_node g r) k next_there n,
                record { root = listed.root; named = listed.named; restorable = listed.restorable; leads = leads_more P g listed.leads n },
              )

          on : (i j : ℕ) → Has (next_node g i) j → (i ≡ r) ⊎ IsFlagged flags i → IsFlagged flags' j ⊎ Has u j
          on i j n (inl e) = inr (new_waits j (subst (λ i. Has (next_node g i) j) e n))
          on i j n (inr f) = still_waits j (a.onward i j f n)

  pub at_end : (s : List ℕ) (flags : List Bool) → Spreads P g s flags → s ≡ [] → Flags P g flags
  at_end s flags a e = record { count = a.count; just = λ k. (a.sound k, λ l. on l.leads (sure l.root (a.first l.root (has_start P g g.roots l.root l.named l.restorable)))) }
    where
      sure : (k : ℕ) → IsFlagged flags k ⊎ Has s k → IsFlagged flags k
      sure k (inl f) = f
      sure k (inr h) = absurd (none_some (ap (λ xs. slice_get xs h.0) (sym e) ∙ h.1))

      on : {i k : ℕ} → LeadsTo g i k → IsFlagged flags i → IsFlagged flags k
      on here f = f
      on {i = i} (onward {j = j} n l) f = on l (sure j (a.onward i j f n))

-- ---- how much is left

abbrev pub flag_at : List Bool → ℕ → Bool
flag_at flags i = get_or flags i false

unfoldable pub unflagged : Graph → List Bool → ℕ
unflagged g flags = left_of (flag_at flags) (λ i. length (next_node g i)) (length g.nodes)

flag_set : (flags : List Bool) (r : ℕ) → r < length flags → flag_at (slice_set flags r true) r ≡ true
flag_set [] r l = absurd (omega arith)
flag_set (b ∷ bs) zero l = refl
flag_set (b ∷ bs) (suc r) l = flag_set bs r (omega arith)

flag_other : (flags : List Bool) (r q : ℕ) → (q ≡ r → ⊥) → flag_at (slice_set flags r true) q ≡ flag_at flags q
flag_other [] r q n = refl
flag_other (b ∷ bs) zero zero n = absurd (n refl)
flag_other (b ∷ bs) zero (suc q) n = refl
flag_other (b ∷ bs) (suc r) zero n = refl
flag_other (b ∷ bs) (suc r) (suc q) n = flag_other bs r q (λ e. n (ap suc e))

pub smaller_old : (g : Graph) (r : ℕ) (flags : List Bool) (s t : List ℕ) → s ≡ t ++ r ∷ [] → length t + unflagged g flags < length s + unflagged g flags
smaller_old g r flags s t e = let l : length s ≡ length t + 1 = ap length e ∙ length-append t (r ∷ []) in omega (arith, l)

pub smaller_new : (g : Graph) (r : ℕ) (flags flags' : List Bool) (s t u : List ℕ) → s ≡ t ++ r ∷ [] → length flags ≡ length g.nodes → r < length g.nodes → flag_at flags r ≡ false
    → flags' ≡ slice_set flags r true → u ≡ t ++ reverse (next_node g r) → length u + unflagged g flags' < length s + unflagged g flags
unfolding unflagged
smaller_new g r flags flags' s t u e count l off set pushed =
    let a : length s ≡ length t + 1 = ap length e ∙ length-append t (r ∷ []) in
    let b : length u ≡ length t + length (next_node g r) = ap length pushed ∙ length-append t (reverse (next_node g r)) ∙ ap (λ x. length t + x) (length-reverse (next_node g r)) in
    let weight : ℕ → ℕ = λ i. length (next_node g i) in
    let same : left_of (flag_at flags') weight (length g.nodes) ≡ left_of (flag_at (slice_set flags r true)) weight (length g.nodes) = ap (λ bs. left_of (flag_at bs) weight (length g.nodes)) set in
    let d = left_less (flag_at flags) (flag_at (slice_set flags r true)) weight r (flag_other flags r) (length g.nodes) l off (flag_set flags r (subst (λ n. r < n) (sym count) l)) in
    omega (arith, a, b, same, d)

-- ---- the places of the flags

places_has : (a : ℕ) (bs : List Bool) (k : ℕ) → Has (places_from a bs) k → (i : ℕ) × (k ≡ a + i) × IsFlagged bs i
places_has a [] k h = absurd (none_some h.1)
places_has a (true ∷ bs) k (zero, e) = (zero, (let m : a ≡ a + 0 = omega arith in sym (some_eq e) ∙ m), refl)
places_has a (true ∷ bs) k (suc j, e) = let r = places_has (suc a) bs k (j, e) in (suc r.0, (let m : suc a + r.0 ≡ a + suc r.0 = omega arith in r.1 ∙ m), r.2)
places_has a (false ∷ bs) k h = let r = places_has (suc a) bs k h in (suc r.0, (let m : suc a + r.0 ≡ a + suc r.0 = omega arith in r.1 ∙ m), r.2)

has_places : (a : ℕ) (bs : List Bool) (i : ℕ) → IsFlagged bs i → Has (places_from a bs) (a + i)
has_places a [] i f = absurd (none_some f)
has_places a (true ∷ bs) zero f = (zero, (let m : a ≡ a + 0 = omega arith in ap Some m))
has_places a (false ∷ bs) zero f = absurd (false≢true (some_eq f))
has_places a (true ∷ bs) (suc i) f = let r = has_places (suc a) bs i f in let m : suc a + i ≡ a + suc i = omega arith in (suc r.0, r.1 ∙ ap Some m)
has_places a (false ∷ bs) (suc i) f = let r = has_places (suc a) bs i f in let m : suc a + i ≡ a + suc i = omega arith in (r.0, r.1 ∙ ap Some m)

places_above : (b a : ℕ) (bs : List Bool) → b < a → AllByRecursion (λ y. b < y) (places_from a bs)
places_above b a [] l = tt
places_above b a (true ∷ bs) l = (l, places_above b (suc a) bs (omega arith))
places_above b a (false ∷ bs) l = places_above b (suc a) bs (omega arith)

places_rise : (a : ℕ) (bs : List Bool) → Rises (places_from a bs)
places_rise a [] = tt
places_rise a (true ∷ bs) = (places_above a (suc a) bs (omega arith), places_rise (suc a) bs)
places_rise a (false ∷ bs) = places_rise (suc a) bs

pub places_list : (P : ProgramTables) (g : Graph) (flags : List Bool) (v : List ℕ) → Flags P g flags → v ≡ places_from 0 flags → Lists P g v
places_list P g flags v f e = subst (Lists P g) (sym e) (record {
  rises = places_rise 0 flags;
  just = λ k. (
    (λ h. let r = places_has 0 flags k h in let m : k ≡ r.0 = let x = r.1 in omega (arith, x) in (f.just k).0 (subst (IsFlagged flags) (sym m) r.2)),
    λ l. let m : 0 + k ≡ k = omega arith in subst (Has (places_from 0 flags)) m (has_places 0 flags k ((f.just k).1 l)),
  );
})

-- one flag more
pub places_more : (a : ℕ) (bs : List Bool) (b : Bool) → places_from a (bs ++ b ∷ []) ≡ places_from a bs ++ (if b then (a + length bs) ∷ [] else [])
places_more a [] true = let m : a ≡ a + 0 = omega arith in ap (λ x. x ∷ []) m
places_more a [] false = refl
places_more a (true ∷ bs) b = let m : suc a + length bs ≡ a + suc (length bs) = omega arith in ap (λ xs. a ∷ xs) (places_more (suc a) bs b ∙ ap (λ x. places_from (suc a) bs ++ (if b then x ∷ [] else [])) m)
places_more a (false ∷ bs) b = let m : suc a + length bs ≡ a + suc (length bs) = omega arith in places_more (suc a) bs b ∙ ap (λ x. places_from (suc a) bs ++ (if b then x ∷ [] else [])) m

take_long : (bs : List Bool) (k : ℕ) → k ≤ length bs → length (take k bs) ≡ k
take_long bs zero l = refl
take_long [] (suc k) l = absurd (omega arith)
take_long (b ∷ bs) (suc k) l = ap suc (take_long bs k (omega arith))

pub places_next : (bs : List Bool) (ps qs : List ℕ) (k : ℕ) (d : Bool) → k < length bs → ps ≡ places_from 0 (take k bs) → qs ≡ ps ++ (if get_or bs k d then k ∷ [] else [])
    → qs ≡ places_from 0 (take (k + 1) bs)
places_next bs ps qs k d l inv e =
    let n : 0 + length (take k bs) ≡ k = let m = take_long bs k (omega arith) in omega (arith, m) in
    e ∙ ap (λ xs. xs ++ (if get_or bs k d then k ∷ [] else [])) inv
    ∙ ap (λ x. places_from 0 (take k bs) ++ (if get_or bs k d then x ∷ [] else [])) (sym n)
    ∙ sym (places_more 0 (take k bs) (get_or bs k d)) ∙ ap (places_from 0) (sym (take_more bs k d l))

-- ---- what is read of the flags

pub flag_read : (flags : List Bool) (i : ℕ) (b v : Bool) → i < length flags → b ≡ get_or flags i b → b ≡ v → slice_get flags i ≡ Some v
flag_read flags i b v l e is = slice_get_read flags (length flags) i b refl l e ∙ ap Some is

pub flag_off : (flags : List Bool) (i : ℕ) → i < length flags → slice_get flags i ≡ Some false → flag_at flags i ≡ false
flag_off flags i l e = some_eq (sym (slice_get-get_or flags i false l) ∙ e)
