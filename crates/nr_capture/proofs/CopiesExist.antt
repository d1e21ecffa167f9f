-- What is passed by copy has copies.
use Rattle.std.proofs.Common.{◌≡◌, ◌≢◌, ℕ, zero, suc, ◌+◌, ◌≤◌, ◌⊎◌, inl, inr, Bool, true, false, true≢false, if◌then◌else◌, List, [], ◌∷◌, map, refl, sym, ap, ◌∙◌, arith, Option, Some, None, T}
use Rattle.std.specs.Prelude.{IsSomeAnd, slice_get}
use Rattle.std.specs.FinMap.{FinMap, empty, entries, entries_sorted, get, get-empty, get-entries, get-insert, insert, is_sorted}
use Rattle.std.specs.Ordering.{nat_cmp}
use Rattle.std.proofs.Math.Decide.{ℕ_discrete}
use Rattle.std.proofs.lemmas.Cmp.{nat_cmp_total}
use Rattle.nr_linked.specs.declared.program.tables.ProgramTables.{ProgramTables}
use Rattle.nr_linked.specs.Linked.{Linked}
use Rattle.nr_model.specs.declared.value.Value.{Value}
use Rattle.nr_model.specs.Heaps.{Has, Heap, Obj}
use Rattle.std.specs.Option.{option_map}
use Rattle.nr_model.specs.Locals.{CopyArgs, IsShared, copied_object, copied_value}
use Rattle.nr_model.specs.Pairs.{Holds, Reach}
use Rattle.nr_model.proofs.Copies.{IsKey, build, built_distinct, built_from, built_has, found_key, key_found, planted, planted_at, planted_old, planted_only}
use Rattle.nr_model.proofs.Heaps.{eq_self, not_equal}
use Rattle.nr_model.proofs.Matchings.{Matched}
use Rattle.nr_model.proofs.Mirror.{above_all, above_free}
use Rattle.nr_model.proofs.Paths.{none_some, some_eq}
use Rattle.nr_graph.specs.declared.graph.Graph.{Graph}
use Rattle.nr_graph.specs.Fitting.{GraphFits}
use Rattle.nr_graph.specs.Graphs.{node_at}
use Rattle.nr_graph.specs.Listing.{Lists}
use Rattle.nr_graph.specs.Pictures.{DrawsObject, IsPicture}
use Rattle.nr_graph.specs.Walks.{is_met}
use Rattle.nr_graph.proofs.Along.{IsAlong, along, covers}
use Rattle.nr_graph.proofs.Copied.{copies_picture}
use Rattle.nr_graph.proofs.Pictured.{reached}
use Rattle.nr_graph.proofs.Walks.{has_met, met_has}
use Rattle.nr_graph.proofs.Ways.{lists_shared, reached_listed}

cond_either : {X : Type 0} (b : Bool) (x y : X) → (b ≡ true → ⊥) → (if b then x else y) ≡ y
cond_either true x y n = absurd (n refl)
cond_either false x y n = refl

-- the names of nodes from number i on that aren't listed
unlisted : List ℕ → ℕ → List ℕ → FinMap nat_cmp ℕ
unlisted nodes i [] = empty
unlisted nodes i (x ∷ xs) = if is_met nodes i then unlisted nodes (suc i) xs else insert (unlisted nodes (suc i) xs) x 0

put_same : (m : FinMap nat_cmp ℕ) (x : ℕ) → get (insert m x 0) x ≡ Some 0
put_same m x = get-insert nat_cmp_total m x 0 x ∙ ap (λ b. if b then Some 0 else get m x) (eq_self x)

put_other : (m : FinMap nat_cmp ℕ) (x y : ℕ) → y ≢ x → get (insert m x 0) y ≡ get m y
put_other m x y n = get-insert nat_cmp_total m x 0 y ∙ ap (λ b. if b then Some 0 else get m y) (not_equal y x _ refl n)

unlisted_has : (nodes : List ℕ) (i : ℕ) (xs : List ℕ) (y : ℕ) → get (unlisted nodes i xs) y ≢ None → (j : ℕ) × (slice_get xs j ≡ Some y) × (is_met nodes (i + j) ≡ false)
unfolding unlisted
unlisted_has nodes i [] y n = absurd (n (get-empty nat_cmp y))
unlisted_has nodes i (x ∷ xs) y n = by (is_met nodes i) refl n (unlisted_has nodes (suc i) xs y)
  where
    later : (get (unlisted nodes (suc i) xs) y ≢ None → (j : ℕ) × (slice_get xs j ≡ Some y) × (is_met nodes (suc i + j) ≡ false)) → get (unlisted nodes (suc i) xs) y ≢ None
        → (j : ℕ) × (slice_get (x ∷ xs) j ≡ Some y) × (is_met nodes (i + j) ≡ false)
    later rec n = let r = rec n in let e : i + suc r.0 ≡ suc i + r.0 = omega arith in (suc r.0, r.1, ap (is_met nodes) e ∙ r.2)

    by : (b : Bool) → is_met nodes i ≡ b → get (if b then unlisted nodes (suc i) xs else insert (unlisted nodes (suc i) xs) x 0) y ≢ None
        → (get (unlisted nodes (suc i) xs) y ≢ None → (j : ℕ) × (slice_get xs j ≡ Some y) × (is_met nodes (suc i + j) ≡ false)) → (j : ℕ) × (slice_get (x ∷ xs) j ≡ Some y) × (is_met nodes (i + j) ≡ false)
    by true e n rec = later rec n
    by false e n rec = cases (ℕ_discrete y x)
      where
        cases : Dec (y ≡ x) → (j : ℕ) × (slice_get (x ∷ xs) j ≡ Some y) × (is_met nodes (i + j) ≡ false)
        cases (yes d) = let z : i + 0 ≡ i = omega arith in (0, ap Some (sym d), ap (is_met nodes) z ∙ e)
        cases (no d) = later rec (λ f. n (put_other (unlisted nodes (suc i) xs) x y d ∙ f))

has_unlisted : (nodes : List ℕ) (i : ℕ) (xs : List ℕ) (j y : ℕ) → slice_get xs j ≡ Some y → is_met nodes (i + j) ≡ false → get (unlisted nodes i xs) y ≢ None
unfolding unlisted
has_unlisted nodes i [] j y e m = absurd (none_some e)
has_unlisted nodes i (x ∷ xs) j y e m = by (λ j e m. has_unlisted nodes (suc i) xs j y e m) (is_met nodes i) refl j e m
  where
    later : ((j : ℕ) → slice_get xs j ≡ Some y → is_met nodes (suc i + j) ≡ false → get (unlisted nodes (suc i) xs) y ≢ None) → (j : ℕ) → slice_get xs j ≡ Some y → is_met nodes (i + suc j) ≡ false
        → get (unlisted nodes (suc i) xs) y ≢ None
    later rec j e m = let s : suc i + j ≡ i + suc j = omega arith in rec j e (ap (is_met nodes) s ∙ m)

    by : ((j : ℕ) → slice_get xs j ≡ Some y → is_met nodes (suc i + j) ≡ false → get (unlisted nodes (suc i) xs) y ≢ None) → (b : Bool) → is_met nodes i ≡ b → (j : ℕ) → slice_get (x ∷ xs) j ≡ Some y
        → is_met nodes (i + j) ≡ false → get (if b then unlisted nodes (suc i) xs else insert (unlisted nodes (suc i) xs) x 0) y ≢ None
    by rec true f zero e m = let z : i ≡ i + 0 = omega arith in absurd (true≢false (sym f ∙ ap (is_met nodes) z ∙ m))
    by rec true f (suc j) e m = later rec j e m
    by rec false f zero e m = λ g. none_some (sym g ∙ ap (get (insert (unlisted nodes (suc i) xs) x 0)) (sym (some_eq e)) ∙ put_same (unlisted nodes (suc i) xs) x)
    by rec false f (suc j) e m = cases (ℕ_discrete y x)
      where
        cases : Dec (y ≡ x) → get (insert (unlisted nodes (suc i) xs) x 0) y ≢ None
        cases (yes d) = λ g. none_some (sym g ∙ ap (get (insert (unlisted nodes (suc i) xs) x 0)) d ∙ put_same (unlisted nodes (suc i) xs) x)
        cases (no d) = λ g. later rec j e m (sym (put_other (unlisted nodes (suc i) xs) x y d) ∙ g)

module _ (P : ProgramTables) (h : Heap) (us : List Value) (names nodes : List ℕ) (g : Graph) (linked : Linked P) (fits : GraphFits P g) (picture : IsPicture P h us names g) (lists : Lists P g nodes) where
  match : Matched (IsAlong names names) h h
  match = along P names names g (covers P linked g fits) h h picture.pictured.shown picture.pictured.shown

  same : (x y : ℕ) → IsAlong names names x y → x ≡ y
  same x y r = some_eq (sym r.left ∙ r.right)

  keys : List (ℕ × ℕ)
  keys = entries (unlisted nodes 0 names)

  key_node : (x : ℕ) → IsKey keys x → (i : ℕ) × (slice_get names i ≡ Some x) × (is_met nodes i ≡ false)
  unfolding keys
  key_node x k =
      let r = unlisted_has nodes 0 names x (λ e. key_found (entries (unlisted nodes 0 names)) x k (sym (get-entries (unlisted nodes 0 names) x) ∙ e)) in
      let z : r.0 ≡ 0 + r.0 = omega arith in
      (r.0, r.1, ap (is_met nodes) z ∙ r.2)

  node_key : (i x : ℕ) → slice_get names i ≡ Some x → is_met nodes i ≡ false → IsKey keys x
  unfolding keys
  node_key i x e m =
      let z : 0 + i ≡ i = omega arith in
      found_key (entries (unlisted nodes 0 names)) x (λ f. has_unlisted nodes 0 names i x e (ap (is_met nodes) z ∙ m) (get-entries (unlisted nodes 0 names) x ∙ f))

  keys_sorted : T (is_sorted nat_cmp keys)
  unfolding keys
  keys_sorted = entries_sorted (unlisted nodes 0 names)

  partners : (x : ℕ) → IsKey keys x → (y : ℕ) × IsAlong names names x y
  partners x k = let r = key_node x k in (x, record { node = r.0; left = r.1; right = r.1 })

  bound : ℕ
  bound = above_all h

  free : (x : ℕ) → bound ≤ x → get h x ≡ None
  unfolding bound
  free x l = above_free h x l

  copies : FinMap nat_cmp ℕ
  copies = build (IsAlong names names) h h match bound free keys bound partners

  pub copied_heap : Heap
  copied_heap = planted (IsAlong names names) h h match bound free copies keys bound partners

  pub copied_args : List Value
  copied_args = map (copied_value copies) us

  shared : (i x : ℕ) → slice_get names i ≡ Some x → (Has nodes i → IsShared P h us x) × (IsShared P h us x → Has nodes i)
  shared i x e = let r = lists_shared P h names g picture.pictured.shown (covers P linked g fits) us picture.pictured.roots nodes lists i x e in (r.0, r.1)

  -- each copy is of an object that isn't shared
  from : (x z : ℕ) → get copies x ≡ Some z → (i : ℕ) × (slice_get names i ≡ Some x) × (is_met nodes i ≡ false) × (bound ≤ z)
  unfolding copies
  from x z e =
      let r = built_from (IsAlong names names) h h match bound free keys bound partners x z e in
      let k = key_node r.0 r.1 in
      let is = same r.0 x r.2 in
      (k.0, k.1 ∙ ap Some is, k.2, r.3)

  originals : (x : ℕ) → get copies x ≢ None → Reach h (Holds us) x × ¬ IsShared P h us x
  originals x n = by (get copies x) refl
    where
      by : (q : Option ℕ) → get copies x ≡ q → Reach h (Holds us) x × ¬ IsShared P h us x
      by None e = absurd (n e)
      by (Some z) e =
          let r = from x z e in (
            reached P h us names g picture x (r.0, r.1),
            λ s. true≢false (sym (has_met nodes r.0 ((shared r.0 x r.1).1 s)) ∙ r.2),
          )

  whole : (x : ℕ) → Reach h (Holds us) x → IsShared P h us x ⊎ (get copies x ≢ None)
  unfolding copies
  whole x r =
      let i = reached_listed P h names g picture.pictured.shown (covers P linked g fits) us picture.pictured.roots x r in
      by i.0 i.1 (is_met nodes i.0) refl
    where
      by : (i : ℕ) → slice_get names i ≡ Some x → (b : Bool) → is_met nodes i ≡ b → IsShared P h us x ⊎ (get (build (IsAlong names names) h h match bound free keys bound partners) x ≢ None)
      by i e true m = inl ((shared i x e).0 (met_has nodes i m))
      by i e false m = inr (built_has (IsAlong names names) h h match bound free keys bound partners x x (node_key i x e m) (record { node = i; left = e; right = e }))

  pub copies_exist : CopyArgs P h us copied_heap copied_args
  unfolding copies copied_heap copied_args
  copies_exist = record {
    copies = copies;
    originals = originals;
    whole = whole;
    new = λ x z e. free z (from x z e).3;
    distinct = distinct;
    objects = objects;
    arguments = refl;
    old = old;
    no_more = no_more;
  }
    where
      distinct : (x y z : ℕ) → get copies x ≡ Some z → get copies y ≡ Some z → x ≡ y
      distinct x y z e f = built_distinct (IsAlong names names) h h match bound free keys bound partners x y z e f

      objects : (x z : ℕ) → get copies x ≡ Some z → get copied_heap z ≡ option_map (copied_object copies) (get h x)
      objects x z e = planted_at (IsAlong names names) h h match bound free copies keys bound partners x z e

      old : (x : ℕ) → get h x ≢ None → get copied_heap x ≡ get h x
      old x n = planted_old (IsAlong names names) h h match bound free copies keys bound partners (omega arith) x n

      no_more : (y : ℕ) → get copied_heap y ≢ None → (get h y ≢ None) ⊎ ((x : ℕ) × (get copies x ≡ Some y))
      no_more y n = planted_only (IsAlong names names) h h match bound free copies keys bound partners keys_sorted y n

  -- what is reached is in the heap
  there : (x : ℕ) → Reach h (Holds us) x → get h x ≢ None
  there x r =
      let i = reached_listed P h names g picture.pictured.shown (covers P linked g fits) us picture.pictured.roots x r in
      by i.0 (get h x) refl (picture.pictured.shown.objects i.0 x i.1)
    where
      by : (i : ℕ) (o : Option Obj) → get h x ≡ o → IsSomeAnd o (λ o. IsSomeAnd (node_at g i) (λ n. DrawsObject P names o n)) → get h x ≢ None
      by i None e a = absurd a
      by i (Some o) e a = λ f. none_some (sym f ∙ e)

  pub copies_look : (others : List ℕ) × IsPicture P copied_heap copied_args others g
  copies_look = let r = copies_picture P h copied_heap us copied_args copies_exist there names g picture in (r.0, r.1)
