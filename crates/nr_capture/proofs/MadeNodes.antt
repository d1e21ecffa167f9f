-- New objects of nodes, one by one.
use Rattle.std.proofs.Common.{◌≡◌, ◌≢◌, ℕ, zero, suc, ◌+◌, ◌<◌, ◌≤◌, ◌⊎◌, inl, inr, true, false, List, [], ◌∷◌, ◌++◌, length, get_or, take, drop, refl, sym, ap, subst, ◌∙◌, length-append, arith, Bool, Option, Some, None, Result, Ok, Err, if◌then◌else◌}
use Rattle.std.specs.Prelude.{IsOk, IsSomeAnd, is_ok, slice_get}
use Rattle.std.specs.FinMap.{get}
use Rattle.std.proofs.Math.Decide.{ℕ_discrete}
use Rattle.std.proofs.lemmas.Bool.{false≢true}
use Rattle.std.proofs.lemmas.List.{drop_more, length-take-le, take_more, take_all}
use Rattle.nr_linked.specs.declared.program.tables.ProgramTables.{ProgramTables}
use Rattle.nr_model.specs.Heaps.{EachOnce, Has, Heap, Obj, cells, cells_of}
use Rattle.nr_model.specs.Outcomes.{max_cells}
use Rattle.nr_model.specs.TypedHeaps.{TypedHeap}
use Rattle.nr_model.proofs.Cells.{cells_new}
use Rattle.nr_model.proofs.Heaps.{get_other, get_same}
use Rattle.nr_model.proofs.Paths.{none_some}
use Rattle.nr_heap.specs.Contents.{Contents, HasMade}
use Rattle.nr_graph.specs.declared.graph.Node.{Node}
use Rattle.nr_graph.specs.Graphs.{cells_of_nodes}
use Rattle.nr_graph.specs.Walks.{is_met}
use Rattle.nr_graph.proofs.Walks.{met_has, no_names_once, once_more}
use Rattle.nr_capture.specs.Making.{AreOf, HasMadeOf, HasRoom, IsOf, MadeOf}
use Rattle.nr_capture.specs.Planting.{Adds}
use Rattle.nr_capture.proofs.Found.{at_end}

-- ---- lists

pub in_front : {A : Type 0} (xs ys : List A) (i : ℕ) (x : A) → slice_get xs i ≡ Some x → slice_get (xs ++ ys) i ≡ Some x
in_front [] ys i x e = absurd (none_some e)
in_front (z ∷ xs) ys zero x e = e
in_front (z ∷ xs) ys (suc i) x e = in_front xs ys i x e

pub at_last : {A : Type 0} (xs : List A) (x : A) → slice_get (xs ++ x ∷ []) (length xs) ≡ Some x
at_last [] x = refl
at_last (z ∷ xs) x = at_last xs x

has_either : (xs : List ℕ) (x y : ℕ) → Has (xs ++ x ∷ []) y → Has xs y ⊎ (x ≡ y)
has_either xs x y h = by (at_end xs x h.0 y h.1)
  where
    by : (slice_get xs h.0 ≡ Some y) ⊎ ((h.0 ≡ length xs) × (x ≡ y)) → Has xs y ⊎ (x ≡ y)
    by (inl e) = inl (h.0, e)
    by (inr e) = inr e.1

-- ---- a heap that got one object more

module _ (c d : Contents) (x : ℕ) (o : Obj) (made : HasMade c d x o) where
  pub new_there : get d.objects x ≡ Some o
  new_there = ap (λ h. get h x) made.objects ∙ get_same c.objects x o

  pub old_there : (y : ℕ) → (y ≡ x → ⊥) → get d.objects y ≡ get c.objects y
  old_there y n = ap (λ h. get h y) made.objects ∙ get_other c.objects x y o n

  pub cells_made : cells d.objects ≡ cells c.objects + cells_of o
  cells_made = ap cells made.objects ∙ cells_new c.objects x o made.fresh

module _ (h : Heap) (c d : Contents) (names names' : List ℕ) (x : ℕ) (o : Obj) (nodes : List Node) (adds : Adds h c.objects names) (are : AreOf c.objects names nodes)
    (made : HasMade c d x o) (push : names' ≡ names ++ x ∷ []) where
  -- a name of an object isn't the new one
  other : (y : ℕ) (Q : Obj → Type 0) → IsSomeAnd (get c.objects y) Q → y ≡ x → ⊥
  other y Q a e = by (get c.objects y) (ap (get c.objects) e ∙ made.fresh) a
    where
      by : (q : Option Obj) → q ≡ None → IsSomeAnd q Q → ⊥
      by None e a = a
      by (Some p) e a = none_some (sym e)

  unlisted : is_met names x ≡ false
  unlisted = by (is_met names x) refl
    where
      by : (b : Bool) → is_met names x ≡ b → is_met names x ≡ false
      by false e = e
      by true e = let i = met_has names x e in absurd (other x (λ o. IsSomeAnd (slice_get nodes i.0) (λ n. IsOf n.kind (length n.slots) o)) (are.objects i.0 x i.1) refl)

  fresh_there : get h x ≡ None
  fresh_there = by (get h x) refl
    where
      by : (q : Option Obj) → get h x ≡ q → get h x ≡ None
      by None e = e
      by (Some p) e = absurd (none_some (sym made.fresh ∙ adds.kept x (λ n. none_some (sym n ∙ e)) ∙ e))

  last_has : Has names' x
  last_has = subst (λ xs. Has xs x) (sym push) (length names, at_last names x)

  front_has : (y : ℕ) → Has names y → Has names' y
  front_has y i = subst (λ xs. Has xs y) (sym push) (i.0, in_front names (x ∷ []) i.0 y i.1)

  pub adds_more : Adds h d.objects names'
  adds_more = record {
    distinct = subst EachOnce (sym push) (once_more names x adds.distinct unlisted);
    fresh = λ y i. fresh y (has_either names x y (subst (λ xs. Has xs y) push i));
    kept = λ y n. old_there c d x o made y (λ e. n (ap (get h) e ∙ fresh_there)) ∙ adds.kept y n;
    just = λ y n. just y n (ℕ_discrete y x);
  }
    where
      fresh : (y : ℕ) → Has names y ⊎ (x ≡ y) → get h y ≡ None
      fresh y (inl i) = adds.fresh y i
      fresh y (inr e) = ap (get h) (sym e) ∙ fresh_there

      old : (y : ℕ) → (get h y ≢ None) ⊎ Has names y → (get h y ≢ None) ⊎ Has names' y
      old y (inl n) = inl n
      old y (inr i) = inr (front_has y i)

      just : (y : ℕ) → get d.objects y ≢ None → Dec (y ≡ x) → (get h y ≢ None) ⊎ Has names' y
      just y n (yes e) = inr (subst (Has names') (sym e) last_has)
      just y n (no m) = old y (adds.just y (λ e. n (old_there c d x o made y m ∙ e)))

  pub of_more : (n : Node) (nodes' : List Node) → nodes' ≡ nodes ++ n ∷ [] → IsOf n.kind (length n.slots) o → AreOf d.objects names' nodes'
  of_more n nodes' f is = record {
    count = ap length push ∙ length-append names (x ∷ []) ∙ ap (λ m. m + 1) are.count ∙ sym (length-append nodes (n ∷ [])) ∙ sym (ap length f);
    objects = λ i y e. subst (λ ns. IsSomeAnd (get d.objects y) (λ o. IsSomeAnd (slice_get ns i) (λ n. IsOf n.kind (length n.slots) o))) (sym f)
        (by i y (at_end names x i y (ap (λ xs. slice_get xs i) (sym push) ∙ e)));
  }
    where
      more : (i : ℕ) (q : Obj) → IsSomeAnd (slice_get nodes i) (λ n. IsOf n.kind (length n.slots) q) → IsSomeAnd (slice_get (nodes ++ n ∷ []) i) (λ n. IsOf n.kind (length n.slots) q)
      more i q a = go (slice_get nodes i) refl a
        where
          go : (m : Option Node) → slice_get nodes i ≡ m → IsSomeAnd m (λ n. IsOf n.kind (length n.slots) q) → IsSomeAnd (slice_get (nodes ++ n ∷ []) i) (λ n. IsOf n.kind (length n.slots) q)
          go None e a = absurd a
          go (Some m) e a = subst (λ m. IsSomeAnd m (λ n. IsOf n.kind (length n.slots) q)) (sym (in_front nodes (n ∷ []) i m e)) a

      old : (i y : ℕ) (q : Option Obj) → IsSomeAnd q (λ o. IsSomeAnd (slice_get nodes i) (λ n. IsOf n.kind (length n.slots) o)) → IsSomeAnd q (λ o. IsSomeAnd (slice_get (nodes ++ n ∷ []) i) (λ n. IsOf n.kind (length n.slots) o))
      old i y None a = absurd a
      old i y (Some q) a = more i q a

      by : (i y : ℕ) → (slice_get names i ≡ Some y) ⊎ ((i ≡ length names) × (x ≡ y)) → IsSomeAnd (get d.objects y) (λ o. IsSomeAnd (slice_get (nodes ++ n ∷ []) i) (λ n. IsOf n.kind (length n.slots) o))
      by i y (inl e) =
          let a = are.objects i y e in
          let m = other y (λ o. IsSomeAnd (slice_get nodes i) (λ n. IsOf n.kind (length n.slots) o)) a in
          subst (λ q. IsSomeAnd q (λ o. IsSomeAnd (slice_get (nodes ++ n ∷ []) i) (λ n. IsOf n.kind (length n.slots) o))) (sym (old_there c d x o made y m)) (old i y (get c.objects y) a)
      by i y (inr e) =
          let at : slice_get (nodes ++ n ∷ []) i ≡ Some n = ap (slice_get (nodes ++ n ∷ [])) (e.0 ∙ are.count) ∙ at_last nodes n in
          let there : get d.objects y ≡ Some o = ap (get d.objects) (sym e.1) ∙ new_there c d x o made in
          subst (λ q. IsSomeAnd q (λ o. IsSomeAnd (slice_get (nodes ++ n ∷ []) i) (λ n. IsOf n.kind (length n.slots) o))) (sym there)
          (subst (λ q. IsSomeAnd q (λ n. IsOf n.kind (length n.slots) o)) (sym at) is)

-- ---- node by node

pub made_none : (P : ProgramTables) (h : Heap) (names : List ℕ) → TypedHeap P h → names ≡ [] → MadeOf P h h names []
made_none P h names typed e = record {
  typed = typed;
  adds = subst (Adds h h) (sym e) (record { distinct = no_names_once; fresh = λ x i. absurd (none_some i.1); kept = λ x n. refl; just = λ x n. inl n });
  made = subst (λ names. AreOf h names []) (sym e) (record { count = refl; objects = λ i x e. absurd (none_some e) });
}

pub made_more : (P : ProgramTables) (h : Heap) (c d : Contents) (names names' : List ℕ) (nodes nodes' : List Node) (x : ℕ) (n : Node) → MadeOf P h c.objects names nodes
    → HasMadeOf c d x n.kind (length n.slots) → TypedHeap P d.objects → names' ≡ names ++ x ∷ [] → nodes' ≡ nodes ++ n ∷ [] → MadeOf P h d.objects names' nodes'
made_more P h c d names names' nodes nodes' x n all of typed push more = record {
  typed = typed;
  adds = adds_more h c d names names' x of.object nodes all.adds all.made of.made push;
  made = of_more h c d names names' x of.object nodes all.adds all.made of.made push n nodes' more of.of_kind;
}

module _ (nodes : List Node) (i : ℕ) (c : Contents) (n : Node) (room : HasRoom c (drop i nodes)) (l : i < length nodes) (is : n ≡ get_or nodes i n) where
  left : cells_of_nodes (drop i nodes) ≡ (length n.slots + 1) + cells_of_nodes (drop (i + 1) nodes)
  left = ap cells_of_nodes (drop_more nodes i n l ∙ ap (λ m. m ∷ drop (i + 1) nodes) (sym is))

  pub room_here : (length n.slots + 1 ≤ c.spare) × (cells c.objects + (length n.slots + 1) ≤ max_cells)
  room_here = (omega (arith, room.room, left), omega (arith, room.few, left))

  pub room_next : (d : Contents) (x : ℕ) → HasMadeOf c d x n.kind (length n.slots) → HasRoom d (drop (i + 1) nodes)
  room_next d x of =
      let all = cells_made c d x of.object of.made in
      record { room = omega (arith, room.room, left, of.made.spare, of.of_kind.count); few = omega (arith, room.few, left, all, of.of_kind.count) }

  pub taken : take (i + 1) nodes ≡ take i nodes ++ n ∷ []
  taken = take_more nodes i n l ∙ ap (λ m. take i nodes ++ m ∷ []) (sym is)

pub made_all : (P : ProgramTables) (h k : Heap) (names : List ℕ) (nodes : List Node) (i : ℕ) → MadeOf P h k names (take i nodes) → length nodes ≤ i → MadeOf P h k names nodes
made_all P h k names nodes i all l = subst (MadeOf P h k names) (take_all i nodes l) all

-- a name that was pushed, where there was room for it
pub name_pushed : {E : Type 0} (r : Result (Unit {0}) E) (xs ys : List ℕ) (x : ℕ) → IsOk r → ys ≡ (if is_ok r then xs ++ x ∷ [] else xs) → ys ≡ xs ++ x ∷ []
name_pushed (Ok u) xs ys x ok e = e
name_pushed (Err f) xs ys x ok e = absurd (false≢true ok)

pub names_long : (P : ProgramTables) (h k : Heap) (names : List ℕ) (nodes : List Node) (i : ℕ) → MadeOf P h k names (take i nodes) → i < length nodes → length names ≡ i
names_long P h k names nodes i all l = all.made.count ∙ length-take-le i nodes (omega (arith, l))
