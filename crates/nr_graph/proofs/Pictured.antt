-- A picture in the order of first visit: its names and its graph are determined, its graph is in order, and what it lists is
-- reached.
use Rattle.std.proofs.Common.{◌≡◌, ℕ, zero, suc, ◌+◌, ◌<◌, List, [], ◌∷◌, length, refl, sym, ap, subst, ◌∙◌, arith}
use Rattle.std.specs.Prelude.{Option, Some, None, IsSomeAnd, slice_get}
use Rattle.std.specs.FinMap.{get}
use Rattle.std.specs.List.{range_with_len}
use Rattle.nr_linked.specs.declared.program.tables.ProgramTables.{ProgramTables}
use Rattle.nr_linked.proofs.Elements.{get_below}
use Rattle.std.proofs.lemmas.Option.{slice_get_within}
use Rattle.nr_model.specs.declared.value.Value.{Value}
use Rattle.nr_model.specs.Heaps.{EachOnce, Heap, Obj}
use Rattle.nr_model.specs.Pairs.{Holds, Reach}
use Rattle.nr_model.proofs.Paths.{some_eq}
use Rattle.nr_graph.specs.declared.graph.Graph.{Graph}
use Rattle.nr_graph.specs.declared.graph.Node.{Node}
use Rattle.nr_graph.specs.declared.graph.Slot.{Slot}
use Rattle.nr_graph.specs.declared.graph.Slot.TheVariants.{Node as At}
use Rattle.nr_graph.specs.Graphs.{IsInOrder, next_node, node_at, root_nodes, root_slots}
use Rattle.nr_graph.specs.Pictures.{AllDraw, no_value, one_value, AllReached, Draws, draws_int, draws_long, draws_null, draws_node, DrawsObject, IsPicture, Pictured, names_in, next_in}
use Rattle.nr_graph.specs.StreamOrder.{stream_place}
use Rattle.nr_graph.specs.Walks.{Walk}
use Rattle.nr_graph.proofs.Walks.{all_has, one_walk, walk_all}
use Rattle.nr_graph.proofs.Beside.{Beside, no_more, one_more, walk_beside}
use Rattle.nr_graph.proofs.Numbers.{numbers_are}
use Rattle.nr_graph.proofs.Drawn.{IsAt, drawn_beside, names_held, next_beside, next_names, reach_on}

-- ---- nodes with numbers

beside_back : (R : ℕ → ℕ → Type 0) {xs ys : List ℕ} → Beside R xs ys → Beside (λ y x. R x y) ys xs
beside_back R no_more = no_more
beside_back R (one_more r b) = one_more r (beside_back R b)

-- the names of the numbers in order are the names
names_are : (names rest out : List ℕ) (a : ℕ) → ((j x : ℕ) → slice_get rest j ≡ Some x → slice_get names (a + j) ≡ Some x)
    → Beside (λ i x. slice_get names i ≡ Some x) (range_with_len a (length rest)) out → out ≡ rest
names_are names [] out a at no_more = refl
names_are names (x ∷ xs) out a at (one_more {y = y} {ys = ys} r b) =
    let e : a + 0 ≡ a = omega arith in
    let is : y ≡ x = some_eq (sym r ∙ ap (slice_get names) (sym e) ∙ at zero x refl) in
    let more = names_are names xs ys (a + 1) (λ j z f. let m : (a + 1) + j ≡ a + suc j = omega arith in ap (slice_get names) m ∙ at (suc j) z f) b in
    (λ j. is j ∷ more j)

module _ (P : ProgramTables) (h : Heap) (vs : List Value) (names : List ℕ) (g : Graph) where
  from_zero : (j x : ℕ) → slice_get names j ≡ Some x → slice_get names (0 + j) ≡ Some x
  from_zero j x e = let m : 0 + j ≡ j = omega arith in ap (slice_get names) m ∙ e

  -- a walk of the heap is one of the graph
  pub in_order : IsPicture P h vs names g → IsInOrder g
  in_order p =
      let shown = p.pictured.shown in
      let once : (x i j : ℕ) → IsAt names x i → IsAt names x j → i ≡ j = λ x i j e f. shown.distinct i j x e f in
      let same : (x y i : ℕ) → IsAt names x i → IsAt names y i → x ≡ y = λ x y i e f. some_eq (sym e ∙ f) in
      let w = walk_beside (IsAt names) once same (next_in P h) (next_node g) (next_beside names P h g shown) (root_nodes g) [] p.order (drawn_beside names p.pictured.roots) no_more in
      let is : w.0 ≡ range_with_len 0 (length names) = numbers_are names shown.distinct names w.0 0 from_zero w.2 in
      subst (λ out. Walk (next_node g) (root_nodes g) [] out) (is ∙ ap (range_with_len 0) shown.count) w.1

  -- and the other way round
  pub picture : IsInOrder g → Pictured P h vs names g → IsPicture P h vs names g
  picture order p =
      let shown = p.shown in
      let once : (x i j : ℕ) → IsAt names x i → IsAt names x j → i ≡ j = λ x i j e f. shown.distinct i j x e f in
      let same : (x y i : ℕ) → IsAt names x i → IsAt names y i → x ≡ y = λ x y i e f. some_eq (sym e ∙ f) in
      let w = walk_beside (λ i x. IsAt names x i) (λ i x y. same x y i) (λ i j x. once x i j) (next_node g) (next_in P h)
      (λ i x e. beside_back (IsAt names) (next_beside names P h g shown x i e)) (names_in vs) [] order (beside_back (IsAt names) (drawn_beside names p.roots)) no_more in
      let long : Beside (λ i x. IsAt names x i) (range_with_len 0 (length names)) w.0 = subst (λ n. Beside (λ i x. IsAt names x i) (range_with_len 0 n) w.0) (sym shown.count) w.2 in
      let is : w.0 ≡ names = names_are names names w.0 0 from_zero long in
      record { order = subst (λ out. Walk (next_in P h) (names_in vs) [] out) is w.1; pictured = p }

  pub reached : IsPicture P h vs names g → AllReached h vs names
  reached p x has =
      all_has (Reach h (Holds vs)) names x
      (walk_all (next_in P h) (Reach h (Holds vs)) (λ y r. next_names P h (Reach h (Holds vs)) y (λ i z e. reach_on h (Holds vs) y i z r e))
      p.order (names_held (Reach h (Holds vs)) vs (λ i y e. (y, (i, e), [], refl))) tt) has

-- ---- there is one graph

same_lists : {A : Type 0} (xs ys : List A) → length xs ≡ length ys → ((i : ℕ) (x y : A) → slice_get xs i ≡ Some x → slice_get ys i ≡ Some y → x ≡ y) → xs ≡ ys
same_lists [] [] l each = refl
same_lists [] (y ∷ ys) l each = absurd (omega (arith, l))
same_lists (x ∷ xs) [] l each = absurd (omega (arith, l))
same_lists (x ∷ xs) (y ∷ ys) l each =
    let one = each zero x y refl refl in
    let more = same_lists xs ys (omega (arith, l)) (λ i u v e f. each (suc i) u v e f) in
    (λ j. one j ∷ more j)

module _ (names : List ℕ) (once : EachOnce names) where
  one_slot : (v : Value) (s t : Slot) → Draws names v s → Draws names v t → s ≡ t
  one_slot v s t draws_int draws_int = refl
  one_slot v s t draws_long draws_long = refl
  one_slot v s t draws_null draws_null = refl
  one_slot v s t (draws_node {x = x} {i = i} e) (draws_node {i = j} f) = ap At (once i j x e f)

  all_slots : {vs : List Value} {ss ts : List Slot} → AllDraw names vs ss → AllDraw names vs ts → ss ≡ ts
  all_slots no_value no_value = refl
  all_slots (one_value {v = v} {s = s} d ds) (one_value {s = t} e es) = let one = one_slot v s t d e in let more = all_slots ds es in (λ j. one j ∷ more j)

  one_in : (q : Option ℕ) (us : List Value) (s t : Slot) → IsSomeAnd q (λ i. IsSomeAnd (slice_get us i) (λ v. Draws names v s)) → IsSomeAnd q (λ i. IsSomeAnd (slice_get us i) (λ v. Draws names v t)) → s ≡ t
  one_in None us s t d e = absurd d
  one_in (Some i) us s t d e = by (slice_get us i) d e
    where
      by : (o : Option Value) → IsSomeAnd o (λ v. Draws names v s) → IsSomeAnd o (λ v. Draws names v t) → s ≡ t
      by None d e = absurd d
      by (Some v) d e = one_slot v s t d e

  one_node : (P : ProgramTables) (o : Obj) (m n : Node) → DrawsObject P names o m → DrawsObject P names o n → m ≡ n
  one_node P o m n d e =
      let kinds : m.kind ≡ n.kind = sym d.kind ∙ e.kind in
      let slots : m.slots ≡ n.slots = same_lists m.slots n.slots (sym d.count ∙ e.count) (λ k s t f f'.
      one_in (stream_place P m.kind k) o.slots s t (d.slots k s f)
      (subst (λ kind. IsSomeAnd (stream_place P kind k) (λ i. IsSomeAnd (slice_get o.slots i) (λ v. Draws names v t))) (sym kinds) (e.slots k t f'))) in
      (λ j. record { kind = kinds j; slots = slots j })

  one_at : (P : ProgramTables) (o : Option Obj) (p q : Option Node) (m n : Node) → IsSomeAnd o (λ o. IsSomeAnd p (λ n. DrawsObject P names o n)) → IsSomeAnd o (λ o. IsSomeAnd q (λ n. DrawsObject P names o n))
      → p ≡ Some m → q ≡ Some n → m ≡ n
  one_at P None p q m n d e f g = absurd d
  one_at P (Some o) None q m n d e f g = absurd d
  one_at P (Some o) (Some m') None m n d e f g = absurd e
  one_at P (Some o) (Some m') (Some n') m n d e f g = sym (some_eq f) ∙ one_node P o m' n' d e ∙ some_eq g

back : Slot → Option ℕ
back (At i) = Some i
back s = None

backs : List Slot → List (Option ℕ)
backs [] = []
backs (s ∷ ss) = back s ∷ backs ss

back_root : (rs : List (Option ℕ)) → backs (root_slots rs) ≡ rs
unfolding backs back
back_root [] = refl
back_root (None ∷ rs) = ap (λ xs. None ∷ xs) (back_root rs)
back_root (Some i ∷ rs) = ap (λ xs. Some i ∷ xs) (back_root rs)

pub one_graph : (P : ProgramTables) (h : Heap) (vs : List Value) (names : List ℕ) (g g' : Graph) → Pictured P h vs names g → Pictured P h vs names g' → g ≡ g'
one_graph P h vs names g g' p q =
    let once = p.shown.distinct in
    let roots : g.roots ≡ g'.roots = sym (back_root g.roots) ∙ ap backs (all_slots names once p.roots q.roots) ∙ back_root g'.roots in
    let nodes : g.nodes ≡ g'.nodes = same_lists g.nodes g'.nodes (sym p.shown.count ∙ q.shown.count) node in
    (λ j. record { nodes = nodes j; roots = roots j })
  where
    node : (i : ℕ) (m n : Node) → slice_get g.nodes i ≡ Some m → slice_get g'.nodes i ≡ Some n → m ≡ n
    node i m n e f =
        let l : i < length g.nodes = slice_get_within g.nodes i m e in
        let x = get_below names i (omega (arith, l, p.shown.count)) in
        one_at names p.shown.distinct P (get h x.0) (node_at g i) (node_at g' i) m n (p.shown.objects i x.0 x.1) (q.shown.objects i x.0 x.1) e f

pub one_picture : (P : ProgramTables) (h : Heap) (vs : List Value) (names others : List ℕ) (g g' : Graph) → IsPicture P h vs names g → IsPicture P h vs others g' → (names ≡ others) × (g ≡ g')
one_picture P h vs names others g g' p q =
    let is : names ≡ others = one_walk (next_in P h) p.order q.order in
    (is, one_graph P h vs names g g' p.pictured (subst (λ xs. Pictured P h vs xs g') (sym is) q.pictured))
