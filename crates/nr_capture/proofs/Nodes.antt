-- Objects that are drawn as nodes.
use Rattle.std.proofs.Common.{◌≡◌, ℕ, zero, suc, ◌+◌, ◌<◌, ◌≤◌, true, false, List, [], ◌∷◌, ◌++◌, length, get_or, take, refl, sym, ap, subst, subst₂, ◌∙◌, ◌⊎◌, inl, inr, length-append, arith, Option, Some, None}
use Rattle.std.specs.Prelude.{IsSomeAnd, slice_get, ℤ}
use Rattle.std.specs.FinMap.{get}
use Rattle.std.specs.List.{AllByRecursion}
use Rattle.std.proofs.lemmas.Bool.{cases_lt}
use Rattle.std.proofs.lemmas.List.{take_all, take_more}
use Rattle.nr_linked.specs.declared.program.tables.ProgramTables.{ProgramTables}
use Rattle.nr_model.specs.declared.value.Value.{Value}
use Rattle.nr_model.specs.declared.value.Value.TheVariants as values
use Rattle.nr_model.specs.Heaps.{Heap, Obj}
use Rattle.nr_model.proofs.Paths.{none_some, some_eq}
use Rattle.nr_graph.specs.declared.graph.Slot.{Slot}
use Rattle.nr_graph.specs.declared.graph.Slot.TheVariants.{Int, Long, Null, Node as At}
use Rattle.nr_graph.specs.declared.graph.Node.{Node}
use Rattle.nr_graph.specs.Graphs.{root_slot, root_slots}
use Rattle.nr_graph.specs.Pictures.{AllDraw, no_value, one_value, Draws, draws_int, draws_long, draws_null, draws_node, DrawsObject, names_in, next_in}
use Rattle.nr_graph.specs.StreamOrder.{stream_place}
use Rattle.nr_graph.specs.Walks.{is_met}
use Rattle.nr_graph.proofs.Walks.{has_met, led}
use Rattle.nr_capture.specs.Drawing.{AllBits, AllDrawn, AllDrawnTo, HasBits, IsDrawn, IsRead, IsWalked}
use Rattle.nr_capture.specs.Roots.{AreMet, IsIn, root_value, root_values}
use Rattle.nr_capture.proofs.Found.{in_range, next_read}

-- ---- one value

pub int_drawn : (names : List ℕ) (v : Value) (n m : ℤ) → v ≡ values.Int n → m ≡ n → Draws names v (Int m)
int_drawn names v n m e f = subst₂ (λ v m. Draws names v (Int m)) (sym e) (sym f) draws_int

pub long_drawn : (names : List ℕ) (v : Value) (n m : ℤ) → v ≡ values.Long n → m ≡ n → Draws names v (Long m)
long_drawn names v n m e f = subst₂ (λ v m. Draws names v (Long m)) (sym e) (sym f) draws_long

pub null_drawn : (names : List ℕ) (v : Value) → v ≡ values.Null → Draws names v Null
null_drawn names v e = subst (λ v. Draws names v Null) (sym e) draws_null

pub ref_drawn : (names : List ℕ) (v : Value) (x i : ℕ) → v ≡ values.Ref x → slice_get names i ≡ Some x → Draws names v (At i)
ref_drawn names v x i e f = subst (λ v. Draws names v (At i)) (sym e) (draws_node f)

pub none_drawn_root : (names : List ℕ) (r : Option ℕ) → r ≡ None → Draws names (root_value r) Null
none_drawn_root names r e = null_drawn names (root_value r) (ap root_value e)

pub some_drawn_root : (names : List ℕ) (r : Option ℕ) (x i : ℕ) → r ≡ Some x → slice_get names i ≡ Some x → Draws names (root_value r) (At i)
some_drawn_root names r x i e f = ref_drawn names (root_value r) x i (ap root_value e) f

pub slots_start : (names : List ℕ) (ss : List Slot) → ss ≡ [] → AllDraw names [] ss × AllBits ss
slots_start names ss e = (subst (AllDraw names []) (sym e) no_value, subst AllBits (sym e) tt)

pub roots_start : (names : List ℕ) (found : List (Option ℕ)) → found ≡ [] → AllDraw names [] (root_slots found)
roots_start names found e = subst (λ found. AllDraw names [] (root_slots found)) (sym e) no_value

-- ---- slot by slot

pub met_at : (names : List ℕ) (vs : List Value) (k : ℕ) (d : Value) → k < length vs → AreMet names (names_in vs) → AreMet names (names_in (get_or vs k d ∷ []))
met_at names [] k d l a = absurd (omega arith)
met_at names (values.Int n ∷ vs) zero d l a = tt
met_at names (values.Long n ∷ vs) zero d l a = tt
met_at names (values.Null ∷ vs) zero d l a = tt
met_at names (values.Ref x ∷ vs) zero d l a = (a.0, tt)
met_at names (values.Int n ∷ vs) (suc k) d l a = met_at names vs k d (omega arith) a
met_at names (values.Long n ∷ vs) (suc k) d l a = met_at names vs k d (omega arith) a
met_at names (values.Null ∷ vs) (suc k) d l a = met_at names vs k d (omega arith) a
met_at names (values.Ref x ∷ vs) (suc k) d l a = met_at names vs k d (omega arith) a.1

pub root_met_at : (names : List ℕ) (rs : List (Option ℕ)) (k : ℕ) (d : Option ℕ) → k < length rs → AreMet names (names_in (root_values rs)) → AreMet names (names_in (root_value (get_or rs k d) ∷ []))
root_met_at names [] k d l a = absurd (omega arith)
root_met_at names (None ∷ rs) zero d l a = tt
root_met_at names (Some x ∷ rs) zero d l a = (a.0, tt)
root_met_at names (None ∷ rs) (suc k) d l a = root_met_at names rs k d (omega arith) a
root_met_at names (Some x ∷ rs) (suc k) d l a = root_met_at names rs k d (omega arith) a.1

draw_push : (names : List ℕ) {vs : List Value} {ss : List Slot} {v : Value} {s : Slot} → AllDraw names vs ss → Draws names v s → AllDraw names (vs ++ v ∷ []) (ss ++ s ∷ [])
draw_push names no_value d = one_value d no_value
draw_push names (one_value e es) d = one_value e (draw_push names es d)

pub draw_more : (names : List ℕ) (vs : List Value) (ss ss' : List Slot) (k : ℕ) (d : Value) (s : Slot) → k < length vs → AllDraw names (take k vs) ss → Draws names (get_or vs k d) s
    → ss' ≡ ss ++ s ∷ [] → AllDraw names (take (k + 1) vs) ss'
draw_more names vs ss ss' k d s l all one e = subst₂ (AllDraw names) (sym (take_more vs k d l)) (sym e) (draw_push names all one)

pub draw_whole : (names : List ℕ) (vs : List Value) (ss : List Slot) (k : ℕ) → length vs ≤ k → AllDraw names (take k vs) ss → AllDraw names vs ss
draw_whole names vs ss k l all = subst (λ us. AllDraw names us ss) (take_all k vs l) all

bits_push : (ss : List Slot) (s : Slot) → AllBits ss → HasBits s → AllBits (ss ++ s ∷ [])
bits_push [] s a b = (b, tt)
bits_push (t ∷ ss) s a b = (a.0, bits_push ss s a.1 b)

pub bits_more : (ss ss' : List Slot) (s : Slot) → AllBits ss → HasBits s → ss' ≡ ss ++ s ∷ [] → AllBits ss'
bits_more ss ss' s a b e = subst AllBits (sym e) (bits_push ss s a b)

root_values-push : (rs : List (Option ℕ)) (r : Option ℕ) → root_values (rs ++ r ∷ []) ≡ root_values rs ++ root_value r ∷ []
root_values-push [] r = refl
root_values-push (q ∷ rs) r = ap (λ xs. root_value q ∷ xs) (root_values-push rs r)

root_slots-push : (rs : List (Option ℕ)) (r : Option ℕ) → root_slots (rs ++ r ∷ []) ≡ root_slots rs ++ root_slot r ∷ []
root_slots-push [] r = refl
root_slots-push (q ∷ rs) r = ap (λ xs. root_slot q ∷ xs) (root_slots-push rs r)

pub roots_more : (names : List ℕ) (rs found found' : List (Option ℕ)) (k : ℕ) (d r : Option ℕ) → k < length rs → AllDraw names (root_values (take k rs)) (root_slots found)
    → Draws names (root_value (get_or rs k d)) (root_slot r) → found' ≡ found ++ r ∷ [] → AllDraw names (root_values (take (k + 1) rs)) (root_slots found')
roots_more names rs found found' k d r l all one e =
    subst₂ (AllDraw names) (sym (ap root_values (take_more rs k d l) ∙ root_values-push (take k rs) (get_or rs k d))) (sym (ap root_slots e ∙ root_slots-push found r)) (draw_push names all one)

pub roots_whole : (names : List ℕ) (rs : List (Option ℕ)) (ss : List Slot) (k : ℕ) → length rs ≤ k → AllDraw names (root_values (take k rs)) ss → AllDraw names (root_values rs) ss
roots_whole names rs ss k l all = subst (λ us. AllDraw names (root_values us) ss) (take_all k rs l) all

-- ---- one node

same_long : (names : List ℕ) {vs : List Value} {ss : List Slot} → AllDraw names vs ss → length vs ≡ length ss
same_long names no_value = refl
same_long names (one_value d ds) = ap suc (same_long names ds)

draws_at : (names : List ℕ) {vs : List Value} {ss : List Slot} (k : ℕ) (s : Slot) → AllDraw names vs ss → slice_get ss k ≡ Some s → (v : Value) × (slice_get vs k ≡ Some v) × Draws names v s
draws_at names k s no_value e = absurd (none_some e)
draws_at names zero s (one_value {v = v} d ds) e = (v, refl, subst (Draws names v) (some_eq e) d)
draws_at names (suc k) s (one_value d ds) e = draws_at names k s ds e

object_drawn : (P : ProgramTables) (names : List ℕ) (o : Obj) (vs : List Value) (n : Node) → IsRead P o vs → o.kind ≡ n.kind → AllDraw names vs n.slots → DrawsObject P names o n
object_drawn P names o vs n read kind all = record {
  kind = kind;
  count = sym read.count ∙ same_long names all;
  slots = λ k s e.
      let v = draws_at names k s all e in
      subst (λ kind. IsSomeAnd (stream_place P kind k) (λ i. IsSomeAnd (slice_get o.slots i) (λ v. Draws names v s))) kind
      (there (stream_place P o.kind k) v.0 s (read.slots k v.0 v.1) v.2);
}
  where
    there : (q : Option ℕ) (v : Value) (s : Slot) → IsSomeAnd q (λ i. slice_get o.slots i ≡ Some v) → Draws names v s → IsSomeAnd q (λ i. IsSomeAnd (slice_get o.slots i) (λ v. Draws names v s))
    there None v s e d = absurd e
    there (Some i) v s e d = subst (λ q. IsSomeAnd q (λ v. Draws names v s)) (sym e) d

pub node_drawn : (P : ProgramTables) (h : Heap) (x : ℕ) (names : List ℕ) (vs us : List Value) (n : Node) → IsSomeAnd (get h x) (λ o. o.kind ≡ n.kind) → IsSomeAnd (get h x) (λ o. IsRead P o vs)
    → us ≡ vs → AllDraw names us n.slots → AllBits n.slots → n.kind.dims ≤ 255 → IsSomeAnd (get h x) (λ o. IsDrawn P names o n)
node_drawn P h x names vs us n kind read same all bits dims = by (get h x) kind read
  where
    by : (o : Option Obj) → IsSomeAnd o (λ o. o.kind ≡ n.kind) → IsSomeAnd o (λ o. IsRead P o vs) → IsSomeAnd o (λ o. IsDrawn P names o n)
    by None kind read = absurd kind
    by (Some o) kind read = record { draws = object_drawn P names o vs n read kind (subst (λ us. AllDraw names us n.slots) same all); bits = bits; dims = dims }

pub values_met : (P : ProgramTables) (h : Heap) (x : ℕ) (names : List ℕ) (vs us : List Value) → IsSomeAnd (get h x) (λ o. IsRead P o vs) → us ≡ vs → AreMet names (next_in P h x) → AreMet names (names_in us)
values_met P h x names vs us read same met = subst (AreMet names) (next_read P h x vs read ∙ ap names_in (sym same)) met

-- ---- node by node

module _ (P : ProgramTables) (h : Heap) (names : List ℕ) where
  pub next_met : (vs : List Value) → IsWalked P h vs names → (i x : ℕ) → slice_get names i ≡ Some x → AreMet names (next_in P h x)
  next_met vs walked i x e = by (led (next_in P h) walked.order x (has_met names x (i, e)))
    where
      by : (is_met [] x ≡ true) ⊎ AreMet names (next_in P h x) → AreMet names (next_in P h x)
      by (inl e) = absurd (bad e)
        where
          bad : false ≡ true → ⊥
          bad e = cc
      by (inr a) = a

  pub name_inside : (xs : List ℕ) (i x : ℕ) → AllByRecursion (IsIn h) xs → slice_get xs i ≡ Some x → IsIn h x
  name_inside [] i x a e = absurd (none_some e)
  name_inside (y ∷ ys) zero x a e = subst (IsIn h) (some_eq e) a.0
  name_inside (y ∷ ys) (suc i) x a e = name_inside ys i x a.1 e

  pub none_drawn : (nodes : List Node) → nodes ≡ [] → AllDrawnTo P h names 0 nodes
  none_drawn nodes e = record { count = ap length e; objects = λ i x l f. absurd (omega arith) }

  pub one_drawn : (n x : ℕ) (nodes nodes' : List Node) (node : Node) → AllDrawnTo P h names n nodes → slice_get names n ≡ Some x → IsSomeAnd (get h x) (λ o. IsDrawn P names o node)
      → nodes' ≡ nodes ++ node ∷ [] → AllDrawnTo P h names (n + 1) nodes'
  one_drawn n x nodes nodes' node all at drawn e = record {
    count = ap length e ∙ length-append nodes (node ∷ []) ∙ ap (λ m. m + 1) all.count;
    objects = λ i y l f. subst (λ ns. IsSomeAnd (get h y) (λ o. IsSomeAnd (slice_get ns i) (λ n. IsDrawn P names o n))) (sym e) (by i y l f (cases i));
  }
    where
      cases : (i : ℕ) → (i < n) ⊎ (n ≤ i)
      cases i = cases_lt i n

      old : (y : ℕ) (o : Option Obj) (i : ℕ) → IsSomeAnd o (λ o. IsSomeAnd (slice_get nodes i) (λ n. IsDrawn P names o n)) → IsSomeAnd o (λ o. IsSomeAnd (slice_get (nodes ++ node ∷ []) i) (λ n. IsDrawn P names o n))
      old y None i d = absurd d
      old y (Some o) i d = there (slice_get nodes i) refl d
        where
          front : (ns : List Node) (i : ℕ) (m : Node) → slice_get ns i ≡ Some m → slice_get (ns ++ node ∷ []) i ≡ Some m
          front [] i m e = absurd (none_some e)
          front (k ∷ ns) zero m e = e
          front (k ∷ ns) (suc i) m e = front ns i m e

          there : (q : Option Node) → slice_get nodes i ≡ q → IsSomeAnd q (λ n. IsDrawn P names o n) → IsSomeAnd (slice_get (nodes ++ node ∷ []) i) (λ n. IsDrawn P names o n)
          there None e d = absurd d
          there (Some m) e d = subst (λ q. IsSomeAnd q (λ n. IsDrawn P names o n)) (sym (front nodes i m e)) d

      last : (ns : List Node) (i : ℕ) → i ≡ length ns → slice_get (ns ++ node ∷ []) i ≡ Some node
      last [] i e = ap (slice_get (node ∷ [])) e
      last (k ∷ ns) i e = ap (slice_get (k ∷ (ns ++ node ∷ []))) e ∙ last ns (length ns) refl

      new : (o : Option Obj) (i : ℕ) → i ≡ length nodes → IsSomeAnd o (λ o. IsDrawn P names o node) → IsSomeAnd o (λ o. IsSomeAnd (slice_get (nodes ++ node ∷ []) i) (λ n. IsDrawn P names o n))
      new None i e d = absurd d
      new (Some o) i e d = subst (λ q. IsSomeAnd q (λ n. IsDrawn P names o n)) (sym (last nodes i e)) d

      by : (i y : ℕ) → i < n + 1 → slice_get names i ≡ Some y → (i < n) ⊎ (n ≤ i) → IsSomeAnd (get h y) (λ o. IsSomeAnd (slice_get (nodes ++ node ∷ []) i) (λ n. IsDrawn P names o n))
      by i y l f (inl less) = old y (get h y) i (all.objects i y less f)
      by i y l f (inr more) =
          let is : i ≡ n = omega arith in
          let same : x ≡ y = some_eq (sym at ∙ ap (slice_get names) (sym is) ∙ f) in
          new (get h y) i (is ∙ sym all.count) (subst (λ y. IsSomeAnd (get h y) (λ o. IsDrawn P names o node)) same drawn)

  pub all_drawn : (n : ℕ) (nodes : List Node) → AllDrawnTo P h names n nodes → n ≡ length names → AllDrawn P h names nodes
  all_drawn n nodes all e = record { count = all.count ∙ e; objects = λ i x f. all.objects i x (let l = in_range names i x f in omega (arith, l, e)) f }
