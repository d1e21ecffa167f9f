-- Calls from two heaps that show one graph start in paired states, and paired heaps show one graph.
use Rattle.std.proofs.Common.{◌≡◌, ℕ, List, refl, sym, ◌∙◌, subst, subst₂, Some, None, Option}
use Rattle.std.specs.Prelude.{slice_get, IsSomeAnd}
use Rattle.std.specs.List.{zip}
use Rattle.nr_linked.specs.declared.program.tables.MethodInfo.{MethodInfo}
use Rattle.nr_linked.specs.declared.program.tables.ProgramTables.{ProgramTables}
use Rattle.nr_linked.specs.Linked.{Linked}
use Rattle.nr_linked.specs.Programs.{method_at}
use Rattle.nr_model.specs.declared.value.Value.{Value}
use Rattle.nr_model.specs.Alike.{AllLike, both_run, no_frame, no_more, one_frame}
use Rattle.nr_model.specs.Heaps.{Heap}
use Rattle.nr_model.specs.Locals.{Begins, start_of}
use Rattle.nr_model.specs.PairedCalls.{ListedOrArgs, PairedCalls}
use Rattle.nr_model.specs.Pairs.{IsPair, Listed, Paired, PairedStates, StartOf}
use Rattle.nr_model.specs.States.{State}
use Rattle.nr_model.proofs.Heaps.{all_more, sum_left}
use Rattle.nr_model.proofs.Frames.{locals_like}
use Rattle.nr_model.proofs.Matchings.{Matched, AlikeState}
use Rattle.nr_model.proofs.Kept.{control_names, states_pair}
use Rattle.nr_model.proofs.PairedCalls.{alike_calls}
use Rattle.nr_model.proofs.Paths.{path_matched, paired_matched, slot_matched, some_eq}
use Rattle.nr_graph.specs.declared.graph.Graph.{Graph}
use Rattle.nr_graph.specs.declared.graph.Slot.{Slot}
use Rattle.nr_graph.specs.Fitting.{GraphFits}
use Rattle.nr_graph.specs.Pictures.{AllDraw, IsPicture, Shown}
use Rattle.nr_graph.proofs.Along.{IsAlong, along, along_listed, all_drawn_alike, covers, listed_along}
use Rattle.nr_graph.proofs.Beside.{to_right}
use Rattle.nr_graph.proofs.Partners.{picture_too}

pub listed_alike : (names others : List ℕ) {us vs : List Value} {ss : List Slot} → AllDraw names us ss → AllDraw others vs ss → AllLike (Listed (zip names others)) us vs
listed_alike names others {us = us} {vs = vs} d e =
    all_more (IsAlong names others) (Listed (zip names others)) (λ x y r. along_listed names others x y r.node r.left r.right) us vs (all_drawn_alike names others d e)

module _ (P : ProgramTables) (linked : Linked P) (names others : List ℕ) (g : Graph) (fits : GraphFits P g) (h k : Heap) (a : Shown P h names g) (b : Shown P k others g)
    (us vs : List Value) (like : AllLike (Listed (zip names others)) us vs) where
  abbrev R : ℕ → ℕ → Type 0
  R = IsAlong names others

  matched : Matched R h k
  matched = along P names others g (covers P linked g fits) h k a b

  alike : AllLike R us vs
  alike = all_more (Listed (zip names others)) R (listed_along names others) us vs like

  args_along : (x y : ℕ) → ListedOrArgs (zip names others) us vs x y → R x y
  args_along x y i = sum_left i (listed_along names others x y) (λ p. slot_matched R h k matched us vs p.0 x y alike p.1 p.2)

  pub calls_pair : PairedCalls (zip names others) h us k vs × ((x y : ℕ) → IsPair (ListedOrArgs (zip names others) us vs) h k x y → Listed (zip names others) x y)
  calls_pair = (
    alike_calls (zip names others) R h k matched us vs alike (listed_along names others),
    λ x y i. let r : R x y = path_matched R h k matched i.path i.from_left i.from_right x y (args_along i.from_left i.from_right i.start) i.to_left i.to_right in
        along_listed names others x y r.node r.left r.right,
  )

  pub starts_pair : (m : ℕ) (s t : State) → Begins P h m us s → Begins P k m vs t
      → PairedStates (zip names others) s t × ((x y : ℕ) → IsPair (StartOf (zip names others) s t) s.heap t.heap x y → Listed (zip names others) x y)
  starts_pair m s t bs bt = go (method_at P m) bs bt
    where
      Pairs : List (ℕ × ℕ)
      Pairs = zip names others

      Wanted : State → State → Type 0
      Wanted s t = PairedStates Pairs s t × ((x y : ℕ) → IsPair (StartOf Pairs s t) s.heap t.heap x y → Listed Pairs x y)

      agree : (i : MethodInfo) → AlikeState R (start_of i m h us) (start_of i m k vs)
      agree i = record {
        heap = matched;
        control = both_run (one_frame (record { method = refl; offset = refl; locals = locals_like R i us vs alike; operands = no_more }) no_frame);
        printed = refl;
      }

      start_along : (i : MethodInfo) (x y : ℕ) → StartOf Pairs (start_of i m h us) (start_of i m k vs) x y → R x y
      start_along i x y p = sum_left p (listed_along names others x y)
          (λ q. control_names R h k matched (start_of i m h us).control (start_of i m k vs).control x y (agree i).control q)

      started : (i : MethodInfo) → Wanted (start_of i m h us) (start_of i m k vs)
      started i = (
        states_pair Pairs R (start_of i m h us) (start_of i m k vs) (agree i) (listed_along names others),
        λ x y p. let r : R x y = path_matched R h k matched p.path p.from_left p.from_right x y (start_along i p.from_left p.from_right p.start) p.to_left p.to_right in
            along_listed names others x y r.node r.left r.right,
      )

      go : (o : Option MethodInfo) → IsSomeAnd o (λ i. s ≡ start_of i m h us) → IsSomeAnd o (λ i. t ≡ start_of i m k vs) → Wanted s t
      go None bs bt = absurd bs
      go (Some i) bs bt = subst₂ Wanted (sym bs) (sym bt) (started i)

-- ---- the other way round

module _ (P : ProgramTables) (Start : ℕ → ℕ → Type 0) (h k : Heap) (paired : Paired Start h k) (us vs : List Value) (like : AllLike (IsPair Start h k) us vs) where
  pub graphs_pair : (names : List ℕ) (g : Graph) → IsPicture P h us names g
      → (others : List ℕ) × IsPicture P k vs others g × ((i x y : ℕ) → slice_get names i ≡ Some x → slice_get others i ≡ Some y → IsPair Start h k x y)
  graphs_pair names g p =
      let r = picture_too (IsPair Start h k) P h k (paired_matched Start h k paired) us vs like names g p in
      (r.0, r.1, λ i x y e f. let q = to_right (IsPair Start h k) i x r.2 e in subst (IsPair Start h k x) (some_eq (sym q.1 ∙ f)) q.2)
