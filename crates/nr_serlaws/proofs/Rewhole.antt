-- Whole texts that spell a graph are read as that graph.
use Rattle.std.proofs.Common.{◌≡◌, ℕ, zero, suc, ◌<◌, ◌^◌, Bool, true, false, ◌||◌, List, [], ◌∷◌, ◌++◌, length, replicate, Option, Some, None, Ok, refl, sym, ap, subst, ◌∙◌, append_assoc, append-nil, length-append, true≢false, arith}
use Rattle.std.specs.Prelude.{T, IsSomeAnd, slice_get, ◌==◌}
use Rattle.std.specs.List.{AllByRecursion}
use Rattle.std.specs.Option.{option_map}
use Rattle.std.proofs.lemmas.Bool.{eq-eqb}
use Rattle.std.proofs.lemmas.Slice.Eq.{bytes_eq-Decides}
use Rattle.nr_base.specs.Reader.{after, bind, ended, pure, whole}
use Rattle.nr_base.proofs.Laws.{place, with_fault_law}
use Rattle.nr_base.proofs.Numbers.{run_law}
use Rattle.nr_linked.specs.declared.program.built_in.BuiltIn.TheVariants as built_ins
use Rattle.nr_linked.specs.declared.program.kind.Base.{Base}
use Rattle.nr_linked.specs.declared.program.kind.Base.TheVariants as bases
use Rattle.nr_linked.specs.declared.program.kind.Kind.{Kind}
use Rattle.nr_linked.specs.declared.program.tables.ProgramTables.{ProgramTables}
use Rattle.nr_linked.specs.BuiltIns.{built_in}
use Rattle.nr_linked.specs.Facts.{ProgramFacts}
use Rattle.nr_linked.specs.Kinds.{class_kind}
use Rattle.nr_linked.specs.Programs.{is_interface}
use Rattle.nr_linked.specs.Sendable.{is_sendable}
use Rattle.nr_linked.specs.Subtypes.{is_above, is_assignable}
use Rattle.nr_model.proofs.Paths.{none_some}
use Rattle.nr_graph.specs.declared.graph.Node.{Node}
use Rattle.nr_graph.specs.declared.graph.Graph.{Graph}
use Rattle.nr_graph.specs.Fitting.{IsSpellable}
use Rattle.nr_graph.specs.Graphs.{nodes_in, root_slot, root_slots}
use Rattle.nr_serform.specs.Handles.{objects}
use Rattle.nr_serform.specs.Streams.{Spells, header, root_items}
use Rattle.nr_serread.specs.declared.fault.StreamFault.TheVariants as faults
use Rattle.nr_serread.specs.Faults.{of_short}
use Rattle.nr_serread.specs.Reading.{first_state, graph_at, header_at, root_due, root_of, slots_at, stream_of}
use Rattle.nr_serread.proofs.Stepping.{all_done}
use Rattle.nr_serlaws.proofs.Filling.{Fills, fill, filled}
use Rattle.nr_serlaws.proofs.Main.{true_is, ItemFits, range_length, there, with_due}
use Rattle.nr_serlaws.proofs.Gives.{Gives, gives_bind, gives_pure, gives_reads, gives_text, gives_true}
use Rattle.nr_serlaws.proofs.Redescribed.{NumbersFit}
use Rattle.nr_serlaws.proofs.Refilling.{complete, same_nodes}
use Rattle.nr_serlaws.proofs.Leads.{Ready}
use Rattle.nr_serlaws.proofs.Whole.{owners_none}
use Rattle.nr_serlaws.proofs.Going.{Led, node_sends, spelled_goes}

-- ---- roots

root_back : (r : Option ℕ) → root_of (root_slot r) ≡ r
root_back None = refl
root_back (Some i) = refl

pub roots_fill : (P : ProgramTables) (g : Graph) (rs : List (Option ℕ)) (now : Graph) → now.nodes ≡ [] → g.roots ≡ now.roots ++ rs → Fills g now (replicate (length rs) (root_due P)) (root_items P (root_slots rs))
roots_fill P g [] now none e = filled (λ i n at. absurd (none_some (ap (λ ns. slice_get ns i) (sym none) ∙ at))) (sym (append-nil now.roots) ∙ sym e)
roots_fill P g (r ∷ rs) now none e = fill {d = root_due P} {x = root_slot r}
    (roots_fill P g rs (record { nodes = now.nodes; roots = now.roots ++ root_of (root_slot r) ∷ [] }) none
    (e ∙ ap (λ z. now.roots ++ (z ∷ rs)) (sym (root_back r)) ∙ sym (append_assoc now.roots (root_of (root_slot r) ∷ []) rs)))

-- each class and each array goes where any object may
to_object : (P : ProgramTables) (kind : Kind) → is_sendable P kind ≡ true → is_assignable P kind (class_kind (built_in P built_ins.Object)) ≡ true
to_object P kind send = by kind.dims kind.base send
  where
    o : ℕ
    o = built_in P built_ins.Object

    any : (c : Bool) → (((built_in P built_ins.Object) == (built_in P built_ins.Object) || is_interface P (built_in P built_ins.Object)) || c) ≡ true
    any c = ap (λ b. (b || is_interface P (built_in P built_ins.Object)) || c) (eq-eqb (built_in P built_ins.Object) (built_in P built_ins.Object) refl)

    by : (d : ℕ) (b : Base) → is_sendable P (record { dims = d; base = b }) ≡ true → is_assignable P (record { dims = d; base = b }) (class_kind (built_in P built_ins.Object)) ≡ true
    by zero (bases.Object c) send = any (is_above P c (built_in P built_ins.Object))
    by zero bases.Bool send = absurd (true≢false (sym send))
    by zero bases.Byte send = absurd (true≢false (sym send))
    by zero bases.Char send = absurd (true≢false (sym send))
    by zero bases.Short send = absurd (true≢false (sym send))
    by zero bases.Int send = absurd (true≢false (sym send))
    by zero bases.Long send = absurd (true≢false (sym send))
    by (suc d) b send = ap (λ b. b || is_interface P (built_in P built_ins.Object)) (eq-eqb (built_in P built_ins.Object) (built_in P built_ins.Object) refl)

module _ (P : ProgramTables) (facts : ProgramFacts P) (numbers : NumbersFit P) (g : Graph) (able : IsSpellable P g) where
  pub roots_fit : (rs : List (Option ℕ)) → AllByRecursion (λ i. i < length g.nodes) (nodes_in (root_slots rs)) → AllByRecursion (ItemFits P g) (root_items P (root_slots rs))
  roots_fit [] a = tt
  roots_fit (None ∷ rs) a = (tt, roots_fit rs a)
  roots_fit (Some i ∷ rs) a =
      let n = there g.nodes i a.0 in
      let suits = to_object P n.0.kind (node_sends P facts numbers g able i n.0 n.1) in
      (subst (λ (o : Option Node). IsSomeAnd (option_map (λ n. n.kind) o) (λ k. T (is_assignable P k (class_kind (built_in P built_ins.Object))))) (sym n.1) (true_is _ suits), roots_fit rs a.1)

  pub first_ready : Ready g (first_state P (length g.roots))
  first_ready = record { objects_are = refl; owners = owners_none P facts (length g.roots); cells = omega arith }

  pub header_gives : Gives header_at header header
  unfolding header_at
  header_gives = gives_text refl (gives_bind {x = header} {front = header} {back = []} _ (gives_reads (with_fault_law of_short (run_law 4)) (refl, refl)) (gives_true _ ((bytes_eq-Decides header header).1 refl) (gives_pure header)))

  module _ (bytes : List ℕ) (few : length bytes < 2 ^ 32) (spells : Spells P bytes g) where
    led : Led P facts numbers g able (first_state P (length g.roots)) (place (length bytes) (spells.contents ++ [])) (place (length bytes) []) spells.after []
    led =
        let long = ap length spells.begins in
        let l = length-append header spells.contents in
        let m = length-append {A = ℕ} spells.contents [] in
        (spelled_goes P facts numbers g able spells.spelled).goes (first_state P (length g.roots)) [] [] (length bytes) refl
        (subst (λ z. Fills g (record { nodes = []; roots = [] }) (replicate (length g.roots) (root_due P)) z) (sym (append-nil (root_items P (root_slots g.roots)))) (roots_fill P g g.roots (record { nodes = []; roots = [] }) refl refl))
        (roots_fit g.roots able.fits.within.roots) first_ready (omega (arith, few, long, l, m))

    graph_is : led.then_at.graph ≡ g
    graph_is =
        let c = complete g led.fills in
        let objs = ap length (sym (ap objects led.table_is) ∙ led.ready.objects_are) in
        let l = range_length 0 (length led.then_at.graph.nodes) in
        let w = spells.whole in
        let nodes = same_nodes led.then_at.graph.nodes g.nodes (omega (arith, objs, l, w)) c.each in
        (λ i. record { nodes = nodes i; roots = c.roots i })

    slots_read : slots_at P (first_state P (length g.roots)) (place (length bytes) spells.contents) ≡ Ok (led.then_at, place (length bytes) [])
    slots_read =
        let c = complete g led.fills in
        let t = led.then_at in
        ap (λ z. slots_at P (first_state P (length g.roots)) (place (length bytes) z)) (sym (append-nil spells.contents)) ∙ led.same
        ∙ ap (λ ds. slots_at P (with_due t ds) (place (length bytes) [])) c.none ∙ all_done P t.graph t.table t.cells (place (length bytes) []) ∙ ap (λ ds. Ok (with_due t ds, place (length bytes) [])) (sym c.none)

    graph_read : graph_at P (length g.roots) (place (length bytes) bytes) ≡ Ok (g, place (length bytes) [])
    unfolding graph_at bind pure
    graph_read =
        let n = length g.roots in
        let first = ap (λ z. header_at (place (length bytes) z)) spells.begins ∙ header_gives.gives spells.contents (length bytes) in
        ap (λ r. after r (λ h. bind (slots_at P (first_state P n)) (λ s. pure s.graph))) first
        ∙ ap (λ r. after r (λ s. pure s.graph)) slots_read ∙ ap (λ z. Ok (z, place (length bytes) [])) graph_is

    pub is_read : stream_of P (length g.roots) bytes ≡ Ok g
    unfolding whole
    is_read = ap (ended faults.Trailing) graph_read

pub spelled_is_read : (P : ProgramTables) (bytes : List ℕ) (g : Graph) → ProgramFacts P → NumbersFit P → length bytes < 2 ^ 32 → Spells P bytes g → stream_of P (length g.roots) bytes ≡ Ok g
spelled_is_read P bytes g facts numbers few spells = is_read P facts numbers g spells.spellable bytes few spells
