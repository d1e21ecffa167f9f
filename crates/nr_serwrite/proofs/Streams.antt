-- How a stream begins and ends.
use Rattle.std.proofs.Common.{◌≡◌, ℕ, zero, suc, ◌<◌, Bool, true, ◌||◌, List, [], ◌∷◌, ◌++◌, length, map, refl, sym, ap, subst, ◌∙◌, append-nil}
use Rattle.std.specs.Prelude.{Option, Some, None, IsSomeAnd, T, ◌==◌}
use Rattle.std.specs.List.{range_with_len}
use Rattle.std.specs.Option.{option_map}
use Rattle.std.proofs.lemmas.Bool.{eq-eqb}
use Rattle.nr_linked.specs.declared.program.built_in.BuiltIn.TheVariants as built_ins
use Rattle.nr_linked.specs.declared.program.kind.Base.{Base}
use Rattle.nr_linked.specs.declared.program.kind.Base.TheVariants as bases
use Rattle.nr_linked.specs.declared.program.kind.Kind.{Kind}
use Rattle.nr_linked.specs.declared.program.tables.ProgramTables.{ProgramTables}
use Rattle.nr_linked.specs.BuiltIns.{built_in}
use Rattle.nr_linked.specs.Kinds.{class_kind}
use Rattle.nr_linked.specs.Programs.{is_interface}
use Rattle.nr_linked.specs.Subtypes.{is_above, is_assignable}
use Rattle.nr_linked.proofs.Elements.{get_below}
use Rattle.nr_model.specs.TypedHeaps.{Counts}
use Rattle.nr_graph.specs.declared.graph.Slot.{Slot}
use Rattle.nr_graph.specs.declared.graph.Slot.TheVariants.{Node as At}
use Rattle.nr_graph.specs.declared.graph.Node.{Node}
use Rattle.nr_graph.specs.declared.graph.Graph.{Graph}
use Rattle.nr_graph.specs.Fitting.{IsLink, IsSpellable}
use Rattle.nr_graph.specs.Graphs.{AreThere, next_node, nodes_in, root_slot, root_slots}
use Rattle.nr_graph.specs.Walks.{Walk, over, again, first}
use Rattle.nr_graph.proofs.Numbers.{length_range}
use Rattle.nr_serform.specs.Handles.{Table, objects}
use Rattle.nr_serform.specs.Spelling.{Item, Spell, over as spelled_over}
use Rattle.nr_serform.specs.Streams.{IsCanonical, header, root_items}
use Rattle.nr_serwrite.specs.declared.work.Frame.{Frame}
use Rattle.nr_serwrite.specs.Working.{AllFit, AreNext, AreNextNodes, Step, frame_items, items_all, pending}
use Rattle.nr_serwrite.proofs.Items.{pending_pushed}
use Rattle.nr_serwrite.proofs.Steps.{at_place}

pub roots_mapped : (rs : List (Option ℕ)) → map root_slot rs ≡ root_slots rs
roots_mapped [] = refl
roots_mapped (r ∷ rs) = ap (λ z. root_slot r ∷ z) (roots_mapped rs)

-- a frame alone
pub pending_alone : (fs gs : List Frame) (f : Frame) → fs ≡ [] → gs ≡ fs ++ f ∷ [] → pending gs ≡ frame_items f
pending_alone fs gs f none e = pending_pushed fs gs f e ∙ ap (λ z. frame_items f ++ pending z) none ∙ append-nil (frame_items f)

slots_all : (k : Kind) (ss : List Slot) → map (λ (x : Item). x.1) (items_all k ss) ≡ ss
slots_all k [] = refl
slots_all k (s ∷ ss) = ap (λ z. s ∷ z) (slots_all k ss)

module _ (P : ProgramTables) where
  abbrev pub any : Kind
  any = class_kind (built_in P built_ins.Object)

  roots_are : (ss : List Slot) → items_all any ss ≡ root_items P ss
  roots_are [] = refl
  roots_are (s ∷ ss) = ap (λ z. (any, s) ∷ z) (roots_are ss)

  admitted : (b : Bool) → T (((built_in P built_ins.Object == built_in P built_ins.Object) || is_interface P (built_in P built_ins.Object)) || b)
  admitted b = subst (λ x. T ((x || is_interface P (built_in P built_ins.Object)) || b)) (sym (eq-eqb (built_in P built_ins.Object) (built_in P built_ins.Object) refl)) tt

  admitted_array : T ((built_in P built_ins.Object == built_in P built_ins.Object) || is_interface P (built_in P built_ins.Object))
  admitted_array = subst (λ x. T (x || is_interface P (built_in P built_ins.Object))) (sym (eq-eqb (built_in P built_ins.Object) (built_in P built_ins.Object) refl)) tt

  -- what can be in a heap goes where any object does
  goes_anywhere : (d : ℕ) (b : Base) (n : ℕ) → Counts P (record { dims = d; base = b }) n → T (is_assignable P (record { dims = d; base = b }) any)
  goes_anywhere zero (bases.Object c) n k = admitted (is_above P c (built_in P built_ins.Object))
  goes_anywhere zero bases.Bool n k = absurd k
  goes_anywhere zero bases.Byte n k = absurd k
  goes_anywhere zero bases.Char n k = absurd k
  goes_anywhere zero bases.Short n k = absurd k
  goes_anywhere zero bases.Int n k = absurd k
  goes_anywhere zero bases.Long n k = absurd k
  goes_anywhere (suc d) b n k = admitted_array

  module _ (g : Graph) (sp : IsSpellable P g) where
    root_link : (i : ℕ) → i < length g.nodes → IsLink P g any (At i)
    root_link i l =
        let r = get_below g.nodes i l in
        let n = r.0 in
        let fits = at_place _ g.nodes i n sp.fits.nodes r.1 in
        subst (λ o. IsSomeAnd (option_map (λ (n : Node). n.kind) o) (λ k. T (is_assignable P k any))) (sym r.1) (goes_anywhere n.kind.dims n.kind.base (length n.slots) fits.count)

    roots_fit : (rs : List (Option ℕ)) → AreThere g (nodes_in (root_slots rs)) → AllFit P g (items_all any (root_slots rs))
    roots_fit [] a = tt
    roots_fit (None ∷ rs) a = (tt, roots_fit rs a)
    roots_fit (Some i ∷ rs) a = (root_link i a.0, roots_fit rs a.1)

    -- the roots come first
    pub roots_next : AreNext P g (items_all any (root_slots g.roots)) []
    roots_next = record {
      fit = roots_fit g.roots sp.fits.within.roots;
      order = subst (λ z. AreNextNodes g (nodes_in z) []) (sym (slots_all any (root_slots g.roots))) sp.order;
    }

    none_left : {xs seen out : List ℕ} → Walk (next_node g) xs seen out → xs ≡ [] → seen ≡ out
    none_left over e = refl
    none_left (again m w) e = absurd (some_left e)
      where
        some_left : {x : ℕ} {xs : List ℕ} → ◌≡◌ {A = List ℕ} (x ∷ xs) [] → ⊥
        some_left e = cc
    none_left (first m i w) e = absurd (some_left e)
      where
        some_left : {x : ℕ} {xs : List ℕ} → ◌≡◌ {A = List ℕ} (x ∷ xs) [] → ⊥
        some_left e = cc

    -- a text of the roots that gives each node a handle is, behind the header, the canonical one
    pub spelled_whole : (text : List ℕ) (after : Table) → Spell P true g (items_all any (root_slots g.roots)) [] text after → objects after ≡ range_with_len 0 (length g.nodes)
        → IsCanonical P (header ++ text) g
    spelled_whole text after s o = record {
      contents = text;
      begins = refl;
      after = after;
      spelled = subst (λ z. Spell P true g z [] text after) (roots_are (root_slots g.roots)) s;
      whole = ap length o ∙ length_range 0 (length g.nodes);
      spellable = sp;
    }

    -- and then it is over
    pub stream_over : (table : Table) (out : List ℕ) → Step P g (items_all any (root_slots g.roots)) [] header [] table out → IsCanonical P out g
    stream_over table out s = subst (λ z. IsCanonical P z g) (sym s.written)
        (spelled_whole s.text table (subst (λ z. Spell P true g (items_all any (root_slots g.roots)) [] z table) (append-nil s.text) (s.spells [] table (spelled_over refl)))
        (none_left s.next.order refl))
