-- A text that spells what is due is read slot by slot.
use Rattle.std.proofs.Common.{◌≡◌, ℕ, ◌+◌, ◌<◌, ◌≤◌, ◌^◌, Bool, true, false, List, [], ◌∷◌, ◌++◌, drop, length, replicate, Some, is_some, Ok, refl, sym, ap, subst, ◌∙◌, append-nil, arith}
use Rattle.std.specs.Prelude.{T}
use Rattle.std.specs.Int.{w32, to_be_bytes}
use Rattle.std.specs.List.{range_with_len}
use Rattle.std.specs.Option.{option_map_or}
use Rattle.std.proofs.lemmas.Bool.{le-leb}
use Rattle.nr_base.specs.Place.{Place}
use Rattle.nr_linked.specs.declared.program.kind.Kind.{Kind}
use Rattle.nr_linked.specs.declared.program.tables.ProgramTables.{ProgramTables}
use Rattle.nr_linked.specs.Facts.{ProgramFacts}
use Rattle.nr_linked.specs.Kinds.{class_in, is_array, is_reference}
use Rattle.nr_linked.specs.Subtypes.{is_assignable}
use Rattle.nr_graph.specs.declared.graph.Slot.{Slot}
use Rattle.nr_graph.specs.declared.graph.Slot.TheVariants.{Null, Node as At}
use Rattle.nr_graph.specs.declared.graph.Node.{Node}
use Rattle.nr_graph.specs.declared.graph.Graph.{Graph}
use Rattle.nr_graph.specs.Fitting.{IsLink, IsNumber, SlotFits}
use Rattle.nr_graph.specs.Graphs.{cells_of_nodes, graph_cells, node_at}
use Rattle.nr_serform.specs.Entries.{Object}
use Rattle.nr_serform.specs.Handles.{Table, handle, handle_text, has, objects}
use Rattle.nr_serform.specs.Descriptions.{Describes}
use Rattle.nr_serform.specs.Spelling.{IsNumberText}
use Rattle.nr_serform.specs.StreamSlots.{stream_kinds}
use Rattle.nr_serread.specs.declared.due.Due.{Due}
use Rattle.nr_serread.specs.Describing.{is_of_sort}
use Rattle.nr_serread.specs.Items.{told_object, told_object_at}
use Rattle.nr_serread.specs.Reading.{State, array_at, content_at, elements_due, kept, object_at, old_content_at, open_at, open_slots_at, opened, slot_at, slots_at, slots_due}
use Rattle.nr_serread.proofs.Stepping.{slot_on}
use Rattle.nr_serlaws.proofs.Items.{four_law}
use Rattle.nr_serlaws.proofs.SlotKinds.{IsArray, IsObject, elements_are, length_replicate}
use Rattle.nr_serlaws.proofs.Steps.{or_false}
use Rattle.nr_serlaws.proofs.Filling.{OwnersIn}
use Rattle.nr_serlaws.proofs.Main.{LinkOrNumber, with_due}
use Rattle.nr_serlaws.proofs.Gives.{Gives, gives_bind, gives_false, gives_from, gives_given, gives_pure, gives_reads, gives_tag, gives_text, gives_true, gives_value}
use Rattle.nr_serlaws.proofs.Called.{Named}
use Rattle.nr_serlaws.proofs.Bounds.{refound}
use Rattle.nr_serlaws.proofs.Redescribed.{Few, NumbersFit, desc_gives}
use Rattle.nr_serlaws.proofs.Respelled.{number_gives}

pub link_of : (P : ProgramTables) (g : Graph) (kind : Kind) (s : Slot) → is_reference kind ≡ true → SlotFits P g kind s → IsLink P g kind s
link_of P g kind s r h = subst (λ b. LinkOrNumber P g kind s b) r h

pub number_of : (P : ProgramTables) (g : Graph) (kind : Kind) (s : Slot) → is_reference kind ≡ false → SlotFits P g kind s → IsNumber kind.base s
number_of P g kind s r h = subst (λ b. LinkOrNumber P g kind s b) r h

pub so : (b : Bool) → T b → b ≡ true
so true h = refl
so false h = absurd h

-- ---- what stands while reading

pub record Ready (g : Graph) (s : State) : Type 0 where
  pub objects_are : objects s.table ≡ range_with_len 0 (length s.graph.nodes)
  pub owners : OwnersIn (length s.graph.nodes) s.due
  pub cells : s.cells + cells_of_nodes (drop (length s.graph.nodes) g.nodes) ≡ graph_cells g

-- a step of the whole
pub step_leads : (P : ProgramTables) (s t : State) (d : Due) (ds : List Due) (p q : Place) → s.due ≡ d ∷ ds → slot_at P d (with_due s ds) p ≡ Ok (t, q) → slots_at P s p ≡ slots_at P t q
step_leads P s t d ds p q e h = sym (slot_on P s.graph s.table s.cells d s.due ds t p q (Ok tt) e h)

-- the state in which the slots of a new node are due
abbrev pub new_state : Due → State → Kind → Table → List Kind → State
new_state d s kind table ks = opened d kind table (length ks) (slots_due (length s.graph.nodes) ks) s

-- ---- slots

module _ (P : ProgramTables) (facts : ProgramFacts P) (numbers : NumbersFit P) (d : Due) (s : State) where
  pub number_slot : (x : Slot) (own : List ℕ) → is_reference d.kind ≡ false → IsNumberText d.kind.base x own → IsNumber d.kind.base x → Gives (slot_at P d s) (kept d x s) own
  unfolding slot_at
  number_slot x own r t f = gives_false _ r (gives_text (append-nil own) (gives_bind {x = x} {front = own} _ (number_gives d.kind.base x own (or_false (is_array d.kind) (is_some (class_in d.kind.base)) r) t f) (gives_pure (kept d x s))))

  pub null_slot : is_reference d.kind ≡ true → Gives (slot_at P d s) (kept d Null s) (0x70 ∷ [])
  unfolding slot_at content_at
  null_slot r = gives_true _ r (gives_from (λ at. gives_tag _ 0x70 (omega arith) (gives_true _ refl (gives_pure (kept d Null s)))))

  pub old_slot : (i : ℕ) (n : Node) → is_reference d.kind ≡ true → has s.table (Object i) ≡ true → length s.table < 2 ^ 31 → node_at s.graph i ≡ Some n → is_assignable P n.kind d.kind ≡ true
      → Gives (slot_at P d s) (kept d (At i) s) (handle_text s.table (Object i))
  unfolding slot_at content_at old_content_at told_object_at
  old_slot i n r h few at suits =
      let f = refound s.table (Object i) h in
      let place = f.place in
      let test : option_map_or (λ n. is_assignable P n.kind d.kind) (node_at s.graph i) false ≡ true = ap (λ o. option_map_or (λ (n : Node). is_assignable P n.kind d.kind) o false) at ∙ suits in
      gives_true _ r (gives_from (λ start. gives_tag _ 0x71 (omega arith) (gives_false _ refl (gives_true _ refl
      (gives_text (append-nil (to_be_bytes w32 (handle s.table (Object i))))
      (gives_bind {x = i} {front = to_be_bytes w32 (handle s.table (Object i))} _
      (gives_text (append-nil (to_be_bytes w32 (handle s.table (Object i))))
      (gives_bind {x = handle s.table (Object i)} {front = to_be_bytes w32 (handle s.table (Object i))} _ (gives_reads four_law (omega (arith, place, few), refl)) (gives_given (ap (told_object start (handle s.table (Object i))) f.at))))
      (gives_true _ test (gives_pure (kept d (At i) s)))))))))

  open_gives : (start : ℕ) (kind : Kind) (table : Table) (count : ℕ) (slots : List Due) → s.cells + (count + 1) ≤ 2 ^ 20 → Gives (open_at d start kind table count slots s) (opened d kind table count slots s) []
  unfolding open_at
  open_gives start kind table count slots room = gives_true _ (le-leb _ _ room) (gives_pure (opened d kind table count slots s))

  pub object_slot : (kind : Kind) (table : Table) (desc : List ℕ) → is_reference d.kind ≡ true → (c : IsObject P kind) → is_of_sort P false kind ≡ true → is_assignable P kind d.kind ≡ true → Named P kind
      → Describes P false (Some kind) s.table desc table → Few s.table desc → s.cells + (length (stream_kinds P c.number) + 1) ≤ 2 ^ 20 → Gives (slot_at P d s) (new_state d s kind table (stream_kinds P c.number)) (0x73 ∷ desc)
  unfolding slot_at content_at object_at open_slots_at
  object_slot kind table desc r c sort suits named described few room =
      let same : stream_kinds P c.number ≡ option_map_or (stream_kinds P) (class_in kind.base) [] = sym (ap (λ (z : Kind). option_map_or (stream_kinds P) (class_in z.base) []) c.is) in
      gives_value (ap (λ z. opened d kind table (length z) (slots_due (length s.graph.nodes) z) s) (sym same))
      (gives_true _ r (gives_from (λ start. gives_tag _ 0x73 (omega arith) (gives_false _ refl (gives_false _ refl (gives_true _ refl
      (gives_text (append-nil desc)
      (gives_bind {x = (kind, table)} {front = desc} _ (desc_gives P facts numbers false d.kind start kind described sort suits named few)
      (open_gives start kind table (length (option_map_or (stream_kinds P) (class_in kind.base) [])) (slots_due (length s.graph.nodes) (option_map_or (stream_kinds P) (class_in kind.base) []))
      (subst (λ z. s.cells + (length z + 1) ≤ 2 ^ 20) same room))))))))))

  pub array_slot : (kind : Kind) (table : Table) (desc : List ℕ) (size : ℕ) → is_reference d.kind ≡ true → (c : IsArray P kind) → is_of_sort P true kind ≡ true → is_assignable P kind d.kind ≡ true → Named P kind
      → Describes P false (Some kind) s.table desc table → Few s.table desc → s.cells + (size + 1) ≤ 2 ^ 20 → Gives (slot_at P d s) (new_state d s kind table (replicate size c.element)) (0x75 ∷ (desc ++ to_be_bytes w32 size))
  unfolding slot_at content_at array_at
  array_slot kind table desc size r c sort suits named described few room =
      let count : size ≡ length (replicate size c.element) = sym (length_replicate size c.element) in
      let els = elements_are (length s.graph.nodes) size kind c.element c.is in
      gives_value ((λ i. opened d kind table (count i) (els i) s))
      (gives_true _ r (gives_from (λ start. gives_tag _ 0x75 (omega arith) (gives_false _ refl (gives_false _ refl (gives_false _ refl (gives_true _ refl
      (gives_bind {x = (kind, table)} {front = desc} _ (desc_gives P facts numbers true d.kind start kind described sort suits named few)
      (gives_from (λ at. gives_text (append-nil (to_be_bytes w32 size)) (gives_bind {x = size} {front = to_be_bytes w32 size} _ (gives_reads four_law (omega (arith, room), refl))
      (gives_true _ (le-leb size 2147483647 (omega (arith, room))) (open_gives start kind table size (elements_due (length s.graph.nodes) kind size) room)))))))))))))
