-- A slot that is read: what it holds, and its text.
use Rattle.std.proofs.Common.{◌≡◌, ℕ, ◌+◌, ◌≤◌, ◌^◌, Bool, true, false, ◌||◌, ◌&&◌, List, [], ◌∷◌, ◌++◌, length, replicate, Option, Some, None, is_some, Ok, refl, sym, ap, subst, ◌∙◌, append-nil, nat_le, if◌then◌else◌, true≢false, arith}
use Rattle.std.specs.Prelude.{◌==◌}
use Rattle.std.specs.Int.{w32, to_be_bytes}
use Rattle.std.specs.Option.{option_map_or}
use Rattle.std.proofs.lemmas.Bool.{eqb-true, leb-true}
use Rattle.nr_linked.specs.declared.program.kind.Kind.{Kind}
use Rattle.nr_linked.specs.declared.program.tables.ProgramTables.{ProgramTables}
use Rattle.nr_linked.specs.Facts.{ProgramFacts}
use Rattle.nr_linked.specs.Kinds.{class_in, is_array, is_reference}
use Rattle.nr_linked.specs.Sendable.{is_sendable}
use Rattle.nr_linked.specs.Subtypes.{is_assignable}
use Rattle.nr_graph.specs.declared.graph.Slot.{Slot}
use Rattle.nr_graph.specs.declared.graph.Slot.TheVariants.{Null, Node as At}
use Rattle.nr_graph.specs.declared.graph.Node.{Node}
use Rattle.nr_graph.specs.Graphs.{node_at}
use Rattle.nr_serform.specs.Entries.{Entry, Class, Text, Object}
use Rattle.nr_serform.specs.Handles.{Table, entry_at, handle_text, has}
use Rattle.nr_serform.specs.Spelling.{tag}
use Rattle.nr_serform.specs.StreamSlots.{stream_kinds}
use Rattle.nr_serread.specs.declared.due.Due.{Due}
use Rattle.nr_serread.specs.Items.{told_object, told_object_at}
use Rattle.nr_serread.specs.Reading.{State, array_at, content_at, elements_due, kept, object_at, old_content_at, open_at, open_slots_at, opened, slot_at, slots_due}
use Rattle.nr_serlaws.proofs.Items.{four_law}
use Rattle.nr_serlaws.proofs.Finds.{Finds, bind_finds, choose_finds, from_finds, given_finds, never_finds, of_reads, pure_finds, refuse_never, tag_finds, weaken}
use Rattle.nr_serlaws.proofs.Tables.{Keeps, handle_is, has_entry}
use Rattle.nr_serlaws.proofs.Names.{Known}
use Rattle.nr_serlaws.proofs.Described.{IsDescribed, desc_finds}
use Rattle.nr_serlaws.proofs.Numbers.{IsRead, number_finds}
use Rattle.nr_serlaws.proofs.SlotKinds.{AreSlots, IsArray, IsObject, array_slots, elements_are, length_replicate, object_slots}

-- behind its description an array has its length
abbrev pub size_of : Kind → ℕ → List ℕ
size_of kind count = if is_array kind then to_be_bytes w32 count else []

-- a new node
pub record IsNew (P : ProgramTables) (facts : ProgramFacts P) (d : Due) (s t : State) (front : List ℕ) : Type 0 where
  pub array : Bool
  pub kind : Kind
  pub table : Table
  pub desc : List ℕ
  pub ks : List Kind
  pub described : IsDescribed P facts array d.kind s.table (kind, table) desc
  pub sort : is_array kind ≡ array
  pub slots : AreSlots P kind ks
  pub room : s.cells + (length ks + 1) ≤ 2 ^ 20
  pub then_is : t ≡ opened d kind table (length ks) (slots_due (length s.graph.nodes) ks) s
  pub text_is : front ≡ tag kind ∷ (desc ++ size_of kind (length ks))

-- what was read of the slot that was due, and its text
pub data IsStep (P : ProgramTables) (facts : ProgramFacts P) (d : Due) (s t : State) (front : List ℕ) : Type 0 where
  step_number : (x : Slot) → is_reference d.kind ≡ false → IsRead d.kind.base x front → t ≡ kept d x s → IsStep P facts d s t front
  step_null : is_reference d.kind ≡ true → front ≡ 0x70 ∷ [] → t ≡ kept d Null s → IsStep P facts d s t front
  step_old : (i : ℕ) (n : Node) → is_reference d.kind ≡ true → has s.table (Object i) ≡ true → front ≡ handle_text s.table (Object i) → node_at s.graph i ≡ Some n
      → is_assignable P n.kind d.kind ≡ true → t ≡ kept d (At i) s → IsStep P facts d s t front
  step_new : is_reference d.kind ≡ true → IsNew P facts d s t front → IsStep P facts d s t front

pub or_false : (a b : Bool) → (a || b) ≡ false → b ≡ false
or_false false b e = e
or_false true b e = absurd (true≢false e)

module _ (P : ProgramTables) (facts : ProgramFacts P) (d : Due) (s : State) (good : Keeps (Known P) s.table) where
  -- ---- a node that has a handle

  told_finds : (at : ℕ) → Finds (told_object_at at s.table) (λ i text. (n : ℕ) × (entry_at s.table n ≡ Some (Object i)) × (text ≡ to_be_bytes w32 n))
  unfolding told_object_at
  told_finds at = bind_finds (of_reads four_law) (λ n front g. given_finds (told_object at n (entry_at s.table n)) (λ i e. (n, told (entry_at s.table n) n i e, append-nil front ∙ g.1)))
    where
      told : (o : Option Entry) (n i : ℕ) → told_object at n o ≡ Ok i → o ≡ Some (Object i)
      told None n i e = absurd cc
      told (Some (Class k)) n i e = absurd cc
      told (Some (Text a)) n i e = absurd cc
      told (Some (Object j)) n i e = cc

  old_finds : (start : ℕ) → is_reference d.kind ≡ true → Finds (old_content_at P d start s) (λ t text. IsStep P facts d s t (0x71 ∷ text))
  unfolding old_content_at
  old_finds start r = bind_finds (told_finds start) (λ i front h. choose_finds _
      (λ e. pure_finds (kept d (At i) s) (by i front h (node_at s.graph i) refl e))
      (λ e. never_finds (refuse_never _)))
    where
      by : (i : ℕ) (front : List ℕ) → (n : ℕ) × (entry_at s.table n ≡ Some (Object i)) × (front ≡ to_be_bytes w32 n) → (o : Option Node) → node_at s.graph i ≡ o
          → option_map_or (λ n. is_assignable P n.kind d.kind) o false ≡ true → IsStep P facts d s (kept d (At i) s) (0x71 ∷ (front ++ []))
      by i front h None at e = absurd (true≢false (sym e))
      by i front h (Some n) at e = step_old i n r (has_entry s.table h.0 (Object i) h.1)
          (ap (λ z. 0x71 ∷ z) (append-nil front ∙ h.2) ∙ ap (λ z. 0x71 ∷ to_be_bytes w32 z) (handle_is s.table h.0 (Object i) good.once h.1)) at e refl

  -- ---- a new node

  open_finds : (start : ℕ) (kind : Kind) (table : Table) (count : ℕ) (slots : List Due)
      → Finds (open_at d start kind table count slots s) (λ t text. (t ≡ opened d kind table count slots s) × (text ≡ []) × (s.cells + (count + 1) ≤ 2 ^ 20))
  unfolding open_at
  open_finds start kind table count slots = choose_finds (nat_le (s.cells + (count + 1)) (2 ^ 20))
      (λ e. pure_finds (opened d kind table count slots s) (refl, refl, leb-true _ _ e))
      (λ e. never_finds (refuse_never _))

  object_finds : (start : ℕ) → is_reference d.kind ≡ true → Finds (object_at P d start s) (λ t text. IsStep P facts d s t (0x73 ∷ text))
  unfolding object_at open_slots_at
  object_finds start r = bind_finds (desc_finds P facts false d.kind start s.table good) (λ k front h.
      weaken (open_finds start k.0 k.1 (length (option_map_or (stream_kinds P) (class_in k.0.base) [])) (slots_due (length s.graph.nodes) (option_map_or (stream_kinds P) (class_in k.0.base) [])))
      (λ t back o. step_new r (by k front h t back (object_slots P facts.linked k.0 h.sort) o.0 o.1 o.2)))
    where
      by : (k : Kind × Table) (front : List ℕ) → IsDescribed P facts false d.kind s.table k front → (t : State) (back : List ℕ) → (c : IsObject P k.0)
          → t ≡ opened d k.0 k.1 (length (option_map_or (stream_kinds P) (class_in k.0.base) [])) (slots_due (length s.graph.nodes) (option_map_or (stream_kinds P) (class_in k.0.base) [])) s
          → back ≡ [] → s.cells + (length (option_map_or (stream_kinds P) (class_in k.0.base) []) + 1) ≤ 2 ^ 20 → IsNew P facts d s t (0x73 ∷ (front ++ back))
      by k front h t back c is none room =
          let same : option_map_or (stream_kinds P) (class_in k.0.base) [] ≡ stream_kinds P c.number = ap (λ (z : Kind). option_map_or (stream_kinds P) (class_in z.base) []) c.is in
          let flat : is_array k.0 ≡ false = ap is_array c.is in
          record {
            array = false;
            kind = k.0;
            table = k.1;
            desc = front;
            ks = stream_kinds P c.number;
            described = h;
            sort = flat;
            slots = c.slots;
            room = subst (λ z. s.cells + (length z + 1) ≤ 2 ^ 20) same room;
            then_is = is ∙ ap (λ z. opened d k.0 k.1 (length z) (slots_due (length s.graph.nodes) z) s) same;
            text_is = (λ i. (if (sym flat) i then 0x75 else 0x73) ∷ (front ++ (none ∙ sym (ap (λ b. if b then to_be_bytes w32 (length (stream_kinds P c.number)) else []) flat)) i));
          }

  array_finds : (start : ℕ) → is_reference d.kind ≡ true → Finds (array_at P d start s) (λ t text. IsStep P facts d s t (0x75 ∷ text))
  unfolding array_at
  array_finds start r = bind_finds (desc_finds P facts true d.kind start s.table good) (λ k front h. from_finds (λ at. bind_finds (of_reads four_law) (λ size mid g. choose_finds _
      (λ e. weaken (open_finds start k.0 k.1 size (elements_due (length s.graph.nodes) k.0 size))
      (λ t back o. step_new r (by k front h size mid g.1 t back (array_slots P k.0 (array_sort k.0 h.sort) h.known) (array_sort k.0 h.sort) o.0 o.1 o.2)))
      (λ e. never_finds (refuse_never _)))))
    where
      left : (a b : Bool) → (a && b) ≡ true → a ≡ true
      left true b e = refl
      left false b e = absurd (true≢false (sym e))

      array_sort : (kind : Kind) → (is_array kind && is_sendable P kind) ≡ true → is_array kind ≡ true
      array_sort kind e = left (is_array kind) (is_sendable P kind) e

      by : (k : Kind × Table) (front : List ℕ) → IsDescribed P facts true d.kind s.table k front → (size : ℕ) (mid : List ℕ) → mid ≡ to_be_bytes w32 size → (t : State) (back : List ℕ) → (c : IsArray P k.0) → is_array k.0 ≡ true
          → t ≡ opened d k.0 k.1 size (elements_due (length s.graph.nodes) k.0 size) s → back ≡ [] → s.cells + (size + 1) ≤ 2 ^ 20 → IsNew P facts d s t (0x75 ∷ (front ++ (mid ++ back)))
      by k front h size mid m t back c flat is none room =
          let count : length (replicate size c.element) ≡ size = length_replicate size c.element in
          record {
            array = true;
            kind = k.0;
            table = k.1;
            desc = front;
            ks = replicate size c.element;
            described = h;
            sort = flat;
            slots = c.slots size;
            room = omega (arith, room, count);
            then_is = is ∙ (λ i. opened d k.0 k.1 (((sym count) i)) (elements_are (length s.graph.nodes) size k.0 c.element c.is i) s);
            text_is = (λ i. (if (sym flat) i then 0x75 else 0x73) ∷ (front ++ (ap (λ z. mid ++ z) none ∙ append-nil mid ∙ m ∙ ap (to_be_bytes w32) (sym count) ∙ sym (ap (λ b. if b then to_be_bytes w32 (length (replicate size c.element)) else []) flat)) i));
          }

  -- ---- a slot

  content_finds : is_reference d.kind ≡ true → Finds (content_at P d s) (IsStep P facts d s)
  unfolding content_at
  content_finds r = from_finds (λ at. tag_finds (λ tag. choose_finds (tag == 0x70)
      (λ e. pure_finds (kept d Null s) (step_null r (ap (λ z. z ∷ []) (eqb-true tag 0x70 e)) refl))
      (λ e. choose_finds (tag == 0x71)
      (λ f. weaken (old_finds at r) (λ t text h. subst (λ z. IsStep P facts d s t (z ∷ text)) (sym (eqb-true tag 0x71 f)) h))
      (λ f. choose_finds (tag == 0x73)
      (λ g. weaken (object_finds at r) (λ t text h. subst (λ z. IsStep P facts d s t (z ∷ text)) (sym (eqb-true tag 0x73 g)) h))
      (λ g. choose_finds (tag == 0x75)
      (λ h. weaken (array_finds at r) (λ t text k. subst (λ z. IsStep P facts d s t (z ∷ text)) (sym (eqb-true tag 0x75 h)) k))
      (λ h. never_finds (refuse_never _)))))))

  pub slot_finds : Finds (slot_at P d s) (IsStep P facts d s)
  unfolding slot_at
  slot_finds = choose_finds (is_reference d.kind)
      (λ e. content_finds e)
      (λ e. bind_finds (number_finds d.kind.base (or_false (is_array d.kind) (is_some (class_in d.kind.base)) e)) (λ x front h.
      pure_finds (kept d x s) (step_number x e (subst (IsRead d.kind.base x) (sym (append-nil front)) h) refl)))
