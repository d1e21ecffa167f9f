-- The steps of the writer as its code makes them.
use Rattle.std.proofs.Common.{◌≡◌, ℕ, suc, ◌+◌, ◌<◌, ◌≤◌, Bool, true, false, List, [], ◌∷◌, ◌++◌, length, refl, sym, ap, subst, ◌∙◌, append_assoc, length-append, Result, Ok, Err, OnOk, arith, if◌then◌else◌}
use Rattle.std.specs.Prelude.{ℤ, Some, T}
use Rattle.std.specs.Int.{w8, w32, w64, to_be_bytes, cast_signed, cast_unsigned}
use Rattle.std.proofs.lemmas.Int.{to_z-of_z}
use Rattle.nr_linked.specs.declared.program.kind.Kind.{Kind}
use Rattle.nr_linked.specs.declared.program.tables.ProgramTables.{ProgramTables}
use Rattle.nr_linked.specs.Kinds.{is_array, is_reference}
use Rattle.nr_linked.specs.Sendable.{is_sendable}
use Rattle.nr_model.specs.Belonging.{InRange}
use Rattle.nr_graph.specs.declared.graph.Slot.{Slot}
use Rattle.nr_graph.specs.declared.graph.Slot.TheVariants.{Int, Long, Null, Node as At}
use Rattle.nr_graph.specs.declared.graph.Node.{Node}
use Rattle.nr_graph.specs.declared.graph.Graph.{Graph}
use Rattle.nr_graph.specs.Fitting.{IsSpellable}
use Rattle.nr_graph.specs.Graphs.{node_at, root_slots}
use Rattle.nr_serform.specs.Entries.{Object}
use Rattle.nr_serform.specs.Handles.{Table, has, handle}
use Rattle.nr_serform.specs.Spelling.{Item, items_of, number_width, signed_text, size_text, tag}
use Rattle.nr_serform.specs.Streams.{IsCanonical, header}
use Rattle.nr_serwrite.specs.declared.work.Frame.{Frame}
use Rattle.nr_serwrite.specs.Texts.{HasShortName, IsDescribed}
use Rattle.nr_serwrite.specs.Working.{AreNext, IsNext, Step, frame_items, items_all, pending, steps_left}
use Rattle.nr_serwrite.proofs.Described.{sendable_short}
use Rattle.nr_serwrite.proofs.Items.{pending_pushed}
use Rattle.nr_serwrite.proofs.SlotSorts.{int_is, long_is, node_is}
use Rattle.nr_serwrite.proofs.Steps.{at_place, fewer_new, step_again, step_int, step_long, step_new, step_none, step_null, step_then, still_new}
use Rattle.nr_serwrite.proofs.Streams.{any, pending_alone, roots_next, stream_over}

pub as_many_steps : {X E : Type 0} (r : Result X E) (n : ℕ) → OnOk r (n ≤ n)
as_many_steps (Ok x) n = omega arith
as_many_steps (Err e) n = tt

byte_tag : (k : Kind) → to_be_bytes w8 (tag k) ≡ tag k ∷ []
byte_tag k = by (is_array k)
  where
    by : (b : Bool) → to_be_bytes w8 (if b then 0x75 else 0x73) ≡ (if b then 0x75 else 0x73) ∷ []
    by true = refl
    by false = refl

four : (a b c d : List ℕ) → ((a ++ b) ++ c) ++ d ≡ a ++ (b ++ (c ++ d))
four a b c d = append_assoc (a ++ b) c d ∙ append_assoc a b (c ++ d)

module _ (P : ProgramTables) (g : Graph) where
  -- ---- slots

  -- a number as the code passes it on
  passed_int : (kind : Kind) (s : Slot) (n : ℤ) (is : List Item) (table : Table) → AreNext P g ((kind, s) ∷ is) table → s ≡ Int n → cast_signed w32 (cast_unsigned w32 n) ≡ n
  passed_int kind s n is table a e = to_z-of_z w32 n (int_is P g kind n (subst (λ s. AreNext P g ((kind, s) ∷ is) table) e a).fit.0).1.1

  passed_long : (kind : Kind) (s : Slot) (n : ℤ) (is : List Item) (table : Table) → AreNext P g ((kind, s) ∷ is) table → s ≡ Long n → cast_signed w64 (cast_unsigned w64 n) ≡ n
  passed_long kind s n is table a e = to_z-of_z w64 n (long_is P g kind n (subst (λ s. AreNext P g ((kind, s) ∷ is) table) e a).fit.0).1

  pub slot_in_range : (kind : Kind) (s : Slot) (n : ℤ) (is : List Item) (table : Table) → AreNext P g ((kind, s) ∷ is) table → s ≡ Int n → InRange kind.base (cast_signed w32 (cast_unsigned w32 n))
  slot_in_range kind s n is table a e = subst (InRange kind.base) (sym (passed_int kind s n is table a e)) (int_is P g kind n (subst (λ s. AreNext P g ((kind, s) ∷ is) table) e a).fit.0).1.0

  pub slot_int : (kind : Kind) (s : Slot) (n : ℤ) (is : List Item) (table : Table) (out out' : List ℕ) → AreNext P g ((kind, s) ∷ is) table → s ≡ Int n
      → out' ≡ out ++ signed_text (number_width kind.base) (cast_signed w32 (cast_unsigned w32 n)) → Step P g ((kind, s) ∷ is) table out is table out'
  slot_int kind s n is table out out' a e w =
      subst (λ s. Step P g ((kind, s) ∷ is) table out is table out') (sym e)
      (step_int P g kind n is table out out' (subst (λ s. AreNext P g ((kind, s) ∷ is) table) e a) (w ∙ ap (λ n. out ++ signed_text (number_width kind.base) n) (passed_int kind s n is table a e)))

  pub slot_long : (kind : Kind) (s : Slot) (n : ℤ) (m : ℕ) (is : List Item) (table : Table) (out out' : List ℕ) → AreNext P g ((kind, s) ∷ is) table → s ≡ Long n
      → m ≡ cast_unsigned w64 (cast_signed w64 (cast_unsigned w64 n)) → out' ≡ out ++ to_be_bytes w64 m → Step P g ((kind, s) ∷ is) table out is table out'
  slot_long kind s n m is table out out' a e b w =
      subst (λ s. Step P g ((kind, s) ∷ is) table out is table out') (sym e)
      (step_long P g kind n is table out out' (subst (λ s. AreNext P g ((kind, s) ∷ is) table) e a)
      (w ∙ ap (λ m. out ++ to_be_bytes w64 m) (b ∙ ap (cast_unsigned w64) (passed_long kind s n is table a e))))

  pub slot_null : (kind : Kind) (s : Slot) (is : List Item) (table : Table) (out out' : List ℕ) → AreNext P g ((kind, s) ∷ is) table → s ≡ Null
      → out' ≡ out ++ 0x70 ∷ [] → Step P g ((kind, s) ∷ is) table out is table out'
  slot_null kind s is table out out' a e w =
      subst (λ s. Step P g ((kind, s) ∷ is) table out is table out') (sym e) (step_null P g kind is table out out' (subst (λ s. AreNext P g ((kind, s) ∷ is) table) e a) w)

  pub slot_node : (kind : Kind) (s : Slot) (i : ℕ) (is left : List Item) (table table' : Table) (out out' : List ℕ) → s ≡ At i
      → Step P g ((kind, At i) ∷ is) table out left table' out' → Step P g ((kind, s) ∷ is) table out left table' out'
  slot_node kind s i is left table table' out out' e st = subst (λ s. Step P g ((kind, s) ∷ is) table out left table' out') (sym e) st

  pub slot_next : (kind : Kind) (s : Slot) (i : ℕ) (is : List Item) (table : Table) → AreNext P g ((kind, s) ∷ is) table → s ≡ At i → IsNext P g i is table
  slot_next kind s i is table a e =
      let b = subst (λ s. AreNext P g ((kind, s) ∷ is) table) e a in
      record { fit = b.fit.1; order = b.order }

  pub slot_reference : (kind : Kind) (s : Slot) (i : ℕ) (is : List Item) (table : Table) → AreNext P g ((kind, s) ∷ is) table → s ≡ At i → is_reference kind ≡ true
  slot_reference kind s i is table a e = node_is P g kind i (subst (λ s. AreNext P g ((kind, s) ∷ is) table) e a).fit.0

  -- ---- nodes

  pub node_told : (kind : Kind) (i n : ℕ) (is : List Item) (table : Table) (out out' : List ℕ) → is_reference kind ≡ true → IsNext P g i is table → has table (Object i) ≡ true
      → n ≡ handle table (Object i) → out' ≡ out ++ 0x71 ∷ to_be_bytes w32 n → Step P g ((kind, At i) ∷ is) table out is table out'
  node_told kind i n is table out out' r a h e w = step_again P g kind i is table out out' r a h (w ∙ ap (λ n. out ++ 0x71 ∷ to_be_bytes w32 n) e)

  pub node_short : (i : ℕ) (n : Node) → IsSpellable P g → node_at g i ≡ Some n → HasShortName P n.kind
  node_short i n sp e = sendable_short P n.kind (at_place (λ (n : Node). T (is_sendable P n.kind)) g.nodes i n sp.sendable e)

  pub node_still_new : (i : ℕ) (n : Node) (table mid : Table) (o1 o2 : List ℕ) → IsDescribed P (Some n.kind) table o1 mid o2 → has table (Object i) ≡ false → has mid (Object i) ≡ false
  node_still_new i n table mid o1 o2 d h = still_new P g i n table mid d.text d.described h

  pub node_opened : (i t : ℕ) (n : Node) (fs gs : List Frame) (f : Frame) (table mid table' : Table) (out o1 o2 o3 : List ℕ) → IsSpellable P g → IsNext P g i (pending fs) table
      → has table (Object i) ≡ false → node_at g i ≡ Some n → t ≡ tag n.kind → o1 ≡ out ++ to_be_bytes w8 t → IsDescribed P (Some n.kind) table o1 mid o2
      → table' ≡ mid ++ Object i ∷ [] → o3 ≡ o2 ++ size_text n → gs ≡ fs ++ f ∷ [] → frame_items f ≡ items_of P n
      → (kind : Kind) → is_reference kind ≡ true → Step P g ((kind, At i) ∷ pending fs) table out (pending gs) table' o3
  node_opened i t n fs gs f table mid table' out o1 o2 o3 sp a h nd et e1 d e2 e3 eg ef kind r =
      let first : o1 ≡ out ++ (tag n.kind ∷ []) = e1 ∙ ap (λ z. out ++ to_be_bytes w8 z) et ∙ ap (λ z. out ++ z) (byte_tag n.kind) in
      let second : o2 ≡ (out ++ (tag n.kind ∷ [])) ++ d.text = d.written ∙ ap (λ z. z ++ d.text) first in
      let third : o3 ≡ out ++ (tag n.kind ∷ (d.text ++ size_text n)) = e3 ∙ ap (λ z. z ++ size_text n) second ∙ four out (tag n.kind ∷ []) d.text (size_text n) in
      let left : pending gs ≡ items_of P n ++ pending fs = pending_pushed fs gs f eg ∙ ap (λ z. z ++ pending fs) ef in
      step_new P g kind i n (pending fs) (pending gs) table mid table' out o3 d.text r sp a h nd d.described e2 left third

  pub node_opened_fewer : (i : ℕ) (n : Node) (fs gs : List Frame) (f : Frame) (table mid table' : Table) (o1 o2 : List ℕ) → IsSpellable P g → IsNext P g i (pending fs) table
      → has table (Object i) ≡ false → node_at g i ≡ Some n → IsDescribed P (Some n.kind) table o1 mid o2
      → table' ≡ mid ++ Object i ∷ [] → gs ≡ fs ++ f ∷ [] → frame_items f ≡ items_of P n
      → steps_left g (length gs) (pending gs) table' ≤ steps_left g (length fs) (pending fs) table
  node_opened_fewer i n fs gs f table mid table' o1 o2 sp a h nd d e2 eg ef =
      let left : pending gs ≡ items_of P n ++ pending fs = pending_pushed fs gs f eg ∙ ap (λ z. z ++ pending fs) ef in
      fewer_new P g i (length fs) (length gs) n (pending fs) (pending gs) table mid table' d.text sp a h nd d.described e2 left (ap length eg ∙ length-append fs (f ∷ []))

  -- ---- frames

  pub frame_over : (f : Frame) (is : List Item) (table : Table) (out : List ℕ) → frame_items f ≡ [] → AreNext P g (frame_items f ++ is) table → Step P g (frame_items f ++ is) table out is table out
  frame_over f is table out e a =
      let none : frame_items f ++ is ≡ is = ap (λ z. z ++ is) e in
      subst (λ z. Step P g z table out is table out) (sym none) (step_none P g is table out (subst (λ z. AreNext P g z table) none a))

  pub frame_over_less : (f : Frame) (is : List Item) (n : ℕ) (table : Table) → steps_left g n is table < steps_left g (n + 1) (frame_items f ++ is) table
  frame_over_less f is n table = let l = length-append (frame_items f) is in omega (arith, l)

  pushed_items : (f rest : Frame) (k : Kind) (s : Slot) (fs gs : List Frame) → frame_items f ≡ (k, s) ∷ frame_items rest → gs ≡ fs ++ rest ∷ [] → frame_items f ++ pending fs ≡ (k, s) ∷ pending gs
  pushed_items f rest k s fs gs e eg = ap (λ z. z ++ pending fs) e ∙ ap (λ z. (k, s) ∷ z) (sym (pending_pushed fs gs rest eg))

  pub frame_next : (f rest : Frame) (k : Kind) (s : Slot) (fs gs : List Frame) (table : Table) → frame_items f ≡ (k, s) ∷ frame_items rest → gs ≡ fs ++ rest ∷ []
      → AreNext P g (frame_items f ++ pending fs) table → AreNext P g ((k, s) ∷ pending gs) table
  frame_next f rest k s fs gs table e eg a = subst (λ z. AreNext P g z table) (pushed_items f rest k s fs gs e eg) a

  pub frame_step : (f rest : Frame) (k : Kind) (s : Slot) (fs gs : List Frame) (left : List Item) (table table' : Table) (out out' : List ℕ) → frame_items f ≡ (k, s) ∷ frame_items rest
      → gs ≡ fs ++ rest ∷ [] → Step P g ((k, s) ∷ pending gs) table out left table' out' → Step P g (frame_items f ++ pending fs) table out left table' out'
  frame_step f rest k s fs gs left table table' out out' e eg st = subst (λ z. Step P g z table out left table' out') (sym (pushed_items f rest k s fs gs e eg)) st

  pub frame_less : (x : ℕ) (f rest : Frame) (k : Kind) (s : Slot) (fs gs : List Frame) (table : Table) → frame_items f ≡ (k, s) ∷ frame_items rest → gs ≡ fs ++ rest ∷ []
      → x ≤ steps_left g (length gs) (pending gs) table → x < steps_left g (length fs + 1) (frame_items f ++ pending fs) table
  frame_less x f rest k s fs gs table e eg l =
      let long : length gs ≡ length fs + 1 = ap length eg ∙ length-append fs (rest ∷ []) in
      let more : length (frame_items f ++ pending fs) ≡ suc (length (pending gs)) = ap length (pushed_items f rest k s fs gs e eg) in
      omega (arith, long, more, l)

  pub popped_next : (f : Frame) (fs gs : List Frame) (table : Table) → gs ≡ fs ++ f ∷ [] → AreNext P g (pending gs) table → AreNext P g (frame_items f ++ pending fs) table
  popped_next f fs gs table e a = subst (λ z. AreNext P g z table) (pending_pushed fs gs f e) a

  pub popped_then : (f : Frame) (is left : List Item) (fs gs : List Frame) (t0 t1 t2 : Table) (o0 o1 o2 : List ℕ) → gs ≡ fs ++ f ∷ [] → Step P g is t0 o0 (pending gs) t1 o1
      → Step P g (frame_items f ++ pending fs) t1 o1 left t2 o2 → Step P g is t0 o0 left t2 o2
  popped_then f is left fs gs t0 t1 t2 o0 o1 o2 e a b =
      step_then P g is (pending gs) left t0 t1 t2 o0 o1 o2 a (subst (λ z. Step P g z t1 o1 left t2 o2) (sym (pending_pushed fs gs f e)) b)

  pub popped_less : (x : ℕ) (f : Frame) (fs gs : List Frame) (table : Table) → gs ≡ fs ++ f ∷ [] → x < steps_left g (length fs + 1) (frame_items f ++ pending fs) table
      → x < steps_left g (length gs) (pending gs) table
  popped_less x f fs gs table e l =
      let long : length gs ≡ length fs + 1 = ap length e ∙ length-append fs (f ∷ []) in
      let same : length (pending gs) ≡ length (frame_items f ++ pending fs) = ap length (pending_pushed fs gs f e) in
      omega (arith, long, same, l)

  pub same_frames : (is : List Item) (fs gs : List Frame) (t0 t1 : Table) (o0 o1 : List ℕ) → gs ≡ fs → Step P g is t0 o0 (pending fs) t1 o1 → Step P g is t0 o0 (pending gs) t1 o1
  same_frames is fs gs t0 t1 o0 o1 e st = subst (λ z. Step P g is t0 o0 (pending z) t1 o1) (sym e) st

  -- ---- streams

  root_items_are : (k : Kind) (ss : List Slot) → k ≡ any P → ss ≡ root_slots g.roots → items_all k ss ≡ items_all (any P) (root_slots g.roots)
  root_items_are k ss ek es = λ i. items_all (ek i) (es i)

  pub stream_begins : (f : Frame) (k : Kind) (ss : List Slot) (fs gs : List Frame) (table : Table) → IsSpellable P g → frame_items f ≡ items_all k ss → k ≡ any P → ss ≡ root_slots g.roots
      → fs ≡ [] → gs ≡ fs ++ f ∷ [] → table ≡ [] → AreNext P g (pending gs) table
  stream_begins f k ss fs gs table sp ef ek es en eg et =
      let all : pending gs ≡ items_all (any P) (root_slots g.roots) = pending_alone fs gs f en eg ∙ ef ∙ root_items_are k ss ek es in
      subst (λ z. AreNext P g z table) (sym all) (subst (λ z. AreNext P g (items_all (any P) (root_slots g.roots)) z) (sym et) (roots_next P g sp))

  pub stream_ends : (f : Frame) (k : Kind) (ss : List Slot) (fs gs hs : List Frame) (table table' : Table) (o0 o1 o2 : List ℕ) → IsSpellable P g → frame_items f ≡ items_all k ss → k ≡ any P
      → ss ≡ root_slots g.roots → fs ≡ [] → gs ≡ fs ++ f ∷ [] → table ≡ [] → o0 ≡ [] → o1 ≡ o0 ++ header → hs ≡ [] → Step P g (pending gs) table o1 (pending hs) table' o2 → IsCanonical P o2 g
  stream_ends f k ss fs gs hs table table' o0 o1 o2 sp ef ek es en eg et e0 e1 eh st =
      let all : pending gs ≡ items_all (any P) (root_slots g.roots) = pending_alone fs gs f en eg ∙ ef ∙ root_items_are k ss ek es in
      let begun : o1 ≡ header = e1 ∙ ap (λ z. z ++ header) e0 in
      let a : Step P g (items_all (any P) (root_slots g.roots)) table o1 (pending hs) table' o2 = subst (λ z. Step P g z table o1 (pending hs) table' o2) all st in
      let b : Step P g (items_all (any P) (root_slots g.roots)) [] o1 (pending hs) table' o2 = subst (λ z. Step P g (items_all (any P) (root_slots g.roots)) z o1 (pending hs) table' o2) et a in
      let c : Step P g (items_all (any P) (root_slots g.roots)) [] header (pending hs) table' o2 = subst (λ z. Step P g (items_all (any P) (root_slots g.roots)) [] z (pending hs) table' o2) begun b in
      stream_over P g sp table' o2 (subst (λ z. Step P g (items_all (any P) (root_slots g.roots)) [] header (pending z) table' o2) eh c)
