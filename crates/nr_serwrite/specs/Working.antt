-- What the writer keeps while it works: what was written, and the items that are next.
use Rattle.std.specs.Prelude.{◌≡◌, ℕ, ◌+◌, List, [], ◌∷◌, ◌++◌, map, length, reverse, drop, true}
use Rattle.std.specs.List.{AllByRecursion, range_with_len}
use Rattle.nr_linked.specs.declared.program.kind.Kind.{Kind}
use Rattle.nr_linked.specs.declared.program.tables.ProgramTables.{ProgramTables}
use Rattle.nr_graph.specs.declared.graph.Slot.{Slot}
use Rattle.nr_graph.specs.declared.graph.Graph.{Graph}
use Rattle.nr_graph.specs.Fitting.{SlotFits}
use Rattle.nr_graph.specs.Graphs.{cells_of_nodes, next_node, nodes_in}
use Rattle.nr_graph.specs.Walks.{Walk}
use Rattle.nr_serform.specs.Handles.{Table, objects}
use Rattle.nr_serform.specs.Spelling.{Item, Spell}
use Rattle.nr_serform.specs.StreamSlots.{placed_of}
use Rattle.nr_serwrite.specs.declared.work.Kinds.{Kinds}
use Rattle.nr_serwrite.specs.declared.work.Kinds.TheVariants.{Fields, Elements}
use Rattle.nr_serwrite.specs.declared.work.Frame.{Frame}
use Rattle.nr_serwrite.specs.declared.work.Work.{Work}

-- ---- items that are open

-- kinds and what the slots hold, one beside the other
abbrev pub items_with : List Kind → List Slot → List Item
items_with [] ss = []
items_with (k ∷ ks) [] = []
items_with (k ∷ ks) (s ∷ ss) = (k, s) ∷ items_with ks ss

-- slots of one kind
abbrev pub items_all : Kind → List Slot → List Item
items_all k [] = []
items_all k (s ∷ ss) = (k, s) ∷ items_all k ss

abbrev pub kinds_items : Kinds → List Slot → List Item
kinds_items (Fields fields) ss = items_with (map (λ a. a.1.kind) (map placed_of fields.now)) ss
kinds_items (Elements kind) ss = items_all kind ss

abbrev pub frame_items : Frame → List Item
frame_items f = kinds_items f.kinds f.slots.now

abbrev pub frames_items : List Frame → List Item
frames_items [] = []
frames_items (f ∷ fs) = frame_items f ++ frames_items fs

-- those of all open nodes, the innermost first
abbrev pub pending : List Frame → List Item
pending frames = frames_items (reverse frames)

-- ---- what holds at each step

abbrev pub item_nodes : List Item → List ℕ
item_nodes is = nodes_in (map (λ x. x.1) is)

abbrev pub AllFit : ProgramTables → Graph → List Item → Type 0
AllFit P g is = AllByRecursion (λ x. SlotFits P g x.0 x.1) is

-- these nodes come next in the order of first visit, where the table has those that were met
abbrev pub AreNextNodes : Graph → List ℕ → Table → Type 0
AreNextNodes g is table = Walk (next_node g) is (objects table) (range_with_len 0 (length g.nodes))

-- the items come next: each fits, and their nodes stand in the order of first visit
pub record AreNext (P : ProgramTables) (g : Graph) (is : List Item) (table : Table) : Type 0 where
  pub fit : AllFit P g is
  pub order : AreNextNodes g (item_nodes is) table

-- a node comes next, then the items
pub record IsNext (P : ProgramTables) (g : Graph) (i : ℕ) (is : List Item) (table : Table) : Type 0 where
  pub fit : AllFit P g is
  pub order : AreNextNodes g (i ∷ item_nodes is) table

-- From the items on to those that are left: what was written spells the items up to them, so that with a text of these it is
-- a text of all; and they come next.
pub record Step (P : ProgramTables) (g : Graph) (is : List Item) (table : Table) (out : List ℕ) (left : List Item) (table' : Table) (out' : List ℕ) : Type 0 where
  pub text : List ℕ
  pub written : out' ≡ out ++ text
  pub spells : (rest : List ℕ) (after : Table) → Spell P true g left table' rest after → Spell P true g is table (text ++ rest) after
  pub next : AreNext P g left table'

abbrev pub StepTo : ProgramTables → Graph → List Item → Table → List ℕ → Work → Type 0
StepTo P g is table out new = Step P g is table out (pending new.frames.items) new.handles new.out

-- more steps than these can't follow
abbrev pub steps_left : Graph → ℕ → List Item → Table → ℕ
steps_left g count is table = count + length is + cells_of_nodes (drop (length (objects table)) g.nodes)

abbrev pub steps_of : Graph → Work → ℕ
steps_of g w = steps_left g (length w.frames.items) (pending w.frames.items) w.handles
