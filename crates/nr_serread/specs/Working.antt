-- What the reader keeps while it works.
use Rattle.std.specs.Prelude.{ℕ, ◌<◌, ◌≤◌, ◌^◌, List, [], ◌∷◌, ◌++◌, map, length, reverse, Some, replicate}
use Rattle.std.specs.List.{AllByRecursion}
use Rattle.nr_graph.specs.declared.graph.Graph.{Graph}
use Rattle.nr_serform.specs.Entries.{Entry, Class, Text, Object}
use Rattle.nr_serform.specs.Handles.{Table, objects}
use Rattle.nr_serform.specs.StreamSlots.{placed_of}
use Rattle.nr_serread.specs.declared.due.Due.{Due}
use Rattle.nr_serread.specs.declared.work.Left.{Left}
use Rattle.nr_serread.specs.declared.work.Left.TheVariants.{Slots, Elements}
use Rattle.nr_serread.specs.declared.work.Frame.{Frame}
use Rattle.nr_serread.specs.declared.work.Work.{Work}
use Rattle.nr_serread.specs.Reading.{State, slots_due}

abbrev pub left_due : ℕ → Left → List Due
left_due i (Slots slots) = slots_due i (map (λ a. a.1.kind) (map placed_of slots.now))
left_due i (Elements kind n) = replicate n (record { owner = Some i; kind = kind })

abbrev pub frames_due : List Frame → List Due
frames_due [] = []
frames_due (f ∷ fs) = left_due f.node f.left ++ frames_due fs

abbrev pub graph_of : Work → Graph
graph_of w = record { nodes = w.nodes.items; roots = w.roots }

-- behind the open nodes, the innermost first, the roots are due
abbrev pub state_by : Work → Table → List Due → State
state_by w table roots = record {
  graph = graph_of w;
  table = table;
  cells = w.cells;
  due = frames_due (reverse w.frames.items) ++ roots;
}

abbrev pub state_of : Work → List Due → State
state_of w roots = state_by w w.handles roots

-- the same, where a node that was open was taken from the others
abbrev pub open_state : Frame → Work → List Due → State
open_state f w roots = record {
  graph = graph_of w;
  table = w.handles;
  cells = w.cells;
  due = left_due f.node f.left ++ (frames_due (reverse w.frames.items) ++ roots);
}

-- the objects that have a handle are among the first n nodes
abbrev pub AreBelow : ℕ → Table → Type 0
AreBelow n table = AllByRecursion (λ i. i < n) (objects table)

pub record Fits (w : Work) : Type 0 where
  pub nodes : length w.nodes.items ≤ w.cells
  pub cells : w.cells ≤ 2 ^ 20
  pub objects : AreBelow (length w.nodes.items) w.handles
