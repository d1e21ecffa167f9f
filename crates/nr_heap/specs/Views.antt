-- What the arena of a heap means.
use Rattle.std.specs.Prelude.{◌≡◌, ◌+◌, ◌≤◌, length}
use Rattle.std.specs.List.{zip}
use Rattle.std.specs.Vec.{vec_len, vec_capacity}
use Rattle.nr_model.specs.Outcomes.{max_cells}
use Rattle.nr_heap.specs.declared.heap.Heap.TheInside.{Inside}
use Rattle.nr_heap.specs.Contents.{Contents}
use Rattle.nr_heap.specs.Arenas.{map_of, objects, Laid, cells_at}

abbrev pub contents_of : Inside → Contents
contents_of a = record { objects = map_of (objects a.places.items (zip a.forms.items a.words.items)); spare = a.spare }

pub record IsArena (a : Inside) : Type 0 where
  -- each object has its own words, and there are no others
  pub laid : Laid 0 a.places.items (length a.words.items)
  -- each word has a form
  pub formed : length a.forms.items ≡ length a.words.items
  pub counted : a.cells ≡ cells_at a.places.items
  pub few : a.cells ≤ max_cells
  -- there is room for the spare cells: an object takes no more words than it has slots
  pub place_room : vec_len a.places + a.spare ≤ vec_capacity a.places
  pub word_room : vec_len a.words + a.spare ≤ vec_capacity a.words
  pub form_room : vec_len a.forms + a.spare ≤ vec_capacity a.forms
