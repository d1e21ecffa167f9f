-- What version 2 of the messages has beside version 1: it sends back just the listed objects that changed (the project's
-- own). No program speaks it yet.
use Rattle.std.specs.Prelude.{◌≡◌, ◌↔◌, ℕ, List, [], ◌∷◌, ◌++◌, length, map, Some, Contains, slice_get}
use Rattle.std.specs.FinMap.{get}
use Rattle.std.specs.Int.{w32, to_be_bytes}
use Rattle.std.specs.List.{flat_map}
use Rattle.nr_base.specs.declared.result_word.ResultWord.{ResultWord}
use Rattle.nr_model.specs.Heaps.{Heap}
use Rattle.nr_message.specs.Writing.{printed_text, word_text}
use Rattle.nr_graph.specs.Listing.{Rises}

-- those of the names, in order, under which some slot isn't as it was
pub data Changed (before after : Heap) : List ℕ → List ℕ → Type 0 where
  none_left : Changed before after [] []
  changed : {x : ℕ} {xs ys : List ℕ} → (get after x ≡ get before x → ⊥) → Changed before after xs ys
      → Changed before after (x ∷ xs) (x ∷ ys)
  kept : {x : ℕ} {xs ys : List ℕ} → get after x ≡ get before x → Changed before after xs ys → Changed before after (x ∷ xs) ys

-- which nodes of the stream are listed objects, and the place of each in the list
pub record Marks (names listed : List ℕ) (marks : List (ℕ × ℕ)) : Type 0 where
  pub rises : Rises (map (λ m. m.0) marks)
  pub just : (node entry : ℕ) → Contains marks (node, entry) ↔ ((x : ℕ) × (slice_get names node ≡ Some x) × (slice_get listed entry ≡ Some x))

abbrev pub marks_text : List (ℕ × ℕ) → List ℕ
marks_text marks = flat_map (λ m. to_be_bytes w32 m.0 ++ to_be_bytes w32 m.1) marks

-- outcome 11: as outcome 0, with the number of marks and the marks before the stream
abbrev pub marked_text : ℕ → List ℕ → ResultWord → ℕ → List (ℕ × ℕ) → List ℕ → List ℕ
marked_text number printed word count marks stream =
    to_be_bytes w32 number ++ 11 ∷ (printed_text printed ++ word_text word ++ to_be_bytes w32 count
    ++ to_be_bytes w32 (length marks) ++ marks_text marks ++ stream)
