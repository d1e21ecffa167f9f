-- Objects and arrays in one arena of words. (The project's own layout.)
use Rattle.std.specs.Prelude.{◌≡◌, ℕ, zero, suc, ◌+◌, ◌-◌, ◌<◌, List, [], ◌∷◌, ◌++◌, map, take, drop, length, replicate, Option, Some, None, slice_set, refl}
use Rattle.std.specs.List.{flat_map, zip}
use Rattle.std.specs.FinMap.{from_entries}
use Rattle.nr_linked.specs.declared.program.kind.Kind.{Kind}
use Rattle.nr_linked.specs.declared.program.tables.SlotInfo.{SlotInfo}
use Rattle.nr_model.specs.declared.value.Value.{Value}
use Rattle.nr_model.specs.Heaps.{Obj, Heap}
use Rattle.nr_heap.specs.declared.form.Form.{Form}
use Rattle.nr_heap.specs.declared.form.Form.TheVariants as forms
use Rattle.nr_heap.specs.declared.place.Place.{Place}
use Rattle.nr_heap.specs.Forms.{elements_form, form_of, value_in, values_in, words_for}

-- ---- objects by their numbers

abbrev pub numbered : ℕ → List Obj → List (ℕ × Obj)
numbered k [] = []
numbered k (o ∷ os) = (k, o) ∷ numbered (suc k) os

-- an object's name is its number
pub map_of : List Obj → Heap
map_of os = from_entries (numbered 0 os)

pub map_of_is : (os : List Obj) → map_of os ≡ from_entries (numbered 0 os)
unfolding map_of
map_of_is os = refl

-- ---- the words of an object

-- The values of n slots in these words, each with its form. An object has no form of its elements: a word of it holds one
-- slot.
abbrev pub slots_by : Option Form → ℕ → List (Form × ℕ) → List Value
slots_by None n ws = map (λ w. value_in w.0 w.1) ws
slots_by (Some f) n ws = take n (flat_map (λ w. values_in f w.1) ws)

abbrev pub slots_in : Kind → ℕ → List (Form × ℕ) → List Value
slots_in k n ws = slots_by (elements_form k) n ws

-- the words that n slots take
abbrev pub width_by : Option Form → ℕ → ℕ
width_by None n = n
width_by (Some f) n = words_for f n

abbrev pub width : Kind → ℕ → ℕ
width k n = width_by (elements_form k) n

-- the words of an object in the arena
abbrev pub run_of : Place → List (Form × ℕ) → List (Form × ℕ)
run_of p ws = take (width p.kind p.len) (drop p.start ws)

abbrev pub obj_at : List (Form × ℕ) → Place → Obj
obj_at ws p = record { kind = p.kind; slots = slots_in p.kind p.len (run_of p ws) }

abbrev pub objects : List Place → List (Form × ℕ) → List Obj
objects ps ws = map (obj_at ws) ps

-- the runs stand one behind the other, from k to the end
abbrev pub Laid : ℕ → List Place → ℕ → Type 0
Laid k [] end = k ≡ end
Laid k (p ∷ ps) end = (p.start ≡ k) × Laid (k + width p.kind p.len) ps end

-- the cells of the objects
abbrev pub cells_at : List Place → ℕ
cells_at [] = 0
cells_at (p ∷ ps) = p.len + 1 + cells_at ps

-- one word of the place's run was written, which wrote slot i
pub record IsWritten (p : Place) (i : ℕ) (v : Value) (old new : List (Form × ℕ)) : Type 0 where
  pub at : ℕ
  pub word : Form × ℕ
  pub within : at < width p.kind p.len
  pub written : new ≡ slice_set old (p.start + at) word
  pub slots : slots_in p.kind p.len (run_of p new) ≡ slice_set (slots_in p.kind p.len (run_of p old)) i v

-- the forms of a new object's words: those of the slots, and some others where it has more words
abbrev pub new_forms : Kind → ℕ → List SlotInfo → List Form
new_forms k n ss = map (λ s. form_of s.kind) ss ++ replicate (width k n - length ss) forms.Int

-- what n slots of a new object hold
abbrev pub new_slots : Kind → ℕ → List SlotInfo → List Value
new_slots k n ss = slots_in k n (zip (new_forms k n ss) (replicate (width k n) 0))
