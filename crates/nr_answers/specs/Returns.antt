-- What goes back where a call returned (the project's own).
use Rattle.std.specs.Prelude.{◌≡◌, ℕ, ◌==◌, List, [], ◌∷◌, ◌++◌, length, map, Bool, true, false, Option, Some, None, if◌then◌else◌}
use Rattle.nr_base.specs.declared.result_word.ResultWord.{ResultWord}
use Rattle.nr_base.specs.declared.result_word.ResultWord.TheVariants as words
use Rattle.nr_linked.specs.declared.program.tables.ProgramTables.{ProgramTables}
use Rattle.nr_model.specs.declared.value.Value.{Value}
use Rattle.nr_model.specs.declared.value.Value.TheVariants.{Int, Long, Null, Ref}
use Rattle.nr_model.specs.Heaps.{Heap}
use Rattle.nr_message.specs.declared.message.ReplyBody.TheVariants.{Returned}
use Rattle.nr_message.specs.Whole.{IsWord}
use Rattle.nr_message.specs.Writing.{reply_text}
use Rattle.nr_graph.specs.declared.graph.Graph.{Graph}
use Rattle.nr_graph.specs.Listing.{Lists, Picked}
use Rattle.nr_graph.specs.Pictures.{IsPicture}
use Rattle.nr_serform.specs.Streams.{IsCanonical}
use Rattle.nr_answers.specs.Changes.{Changed, Marks, marked_text}

-- ---- the result

abbrev pub word_of : Option Value → ResultWord
word_of None = words.Void
word_of (Some (Int n)) = words.Int n
word_of (Some (Long n)) = words.Long n
word_of (Some Null) = words.Reference
word_of (Some (Ref x)) = words.Reference

-- a result that is a reference is a root of the stream
abbrev pub result_root : Option Value → List Value
result_root (Some Null) = Null ∷ []
result_root (Some (Ref x)) = Ref x ∷ []
result_root v = []

-- ---- the objects

-- the objects that a restorable argument of the call reached at its start, in the order of their nodes
pub record ListedIn (P : ProgramTables) (g : Graph) (names listed : List ℕ) : Type 0 where
  pub nodes : List ℕ
  pub lists : Lists P g nodes
  pub picked : Picked names nodes listed

-- those of them that are sent back: in version 1 of the messages all, in version 2 those that changed
abbrev pub SentBack : ℕ → Heap → Heap → List ℕ → List ℕ → Type 0
SentBack version before after listed sent = by_version (version == 1)
  where
    by_version : Bool → Type 0
    by_version true = sent ≡ listed
    by_version false = Changed before after listed sent

-- the roots of the reply's stream
abbrev pub roots_of : List ℕ → Option Value → List Value
roots_of sent value = map Ref sent ++ result_root value

-- version 1 has no marks
abbrev pub MarkedIn : ℕ → List ℕ → List ℕ → List (ℕ × ℕ) → Type 0
MarkedIn version names listed marks = by_version (version == 1)
  where
    by_version : Bool → Type 0
    by_version true = marks ≡ []
    by_version false = Marks names listed marks

-- ---- the body

-- the one stream of the picture of what is sent back, and what goes with it
pub record Shipment (P : ProgramTables) (after : Heap) (listed sent : List ℕ) (version : ℕ) (value : Option Value) : Type 0 where
  pub names : List ℕ
  pub graph : Graph
  pub picture : IsPicture P after (roots_of sent value) names graph
  pub stream : List ℕ
  pub spelled : IsCanonical P stream graph
  pub marks : List (ℕ × ℕ)
  pub marked : MarkedIn version names listed marks
  pub word : IsWord (word_of value)

abbrev pub returned_text : ℕ → ℕ → List ℕ → ResultWord → ℕ → List (ℕ × ℕ) → List ℕ → List ℕ
returned_text version number printed word count marks stream =
    if version == 1 then reply_text (record { number = number; body = Returned printed word count stream })
    else marked_text number printed word count marks stream

-- the body of the reply to a call with this number, which printed this
abbrev pub shipped_text : {P : ProgramTables} {after : Heap} {listed sent : List ℕ} {version : ℕ} {value : Option Value}
    → Shipment P after listed sent version value → ℕ → List ℕ → List ℕ
shipped_text {sent = sent} {version = version} {value = value} s number printed =
    returned_text version number printed (word_of value) (length sent) s.marks s.stream
