-- All bytes are whole frames and a rest, so something is said to them.
use Rattle.std.proofs.Common.{◌≡◌, ◌≢◌, ◌⊎◌, ◌+◌, ◌≤◌, ◌++◌, ℕ, zero, suc, nat_le, List, [], ◌∷◌, true, refl, sym, ap, ◌∙◌, arith, inl, inr, append_assoc, length, take, drop, Some, None, Option}
use Rattle.std.specs.Prelude.{All}
use Rattle.std.proofs.lemmas.Grind.{common_steps}
use Rattle.std.proofs.lemmas.List.{take-append-drop, length-drop}
use Rattle.std.proofs.lemmas.List.Elements.{All-cons}
use Rattle.nr_linked.specs.declared.program.tables.ProgramTables.{ProgramTables}
use Rattle.nr_frame.specs.declared.fault.FrameFault.{FrameFault}
use Rattle.nr_frame.specs.declared.kind.Side.TheVariants.{Server}
use Rattle.nr_frame.specs.Headers.{broken_at, frame_len, word_of}
use Rattle.nr_frame.specs.Splits.{IsFrame, texts_of}
use Rattle.nr_frame.proofs.Fronts.{frame_front, picked}
use Rattle.nr_answers.specs.Connections.{ConnectionText, Peer, WholeFrames, at_start, max_frames}
use Rattle.nr_answers.proofs.Saying.{some_are_said}

pub no_frames : All (IsFrame Server) []
no_frames k d lt = absurd (omega arith)

none_some : {A : Type 0} {x : A} → None ≡ Some x → ⊥
none_some e = cc

-- a whole frame has at least five bytes, and no more than there are
len_range : (xs : List ℕ) (n : ℕ) → frame_len xs ≡ Some n → (1 ≤ n) × (n ≤ length xs)
len_range [] n e = absurd (cc)
len_range (a ∷ []) n e = absurd (cc)
len_range (a ∷ b ∷ []) n e = absurd (cc)
len_range (a ∷ b ∷ c ∷ []) n e = absurd (cc)
len_range (a ∷ b ∷ c ∷ d ∷ []) n e = absurd (cc)
len_range (a ∷ b ∷ c ∷ d ∷ k ∷ rest) n e =
    let p = picked (nat_le (word_of a b c d) (length rest)) (word_of a b c d + 5) n e in
    let le : word_of a b c d ≤ length rest = below (word_of a b c d) (length rest) p.0 in
    let is = p.1 in
    (omega arith, omega arith)
  where
    below : (m n : ℕ) → nat_le m n ≡ true → m ≤ n
    below m n e = grind (arith, common_steps)

abbrev Framed : List ℕ → Type 0
Framed bytes = (texts : List (List ℕ)) × WholeFrames bytes texts

ends_here : (bytes : List ℕ) → (broken_at Server bytes ≢ None) ⊎ (frame_len bytes ≡ None) → Framed bytes
ends_here bytes stops = ([], record { rest = bytes; whole = refl; each = no_frames; stops = stops })

frame_more : (bytes : List ℕ) (n : ℕ) → broken_at Server bytes ≡ None → frame_len bytes ≡ Some n → Framed (drop n bytes) → Framed bytes
frame_more bytes n good len more = (
  take n bytes ∷ more.0,
  record {
    rest = more.1.rest;
    whole = sym (take-append-drop n bytes) ∙ ap (λ (xs : List ℕ). take n bytes ++ xs) more.1.whole ∙ sym (append_assoc (take n bytes) (texts_of more.0) more.1.rest);
    each = All-cons (IsFrame Server) (take n bytes) more.0 (frame_front Server bytes n good len) more.1.each;
    stops = more.1.stops;
  },
)

shorter : (m n : ℕ) (bytes : List ℕ) → length bytes ≤ suc m → frame_len bytes ≡ Some n → length (drop n bytes) ≤ m
shorter m n bytes le len = let r = len_range bytes n len in simp length-drop (omega (arith, r.0, r.1))

framed : (m : ℕ) (bytes : List ℕ) → length bytes ≤ m → Framed bytes
framed zero [] le = ends_here [] (inr refl)
framed zero (x ∷ xs) le = absurd (omega arith)
framed (suc m) bytes le = by_header (broken_at Server bytes) refl (frame_len bytes) refl (λ n len. framed m (drop n bytes) (shorter m n bytes le len))
  where
    by_header : (b : Option FrameFault) → broken_at Server bytes ≡ b → (l : Option ℕ) → frame_len bytes ≡ l
        → ((n : ℕ) → frame_len bytes ≡ Some n → Framed (drop n bytes)) → Framed bytes
    by_header (Some f) bad l len again = ends_here bytes (inl (λ good. none_some (sym good ∙ bad)))
    by_header None good None len again = ends_here bytes (inr len)
    by_header None good (Some n) len again = frame_more bytes n good len (again n len)

pub bytes_have_frames : (bytes : List ℕ) → (texts : List (List ℕ)) × WholeFrames bytes texts
bytes_have_frames bytes = framed (length bytes) bytes (omega arith)

pub connections_have_texts : (P : ProgramTables) (s : Peer) (received : List ℕ) → (text : List ℕ) × ConnectionText P s received text
connections_have_texts P s received =
    let frames = bytes_have_frames received in
    let said = some_are_said P s max_frames at_start frames.0 frames.1.each in
    (said.0, record { texts = frames.0; frames = frames.1; holding = said.1; said = said.2 })
