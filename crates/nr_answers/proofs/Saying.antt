-- What is said to frames in turn, and that something is always said.
use Rattle.std.proofs.Common.{◌≡◌, ◌⊎◌, ◌<◌, ◌≤◌, ◌++◌, ℕ, zero, suc, nat_lt, List, [], ◌∷◌, Bool, true, false, refl, ap, ◌∙◌, arith, inl, inr, append_assoc, length, take, Some, None}
use Rattle.std.specs.Prelude.{All, slice_index_or}
use Rattle.std.proofs.lemmas.Grind.{common_steps}
use Rattle.std.proofs.lemmas.List.Elements.{All-head, All-tail}
use Rattle.nr_linked.specs.declared.program.tables.ProgramTables.{ProgramTables}
use Rattle.nr_frame.specs.declared.kind.Side.TheVariants.{Server}
use Rattle.nr_frame.specs.Kinds.{reads_code}
use Rattle.nr_frame.specs.Headers.{FrameOf, broken_at, broken_by, frame_len, frame_of, word_of}
use Rattle.nr_frame.specs.Splits.{IsFrame}
use Rattle.nr_frame.proofs.Fronts.{frame_is}
use Rattle.nr_message.specs.Reading.{hello_of}
use Rattle.nr_answers.specs.Answers.{no_memory_text}
use Rattle.nr_answers.specs.Batches.{Gathered, Timed, gave_up, AllTimed, no_call, one_call, SaidToBatch, reply_frames, in_rounds}
use Rattle.nr_answers.specs.Connections.{Peer, Holding, Says, greeted, gathered, filled, closed, SaysAll, no_frame, one_frame, agreed, hello_frame, max_batch, with_call}

-- what is said to some frames and then to others, is said to all of them
pub said_in_turn : (P : ProgramTables) (s : Peer) {h m h' : Holding} {texts : List (List ℕ)} (more : List (List ℕ)) {said : List ℕ} (then : List ℕ)
    → SaysAll P s h texts said m → SaysAll P s m more then h' → SaysAll P s h (texts ++ more) (said ++ then) h'
said_in_turn P s more then no_frame next = next
said_in_turn P s more then (one_frame {front = front} {back = back} is says all whole) next =
    one_frame is says (said_in_turn P s more then all next) (ap (λ (xs : List ℕ). xs ++ then) whole ∙ append_assoc front back then)

-- ---- something is always said

given_up : (P : ProgramTables) (service : ℕ) (cs : List Gathered) → (ts : List Timed) × AllTimed P service cs ts
given_up P service [] = ([], no_call)
given_up P service (c ∷ cs) =
    let more = given_up P service cs in
    ((record { round = 1; text = no_memory_text c.body }) ∷ more.0, one_call (gave_up 0 (inl refl) refl refl) more.1)

pub batch_said : (P : ProgramTables) (service : ℕ) (cs : List Gathered) → (text : List ℕ) × SaidToBatch P service cs text
batch_said P service cs = let up = given_up P service cs in (reply_frames (in_rounds up.0), record { answers = up.0; timed = up.1; said = refl })

good_code : (w k : ℕ) → broken_by Server w k ≡ None → reads_code Server k ≡ true
good_code w k good = grind (arith, common_steps)

read_range : (k : ℕ) → reads_code Server k ≡ true → (1 ≤ k) × (k ≤ 3)
read_range k e = (grind (arith, common_steps), grind (arith, common_steps))

of_three : (k : ℕ) → 1 ≤ k → k ≤ 3 → (k ≡ 1) ⊎ ((k ≡ 2) ⊎ (k ≡ 3))
of_three zero low high = absurd (omega arith)
of_three (suc zero) low high = inl refl
of_three (suc (suc zero)) low high = inr (inl refl)
of_three (suc (suc (suc zero))) low high = inr (inr refl)
of_three (suc (suc (suc (suc k)))) low high = absurd (omega arith)

server_code : (w k : ℕ) → broken_by Server w k ≡ None → (k ≡ 1) ⊎ ((k ≡ 2) ⊎ (k ≡ 3))
server_code w k good = let range = read_range k (good_code w k good) in of_three k range.0 range.1

-- a frame that a server reads is a hello, a call or a go
pub kind_of : (t : List ℕ) → IsFrame Server t → (f : FrameOf) × (frame_of t ≡ Some f) × ((f.kind ≡ 1) ⊎ ((f.kind ≡ 2) ⊎ (f.kind ≡ 3)))
kind_of t is = (_, frame_is t (length t) is.whole, by_bytes t is.good is.whole)
  where
    by_bytes : (t : List ℕ) → broken_at Server t ≡ None → frame_len t ≡ Some (length t)
        → (slice_index_or t 4 0 ≡ 1) ⊎ ((slice_index_or t 4 0 ≡ 2) ⊎ (slice_index_or t 4 0 ≡ 3))
    by_bytes [] good len = absurd (cc)
    by_bytes (a ∷ []) good len = absurd (cc)
    by_bytes (a ∷ b ∷ []) good len = absurd (cc)
    by_bytes (a ∷ b ∷ c ∷ []) good len = absurd (cc)
    by_bytes (a ∷ b ∷ c ∷ d ∷ []) good len = absurd (cc)
    by_bytes (a ∷ b ∷ c ∷ d ∷ k ∷ rest) good len = server_code (word_of a b c d) k good

pub lt_or_le : (m n : ℕ) → (m < n) ⊎ (n ≤ m)
lt_or_le m n = by_test (nat_lt m n) refl
  where
    by_test : (b : Bool) → nat_lt m n ≡ b → (m < n) ⊎ (n ≤ m)
    by_test true is = inl (grind (arith, common_steps))
    by_test false is = inr (grind (arith, common_steps))

abbrev Said : ProgramTables → Peer → Holding → FrameOf → Type 0
Said P s h f = (text : List ℕ) × (h' : Holding) × Says P s h f text h'

call_said : (P : ProgramTables) (s : Peer) (h : Holding) (f : FrameOf) → f.kind ≡ 2 → (suc (length h.gathered) < max_batch) ⊎ (max_batch ≤ suc (length h.gathered)) → Said P s h f
call_said P s h f call (inl few) = ([], record h { gathered = with_call h f }, gathered call few refl refl)
call_said P s h f call (inr full) =
    let all = batch_said P s.service (with_call h f) in
    (all.0, record h { gathered = [] }, filled call full all.1 refl)

one_said : (P : ProgramTables) (s : Peer) (h : Holding) (f : FrameOf) → (f.kind ≡ 1) ⊎ ((f.kind ≡ 2) ⊎ (f.kind ≡ 3)) → Said P s h f
one_said P s h f (inl hello) =
    (hello_frame P s (agreed s.top (hello_of f.body)), record h { version = agreed s.top (hello_of f.body) }, greeted hello refl refl)
one_said P s h f (inr (inl call)) = call_said P s h f call (lt_or_le (suc (length h.gathered)) max_batch)
one_said P s h f (inr (inr go)) =
    let all = batch_said P s.service h.gathered in
    (all.0, record h { gathered = [] }, closed go all.1 refl)

abbrev pub SomethingSaid : ProgramTables → Peer → Holding → List (List ℕ) → Type 0
SomethingSaid P s h texts = (text : List ℕ) × (h' : Holding) × SaysAll P s h texts text h'

pub something_is_said : (P : ProgramTables) (s : Peer) (h : Holding) (texts : List (List ℕ)) → All (IsFrame Server) texts → SomethingSaid P s h texts
something_is_said P s h [] each = ([], h, no_frame)
something_is_said P s h (t ∷ ts) each =
    let kind = kind_of t (All-head (IsFrame Server) t ts each) in
    let one = one_said P s h kind.0 kind.2 in
    let more = something_is_said P s one.1 ts (All-tail (IsFrame Server) t ts each) in
    (one.0 ++ more.0, more.1, one_frame kind.1 one.2 more.2 refl)

-- the same of the first of them
pub some_are_said : (P : ProgramTables) (s : Peer) (n : ℕ) (h : Holding) (texts : List (List ℕ)) → All (IsFrame Server) texts → SomethingSaid P s h (take n texts)
some_are_said P s zero h texts each = ([], h, no_frame)
some_are_said P s (suc n) h [] each = ([], h, no_frame)
some_are_said P s (suc n) h (t ∷ ts) each =
    let kind = kind_of t (All-head (IsFrame Server) t ts each) in
    let one = one_said P s h kind.0 kind.2 in
    let more = some_are_said P s n one.1 ts (All-tail (IsFrame Server) t ts each) in
    (one.0 ++ more.0, more.1, one_frame kind.1 one.2 more.2 refl)
