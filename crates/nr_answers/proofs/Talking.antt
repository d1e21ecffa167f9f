-- A client that sends a hello and whole batches is told a hello and a reply for each call.
use Rattle.std.proofs.Common.{◌≡◌, ◌≢◌, ◌⊎◌, ◌+◌, ◌≤◌, ◌++◌, ℕ, suc, List, [], ◌∷◌, true, refl, sym, ap, ◌∙◌, subst, arith, inl, inr, append_assoc, length, take, map, Some, None, cond, nat_le}
use Rattle.std.specs.Prelude.{All}
use Rattle.std.specs.Int.{w32, from_be_bytes, to_be_bytes}
use Rattle.std.specs.List.{AllByRecursion, flat_map}
use Rattle.std.proofs.lemmas.Nat.{from_be_bytes-to_be_bytes_4}
use Rattle.std.proofs.lemmas.List.{take_all, length-append}
use Rattle.std.proofs.lemmas.List.Elements.{All-append, All-cons}
use Rattle.nr_linked.specs.declared.program.tables.ProgramTables.{ProgramTables}
use Rattle.nr_linked.specs.Facts.{ProgramFacts}
use Rattle.nr_frame.specs.declared.kind.FrameKind.{FrameKind}
use Rattle.nr_frame.specs.declared.kind.FrameKind.TheVariants as frame_kinds
use Rattle.nr_frame.specs.declared.kind.Side.{Side}
use Rattle.nr_frame.specs.declared.kind.Side.TheVariants.{Server}
use Rattle.nr_frame.specs.Kinds.{code_of, reads_code}
use Rattle.nr_frame.specs.Headers.{FrameOf, broken_at, broken_by, frame_len}
use Rattle.nr_frame.specs.Splits.{IsFrame, texts_of}
use Rattle.nr_frame.proofs.Fronts.{true_le}
use Rattle.nr_frame.proofs.Unique.{Stops, stops_partial, unique}
use Rattle.nr_answers.specs.Answers.{max_body}
use Rattle.nr_answers.specs.Batches.{Gathered, frame_text}
use Rattle.nr_answers.specs.Connections.{Peer, Holding, Says, greeted, gathered, filled, closed, SaysAll, no_frame, one_frame, WholeFrames, ConnectionText, at_start, hello_frame, max_frames}
use Rattle.nr_answers.specs.Talks.{AreReplies, IsBatch, IsShort, IsTalk, all_frames, batch_frames, call_count, talk_frames}
use Rattle.nr_answers.proofs.Conversation.{frame_of_text, calls_said, nil_behind}
use Rattle.nr_answers.proofs.Frames.{no_frames}
use Rattle.nr_answers.proofs.Replied.{batch_replied}

-- ---- texts of frames are frames

len_picked : (w : ℕ) (body : List ℕ) → w ≡ length body → cond (nat_le w (length body)) (Some (w + 5)) None ≡ Some (suc (suc (suc (suc (suc (length body))))))
len_picked w body is =
    let fits : nat_le w (length body) ≡ true = true_le w (length body) (omega arith) in
    let sum : w + 5 ≡ suc (suc (suc (suc (suc (length body))))) = omega arith in
    rw fits (ap (λ (n : ℕ). Some n) sum)

good_picked : (side : Side) (w code : ℕ) → w ≤ max_body → reads_code side code ≡ true → broken_by side w code ≡ None
good_picked side w code short reads =
    let fits : nat_le w 4194304 ≡ true = true_le w 4194304 short in
    rw fits (rw reads refl)

word_is : (body : List ℕ) → IsShort body → from_be_bytes w32 (to_be_bytes w32 (length body)) ≡ length body
word_is body short = from_be_bytes-to_be_bytes_4 (length body) (omega arith)

pub text_is_frame : (side : Side) (kind : FrameKind) (body : List ℕ) → IsShort body → reads_code side (code_of kind) ≡ true → IsFrame side (frame_text kind body)
text_is_frame side kind body short reads = record {
  good = good_picked side (from_be_bytes w32 (to_be_bytes w32 (length body))) (code_of kind) (subst (λ (w : ℕ). w ≤ max_body) (sym (word_is body short)) short) reads;
  whole = len_picked (from_be_bytes w32 (to_be_bytes w32 (length body))) body (word_is body short);
}

-- ---- said to a front, and then to the rest

pub record Apart (P : ProgramTables) (s : Peer) (h : Holding) (texts more : List (List ℕ)) (text : List ℕ) (h' : Holding) : Type 0 where
  pub mid : Holding
  pub front : List ℕ
  pub back : List ℕ
  pub first : SaysAll P s h texts front mid
  pub second : SaysAll P s mid more back h'
  pub whole : text ≡ front ++ back

pub said_apart : (P : ProgramTables) (s : Peer) (h h' : Holding) (texts more : List (List ℕ)) (text : List ℕ) → SaysAll P s h (texts ++ more) text h'
    → Apart P s h texts more text h'
said_apart P s h h' [] more text says = record { mid = h; front = []; back = text; first = no_frame; second = says; whole = refl }
said_apart P s h h' (t ∷ ts) more text (one_frame {mid = mid} {front = front} {back = back} is says rest whole) =
    let a = said_apart P s mid h' ts more back rest in
    record {
      mid = a.mid;
      front = front ++ a.front;
      back = a.back;
      first = one_frame is says a.first refl;
      second = a.second;
      whole = whole ∙ ap (λ (xs : List ℕ). front ++ xs) a.whole ∙ sym (append_assoc front a.front a.back);
    }

-- ---- batches

all_both : (xs ys : List (List ℕ)) → AllByRecursion IsShort xs → AllByRecursion IsShort ys → AllByRecursion IsShort (xs ++ ys)
all_both [] ys all more = more
all_both (x ∷ xs) ys all more = (all.0, all_both xs ys all.1 more)

frames_both : (xs ys : List (List ℕ)) → flat_map (frame_text frame_kinds.Reply) (xs ++ ys)
    ≡ flat_map (frame_text frame_kinds.Reply) xs ++ flat_map (frame_text frame_kinds.Reply) ys
frames_both [] ys = refl
frames_both (x ∷ xs) ys = ap (λ (t : List ℕ). frame_text frame_kinds.Reply x ++ t) (frames_both xs ys)
    ∙ sym (append_assoc (frame_text frame_kinds.Reply x) (flat_map (frame_text frame_kinds.Reply) xs) (flat_map (frame_text frame_kinds.Reply) ys))

replies_both : (m n : ℕ) (a b text : List ℕ) → text ≡ a ++ b → AreReplies m a → AreReplies n b → AreReplies (m + n) text
replies_both m n a b text is one two =
    let c : length (one.bodies ++ two.bodies) ≡ length one.bodies + length two.bodies = simp length-append refl in
    let d = one.many in
    let e = two.many in
    record {
      bodies = one.bodies ++ two.bodies;
      many = c ∙ (omega arith);
      short = all_both one.bodies two.bodies one.short two.short;
      whole = is ∙ ap (λ (xs : List ℕ). xs ++ b) one.whole ∙ ap (λ (xs : List ℕ). flat_map (frame_text frame_kinds.Reply) one.bodies ++ xs) two.whole
          ∙ sym (frames_both one.bodies two.bodies);
    }

gathered_count : (version : ℕ) (bodies : List (List ℕ)) → length (map (λ body. let g : Gathered = record { version = version; body = body } in g) bodies) ≡ length bodies
gathered_count version [] = refl
gathered_count version (b ∷ bs) = ap (λ (n : ℕ). suc n) (gathered_count version bs)

batches_replied : (P : ProgramTables) → ProgramFacts P → (s : Peer) (batches : List (List (List ℕ))) (h h' : Holding) (text : List ℕ) → AllByRecursion IsBatch batches
    → h.gathered ≡ [] → SaysAll P s h (all_frames batches) text h' → AreReplies (call_count batches) text
batches_replied P facts s [] h h' text each empty no_frame = record { bodies = []; many = refl; short = tt; whole = refl }
batches_replied P facts s (b ∷ bs) h h' text each empty says =
    let a = said_apart P s h h' (batch_frames b) (all_frames bs) text says in
    let none : length h.gathered ≡ 0 = ap (λ (gs : List Gathered). length gs) empty in
    let few = each.0.few in
    let said = calls_said P s b h a.mid a.front each.0.short (omega arith) (omega arith) a.first in
    let cs : List Gathered = map (λ body. let g : Gathered = record { version = h.version; body = body } in g) b in
    let one : AreReplies (length (h.gathered ++ cs)) a.front = batch_replied P facts s.service (h.gathered ++ cs) a.front said.0 in
    let count : length (h.gathered ++ cs) ≡ length b = ap (λ (gs : List Gathered). length (gs ++ cs)) empty ∙ gathered_count h.version b in
    let first : AreReplies (length b) a.front = subst (λ (n : ℕ). AreReplies n a.front) count one in
    let closed : a.mid.gathered ≡ [] = ap (λ (k : Holding). k.gathered) said.1 in
    replies_both (length b) (call_count bs) a.front a.back text a.whole first (batches_replied P facts s bs a.mid h' a.back each.1 closed a.second)

-- ---- a connection

each_call : (bodies : List (List ℕ)) → AllByRecursion IsShort bodies → All (IsFrame Server) (map (frame_text frame_kinds.Call) bodies)
each_call [] short = no_frames
each_call (b ∷ bs) short = All-cons (IsFrame Server) (frame_text frame_kinds.Call b) (map (frame_text frame_kinds.Call) bs) (text_is_frame Server frame_kinds.Call b short.0 refl) (each_call bs short.1)

all_texts : (batches : List (List (List ℕ))) → AllByRecursion IsBatch batches → All (IsFrame Server) (all_frames batches)
all_texts [] each = no_frames
all_texts (b ∷ bs) each =
    All-append (IsFrame Server) (batch_frames b) (all_frames bs)
    (All-append (IsFrame Server) (map (frame_text frame_kinds.Call) b) (frame_text frame_kinds.Go [] ∷ []) (each_call b each.0.short)
    (All-cons (IsFrame Server) (frame_text frame_kinds.Go []) [] (text_is_frame Server frame_kinds.Go [] (omega arith) refl) no_frames))
    (all_texts bs each.1)

hello_said : (P : ProgramTables) (s : Peer) (h mid : Holding) (f : FrameOf) (hello front : List ℕ) → f.kind ≡ 1 → Says P s h f front mid
    → (front ≡ hello_frame P s mid.version) × (mid.gathered ≡ h.gathered)
hello_said P s h mid f hello front kind (greeted is now said) = (said, ap (λ (k : Holding). k.gathered) now)
hello_said P s h mid f hello front kind (gathered is few now said) = absurd (omega arith)
hello_said P s h mid f hello front kind (filled is full said now) = absurd (omega arith)
hello_said P s h mid f hello front kind (closed is said now) = absurd (omega arith)

talk_said : (P : ProgramTables) → ProgramFacts P → (s : Peer) (hello : List ℕ) (batches : List (List (List ℕ))) (h' : Holding) (text : List ℕ) → IsShort hello
    → AllByRecursion IsBatch batches → SaysAll P s at_start (talk_frames hello batches) text h' → IsTalk P s (call_count batches) text
talk_said P facts s hello batches h' text short each (one_frame {mid = mid} {front = front} {back = back} {f = f} is says rest whole) =
    let same : Some (let g : FrameOf = record { kind = 1; body = hello } in g) ≡ Some f = sym (frame_of_text frame_kinds.Hello hello short) ∙ is in
    let kind : f.kind ≡ 1 = cc in
    let greeting = hello_said P s at_start mid f hello front kind says in
    record {
      version = mid.version;
      rest = back;
      replies = batches_replied P facts s batches mid h' back each greeting.1 rest;
      whole = whole ∙ ap (λ (xs : List ℕ). xs ++ back) greeting.0;
    }

pub stops_of : (texts : List (List ℕ)) (bytes : List ℕ) (w : WholeFrames bytes texts) → Stops Server w.rest
stops_of texts bytes w = record { never = λ n good len. by_case w.stops n good len }
  where
    by_case : (broken_at Server w.rest ≢ None) ⊎ (frame_len w.rest ≡ None) → (n : ℕ) → broken_at Server w.rest ≡ None → frame_len w.rest ≡ Some n → ⊥
    by_case (inl bad) n good len = bad good
    by_case (inr none) n good len = cc

-- what a server says to the frames of a talk, of which it answers all
pub talked : (P : ProgramTables) → ProgramFacts P → (s : Peer) (hello : List ℕ) (batches : List (List (List ℕ))) (sent text : List ℕ) → IsShort hello
    → AllByRecursion IsBatch batches → length (talk_frames hello batches) ≤ max_frames → sent ≡ texts_of (talk_frames hello batches)
    → ConnectionText P s sent text → IsTalk P s (call_count batches) text
talked P facts s hello batches sent text short each few is conn =
    let ours : All (IsFrame Server) (talk_frames hello batches) =
    All-cons (IsFrame Server) (frame_text frame_kinds.Hello hello) (all_frames batches) (text_is_frame Server frame_kinds.Hello hello short refl) (all_texts batches each) in
    let e : texts_of conn.texts ++ conn.frames.rest ≡ texts_of (talk_frames hello batches) ++ [] = sym conn.frames.whole ∙ is ∙ sym (nil_behind (texts_of (talk_frames hello batches))) in
    let one = unique Server conn.texts (talk_frames hello batches) conn.frames.rest [] conn.frames.each ours (stops_of conn.texts sent conn.frames) (stops_partial Server [] refl) e in
    let all : take max_frames conn.texts ≡ talk_frames hello batches =
    ap (λ (ts : List (List ℕ)). take max_frames ts) one.texts_are ∙ take_all max_frames (talk_frames hello batches) few in
    talk_said P facts s hello batches conn.holding text short each (subst (λ (ts : List (List ℕ)). SaysAll P s at_start ts text conn.holding) all conn.said)
