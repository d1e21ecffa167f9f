-- What a server says to a whole batch: a reply for each call.
use Rattle.std.proofs.Common.{◌≡◌, ◌+◌, ◌<◌, ◌≤◌, ◌++◌, ℕ, suc, List, [], ◌∷◌, true, refl, sym, ap, ◌∙◌, subst, arith, append_assoc, length, take, map, Some, None, cond, nat_le}
use Rattle.std.specs.Int.{w32, from_be_bytes, to_be_bytes}
use Rattle.std.proofs.lemmas.Nat.{from_be_bytes-to_be_bytes_4}
use Rattle.std.proofs.lemmas.List.{take_all}
use Rattle.std.proofs.lemmas.Grind.{common_steps}
use Rattle.std.specs.List.{AllByRecursion}
use Rattle.nr_linked.specs.declared.program.tables.ProgramTables.{ProgramTables}
use Rattle.nr_frame.specs.declared.kind.FrameKind.{FrameKind}
use Rattle.nr_frame.specs.declared.kind.FrameKind.TheVariants as frame_kinds
use Rattle.nr_frame.specs.Kinds.{code_of}
use Rattle.nr_frame.specs.Headers.{FrameOf, frame_of}
use Rattle.nr_frame.proofs.Fronts.{true_le}
use Rattle.nr_answers.specs.Answers.{max_body}
use Rattle.nr_answers.specs.Batches.{Gathered, Timed, AllTimed, no_call, SaidToBatch, reply_frames, in_rounds, frame_text}
use Rattle.nr_answers.specs.Connections.{Peer, Holding, Says, greeted, gathered, filled, closed, SaysAll, no_frame, one_frame, max_batch}
use Rattle.nr_answers.specs.Talks.{IsShort, batch_frames}

-- a frame's bytes are read as the frame
picked_frame : (k w : ℕ) (body : List ℕ) → w ≡ length body
    → cond (nat_le w (length body)) (Some (let f : FrameOf = record { kind = k; body = take w body } in f)) None ≡ Some (record { kind = k; body = body })
picked_frame k w body is =
    let all : take w body ≡ body = take_all w body (omega arith) in
    let fits : nat_le w (length body) ≡ true = true_le w (length body) (omega arith) in
    rw fits (ap (λ (ys : List ℕ). Some (let f : FrameOf = record { kind = k; body = ys } in f)) all)

pub frame_of_text : (kind : FrameKind) (body : List ℕ) → length body ≤ max_body
    → frame_of (frame_text kind body) ≡ Some (record { kind = code_of kind; body = body })
frame_of_text kind body short =
    picked_frame (code_of kind) (from_be_bytes w32 (to_be_bytes w32 (length body))) body (from_be_bytes-to_be_bytes_4 (length body) (omega arith))

-- ---- one batch

abbrev gathered_in : ℕ → List ℕ → Gathered
gathered_in version body = record { version = version; body = body }

same_frame : (kind : FrameKind) (body : List ℕ) (f : FrameOf) → length body ≤ max_body → frame_of (frame_text kind body) ≡ Some f
    → (f.kind ≡ code_of kind) × (f.body ≡ body)
same_frame kind body f short is =
    let same : Some (let g : FrameOf = record { kind = code_of kind; body = body } in g) ≡ Some f = sym (frame_of_text kind body short) ∙ is in
    (cc, cc)

pub nil_behind : {A : Type 0} (xs : List A) → xs ++ [] ≡ xs
nil_behind xs = grind (arith, common_steps)

-- what is said to a batch with these calls, and what is held then
abbrev pub Closes : ProgramTables → Peer → Holding → List Gathered → List ℕ → Holding → Type 0
Closes P s h cs text h' = SaidToBatch P s.service cs text × (h' ≡ record { version = h.version; gathered = [] })

go_step : (P : ProgramTables) (s : Peer) (h mid : Holding) (f : FrameOf) (front : List ℕ) → f.kind ≡ 3 → Says P s h f front mid → Closes P s h h.gathered front mid
go_step P s h mid f front go (closed kind said is) = (said, is)
go_step P s h mid f front go (greeted kind is said) = absurd (omega arith)
go_step P s h mid f front go (gathered kind few is said) = absurd (omega arith)
go_step P s h mid f front go (filled kind full said is) = absurd (omega arith)

-- a go with these calls gathered
go_said : (P : ProgramTables) (s : Peer) (h h' : Holding) (text : List ℕ) → SaysAll P s h (frame_text frame_kinds.Go [] ∷ []) text h'
    → Closes P s h h.gathered text h'
go_said P s h h' text (one_frame {front = front} {f = f} is says no_frame whole) =
    let step = go_step P s h h' f front (same_frame frame_kinds.Go [] f (omega arith) is).0 says in
    (subst (λ (t : List ℕ). SaidToBatch P s.service h.gathered t) (sym (whole ∙ nil_behind front)) step.0, step.1)

no_answers : {P : ProgramTables} {service : ℕ} {ts : List Timed} → AllTimed P service [] ts → ts ≡ []
no_answers no_call = refl

pub nothing_said : (P : ProgramTables) (service : ℕ) (text : List ℕ) → SaidToBatch P service [] text → text ≡ []
nothing_said P service text said = said.said ∙ ap (λ (ts : List Timed). reply_frames (in_rounds ts)) (no_answers said.timed)

-- a call's frame leads so
data CallStep (P : ProgramTables) (s : Peer) (h : Holding) (body front : List ℕ) (mid : Holding) : Type 0 where
  keeps : suc (length h.gathered) < max_batch → front ≡ []
      → mid ≡ record { version = h.version; gathered = h.gathered ++ gathered_in h.version body ∷ [] } → CallStep P s h body front mid
  fills : max_batch ≤ suc (length h.gathered) → Closes P s h (h.gathered ++ gathered_in h.version body ∷ []) front mid → CallStep P s h body front mid

call_step : (P : ProgramTables) (s : Peer) (h mid : Holding) (f : FrameOf) (body front : List ℕ) → f.kind ≡ 2 → f.body ≡ body → Says P s h f front mid
    → CallStep P s h body front mid
call_step P s h mid f body front call is (closed kind said now) = absurd (omega arith)
call_step P s h mid f body front call is (greeted kind now said) = absurd (omega arith)
call_step P s h mid f body front call is (gathered kind few now said) =
    keeps few said (now ∙ ap (λ (b : List ℕ). let k : Holding = record { version = h.version; gathered = h.gathered ++ gathered_in h.version b ∷ [] } in k) is)
call_step P s h mid f body front call is (filled kind full said now) =
    fills full (subst (λ (b : List ℕ). SaidToBatch P s.service (h.gathered ++ gathered_in h.version b ∷ []) front) is said, now)

count_more : (gs : List Gathered) (c : Gathered) → length (gs ++ c ∷ []) ≡ suc (length gs)
count_more gs c = grind (arith, common_steps)

none_left : (bs : List (List ℕ)) (n : ℕ) → n + suc (length bs) ≤ max_batch → max_batch ≤ suc n → bs ≡ []
none_left [] n few last = refl
none_left (x ∷ xs) n few last = absurd (omega arith)

one_more : (P : ProgramTables) (s : Peer) (b : List ℕ) (bs : List (List ℕ)) (h mid h' : Holding) (front back text : List ℕ)
    → length h.gathered + suc (length bs) ≤ max_batch → text ≡ front ++ back → CallStep P s h b front mid → SaysAll P s mid (batch_frames bs) back h'
    → ((m : Holding) → length m.gathered + length bs ≤ max_batch → length m.gathered < max_batch → SaysAll P s m (batch_frames bs) back h'
    → Closes P s m (m.gathered ++ map (gathered_in m.version) bs) back h')
    → Closes P s h (h.gathered ++ map (gathered_in h.version) (b ∷ bs)) text h'
one_more P s b bs h mid h' front back text few whole (keeps more none now) rest again =
    let m : Holding = record { version = h.version; gathered = h.gathered ++ gathered_in h.version b ∷ [] } in
    let count : length (h.gathered ++ gathered_in h.version b ∷ []) ≡ suc (length h.gathered) = count_more h.gathered (gathered_in h.version b) in
    let all = again m (omega arith) (omega arith) (subst (λ (k : Holding). SaysAll P s k (batch_frames bs) back h') now rest) in
    let same : text ≡ back = whole ∙ ap (λ (xs : List ℕ). xs ++ back) none in
    let said : SaidToBatch P s.service ((h.gathered ++ gathered_in h.version b ∷ []) ++ map (gathered_in h.version) bs) text =
    subst (λ (t : List ℕ). SaidToBatch P s.service ((h.gathered ++ gathered_in h.version b ∷ []) ++ map (gathered_in h.version) bs) t) (sym same) all.0 in
    (subst (λ (cs : List Gathered). SaidToBatch P s.service cs text) (append_assoc h.gathered (gathered_in h.version b ∷ []) (map (gathered_in h.version) bs)) said, all.1)
one_more P s b bs h mid h' front back text few whole (fills last closes) rest again =
    let nil : bs ≡ [] = none_left bs (length h.gathered) few last in
    let go = go_said P s mid h' back (subst (λ (xs : List (List ℕ)). SaysAll P s mid (batch_frames xs) back h') nil rest) in
    let empty : mid.gathered ≡ [] = ap (λ (k : Holding). k.gathered) closes.1 in
    let none : back ≡ [] = nothing_said P s.service back (subst (λ (cs : List Gathered). SaidToBatch P s.service cs back) empty go.0) in
    let same : text ≡ front = whole ∙ ap (λ (xs : List ℕ). front ++ xs) none ∙ nil_behind front in
    let said : SaidToBatch P s.service (h.gathered ++ gathered_in h.version b ∷ []) text =
    subst (λ (t : List ℕ). SaidToBatch P s.service (h.gathered ++ gathered_in h.version b ∷ []) t) (sym same) closes.0 in
    let version : mid.version ≡ h.version = ap (λ (k : Holding). k.version) closes.1 in (
      subst (λ (xs : List (List ℕ)). SaidToBatch P s.service (h.gathered ++ map (gathered_in h.version) (b ∷ xs)) text) (sym nil) said,
      go.1 ∙ ap (λ (v : ℕ). let k : Holding = record { version = v; gathered = [] } in k) version,
    )

-- the calls of a whole batch, of which some are gathered already, and its go
pub calls_said : (P : ProgramTables) (s : Peer) (bodies : List (List ℕ)) (h h' : Holding) (text : List ℕ) → AllByRecursion IsShort bodies
    → length h.gathered + length bodies ≤ max_batch → length h.gathered < max_batch
    → SaysAll P s h (batch_frames bodies) text h' → Closes P s h (h.gathered ++ map (gathered_in h.version) bodies) text h'
calls_said P s [] h h' text short few one says =
    let all = go_said P s h h' text says in
    (subst (λ (cs : List Gathered). SaidToBatch P s.service cs text) (sym (nil_behind h.gathered)) all.0, all.1)
calls_said P s (b ∷ bs) h h' text short few one (one_frame {mid = mid} {front = front} {back = back} {f = f} is says rest whole) =
    let same = same_frame frame_kinds.Call b f short.0 is in
    one_more P s b bs h mid h' front back text few whole (call_step P s h mid f b front same.0 same.1 says) rest
    (λ m room below said. calls_said P s bs m h' back short.1 room below said)
