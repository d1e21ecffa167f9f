-- A responder whose due jobs keep the pace can always say something.
use Rattle.std.proofs.Common.{◌≡◌, ◌⊎◌, ◌*◌, ◌-◌, ◌≤◌, ◌++◌, ℕ, zero, suc, List, [], ◌∷◌, refl, sym, subst, arith, inl, inr, Some, None}
use Rattle.std.specs.Prelude.{All}
use Rattle.std.specs.List.{AllByRecursion}
use Rattle.nr_linked.specs.declared.program.tables.ProgramTables.{ProgramTables}
use Rattle.nr_frame.specs.declared.fault.FrameFault.{FrameFault}
use Rattle.nr_frame.specs.declared.kind.Side.TheVariants.{Server}
use Rattle.nr_frame.specs.Splits.{IsFrame, texts_of}
use Rattle.nr_answers.specs.Answers.{no_memory_text}
use Rattle.nr_answers.specs.Batches.{Timed, gave_up, turn_steps}
use Rattle.nr_answers.specs.Connections.{max_frames}
use Rattle.nr_answers.specs.Hosts.{Gives, Held}
use Rattle.nr_answers.specs.Progress.{HasMore}
use Rattle.nr_answers.specs.Responders.{AllDue, ArePaced, CanSay, DueIn, FramesToCome, IsPaced, MaySay, Responding, done_now, none_due, one_due, ready, runs_yet, waits}
use Rattle.nr_answers.proofs.Frames.{bytes_have_frames}
use Rattle.nr_answers.proofs.Rounds.{given_at_once, given_in_time}
use Rattle.nr_answers.proofs.Saying.{some_are_said}

given_now : (P : ProgramTables) (service rounds : ℕ) (h : Held) (text : List ℕ) → 1 ≤ rounds → Gives P service h text
    → (h.turns ≡ rounds) ⊎ ((h.turns ≡ 0) × (rounds ≡ 1)) → (t : Timed) × DueIn P service rounds h t
given_now P service zero h text some gives turns = absurd (omega arith)
given_now P service (suc n) h text some gives (inl now) =
    (record { round = suc n; text = text }, ready (text, gives) (given_in_time P service n h text now gives) refl)
given_now P service (suc n) h text some gives (inr (none, one)) =
    (record { round = 1; text = text }, ready (text, gives) (given_at_once P service h text none gives) (sym one))

due_answer : (P : ProgramTables) (service rounds : ℕ) (h : Held) → IsPaced P service rounds h → (t : Timed) × DueIn P service rounds h t
due_answer P service rounds h (done_now some done turns) = given_now P service rounds h done.0 some done.1 turns
due_answer P service rounds h (runs_yet runs turns) =
    let more : HasMore P service h.body (turn_steps * rounds) = subst (λ (k : ℕ). HasMore P service h.body (turn_steps * k)) turns runs.more in
    (record { round = suc rounds; text = no_memory_text h.body }, waits runs (gave_up rounds (inr more) refl refl) (omega arith))

due_answers : (P : ProgramTables) (service rounds : ℕ) (hs : List Held) → AllByRecursion (IsPaced P service rounds) hs
    → (ts : List Timed) × AllDue P service rounds hs ts
due_answers P service rounds [] paced = ([], none_due)
due_answers P service rounds (h ∷ hs) paced =
    let one = due_answer P service rounds h paced.0 in
    let more = due_answers P service rounds hs paced.1 in
    (one.0 ∷ more.0, one_due one.1 more.1)

says_some : (r : Responding) (more : List ℕ) (texts : List (List ℕ)) → ArePaced r → FramesToCome r.fault r.unread more texts → All (IsFrame Server) texts
    → (text : List ℕ) × MaySay r more text
says_some r more texts paced frames each =
    let due = due_answers r.program r.peer.service r.rounds r.due paced in
    let said = some_are_said r.program r.peer (max_frames - r.frames) r.holding texts each in
    (_, record { answers = due.0; due = due.1; texts = texts; frames = frames; back = said.0; after = said.1; said = said.2; whole = refl })

pub paced_can_say : (r : Responding) → ArePaced r → r.fault ≡ None → CanSay r
paced_can_say r paced none more =
    let all = bytes_have_frames (r.unread ++ more) in
    says_some r more all.0 paced (subst (λ o. FramesToCome o r.unread more all.0) (sym none) all.1) all.1.each

pub cut_can_say : (r : Responding) (f : FrameFault) (texts : List (List ℕ)) → ArePaced r → r.fault ≡ Some f → All (IsFrame Server) texts
    → texts_of texts ≡ r.unread → CanSay r
cut_can_say r f texts paced cut each is more =
    says_some r more texts paced (subst (λ o. FramesToCome o r.unread more texts) (sym cut) (each, is)) each
