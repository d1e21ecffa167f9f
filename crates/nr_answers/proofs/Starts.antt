-- Where a connection begins.
use Rattle.std.proofs.Common.{◌≡◌, ◌++◌, ℕ, List, [], refl, sym, ap, ◌∙◌, subst, take}
use Rattle.nr_linked.specs.declared.program.tables.ProgramTables.{ProgramTables}
use Rattle.nr_answers.specs.Batches.{Timed, reply_frames, in_rounds}
use Rattle.nr_answers.specs.Connections.{Peer, SaysAll, at_start, max_frames}
use Rattle.nr_answers.specs.Responders.{AllDue, CanSay, none_due, Stands, start_of}
use Rattle.nr_answers.proofs.Frames.{connections_have_texts}

pub no_answer : {P : ProgramTables} {service rounds : ℕ} {ts : List Timed} → AllDue P service rounds [] ts → ts ≡ []
no_answer none_due = refl

pub stands_at_start : (P : ProgramTables) (s : Peer) → Stands P s (start_of P s) [] []
stands_at_start P s more text may =
    let front : reply_frames (in_rounds may.answers) ≡ [] = ap (λ (ts : List Timed). reply_frames (in_rounds ts)) (no_answer may.due) in
    let same : text ≡ may.back = may.whole ∙ ap (λ (xs : List ℕ). xs ++ may.back) front in
    record {
      texts = may.texts;
      frames = may.frames;
      holding = may.after;
      said = subst (λ (t : List ℕ). SaysAll P s at_start (take max_frames may.texts) t may.after) (sym same) may.said;
    }

pub can_at_start : (P : ProgramTables) (s : Peer) → CanSay (start_of P s)
can_at_start P s more =
    let all = connections_have_texts P s more in
    (all.0, record { answers = []; due = none_due; texts = all.1.texts; frames = all.1.frames; back = all.0; after = all.1.holding; said = all.1.said; whole = refl })
