-- A batch is answered by one short reply for each call.
use Rattle.std.proofs.Common.{◌≡◌, ◌<◌, ◌^◌, ◌++◌, ℕ, suc, List, [], ◌∷◌, Bool, true, false, refl, sym, ap, ◌∙◌, subst, arith, inl, inr, length, Some, None, Option, nat_le}
use Rattle.std.specs.List.{AllByRecursion, flat_map}
use Rattle.std.specs.Option.{option_map_or}
use Rattle.nr_linked.specs.declared.program.tables.ClassInfo.{ClassInfo}
use Rattle.nr_linked.specs.declared.program.tables.ProgramTables.{ProgramTables}
use Rattle.nr_linked.specs.Facts.{ProgramFacts}
use Rattle.nr_linked.specs.KindTexts.{class_name}
use Rattle.nr_linked.specs.Programs.{class_at}
use Rattle.nr_frame.specs.declared.kind.FrameKind.TheVariants as frame_kinds
use Rattle.nr_model.specs.Outcomes.{Fate, Ended, BudgetSpent, HeapFull, TooDeep, OutputTooLong}
use Rattle.nr_message.specs.declared.serve_fault.ServeFault.{ServeFault}
use Rattle.nr_message.specs.declared.serve_fault.ServeFault.TheVariants as serve
use Rattle.nr_graph.specs.Sorted.{put}
use Rattle.nr_answers.specs.Answers.{Answers, AnswersOutcome, Replies, RequestOutcome, no_memory_text, refusal_text, refused, returned, run, stop_fault, stopped, thrown, too_long, unsendable}
use Rattle.nr_answers.specs.Batches.{Gathered, Timed, Times, in_time, gave_up, AllTimed, no_call, one_call, SaidToBatch, reply_frames, in_rounds, frame_text}
use Rattle.nr_answers.specs.Requests.{Accepted, RefusedAs, no_graph, no_method, other_class, other_count, other_kind, reading_code, unread}
use Rattle.nr_answers.specs.Talks.{AreReplies, IsShort}
use Rattle.nr_answers.proofs.Rounds.{all_in_rounds, is_no_later}

-- ---- replies are short

bad_short : (body : List ℕ) (code : ℕ) → IsShort (refusal_text body (serve.BadRequest code))
bad_short body code = omega arith

refused_short : (P : ProgramTables) (service : ℕ) (body : List ℕ) (f : ServeFault) → RefusedAs P service body f → IsShort (refusal_text body f)
refused_short P service body f (unread {e = e} is) = bad_short body (reading_code e)
refused_short P service body f (no_method is found) = omega arith
refused_short P service body f (other_count q count) = bad_short body 5
refused_short P service body f (other_kind q count kind) = bad_short body 6
refused_short P service body f (no_graph q kinds none) = bad_short body 7
refused_short P service body f (other_class q g kinds spells goes) = bad_short body 8

plain_stop : (body : List ℕ) (g f : ServeFault) → IsShort (refusal_text body g) → Some g ≡ Some f → IsShort (refusal_text body f)
plain_stop body g f short is = let same : g ≡ f = cc in subst (λ (h : ServeFault). IsShort (refusal_text body h)) same short

stop_short : (body : List ℕ) (fate : Fate) (f : ServeFault) → stop_fault fate ≡ Some f → IsShort (refusal_text body f)
stop_short body BudgetSpent f is = plain_stop body serve.BudgetSpent f (omega arith) is
stop_short body TooDeep f is = plain_stop body serve.TooDeep f (omega arith) is
stop_short body HeapFull f is = plain_stop body serve.HeapFull f (omega arith) is
stop_short body OutputTooLong f is = plain_stop body serve.OutputTooLong f (omega arith) is
stop_short body Ended f is = absurd (cc)

thrown_short : (body name : List ℕ) → length name < 2 ^ 16 → IsShort (refusal_text body (serve.Thrown name))
thrown_short body name lt = omega arith

unsendable_short : (body name : List ℕ) → length name < 2 ^ 16 → IsShort (refusal_text body (serve.NotSendable name))
unsendable_short body name lt = omega arith

told_short : (text told : List ℕ) → text ≡ told → IsShort told → IsShort text
told_short text told is short = subst IsShort (sym is) short

module _ (P : ProgramTables) (facts : ProgramFacts P) where
  name_short : (c : ℕ) → length (class_name P c) < 2 ^ 16
  name_short c = by_entry (class_at P c) refl
    where
      by_entry : (o : Option ClassInfo) → class_at P c ≡ o → length (option_map_or (λ e. e.name) o []) < 2 ^ 16
      by_entry None is = omega arith
      by_entry (Some e) is = (facts.classes c e is).short_name

  outcome_short : {version service : ℕ} {body : List ℕ} {r : Accepted P service body} (o : RequestOutcome P r) {text : List ℕ} → AnswersOutcome P version o text → IsShort text
  outcome_short {body = body} o (stopped {f = f} stop is) = told_short _ (refusal_text body f) is (stop_short body o.fate f stop)
  outcome_short {body = body} o (thrown x c ended control found is) = told_short _ (refusal_text body (serve.Thrown (class_name P c))) is (thrown_short body (class_name P c) (name_short c))
  outcome_short {body = body} o (unsendable b x c first found is) = told_short _ (refusal_text body (serve.NotSendable (class_name P c))) is (unsendable_short body (class_name P c) (name_short c))
  outcome_short {body = body} o (too_long b s long is) = told_short _ (refusal_text body serve.ReplyTooLong) is (omega arith)
  outcome_short o (returned b s short is) = short

  pub reply_short : {service version : ℕ} {body : List ℕ} {steps : ℕ} {text : List ℕ} → Replies P service version body steps text → IsShort text
  reply_short {service = service} {body = body} (refused {f = f} r is) = told_short _ (refusal_text body f) is (refused_short P service body f r)
  reply_short (run r o steps answer) = outcome_short o answer

  pub answer_short : {service version : ℕ} {body : List ℕ} {text : List ℕ} → Answers P service version body text → IsShort text
  answer_short (inl (steps, reply)) = reply_short reply
  answer_short {body = body} (inr is) = told_short _ (no_memory_text body) is (omega arith)

  timed_short : {service : ℕ} {c : Gathered} {t : Timed} → Times P service c t → IsShort t.text
  timed_short (in_time reply round) = reply_short reply
  timed_short {c = c} (gave_up before late round is) = told_short _ (no_memory_text c.body) is (omega arith)

  all_short : {service : ℕ} {cs : List Gathered} {ts : List Timed} → AllTimed P service cs ts → AllByRecursion (λ t. IsShort t.text) ts
  all_short no_call = tt
  all_short (one_call times more) = (timed_short times, all_short more)

-- ---- sorting keeps the answers

as_many : {P : ProgramTables} {service : ℕ} {cs : List Gathered} {ts : List Timed} → AllTimed P service cs ts → length ts ≡ length cs
as_many no_call = refl
as_many (one_call times more) = ap (λ (n : ℕ). suc n) (as_many more)

length_put : (t : Timed) (ts : List Timed) → length (put is_no_later t ts) ≡ suc (length ts)
length_put t [] = refl
length_put t (u ∷ us) = by_test (nat_le t.round u.round) refl (length_put t us)
  where
    by_test : (b : Bool) → nat_le t.round u.round ≡ b → length (put is_no_later t us) ≡ suc (length us)
        → length (put is_no_later t (u ∷ us)) ≡ suc (suc (length us))
    by_test true is more = rw is refl
    by_test false is more = rw is (ap (λ (n : ℕ). suc n) more)

length_in_rounds : (ts : List Timed) → length (in_rounds ts) ≡ length ts
length_in_rounds [] = refl
length_in_rounds (t ∷ ts) = length_put t (in_rounds ts) ∙ ap (λ (n : ℕ). suc n) (length_in_rounds ts)

-- ---- a batch

abbrev bodies_of : List Timed → List (List ℕ)
bodies_of [] = []
bodies_of (t ∷ ts) = t.text ∷ bodies_of ts

frames_are : (ts : List Timed) → reply_frames ts ≡ flat_map (frame_text frame_kinds.Reply) (bodies_of ts)
frames_are [] = refl
frames_are (t ∷ ts) = ap (λ (xs : List ℕ). frame_text frame_kinds.Reply t.text ++ xs) (frames_are ts)

bodies_short : (ts : List Timed) → AllByRecursion (λ t. IsShort t.text) ts → AllByRecursion IsShort (bodies_of ts)
bodies_short [] all = tt
bodies_short (t ∷ ts) all = (all.0, bodies_short ts all.1)

bodies_many : (ts : List Timed) → length (bodies_of ts) ≡ length ts
bodies_many [] = refl
bodies_many (t ∷ ts) = ap (λ (n : ℕ). suc n) (bodies_many ts)

pub batch_replied : (P : ProgramTables) → ProgramFacts P → (service : ℕ) (cs : List Gathered) (text : List ℕ) → SaidToBatch P service cs text → AreReplies (length cs) text
batch_replied P facts service cs text said = record {
  bodies = bodies_of (in_rounds said.answers);
  many = bodies_many (in_rounds said.answers) ∙ length_in_rounds said.answers ∙ as_many said.timed;
  short = bodies_short (in_rounds said.answers) (all_in_rounds (λ t. IsShort t.text) said.answers (all_short P facts said.timed));
  whole = said.said ∙ frames_are (in_rounds said.answers);
}
