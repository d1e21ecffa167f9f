-- A job of a host is followed through the events, and what comes of it depends on its request and its turns alone.
use Rattle.std.proofs.Common.{◌≡◌, ◌⊎◌, ◌*◌, ◌<◌, ◌≤◌, ◌++◌, ◌||◌, ◌==◌, ℕ, zero, suc, nat_lt, List, [], ◌∷◌, Bool, true, false, refl, sym, ap, ◌∙◌, subst, arith, inl, inr, length, Some, None, Option, eq-eqb}
use Rattle.std.proofs.lemmas.Grind.{common_steps}
use Rattle.std.proofs.lemmas.Bool.{eqb-true}
use Rattle.nr_linked.specs.declared.program.tables.ProgramTables.{ProgramTables}
use Rattle.nr_answers.specs.Answers.{Replies, no_memory_text}
use Rattle.nr_answers.specs.Batches.{turn_steps}
use Rattle.nr_answers.specs.Hosts.{Added, Event, Gives, Held, HeldJobs, HostRun, HostStep, IsDone, Moves, NoRoom, NotHeld, Runs, StillRuns, Taken, TurnedTo, added, gives_up, its_reply, job_at, new_job, no_event, no_room, not_held, one_event, still_runs, taken, turned_done, turned_on, turned_once, turned_out}
use Rattle.nr_answers.specs.Histories.{History, is_taken, turn_answers}
use Rattle.nr_answers.specs.Once.{IsAnsweredOnce}

module _ (P : ProgramTables) (service : ℕ) where
  -- the turns of a job are answered so, and then it gives the text
  pub data Follows : Held → List Bool → List ℕ → Type 0 where
    taken_now : {h : Held} {text : List ℕ} → Gives P service h text → Follows h [] text
    runs_on : {h : Held} {bs : List Bool} {text : List ℕ} → Runs P service h → Runs P service (turned_once h false) → Follows (turned_once h false) bs text → Follows h (true ∷ bs) text
    runs_out : {h : Held} {bs : List Bool} {text : List ℕ} (failed : Bool) → Runs P service h → IsDone P service (turned_once h failed) → Follows (turned_once h failed) bs text → Follows h (false ∷ bs) text
    stays_done : {h : Held} {bs : List Bool} {text : List ℕ} → IsDone P service h → Follows h bs text → Follows h (false ∷ bs) text

  -- ---- from events

  run_apart : (jobs jobs' : HeldJobs) (xs ys : List Event) → HostRun P service jobs (xs ++ ys) jobs'
      → (mid : HeldJobs) × HostRun P service jobs xs mid × HostRun P service mid ys jobs'
  run_apart jobs jobs' [] ys run = (jobs, no_event, run)
  run_apart jobs jobs' (x ∷ xs) ys (one_event {mid = mid} step more) =
      let r = run_apart mid jobs' xs ys more in (r.0, one_event step r.1, r.2)

  one_held : (jobs : HeldJobs) (key : ℕ) (h k : Held) → job_at jobs key ≡ Some h → job_at jobs key ≡ Some k → k ≡ h
  one_held jobs key h k a b = let e : Some h ≡ Some k = sym a ∙ b in cc

  not_none : (jobs : HeldJobs) (key : ℕ) (h : Held) → job_at jobs key ≡ Some h → job_at jobs key ≡ None → ⊥
  not_none jobs key h a b = let e : Some h ≡ None = sym a ∙ b in cc

  -- a job under another number stays
  stays : {jobs mid : HeldJobs} {k : ℕ} {was now : Option Held} (key : ℕ) (h : Held) → Moves jobs mid k was now → (key ≡ k → ⊥) → job_at jobs key ≡ Some h
      → job_at mid key ≡ Some h
  stays key h moves other at = moves.others key other ∙ at

  differ : (k key : ℕ) → (k == key) ≡ false → key ≡ k → ⊥
  differ k key other e = let same : (k == key) ≡ true = eq-eqb k key (sym e) in cc

  -- the job's own turn, by its number
  pub answers_at : (key k : ℕ) (runs : Bool) (es : List Event) → k ≡ key → turn_answers key (TurnedTo k runs ∷ es) ≡ runs ∷ turn_answers key es
  answers_at key k runs es e = let t : (k == key) ≡ true = eq-eqb k key e in rw t refl

  answers_else : (key k : ℕ) (runs : Bool) (es : List Event) → (k == key) ≡ false → turn_answers key (TurnedTo k runs ∷ es) ≡ turn_answers key es
  answers_else key k runs es e = rw e refl

  module _ (key : ℕ) (text : List ℕ) where
    abbrev Again : HeldJobs → List Event → Type 0
    Again mid es = (h : Held) → job_at mid key ≡ Some h → Follows h (turn_answers key es) text

    turn_on : (jobs mid : HeldJobs) (k : ℕ) (es : List Event) (h g : Held) → job_at jobs key ≡ Some h → Runs P service g → Runs P service (turned_once g false)
        → Moves jobs mid k (Some g) (Some (turned_once g false)) → Again mid es → (b : Bool) → (k == key) ≡ b → Follows h (turn_answers key (TurnedTo k true ∷ es)) text
    turn_on jobs mid k es h g at was runs moves again true is =
        let same : k ≡ key = eqb-true k key is in
        let held : g ≡ h = one_held jobs key h g at (subst (λ (i : ℕ). job_at jobs i ≡ Some g) same moves.before) in
        let now : job_at mid key ≡ Some (turned_once h false) = subst (λ (i : ℕ). job_at mid i ≡ Some (turned_once h false)) same
        (moves.after ∙ ap (λ (x : Held). Some (turned_once x false)) held) in
        subst (λ (bs : List Bool). Follows h bs text) (sym (answers_at key k true es same))
        (runs_on (subst (Runs P service) held was) (subst (λ (x : Held). Runs P service (turned_once x false)) held runs) (again (turned_once h false) now))
    turn_on jobs mid k es h g at was runs moves again false is =
        subst (λ (bs : List Bool). Follows h bs text) (sym (answers_else key k true es is)) (again h (stays key h moves (differ k key is) at))

    turn_out : (jobs mid : HeldJobs) (k : ℕ) (es : List Event) (h g : Held) (failed : Bool) → job_at jobs key ≡ Some h → Runs P service g → IsDone P service (turned_once g failed)
        → Moves jobs mid k (Some g) (Some (turned_once g failed)) → Again mid es → (b : Bool) → (k == key) ≡ b → Follows h (turn_answers key (TurnedTo k false ∷ es)) text
    turn_out jobs mid k es h g failed at was done moves again true is =
        let same : k ≡ key = eqb-true k key is in
        let held : g ≡ h = one_held jobs key h g at (subst (λ (i : ℕ). job_at jobs i ≡ Some g) same moves.before) in
        let now : job_at mid key ≡ Some (turned_once h failed) = subst (λ (i : ℕ). job_at mid i ≡ Some (turned_once h failed)) same
        (moves.after ∙ ap (λ (x : Held). Some (turned_once x failed)) held) in
        subst (λ (bs : List Bool). Follows h bs text) (sym (answers_at key k false es same))
        (runs_out failed (subst (Runs P service) held was) (subst (λ (x : Held). IsDone P service (turned_once x failed)) held done) (again (turned_once h failed) now))
    turn_out jobs mid k es h g failed at was done moves again false is =
        subst (λ (bs : List Bool). Follows h bs text) (sym (answers_else key k false es is)) (again h (stays key h moves (differ k key is) at))

    turn_done : (jobs : HeldJobs) (k : ℕ) (es : List Event) (h g : Held) → job_at jobs key ≡ Some h → job_at jobs k ≡ Some g → IsDone P service g
        → Again jobs es → (b : Bool) → (k == key) ≡ b → Follows h (turn_answers key (TurnedTo k false ∷ es)) text
    turn_done jobs k es h g at there done again true is =
        let same : k ≡ key = eqb-true k key is in
        let held : g ≡ h = one_held jobs key h g at (subst (λ (i : ℕ). job_at jobs i ≡ Some g) same there) in
        subst (λ (bs : List Bool). Follows h bs text) (sym (answers_at key k false es same))
        (stays_done (subst (IsDone P service) held done) (again h at))
    turn_done jobs k es h g at there done again false is =
        subst (λ (bs : List Bool). Follows h bs text) (sym (answers_else key k false es is)) (again h at)

    or_first : (a b : Bool) → (a || b) ≡ false → a ≡ false
    or_first true b e = e
    or_first false b e = refl

    or_second : (a b : Bool) → (a || b) ≡ false → b ≡ false
    or_second true b e = absurd (cc)
    or_second false b e = e

    one_on : (jobs mid : HeldJobs) (e : Event) (es : List Event) (h : Held) → job_at jobs key ≡ Some h → is_taken key (e ∷ es) ≡ false
        → HostStep P service jobs e mid → Again mid es → Follows h (turn_answers key (e ∷ es)) text
    one_on jobs mid e es h at kept (added {key = k} failed room moves) again =
        again h (stays key h moves (λ same. not_none jobs key h at (subst (λ (i : ℕ). job_at jobs i ≡ None) (sym same) moves.before)) at)
    one_on jobs mid e es h at kept (no_room full) again = again h at
    one_on jobs mid e es h at kept (turned_on {key = k} g runs more moves) again = turn_on jobs mid k es h g at runs more moves again (k == key) refl
    one_on jobs mid e es h at kept (turned_out {key = k} g failed runs done moves) again = turn_out jobs mid k es h g failed at runs done moves again (k == key) refl
    one_on jobs mid e es h at kept (turned_done {key = k} g there done) again = turn_done jobs k es h g at there done again (k == key) refl
    one_on jobs mid e es h at kept (taken {key = k} g gives moves) again =
        again h (stays key h moves (differ k key (or_first (k == key) (is_taken key es) kept)) at)
    one_on jobs mid e es h at kept (still_runs g there runs) again = again h at
    one_on jobs mid e es h at kept (not_held none) again = again h at

    kept_behind : (e : Event) (es : List Event) → is_taken key (e ∷ es) ≡ false → is_taken key es ≡ false
    kept_behind (Added k version body) es kept = kept
    kept_behind NoRoom es kept = kept
    kept_behind (TurnedTo k runs) es kept = kept
    kept_behind (Taken k out) es kept = or_second (k == key) (is_taken key es) kept
    kept_behind (StillRuns k) es kept = kept
    kept_behind (NotHeld k) es kept = kept

    at_last : (jobs jobs' : HeldJobs) (h : Held) → job_at jobs key ≡ Some h → HostStep P service jobs (Taken key text) jobs' → Follows h [] text
    at_last jobs jobs' h at (taken g gives moves) =
        taken_now (subst (λ (x : Held). Gives P service x text) (one_held jobs key h g at moves.before) gives)

    followed : (between later : List Event) (jobs jobs' : HeldJobs) (h : Held) → job_at jobs key ≡ Some h → is_taken key between ≡ false
        → HostRun P service jobs (between ++ Taken key text ∷ later) jobs' → Follows h (turn_answers key between) text
    followed [] later jobs jobs' h at kept (one_event {mid = mid} step more) = at_last jobs mid h at step
    followed (e ∷ es) later jobs jobs' h at kept (one_event {mid = mid} step more) =
        one_on jobs mid e es h at kept step (λ g there. followed es later mid jobs' g there (kept_behind e es kept) more)

  -- what became of a job
  pub record Followed (version : ℕ) (body : List ℕ) (turns : List Bool) (text : List ℕ) : Type 0 where
    pub failed : Bool
    pub follows : Follows (new_job version body failed) turns text

  begun : (key version : ℕ) (body : List ℕ) (between later : List Event) (jobs jobs' : HeldJobs) (text : List ℕ) → is_taken key between ≡ false
      → HostRun P service jobs (Added key version body ∷ (between ++ Taken key text ∷ later)) jobs' → Followed version body (turn_answers key between) text
  begun key version body between later jobs jobs' text kept (one_event {mid = mid} (added failed room moves) more) =
      record { failed = failed; follows = followed key text between later mid jobs' (new_job version body failed) moves.after kept more }

  pub history_followed : (events : List Event) (version : ℕ) (body : List ℕ) (turns : List Bool) (text : List ℕ) → History P service events version body turns text
      → Followed version body turns text
  history_followed events version body turns text h =
      let apart = run_apart h.first h.last h.before (Added h.key version body ∷ (h.between ++ Taken h.key text ∷ h.later))
      (subst (λ (es : List Event). HostRun P service h.first es h.last) h.parts h.ran) in
      subst (λ (bs : List Bool). Followed version body bs text) (sym h.answers)
      (begun h.key version body h.between h.later apart.0 h.last text h.kept apart.2)

  -- ---- what comes of it

  -- the answers to so many turns of a job with n steps, from t turns on
  abbrev due_answers : ℕ → ℕ → ℕ → List Bool
  due_answers n t zero = []
  due_answers n t (suc l) = nat_lt (turn_steps * suc t) n ∷ due_answers n (suc t) l

  is_less : (m n : ℕ) → m < n → nat_lt m n ≡ true
  is_less m n lt = grind (arith, common_steps)

  is_not_less : (m n : ℕ) → n ≤ m → nat_lt m n ≡ false
  is_not_less m n le = grind (arith, common_steps)

  -- from the turn on in which the last step was made, all answers are the same
  done_answers : (n t l : ℕ) → n ≤ turn_steps * t → due_answers n t l ≡ due_answers n (suc t) l
  done_answers n t zero le = refl
  done_answers n t (suc l) le =
      let a : nat_lt (turn_steps * suc t) n ≡ false = is_not_less (turn_steps * suc t) n (omega arith) in
      let b : nat_lt (turn_steps * suc (suc t)) n ≡ false = is_not_less (turn_steps * suc (suc t)) n (omega arith) in
      let c : due_answers n (suc t) l ≡ due_answers n (suc (suc t)) l = done_answers n (suc t) l (omega arith) in
      ap (λ (x : Bool). x ∷ due_answers n (suc t) l) (a ∙ sym b) ∙ ap (λ (xs : List Bool). nat_lt (turn_steps * suc (suc t)) n ∷ xs) c

  failed_gives : {h : Held} {bs : List Bool} {text : List ℕ} → h.failed ≡ true → Follows h bs text → text ≡ no_memory_text h.body
  failed_gives failed (taken_now (its_reply steps well reply made no_more)) = absurd (cc)
  failed_gives failed (taken_now (gives_up is late said)) = said
  failed_gives failed (runs_on was runs more) = let w = was.well in absurd (cc)
  failed_gives failed (runs_out out was done more) = let w = was.well in absurd (cc)
  failed_gives failed (stays_done done more) = failed_gives failed more

  module _ (version : ℕ) (body : List ℕ) (once : IsAnsweredOnce P service version body) where
    abbrev held : ℕ → Bool → Held
    held t failed = record { version = version; body = body; turns = t; failed = failed }

    -- want of memory, or the reply and the answers that are due
    abbrev Comes : ℕ → List Bool → List ℕ → Type 0
    Comes t bs text = (text ≡ no_memory_text body) ⊎ ((n : ℕ) × Replies P service version body n text × (bs ≡ due_answers n t (length bs)))

    went_on : (t : ℕ) (bs : List Bool) (text : List ℕ) → Runs P service (held (suc t) false) → Comes (suc t) bs text → Comes t (true ∷ bs) text
    went_on t bs text now (inl none) = inl none
    went_on t bs text now (inr (n, reply, is)) =
        let lt : turn_steps * suc t < n = once.more n (turn_steps * suc t) text reply now.more in
        inr (n, reply, ap (λ (xs : List Bool). true ∷ xs) is ∙ ap (λ (b : Bool). b ∷ due_answers n (suc t) (length bs)) (sym (is_less (turn_steps * suc t) n lt)))

    ran_out : (t : ℕ) (failed : Bool) (bs : List Bool) (text given : List ℕ) → Gives P service (held (suc t) failed) given → Follows (held (suc t) failed) bs text
        → Comes (suc t) bs text → Comes t (false ∷ bs) text
    ran_out t failed bs text given (gives_up is late said) more comes = inl (failed_gives is more)
    ran_out t failed bs text given (its_reply steps well own made no_more) more (inl none) = inl none
    ran_out t failed bs text given (its_reply steps well own made no_more) more (inr (n, reply, is)) =
        let same = (once.one n steps text given reply own).0 in
        inr (n, reply, ap (λ (xs : List Bool). false ∷ xs) is ∙ ap (λ (b : Bool). b ∷ due_answers n (suc t) (length bs)) (sym (is_not_less (turn_steps * suc t) n (omega arith))))

    stayed : (t : ℕ) (failed : Bool) (bs : List Bool) (text given : List ℕ) → Gives P service (held t failed) given → Follows (held t failed) bs text
        → Comes t bs text → Comes t (false ∷ bs) text
    stayed t failed bs text given (gives_up is late said) more comes = inl (failed_gives is more)
    stayed t failed bs text given (its_reply steps well own made no_more) more (inl none) = inl none
    stayed t failed bs text given (its_reply steps well own made no_more) more (inr (n, reply, is)) =
        let same = (once.one n steps text given reply own).0 in
        let le : n ≤ turn_steps * t = omega arith in
        inr (
          n,
          reply,
          ap (λ (xs : List Bool). false ∷ xs) (is ∙ done_answers n t (length bs) le)
              ∙ ap (λ (b : Bool). b ∷ due_answers n (suc t) (length bs)) (sym (is_not_less (turn_steps * suc t) n (omega arith))),
        )

    comes_of : (t : ℕ) (failed : Bool) {bs : List Bool} {text : List ℕ} → Follows (held t failed) bs text → Comes t bs text
    comes_of t failed (taken_now (its_reply steps well reply made no_more)) = inr (steps, reply, refl)
    comes_of t failed (taken_now (gives_up is late said)) = inl said
    comes_of t failed (runs_on {bs = bs} {text = text} was now more) = went_on t bs text now (comes_of (suc t) false more)
    comes_of t failed (runs_out {bs = bs} {text = text} out was done more) = ran_out t out bs text done.0 done.1 more (comes_of (suc t) out more)
    comes_of t failed (stays_done {bs = bs} {text = text} done more) = stayed t failed bs text done.0 done.1 more (comes_of t failed more)

    abbrev pub Agree : List Bool → List ℕ → List Bool → List ℕ → Type 0
    Agree turns text turns' text' = ((text ≡ text') × (turns ≡ turns')) ⊎ ((text ≡ no_memory_text body) ⊎ (text' ≡ no_memory_text body))

    both : (turns turns' : List Bool) (text text' : List ℕ) → length turns ≡ length turns' → Comes 0 turns text → Comes 0 turns' text' → Agree turns text turns' text'
    both turns turns' text text' long (inl none) other = inr (inl none)
    both turns turns' text text' long (inr reply) (inl none) = inr (inr none)
    both turns turns' text text' long (inr (n, reply, is)) (inr (k, other, also)) =
        let same = once.one n k text text' reply other in
        inl (same.1, is ∙ ap (λ (m : ℕ). due_answers m 0 (length turns)) same.0 ∙ ap (λ (l : ℕ). due_answers k 0 l) long ∙ sym also)

    pub histories_agree : (events events' : List Event) (turns turns' : List Bool) (text text' : List ℕ) → History P service events version body turns text
        → History P service events' version body turns' text' → length turns ≡ length turns' → Agree turns text turns' text'
    histories_agree events events' turns turns' text text' one two long =
        let a = history_followed events version body turns text one in
        let b = history_followed events' version body turns' text' two in
        both turns turns' text text' long (comes_of 0 a.failed a.follows) (comes_of 0 b.failed b.follows)
