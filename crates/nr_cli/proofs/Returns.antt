-- What the program says at an end that may come.
use Rattle.std.proofs.Common.{◌≡◌, ◌⊎◌, ◌++◌, ℕ, List, true, false, nat_eq, eq-eqb, refl, sym, ap, ◌∙◌, inl, inr, arith}
use Rattle.std.specs.Prelude.{ℤ}
use Rattle.nr_linked.specs.declared.program.tables.ProgramTables.{ProgramTables}
use Rattle.nr_run.specs.declared.ran.Ran.{Ran}
use Rattle.nr_run.specs.declared.ran.RunEnd.{RunEnd}
use Rattle.nr_run.specs.declared.ran.RunEnd.TheVariants as runs
use Rattle.nr_run.specs.Runs.{RunEnds, result_line}
use Rattle.nr_run.proofs.OneEnd.{runs_end}
use Rattle.nr_run.proofs.Texts.{ended_text}
use Rattle.nr_cli.specs.Words.{Command}
use Rattle.nr_cli.specs.Ending.{out_of, status_of, stop_result, stop_status}
use Rattle.nr_cli.specs.Dues.{AddsText, Comes, Due, IsCutOff, IsEndOf, MainRun, MayEnd, Settled, run_end, stop_of}
use Rattle.nr_cli.specs.declared.ending.End.{End}
use Rattle.nr_cli.specs.declared.ending.End.TheVariants.{Words, Folder, Class, Link, Verify, Run, Memory}
use Rattle.nr_cli.specs.declared.ending.Stop.{Stop}
use Rattle.nr_cli.specs.declared.ending.Stop.TheVariants as stops
use Rattle.nr_cli.proofs.Ends.{IsOwn, IsOwnDue}

pub may_end : (F : Type 0) (due : Due) (end : End) → (end ≡ Folder → F) → (end ≡ Folder) ⊎ Comes due end → MayEnd F due end
may_end F due end cause (inl e) = inl (e, cause e)
may_end F due end cause (inr c) = inr c

-- ---- statuses

apart : (m n : ℕ) → nat_eq m n ≡ false → m ≡ n → ⊥
apart m n other e = let same : true ≡ false = sym (eq-eqb m n e) ∙ other in cc

no_stop_2 : (stop : Stop) → stop_status stop ≡ 2 → ⊥
no_stop_2 (stops.Returned n) e = omega arith
no_stop_2 (stops.Thrown name) e = omega arith
no_stop_2 (stops.Budget n) e = omega arith
no_stop_2 (stops.Limit l) e = omega arith
no_stop_2 stops.Memory e = omega arith

no_stop_3 : (stop : Stop) → stop_status stop ≡ 3 → ⊥
no_stop_3 (stops.Returned n) e = omega arith
no_stop_3 (stops.Thrown name) e = omega arith
no_stop_3 (stops.Budget n) e = omega arith
no_stop_3 (stops.Limit l) e = omega arith
no_stop_3 stops.Memory e = omega arith

pub words_end : (end : End) → status_of end ≡ 2 → end ≡ Words
words_end Words e = refl
words_end Folder e = absurd (omega arith)
words_end (Class path fault) e = absurd (omega arith)
words_end (Link fault) e = absurd (omega arith)
words_end (Verify fault) e = absurd (omega arith)
words_end (Run printed stop) e = absurd (no_stop_2 stop e)
words_end Memory e = absurd (omega arith)

pub folder_end : (end : End) → status_of end ≡ 3 → end ≡ Folder
folder_end Words e = absurd (omega arith)
folder_end Folder e = refl
folder_end (Class path fault) e = absurd (omega arith)
folder_end (Link fault) e = absurd (omega arith)
folder_end (Verify fault) e = absurd (omega arith)
folder_end (Run printed stop) e = absurd (no_stop_3 stop e)
folder_end Memory e = absurd (omega arith)

-- the status is the end's own, where it isn't that of a failed sink or of want of memory
pub own_of : (status own n : ℕ) → (status ≡ own) ⊎ (status ≡ 11) ⊎ (status ≡ 12) → status ≡ n → nat_eq n 11 ≡ false → nat_eq n 12 ≡ false → own ≡ n
own_of status own n (inl e) is eleven twelve = sym e ∙ is
own_of status own n (inr (inl e)) is eleven twelve = absurd (apart n 11 eleven (sym is ∙ e))
own_of status own n (inr (inr e)) is eleven twelve = absurd (apart n 12 twelve (sym is ∙ e))

pub differ : {n : ℕ} (status : ℕ) → status ≡ 3 → status ≡ n → nat_eq 3 n ≡ false → ⊥
differ {n} status three e other = apart 3 n other (sym three ∙ e)

pub no_words_status : (end : End) (status : ℕ) → (status ≡ status_of end) ⊎ (status ≡ 11) ⊎ (status ≡ 12) → (end ≡ Words) ⊎ (end ≡ Memory) → (status ≡ 2) ⊎ (status ≡ 11) ⊎ (status ≡ 12)
no_words_status end status (inr own) e = inr own
no_words_status end status (inl own) (inl e) = inl (own ∙ ap status_of e)
no_words_status end status (inl own) (inr e) = inr (inr (own ∙ ap status_of e))

pub no_sink : (O E : Type 0) → O ⊎ E → (O → ⊥) → (E → ⊥) → ⊥
no_sink O E (inl o) out err = out o
no_sink O E (inr e) out err = err e

-- ---- one end

pub one_end : (due : Due) (e f : End) → IsEndOf due e → IsEndOf due f → e ≡ f
one_end (Settled x) e f a b = a ∙ sym b
one_end (MainRun P m c) e f a b = a.2 ∙ ap (run_end P c.budget) (runs_end P m c.ints c.budget a.0 b.0 a.1 b.1) ∙ sym b.2

module _ (F : Type 0) (due : Due) (end : End) (status : ℕ) (may : MayEnd F due end) (own : (status ≡ status_of end) ⊎ (status ≡ 11) ⊎ (status ≡ 12)) where
  -- where the due run returns
  pub returns : (F → ⊥) → (status ≡ 11 → ⊥) → (printed : List ℕ) (n : ℤ) → IsEndOf due (Run printed (stops.Returned n)) → (status ≡ 0) ⊎ (status ≡ 12)
  returns sound no_sink printed n is = by_own own
    where
      of_end : (e : End) → end ≡ e → status ≡ status_of end → status ≡ status_of e
      of_end e same s = s ∙ ap status_of same

      by_cut : (d : Due) → IsCutOff d end → status ≡ status_of end → (status ≡ 0) ⊎ (status ≡ 12)
      by_cut (Settled x) cut s = absurd cut
      by_cut (MainRun P m c) cut s = inr (of_end (Run cut.0 stops.Memory) cut.2 s)

      by_may : MayEnd F due end → status ≡ status_of end → (status ≡ 0) ⊎ (status ≡ 12)
      by_may (inl f) s = absurd (sound f.1)
      by_may (inr (inl e)) s = inr (of_end Memory e s)
      by_may (inr (inr (inl e))) s = inl (of_end (Run printed (stops.Returned n)) (one_end due end (Run printed (stops.Returned n)) e is) s)
      by_may (inr (inr (inr e))) s = by_cut due e s

      by_own : (status ≡ status_of end) ⊎ (status ≡ 11) ⊎ (status ≡ 12) → (status ≡ 0) ⊎ (status ≡ 12)
      by_own (inl s) = by_may may s
      by_own (inr (inl s)) = absurd (no_sink s)
      by_own (inr (inr s)) = inr s

-- ---- the text

own_status : (end : End) → IsOwn end → status_of end ≡ 0 → ⊥
own_status Words own e = omega arith
own_status Folder own e = own
own_status (Class path fault) own e = omega arith
own_status (Link fault) own e = omega arith
own_status (Verify fault) own e = omega arith
own_status (Run printed stop) own e = own
own_status Memory own e = own

-- what is added where a run returned
run_text : (P : ProgramTables) (m : ℕ) (c : Command) (old new : List ℕ) (r : Ran) (e : RunEnd) → r.end ≡ e → RunEnds P m c.ints c.budget r → stop_status (stop_of P c.budget e) ≡ 0
    → new ≡ old ++ (r.printed ++ stop_result (stop_of P c.budget e)) → AddsText (MainRun P m c) old new
run_text P m c old new r (runs.Returned n) e ends s added = (r.printed ++ result_line n, ended_text P m c.ints c.budget r n ends e, added)
run_text P m c old new r (runs.Thrown k) e ends s added = absurd (omega arith)
run_text P m c old new r runs.Budget e ends s added = absurd (omega arith)
run_text P m c old new r (runs.Limit l) e ends s added = absurd (omega arith)
run_text P m c old new r runs.NoMemory e ends s added = absurd (omega arith)

pub text_added : (F : Type 0) (due : Due) (end : End) (old new : List ℕ) → IsOwnDue due → MayEnd F due end → status_of end ≡ 0 → new ≡ old ++ out_of end → AddsText due old new
text_added F due end old new own (inl f) s added = absurd (bad (ap status_of (sym f.0) ∙ s))
  where
    bad : status_of Folder ≡ 0 → ⊥
    bad e = omega arith
text_added F due end old new own (inr (inl e)) s added = absurd (bad (ap status_of (sym e) ∙ s))
  where
    bad : status_of Memory ≡ 0 → ⊥
    bad e = omega arith
text_added F (Settled other) end old new own (inr (inr (inl e))) s added = absurd (own_status other own (ap status_of (sym e) ∙ s))
text_added F (MainRun P m c) end old new own (inr (inr (inl e))) s added =
    run_text P m c old new e.0 e.0.end refl e.1 (ap status_of (sym e.2) ∙ s) (added ∙ ap (λ z. old ++ out_of z) e.2)
text_added F (Settled other) end old new own (inr (inr (inr e))) s added = absurd e
text_added F (MainRun P m c) end old new own (inr (inr (inr e))) s added = absurd (bad e.0 (ap status_of (sym e.2) ∙ s))
  where
    bad : (printed : List ℕ) → status_of (Run printed stops.Memory) ≡ 0 → ⊥
    bad printed e = omega arith

pub text_of : (due : Due) (end : End) (old new : List ℕ) (status : ℕ) → IsOwnDue due → (end ≡ Folder) ⊎ Comes due end → (status ≡ status_of end) ⊎ (status ≡ 11) ⊎ (status ≡ 12) → status ≡ 0
    → ((status ≡ 11 → ⊥) → (status ≡ 12 → ⊥) → new ≡ old ++ out_of end) → AddsText due old new
text_of due end old new status own comes is zero added =
    text_added (Unit {0}) due end old new own (may_end (Unit {0}) due end (λ e. tt) comes) (own_of status (status_of end) 0 is zero refl refl)
    (added (λ e. apart 0 11 refl (sym zero ∙ e)) (λ e. apart 0 12 refl (sym zero ∙ e)))
