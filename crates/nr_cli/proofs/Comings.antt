-- What is due, step by step: of a program, of a folder, of the command.
use Rattle.std.proofs.Common.{◌≡◌, ◌⊎◌, ℕ, Bool, true, false, cond, not, Result, Ok, Err, refl, sym, subst, inl, inr}
use Rattle.nr_linked.specs.declared.program.tables.ProgramTables.{ProgramTables}
use Rattle.nr_run.specs.declared.ran.Ran.{Ran}
use Rattle.nr_run.specs.declared.ran.RunEnd.{RunEnd}
use Rattle.nr_run.specs.declared.ran.RunEnd.TheVariants as runs
use Rattle.nr_run.specs.Runs.{RunEnds, RunStops}
use Rattle.nr_cli.specs.Words.{Command}
use Rattle.nr_cli.specs.Dues.{Comes, Due, MainRun, Settled, stop_of}
use Rattle.nr_cli.specs.Plan.{main_due}
use Rattle.nr_cli.specs.declared.ending.End.{End}
use Rattle.nr_cli.specs.declared.ending.End.TheVariants.{Memory, Run}
use Rattle.nr_cli.specs.declared.ending.Stop.{Stop}
use Rattle.nr_cli.specs.declared.ending.Stop.TheVariants as stops

-- ---- a run

pub stopped : (P : ProgramTables) (m : ℕ) (c : Command) (r : Ran) → RunStops P m c.ints c.budget r.printed → Comes (MainRun P m c) (Run r.printed stops.Memory)
stopped P m c r s = inr (inr (r.printed, s, refl))

pub ended : (P : ProgramTables) (m : ℕ) (c : Command) (r : Ran) (stop : Stop) → stop ≡ stop_of P c.budget r.end
    → ((r.end ≡ runs.NoMemory → ⊥) → RunEnds P m c.ints c.budget r) → RunStops P m c.ints c.budget r.printed
    → Comes (MainRun P m c) (Run r.printed stop)
ended P m c r stop is ends s = subst (λ z. Comes (MainRun P m c) (Run r.printed z)) (sym is) (by_end r.end refl)
  where
    whole : (r.end ≡ runs.NoMemory → ⊥) → Comes (MainRun P m c) (Run r.printed (stop_of P c.budget r.end))
    whole some = inr (inl (r, ends some, refl))

    by_end : (e : RunEnd) → r.end ≡ e → Comes (MainRun P m c) (Run r.printed (stop_of P c.budget r.end))
    by_end (runs.Returned n) e = whole (λ f. cc)
    by_end (runs.Thrown k) e = whole (λ f. cc)
    by_end runs.Budget e = whole (λ f. cc)
    by_end (runs.Limit l) e = whole (λ f. cc)
    by_end runs.NoMemory e = subst (λ z. Comes (MainRun P m c) (Run r.printed (stop_of P c.budget z))) (sym e) (stopped P m c r s)

-- ---- classes

abbrev Ready : Type 0
Ready = Result (ProgramTables × ℕ) End

-- what getting ready answers: that memory ran out, or what it is
abbrev Answers : Ready → Ready → Type 0
Answers x r = (x ≡ Err Memory) ⊎ (x ≡ r)

pub settled : (c : Command) (r : Ready) (end : End) → Answers (Err end) r → Comes (main_due c r) end
settled c r end (inl e) = inl cc
settled c (Ok x) end (inr e) = absurd cc
settled c (Err other) end (inr e) = inr (inl cc)

pub prepared_run : (c : Command) (r : Ready) (P : ProgramTables) (m : ℕ) (end : End) → Answers (Ok (P, m)) r → Comes (MainRun P m c) end → Comes (main_due c r) end
prepared_run c r P m end (inl e) comes = absurd cc
prepared_run c r P m end (inr e) comes = subst (λ z. Comes (main_due c z) end) e comes

-- ---- a folder

pub too_long : (b : Bool) (x : Due) (own end : End) → not b ≡ true → (end ≡ Memory) ⊎ (end ≡ own) → Comes (cond b x (Settled own)) end
too_long true x own end e h = absurd cc
too_long false x own end e (inl h) = inl h
too_long false x own end e (inr h) = inr (inl h)

pub not_too_long : (b : Bool) (x y : Due) (end : End) → not b ≡ false → Comes x end → Comes (cond b x y) end
not_too_long true x y end e h = h
not_too_long false x y end e h = absurd cc
