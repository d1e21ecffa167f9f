-- A slot that is read goes on with the whole.
use Rattle.std.proofs.Common.{◌≡◌, ◌++◌, ℕ, suc, ◌<◌, ◌+◌, ◌*◌, ◌≤◌, Bool, false, List, [], ◌∷◌, length, reverse, Result, Ok, Err, OnOk, IfErr, refl, sym, ap, subst, ◌∙◌, arith}
use Rattle.nr_base.specs.Place.{Place}
use Rattle.nr_base.specs.Clauses.{GivesBy, Fails}
use Rattle.nr_linked.specs.declared.program.tables.ProgramTables.{ProgramTables}
use Rattle.nr_graph.specs.declared.graph.Graph.{Graph}
use Rattle.nr_serform.specs.Handles.{Table}
use Rattle.nr_serread.specs.declared.fault.StreamFault.{StreamFault}
use Rattle.nr_serread.specs.Faults.{is_free}
use Rattle.nr_serread.specs.declared.due.Due.{Due}
use Rattle.nr_serread.specs.Reading.{State, slot_at, next_at, is_done, slots_at, until_done}
use Rattle.nr_serread.proofs.Taking.{slot_takes, next_takes}
use Rattle.nr_serread.proofs.Turns.{goes_on, fails_so, turn_done}

abbrev pub at : Graph → Table → ℕ → List Due → State
at g table cells due = record { graph = g; table = table; cells = cells; due = due }

is_next : (P : ProgramTables) (g : Graph) (table : Table) (cells : ℕ) (d : Due) (ds : List Due) (p : Place) → next_at P (at g table cells (d ∷ ds)) p ≡ slot_at P d (at g table cells ds) p
unfolding next_at
is_next P g table cells d ds p = refl

pub slot_on : (P : ProgramTables) (g : Graph) (table : Table) (cells : ℕ) (d : Due) (due ds : List Due) (t : State) (p q : Place) (r : Result (Unit {0}) StreamFault) → due ≡ d ∷ ds
    → GivesBy is_free (λ _. t) r q (slot_at P d (at g table cells ds) p) → OnOk r (slots_at P t q ≡ slots_at P (at g table cells due) p)
unfolding slots_at
slot_on P g table cells d due ds t p q (Ok x) e h = rw e (goes_on is_done (next_at P) (next_takes P) (at g table cells (d ∷ ds)) t p q refl (is_next P g table cells d ds p ∙ h))
slot_on P g table cells d due ds t p q (Err x) e h = tt

pub slot_err : (P : ProgramTables) (g : Graph) (table : Table) (cells : ℕ) (d : Due) (due ds : List Due) (t : State) (p q : Place) (r : Result (Unit {0}) StreamFault) → due ≡ d ∷ ds
    → GivesBy is_free (λ _. t) r q (slot_at P d (at g table cells ds) p) → IfErr r (λ e. Fails is_free e (slots_at P (at g table cells due) p))
unfolding slots_at
slot_err P g table cells d due ds t p q (Ok x) e h = tt
slot_err P g table cells d due ds t p q (Err x) e h = rw e (fails_so is_free is_done (next_at P) (at g table cells (d ∷ ds)) p x refl (subst (λ z. Fails is_free x z) (sym (is_next P g table cells d ds p)) h))

pub slot_less : (P : ProgramTables) (d : Due) (s t : State) (p q : Place) (r : Result (Unit {0}) StreamFault) (old new : ℕ)
    → GivesBy is_free (λ _. t) r q (slot_at P d s p) → OnOk r (new ≤ (old + 1) + 1) → OnOk r (2 * length q.rest + new < 2 * length p.rest + (old + 1))
slot_less P d s t p q (Ok x) old new h few = omega (arith, (slot_takes P d s).takes p q t h)
slot_less P d s t p q (Err x) old new h few = tt

pub all_done : (P : ProgramTables) (g : Graph) (table : Table) (cells : ℕ) (p : Place) → slots_at P (at g table cells []) p ≡ Ok (at g table cells [], p)
unfolding slots_at
all_done P g table cells p = turn_done is_done (next_at P) (length p.rest) (at g table cells []) p refl
