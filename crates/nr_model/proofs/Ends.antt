-- Runs from states that agree end together.
use Rattle.std.proofs.Common.{◌≡◌, ℕ, zero, suc, refl, ap, subst}
use Rattle.nr_model.specs.States.{Control, Running, Returned, Thrown, State, IsEnd}
use Rattle.nr_model.specs.Alike.{AlikeControl, both_run, both_return, both_throw}
use Rattle.nr_model.proofs.Matchings.{AlikeState}
use Rattle.nr_linked.specs.declared.program.tables.ProgramTables.{ProgramTables}
use Rattle.nr_model.specs.Steps.{StepOf, Run}
use Rattle.nr_model.proofs.Runs.{steps_paired}

pub no_step : (P : ProgramTables) (c : Control) (s t : State) → IsEnd c → StepOf P c s t → ⊥
no_step P (Running fs) s t e p = e
no_step P (Returned v) s t e p = p
no_step P (Thrown v) s t e p = p

module _ (R : ℕ → ℕ → Type 0) where
  pub end_over : (c d : Control) → AlikeControl R c d → IsEnd c → IsEnd d
  end_over c d (both_run bs) e = e
  end_over c d (both_return l) e = tt
  end_over c d (both_throw l) e = tt

  pub end_back : (c d : Control) → AlikeControl R c d → IsEnd d → IsEnd c
  end_back c d (both_run bs) e = e
  end_back c d (both_return l) e = tt
  end_back c d (both_throw l) e = tt

-- runs from states that agree and that end have one length
pub one_length : (P : ProgramTables) (n k : ℕ) (R : ℕ → ℕ → Type 0) (s t s' t' : State) → AlikeState R s t → Run P s n s' → IsEnd s'.control → Run P t k t' → IsEnd t'.control → n ≡ k
one_length P zero zero R s t s' t' a p e q f = refl
one_length P zero (suc k) R s t s' t' a p e q f = absurd (no_step P t.control t q.0 (end_over R _ _ a.control (subst (λ s. IsEnd s.control) p e)) q.1)
one_length P (suc n) zero R s t s' t' a p e q f = absurd (no_step P s.control s p.0 (end_back R _ _ a.control (subst (λ t. IsEnd t.control) q f)) p.1)
one_length P (suc n) (suc k) R s t s' t' a p e q f =
    let l = steps_paired P R s t p.0 q.0 a p.1 q.1 in
    ap suc (one_length P n k l.now p.0 q.0 s' t' l.alike p.2 e q.2 f)
