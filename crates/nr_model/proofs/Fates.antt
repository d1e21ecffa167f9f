-- Mirrored calls have the fates of the first.
use Rattle.std.proofs.Common.{◌≡◌, ℕ, suc, List, refl, Bool, true, false}
use Rattle.nr_linked.specs.declared.program.tables.ProgramTables.{ProgramTables}
use Rattle.nr_model.specs.Asks.{Answer, Answered, Faulted, Entry}
use Rattle.nr_model.specs.LocalEntries.{IsLocal, IsFaulted, IsOwn, FaultedWhere, Fated, AllFated, Mirrors, no_call, answered_call, faulted_call}

-- what a local run left is no fault
local_no_fault : (P : ProgramTables) (e : Entry) → IsLocal P e → IsFaulted e → ⊥
local_no_fault P e l f = bad e.answer l.answer f.1
  where
    bad : (a : Answer) → a ≡ Answered l.after l.value l.printed → a ≡ Faulted f.0 → ⊥
    bad a p q = cc

module _ (P : ProgramTables) (faulted : ℕ → Bool) where
  own_fate : (e : Entry) (b : Bool) → (b ≡ true → ⊥) → IsOwn P e → Fated P b e
  own_fate e true n o = absurd (n refl)
  own_fate e false n o = o

  fault_fate : (e : Entry) (b : Bool) → b ≡ true → IsFaulted e → Fated P b e
  fault_fate e true t f = f
  fault_fate e false t f = absurd (bad t)
    where
      bad : false ≡ true → ⊥
      bad e = cc

  pub mirrored_fates : (n : ℕ) (calls others : List Entry) → FaultedWhere faulted n calls → Mirrors P calls others → AllFated P faulted n others
  mirrored_fates n calls others w no_call = tt
  mirrored_fates n calls others w (answered_call {d = d} {e = e} {ds = ds} {es = es} m l o r) =
      (own_fate e (faulted n) (λ t. local_no_fault P d l (w.0.1 t)) o, mirrored_fates (suc n) ds es w.1 r)
  mirrored_fates n calls others w (faulted_call {d = d} {e = e} {ds = ds} {es = es} m f g r) =
      (fault_fate e (faulted n) (w.0.0 f) g, mirrored_fates (suc n) ds es w.1 r)
