-- What the reading of a name is worth to a message.
use Rattle.std.proofs.Common.{◌≡◌, ℕ, Bool, true, false, cond, List, Result, Ok, Err, refl, ap}
use Rattle.std.specs.Prelude.{is_ok}
use Rattle.nr_base.specs.Place.{Place}
use Rattle.nr_base.specs.Reader.{pure, refuse, choose}
use Rattle.nr_base.specs.Clauses.{Gives, GivesWhole}
use Rattle.nr_base.specs.Names.{is_name, name_of, named, units_of}
use Rattle.nr_base.specs.declared.name.fault.NameFault.{NameFault}
use Rattle.nr_base.proofs.Exits.{fails_on}
use Rattle.nr_base.proofs.Laws.{ok_is}
use Rattle.nr_message.specs.Faults.{is_free}
use Rattle.nr_message.specs.declared.fault.MessageFault.{MessageFault}
use Rattle.nr_message.specs.declared.fault.MessageFault.TheVariants as faults
use Rattle.nr_message.specs.Reading.{named_as}

abbrev as_named : ℕ → List ℕ → Bool → Result (List ℕ) MessageFault
as_named at bytes b = cond b (Ok bytes) (Err (faults.NameBad at))

ok_as : (at : ℕ) (bytes name : List ℕ) (r : Result (List ℕ × Place) NameFault) → named bytes r ≡ Ok name → as_named at bytes (is_ok r) ≡ Ok name
ok_as at bytes name (Ok x) e = let is : bytes ≡ name = ok_is _ _ e in ap (λ z. Ok z) is
ok_as at bytes name (Err d) e = absurd cc

err_as : (at : ℕ) (bytes : List ℕ) (d : NameFault) (r : Result (List ℕ × Place) NameFault) → named bytes r ≡ Err d → as_named at bytes (is_ok r) ≡ Err (faults.NameBad at)
err_as at bytes d (Ok x) e = absurd cc
err_as at bytes d (Err c) e = refl

pub named_ok : (at : ℕ) (bytes name : List ℕ) → name_of bytes ≡ Ok name → named_as at bytes ≡ Ok name
named_ok at bytes name e = ok_as at bytes name (units_of bytes) e

pub named_err : (at : ℕ) (bytes : List ℕ) (d : NameFault) → name_of bytes ≡ Err d → named_as at bytes ≡ Err (faults.NameBad at)
named_err at bytes d e = err_as at bytes d (units_of bytes) e

chosen : (b : Bool) (bytes : List ℕ) (d : MessageFault) (result : Result (List ℕ) MessageFault) (q : Place) → GivesWhole is_free result (cond b (Ok bytes) (Err d)) → Gives is_free result q (choose b (pure bytes) (refuse d) q)
unfolding choose pure refuse
chosen true bytes d (Ok x) q e = let is : bytes ≡ x = ok_is _ _ e in ap (λ z. Ok (z, q)) is
chosen true bytes d (Err c) q f = fails_on is_free c _ _ (λ e. absurd cc) f
chosen false bytes d (Ok x) q e = absurd cc
chosen false bytes d (Err c) q f = fails_on is_free c _ _ (λ e. let same : d ≡ c = cc in ap (λ z. Err z) same) f

pub gives_name : (at : ℕ) (bytes : List ℕ) (result : Result (List ℕ) MessageFault) (q : Place) → GivesWhole is_free result (named_as at bytes) → Gives is_free result q (choose (is_name bytes) (pure bytes) (refuse (faults.NameBad at)) q)
gives_name at bytes result q e = chosen (is_name bytes) bytes (faults.NameBad at) result q e
