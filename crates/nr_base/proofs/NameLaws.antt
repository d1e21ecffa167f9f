-- A name that is read is the modified UTF-8 of units, and each such text is read.
use Rattle.std.proofs.Common.{◌≡◌, ℕ, ◌+◌, ◌-◌, ◌*◌, ◌<◌, true, leb, length, List, [], ◌∷◌, ◌++◌, Result, Ok, Err, refl, sym, ap, subst, arith}
use Rattle.std.specs.Prelude.{IfOk, is_ok}
use Rattle.std.specs.Int.{w8}
use Rattle.nr_base.specs.Place.{Place, start_of}
use Rattle.nr_base.specs.Reader.{onto, bind, pure, to_end, after, Advances}
use Rattle.nr_base.specs.Clauses.{GivesWhole}
use Rattle.nr_base.specs.Grammar.{IsBytes}
use Rattle.nr_base.specs.ModifiedUtf8.{within, unit_bytes, IsUnit, IsModifiedUtf8}
use Rattle.nr_base.specs.Names.{is_free, byte_at, six_bits_at, two_at, three_at, unit_at, units_of, named, name_of}
use Rattle.nr_base.specs.declared.name.fault.NameFault.{NameFault}
use Rattle.nr_base.specs.declared.name.fault.NameFault.TheVariants as faults
use Rattle.nr_base.proofs.Takes.{TakesAll, pure_takes, refuse_takes, bind_takes, choose_takes, fewer_takes, from_takes, with_fault_takes, number_takes, onto_takes, advances}
use Rattle.nr_base.proofs.Ends.{goes_on_to_end, stops_to_end, ends}
use Rattle.nr_base.proofs.Lists.{spells_all, all_spelled}
use Rattle.nr_base.proofs.ToEnd.{to_end_found, to_end_only}
use Rattle.nr_base.proofs.Units.{unit_law}

-- ---- a unit takes a byte or more

byte_takes : (at : ℕ) → TakesAll 1 (byte_at at)
unfolding byte_at
byte_takes at = with_fault_takes 1 (λ _. faults.BadUtf at) (number_takes w8)

six_takes : (at : ℕ) → TakesAll 0 (six_bits_at at)
unfolding six_bits_at
six_takes at = fewer_takes 1 0 (omega arith) (bind_takes 1 0 (byte_takes at) (λ b. choose_takes 0 (within 0x80 0xBF b) (pure_takes (b - 0x80)) (refuse_takes 0 _)))

two_takes : (at high : ℕ) → TakesAll 0 (two_at at high)
unfolding two_at
two_takes at high = bind_takes 0 0 (six_takes at) (λ low. choose_takes 0 (leb 0x80 (high * 64 + low)) (pure_takes _) (refuse_takes 0 _))

three_takes : (at high : ℕ) → TakesAll 0 (three_at at high)
unfolding three_at
three_takes at high = bind_takes 0 0 (six_takes at) (λ middle. bind_takes 0 0 (six_takes at) (λ low. choose_takes 0 (leb 0x800 ((high * 64 + middle) * 64 + low)) (pure_takes _) (refuse_takes 0 _)))

pub unit_takes : TakesAll 1 unit_at
unfolding unit_at
unit_takes = from_takes 1 (λ at. bind_takes 1 0 (byte_takes at) (λ first.
    choose_takes 0 (within 1 0x7F first) (pure_takes first)
    (choose_takes 0 (within 0xC0 0xDF first) (two_takes at (first - 0xC0))
    (choose_takes 0 (within 0xE0 0xEF first) (three_takes at (first - 0xE0)) (refuse_takes 0 _)))))

-- ---- texts of units

units_found : (bytes : List ℕ) (x : List ℕ × Place) → IsBytes bytes → units_of bytes ≡ Ok x → IsModifiedUtf8 bytes
units_found bytes x fits e =
    let a = to_end_found unit_law unit_takes [] x.0 (start_of bytes) x.1 fits e in
    let f = spells_all IsUnit unit_bytes a.items bytes a.each in
    record { units = a.items; each = f.0; spelled = f.1 }

units_only : (bytes : List ℕ) (m : IsModifiedUtf8 bytes) → units_of bytes ≡ Ok (m.units, record { total = length bytes; rest = [] })
units_only bytes m = to_end_only unit_law unit_takes (length bytes) [] m.units bytes (all_spelled IsUnit unit_bytes m.units bytes m.each m.spelled)

-- ---- names

named_ok : (bytes : List ℕ) (r : Result (List ℕ × Place) NameFault) (name : List ℕ) → named bytes r ≡ Ok name → (x : List ℕ × Place) × (r ≡ Ok x) × (bytes ≡ name)
named_ok bytes (Ok x) name e = (x, refl, cc)
named_ok bytes (Err d) name e = absurd cc

pub name_found : (bytes : List ℕ) (result : Result (List ℕ) NameFault) → IsBytes bytes → GivesWhole is_free result (name_of bytes) → IfOk result (λ name. (name ≡ bytes) × IsModifiedUtf8 bytes)
name_found bytes (Ok name) fits e =
    let n = named_ok bytes (units_of bytes) name e in
    (sym n.2, units_found bytes n.0 fits n.1)
name_found bytes (Err d) fits e = tt

pub name_only : (bytes : List ℕ) → IsModifiedUtf8 bytes → name_of bytes ≡ Ok bytes
name_only bytes m = ap (named bytes) (units_only bytes m)

pub gives_name : (bytes : List ℕ) (result : Result (List ℕ) NameFault) → GivesWhole is_free result (name_of bytes) → IsModifiedUtf8 bytes → GivesWhole is_free result (Ok bytes)
gives_name bytes result e m = subst (λ read. GivesWhole is_free result read) (name_only bytes m) e

ok_of : (r : Result (List ℕ × Place) NameFault) → is_ok r ≡ true → (x : List ℕ × Place) × (r ≡ Ok x)
ok_of (Ok x) e = (x, refl)
ok_of (Err d) e = absurd cc

pub legal : (bytes : List ℕ) → IsBytes bytes → is_ok (units_of bytes) ≡ true → IsModifiedUtf8 bytes
legal bytes fits e = let x = ok_of (units_of bytes) e in units_found bytes x.0 fits x.1

-- ---- the loop over the units of a text, of which the code keeps none

onto_ok : (us : List ℕ) (u : ℕ) (p q : Place) → unit_at p ≡ Ok (u, q) → onto unit_at us p ≡ Ok (us ++ u ∷ [], q)
unfolding onto bind pure
onto_ok us u p q e = ap (λ r. after r (λ x. pure (us ++ x ∷ []))) e

onto_err : (us : List ℕ) (p : Place) (d : NameFault) → unit_at p ≡ Err d → onto unit_at us p ≡ Err d
unfolding onto bind
onto_err us p d e = ap (λ r. after r (λ x. pure (us ++ x ∷ []))) e

steps : Advances (onto unit_at)
steps = advances (λ us. onto_takes 1 unit_takes us)

-- some units were read up to p, and the rest gives the total
pub record IsScanned (p : Place) (total : Result (List ℕ × Place) NameFault) : Type 0 where
  pub units : List ℕ
  pub rest_gives : to_end (onto unit_at) units p ≡ total

pub scans_on : (u : ℕ) (p q : Place) (total : Result (List ℕ × Place) NameFault) → (length p.rest ≡ 0 → ⊥) → unit_at p ≡ Ok (u, q) → IsScanned p total → IsScanned q total
scans_on u p q total ne e s = record { units = s.units ++ u ∷ []; rest_gives = goes_on_to_end (onto unit_at) steps s.units (s.units ++ u ∷ []) p q total ne (onto_ok s.units u p q e) s.rest_gives }

pub scan_stops : (p : Place) (d : NameFault) (total : Result (List ℕ × Place) NameFault) (bytes : List ℕ) → (length p.rest ≡ 0 → ⊥) → unit_at p ≡ Err d → IsScanned p total → named bytes total ≡ Err d
scan_stops p d total bytes ne e s = ap (named bytes) (stops_to_end (onto unit_at) s.units p d total ne (onto_err s.units p d e) s.rest_gives)

pub scan_ends : (p : Place) (total : Result (List ℕ × Place) NameFault) (bytes : List ℕ) → length p.rest ≡ 0 → IsScanned p total → named bytes total ≡ Ok bytes
scan_ends p total bytes e s = ap (named bytes) (ends (onto unit_at) s.units p total e s.rest_gives)

pub unit_smaller : (u : ℕ) (p q : Place) → unit_at p ≡ Ok (u, q) → length q.rest < length p.rest
unit_smaller u p q e = omega (arith, unit_takes.takes p q u e)

pub is_name_only : (bytes : List ℕ) → IsModifiedUtf8 bytes → is_ok (units_of bytes) ≡ true
is_name_only bytes m = ap is_ok (units_only bytes m)
