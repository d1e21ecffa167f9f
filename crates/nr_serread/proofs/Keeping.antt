-- A description gives no object a handle.
use Rattle.std.proofs.Common.{◌≡◌, ℕ, List, [], ◌∷◌, ◌++◌, length, Bool, true, false, Result, Ok, Err, refl, sym, ap, subst, ◌∙◌}
use Rattle.nr_base.specs.Place.{Place, at_of}
use Rattle.nr_base.specs.Reader.{Reader, bind, pure, refuse, choose, from}
use Rattle.nr_base.proofs.Laws.{bind_ok, ok_is}
use Rattle.nr_linked.specs.declared.program.kind.Kind.{Kind}
use Rattle.nr_linked.specs.declared.program.tables.ProgramTables.{ProgramTables}
use Rattle.nr_linked.specs.declared.program.tables.SlotInfo.{SlotInfo}
use Rattle.nr_serform.specs.Handles.{Table}
use Rattle.nr_serread.specs.declared.fault.StreamFault.{StreamFault}
use Rattle.nr_serread.specs.Items.{Read}
use Rattle.nr_serread.specs.Describing.{string_at, field_at, fields_at, own_at, new_super_at, super_at, supers_at, behind_name_at, new_desc_at, old_desc_at, desc_at}
use Rattle.nr_serread.specs.Working.{AreBelow, Fits}
use Rattle.nr_serread.specs.declared.work.Work.{Work}
use Rattle.nr_serread.proofs.Below.{with_class, with_text}

-- what is read has the property
record Has {A : Type 0} (Q : A → Type 0) (r : Read A) : Type 0 where
  pub of : (p q : Place) (x : A) → r p ≡ Ok (x, q) → Q x

pure_has : {A : Type 0} {Q : A → Type 0} (x : A) → Q x → Has Q (pure x)
unfolding pure
pure_has {Q = Q} x h = record { of = λ p q y e. subst Q (ap (λ (a : _ × Place). a.0) (ok_is _ _ e)) h }

refuse_has : {A : Type 0} {Q : A → Type 0} (e : StreamFault) → Has Q (refuse e)
unfolding refuse
refuse_has e = record { of = λ p q y h. absurd cc }

bind_has : {A B : Type 0} {R : A → Type 0} {Q : B → Type 0} {r : Read A} {f : A → Read B} → Has R r → ((x : A) → R x → Has Q (f x)) → Has Q (bind r f)
unfolding bind
bind_has {r = r} {f = f} rs fs = record { of = λ p q y e. let a = bind_ok (r p) f (y, q) e in (fs a.0.0 (rs.of p a.0.1 a.0.0 a.1)).of a.0.1 q y a.2 }

any_has : {A B : Type 0} {Q : B → Type 0} (r : Read A) {f : A → Read B} → ((x : A) → Has Q (f x)) → Has Q (bind r f)
unfolding bind
any_has r {f = f} fs = record { of = λ p q y e. let a = bind_ok (r p) f (y, q) e in (fs a.0.0).of a.0.1 q y a.2 }

choose_has : {A : Type 0} {Q : A → Type 0} (b : Bool) {r s : Read A} → Has Q r → Has Q s → Has Q (choose b r s)
unfolding choose
choose_has true rs ss = record { of = rs.of }
choose_has false rs ss = record { of = ss.of }

from_has : {A : Type 0} {Q : A → Type 0} {f : ℕ → Read A} → ((at : ℕ) → Has Q (f at)) → Has Q (from f)
unfolding from
from_has rs = record { of = λ p q x e. (rs (at_of p)).of p q x e }

string_has : (n : ℕ) (desc : List ℕ) (table : Table) → AreBelow n table → Has (AreBelow n) (string_at desc table)
unfolding string_at
string_has n desc table b = choose_has _ (any_has _ (λ x. any_has _ (λ y. pure_has table b))) (any_has _ (λ x. any_has _ (λ y. pure_has _ (with_text n table desc b))))

field_has : (n : ℕ) (s : SlotInfo) (table : Table) → AreBelow n table → Has (AreBelow n) (field_at s table)
unfolding field_at
field_has n s table b = any_has _ (λ x. any_has _ (λ y. choose_has _ (string_has n s.desc table b) (pure_has table b)))

fields_has : (n : ℕ) (ss : List SlotInfo) (table : Table) → AreBelow n table → Has (AreBelow n) (fields_at ss table)
unfolding fields_at
fields_has n [] table b = pure_has table b
fields_has n (s ∷ ss) table b = bind_has (field_has n s table b) (λ t c. fields_has n ss t c)

own_has : (n : ℕ) (P : ProgramTables) (kind : Kind) (table : Table) → AreBelow n table → Has (AreBelow n) (own_at P kind table)
unfolding own_at
own_has n P kind table b = any_has _ (λ x. any_has _ (λ y. any_has _ (λ z. bind_has (fields_has n _ _ (with_class n table kind b)) (λ t c. any_has _ (λ v. pure_has t c)))))

new_super_has : (n : ℕ) (P : ProgramTables) (c : ℕ) (table : Table) → AreBelow n table → Has (AreBelow n) (new_super_at P c table)
unfolding new_super_at
new_super_has n P c table b = from_has (λ at. any_has _ (λ text. choose_has _ (own_has n P _ table b) (refuse_has _)))

super_has : (n : ℕ) (P : ProgramTables) (c : ℕ) (table : Table) → AreBelow n table → Has (λ r. AreBelow n r.1) (super_at P c table)
unfolding super_at
super_has n P c table b = from_has (λ at. any_has _ (λ tag. choose_has _ (any_has _ (λ k. choose_has _ (pure_has (false, table) b) (refuse_has _)))
    (choose_has _ (bind_has (new_super_has n P c table b) (λ t d. pure_has (true, t) d)) (refuse_has _))))

supers_has : (n : ℕ) (P : ProgramTables) (cs : List ℕ) (table : Table) → AreBelow n table → Has (AreBelow n) (supers_at P cs table)
unfolding supers_at
supers_has n P [] table b = any_has _ (λ x. pure_has table b)
supers_has n P (c ∷ cs) table b = bind_has (super_has n P c table b) (λ r d. choose_has _ (supers_has n P cs r.1 d) (pure_has r.1 d))

behind_has : (n : ℕ) (P : ProgramTables) (kind : Kind) (table : Table) → AreBelow n table → Has (AreBelow n) (behind_name_at P kind table)
unfolding behind_name_at
behind_has n P kind table b = bind_has (own_has n P kind table b) (λ t c. supers_has n P _ t c)

new_has : (n : ℕ) (P : ProgramTables) (array : Bool) (wanted : Kind) (start : ℕ) (table : Table) → AreBelow n table → Has (λ r. AreBelow n r.1) (new_desc_at P array wanted start table)
unfolding new_desc_at
new_has n P array wanted start table b = any_has _ (λ k. any_has _ (λ s. bind_has (behind_has n P k table b) (λ t c. pure_has (k, t) c)))

old_has : (n : ℕ) (P : ProgramTables) (array : Bool) (wanted : Kind) (start at : ℕ) (table : Table) → AreBelow n table → Has (λ r. AreBelow n r.1) (old_desc_at P array wanted start at table)
unfolding old_desc_at
old_has n P array wanted start at table b = any_has _ (λ k. choose_has _ (any_has _ (λ s. pure_has (k, table) b)) (refuse_has _))

desc_has : (n : ℕ) (P : ProgramTables) (array : Bool) (wanted : Kind) (start : ℕ) (table : Table) → AreBelow n table → Has (λ r. AreBelow n r.1) (desc_at P array wanted start table)
unfolding desc_at
desc_has n P array wanted start table b = from_has (λ at. any_has _ (λ tag. choose_has _ (old_has n P array wanted start at table b) (choose_has _ (new_has n P array wanted start table b) (refuse_has _))))

pub still_fits : (w v : Work) (P : ProgramTables) (array : Bool) (wanted : Kind) (start : ℕ) (kind : Kind) (p q : Place)
    → v.nodes ≡ w.nodes → v.cells ≡ w.cells → desc_at P array wanted start w.handles p ≡ Ok ((kind, v.handles), q) → Fits w → Fits v
still_fits w v P array wanted start kind p q nodes cells e f = record {
  nodes = rw (nodes, cells) f.nodes;
  cells = rw cells f.cells;
  objects = rw nodes ((desc_has (length w.nodes.items) P array wanted start w.handles f.objects).of p q (kind, v.handles) e);
}
