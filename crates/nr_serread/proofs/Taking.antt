-- Each slot has a byte or more.
use Rattle.std.proofs.Common.{◌≡◌, ◌||◌, is_some, ℕ, zero, suc, arith, ap, length, Bool, true, false, List, [], ◌∷◌, Option, Some, None, Result, Ok, Err, refl}
use Rattle.std.specs.Int.{w8, w16, w32, w64}
use Rattle.nr_base.specs.Place.{Place}
use Rattle.nr_base.specs.Reader.{choose}
use Rattle.nr_base.proofs.Laws.{ok_is}
use Rattle.nr_base.proofs.Takes.{TakesAll, pure_takes, refuse_takes, bind_takes, choose_takes, fewer_takes, from_takes, with_fault_takes, number_takes, run_takes, spanned_takes}
use Rattle.nr_linked.specs.declared.program.kind.Base.{Base}
use Rattle.nr_linked.specs.declared.program.kind.Base.TheVariants as bases
use Rattle.nr_linked.specs.declared.program.kind.Kind.{Kind}
use Rattle.nr_linked.specs.declared.program.tables.ProgramTables.{ProgramTables}
use Rattle.nr_linked.specs.declared.program.tables.SlotInfo.{SlotInfo}
use Rattle.nr_linked.specs.Kinds.{class_in, is_reference}
use Rattle.nr_serform.specs.Handles.{Table}
use Rattle.nr_serread.specs.declared.due.Due.{Due}
use Rattle.nr_serread.specs.declared.fault.StreamFault.{StreamFault}
use Rattle.nr_serread.specs.Faults.{of_short}
use Rattle.nr_serread.specs.Items.{Read, u1_at, u2_at, u4_at, u8_at, utf_at, told_object_at, told_class_at, given_by, due_at}
use Rattle.nr_serread.specs.Describing.{string_at, field_at, fields_at, uid_at, own_at, no_super_at, new_super_at, super_at, supers_at, name_at, behind_name_at, new_desc_at, old_desc_at, desc_at}
use Rattle.nr_serread.specs.Reading.{State, number_at, open_at, open_slots_at, object_at, array_at, old_content_at, content_at, slot_at, next_at, is_done, kept}

any : {A : Type 0} {r : Read A} (n : ℕ) → TakesAll n r → TakesAll 0 r
any n t = fewer_takes n 0 (omega arith) t

u1_takes : TakesAll 1 u1_at
u1_takes = with_fault_takes 1 of_short (number_takes w8)

u2_takes : TakesAll 2 u2_at
u2_takes = with_fault_takes 2 of_short (number_takes w16)

u4_takes : TakesAll 4 u4_at
u4_takes = with_fault_takes 4 of_short (number_takes w32)

u8_takes : TakesAll 8 u8_at
u8_takes = with_fault_takes 8 of_short (number_takes w64)

utf_takes : TakesAll 0 utf_at
unfolding utf_at
utf_takes = from_takes 0 (λ at. bind_takes 0 0 (any 2 u2_takes) (λ len. with_fault_takes 0 _ (fewer_takes len 0 (omega arith) (run_takes len))))

given_by_takes : {A : Type 0} (r : Result A StreamFault) → TakesAll 0 (given_by r)
unfolding given_by
given_by_takes (Ok x) = record { takes = λ p q y e. omega (arith, ap (λ (a : _ × Place). length a.1.rest) (ok_is _ _ e)) }
given_by_takes (Err d) = record { takes = λ p q y e. absurd cc }

told_object_takes : (at : ℕ) (table : Table) → TakesAll 0 (told_object_at at table)
unfolding told_object_at
told_object_takes at table = bind_takes 0 0 (any 4 u4_takes) (λ n. given_by_takes _)

told_class_takes : (at : ℕ) (table : Table) → TakesAll 0 (told_class_at at table)
unfolding told_class_at
told_class_takes at table = bind_takes 0 0 (any 4 u4_takes) (λ n. given_by_takes _)

due_takes : {A : Type 0} (item : Read A) (due : List ℕ) → TakesAll 0 item → TakesAll 0 (due_at item due)
unfolding due_at
due_takes item due t = from_takes 0 (λ at. bind_takes 0 0 (spanned_takes 0 t) (λ got. given_by_takes _))

string_takes : (desc : List ℕ) (table : Table) → TakesAll 0 (string_at desc table)
unfolding string_at
string_takes desc table = choose_takes 0 _
    (bind_takes 0 0 (due_takes u1_at _ (any 1 u1_takes)) (λ x. bind_takes 0 0 (due_takes u4_at _ (any 4 u4_takes)) (λ y. pure_takes _)))
    (bind_takes 0 0 (due_takes u1_at _ (any 1 u1_takes)) (λ x. bind_takes 0 0 (due_takes utf_at _ utf_takes) (λ y. pure_takes _)))

field_takes : (s : SlotInfo) (table : Table) → TakesAll 0 (field_at s table)
unfolding field_at
field_takes s table = bind_takes 0 0 (due_takes u1_at _ (any 1 u1_takes)) (λ x. bind_takes 0 0 (due_takes utf_at _ utf_takes) (λ y. choose_takes 0 _ (string_takes s.desc table) (pure_takes _)))

fields_takes : (ss : List SlotInfo) (table : Table) → TakesAll 0 (fields_at ss table)
unfolding fields_at
fields_takes [] table = pure_takes _
fields_takes (s ∷ ss) table = bind_takes 0 0 (field_takes s table) (λ t. fields_takes ss t)

uid_takes : (P : ProgramTables) (kind : Kind) → TakesAll 0 (uid_at P kind)
unfolding uid_at
uid_takes P kind = from_takes 0 (λ at. bind_takes 0 0 (any 8 u8_takes) (λ n. choose_takes 0 _ (pure_takes _) (refuse_takes 0 _)))

own_takes : (P : ProgramTables) (kind : Kind) (table : Table) → TakesAll 0 (own_at P kind table)
unfolding own_at
own_takes P kind table = bind_takes 0 0 (uid_takes P kind) (λ x. bind_takes 0 0 (due_takes u1_at _ (any 1 u1_takes)) (λ y. bind_takes 0 0 (due_takes u2_at _ (any 2 u2_takes)) (λ z.
    bind_takes 0 0 (fields_takes _ _) (λ t. bind_takes 0 0 (due_takes u1_at _ (any 1 u1_takes)) (λ v. pure_takes t)))))

no_super_takes : (table : Table) → TakesAll 0 (no_super_at table)
unfolding no_super_at
no_super_takes table = from_takes 0 (λ at. bind_takes 0 0 (any 1 u1_takes) (λ tag. choose_takes 0 _ (pure_takes _)
    (choose_takes 0 _ (bind_takes 0 0 (told_class_takes at table) (λ e. refuse_takes 0 _))
    (choose_takes 0 _ (from_takes 0 (λ name. bind_takes 0 0 utf_takes (λ text. refuse_takes 0 _))) (refuse_takes 0 _)))))

new_super_takes : (P : ProgramTables) (c : ℕ) (table : Table) → TakesAll 0 (new_super_at P c table)
unfolding new_super_at
new_super_takes P c table = from_takes 0 (λ name. bind_takes 0 0 utf_takes (λ text. choose_takes 0 _ (own_takes P _ table) (refuse_takes 0 _)))

super_takes : (P : ProgramTables) (c : ℕ) (table : Table) → TakesAll 0 (super_at P c table)
unfolding super_at
super_takes P c table = from_takes 0 (λ at. bind_takes 0 0 (any 1 u1_takes) (λ tag.
    choose_takes 0 _ (bind_takes 0 0 (told_class_takes at table) (λ k. choose_takes 0 _ (pure_takes _) (refuse_takes 0 _)))
    (choose_takes 0 _ (bind_takes 0 0 (new_super_takes P c table) (λ t. pure_takes _)) (refuse_takes 0 _))))

supers_takes : (P : ProgramTables) (cs : List ℕ) (table : Table) → TakesAll 0 (supers_at P cs table)
unfolding supers_at
supers_takes P [] table = bind_takes 0 0 (no_super_takes table) (λ x. pure_takes _)
supers_takes P (c ∷ cs) table = bind_takes 0 0 (super_takes P c table) (λ r. choose_takes 0 _ (supers_takes P cs r.1) (pure_takes _))

name_takes : (P : ProgramTables) (array : Bool) (table : Table) → TakesAll 0 (name_at P array table)
unfolding name_at
name_takes P array table = from_takes 0 (λ at. bind_takes 0 0 utf_takes (λ text. given_by_takes _))

behind_takes : (P : ProgramTables) (kind : Kind) (table : Table) → TakesAll 0 (behind_name_at P kind table)
unfolding behind_name_at
behind_takes P kind table = bind_takes 0 0 (own_takes P kind table) (λ t. supers_takes P _ t)

new_takes : (P : ProgramTables) (array : Bool) (wanted : Kind) (start : ℕ) (table : Table) → TakesAll 0 (new_desc_at P array wanted start table)
unfolding new_desc_at
new_takes P array wanted start table = bind_takes 0 0 (name_takes P array table) (λ k. bind_takes 0 0 (given_by_takes _) (λ s.
    bind_takes 0 0 (behind_takes P k table) (λ t. pure_takes _)))

old_desc_takes : (P : ProgramTables) (array : Bool) (wanted : Kind) (start at : ℕ) (table : Table) → TakesAll 0 (old_desc_at P array wanted start at table)
unfolding old_desc_at
old_desc_takes P array wanted start at table = bind_takes 0 0 (told_class_takes at table) (λ k.
    choose_takes 0 _ (bind_takes 0 0 (given_by_takes _) (λ s. pure_takes _)) (refuse_takes 0 _))

desc_takes : (P : ProgramTables) (array : Bool) (wanted : Kind) (start : ℕ) (table : Table) → TakesAll 0 (desc_at P array wanted start table)
unfolding desc_at
desc_takes P array wanted start table = from_takes 0 (λ at. bind_takes 0 0 (any 1 u1_takes) (λ tag.
    choose_takes 0 _ (old_desc_takes P array wanted start at table) (choose_takes 0 _ (new_takes P array wanted start table) (refuse_takes 0 _))))

number_one : (base : Base) → is_some (class_in base) ≡ false → TakesAll 1 (number_at base)
unfolding number_at
number_one bases.Bool e = from_takes 1 (λ at. bind_takes 1 0 u1_takes (λ n. choose_takes 0 _ (pure_takes _) (refuse_takes 0 _)))
number_one bases.Byte e = bind_takes 1 0 u1_takes (λ n. pure_takes _)
number_one bases.Char e = fewer_takes 2 1 (omega arith) (bind_takes 2 0 u2_takes (λ n. pure_takes _))
number_one bases.Short e = fewer_takes 2 1 (omega arith) (bind_takes 2 0 u2_takes (λ n. pure_takes _))
number_one bases.Int e = fewer_takes 4 1 (omega arith) (bind_takes 4 0 u4_takes (λ n. pure_takes _))
number_one bases.Long e = fewer_takes 8 1 (omega arith) (bind_takes 8 0 u8_takes (λ n. pure_takes _))
number_one (bases.Object c) e = absurd cc

open_takes : (d : Due) (start : ℕ) (kind : Kind) (table : Table) (count : ℕ) (slots : List Due) (s : State) → TakesAll 0 (open_at d start kind table count slots s)
unfolding open_at
open_takes d start kind table count slots s = choose_takes 0 _ (pure_takes _) (refuse_takes 0 _)

object_takes : (P : ProgramTables) (d : Due) (start : ℕ) (s : State) → TakesAll 0 (object_at P d start s)
unfolding object_at open_slots_at
object_takes P d start s = bind_takes 0 0 (desc_takes P false d.kind start s.table) (λ r. open_takes d start r.0 r.1 _ _ s)

array_takes : (P : ProgramTables) (d : Due) (start : ℕ) (s : State) → TakesAll 0 (array_at P d start s)
unfolding array_at
array_takes P d start s = bind_takes 0 0 (desc_takes P true d.kind start s.table) (λ r. from_takes 0 (λ at. bind_takes 0 0 (any 4 u4_takes) (λ size.
    choose_takes 0 _ (open_takes d start r.0 r.1 size _ s) (refuse_takes 0 _))))

old_takes : (P : ProgramTables) (d : Due) (start : ℕ) (s : State) → TakesAll 0 (old_content_at P d start s)
unfolding old_content_at
old_takes P d start s = bind_takes 0 0 (told_object_takes start s.table) (λ i. choose_takes 0 _ (pure_takes _) (refuse_takes 0 _))

content_takes : (P : ProgramTables) (d : Due) (s : State) → TakesAll 1 (content_at P d s)
unfolding content_at
content_takes P d s = from_takes 1 (λ at. bind_takes 1 0 u1_takes (λ tag. choose_takes 0 _ (pure_takes _) (choose_takes 0 _ (old_takes P d at s)
    (choose_takes 0 _ (object_takes P d at s) (choose_takes 0 _ (array_takes P d at s) (refuse_takes 0 _))))))

or_false : (a b : Bool) → (a || b) ≡ false → b ≡ false
or_false false b e = e
or_false true b e = absurd cc

slot_by : (P : ProgramTables) (d : Due) (s : State) (b : Bool) → is_reference d.kind ≡ b → TakesAll 1 (slot_at P d s)
unfolding slot_at choose
slot_by P d s true e = rw e (record { takes = λ p q x h. (content_takes P d s).takes p q x h })
slot_by P d s false e = rw e (record { takes = λ p q x h. (bind_takes 1 0 (number_one d.kind.base (or_false _ _ e)) (λ x. pure_takes (kept d x s))).takes p q x h })

pub slot_takes : (P : ProgramTables) (d : Due) (s : State) → TakesAll 1 (slot_at P d s)
slot_takes P d s = slot_by P d s (is_reference d.kind) refl

pub next_takes : (P : ProgramTables) (s : State) → is_done s ≡ false → TakesAll 1 (next_at P s)
unfolding next_at
next_takes P s e = by_due s.due e
  where
    by_due : (ds : List Due) → is_done (record { graph = s.graph; table = s.table; cells = s.cells; due = ds }) ≡ false → TakesAll 1 (next_at P (record { graph = s.graph; table = s.table; cells = s.cells; due = ds }))
    by_due [] e = absurd cc
    by_due (d ∷ ds) e = slot_takes P d _
