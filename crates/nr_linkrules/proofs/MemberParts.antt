-- The parts of the rules on members, where none finds a fault.
use Rattle.std.proofs.Common.{◌≡◌, ℕ, true, not, ◌||◌}
use Rattle.std.specs.Prelude.{None}
use Rattle.std.specs.Option.{option_or}
use Rattle.nr_prog.specs.declared.member.Field.{Field}
use Rattle.nr_prog.specs.declared.member.Method.{Method}
use Rattle.nr_prog.specs.declared.parts.ClassParts.{ClassParts}
use Rattle.nr_linked.specs.declared.program.tables.ClassInfo.{ClassInfo}
use Rattle.nr_linked.specs.declared.program.tables.ProgramTables.{ProgramTables}
use Rattle.nr_linked.specs.Programs.{is_interface, methods_of}
use Rattle.nr_links.specs.Rules.{has_interface_members}
use Rattle.nr_linkrules.specs.declared.fault.LinkFault.TheVariants as faults
use Rattle.nr_linkrules.specs.ClassRules.{field_fault, has_no_initialiser, members_fault, method_fault, override_fault}
use Rattle.nr_linkrules.specs.Faults.{first_of, unless}
use Rattle.nr_linkrules.proofs.NoFault.{both_none, passes}

pub record MembersKept (P : ProgramTables) (c : ℕ) (e : ClassInfo) (parts : ClassParts) : Type 0 where
  pub initialiser : has_no_initialiser parts ≡ true
  pub interface : (not (is_interface P c) || has_interface_members parts) ≡ true
  pub overrides : first_of (override_fault P e.name) (methods_of P c) ≡ None
  pub fields : first_of (λ (f : Field). field_fault P parts.pool f.desc) parts.fields ≡ None
  pub methods : first_of (λ (m : Method). method_fault P parts.pool m.desc) parts.methods ≡ None

pub members_kept : (P : ProgramTables) (c : ℕ) (e : ClassInfo) (parts : ClassParts) → members_fault P c e parts ≡ None → MembersKept P c e parts
unfolding members_fault
members_kept P c e parts none =
    let methods = first_of (λ (m : Method). method_fault P parts.pool m.desc) parts.methods in
    let fields = first_of (λ (f : Field). field_fault P parts.pool f.desc) parts.fields in
    let overrides = first_of (override_fault P e.name) (methods_of P c) in
    let interface = unless (not (is_interface P c) || has_interface_members parts) (faults.InterfaceMember e.name) in
    let initialiser = unless (has_no_initialiser parts) (faults.Initialiser e.name) in
    let a = both_none initialiser (option_or interface (option_or overrides (option_or fields methods))) none in
    let b = both_none interface (option_or overrides (option_or fields methods)) a.1 in
    let c = both_none overrides (option_or fields methods) b.1 in
    let d = both_none fields methods c.1 in
    record { initialiser = passes _ _ a.0; interface = passes _ _ b.0; overrides = c.0; fields = d.0; methods = d.1 }
