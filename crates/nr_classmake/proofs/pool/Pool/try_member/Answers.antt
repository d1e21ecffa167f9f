use Rattle.std.proofs.Common.{subst}
use Rattle.nr_classmake.specs.Making.{class_ref, name_and_type, member_ref, ref_entry, and_then}
use Rattle.nr_classmake.specs.Places.{with_entry}
use Rattle.nr_classmake.specs.Words.{Tries}
use Rattle.nr_classmake.proofs.Steps.{hands_on, goes_on, entry_keeps, class_keeps, name_and_type_keeps, then_keeps}
use Rattle.nr_classmake.proofs.pool.Pool.try_member.Goals as goal

pub returns-in_err-class : goal.returns-in_err-class
unfolding member_ref
returns-in_err-class c =
    let member = name_and_type c.args.name.now c.args.desc.now in
    hands_on (class_ref c.args.class.now) (λ k. and_then member (λ m. with_entry (ref_entry c.args.tag k m))) c.from_residual.result c.in_err-class.field-0.0 c.args.self.now c.try_class.new.self c.from_residual.ensures.1
    (λ k. then_keeps member (λ m. with_entry (ref_entry c.args.tag k m)) (name_and_type_keeps c.args.name.now c.args.desc.now) (λ m. entry_keeps (ref_entry c.args.tag k m))) c.in_err-class.ensures

pub returns-in_err-member : goal.returns-in_err-member
unfolding member_ref
returns-in_err-member c =
    let member = name_and_type c.args.name.now c.args.desc.now in
    goes_on (class_ref c.args.class.now) (λ k. and_then member (λ m. with_entry (ref_entry c.args.tag k m))) c.from_residual-in_err-member.result c.in_ok-class.class c.args.self.now c.try_class.new.self c.try_name_and_type.new.self (class_keeps c.args.class.now) c.in_ok-class.ensures
    (hands_on member (λ m. with_entry (ref_entry c.args.tag c.in_ok-class.class m)) c.from_residual-in_err-member.result c.in_err-member.field-0.0 c.try_class.new.self c.try_name_and_type.new.self c.from_residual-in_err-member.ensures.1 (λ m. entry_keeps (ref_entry c.args.tag c.in_ok-class.class m)) c.in_err-member.ensures)

pub returns : goal.returns
unfolding member_ref
returns c =
    let member = name_and_type c.args.name.now c.args.desc.now in
    goes_on (class_ref c.args.class.now) (λ k. and_then member (λ m. with_entry (ref_entry c.args.tag k m))) c.place.result c.in_ok-class.class c.args.self.now c.try_class.new.self c.place.new.self (class_keeps c.args.class.now) c.in_ok-class.ensures
    (goes_on member (λ m. with_entry (ref_entry c.args.tag c.in_ok-class.class m)) c.place.result c.in_ok-member.member c.try_class.new.self c.try_name_and_type.new.self c.place.new.self (name_and_type_keeps c.args.name.now c.args.desc.now) c.in_ok-member.ensures
    (subst (λ e. Tries c.place.result c.try_name_and_type.new.self c.place.new.self (with_entry e c.try_name_and_type.new.self)) c.ref_entry.ensures c.place.ensures))
