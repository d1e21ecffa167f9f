use Rattle.std.proofs.Common.{sym, subst}
use Rattle.nr_classmake.specs.Calls.{ref_item}
use Rattle.nr_classmake.specs.Words.{Makes}
use Rattle.nr_classmake.proofs.Parts.{places, placed_ref}
use Rattle.nr_classmake.proofs.maker.ClassMaker.member_ref.Goals as goal

pub returns : goal.returns
returns c =
    let p = places c.member_ref.result _ c.args.self.now c.member_ref.new.self (ref_item c.args.tag c.args.class.now c.args.name.now c.args.desc.now) c.self.view_is
    (subst (λ m. Makes c.member_ref.result c.self.inside.pool c.member_ref.new.self (m c.self.inside.pool)) (sym (placed_ref c.args.tag c.args.class.now c.args.name.now c.args.desc.now)) c.member_ref.ensures) in
    record { made = p.0; place = p.1 }
