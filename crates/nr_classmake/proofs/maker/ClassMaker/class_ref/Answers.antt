use Rattle.nr_classmake.specs.Items.{ClassNamed}
use Rattle.nr_classmake.proofs.Parts.{places}
use Rattle.nr_classmake.proofs.maker.ClassMaker.class_ref.Goals as goal

pub returns : goal.returns
returns c =
    let p = places c.class_ref.result _ c.args.self.now c.class_ref.new.self (ClassNamed c.args.name.now) c.self.view_is c.class_ref.ensures in
    record { made = p.0; place = p.1 }
