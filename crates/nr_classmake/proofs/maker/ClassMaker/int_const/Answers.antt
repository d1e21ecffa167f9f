use Rattle.std.proofs.Common.{subst, rules, w32}
use Rattle.std.specs.Int.RustNames.{FitsSigned}
use Rattle.std.proofs.lemmas.Int.{to_z-of_z}
use Rattle.nr_prog.specs.declared.pool.PoolEntry.TheVariants.{Integer}
use Rattle.nr_classmake.specs.Items.{IntNumber}
use Rattle.nr_classmake.specs.Places.{with_entry}
use Rattle.nr_classmake.specs.Words.{Makes}
use Rattle.nr_classmake.proofs.Parts.{places}
use Rattle.nr_classmake.proofs.maker.ClassMaker.int_const.Goals as goal

pub returns : goal.returns
returns c =
    let f : FitsSigned w32 c.args.value = search rules in
    let p = places c.entry.result _ c.args.self.now c.entry.new.self (IntNumber c.args.value) c.self.view_is
    (subst (λ n. Makes c.entry.result c.self.inside.pool c.entry.new.self (with_entry (Integer n) c.self.inside.pool)) (to_z-of_z w32 c.args.value f) c.entry.ensures) in
    record { made = p.0; place = p.1 }
