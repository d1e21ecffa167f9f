use Rattle.std.proofs.Common.{◌≡◌, None, subst}
use Rattle.nr_prog.specs.declared.parts.ClassParts.{ClassParts}
use Rattle.nr_prog.specs.Rules.{form_fault}
use Rattle.std.specs.List.{All}
use Rattle.nr_prog.specs.Pool.{IsText}
use Rattle.nr_prog.proofs.FormLaw.{formed}
use Rattle.nr_prog.proofs.class.Class.parts.Goals as goal

pub returns-clause-formed : goal.returns-clause-formed
returns-clause-formed c = formed c.args.self.now (subst (λ (p : ClassParts). All IsText p.pool) c.self.view_is c.self.invariant.2) (subst (λ (p : ClassParts). form_fault p ≡ None) c.self.view_is c.self.invariant.0)
