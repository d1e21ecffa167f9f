use Rattle.std.proofs.Common.{refl}
use Rattle.std.proofs.lemmas.Result.{err_from_is_err_and}
use Rattle.nr_prog.proofs.FormLaw.{formed, only_free}
use Rattle.nr_prog.proofs.class.Class.from_parts.Goals as goal

pub returns-clause-formed : goal.returns-clause-formed
returns-clause-formed c = (refl, formed c.args.parts c.in_ok-forms.ensures.texts c.in_ok-forms.ensures.fault)

pub returns-in_err-forms-clause-only : goal.returns-in_err-forms-clause-only
returns-in_err-forms-clause-only c =
    λ h. let p = err_from_is_err_and c.from_residual.result c.from_residual.ensures.1 in
    rw (p.1, p.2) (only_free c.args.parts c.in_err-forms.field-0.0 c.in_err-forms.ensures.fault h)
