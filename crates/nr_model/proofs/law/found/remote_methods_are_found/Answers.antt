use Rattle.std.proofs.Common.{◌≡◌, ◌&&◌, subst}
use Rattle.std.specs.Prelude.{Some, ◌==◌}
use Rattle.std.proofs.lemmas.Bool.{and_parts, eqb-true}
use Rattle.nr_prog.specs.Members.{is_static}
use Rattle.nr_linked.specs.Selection.{is_public, static_named}
use Rattle.nr_linked.proofs.Declaring.{static_found}
use Rattle.nr_model.proofs.law.found.remote_methods_are_found.Goals as goal

pub returns : goal.returns
returns c = λ p s m i facts remote is.
    let a = and_parts (i.«class» == s) (is_public i.flags && is_static i.flags) remote in
    let b = and_parts (is_public i.flags) (is_static i.flags) a.1 in
    subst (λ s. static_named p s i.name i.desc ≡ Some m) (eqb-true i.«class» s a.0) (static_found p facts.linked m i is b.0 b.1)
