use Rattle.std.proofs.Common.{sym, ap, subst, ◌∙◌}
use Rattle.std.specs.Prelude.{All, List}
use Rattle.nr_prog.specs.declared.member.Method.{Method}
use Rattle.nr_prog.specs.declared.parts.ClassParts.{ClassParts}
use Rattle.nr_link.specs.Entries.{HasTexts}
use Rattle.nr_link.proofs.Texts.{have_texts}
use Rattle.nr_link.proofs.outline.add_class.Goals as goal

pub add_methods-requires : goal.add_methods-requires
add_methods-requires c =
    let e = c.as_slice-declared.ensures ∙ ap (λ (p : ClassParts). p.methods) c.parts.ensures.parts in
    subst (λ (ms : List Method). All (HasTexts c.args.loaded.class.pool) ms) (sym e) (have_texts c.args.loaded.class c.parts.ensures.formed)
