use Rattle.std.proofs.Common.{◌≡◌, ◌++◌, codes, OnOk, sym, ap, subst, ◌∙◌, append_assoc}
use Rattle.std.specs.Fmt.{decimal}
use Rattle.nr_cli.proofs.spelling.load.put_profile.Goals as goal

pub returns : goal.returns
returns c =
    subst (λ z. OnOk c.bytes.result (c.bytes.new.self ≡ c.args.text.now ++ z))
    (c.as_bytes.ensures.value ∙ c.in_ok-format.ensures.ok ∙ ap (λ z. codes "OutOfProfile " ++ z) (sym (append_assoc (decimal c.args.at) (codes " ") (decimal c.args.code))))
    c.bytes.ensures.ok
