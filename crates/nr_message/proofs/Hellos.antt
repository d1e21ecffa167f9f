-- The law of hellos.
use Rattle.nr_base.proofs.Laws.{Reads, give_law, then_law}
use Rattle.nr_message.specs.Text.{hello}
use Rattle.nr_message.specs.Reading.{hello_at}
use Rattle.nr_message.proofs.Parts.{two_law, bytes_law, name_law}

pub hello_law : Reads hello_at hello
unfolding hello_at
hello_law = then_law two_law (λ version. then_law (bytes_law 20) (λ digest. then_law name_law (λ service. give_law _)))
