use Rattle.std.proofs.Common.{◌≡◌, Ok}
use Rattle.nr_message.specs.Text.{hello}
use Rattle.nr_message.specs.Reading.{hello_of}
use Rattle.nr_message.specs.Writing.{hello_text}
use Rattle.nr_message.proofs.Written.{of_text, hello_spelled}
use Rattle.nr_message.proofs.Backs.{hello_back}
use Rattle.nr_message.proofs.write.hello.hello_bytes.Goals as goal

pub returns-clause-spelled : goal.returns-clause-spelled
returns-clause-spelled c = of_text (λ b. b.items) (hello_text c.args.m.now) (λ z. hello c.args.m.now z) (hello_spelled c.args.m.now) c.written.result c.written.ensures.text c.written.ensures.fits

pub returns-clause-back : goal.returns-clause-back
returns-clause-back c = of_text (λ b. b.items) (hello_text c.args.m.now) (λ z. hello_of z ≡ Ok c.args.m.now) (λ h. hello_back c.args.m.now (hello_text c.args.m.now) (hello_spelled c.args.m.now h)) c.written.result c.written.ensures.text c.written.ensures.fits
