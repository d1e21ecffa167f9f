use Rattle.nr_code.proofs.Bodies.{decoded_is, decoded_gives}
use Rattle.nr_code.proofs.whole.decode_code.Goals as goal

pub returns-clause-found : goal.returns-clause-found
returns-clause-found c = decoded_is c.args.class.now c.args.method.now c.args.code.now c.body.result
    (record { formed = c.know_class.ensures.formed; texts = c.know_class.ensures.texts; method = c.requires.method; len = c.requires.sized.bytes })
    (record { bytes = c.know_code.ensures.bytes; maps = c.know_code.ensures.maps }) c.body.ensures

pub returns-clause-only : goal.returns-clause-only
returns-clause-only c = λ b is. decoded_gives c.args.class.now c.args.method.now c.args.code.now c.body.result b
    (record { formed = c.know_class.ensures.formed; texts = c.know_class.ensures.texts; method = c.requires.method; len = c.requires.sized.bytes }) c.body.ensures is
