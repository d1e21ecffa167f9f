use Rattle.std.proofs.Common.{◌≡◌, length}
use Rattle.nr_outside.specs.Link.{link_pieces}
use Rattle.nr_outside.proofs.wire.link.Link.advance.Given as goal

abbrev pub invariant-pieces : goal.invariant-pieces
invariant-pieces l = record {
  pieces : link_pieces l.self ≡ link_pieces l.fn.self;
  sent : l.self.sent ≡ l.fn.self.sent;
  given : l.self.given ≡ l.fn.self.given;
}

abbrev pub decreases-pieces : goal.decreases-pieces
decreases-pieces l = length l.self.later.items
