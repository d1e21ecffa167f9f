-- What a list ends as, where a `&mut` into it is lent.
use Rattle.std.specs.Prelude.{ℕ, List, length, Option, slice_set}
use Rattle.std.specs.List.{refill}
use Rattle.std.specs.Borrow.{Lends, LendsIf, Fml, RattleType, MutBor, Array}
use Rattle.nr_base.specs.contracts.items.Items.{the_row}

-- once the borrow r ends, the elements are those that r shows last
abbrev pub LendsItems : (T : RattleType) → MutBor (List T.Denot) → MutBor (List T.Denot) → Fml
LendsItems T items r = Lends (the_row T) (Array T 0) items r (refill (length items.now) items.now)

-- once the borrow r ends, the element at i is what r shows last; with no borrow the list stays as it is
abbrev pub LendsItem : (T : RattleType) → MutBor (List T.Denot) → ℕ → Option (MutBor T.Denot) → Fml
LendsItem T items i r = LendsIf (the_row T) T items r (slice_set items.now i) items.now
