-- What was sent on the connections of a wire in memory, by their number.
use Rattle.std.proofs.Common.{◌≡◌, ◌≤◌, ◌<◌, Bool, true, false, List, [], ◌∷◌, ℕ, Some, map, length, get_or, refl, ap, sym, suc, zero, arith}
use Rattle.std.specs.List.{slice_get}
use Rattle.nr_outside.specs.Wire.{Connection, connections}
use Rattle.nr_outside.specs.Link.{connection_of}
use Rattle.nr_outside.specs.declared.wire.link.Link.{Link}

-- a closed one
pub sent_past : (opened : Bool) (past : List Link) (sent given to_come : List ℕ) (k : ℕ) (l : Link) → k < length past → l ≡ get_or past k l
    → slice_get (map (λ c. c.sent) (connections opened (map connection_of past) sent given to_come)) k ≡ Some l.sent.items
sent_past opened [] sent given to_come k l lt is = absurd (omega arith)
sent_past true (p ∷ past) sent given to_come zero l lt is = ap (λ x. Some x.sent.items) (sym is)
sent_past true (p ∷ past) sent given to_come (suc k) l lt is = sent_past true past sent given to_come k l (omega arith) is
sent_past false (p ∷ past) sent given to_come zero l lt is = ap (λ x. Some x.sent.items) (sym is)
sent_past false (p ∷ past) sent given to_come (suc k) l lt is = sent_past false past sent given to_come k l (omega arith) is

-- the open one
pub sent_live : (opened : Bool) (past : List Connection) (sent given to_come : List ℕ) (k : ℕ)
    → k < length (connections opened past sent given to_come) → length past ≤ k
    → slice_get (map (λ c. c.sent) (connections opened past sent given to_come)) k ≡ Some sent
sent_live true [] sent given to_come zero lt le = refl
sent_live true [] sent given to_come (suc k) lt le = absurd (omega arith)
sent_live true (p ∷ past) sent given to_come zero lt le = absurd (omega arith)
sent_live true (p ∷ past) sent given to_come (suc k) lt le = sent_live true past sent given to_come k (omega arith) (omega arith)
sent_live false past sent given to_come k lt le = absurd (omega arith)
