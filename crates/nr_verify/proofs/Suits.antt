-- What a program's facts say of a method's code.
use Rattle.std.proofs.Common.{◌≡◌, ℕ, zero, suc, ◌+◌, ◌<◌, ◌≤◌, List, [], ◌∷◌, length, get_or, refl, sym, ap, ◌∙◌, arith, Bool, true, false}
use Rattle.std.specs.Prelude.{Option, Some, None, IsTrue}
use Rattle.std.specs.Option.{IfSome, option_and_then, option_map_or}
use Rattle.std.proofs.lemmas.Bool.{and_from}
use Rattle.nr_prog.specs.declared.body.instruction.Instr.{Instr}
use Rattle.nr_prog.specs.declared.body.whole.Body.{Body}
use Rattle.nr_prog.specs.Offsets.{IsAscendingBy, IsInOrder}
use Rattle.nr_prog.proofs.Offsets.{standing_in_order}
use Rattle.nr_linked.specs.declared.program.tables.MethodInfo.{MethodInfo}
use Rattle.nr_linked.specs.declared.program.tables.ProgramTables.{ProgramTables}
use Rattle.nr_linked.specs.declared.program.tables.Resolved.{Resolved}
use Rattle.nr_linked.specs.declared.program.types.VFrame.{VFrame}
use Rattle.nr_linked.specs.Facts.{ProgramFacts}
use Rattle.nr_linked.specs.Layout.{MapsStand}
use Rattle.nr_linked.specs.Linked.{handlers_of}
use Rattle.nr_linked.specs.Programs.{method_at}
use Rattle.nr_linked.specs.Sites.{Site, first_offset, site_among}
use Rattle.nr_linked.specs.Suited.{is_suited}
use Rattle.nr_typelaws.proofs.Sound.{this_one, other_one, site_above, Behind, behind, all_rise}
use Rattle.nr_verify.specs.Walking.{HasMapsInOrder, are_suited}
use Rattle.nr_verify_ops.specs.Sites.{HasCodeInOrder}

-- ---- instructions suit their rows

all_suited : (P : ProgramTables) (is : List Instr) (rs : List Resolved) → Behind is → length rs ≡ length is
    → ((at : ℕ) (s : Site) → site_among is rs at ≡ Some s → IsTrue (is_suited P s)) → IsTrue (are_suited P is rs)
all_suited P [] rs up l suited = refl
all_suited P (i ∷ is) [] up l suited = absurd (omega (arith, l))
all_suited P (i ∷ is) (r ∷ rs) up l suited =
    let s : Site = record { instr = i; resolved = r; next = first_offset is } in
    and_from (is_suited P s) (are_suited P is rs) (suited i.at s (this_one i.at s (site_among is rs i.at)))
    (all_suited P is rs (behind i.at is up) (omega (arith, l)) (λ at s e. suited at s (other_one i.at at _ s (site_among is rs at) (site_above i.at is rs at s up e) e)))

-- ---- frame maps at rising offsets

above : (is : List Instr) (n : ℕ) (es : List (ℕ × VFrame)) → MapsStand is n es → (k : ℕ) (d : ℕ × VFrame) → k < length es → n ≤ (get_or es k d).0
above is n [] s k d l = absurd (omega arith)
above is n (e ∷ es) s zero d l = s.0
above is n (e ∷ es) s (suc k) d l = let a = above is (e.0 + 1) es s.2 k d (omega arith) in let b = s.0 in omega (arith, a, b)

ascends : (is : List Instr) (n : ℕ) (es : List (ℕ × VFrame)) → MapsStand is n es → IsAscendingBy (λ (e : ℕ × VFrame). e.0) es
ascends is n [] s i j d l m = absurd (omega arith)
ascends is n (e ∷ es) s i zero d l m = absurd (omega arith)
ascends is n (e ∷ es) s zero (suc j) d l m = let a = above is (e.0 + 1) es s.2 j d (omega arith) in omega (arith, a)
ascends is n (e ∷ es) s (suc i) (suc j) d l m = ascends is (e.0 + 1) es s.2 i j d (omega arith) (omega arith)

-- ---- a method of a program

module _ (P : ProgramTables) (facts : ProgramFacts P) (n : ℕ) (m : MethodInfo) (body : Body) (is : method_at P n ≡ Some m) (has : m.body ≡ Some body) where
  pub suited : IsTrue (are_suited P body.instrs m.resolved)
  suited =
      let laid = facts.laid_out n m body is has in
      all_suited P body.instrs m.resolved (all_rise body.instrs laid.order) laid.one_each
      (λ at s here. facts.suited n m at s is (ap (λ o. option_and_then (λ (body : Body). site_among body.instrs m.resolved at) o) has ∙ here))

  pub maps : HasMapsInOrder m
  maps = ascends body.instrs 0 m.maps (facts.laid_out n m body is has).maps

  pub order : HasCodeInOrder m
  order = by_body m.body has
    where
      by_body : (o : Option Body) → o ≡ Some body → IfSome o (λ body. IsInOrder body.instrs)
      by_body None e = tt
      by_body (Some b) e = Rattle.std.proofs.Common.subst (λ (b : Body). IsInOrder b.instrs) (sym (same b e)) (standing_in_order body.instrs (facts.laid_out n m body is has).order)
        where
          same : (b : Body) → Some b ≡ Some body → b ≡ body
          same b e = cc

  pub handlers : length body.handlers ≤ 65536
  handlers =
      let few = (facts.methods n m is).few_handlers in
      let same : length (handlers_of m) ≡ length body.handlers = ap (λ o. length (option_map_or (λ (b : Body). b.handlers) o [])) has in
      omega (arith, few, same)
