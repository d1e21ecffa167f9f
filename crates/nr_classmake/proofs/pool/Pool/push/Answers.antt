use Rattle.std.proofs.Common.{◌≡◌, ◌<◌, ◌+◌, ◌^◌, length, arith, sym, ap, subst, length-append}
use Rattle.std.specs.Prelude.{◌++◌, ◌∷◌, []}
use Rattle.nr_prog.specs.declared.pool.PoolEntry.TheVariants.{Unused}
use Rattle.nr_classmake.proofs.Index.{IsWhole, noted_seen, noted_pushed, pushed}
use Rattle.nr_classmake.proofs.pool.Pool.push.Goals as goal

pub invariant_of-self-in_err-push : goal.invariant_of-self-in_err-push
invariant_of-self-in_err-push c =
    subst (λ xs. IsWhole c.insert.new.self xs) (sym c.in_err-push.ensures.items)
    (noted_seen c.args.entry _ c.args.self.now c.self.inside.index c.insert.new.self c.args.key _ c.self.invariant c.self.view_is c.requires.kept c.requires.key c.requires.new c.in_ok-insert.ensures.updates)

pub invariant_of-self-else-wide : goal.invariant_of-self-else-wide
invariant_of-self-else-wide c =
    let len = ap length c.as_slice-slot.ensures.value in
    let room : length c.self.inside.entries.items + 1 < 2 ^ 16 = omega arith in
    subst (λ xs. IsWhole c.insert.new.self xs) (sym c.in_ok-push.ensures.items)
    (noted_pushed c.args.entry _ c.args.self.now c.self.inside.index c.insert.new.self c.args.key _ c.self.invariant c.self.view_is c.requires.kept c.requires.key c.requires.new c.in_ok-insert.ensures.updates len room c.requires.short)

pub invariant_of-self-in_err-push-2 : goal.invariant_of-self-in_err-push-2
invariant_of-self-in_err-push-2 c =
    let len = ap length c.as_slice-slot.ensures.value in
    let room : length c.self.inside.entries.items + 1 < 2 ^ 16 = omega arith in
    let same : c.push-then-wide.new.self.items ≡ c.self.inside.entries.items ++ c.args.entry ∷ [] = cc (c.in_ok-push.ensures.items, c.in_err-push-2.ensures.items) in
    subst (λ xs. IsWhole c.insert.new.self xs) (sym same)
    (noted_pushed c.args.entry _ c.args.self.now c.self.inside.index c.insert.new.self c.args.key _ c.self.invariant c.self.view_is c.requires.kept c.requires.key c.requires.new c.in_ok-insert.ensures.updates len room c.requires.short)

pub invariant_of-self-in-Continue-branch-3 : goal.invariant_of-self-in-Continue-branch-3
invariant_of-self-in-Continue-branch-3 c =
    let len = ap length c.as_slice-slot.ensures.value in
    let room : length c.self.inside.entries.items + 2 < 2 ^ 16 = grind arith in
    let first = noted_pushed c.args.entry c.self.inside.entries.items c.args.self.now c.self.inside.index c.insert.new.self c.args.key _ c.self.invariant c.self.view_is c.requires.kept c.requires.key c.requires.new c.in_ok-insert.ensures.updates len (omega arith) c.requires.short in
    let same : c.push-then-wide.new.self.items ≡ (c.self.inside.entries.items ++ c.args.entry ∷ []) ++ Unused ∷ [] = cc (c.in_ok-push.ensures.items, c.in_ok-push-2.ensures.items) in
    subst (λ xs. IsWhole c.insert.new.self xs) (sym same)
    (pushed Unused _ c.insert.new.self first (omega (arith, length-append c.self.inside.entries.items (c.args.entry ∷ []))) (omega arith) (λ h. absurd cc))
