use Rattle.std.proofs.Common.{◌≡◌, ℕ, List, Option, Some, None, cond, sym, ap, ◌∙◌}
use Rattle.std.specs.Option.{unwrap_or, option_or}
use Rattle.std.proofs.lemmas.Map.Text.{btree_map_updates_str}
use Rattle.nr_prog.specs.declared.pool.PoolEntry.{PoolEntry}
use Rattle.nr_prog.specs.declared.pool.PoolEntry.TheVariants.{Utf8}
use Rattle.nr_prog.specs.TextNumbers.{has_text}
use Rattle.nr_prog.specs.Told.{found_in, told}
use Rattle.nr_prog.proofs.Numbered.{told_more}
use Rattle.nr_prog.proofs.form.texts.number.Goals as goal

pub returns-in-Some-clause-found : goal.returns-in-Some-clause-found
returns-in-Some-clause-found c =
    let was : told c.args.firsts.now c.in-Utf8.bytes ≡ Some c.in-Some.first.now = ap (told c.args.firsts.now) (sym c.as_slice.ensures) ∙ sym c.in-Some.ensures.value in
    sym (ap (λ (e : PoolEntry). found_in c.args.firsts.now c.args.index e) c.in-Utf8.is ∙ ap (λ (o : Option ℕ). unwrap_or o c.args.index) was)

pub returns-in_ok-insert-in-None-clause-found : goal.returns-in_ok-insert-in-None-clause-found
returns-in_ok-insert-in-None-clause-found c =
    let was : told c.args.firsts.now c.in-Utf8.bytes ≡ None = ap (told c.args.firsts.now) (sym c.as_slice.ensures) ∙ sym c.in-None.ensures.value in
    sym (ap (λ (e : PoolEntry). found_in c.args.firsts.now c.args.index e) c.in-Utf8.is ∙ ap (λ (o : Option ℕ). unwrap_or o c.args.index) was)

pub returns-in_ok-insert-in-None-clause-told : goal.returns-in_ok-insert-in-None-clause-told
returns-in_ok-insert-in-None-clause-told c = λ text.
    let firsts = c.args.firsts.now in
    let key : c.as_slice-in-None.result.now ≡ c.in-Utf8.bytes = c.as_slice-in-None.ensures in
    let was : told firsts c.as_slice-in-None.result.now ≡ None = ap (told firsts) (key ∙ sym c.as_slice.ensures) ∙ sym c.in-None.ensures.value in
    btree_map_updates_str c.as_slice-in-None.result.now firsts c.insert.new.self _ c.in_ok-insert-in-None.ensures.updates text
    ∙ told_more (told firsts) c.as_slice-in-None.result.now text c.args.index was
    ∙ ap (λ (t : List ℕ). option_or (told firsts text) (cond (has_text text (Utf8 t)) (Some c.args.index) None)) key
    ∙ ap (λ (e : PoolEntry). option_or (told firsts text) (cond (has_text text e) (Some c.args.index) None)) (sym c.in-Utf8.is)
