use Rattle.std.proofs.Common.{◌≡◌, ◌+◌, ◌-◌, ◌++◌, ◌∙◌, ap, arith, length, map, replicate}
use Rattle.std.specs.Prelude.{IsOk}
use Rattle.std.specs.Vec.{vec_len}
use Rattle.std.proofs.lemmas.List.{append_assoc, length-append, length-map}
use Rattle.nr_heap.specs.declared.form.Form.TheVariants as forms
use Rattle.nr_heap.specs.Forms.{form_of}
use Rattle.nr_heap.proofs.Makes.{resized}
use Rattle.nr_heap.proofs.heap.make.push_words.Goals as goal

pub returns-clause-forms : goal.returns-clause-forms
returns-clause-forms c =
    let old = c.push_forms.new.forms in
    let slot_forms = map (λ s. form_of s.kind) c.args.slots.now in
    let l : vec_len old ≡ vec_len c.args.forms.now + length c.args.slots.now
    = omega (arith, old.ok.0, c.args.forms.now.ok.0, ap length c.push_forms.ensures.items, length-append c.args.forms.now.items slot_forms, length-map c.args.slots.now (λ s. form_of s.kind)) in
    let ok : IsOk c.resize.result = c.resize.ensures.succeeds (omega (arith, c.requires.form_room, c.len.ensures, c.push_forms.ensures.capacity)) in
    let n : c.len.result + c.args.width - vec_len old ≡ c.args.width - length c.args.slots.now = omega (arith, l, c.len.ensures, c.requires.slots) in
    resized c.resize.result old.items c.resize.new.self.items (c.len.result + c.args.width) (vec_len old) forms.Int ok c.resize.ensures.items (omega (arith, old.ok.0)) (omega (arith, l, c.len.ensures, c.requires.slots))
    ∙ ap (λ n. old.items ++ replicate n forms.Int) n
    ∙ ap (λ xs. xs ++ replicate (c.args.width - length c.args.slots.now) forms.Int) c.push_forms.ensures.items
    ∙ append_assoc c.args.forms.now.items slot_forms _

pub returns-clause-words : goal.returns-clause-words
returns-clause-words c =
    let old = c.args.words.now in
    let ok : IsOk c.resize-2.result = c.resize-2.ensures.succeeds (omega (arith, c.requires.word_room, c.len-2.ensures)) in
    let n : c.len-2.result + c.args.width - vec_len old ≡ c.args.width = omega (arith, c.len-2.ensures) in
    resized c.resize-2.result old.items c.resize-2.new.self.items (c.len-2.result + c.args.width) (vec_len old) 0 ok c.resize-2.ensures.items (omega (arith, old.ok.0)) (omega (arith, c.len-2.ensures))
    ∙ ap (λ n. old.items ++ replicate n 0) n
