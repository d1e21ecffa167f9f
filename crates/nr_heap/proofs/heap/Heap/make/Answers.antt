use Rattle.std.proofs.Common.{◌≡◌, ◌+◌, ◌-◌, ◌≤◌, ◌++◌, ◌∷◌, [], ◌∙◌, ap, ap₂, sym, subst, arith, rules, length, map, replicate}
use Rattle.std.specs.Vec.{vec_len}
use Rattle.std.proofs.lemmas.List.{length-append, length-map, length-replicate}
use Rattle.std.specs.List.{zip}
use Rattle.std.specs.FinMap.{get, insert}
use Rattle.nr_model.specs.Heaps.{Obj}
use Rattle.nr_heap.specs.declared.form.Form.TheVariants as forms
use Rattle.nr_heap.specs.declared.place.Place.{Place}
use Rattle.nr_heap.specs.Arenas.{cells_at, new_forms, new_slots, width}
use Rattle.nr_heap.specs.Forms.{elements_form, form_of}
use Rattle.nr_heap.proofs.Arenas.{cells_at_more, slot_count, width_le}
use Rattle.nr_heap.proofs.Makes.{forms_length}
use Rattle.nr_heap.proofs.Slots.{zip_length}
use Rattle.nr_heap.proofs.Views.{few_places, few_words, fresh, made, cells_are}
use Rattle.nr_heap.proofs.heap.Heap.make.Goals as goal

pub overflow_cast-name : goal.overflow_cast-name
overflow_cast-name c = record { fits = omega (arith, few_places c.self.inside c.args.self.now c.self.view_is c.self.invariant, c.len-name.ensures, c.self.inside.places.ok.0) }

pub overflow_cast-start : goal.overflow_cast-start
overflow_cast-start c = record { fits = omega (arith, few_words c.self.inside c.args.self.now c.self.view_is c.self.invariant, c.len-start.ensures, c.self.inside.words.ok.0) }

pub invariant_of-self : goal.invariant_of-self
invariant_of-self c =
    let a = c.self.inside in
    let n = width c.args.kind c.args.len in
    let gs = new_forms c.args.kind c.args.len c.args.slots.now in
    let p : Place = record { kind = c.args.kind; start = c.len-start.result; len = c.args.len } in
    let ps : c.push.new.self.items ≡ a.places.items ++ p ∷ [] = search rules in
    let fs : c.push_words.new.forms.items ≡ a.forms.items ++ gs
    = c.push_words.ensures.forms ∙ ap (λ n. a.forms.items ++ (map (λ s. form_of s.kind) c.args.slots.now ++ replicate (n - length c.args.slots.now) forms.Int)) c.width.ensures in
    let ws : c.push_words.new.words.items ≡ a.words.items ++ replicate n 0 = c.push_words.ensures.words ∙ ap (λ n. a.words.items ++ replicate n 0) c.width.ensures in
    let r = made a c.args.self.now c.self.view_is c.self.invariant c.push.new.self.items c.push_words.new.forms.items gs c.push_words.new.words.items (replicate n 0) p ps fs ws
    (forms_length c.args.kind c.args.len c.args.slots.now c.requires.slots) (length-replicate n 0) (omega (arith, c.len-start.ensures, a.words.ok.0)) in
    let w : n ≤ c.args.len = width_le c.args.kind c.args.len in
    let many_words = ap length ws ∙ length-append a.words.items (replicate n 0) ∙ ap (λ m. length a.words.items + m) (length-replicate n 0) in
    let many_forms = ap length fs ∙ length-append a.forms.items gs ∙ ap (λ m. length a.forms.items + m) (forms_length c.args.kind c.args.len c.args.slots.now c.requires.slots) in
    record {
      laid = r.1;
      formed = omega (arith, many_words, many_forms, c.self.invariant.formed);
      counted = ap (λ n. n + (c.args.len + 1)) c.self.invariant.counted ∙ sym (ap cells_at ps ∙ cells_at_more a.places.items p);
      few = omega (arith, cells_are a c.args.self.now c.self.view_is c.self.invariant, c.requires.few);
      place_room = omega (arith, c.push.ensures.upper_bound, c.push.ensures.capacity, c.self.invariant.place_room, c.requires.room, ap (λ h. h.spare) c.self.view_is);
      word_room = omega (arith, many_words, w, c.self.invariant.word_room, c.push_words.ensures.word_capacity, c.push_words.new.words.ok.0, a.words.ok.0);
      form_room = omega (arith, many_forms, w, c.self.invariant.form_room, c.push_words.ensures.form_capacity, c.push_words.new.forms.ok.0, a.forms.ok.0);
    }

pub returns : goal.returns
returns c =
    let a = c.self.inside in
    let n = width c.args.kind c.args.len in
    let gs = new_forms c.args.kind c.args.len c.args.slots.now in
    let p : Place = record { kind = c.args.kind; start = c.len-start.result; len = c.args.len } in
    let ps : c.push.new.self.items ≡ a.places.items ++ p ∷ [] = search rules in
    let fs : c.push_words.new.forms.items ≡ a.forms.items ++ gs
    = c.push_words.ensures.forms ∙ ap (λ n. a.forms.items ++ (map (λ s. form_of s.kind) c.args.slots.now ++ replicate (n - length c.args.slots.now) forms.Int)) c.width.ensures in
    let ws : c.push_words.new.words.items ≡ a.words.items ++ replicate n 0 = c.push_words.ensures.words ∙ ap (λ n. a.words.items ++ replicate n 0) c.width.ensures in
    let r = made a c.args.self.now c.self.view_is c.self.invariant c.push.new.self.items c.push_words.new.forms.items gs c.push_words.new.words.items (replicate n 0) p ps fs ws
    (forms_length c.args.kind c.args.len c.args.slots.now c.requires.slots) (length-replicate n 0) (omega (arith, c.len-start.ensures, a.words.ok.0)) in
    let o : Obj = record { kind = c.args.kind; slots = new_slots c.args.kind c.args.len c.args.slots.now } in
    let name : c.len-name.result ≡ length a.places.items = omega (arith, c.len-name.ensures, a.places.ok.0) in
    let slots : length (new_slots c.args.kind c.args.len c.args.slots.now) ≡ c.args.len
    = slot_count (elements_form c.args.kind) c.args.len (zip gs (replicate n 0))
    (zip_length gs (replicate n 0) (forms_length c.args.kind c.args.len c.args.slots.now c.requires.slots ∙ sym (length-replicate n 0)) ∙ length-replicate n 0) in
    record {
      fresh = ap (get c.args.self.now.objects) name ∙ fresh a c.args.self.now c.self.view_is c.self.invariant;
      objects = r.0 ∙ ap (λ k. insert c.args.self.now.objects k o) (sym name);
      spare = ap₂ (λ m k. m - (k + 1)) (ap (λ h. h.spare) c.self.view_is) (sym slots);
    }
