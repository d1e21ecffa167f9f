use Rattle.std.proofs.Common.{◌≡◌, [], ◌∷◌, length, ap, arith, length-append}
use Rattle.nr_serform.proofs.FormLaws.{each_more}
use Rattle.nr_serform.proofs.forms.Forms.new.Goals as goal

pub loop-class-preserved : goal.loop-class-preserved
loop-class-preserved c =
    let long = ap length c.in_ok-push.ensures.items in
    let both = length-append c.loop-class.forms.items (c.in_ok-form_of.field-0 ∷ []) in record {
      count = omega (arith, long, both, c.loop-class.invariant.count);
      each =
          each_more c.args.program.now c.loop-class.forms.items c.push.new.self.items c.loop-class.«class» c.in_ok-form_of.field-0 c.loop-class.invariant.count
          c.in_ok-form_of.ensures c.in_ok-push.ensures.items c.loop-class.invariant.each;
    }

pub invariant_of-result : goal.invariant_of-result
invariant_of-result c =
    let at : length c.loop-class.forms.items ≡ c.class_count-count.result = omega (arith, c.loop-class.invariant.count) in
    let long = ap length c.in_ok-push-2.ensures.items in
    let both = length-append c.loop-class.forms.items (c.in_ok-form_of-2.field-0 ∷ []) in record {
      count = omega (arith, at, long, both, c.class_count-count.ensures);
      each =
          each_more c.args.program.now c.loop-class.forms.items c.push-2.new.self.items c.class_count-count.result c.in_ok-form_of-2.field-0 at
          c.in_ok-form_of-2.ensures c.in_ok-push-2.ensures.items c.loop-class.invariant.each;
    }
