use Rattle.std.proofs.Common.{◌≡◌, ◌++◌, ◌<◌, ℕ, length, take, get_or}
use Rattle.std.specs.List.{flat_map}
use Rattle.nr_prog.specs.declared.member.Field.{Field}
use Rattle.nr_classwrite.specs.Fits.{FieldFits}
use Rattle.nr_classwrite.specs.Text.{two, field_text}
use Rattle.nr_classwrite.proofs.write.field.put_fields.Given as goal

abbrev pub invariant-loop-field : goal.invariant-loop-field
invariant-loop-field l = record {
  text : l.put ≡ l.fn.put ++ (two (length l.fields) ++ flat_map (field_text l.names) (take l.field-index l.fields));
  fits : (k : ℕ) (d : Field) → k < l.field-index → FieldFits (get_or l.fields k d);
}
