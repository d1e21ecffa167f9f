-- The typing rules of the instructions that move operands (JVM Specification 4.10.1.9: pop to swap). Each stands for its
-- forms in 6.5: a long is one operand, and fills the place of two others. Top as what is wanted stands for any operand
-- that isn't a long.
use Rattle.std.specs.Prelude.{ℕ, List, ◌∷◌, ◌==◌, if◌then◌else◌}
use Rattle.nr_linked.specs.declared.program.tables.MethodInfo.{MethodInfo}
use Rattle.nr_linked.specs.declared.program.types.VType.{VType}
use Rattle.nr_linked.specs.TypingFrames.{TypeFrame, is_long}
use Rattle.nr_linked.specs.TypingChecks.{Checked, take_operand, take_single, leaves_operands}

-- an operand by its size: what follows where it is a long, and where it isn't
abbrev pub by_size : ℕ → List VType → (VType → List VType → Checked) → (VType → List VType → Checked) → Checked
by_size d ts long single = take_operand d ts (λ t us. if is_long t then long t us else single t us)

-- pop (87) and pop2
abbrev pub drop_rule : MethodInfo → ℕ → TypeFrame → Checked
drop_rule m code f =
    if code == 87 then take_single 0 f.operands (λ a ts. leaves_operands m f ts)
    else by_size 0 f.operands (λ w ts. leaves_operands m f ts)
    (λ a ts. take_single 1 ts (λ b us. leaves_operands m f us))

abbrev pub dup_rule : MethodInfo → TypeFrame → Checked
dup_rule m f = take_single 0 f.operands (λ a ts. leaves_operands m f (a ∷ a ∷ ts))

abbrev pub dup_x1_rule : MethodInfo → TypeFrame → Checked
dup_x1_rule m f = take_single 0 f.operands (λ a ts. take_single 1 ts (λ b us. leaves_operands m f (a ∷ b ∷ a ∷ us)))

abbrev pub dup_x2_rule : MethodInfo → TypeFrame → Checked
dup_x2_rule m f = take_single 0 f.operands (λ a ts. by_size 1 ts
    (λ w us. leaves_operands m f (a ∷ w ∷ a ∷ us))
    (λ b us. take_single 2 us (λ c vs. leaves_operands m f (a ∷ b ∷ c ∷ a ∷ vs))))

abbrev pub dup2_rule : MethodInfo → TypeFrame → Checked
dup2_rule m f = by_size 0 f.operands
    (λ w ts. leaves_operands m f (w ∷ w ∷ ts))
    (λ a ts. take_single 1 ts (λ b us. leaves_operands m f (a ∷ b ∷ a ∷ b ∷ us)))

abbrev pub dup2_x1_rule : MethodInfo → TypeFrame → Checked
dup2_x1_rule m f = by_size 0 f.operands
    (λ w ts. take_single 1 ts (λ b us. leaves_operands m f (w ∷ b ∷ w ∷ us)))
    (λ a ts. take_single 1 ts (λ b us. take_single 2 us (λ c vs. leaves_operands m f (a ∷ b ∷ c ∷ a ∷ b ∷ vs))))

abbrev pub dup2_x2_rule : MethodInfo → TypeFrame → Checked
dup2_x2_rule m f = by_size 0 f.operands
    (λ w ts. by_size 1 ts
    (λ x us. leaves_operands m f (w ∷ x ∷ w ∷ us))
    (λ b us. take_single 2 us (λ c vs. leaves_operands m f (w ∷ b ∷ c ∷ w ∷ vs))))
    (λ a ts. take_single 1 ts (λ b us. by_size 2 us
    (λ x vs. leaves_operands m f (a ∷ b ∷ x ∷ a ∷ b ∷ vs))
    (λ c vs. take_single 3 vs (λ d ws. leaves_operands m f (a ∷ b ∷ c ∷ d ∷ a ∷ b ∷ ws)))))

abbrev pub swap_rule : MethodInfo → TypeFrame → Checked
swap_rule m f = take_single 0 f.operands (λ a ts. take_single 1 ts (λ b us. leaves_operands m f (b ∷ a ∷ us)))
