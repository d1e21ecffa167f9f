-- The instructions of the profile, by rising code: family, operands, what is popped and what is pushed (JVM
-- Specification 6.5; the families and the letters are the project's own).
use Rattle.std.specs.Prelude.{ℕ, List, [], ◌∷◌}
use Rattle.nr_optable.specs.declared.table.Row.{Row}
use Rattle.nr_optable.specs.declared.table.Family.{Family}
use Rattle.nr_optable.specs.declared.table.Family.TheVariants.{F1, F2, F3, F4, F5, F6, F7, F8, F9, F10, F11, F12, F13, F14, F15, F16, F17, F18, F19, F20, F21, F22, F23, F24, F25, F26, F27, F28, F29, F30, F31, F32, F33, F34, F35, F36, F37, F38}
use Rattle.nr_optable.specs.declared.table.Shape.{Shape}
use Rattle.nr_optable.specs.declared.table.Shape.TheVariants.{Plain, L1, S1, S2, P1, P2, B2, B4, Inc, Prim, Itf, Mul, Tab, Look, Wide}
use Rattle.nr_optable.specs.declared.table.Letter.{Letter}
use Rattle.nr_optable.specs.declared.table.Letter.TheVariants.{I, J, A, R, Null}
use Rattle.nr_optable.specs.declared.table.Kinds.{Kinds}
use Rattle.nr_optable.specs.declared.table.Kinds.TheVariants.{Own, Letters}

-- so many operands, the top standing last; unused places hold I
abbrev pub none : Kinds
none = Letters 0 I I I

abbrev pub one : Letter → Kinds
one a = Letters 1 a I I

abbrev pub two : Letter → Letter → Kinds
two a b = Letters 2 a b I

abbrev pub three : Letter → Letter → Letter → Kinds
three a b c = Letters 3 a b c

abbrev pub op : ℕ → Family → Shape → Kinds → Kinds → Row
op code family shape pops pushes = record { code = code; family = family; shape = shape; pops = pops; pushes = pushes }

-- code, family, shape, pops, pushes
unfoldable pub all_rows : List Row
all_rows =
    op 0 F1 Plain none none ∷  -- nop
    op 1 F7 Plain none (one Null) ∷  -- aconst_null
    op 2 F2 Plain none (one I) ∷  -- iconst_m1
    op 3 F2 Plain none (one I) ∷  -- iconst_0
    op 4 F2 Plain none (one I) ∷  -- iconst_1
    op 5 F2 Plain none (one I) ∷  -- iconst_2
    op 6 F2 Plain none (one I) ∷  -- iconst_3
    op 7 F2 Plain none (one I) ∷  -- iconst_4
    op 8 F2 Plain none (one I) ∷  -- iconst_5
    op 9 F2 Plain none (one J) ∷  -- lconst_0
    op 10 F2 Plain none (one J) ∷  -- lconst_1
    op 16 F2 S1 none (one I) ∷  -- bipush
    op 17 F2 S2 none (one I) ∷  -- sipush
    op 18 F8 P1 none (one I) ∷  -- ldc
    op 19 F8 P2 none (one I) ∷  -- ldc_w
    op 20 F8 P2 none (one J) ∷  -- ldc2_w
    op 21 F3 L1 none (one I) ∷  -- iload
    op 22 F3 L1 none (one J) ∷  -- lload
    op 25 F3 L1 none (one R) ∷  -- aload
    op 26 F3 Plain none (one I) ∷  -- iload_0
    op 27 F3 Plain none (one I) ∷  -- iload_1
    op 28 F3 Plain none (one I) ∷  -- iload_2
    op 29 F3 Plain none (one I) ∷  -- iload_3
    op 30 F3 Plain none (one J) ∷  -- lload_0
    op 31 F3 Plain none (one J) ∷  -- lload_1
    op 32 F3 Plain none (one J) ∷  -- lload_2
    op 33 F3 Plain none (one J) ∷  -- lload_3
    op 42 F3 Plain none (one R) ∷  -- aload_0
    op 43 F3 Plain none (one R) ∷  -- aload_1
    op 44 F3 Plain none (one R) ∷  -- aload_2
    op 45 F3 Plain none (one R) ∷  -- aload_3
    op 46 F10 Plain (two A I) (one I) ∷  -- iaload
    op 47 F10 Plain (two A I) (one J) ∷  -- laload
    op 50 F10 Plain (two A I) (one A) ∷  -- aaload
    op 51 F10 Plain (two A I) (one I) ∷  -- baload
    op 52 F10 Plain (two A I) (one I) ∷  -- caload
    op 53 F10 Plain (two A I) (one I) ∷  -- saload
    op 54 F4 L1 (one I) none ∷  -- istore
    op 55 F4 L1 (one J) none ∷  -- lstore
    op 58 F4 L1 (one R) none ∷  -- astore
    op 59 F4 Plain (one I) none ∷  -- istore_0
    op 60 F4 Plain (one I) none ∷  -- istore_1
    op 61 F4 Plain (one I) none ∷  -- istore_2
    op 62 F4 Plain (one I) none ∷  -- istore_3
    op 63 F4 Plain (one J) none ∷  -- lstore_0
    op 64 F4 Plain (one J) none ∷  -- lstore_1
    op 65 F4 Plain (one J) none ∷  -- lstore_2
    op 66 F4 Plain (one J) none ∷  -- lstore_3
    op 75 F4 Plain (one R) none ∷  -- astore_0
    op 76 F4 Plain (one R) none ∷  -- astore_1
    op 77 F4 Plain (one R) none ∷  -- astore_2
    op 78 F4 Plain (one R) none ∷  -- astore_3
    op 79 F11 Plain (three A I I) none ∷  -- iastore
    op 80 F11 Plain (three A I J) none ∷  -- lastore
    op 83 F11 Plain (three A I A) none ∷  -- aastore
    op 84 F11 Plain (three A I I) none ∷  -- bastore
    op 85 F11 Plain (three A I I) none ∷  -- castore
    op 86 F11 Plain (three A I I) none ∷  -- sastore
    op 87 F12 Plain Own Own ∷  -- pop
    op 88 F12 Plain Own Own ∷  -- pop2
    op 89 F13 Plain Own Own ∷  -- dup
    op 90 F14 Plain Own Own ∷  -- dup_x1
    op 91 F15 Plain Own Own ∷  -- dup_x2
    op 92 F16 Plain Own Own ∷  -- dup2
    op 93 F17 Plain Own Own ∷  -- dup2_x1
    op 94 F18 Plain Own Own ∷  -- dup2_x2
    op 95 F19 Plain Own Own ∷  -- swap
    op 96 F5 Plain (two I I) (one I) ∷  -- iadd
    op 97 F5 Plain (two J J) (one J) ∷  -- ladd
    op 100 F5 Plain (two I I) (one I) ∷  -- isub
    op 101 F5 Plain (two J J) (one J) ∷  -- lsub
    op 104 F5 Plain (two I I) (one I) ∷  -- imul
    op 105 F5 Plain (two J J) (one J) ∷  -- lmul
    op 108 F20 Plain (two I I) (one I) ∷  -- idiv
    op 109 F20 Plain (two J J) (one J) ∷  -- ldiv
    op 112 F20 Plain (two I I) (one I) ∷  -- irem
    op 113 F20 Plain (two J J) (one J) ∷  -- lrem
    op 116 F21 Plain (one I) (one I) ∷  -- ineg
    op 117 F21 Plain (one J) (one J) ∷  -- lneg
    op 120 F22 Plain (two I I) (one I) ∷  -- ishl
    op 121 F22 Plain (two J I) (one J) ∷  -- lshl
    op 122 F22 Plain (two I I) (one I) ∷  -- ishr
    op 123 F22 Plain (two J I) (one J) ∷  -- lshr
    op 124 F22 Plain (two I I) (one I) ∷  -- iushr
    op 125 F22 Plain (two J I) (one J) ∷  -- lushr
    op 126 F5 Plain (two I I) (one I) ∷  -- iand
    op 127 F5 Plain (two J J) (one J) ∷  -- land
    op 128 F5 Plain (two I I) (one I) ∷  -- ior
    op 129 F5 Plain (two J J) (one J) ∷  -- lor
    op 130 F5 Plain (two I I) (one I) ∷  -- ixor
    op 131 F5 Plain (two J J) (one J) ∷  -- lxor
    op 132 F9 Inc none none ∷  -- iinc
    op 133 F23 Plain (one I) (one J) ∷  -- i2l
    op 136 F23 Plain (one J) (one I) ∷  -- l2i
    op 145 F23 Plain (one I) (one I) ∷  -- i2b
    op 146 F23 Plain (one I) (one I) ∷  -- i2c
    op 147 F23 Plain (one I) (one I) ∷  -- i2s
    op 148 F24 Plain (two J J) (one I) ∷  -- lcmp
    op 153 F25 B2 (one I) none ∷  -- ifeq
    op 154 F25 B2 (one I) none ∷  -- ifne
    op 155 F25 B2 (one I) none ∷  -- iflt
    op 156 F25 B2 (one I) none ∷  -- ifge
    op 157 F25 B2 (one I) none ∷  -- ifgt
    op 158 F25 B2 (one I) none ∷  -- ifle
    op 159 F26 B2 (two I I) none ∷  -- if_icmpeq
    op 160 F26 B2 (two I I) none ∷  -- if_icmpne
    op 161 F26 B2 (two I I) none ∷  -- if_icmplt
    op 162 F26 B2 (two I I) none ∷  -- if_icmpge
    op 163 F26 B2 (two I I) none ∷  -- if_icmpgt
    op 164 F26 B2 (two I I) none ∷  -- if_icmple
    op 165 F27 B2 (two R R) none ∷  -- if_acmpeq
    op 166 F27 B2 (two R R) none ∷  -- if_acmpne
    op 167 F28 B2 none none ∷  -- goto
    op 170 F29 Tab (one I) none ∷  -- tableswitch
    op 171 F29 Look (one I) none ∷  -- lookupswitch
    op 172 F6 Plain (one I) none ∷  -- ireturn
    op 173 F6 Plain (one J) none ∷  -- lreturn
    op 176 F6 Plain (one A) none ∷  -- areturn
    op 177 F6 Plain none none ∷  -- return
    op 180 F30 P2 (one A) Own ∷  -- getfield
    op 181 F31 P2 Own none ∷  -- putfield
    op 182 F32 P2 Own Own ∷  -- invokevirtual
    op 183 F32 P2 Own Own ∷  -- invokespecial
    op 184 F32 P2 Own Own ∷  -- invokestatic
    op 185 F32 Itf Own Own ∷  -- invokeinterface
    op 187 F33 P2 none Own ∷  -- new
    op 188 F34 Prim (one I) (one A) ∷  -- newarray
    op 189 F34 P2 (one I) (one A) ∷  -- anewarray
    op 190 F35 Plain (one A) (one I) ∷  -- arraylength
    op 191 F36 Plain (one A) none ∷  -- athrow
    op 192 F37 P2 (one A) (one A) ∷  -- checkcast
    op 193 F37 P2 (one A) (one I) ∷  -- instanceof
    op 196 F38 Wide Own Own ∷  -- wide
    op 197 F34 Mul Own (one A) ∷  -- multianewarray
    op 198 F27 B2 (one R) none ∷  -- ifnull
    op 199 F27 B2 (one R) none ∷  -- ifnonnull
    op 200 F28 B4 none none ∷  -- goto_w
    []
