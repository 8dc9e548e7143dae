-- The words of the code, as a text has them, stand for its instructions.
use Rattle.std.proofs.Common.{◌≡◌, ℕ, zero, suc, ◌+◌, ◌-◌, ◌/◌, ◌^◌, ◌<◌, ℤ, pos, negsuc, List, [], ◌∷◌, ◌++◌, length, map, Bool, true, false, not, ◌&&◌, cond, ltb, Option, None, refl, ap, ◌∙◌, arith}
use Rattle.std.specs.Prelude.{slice_get, option_and_then}
use Rattle.std.specs.List.{list_all}
use Rattle.std.proofs.lemmas.Bool.{and_parts, ltb-true, le-ltb, not-true}
use Rattle.alpha_isa.proofs.Words.{word_decoded}
use Rattle.alpha_isa.specs.declared.insn.Fields.{Fields}
use Rattle.alpha_isa.specs.declared.insn.Fields.TheVariants.{Memory, Branch, Jump, Operate, Pal}
use Rattle.alpha_isa.specs.declared.insn.Operand.{Operand}
use Rattle.alpha_isa.specs.declared.insn.Operand.TheVariants.{Reg, Literal}
use Rattle.alpha_isa.specs.declared.insn.OperateOp.{OperateOp}
use Rattle.alpha_isa.specs.declared.insn.OperateOp.TheVariants.{Sextb, Sextw}
use Rattle.alpha_isa.specs.Lawful.{AreLawfulFields, IsFirstOperand, is_pal_function}
use Rattle.alpha_isa.specs.Words.{insn_word, insn_of, extends}
use Rattle.alpha_isa.specs.Program.{word_address}
use Rattle.alpha_rt.specs.Code.{all_code}
use Rattle.alpha_rt.specs.Calls.{CodeStands}

-- a test that computes, for fields that have a word
abbrev is_operand : Operand → Bool
is_operand (Reg r) = ltb r 32
is_operand (Literal n) = ltb n 256

abbrev is_below : ℕ → ℤ → Bool
is_below most (pos n) = ltb n most
is_below most (negsuc n) = ltb n most

abbrev has_word : Fields → Bool
has_word (Memory op ra rb disp) = ltb ra 32 && (ltb rb 32 && is_below (2 ^ 15) disp)
has_word (Branch op ra disp) = ltb ra 32 && is_below (2 ^ 20) disp
has_word (Jump op ra rb) = ltb ra 32 && ltb rb 32
has_word (Operate op ra rb rc) = not (extends op) && (ltb ra 32 && (is_operand rb && ltb rc 32))
has_word (Pal function) = is_pal_function function

first_operand : (op : OperateOp) (ra : ℕ) → extends op ≡ false → ra < 32 → IsFirstOperand op ra
first_operand Sextb ra e h = let impossible : ⊥ = cc in absurd impossible
first_operand Sextw ra e h = let impossible : ⊥ = cc in absurd impossible
first_operand _ ra e h = h

lawful : (i : Fields) → has_word i ≡ true → AreLawfulFields i
lawful (Memory op ra rb (pos n)) e =
    let a = and_parts (ltb ra 32) (ltb rb 32 && ltb n (2 ^ 15)) e in
    let b = and_parts (ltb rb 32) (ltb n (2 ^ 15)) a.1 in
    (ltb-true ra 32 a.0, ltb-true rb 32 b.0, ltb-true n (2 ^ 15) b.1)
lawful (Memory op ra rb (negsuc n)) e =
    let a = and_parts (ltb ra 32) (ltb rb 32 && ltb n (2 ^ 15)) e in
    let b = and_parts (ltb rb 32) (ltb n (2 ^ 15)) a.1 in
    (ltb-true ra 32 a.0, ltb-true rb 32 b.0, ltb-true n (2 ^ 15) b.1)
lawful (Branch op ra (pos n)) e = let a = and_parts (ltb ra 32) (ltb n (2 ^ 20)) e in (ltb-true ra 32 a.0, ltb-true n (2 ^ 20) a.1)
lawful (Branch op ra (negsuc n)) e = let a = and_parts (ltb ra 32) (ltb n (2 ^ 20)) e in (ltb-true ra 32 a.0, ltb-true n (2 ^ 20) a.1)
lawful (Jump op ra rb) e = let a = and_parts (ltb ra 32) (ltb rb 32) e in (ltb-true ra 32 a.0, ltb-true rb 32 a.1)
lawful (Operate op ra (Reg rb) rc) e =
    let a = and_parts (not (extends op)) (ltb ra 32 && (ltb rb 32 && ltb rc 32)) e in
    let b = and_parts (ltb ra 32) (ltb rb 32 && ltb rc 32) a.1 in
    let c = and_parts (ltb rb 32) (ltb rc 32) b.1 in
    (first_operand op ra (not-true (extends op) a.0) (ltb-true ra 32 b.0), ltb-true rb 32 c.0, ltb-true rc 32 c.1)
lawful (Operate op ra (Literal n) rc) e =
    let a = and_parts (not (extends op)) (ltb ra 32 && (ltb n 256 && ltb rc 32)) e in
    let b = and_parts (ltb ra 32) (ltb n 256 && ltb rc 32) a.1 in
    let c = and_parts (ltb n 256) (ltb rc 32) b.1 in
    (first_operand op ra (not-true (extends op) a.0) (ltb-true ra 32 b.0), ltb-true n 256 c.0, ltb-true rc 32 c.1)
lawful (Pal function) e = e

decoded : (xs : List Fields) (back : List ℕ) (i : ℕ) → list_all has_word xs ≡ true → i < length xs → option_and_then insn_of (slice_get (map insn_word xs ++ back) i) ≡ slice_get xs i
decoded [] back i all below = absurd (omega arith)
decoded (x ∷ xs) back zero all below = word_decoded x (lawful x (and_parts (has_word x) (list_all has_word xs) all).0)
decoded (x ∷ xs) back (suc i) all below = decoded xs back i (and_parts (has_word x) (list_all has_word xs) all).1 (omega arith)

got_behind : (front l : List ℕ) (i : ℕ) → slice_get (front ++ l) (length front + i) ≡ slice_get l i
got_behind [] l i = let none : 0 + i ≡ i = omega arith in ap (slice_get l) none
got_behind (w ∷ front) l i = let next : suc (length front) + i ≡ suc (length front + i) = omega arith in ap (slice_get (w ∷ (front ++ l))) next ∙ got_behind front l i

pub code_stands : CodeStands
code_stands p front back e i below =
    let pc : ℕ = word_address (length front + i) in
    let found : Option Fields = option_and_then insn_of (slice_get p.words ((pc - 65536) / 4)) in
    let inside : ltb pc 65536 ≡ false = le-ltb pc 65536 (omega arith) in
    let index : (pc - 65536) / 4 ≡ length front + i = omega arith in
    ap (λ b. cond b None found) inside
    ∙ ap (λ k. option_and_then insn_of (slice_get p.words k)) index
    ∙ ap (λ ws. option_and_then insn_of (slice_get ws (length front + i))) e
    ∙ ap (option_and_then insn_of) (got_behind front (map insn_word all_code ++ back) i)
    ∙ decoded all_code back i refl below
