-- Each operand that is printed is read again, and what is read is printed so.
use Rattle.std.proofs.Common.{◌≡◌, ℕ, ◌^◌, ◌<◌, ◌&&◌, false, leb, eqb, List, [], ◌∷◌, ◌++◌, Option, Some, None, length, refl, sym, ap, ◌∙◌, subst, inl, inr, arith}
use Rattle.std.specs.Prelude.{ℤ, pos, negsuc, option_map, decimal}
use Rattle.std.specs.Fmt.{signed_decimal}
use Rattle.std.specs.Str.Parse.{AllDigits}
use Rattle.std.proofs.lemmas.Bool.Decides.{nat_tests}
use Rattle.std.proofs.lemmas.Str.Parse.{digit_from_value}
use Rattle.std.proofs.lemmas.Fmt.{decimal_nonempty}
use Rattle.std.proofs.lemmas.Bool.{eqb-true}
use Rattle.alpha_isa.specs.declared.insn.Operand.{Operand}
use Rattle.alpha_isa.specs.declared.insn.Operand.TheVariants.{Reg, Literal}
use Rattle.alpha_isa.specs.Lawful.{IsOperand, IsDisplacement}
use Rattle.alpha_lines.specs.Lines.{register_name, label_name, indirect_text, address_text, operand_name, operand_pair}
use Rattle.alpha_lines.specs.model.Parts.{cut, pair_of, behind_comma, behind_blank}
use Rattle.alpha_lines.specs.model.Numbers.{number_of, displacement_of}
use Rattle.alpha_lines.specs.model.Readers.{most_u32, number32_of, if_empty, before_end, closed_by, register_of, label_of, operand_of, register_in, inner_of, indirect_of, address_in, address_of, each_of, two_of}
use Rattle.alpha_lines.proofs.Parts.{Lacks, cut_front, cut_sound}
use Rattle.alpha_lines.proofs.Numbers.{number_sound, number_complete, displacement_sound, displacement_complete, digits_of_decimal}
use Rattle.alpha_lines.proofs.Options.{begun_some, split, mapped_some, zipped_parts}

-- what a text has no byte of

pub lacks_append : (mark : ℕ) (a b : List ℕ) → Lacks mark a → Lacks mark b → Lacks mark (a ++ b)
lacks_append mark [] b h k = k
lacks_append mark (x ∷ a) b h k = (h.0, lacks_append mark a b h.1 k)

pub cut_lacks : (mark : ℕ) (s : List ℕ) → Lacks mark s → cut mark s ≡ None
cut_lacks mark [] h = refl
cut_lacks mark (x ∷ s) h = rw (h.0, cut_lacks mark s h.1) refl

lacks_digits : (mark : ℕ) (s : List ℕ) → (leb 48 mark && leb mark 57) ≡ false → AllDigits 10 s → Lacks mark s
lacks_digits mark [] apart h = tt
lacks_digits mark (c ∷ s) apart h =
    let range = digit_from_value c h.0 in
    (grind (arith, nat_tests, range, apart), lacks_digits mark s apart h.1)

pub decimal_lacks : (mark n : ℕ) → n < 2 ^ 64 → (leb 48 mark && leb mark 57) ≡ false → Lacks mark (decimal n)
decimal_lacks mark n small apart = lacks_digits mark (decimal n) apart (digits_of_decimal n small)

pub register_lacks : (mark r : ℕ) → r < 32 → (leb 48 mark && leb mark 57) ≡ false → eqb 36 mark ≡ false → Lacks mark (register_name r)
register_lacks mark r small apart other = (other, decimal_lacks mark r (omega arith) apart)

pub operand_lacks : (o : Operand) → IsOperand o → Lacks 44 (operand_name o)
operand_lacks (Reg r) h = register_lacks 44 r h refl refl
operand_lacks (Literal n) h = decimal_lacks 44 n (omega arith) refl

signed_lacks : (z : ℤ) → IsDisplacement z → Lacks 40 (signed_decimal z)
signed_lacks (pos n) h = decimal_lacks 40 n (omega arith) refl
signed_lacks (negsuc n) h = (refl, decimal_lacks 40 (Prim.Native.Nat.suc n) (omega arith) refl)

-- numbers of 32 bits, registers, labels

pub number32_complete : (n : ℕ) → n < 2 ^ 32 → number32_of (decimal n) ≡ Some n
unfolding number32_of
number32_complete n small = number_complete most_u32 (decimal n) n (omega arith) (omega arith) refl

pub number32_sound : (s : List ℕ) (n : ℕ) → number32_of s ≡ Some n → (n < 2 ^ 32) × (s ≡ decimal n)
unfolding number32_of
number32_sound s n e = let h = number_sound most_u32 s n e in (omega arith, h.1)

pub register_complete : (r : ℕ) → r < 32 → register_of (register_name r) ≡ Some r
unfolding register_of
register_complete r small = number_complete 31 (decimal r) r (omega arith) (omega arith) refl

pub register_sound : (s : List ℕ) (r : ℕ) → register_of s ≡ Some r → (r < 32) × (s ≡ register_name r)
unfolding register_of
register_sound [] r e = absurd (cc)
register_sound (b ∷ s) r e =
    let h = begun_some b 36 (number_of 31 s) r e in
    let n = number_sound 31 s r h.1 in
    (omega (arith, n.0), rw (h.0, n.1) refl)

pub label_complete : (l : ℕ) → l < 2 ^ 32 → label_of (label_name l) ≡ Some l
unfolding label_of
label_complete l small = number32_complete l small

pub label_sound : (s : List ℕ) (l : ℕ) → label_of s ≡ Some l → (l < 2 ^ 32) × (s ≡ label_name l)
unfolding label_of
label_sound [] l e = absurd (cc)
label_sound (b ∷ s) l e =
    let h = begun_some b 76 (number32_of s) l e in
    let n = number32_sound s l h.1 in
    (n.0, rw (h.0, n.1) refl)

-- second operands

literal_at : (s : List ℕ) (n : ℕ) → n < 256 → s ≡ decimal n → operand_of s ≡ Some (Literal n)
unfolding operand_of
literal_at [] n small e = let some = decimal_nonempty n (omega arith) in absurd (omega (arith, ap length e))
literal_at (b ∷ s) n small e =
    let digits : AllDigits 10 (b ∷ s) = subst (AllDigits 10) (sym e) (digits_of_decimal n (omega arith)) in
    let range = digit_from_value b digits.0 in
    let differs : eqb b 36 ≡ false = grind (arith, nat_tests, range) in
    rw (differs, number_complete 255 (b ∷ s) n (omega arith) (omega arith) e) refl

register_at : (r : ℕ) → r < 32 → operand_of (register_name r) ≡ Some (Reg r)
unfolding operand_of
register_at r small = let found : number_of 31 (decimal r) ≡ Some r = number_complete 31 (decimal r) r (omega arith) (omega arith) refl in rw found refl

pub operand_complete : (o : Operand) → IsOperand o → operand_of (operand_name o) ≡ Some o
operand_complete (Reg r) h = register_at r h
operand_complete (Literal n) h = literal_at (decimal n) n h refl

pub operand_sound : (s : List ℕ) (o : Operand) → operand_of s ≡ Some o → IsOperand o × (s ≡ operand_name o)
unfolding operand_of
operand_sound [] o e = absurd (cc)
operand_sound (b ∷ s) o e = elim (split (eqb b 36) (option_map Reg (number_of 31 s)) (option_map Literal (number_of 255 (b ∷ s))) (Some o) e) [
  | inl h ↦ register_read b s o (eqb-true b 36 h.0) (mapped_some Reg (number_of 31 s) o h.1)
  | inr h ↦ literal_read (b ∷ s) o (mapped_some Literal (number_of 255 (b ∷ s)) o h.1)
]
  where
    register_read : (b : ℕ) (s : List ℕ) (o : Operand) → b ≡ 36 → ((r : ℕ) × (number_of 31 s ≡ Some r) × (Reg r ≡ o)) → IsOperand o × (b ∷ s ≡ operand_name o)
    register_read b s o dollar found =
        let n = number_sound 31 s found.0 found.1 in
        rw (← found.2, dollar) (omega (arith, n.0), ap (λ t. 36 ∷ t) n.1)

    literal_read : (s : List ℕ) (o : Operand) → ((n : ℕ) × (number_of 255 s ≡ Some n) × (Literal n ≡ o)) → IsOperand o × (s ≡ operand_name o)
    literal_read s o found =
        let n = number_sound 255 s found.0 found.1 in
        rw (← found.2) (omega (arith, n.0), n.1)

-- what stands before a last mark

pub closed_complete : (mark : ℕ) (s : List ℕ) → Lacks mark s → closed_by mark (s ++ mark ∷ []) ≡ Some s
unfolding closed_by
closed_complete mark s lacks = rw (cut_front mark s [] lacks) refl

pub closed_sound : (mark : ℕ) (s a : List ℕ) → closed_by mark s ≡ Some a → s ≡ a ++ mark ∷ []
unfolding closed_by
closed_sound mark s a e = by (cut mark s) refl e
  where
    ended : (f g : List ℕ) → cut mark s ≡ Some (f, g) → if_empty f g ≡ Some a → s ≡ a ++ mark ∷ []
    ended f [] was h = let same : f ≡ a = cc in rw (← same) (cut_sound mark s f [] was)
    ended f (x ∷ g) was h = absurd (cc)

    by : (r : Option (List ℕ × List ℕ)) → cut mark s ≡ r → before_end r ≡ Some a → s ≡ a ++ mark ∷ []
    by None was h = absurd (cc)
    by (Some p) was h = ended p.0 p.1 was h

-- registers in brackets, and addresses

pub inner_complete : (r : ℕ) → r < 32 → inner_of (register_name r ++ 41 ∷ []) ≡ Some r
unfolding inner_of
inner_complete r small = rw (closed_complete 41 (register_name r) (register_lacks 41 r small refl refl)) (register_complete r small)

pub inner_sound : (s : List ℕ) (r : ℕ) → inner_of s ≡ Some r → (r < 32) × (s ≡ register_name r ++ 41 ∷ [])
unfolding inner_of
inner_sound s r e = by (closed_by 41 s) refl e
  where
    by : (o : Option (List ℕ)) → closed_by 41 s ≡ o → register_in o ≡ Some r → (r < 32) × (s ≡ register_name r ++ 41 ∷ [])
    by None was h = absurd (cc)
    by (Some t) was h =
        let n = register_sound t r h in
        (n.0, closed_sound 41 s t was ∙ ap (λ u. u ++ 41 ∷ []) n.1)

pub indirect_complete : (r : ℕ) → r < 32 → indirect_of (indirect_text r) ≡ Some r
unfolding indirect_of
indirect_complete r small = inner_complete r small

pub indirect_sound : (s : List ℕ) (r : ℕ) → indirect_of s ≡ Some r → (r < 32) × (s ≡ indirect_text r)
unfolding indirect_of
indirect_sound [] r e = absurd (cc)
indirect_sound (b ∷ s) r e =
    let h = begun_some b 40 (inner_of s) r e in
    let n = inner_sound s r h.1 in
    (n.0, rw (h.0, n.1) refl)

pub address_complete : (disp : ℤ) (r : ℕ) → IsDisplacement disp → r < 32 → address_of (address_text disp r) ≡ Some (disp, r)
unfolding address_of
address_complete disp r low small =
    rw (cut_front 40 (signed_decimal disp) (register_name r ++ 41 ∷ []) (signed_lacks disp low), displacement_complete disp low, inner_complete r small) refl

pub address_sound : (s : List ℕ) (p : ℤ × ℕ) → address_of s ≡ Some p → IsDisplacement p.0 × (p.1 < 32) × (s ≡ address_text p.0 p.1)
unfolding address_of
address_sound s p e = by (cut 40 s) refl e
  where
    by : (o : Option (List ℕ × List ℕ)) → cut 40 s ≡ o → address_in o ≡ Some p → IsDisplacement p.0 × (p.1 < 32) × (s ≡ address_text p.0 p.1)
    by None was h = absurd (cc)
    by (Some q) was h =
        let parts = zipped_parts (displacement_of q.0) (inner_of q.1) p h in
        let d = displacement_sound q.0 p.0 parts.0 in
        let n = inner_sound q.1 p.1 parts.1 in
        (d.0, n.0, cut_sound 40 s q.0 q.1 was ∙ rw (d.1, n.1) refl)

-- two operands

pair_complete : (a b : List ℕ) → Lacks 44 a → pair_of (operand_pair a b) ≡ Some (a, b)
unfolding pair_of
pair_complete a b lacks = rw (cut_front 44 a (32 ∷ b) lacks) refl

blank_read : (a b : List ℕ) (p : List ℕ × List ℕ) → behind_blank a b ≡ Some p → (a ≡ p.0) × (b ≡ 32 ∷ p.1)
blank_read a [] p e = absurd (cc)
blank_read a (x ∷ b) p e =
    let h = begun_some x 32 (Some (a, b)) p e in
    let same : ◌≡◌ {A = List ℕ × List ℕ} (a, b) p = cc in
    (ap (λ q. q.0) same, rw (h.0) (ap (λ q. 32 ∷ q.1) same))

pair_sound : (s : List ℕ) (p : List ℕ × List ℕ) → pair_of s ≡ Some p → s ≡ operand_pair p.0 p.1
unfolding pair_of
pair_sound s p e = by (cut 44 s) refl e
  where
    by : (o : Option (List ℕ × List ℕ)) → cut 44 s ≡ o → behind_comma o ≡ Some p → s ≡ operand_pair p.0 p.1
    by None was h = absurd (cc)
    by (Some q) was h =
        let parts = blank_read q.0 q.1 p h in
        cut_sound 44 s q.0 q.1 was ∙ rw (parts.0, parts.1) refl

pub two_complete : {A B : Type 0} (f : List ℕ → Option A) (g : List ℕ → Option B) (a b : List ℕ) (x : A) (y : B) → Lacks 44 a → f a ≡ Some x → g b ≡ Some y → two_of f g (operand_pair a b) ≡ Some (x, y)
unfolding two_of
two_complete f g a b x y lacks front behind = rw (pair_complete a b lacks, front, behind) refl

-- the texts of two operands that were read
pub record Two {A B : Type 0} (f : List ℕ → Option A) (g : List ℕ → Option B) (s : List ℕ) (p : A × B) : Type 0 where
  pub first : List ℕ
  pub second : List ℕ
  pub text : s ≡ operand_pair first second
  pub front : f first ≡ Some p.0
  pub behind : g second ≡ Some p.1

pub two_sound : {A B : Type 0} (f : List ℕ → Option A) (g : List ℕ → Option B) (s : List ℕ) (p : A × B) → two_of f g s ≡ Some p → Two f g s p
unfolding two_of
two_sound {A} {B} f g s p e = by (pair_of s) refl e
  where
    by : (o : Option (List ℕ × List ℕ)) → pair_of s ≡ o → each_of f g o ≡ Some p → Two f g s p
    by None was h = absurd (cc)
    by (Some q) was h =
        let parts = zipped_parts (f q.0) (g q.1) p h in
        record { first = q.0; second = q.1; text = pair_sound s q was; front = parts.0; behind = parts.1 }
