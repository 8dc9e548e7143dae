-- Operations on contents, and on the words that stand for them.
use Rattle.std.proofs.Common.{◌≡◌, ℕ, zero, suc, ◌+◌, ◌-◌, ◌%◌, ◌^◌, ◌<◌, Bool, length, Option, Some, None, refl, sym, ap, ◌∙◌, subst, arith}
use Rattle.std.specs.Prelude.{◌==◌, not, nat_lt, nat_le, ℤ, pos, negsuc, ◌-ℤ◌, option_map, bit_or, if◌then◌else◌}
use Rattle.std.specs.Int.{w64, cast_signed}
use Rattle.std.specs.Int.RustNames.{FitsSigned}
use Rattle.std.proofs.Math.Facts.{sfits_to_z}
use Rattle.std.proofs.lemmas.Int.{of_z-to_z, ints}
use Rattle.std.proofs.lemmas.Nat.{or_shifted}
use Rattle.alpha_isa.specs.Arithmetic as isa
use Rattle.alpha_isa.specs.Arithmetic.{OperationEffect, Keeps, Overflows, word_at, word_from, signed_value, word_difference, operation_effect}
use Rattle.alpha_isa.specs.Step.{is_branch_taken}
use Rattle.mem_model.specs.declared.value.Ptr.{Ptr}
use Rattle.mem_model.specs.declared.value.Value.{Value}
use Rattle.mem_model.specs.declared.value.Value.TheVariants.{Word, Address, Unset}
use Rattle.mem_model.specs.Memory.{Memory}
use Rattle.mem_model.specs.Pointers.{pointer_plus, pointer_minus, pointer_lt, pointer_le, pointer_eq, is_null, share_object}
use Rattle.mem_model.proofs.Pointers.{when-some}
use Rattle.temp_ir.specs.declared.operation.TempBranchOp.{TempBranchOp}
use Rattle.temp_ir.specs.declared.operation.TempBranchOp.TheVariants.{Blbc, Beq, Blt, Ble, Blbs, Bne, Bge, Bgt}
use Rattle.temp_ir.specs.declared.operation.Operation.{Operation}
use Rattle.temp_ir.specs.declared.operation.Operation.TheVariants.{Addl, Subl, Cmpult, Addq, S4addq, Subq, Cmpeq, S8addq, Cmpule, AddlV, SublV, Cmplt, AddqV, SubqV, Cmple, And, Bic, Bis, Ornot, Xor, Eqv, Zapnot, Srl, Sll, Sra, Mull, Mulq, Umulh, MullV, MulqV}
use Rattle.temp_ir.specs.declared.operation.ExtendOp.{ExtendOp}
use Rattle.temp_ir.specs.Operations.{branch_op, operate_op, extend_op}
use Rattle.alloc_model.specs.Contents.{Content, Plain, Bundle, word_content, Gives, residue, content_answer, effect_answer, test_word, pointer_moved, other_content, operate_answer, extend_answer, moved_content, pointer_test, branch_test}
use Rattle.frame_memory.specs.Bytes.{Bytes, low_bytes}
use Rattle.frame_memory.specs.Relation.{Extents, ValueIs, CellsAre, Owners, MemoryIs}
use Rattle.frame_memory.specs.Laws.{MoreExtents}
use Rattle.frame_memory.proofs.Rows.{value-stays, cells-stay}
use Rattle.frame_memory.proofs.Pointers.{pointers_move, pointers_answer}
use Rattle.frame_memory.specs.flat_operations.Contents.{ContentIs, EffectIs}

-- ---- options

map-some : {A B : Type 0} (f : A → B) (o : Option A) (b : B) → option_map f o ≡ Some b → (a : A) × (o ≡ Some a) × (f a ≡ b)
map-some f None b e = absurd (cc)
map-some f (Some a) b e = (a, refl, cc)

-- ---- words

-- the word of a signed reading
from-signed : (n : ℕ) → n < 2 ^ 64 → word_from (signed_value w64 n) ≡ n
from-signed n small =
    let low : n % 2 ^ 64 ≡ n = omega arith in
    ap (λ k. word_from (cast_signed w64 k)) low ∙ of_z-to_z w64 n small

-- a signed reading fits its width
reading-fits : (n : ℕ) → FitsSigned w64 (signed_value w64 n)
reading-fits n = sfits_to_z {w = w64} {n = n % 2 ^ 64} (record { fits = omega arith })

from-negated : (x n : ℕ) (z d : ℤ) → FitsSigned w64 z → d ≡ pos 0 -ℤ z → word_from z ≡ n → n < 2 ^ 64 → word_at (x + word_from d) ≡ word_at (word_difference x n)
from-negated x n (pos a) (pos b) fits e w small =
    let f : a + b ≡ 0 = omega (arith, ints, e) in
    let g : a ≡ n = w in
    let h : word_at (x + b) ≡ word_at (word_difference x n) = omega (arith, f, g) in h
from-negated x n (pos a) (negsuc b) fits e w small =
    let f : a ≡ suc b = omega (arith, ints, e) in
    let g : a ≡ n = w in
    let h : word_at (x + (2 ^ 64 - suc b)) ≡ word_at (word_difference x n) = omega (arith, f, g, small) in h
from-negated x n (negsuc a) (pos b) fits e w small =
    let f : b ≡ suc a = omega (arith, ints, e) in
    let g : 2 ^ 64 - suc a ≡ n = w in
    let h : word_at (x + b) ≡ word_at (word_difference x n) = omega (arith, f, g, small, fits.sfits) in h
from-negated x n (negsuc a) (negsuc b) fits e w small = let f : ⊥ = omega (arith, ints, e) in absurd f

-- the word of a number that lies between -2^64 and 2^64 is its residue
small-residue : (a b : ℕ) (d : ℤ) → pos a -ℤ pos b ≡ d → a < 2 ^ 64 → b < 2 ^ 64 → word_from d ≡ residue d
small-residue a b (pos n) e f g = let h : a ≡ b + n = omega (arith, ints, e) in omega (arith, h, f)
small-residue a b (negsuc n) e f g = let h : a + suc n ≡ b = omega (arith, ints, e) in omega (arith, h, g)

module _ (xs : Extents) (memory : Memory) (owner : Owners) (m : Bytes) (mem : MemoryIs xs memory owner m) where
  -- an operation gives a word for a content
  GivesFor : OperationEffect → Content → Type 0
  GivesFor e c = (n : ℕ) × (e ≡ isa.Gives n) × ContentIs xs c n

  moved-gives : (v : Value) (w : ℕ) (by : ℤ) (c : Content) (n : ℕ) → ValueIs xs v w → pointer_moved memory v by ≡ Some c → word_at (w + word_from by) ≡ n → GivesFor (isa.Gives n) c
  unfolding GivesFor
  moved-gives v w by c n h e is =
      let u = map-some Plain (pointer_plus memory v by) c e in
      (n, refl, subst (λ d. ContentIs xs d n) u.2 (subst (ValueIs xs u.0) is (pointers_move xs memory owner m mem v u.0 w by h u.1)))

  tested : (test : Option Bool) (b : Bool) (c : Content) → test_word test ≡ Some c → ((a : Bool) → test ≡ Some a → b ≡ a) → GivesFor (isa.Gives (if b then 1 else 0)) c
  unfolding GivesFor
  tested test b c e h =
      let a = map-some (λ t. word_content (if t then 1 else 0)) test c e in
      ((if b then 1 else 0), refl, subst (λ d. ContentIs xs d (if b then 1 else 0)) a.2 (ap (λ t. if t then 1 else 0) (h a.0 a.1)))

  sum-gives : (a b : Content) (x y : ℕ) (c : Content) → y < 2 ^ 64 → x < 2 ^ 64 → ContentIs xs a x → ContentIs xs b y → other_content memory Addq a b ≡ Some c → GivesFor (isa.Gives (word_at (x + y))) c
  sum-gives (Plain (Address p)) (Plain (Word n)) x y c fy fx h k e =
      let small : n < 2 ^ 64 = subst (λ j. j < 2 ^ 64) k fy in
      moved-gives (Address p) x (signed_value w64 n) c (word_at (x + y)) h e (ap (λ j. word_at (x + j)) (from-signed n small ∙ sym k))
  sum-gives (Plain (Word n)) (Plain (Address p)) x y c fy fx h k e =
      let small : n < 2 ^ 64 = subst (λ j. j < 2 ^ 64) h fx in
      let turn : y + x ≡ x + y = omega arith in
      moved-gives (Address p) y (signed_value w64 n) c (word_at (x + y)) k e (ap (λ j. word_at (y + j)) (from-signed n small ∙ sym h) ∙ ap word_at turn)
  sum-gives (Plain (Address p)) (Plain (Address q)) x y c fy fx h k e = absurd (cc)
  sum-gives (Plain (Address p)) (Plain Unset) x y c fy fx h k e = absurd (cc)
  sum-gives (Plain (Address p)) (Bundle cells) x y c fy fx h k e = absurd (cc)
  sum-gives (Plain (Word n)) (Plain (Word j)) x y c fy fx h k e = absurd (cc)
  sum-gives (Plain (Word n)) (Plain Unset) x y c fy fx h k e = absurd (cc)
  sum-gives (Plain (Word n)) (Bundle cells) x y c fy fx h k e = absurd (cc)
  sum-gives (Plain Unset) b x y c fy fx h k e = absurd (cc)
  sum-gives (Bundle cells) b x y c fy fx h k e = absurd (cc)

  -- the distance of two pointers is below 2^64, so its residue is its word
  distance-small : (p q : Ptr) (x y : ℕ) (d : ℤ) → ValueIs xs (Address p) x → ValueIs xs (Address q) y → pointer_minus memory (Address p) (Address q) ≡ Some d → word_from d ≡ residue d
  distance-small p q x y d h k e =
      let made = when-some (share_object memory p q) (p.offset -ℤ q.offset) d e in
      let apart : pos h.at -ℤ pos k.at ≡ d = ap (λ z. z -ℤ pos k.at) (sym h.offset) ∙ ap (λ z. p.offset -ℤ z) (sym k.offset) ∙ made.1 in
      small-residue h.at k.at d apart (omega (arith, h.within, h.sound.small)) (omega (arith, k.within, k.sound.small))

  difference-gives : (a b : Content) (x y : ℕ) (c : Content) → y < 2 ^ 64 → ContentIs xs a x → ContentIs xs b y → other_content memory Subq a b ≡ Some c → GivesFor (isa.Gives (word_at (word_difference x y))) c
  unfolding GivesFor
  difference-gives (Plain (Address p)) (Plain (Word n)) x y c fy h k e =
      let small : n < 2 ^ 64 = subst (λ j. j < 2 ^ 64) k fy in
      moved-gives (Address p) x (pos 0 -ℤ signed_value w64 n) c (word_at (word_difference x y)) h e (from-negated x y (signed_value w64 n) (pos 0 -ℤ signed_value w64 n) (reading-fits n) refl (from-signed n small ∙ sym k) fy)
  difference-gives (Plain (Address p)) (Plain (Address q)) x y c fy h k e =
      let d = map-some (λ z. word_content (residue z)) (pointer_minus memory (Address p) (Address q)) c e in
      let is : word_at (word_difference x y) ≡ residue d.0 = (pointers_answer xs memory owner m mem (Address p) (Address q) x y h k).minus d.0 d.1 ∙ distance-small p q x y d.0 h k d.1 in
      (word_at (word_difference x y), refl, subst (λ z. ContentIs xs z (word_at (word_difference x y))) d.2 is)
  difference-gives (Plain (Address p)) (Plain Unset) x y c fy h k e = absurd (cc)
  difference-gives (Plain (Address p)) (Bundle cells) x y c fy h k e = absurd (cc)
  difference-gives (Plain (Word n)) b x y c fy h k e = absurd (cc)
  difference-gives (Plain Unset) b x y c fy h k e = absurd (cc)
  difference-gives (Bundle cells) b x y c fy h k e = absurd (cc)

  equal-gives : (a b : Content) (x y : ℕ) (c : Content) → ContentIs xs a x → ContentIs xs b y → other_content memory Cmpeq a b ≡ Some c → GivesFor (isa.Gives (if x == y then 1 else 0)) c
  equal-gives (Plain v) (Plain u) x y c h k e = tested (pointer_eq memory v u) (x == y) c e ((pointers_answer xs memory owner m mem v u x y h k).eq)
  equal-gives (Plain v) (Bundle cells) x y c h k e = absurd (cc)
  equal-gives (Bundle cells) b x y c h k e = absurd (cc)

  less-gives : (a b : Content) (x y : ℕ) (c : Content) → ContentIs xs a x → ContentIs xs b y → other_content memory Cmpult a b ≡ Some c → GivesFor (isa.Gives (if nat_lt x y then 1 else 0)) c
  less-gives (Plain v) (Plain u) x y c h k e = tested (pointer_lt memory v u) (nat_lt x y) c e ((pointers_answer xs memory owner m mem v u x y h k).lt)
  less-gives (Plain v) (Bundle cells) x y c h k e = absurd (cc)
  less-gives (Bundle cells) b x y c h k e = absurd (cc)

  most-gives : (a b : Content) (x y : ℕ) (c : Content) → ContentIs xs a x → ContentIs xs b y → other_content memory Cmpule a b ≡ Some c → GivesFor (isa.Gives (if nat_le x y then 1 else 0)) c
  most-gives (Plain v) (Plain u) x y c h k e = tested (pointer_le memory v u) (nat_le x y) c e ((pointers_answer xs memory owner m mem v u x y h k).le)
  most-gives (Plain v) (Bundle cells) x y c h k e = absurd (cc)
  most-gives (Bundle cells) b x y c h k e = absurd (cc)

  -- zero or a word is the word
  or-zero : (x y : ℕ) → y < 2 ^ 64 → x ≡ 0 → bit_or x y ≡ y
  or-zero x y fy e = let none : 0 + y ≡ y = omega arith in ap (λ k. bit_or k y) e ∙ or_shifted 0 64 y fy ∙ none

  either-gives : (a b : Content) (x y : ℕ) (c : Content) → y < 2 ^ 64 → ContentIs xs a x → ContentIs xs b y → other_content memory Bis a b ≡ Some c → GivesFor (isa.Gives (bit_or x y)) c
  unfolding GivesFor
  either-gives (Plain (Word zero)) (Plain (Address p)) x y c fy h k e =
      let is : Plain (Address p) ≡ c = cc in
      (bit_or x y, refl, subst (λ d. ContentIs xs d (bit_or x y)) is (subst (ValueIs xs (Address p)) (sym (or-zero x y fy h)) k))
  either-gives (Plain (Word zero)) (Bundle cells) x y c fy h k e =
      let is : Bundle cells ≡ c = cc in
      (bit_or x y, refl, subst (λ d. ContentIs xs d (bit_or x y)) is (subst (λ w. CellsAre xs cells (low_bytes (length cells) w)) (sym (or-zero x y fy h)) k))
  either-gives (Plain (Word zero)) (Plain (Word n)) x y c fy h k e = absurd (cc)
  either-gives (Plain (Word zero)) (Plain Unset) x y c fy h k e = absurd (cc)
  either-gives (Plain (Word (suc n))) b x y c fy h k e = absurd (cc)
  either-gives (Plain (Address p)) b x y c fy h k e = absurd (cc)
  either-gives (Plain Unset) b x y c fy h k e = absurd (cc)
  either-gives (Bundle cells) b x y c fy h k e = absurd (cc)

  -- what is no operation on words
  other-gives : (op : Operation) (a b : Content) (x y : ℕ) (c : Content) → x < 2 ^ 64 → y < 2 ^ 64 → ContentIs xs a x → ContentIs xs b y → other_content memory op a b ≡ Some c → GivesFor (operation_effect (operate_op op) x y) c
  other-gives Addl a b x y c fx fy h k e = absurd (cc)
  other-gives Subl a b x y c fx fy h k e = absurd (cc)
  other-gives Cmpult a b x y c fx fy h k e = less-gives a b x y c h k e
  other-gives Addq a b x y c fx fy h k e = sum-gives a b x y c fy fx h k e
  other-gives S4addq a b x y c fx fy h k e = absurd (cc)
  other-gives Subq a b x y c fx fy h k e = difference-gives a b x y c fy h k e
  other-gives Cmpeq a b x y c fx fy h k e = equal-gives a b x y c h k e
  other-gives S8addq a b x y c fx fy h k e = absurd (cc)
  other-gives Cmpule a b x y c fx fy h k e = most-gives a b x y c h k e
  other-gives AddlV a b x y c fx fy h k e = absurd (cc)
  other-gives SublV a b x y c fx fy h k e = absurd (cc)
  other-gives Cmplt a b x y c fx fy h k e = absurd (cc)
  other-gives AddqV a b x y c fx fy h k e = absurd (cc)
  other-gives SubqV a b x y c fx fy h k e = absurd (cc)
  other-gives Cmple a b x y c fx fy h k e = absurd (cc)
  other-gives And a b x y c fx fy h k e = absurd (cc)
  other-gives Bic a b x y c fx fy h k e = absurd (cc)
  other-gives Bis a b x y c fx fy h k e = either-gives a b x y c fy h k e
  other-gives Ornot a b x y c fx fy h k e = absurd (cc)
  other-gives Xor a b x y c fx fy h k e = absurd (cc)
  other-gives Eqv a b x y c fx fy h k e = absurd (cc)
  other-gives Zapnot a b x y c fx fy h k e = absurd (cc)
  other-gives Srl a b x y c fx fy h k e = absurd (cc)
  other-gives Sll a b x y c fx fy h k e = absurd (cc)
  other-gives Sra a b x y c fx fy h k e = absurd (cc)
  other-gives Mull a b x y c fx fy h k e = absurd (cc)
  other-gives Mulq a b x y c fx fy h k e = absurd (cc)
  other-gives Umulh a b x y c fx fy h k e = absurd (cc)
  other-gives MullV a b x y c fx fy h k e = absurd (cc)
  other-gives MulqV a b x y c fx fy h k e = absurd (cc)

  effect-is : (o : Option Content) (e : OperationEffect) → ((c : Content) → o ≡ Some c → GivesFor e c) → EffectIs xs (content_answer o) e
  unfolding GivesFor
  effect-is None e h = tt
  effect-is (Some c) e h = let g = h c refl in subst (λ z. EffectIs xs (Gives c) z) (sym g.1) g.2

  others : (op : Operation) (a b : Content) (x y : ℕ) → x < 2 ^ 64 → y < 2 ^ 64 → ContentIs xs a x → ContentIs xs b y → EffectIs xs (content_answer (other_content memory op a b)) (operation_effect (operate_op op) x y)
  others op a b x y fx fy h k = effect-is (other_content memory op a b) (operation_effect (operate_op op) x y) (λ c e. other-gives op a b x y c fx fy h k e)

  own-effect : (e : OperationEffect) → EffectIs xs (effect_answer e) e
  own-effect (isa.Gives n) = refl
  own-effect Keeps = tt
  own-effect Overflows = refl

  pub operations_correspond : (op : Operation) (a b : Content) (x y : ℕ) → x < 2 ^ 64 → y < 2 ^ 64 → ContentIs xs a x → ContentIs xs b y → EffectIs xs (operate_answer memory op a b) (operation_effect (operate_op op) x y)
  operations_correspond op (Plain (Word a)) (Plain (Word b)) x y fx fy h k =
      let left : operation_effect (operate_op op) x y ≡ operation_effect (operate_op op) a y = ap (λ n. operation_effect (operate_op op) n y) h in
      let right : operation_effect (operate_op op) a y ≡ operation_effect (operate_op op) a b = ap (operation_effect (operate_op op) a) k in
      subst (EffectIs xs (effect_answer (operation_effect (operate_op op) a b))) (sym (left ∙ right)) (own-effect (operation_effect (operate_op op) a b))
  operations_correspond op (Plain (Word a)) (Plain (Address q)) x y fx fy h k = others op (Plain (Word a)) (Plain (Address q)) x y fx fy h k
  operations_correspond op (Plain (Word a)) (Plain Unset) x y fx fy h k = others op (Plain (Word a)) (Plain Unset) x y fx fy h k
  operations_correspond op (Plain (Word a)) (Bundle cells) x y fx fy h k = others op (Plain (Word a)) (Bundle cells) x y fx fy h k
  operations_correspond op (Plain (Address p)) b x y fx fy h k = others op (Plain (Address p)) b x y fx fy h k
  operations_correspond op (Plain Unset) b x y fx fy h k = others op (Plain Unset) b x y fx fy h k
  operations_correspond op (Bundle cells) b x y fx fy h k = others op (Bundle cells) b x y fx fy h k

  -- ---- moves and tests

  pub moves_correspond : (c d : Content) (x : ℕ) (by : ℤ) → ContentIs xs c x → moved_content memory c by ≡ Some d → ContentIs xs d (word_at (x + word_from by))
  moves_correspond (Plain (Word n)) d x by h e =
      let is : word_content (word_at (n + word_from by)) ≡ d = cc in
      subst (λ z. ContentIs xs z (word_at (x + word_from by))) is (ap (λ k. word_at (k + word_from by)) h)
  moves_correspond (Plain (Address p)) d x by h e =
      let u = map-some Plain (pointer_plus memory (Address p) by) d e in
      subst (λ z. ContentIs xs z (word_at (x + word_from by))) u.2 (pointers_move xs memory owner m mem (Address p) u.0 x by h u.1)
  moves_correspond (Plain Unset) d x by h e = absurd (cc)
  moves_correspond (Bundle cells) d x by h e = absurd (cc)

  is-null : (v : Value) (x : ℕ) (b : Bool) → ValueIs xs v x → is_null memory v ≡ Some b → (x == 0) ≡ b
  is-null v x b h e = (pointers_answer xs memory owner m mem v v x x h h).null b e

  pointer-tests : (op : TempBranchOp) (v : Value) (x : ℕ) (b : Bool) → ValueIs xs v x → pointer_test op (is_null memory v) ≡ Some b → is_branch_taken (branch_op op) x ≡ b
  pointer-tests Beq v x b h e = is-null v x b h e
  pointer-tests Bne v x b h e = let a = map-some not (is_null memory v) b e in ap not (is-null v x a.0 h a.1) ∙ a.2
  pointer-tests Blbc v x b h e = absurd (cc)
  pointer-tests Blt v x b h e = absurd (cc)
  pointer-tests Ble v x b h e = absurd (cc)
  pointer-tests Blbs v x b h e = absurd (cc)
  pointer-tests Bge v x b h e = absurd (cc)
  pointer-tests Bgt v x b h e = absurd (cc)

  pub tests_correspond : (op : TempBranchOp) (c : Content) (x : ℕ) (b : Bool) → ContentIs xs c x → branch_test op memory c ≡ Some b → is_branch_taken (branch_op op) x ≡ b
  tests_correspond op (Plain (Word n)) x b h e = let is : is_branch_taken (branch_op op) n ≡ b = cc in ap (is_branch_taken (branch_op op)) h ∙ is
  tests_correspond op (Plain (Address p)) x b h e = pointer-tests op (Address p) x b h e
  tests_correspond op (Plain Unset) x b h e = absurd (cc)
  tests_correspond op (Bundle cells) x b h e = absurd (cc)

-- ---- sign extensions, and more extents

pub extensions_correspond : (xs : Extents) (op : ExtendOp) (c : Content) (x : ℕ) → ContentIs xs c x → EffectIs xs (extend_answer op c) (operation_effect (extend_op op) 0 x)
extensions_correspond xs op (Plain (Word n)) x h =
    subst (EffectIs xs (effect_answer (operation_effect (extend_op op) 0 n))) (sym (ap (operation_effect (extend_op op) 0) h)) (own (operation_effect (extend_op op) 0 n))
  where
    own : (e : OperationEffect) → EffectIs xs (effect_answer e) e
    own (isa.Gives n) = refl
    own Keeps = tt
    own Overflows = refl
extensions_correspond xs op (Plain (Address p)) x h = tt
extensions_correspond xs op (Plain Unset) x h = tt
extensions_correspond xs op (Bundle cells) x h = tt

pub contents_stay : (xs ys : Extents) (c : Content) (w : ℕ) → MoreExtents xs ys → ContentIs xs c w → ContentIs ys c w
contents_stay xs ys (Plain v) w more h = value-stays xs ys more v w h
contents_stay xs ys (Bundle cells) w more h = cells-stay xs ys more cells (low_bytes (length cells) w) h
