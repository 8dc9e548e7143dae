-- Operators that leave an operand as it is, and products by 0, on the values of their operands.
use Rattle.std.proofs.Common.{◌≡◌, ◌⊎◌, ◌+◌, ◌*◌, ◌^◌, ℕ, Bool, true, false, ◌&&◌, ◌||◌, ◌==◌, IsTrue, List, Some, None, refl, sym, ap, ◌∙◌, subst, inl, inr, if◌then◌else◌, eqb-true, nat_le, arith}
use Rattle.std.specs.Prelude.{pos, negsuc, ℤ, ◌+ℤ◌, ◌*ℤ◌, neg_ℤ, int_le, int_lt, unsigned_abs}
use Rattle.std.specs.Int.{int_shr}
use Rattle.std.specs.Int.Bits.{or_zero_r, xor_zero_r}
use Rattle.std.proofs.lemmas.Int.{ints}
use Rattle.std.proofs.lemmas.Option.{none-some}
use mir.Val.{bits}
use Rattle.mem_model.specs.declared.value.Ptr.{Ptr}
use Rattle.mem_model.specs.declared.value.Value.{Value}
use Rattle.mem_model.specs.declared.value.Value.TheVariants.{Word, Address, Unset}
use Rattle.mem_model.specs.Pointers.{ptr_plus, is_live, is_offset, size_at, option_if}
use Rattle.mem_model.specs.Ending.{Evaluation, Done, Trap, Undefined, More, Gives, Ends}
use Rattle.bk_arithmetic.specs.declared.integer_type.IntegerType.{IntegerType}
use Rattle.bk_arithmetic.specs.declared.integer_type.IntegerType.TheVariants as i
use Rattle.bk_arithmetic.specs.declared.outcome.ArithmeticOutcome.{ArithmeticOutcome}
use Rattle.bk_arithmetic.specs.declared.outcome.ArithmeticOutcome.TheVariants as o
use Rattle.bk_arithmetic.specs.IntegerTypes.{width}
use Rattle.bk_arithmetic.specs.Words.{is_word, extension, value, word}
use Rattle.bk_arithmetic.specs.Operations.{shift_count, left_shift_by, right_shift_by, product}
use Rattle.bk_arithmetic.proofs.Sums.{value-zero}
use Rattle.bk_arithmetic.proofs.Values.{word-value}
use Rattle.bk_arithmetic.proofs.Results.{sum-zero, difference-zero, product-one, product-zero, sum-either, product-either}
use Rattle.c_tree.specs.declared.expressions.BinaryOp.{BinaryOp}
use Rattle.c_tree.specs.declared.expressions.BinaryOp.TheVariants as b
use Rattle.c_typed_tree.specs.declared.types.StructDef.{StructDef}
use Rattle.c_typed_tree.specs.Types.{PlainType, Void, Int, Pointer, Array, Struct}
use Rattle.c_typed_tree.specs.Layout.{integer_of, size_of}
use Rattle.c_typed_tree.specs.Constants.{is_integer, integers_with}
use Rattle.c_typed_tree.specs.Typing.{is_same_type, is_promoted, is_fit, depth_behind, most_depth, points_to_object, is_arithmetic, is_sum, is_difference, is_shift, has_binary_type, long}
use Rattle.c_semantics.specs.Reasons.{Reason}
use Rattle.c_semantics.specs.Runs.{CallState, Run, and_then, ◌>>=◌, pure, undefined_behaviour, on_memory, or_undefined, use_number}
use Rattle.c_semantics.specs.Objects.{integer_or_word, stands_inside, move_reason, move_elements, move_by}
use Rattle.c_semantics.specs.Operators.{outcome, integers, apply_binary, pointer_and_integer}
use Rattle.c_semantics.specs.Refines.{GivesBelow, RunRefines}
use Rattle.c_semantics.proofs.Below.{below_same}
use Rattle.c_semantics.proofs.Facts.{no_true, front, back}
use Rattle.c_rewrite_rules.specs.Rules.{keeps_left, keeps_right}
use Rattle.c_rewrite_rules.specs.model.Truths.{either, same, IsIntegerType, integer_there}
use Rattle.c_rewrite_rules.specs.model.Constants.{no_integer_pointer}
use Rattle.c_rewrite_rules.specs.model.Runs.{as_it_is, nothing_asked}
use Rattle.c_rewrite_rules.specs.model.Folded.{or_word}
use Rattle.c_rewrite_rules.specs.model.Held.{GivesOnly, Only, IsHeld}
use Rattle.c_rewrite_rules.specs.model.Idle.{StaysIn, Idle}

-- ---- runs whose value goes through an operator

-- what is given on: the operator leaves each value as it is
pub passed_on : {A : Type 0} (P : A → Type 0) (r : Evaluation A CallState) (k : A → Run A) → GivesOnly P r → ((a : A) → P a → RunRefines (pure a) (k a))
    → GivesBelow r (and_then r k)
unfolding pure
passed_on P (Gives a s) k h g = (g a h).by s
passed_on P (Ends e) k h g = below_same (Ends e)

pub leaves_values : {P : Value → Type 0} (m : Run Value) (k : Value → Run Value) → Only P m → ((v : Value) → P v → RunRefines (pure v) (k v)) → RunRefines m (m >>= k)
unfolding ◌>>=◌
leaves_values {P = P} m k h g = record { by = λ s. passed_on P (m s) k (h.by s) g }

-- ---- integers

pub held_is : (t : IntegerType) (n : ℕ) → is_word t n ≡ true → extension t n ≡ n
held_is t n h = eqb-true (extension t n) n h

pub zero_is : (n : ℕ) → IsTrue (n == 0) → n ≡ 0
zero_is n h = eqb-true n 0 h

pub one_is : (n : ℕ) → IsTrue (n == 1) → n ≡ 1
one_is n h = eqb-true n 1 h

pub no_count : (t : IntegerType) → (if int_le (pos 0) (pos 0) && int_lt (pos 0) (pos (bits (width t))) then Some (unsigned_abs (pos 0)) else None) ≡ Some 0
no_count i.Char = refl
no_count i.UnsignedChar = refl
no_count i.Short = refl
no_count i.UnsignedShort = refl
no_count i.Int = refl
no_count i.UnsignedInt = refl
no_count i.Long = refl
no_count i.UnsignedLong = refl

pub count_zero : (t c : IntegerType) → shift_count t c 0 ≡ Some 0
count_zero t c =
    ap (λ z. if int_le (pos 0) z && int_lt z (pos (bits (width t))) then Some (unsigned_abs z) else None) (value-zero c) ∙ no_count t

pub shr_none : (z : ℤ) → int_shr z 0 ≡ z
shr_none (pos a) = ap pos (omega arith)
shr_none (negsuc a) = ap negsuc (omega arith)

-- what the operator leaves of a word, where the literal is the one that it asks for
pub left_kept : (op : BinaryOp) (t c : IntegerType) (m n : ℕ) → IsTrue (keeps_left op n) → is_word t m ≡ true → integers_with op t c m n ≡ o.Word m
left_kept b.Add t c m n k w = ap (λ v. integers_with b.Add t c m v) (zero_is n k) ∙ sum-zero t m ∙ ap o.Word (held_is t m w)
left_kept b.Subtract t c m n k w = ap (λ v. integers_with b.Subtract t c m v) (zero_is n k) ∙ difference-zero t m ∙ ap o.Word (held_is t m w)
left_kept b.Multiply t c m n k w = ap (λ v. integers_with b.Multiply t c m v) (one_is n k) ∙ product-one t m ∙ ap o.Word (held_is t m w)
left_kept b.Or t c m n k w = ap (λ v. integers_with b.Or t c m v) (zero_is n k) ∙ ap (λ v. o.Word (extension t v)) (or_zero_r m) ∙ ap o.Word (held_is t m w)
left_kept b.Xor t c m n k w = ap (λ v. integers_with b.Xor t c m v) (zero_is n k) ∙ ap (λ v. o.Word (extension t v)) (xor_zero_r m) ∙ ap o.Word (held_is t m w)
left_kept b.ShiftLeft t c m n k w =
    let once : m * 2 ^ 0 ≡ m = omega arith in
    ap (λ v. integers_with b.ShiftLeft t c m v) (zero_is n k) ∙ ap (left_shift_by t m) (count_zero t c)
    ∙ ap (λ v. o.Word (extension t v)) once ∙ ap o.Word (held_is t m w)
left_kept b.ShiftRight t c m n k w =
    ap (λ v. integers_with b.ShiftRight t c m v) (zero_is n k) ∙ ap (right_shift_by t m) (count_zero t c)
    ∙ ap (λ z. o.Word (word t z)) (shr_none (value t m)) ∙ ap o.Word (word-value t m ∙ held_is t m w)
left_kept b.And t c m n k w = no_true k
left_kept b.Equal t c m n k w = no_true k
left_kept b.NotEqual t c m n k w = no_true k
left_kept b.Less t c m n k w = no_true k
left_kept b.Greater t c m n k w = no_true k
left_kept b.LessEqual t c m n k w = no_true k
left_kept b.GreaterEqual t c m n k w = no_true k
left_kept b.Divide t c m n k w = no_true k
left_kept b.Remainder t c m n k w = no_true k
left_kept b.LogicalOr t c m n k w = no_true k
left_kept b.LogicalAnd t c m n k w = no_true k

pub right_kept : (op : BinaryOp) (t c : IntegerType) (m n : ℕ) → IsTrue (keeps_right op n) → is_word t m ≡ true → integers_with op t c n m ≡ o.Word m
right_kept b.Add t c m n k w = sum-either t n m ∙ left_kept b.Add t c m n k w
right_kept b.Multiply t c m n k w = product-either t n m ∙ left_kept b.Multiply t c m n k w
right_kept b.Subtract t c m n k w = no_true k
right_kept b.Or t c m n k w = no_true k
right_kept b.Xor t c m n k w = no_true k
right_kept b.ShiftLeft t c m n k w = no_true k
right_kept b.ShiftRight t c m n k w = no_true k
right_kept b.And t c m n k w = no_true k
right_kept b.Equal t c m n k w = no_true k
right_kept b.NotEqual t c m n k w = no_true k
right_kept b.Less t c m n k w = no_true k
right_kept b.Greater t c m n k w = no_true k
right_kept b.LessEqual t c m n k w = no_true k
right_kept b.GreaterEqual t c m n k w = no_true k
right_kept b.Divide t c m n k w = no_true k
right_kept b.Remainder t c m n k w = no_true k
right_kept b.LogicalOr t c m n k w = no_true k
right_kept b.LogicalAnd t c m n k w = no_true k

pub same_outcome : (a : ArithmeticOutcome) (m : ℕ) → a ≡ o.Word m → RunRefines (pure (Word m)) (outcome a)
same_outcome a m e = as_it_is (λ s. sym (ap (λ v. outcome v s) e))

pub number_left : (op : BinaryOp) (t c : IntegerType) (v : Value) (n : ℕ) → IsTrue (keeps_left op n) → ((m : ℕ) → v ≡ Word m → is_word t m ≡ true)
    → RunRefines (pure v) (integers op t c v (Word n))
unfolding ◌>>=◌ pure undefined_behaviour
number_left op t c (Word m) n k w = record { by = λ s. (same_outcome (integers_with op t c m n) m (left_kept op t c m n k (w m refl))).by s }
number_left op t c (Address p) n k w = record { by = λ s. tt }
number_left op t c Unset n k w = record { by = λ s. tt }

pub number_right : (op : BinaryOp) (t c : IntegerType) (v : Value) (n : ℕ) → IsTrue (keeps_right op n) → ((m : ℕ) → v ≡ Word m → is_word t m ≡ true)
    → RunRefines (pure v) (integers op t c (Word n) v)
unfolding ◌>>=◌ pure undefined_behaviour
number_right op t c (Word m) n k w = record { by = λ s. (same_outcome (integers_with op t c n m) m (right_kept op t c m n k (w m refl))).by s }
number_right op t c (Address p) n k w = record { by = λ s. tt }
number_right op t c Unset n k w = record { by = λ s. tt }

-- ---- pointers

pub no_step : (p : Ptr) → ptr_plus p (pos 0) ≡ p
no_step p = ap (λ z. record { object = p.object; offset = z }) (nothing p.offset)
  where
    nothing : (z : ℤ) → z +ℤ pos 0 ≡ z
    nothing z = omega (arith, ints)

pub if_moved : (p : Ptr) (a c : Bool) (reason : Reason) → RunRefines (pure (Address p)) (or_undefined reason (if a then option_if c (Address (ptr_plus p (pos 0))) else None))
if_moved p true true reason = as_it_is (λ s. ap (λ q. pure (Address q) s) (sym (no_step p)))
if_moved p true false reason = nothing_asked _ reason
if_moved p false c reason = nothing_asked _ reason

pub not_moved : (v : Value) → RunRefines (pure v) (move_elements v (pos 0))
unfolding on_memory
not_moved (Address p) = record {
  by = λ s. (if_moved p (stands_inside s.world.outer.memory (Address p)) (is_live s.world.outer.memory p && is_offset (p.offset +ℤ pos 0) (size_at s.world.outer.memory p)) (move_reason s.world.outer.memory (Address p))).by s;
}
not_moved (Word n) = record { by = λ s. (nothing_asked (pure (Word n)) (move_reason s.world.outer.memory (Word n))).by s }
not_moved Unset = record { by = λ s. (nothing_asked (pure Unset) (move_reason s.world.outer.memory Unset)).by s }

pub by_nothing : (v : Value) (z : ℤ) → z ≡ pos 0 → RunRefines (pure v) (move_elements v z)
by_nothing v z e = subst (λ u. RunRefines (pure v) (move_elements v u)) (sym e) (not_moved v)

pub none_times : (k : ℕ) → pos 0 *ℤ pos k ≡ pos 0
none_times k = omega (arith, ints)

pub none_back : (k : ℕ) → neg_ℤ (pos 0) *ℤ pos k ≡ pos 0
none_back k = omega (arith, ints)

pub stepped : (ds : List StructDef) (element : PlainType) (t : IntegerType) (v : Value) (n : ℕ) → n ≡ 0 → RunRefines (pure v) (move_by ds element t v (Word n))
unfolding ◌>>=◌ pure
stepped ds element t v n e = record {
  by = λ s. (by_nothing v (value t n *ℤ pos (size_of ds element))
      (ap (λ k. value t k *ℤ pos (size_of ds element)) e ∙ ap (λ z. z *ℤ pos (size_of ds element)) (value-zero t) ∙ none_times (size_of ds element))).by s;
}

pub stepped_back : (ds : List StructDef) (element : PlainType) (t : IntegerType) (v : Value) (n : ℕ) → n ≡ 0
    → RunRefines (pure v) (use_number (Word n) >>= (λ k. move_elements v (neg_ℤ (value t k) *ℤ pos (size_of ds element))))
unfolding ◌>>=◌ pure
stepped_back ds element t v n e = record {
  by = λ s. (by_nothing v (neg_ℤ (value t n) *ℤ pos (size_of ds element))
      (ap (λ k. neg_ℤ (value t k) *ℤ pos (size_of ds element)) e ∙ ap (λ z. neg_ℤ z *ℤ pos (size_of ds element)) (value-zero t) ∙ none_back (size_of ds element))).by s;
}

pub pointer_left : (ds : List StructDef) (op : BinaryOp) (element : PlainType) (t : IntegerType) (v : Value) (n : ℕ) → IsTrue (keeps_left op n)
    → RunRefines (pure v) (pointer_and_integer ds op element t v (Word n))
pointer_left ds b.Add element t v n k = stepped ds element t v n (zero_is n k)
pointer_left ds b.Subtract element t v n k = stepped_back ds element t v n (zero_is n k)
pointer_left ds op element t v n k = nothing_asked (pure v) _

pub pointer_right : (ds : List StructDef) (op : BinaryOp) (element : PlainType) (t : IntegerType) (v : Value) (n : ℕ) → IsTrue (keeps_right op n)
    → RunRefines (pure v) (pointer_and_integer ds op element t v (Word n))
pointer_right ds b.Add element t v n k = stepped ds element t v n (zero_is n k)
pointer_right ds b.Multiply element t v n k = nothing_asked (pure v) _
pointer_right ds op element t v n k = no_true k

-- ---- an operator with a literal on one side

pub fit_integer : (ds : List StructDef) (n : ℕ) (s : Bool) → IsTrue (is_fit ds (Int n s)) → IsIntegerType (Int n s)
fit_integer ds n s h = integer_there (Int n s) (front (is_integer (Int n s)) (nat_le (depth_behind (Int n s)) (1 + most_depth)) h)

pub held_word : (n : ℕ) (s : Bool) (v : Value) → IsIntegerType (Int n s) → IsHeld (Int n s) v → (m : ℕ) → v ≡ Word m → is_word (integer_or_word (Int n s)) m ≡ true
held_word n s v there h m e =
    let word : IsHeld (Int n s) (Word m) = subst (IsHeld (Int n s)) e h in
    ap (λ t. is_word t m) (or_word (Int n s) there.of there.is) ∙ word there.of there.is

pub apply_left : (ds : List StructDef) (op : BinaryOp) (left right : PlainType) (c : IntegerType) (v : Value) (n : ℕ) → IsTrue (is_fit ds left) → integer_of right ≡ Some c
    → IsTrue (keeps_left op n) → IsHeld left v → RunRefines (pure v) (apply_binary ds op left right v (Word n))
apply_left ds op (Int m s) (Int j g) c v n fit r k h =
    number_left op (integer_or_word (Int m s)) (integer_or_word (Int j g)) v n k (held_word m s v (fit_integer ds m s fit) h)
apply_left ds op (Pointer element) (Int j g) c v n fit r k h = pointer_left ds op element (integer_or_word (Int j g)) v n k
apply_left ds op Void (Int j g) c v n fit r k h = nothing_asked (pure v) _
apply_left ds op (Array u j) (Int i2 g) c v n fit r k h = nothing_asked (pure v) _
apply_left ds op (Struct j) (Int i2 g) c v n fit r k h = nothing_asked (pure v) _
apply_left ds op left Void c v n fit r k h = absurd (none-some c r)
apply_left ds op left (Pointer u) c v n fit r k h = absurd (none-some c r)
apply_left ds op left (Array u j) c v n fit r k h = absurd (none-some c r)
apply_left ds op left (Struct j) c v n fit r k h = absurd (none-some c r)

pub apply_right : (ds : List StructDef) (op : BinaryOp) (left right : PlainType) (c : IntegerType) (v : Value) (n : ℕ) → IsTrue (is_fit ds right) → integer_of left ≡ Some c
    → (left ≡ right) ⊎ IsTrue (points_to_object ds right) → IsTrue (keeps_right op n) → IsHeld right v → RunRefines (pure v) (apply_binary ds op left right (Word n) v)
apply_right ds op (Int m s) (Int j g) c v n fit r (inl alike) k h =
    number_right op (integer_or_word (Int m s)) (integer_or_word (Int j g)) v n k
    (λ w e. ap (λ t. is_word (integer_or_word t) w) alike ∙ held_word j g v (fit_integer ds j g fit) h w e)
apply_right ds op (Int m s) (Int j g) c v n fit r (inr p) k h = no_true p
apply_right ds op (Int m s) (Pointer element) c v n fit r alike k h = pointer_right ds op element (integer_or_word (Int m s)) v n k
apply_right ds op (Int m s) Void c v n fit r (inl alike) k h = absurd (none-some c (sym (ap integer_of alike) ∙ r))
apply_right ds op (Int m s) Void c v n fit r (inr p) k h = no_true p
apply_right ds op (Int m s) (Array u j) c v n fit r (inl alike) k h = absurd (none-some c (sym (ap integer_of alike) ∙ r))
apply_right ds op (Int m s) (Array u j) c v n fit r (inr p) k h = no_true p
apply_right ds op (Int m s) (Struct j) c v n fit r (inl alike) k h = absurd (none-some c (sym (ap integer_of alike) ∙ r))
apply_right ds op (Int m s) (Struct j) c v n fit r (inr p) k h = no_true p
apply_right ds op Void right c v n fit r alike k h = absurd (none-some c r)
apply_right ds op (Pointer u) right c v n fit r alike k h = absurd (none-some c r)
apply_right ds op (Array u j) right c v n fit r alike k h = absurd (none-some c r)
apply_right ds op (Struct j) right c v n fit r alike k h = absurd (none-some c r)

pub number_zero : (t c : IntegerType) (v : Value) (n : ℕ) → n ≡ 0 → RunRefines (pure (Word 0)) (integers b.Multiply t c v (Word n))
unfolding ◌>>=◌ pure undefined_behaviour
number_zero t c (Word m) n e = record { by = λ s. (same_outcome (product t m n) 0 (ap (product t m) e ∙ product-zero t m)).by s }
number_zero t c (Address p) n e = record { by = λ s. tt }
number_zero t c Unset n e = record { by = λ s. tt }

pub zero_number : (t c : IntegerType) (v : Value) (n : ℕ) → n ≡ 0 → RunRefines (pure (Word 0)) (integers b.Multiply t c (Word n) v)
unfolding ◌>>=◌ pure undefined_behaviour
zero_number t c (Word m) n e = record { by = λ s. (same_outcome (product t n m) 0 (product-either t n m ∙ ap (product t m) e ∙ product-zero t m)).by s }
zero_number t c (Address p) n e = record { by = λ s. tt }
zero_number t c Unset n e = record { by = λ s. tt }

pub apply_zero : (ds : List StructDef) (left right : PlainType) (v : Value) (n : ℕ) → n ≡ 0 → RunRefines (pure (Word 0)) (apply_binary ds b.Multiply left right v (Word n))
apply_zero ds (Int m s) (Int j g) v n e = number_zero (integer_or_word (Int m s)) (integer_or_word (Int j g)) v n e
apply_zero ds (Int m s) Void v n e = number_zero (integer_or_word (Int m s)) (integer_or_word Void) v n e
apply_zero ds (Int m s) (Array u j) v n e = number_zero (integer_or_word (Int m s)) (integer_or_word (Array u j)) v n e
apply_zero ds (Int m s) (Struct j) v n e = number_zero (integer_or_word (Int m s)) (integer_or_word (Struct j)) v n e
apply_zero ds (Int m s) (Pointer u) v n e = nothing_asked _ _
apply_zero ds (Pointer u) (Pointer w) v n e = nothing_asked _ _
apply_zero ds (Pointer u) (Int j g) v n e = nothing_asked _ _
apply_zero ds (Pointer u) Void v n e = nothing_asked _ _
apply_zero ds (Pointer u) (Array w j) v n e = nothing_asked _ _
apply_zero ds (Pointer u) (Struct j) v n e = nothing_asked _ _
apply_zero ds Void right v n e = nothing_asked _ _
apply_zero ds (Array u j) right v n e = nothing_asked _ _
apply_zero ds (Struct j) right v n e = nothing_asked _ _

pub zero_applied : (ds : List StructDef) (left right : PlainType) (v : Value) (n : ℕ) → n ≡ 0 → RunRefines (pure (Word 0)) (apply_binary ds b.Multiply left right (Word n) v)
zero_applied ds (Int m s) (Int j g) v n e = zero_number (integer_or_word (Int m s)) (integer_or_word (Int j g)) v n e
zero_applied ds (Int m s) Void v n e = zero_number (integer_or_word (Int m s)) (integer_or_word Void) v n e
zero_applied ds (Int m s) (Array u j) v n e = zero_number (integer_or_word (Int m s)) (integer_or_word (Array u j)) v n e
zero_applied ds (Int m s) (Struct j) v n e = zero_number (integer_or_word (Int m s)) (integer_or_word (Struct j)) v n e
zero_applied ds (Int m s) (Pointer u) v n e = nothing_asked _ _
zero_applied ds (Pointer u) (Pointer w) v n e = nothing_asked _ _
zero_applied ds (Pointer u) (Int j g) v n e = nothing_asked _ _
zero_applied ds (Pointer u) Void v n e = nothing_asked _ _
zero_applied ds (Pointer u) (Array w j) v n e = nothing_asked _ _
zero_applied ds (Pointer u) (Struct j) v n e = nothing_asked _ _
zero_applied ds Void right v n e = nothing_asked _ _
zero_applied ds (Array u j) right v n e = nothing_asked _ _
zero_applied ds (Struct j) right v n e = nothing_asked _ _

-- an idle run before a result that does not hang on it
pub dropped : {A B : Type 0} (b : B) (s : CallState) (r : Evaluation A CallState) (k : A → Run B) → StaysIn s r → ((a : A) → RunRefines (pure b) (k a)) → GivesBelow (pure b s) (and_then r k)
unfolding pure
dropped b s (Gives a t) k h g = subst (λ v. GivesBelow (Gives b s) (k a v)) (sym h) ((g a).by s)
dropped b s (Ends (Done w status)) k h g = absurd h
dropped b s (Ends (Trap w code)) k h g = absurd h
dropped b s (Ends (Undefined w at)) k h g = tt
dropped b s (Ends (More w)) k h g = absurd h

pub drops_idle : {A B : Type 0} (b : B) (m : Run A) (k : A → Run B) → Idle m → ((a : A) → RunRefines (pure b) (k a)) → RunRefines (pure b) (m >>= k)
unfolding ◌>>=◌
drops_idle b m k h g = record { by = λ s. dropped b s (m s) k (h.by s) g }

pub under_pure : {A B : Type 0} {c : Run B} (a : A) (k : A → Run B) → RunRefines c (k a) → RunRefines c (pure a >>= k)
unfolding ◌>>=◌ pure
under_pure a k h = record { by = λ s. h.by s }

-- ---- the types of the operands

pub arithmetic_left : (ty left right : PlainType) → IsTrue (is_arithmetic ty left right) → left ≡ ty
arithmetic_left ty left right r = same left ty (back (is_promoted left && is_same_type left right) (is_same_type left ty) r)

pub arithmetic_alike : (ty left right : PlainType) → IsTrue (is_arithmetic ty left right) → left ≡ right
arithmetic_alike ty left right r = same left right (back (is_promoted left) (is_same_type left right) (front (is_promoted left && is_same_type left right) (is_same_type left ty) r))

pub shift_left_is : (ty left right : PlainType) → IsTrue (is_shift ty left right) → left ≡ ty
shift_left_is ty left right r = same left ty (back (is_promoted left && is_promoted right) (is_same_type left ty) r)

pub left_sum : (ds : List StructDef) (ty left right : PlainType) (c : IntegerType) → integer_of right ≡ Some c → IsTrue (is_sum ds ty left right) → left ≡ ty
left_sum ds ty left right c e r = outer (either (is_arithmetic ty left right || points_to_object ds left && is_integer right && is_same_type left ty) (is_integer left && points_to_object ds right && is_same_type right ty) r)
  where
    inner : IsTrue (is_arithmetic ty left right) ⊎ IsTrue (points_to_object ds left && is_integer right && is_same_type left ty) → left ≡ ty
    inner (inl a) = arithmetic_left ty left right a
    inner (inr s) = same left ty (back (points_to_object ds left && is_integer right) (is_same_type left ty) s)

    outer : IsTrue (is_arithmetic ty left right || points_to_object ds left && is_integer right && is_same_type left ty) ⊎ IsTrue (is_integer left && points_to_object ds right && is_same_type right ty) → left ≡ ty
    outer (inl s) = inner (either (is_arithmetic ty left right) (points_to_object ds left && is_integer right && is_same_type left ty) s)
    outer (inr s) = no_integer_pointer ds right c e (back (is_integer left) (points_to_object ds right) (front (is_integer left && points_to_object ds right) (is_same_type right ty) s))

pub left_difference : (ds : List StructDef) (ty left right : PlainType) (c : IntegerType) → integer_of right ≡ Some c → IsTrue (is_difference ds ty left right) → left ≡ ty
left_difference ds ty left right c e r = outer (either (is_arithmetic ty left right || points_to_object ds left && is_integer right && is_same_type left ty) (points_to_object ds left && is_same_type left right && is_same_type ty long) r)
  where
    inner : IsTrue (is_arithmetic ty left right) ⊎ IsTrue (points_to_object ds left && is_integer right && is_same_type left ty) → left ≡ ty
    inner (inl a) = arithmetic_left ty left right a
    inner (inr s) = same left ty (back (points_to_object ds left && is_integer right) (is_same_type left ty) s)

    outer : IsTrue (is_arithmetic ty left right || points_to_object ds left && is_integer right && is_same_type left ty) ⊎ IsTrue (points_to_object ds left && is_same_type left right && is_same_type ty long) → left ≡ ty
    outer (inl s) = inner (either (is_arithmetic ty left right) (points_to_object ds left && is_integer right && is_same_type left ty) s)
    outer (inr s) =
        let both = front (points_to_object ds left && is_same_type left right) (is_same_type ty long) s in
        no_integer_pointer ds left c (ap integer_of (same left right (back (points_to_object ds left) (is_same_type left right) both)) ∙ e)
        (front (points_to_object ds left) (is_same_type left right) both)

pub left_type : (ds : List StructDef) (op : BinaryOp) (ty left right : PlainType) (c : IntegerType) (n : ℕ) → integer_of right ≡ Some c → IsTrue (keeps_left op n)
    → IsTrue (has_binary_type ds op ty left right) → left ≡ ty
left_type ds b.Add ty left right c n e k r = left_sum ds ty left right c e r
left_type ds b.Subtract ty left right c n e k r = left_difference ds ty left right c e r
left_type ds b.Multiply ty left right c n e k r = arithmetic_left ty left right r
left_type ds b.Or ty left right c n e k r = arithmetic_left ty left right r
left_type ds b.Xor ty left right c n e k r = arithmetic_left ty left right r
left_type ds b.ShiftLeft ty left right c n e k r = shift_left_is ty left right r
left_type ds b.ShiftRight ty left right c n e k r = shift_left_is ty left right r
left_type ds op ty left right c n e k r = no_true k

-- the right operand of a sum with an integer on the left
pub record RightIs (ds : List StructDef) (ty left right : PlainType) : Type 0 where
  pub whole : right ≡ ty
  pub alike : (left ≡ right) ⊎ IsTrue (points_to_object ds right)

pub right_arithmetic : (ds : List StructDef) (ty left right : PlainType) → IsTrue (is_arithmetic ty left right) → RightIs ds ty left right
right_arithmetic ds ty left right r = record {
  whole = sym (arithmetic_alike ty left right r) ∙ arithmetic_left ty left right r;
  alike = inl (arithmetic_alike ty left right r);
}

pub right_sum : (ds : List StructDef) (ty left right : PlainType) (c : IntegerType) → integer_of left ≡ Some c → IsTrue (is_sum ds ty left right) → RightIs ds ty left right
right_sum ds ty left right c e r = outer (either (is_arithmetic ty left right || points_to_object ds left && is_integer right && is_same_type left ty) (is_integer left && points_to_object ds right && is_same_type right ty) r)
  where
    inner : IsTrue (is_arithmetic ty left right) ⊎ IsTrue (points_to_object ds left && is_integer right && is_same_type left ty) → RightIs ds ty left right
    inner (inl a) = right_arithmetic ds ty left right a
    inner (inr s) = no_integer_pointer ds left c e (front (points_to_object ds left) (is_integer right) (front (points_to_object ds left && is_integer right) (is_same_type left ty) s))

    outer : IsTrue (is_arithmetic ty left right || points_to_object ds left && is_integer right && is_same_type left ty) ⊎ IsTrue (is_integer left && points_to_object ds right && is_same_type right ty) → RightIs ds ty left right
    outer (inl s) = inner (either (is_arithmetic ty left right) (points_to_object ds left && is_integer right && is_same_type left ty) s)
    outer (inr s) = record {
      whole = same right ty (back (is_integer left && points_to_object ds right) (is_same_type right ty) s);
      alike = inr (back (is_integer left) (points_to_object ds right) (front (is_integer left && points_to_object ds right) (is_same_type right ty) s));
    }

pub right_type : (ds : List StructDef) (op : BinaryOp) (ty left right : PlainType) (c : IntegerType) (n : ℕ) → integer_of left ≡ Some c → IsTrue (keeps_right op n)
    → IsTrue (has_binary_type ds op ty left right) → RightIs ds ty left right
right_type ds b.Add ty left right c n e k r = right_sum ds ty left right c e r
right_type ds b.Multiply ty left right c n e k r = right_arithmetic ds ty left right r
right_type ds op ty left right c n e k r = no_true k
