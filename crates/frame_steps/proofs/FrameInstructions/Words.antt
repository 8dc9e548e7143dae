-- What operations give of words are words.
use Rattle.std.proofs.Common.{◌≡◌, ℕ, zero, suc, ◌+◌, ◌-◌, ◌*◌, ◌/◌, ◌%◌, ◌^◌, ◌<◌, ◌≤◌, Bool, true, false, refl, subst, arith}
use Rattle.std.specs.Prelude.{◌==◌, nat_lt, nat_le, int_lt, int_le, ℤ, pos, negsuc, ◌+ℤ◌, ◌-ℤ◌, ◌*ℤ◌, if◌then◌else◌}
use Rattle.std.specs.Int.{w8, w16, w32, w64, int_shr}
use Rattle.std.specs.Int.RustNames.{FitsSigned}
use Rattle.std.proofs.Math.Facts.{sfits_to_z}
use Rattle.std.proofs.lemmas.Bool.{ltb-true}
use Rattle.std.proofs.lemmas.Nat.{and_le_l, or_lt, xor_lt, shr_le}
use Rattle.alpha_isa.specs.declared.insn.OperateOp.{OperateOp}
use Rattle.alpha_isa.specs.declared.insn.OperateOp.TheVariants.{Addl, Subl, Cmpult, Addq, S4addq, Subq, Cmpeq, S8addq, Cmpule, AddlV, SublV, Cmplt, AddqV, SubqV, Cmple, And, Bic, Bis, Cmoveq, Cmovne, Ornot, Xor, Eqv, Zapnot, Srl, Sll, Sra, Mull, Mulq, Umulh, MullV, MulqV, Sextb, Sextw}
use Rattle.alpha_isa.specs.Arithmetic.{fits_signed, OperationEffect, Gives, Keeps, Overflows, word_from, signed_value, word_complement, word_difference, kept_bytes, truth_result, long_result, quad_result, checked_effect, operation_effect}
use Rattle.alpha_isa.proofs.Arithmetic.{sign_extended-below}

-- what is given is below a bound
abbrev IsBelow : OperationEffect → Type 0
IsBelow (Gives n) = n < 2 ^ 64
IsBelow Keeps = Unit {0}
IsBelow Overflows = Unit {0}

quad-below : (n : ℕ) → IsBelow (quad_result n)
quad-below n = omega arith

long-below : (n : ℕ) → IsBelow (long_result n)
long-below n = sign_extended-below w32 n (omega arith)

truth-below : (b : Bool) → IsBelow (truth_result b)
truth-below true = omega arith
truth-below false = omega arith

kept-below : (k n mask : ℕ) → kept_bytes k n mask < 256 ^ k
kept-below zero n mask = omega arith
kept-below (suc k) n mask = one_more (mask % 2 == 1) (kept-below k (n / 256) (mask / 2))
  where
    one_more : (b : Bool) → kept_bytes k (n / 256) (mask / 2) < 256 ^ k → (if b then n % 256 else 0) + 256 * kept_bytes k (n / 256) (mask / 2) < 256 ^ suc k
    one_more true h = let e : 256 ^ suc k ≡ 256 * 256 ^ k = omega arith in omega (arith, h, e)
    one_more false h = let e : 256 ^ suc k ≡ 256 * 256 ^ k = omega arith in omega (arith, h, e)

checked-below : (z : ℤ) (most : ℕ) → most ≤ 2 ^ 63 → (b : Bool) → (test : ℤ → Bool) → test z ≡ b → ((n : ℕ) → test (pos n) ≡ true → n < most) → IsBelow (if b then Gives (word_from z) else Overflows)
checked-below (pos n) most le true test e h = let lt : n < most = h n e in let g : n < 2 ^ 64 = omega (arith, lt, le) in g
checked-below (negsuc n) most le true test e h = let g : 2 ^ 64 - suc n < 2 ^ 64 = omega arith in g
checked-below z most le false test e h = tt

long-checked : (z : ℤ) → IsBelow (checked_effect w32 z)
long-checked z = checked-below z (2 ^ 31) (omega arith) (fits_signed w32 z) (fits_signed w32) refl (λ n t. ltb-true n (2 ^ 31) t)

quad-checked : (z : ℤ) → IsBelow (checked_effect w64 z)
quad-checked z = checked-below z (2 ^ 63) (omega arith) (fits_signed w64 z) (fits_signed w64) refl (λ n t. ltb-true n (2 ^ 63) t)

shifted-below : (z : ℤ) (m : ℕ) → FitsSigned w64 z → word_from (int_shr z m) < 2 ^ 64
shifted-below (pos a) m fits = let f : a < 2 ^ 63 = fits.sfits in let l = shr_le a m in let g : a / 2 ^ m < 2 ^ 64 = omega (arith, f, l) in g
shifted-below (negsuc a) m fits = let g : 2 ^ 64 - suc (a / 2 ^ m) < 2 ^ 64 = omega arith in g

reading-fits : (n : ℕ) → FitsSigned w64 (signed_value w64 n)
reading-fits n = sfits_to_z {w = w64} {n = n % 2 ^ 64} (record { fits = omega arith })

product-below : (x y : ℕ) → x < 2 ^ 64 → y < 2 ^ 64 → x * y / 2 ^ 64 < 2 ^ 64
product-below x y h k =
    let more : x * y ≤ 2 ^ 64 * y = le_times x (2 ^ 64) y (omega arith) in
    omega (arith, more, k)
  where
    le_times : (a b c : ℕ) → a ≤ b → a * c ≤ b * c
    le_times a b zero l = omega arith
    le_times a b (suc c) l = let r = le_times a b c l in omega (arith, r, l)

pub effect-below : (op : OperateOp) (x y : ℕ) → x < 2 ^ 64 → y < 2 ^ 64 → IsBelow (operation_effect op x y)
effect-below Addl x y h k = long-below (x + y)
effect-below Subl x y h k = long-below (word_difference x y)
effect-below Cmpult x y h k = truth-below (nat_lt x y)
effect-below Addq x y h k = quad-below (x + y)
effect-below S4addq x y h k = quad-below (4 * x + y)
effect-below Subq x y h k = quad-below (word_difference x y)
effect-below Cmpeq x y h k = truth-below (x == y)
effect-below S8addq x y h k = quad-below (8 * x + y)
effect-below Cmpule x y h k = truth-below (nat_le x y)
effect-below AddlV x y h k = long-checked (signed_value w32 x +ℤ signed_value w32 y)
effect-below SublV x y h k = long-checked (signed_value w32 x -ℤ signed_value w32 y)
effect-below Cmplt x y h k = truth-below (int_lt (signed_value w64 x) (signed_value w64 y))
effect-below AddqV x y h k = quad-checked (signed_value w64 x +ℤ signed_value w64 y)
effect-below SubqV x y h k = quad-checked (signed_value w64 x -ℤ signed_value w64 y)
effect-below Cmple x y h k = truth-below (int_le (signed_value w64 x) (signed_value w64 y))
effect-below And x y h k = let l = and_le_l x y in omega (arith, l, h)
effect-below Bic x y h k = let l = and_le_l x (word_complement y) in omega (arith, l, h)
effect-below Bis x y h k = or_lt 64 x y h k
effect-below Cmoveq x y h k = either (x == 0)
  where
    either : (b : Bool) → IsBelow (if b then Gives y else Keeps)
    either true = k
    either false = tt
effect-below Cmovne x y h k = either (x == 0)
  where
    either : (b : Bool) → IsBelow (if b then Keeps else Gives y)
    either true = tt
    either false = k
effect-below Ornot x y h k = or_lt 64 x (word_complement y) h (omega arith)
effect-below Xor x y h k = xor_lt 64 x y h k
effect-below Eqv x y h k = xor_lt 64 x (word_complement y) h (omega arith)
effect-below Zapnot x y h k = let l : kept_bytes 8 x y < 256 ^ 8 = kept-below 8 x y in l
effect-below Srl x y h k = let l = shr_le x (y % 64) in omega (arith, l, h)
effect-below Sll x y h k = quad-below (x * 2 ^ (y % 64))
effect-below Sra x y h k = shifted-below (signed_value w64 x) (y % 64) (reading-fits x)
effect-below Mull x y h k = long-below (x * y)
effect-below Mulq x y h k = quad-below (x * y)
effect-below Umulh x y h k = product-below x y h k
effect-below MullV x y h k = long-checked (signed_value w32 x *ℤ signed_value w32 y)
effect-below MulqV x y h k = quad-checked (signed_value w64 x *ℤ signed_value w64 y)
effect-below Sextb x y h k = sign_extended-below w8 y (omega arith)
effect-below Sextw x y h k = sign_extended-below w16 y (omega arith)

pub given-below : (op : OperateOp) (x y n : ℕ) → x < 2 ^ 64 → y < 2 ^ 64 → operation_effect op x y ≡ Gives n → n < 2 ^ 64
given-below op x y n h k e = subst IsBelow e (effect-below op x y h k)
