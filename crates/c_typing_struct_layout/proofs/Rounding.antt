-- Multiples of an alignment.
use Rattle.std.proofs.Common.{◌≡◌, ℕ, zero, suc, ◌+◌, ◌-◌, ◌*◌, ◌/◌, ◌%◌, ◌<◌, ◌≤◌, arith}
use Rattle.std.proofs.Math.Nat.{div-mul-le_self, mod-eq-sub-div-mul, mod-lt}
use Rattle.c_typed_tree.specs.Layout.{aligned_up}

pub rounded_down : (n m : ℕ) → n / m * m ≤ n
rounded_down n m = div-mul-le_self n m

-- a place is not behind the multiple that comes next
pub aligned_up_ge : (align place : ℕ) → place ≤ aligned_up align place
aligned_up_ge zero place = omega arith
aligned_up_ge (suc a) place =
    let rest : (place + a) % suc a ≡ place + a - (place + a) / suc a * suc a = mod-eq-sub-div-mul (place + a) (suc a) in
    let low : (place + a) % suc a < suc a = mod-lt (place + a) (omega arith) in
    let down : (place + a) / suc a * suc a ≤ place + a = div-mul-le_self (place + a) (suc a) in
    omega (arith, rest, low, down)
