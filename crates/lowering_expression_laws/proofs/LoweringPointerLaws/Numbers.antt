-- Numbers of bytes by which a pointer is moved within its object are small, and so are the numbers of elements.
use Rattle.std.proofs.Common.{◌≡◌, ℕ, zero, suc, ◌+◌, ◌-◌, ◌*◌, ◌<◌, ◌≤◌, Bool, true, false, cond, ltb, ℤ, pos, negsuc, ◌+ℤ◌, ◌*ℤ◌, neg_ℤ, refl, subst, arith, ltb-false}
use Rattle.std.specs.Prelude.{not, nat_lt}
use Rattle.mem_model.specs.Pointers.{is_offset}
use Rattle.mem_objects.specs.declared.TheConstants.{MOST_DATA}
use Rattle.bk_arithmetic.specs.declared.integer_type.IntegerType.TheVariants as i
use Rattle.bk_arithmetic.specs.IntegerTypes.{fits}
use Rattle.bk_arithmetic.proofs.Values.{fits_long}

-- no further from zero than the data may be long
abbrev pub IsSmall : ℤ → Type 0
IsSmall (pos n) = n ≤ MOST_DATA
IsSmall (negsuc n) = n < MOST_DATA

pub small_fits : (z : ℤ) → IsSmall z → fits i.Long z ≡ true
small_fits (pos n) h = fits_long (pos n) (record { sfits = omega (arith, h) })
small_fits (negsuc n) h = fits_long (negsuc n) (record { sfits = omega (arith, h) })

pub not_less : (a b : ℕ) → not (nat_lt a b) ≡ true → b ≤ a
not_less a b e = by_test (nat_lt a b) (ltb-false a b) e
  where
    by_test : (t : Bool) → ((t ≡ false) → b ≤ a) → not t ≡ true → b ≤ a
    by_test true h e = absurd (cc)
    by_test false h e = h refl

-- a pointer that is moved from within its object to within it
pub moved_small : (a z : ℤ) (size : ℕ) → is_offset a size ≡ true → is_offset (a +ℤ z) size ≡ true → size ≤ MOST_DATA → IsSmall z
moved_small (negsuc j) z size e f le = absurd (cc)
moved_small (pos j) (pos n) size e f le = let h = not_less size (j + n) f in omega (arith, h, le)
moved_small (pos j) (negsuc n) size e f le = by_test (ltb j (suc n)) (ltb-false j (suc n)) f
  where
    by_test : (t : Bool) → (t ≡ false → suc n ≤ j) → is_offset (cond t (negsuc (suc n - suc j)) (pos (j - suc n))) size ≡ true → n < MOST_DATA
    by_test true h g = absurd (cc)
    by_test false h g = let low = h refl in let inside = not_less size j e in omega (arith, low, inside, le)

grows : (a e : ℕ) → a ≤ a * suc e
grows zero e = omega arith
grows (suc a) e = let h = grows a e in omega (arith, h)

-- and so are the elements, where they have bytes
pub elements_small : (v : ℤ) (e : ℕ) → IsSmall (v *ℤ pos (suc e)) → IsSmall v
elements_small (pos a) e h = let g = grows a e in omega (arith, g, h)
elements_small (negsuc a) e h =
    let g = grows a e in
    let is : suc a * suc e ≡ suc (e + a * suc e) = omega arith in
    let h1 : e + a * suc e < MOST_DATA = subst (λ z. IsSmall (neg_ℤ (pos z))) is h in
    omega (arith, g, h1)
