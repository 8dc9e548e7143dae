-- The greatest of what members have, one by one.
use Rattle.std.proofs.Common.{◌≡◌, ℕ, ◌≤◌, max, List, [], ◌∷◌, ap, length, drop, arith}
use Rattle.std.proofs.lemmas.List.{drop_all}
use Rattle.c_typed_tree.specs.declared.types.StructDef.{StructDef}
use Rattle.c_typed_tree.specs.declared.types.Member.{Member}
use Rattle.c_typed_tree.specs.Layout.{greatest_align}

align_some : (ds : List StructDef) (ms : List Member) → 1 ≤ greatest_align ds ms
align_some ds [] = omega arith
align_some ds (m ∷ ms) = omega (arith, align_some ds ms)

pub align_start : (ds : List StructDef) (ms : List Member)
    → greatest_align ds ms ≡ max 1 (greatest_align ds (drop 0 ms))
align_start ds ms = omega (arith, align_some ds ms)

pub align_end : (ds : List StructDef) (ms : List Member) (i : ℕ) (all most : ℕ) → length ms ≤ i → 1 ≤ most
    → all ≡ max most (greatest_align ds (drop i ms)) → most ≡ all
align_end ds ms i all most over some so_far =
    let none : greatest_align ds (drop i ms) ≡ 1 = ap (greatest_align ds) (drop_all i ms over) in
    omega (arith, so_far, none, some)
