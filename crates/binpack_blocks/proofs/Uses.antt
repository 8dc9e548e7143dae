-- Points that are passed, and the next one.
use Rattle.std.proofs.Common.{◌≡◌, ◌≢◌, ℕ, zero, suc, ◌+◌, ◌*◌, ◌<◌, ◌≤◌, ◌++◌, List, [], ◌∷◌, Bool, true, false, Option, Some, None, if◌then◌else◌, refl, sym, ap, ◌∙◌, ⊎_elim, append-nil, append_assoc, drop, find, length, nat_lt, arith}
use Rattle.std.specs.Prelude.{slice_get, slice_set, flat_map}
use Rattle.std.proofs.lemmas.Bool.{lt-ltb, le-ltb, cases_lt, cases_eq}
use Rattle.std.proofs.lemmas.List.{at_drop_more, at_drop_all}
use Rattle.std.proofs.lemmas.Option.{same_Some, slice_get_past, slice_get_within, get_or_from_slice_get}
use Rattle.temp_ir.specs.declared.insn.TempInsn.{TempInsn}
use Rattle.alloc_rules.specs.Visits.{fixes, insn_fixes}
use Rattle.binpack_blocks.specs.declared.register_uses.RegisterUses.{RegisterUses}
use Rattle.binpack_blocks.specs.model.Uses.{ArePassed, uses_among}
use Rattle.binpack_blocks.specs.model.UseRows.{points_in, next_in}
use Rattle.binpack_blocks.proofs.Firsts.{first_found, none_found}

-- ---- one register

pub passed_more : (xs : List ℕ) (i x point : ℕ) → ArePassed xs i point → slice_get xs i ≡ Some x → x ≤ point → ArePassed xs (i + 1) point
passed_more xs i x point before is low k p w e = ⊎_elim
    (λ (lt : k < i). before k p lt e)
    (λ (ge : i ≤ k).
    let same : k ≡ i = omega (arith, ge, w) in
    let eq : p ≡ x = same_Some p x (sym e ∙ ap (slice_get xs) same ∙ is) in
    omega (arith, eq, low))
    (cases_lt k i)

pub all_passed : (xs : List ℕ) (i point : ℕ) → ArePassed xs i point → length xs ≤ i → ArePassed xs (length xs) point
all_passed xs i point before past k p w e = before k p (omega (arith, w, past)) e

pub passed_later : (xs : List ℕ) (n a b : ℕ) → ArePassed xs n a → a ≤ b → ArePassed xs n b
passed_later xs n a b before le k p w e = let low = before k p w e in omega (arith, low, le)

pub none_passed : (xs : List ℕ) (point : ℕ) → ArePassed xs 0 point
none_passed xs point k p w e = absurd (omega (arith, w))

pub next_found : (xs : List ℕ) (i x point : ℕ) → ArePassed xs i point → slice_get xs i ≡ Some x → point < x → slice_get xs i ≡ find (λ p. nat_lt point p) xs
next_found xs i x point before is above =
    is ∙ sym (first_found (λ p. nat_lt point p) xs i x (λ k p w e. le-ltb point p (before k p w e)) is (lt-ltb point x above))

pub none_next : (xs : List ℕ) (i point : ℕ) → ArePassed xs i point → length xs ≤ i → slice_get xs (length xs) ≡ find (λ p. nat_lt point p) xs
none_next xs i point before past =
    slice_get_past xs (length xs) (omega arith)
    ∙ sym (none_found (λ p. nat_lt point p) xs (λ k p e. le-ltb point p (before k p (let w = slice_get_within xs k p e in omega (arith, w, past)) e)))

pub uses_next : (r n : ℕ) (insns : List TempInsn) (x : TempInsn) (old new : List ℕ) → slice_get insns n ≡ Some x → old ≡ uses_among r insns n →
    new ≡ (if fixes x r then old ++ 2 * n ∷ [] else old) → new ≡ uses_among r insns (n + 1)
uses_next r n insns x old new is e f =
    let one : suc n ≡ n + 1 = omega arith in
    f ∙ ap (λ o. if fixes x r then o ++ 2 * n ∷ [] else o) e
    ∙ ap (λ v. if insn_fixes r v then uses_among r insns n ++ 2 * n ∷ [] else uses_among r insns n) (sym is)
    ∙ ap (uses_among r insns) one

pub uses_done : (r n : ℕ) (insns : List TempInsn) (points : List ℕ) → n ≤ length insns → length insns ≤ n → points ≡ uses_among r insns n → points ≡ uses_among r insns (length insns)
uses_done r n insns points most least e = e ∙ ap (uses_among r insns) (let same : n ≡ length insns = omega (arith, most, least) in same)

-- ---- a list of registers

front_same : {A : Type 0} (xs : List A) (x : A) (k : ℕ) → k < length xs → slice_get (xs ++ x ∷ []) k ≡ slice_get xs k
front_same [] x k w = absurd (omega (arith, w))
front_same (y ∷ xs) x zero w = refl
front_same (y ∷ xs) x (suc k) w = front_same xs x k (omega (arith, w))

last_there : {A : Type 0} (xs : List A) (x : A) → slice_get (xs ++ x ∷ []) (length xs) ≡ Some x
last_there [] x = refl
last_there (y ∷ xs) x = last_there xs x

pub rows_next : (insns : List TempInsn) (rows new : List RegisterUses) (u : RegisterUses) (r : ℕ) → new ≡ rows ++ u ∷ [] → length rows ≡ r →
    u.points ≡ uses_among r insns (length insns) → ((q : ℕ) → q < r → points_in (slice_get rows q) ≡ uses_among q insns (length insns)) →
    (q : ℕ) → q < r + 1 → points_in (slice_get new q) ≡ uses_among q insns (length insns)
rows_next insns rows new u r is many uses before q w = ⊎_elim
    (λ (lt : q < r). ap (λ z. points_in (slice_get z q)) is ∙ ap points_in (front_same rows u q (omega (arith, lt, many))) ∙ before q lt)
    (λ (ge : r ≤ q).
    let same : q ≡ r = omega (arith, ge, w) in
    ap (λ z. points_in (slice_get z q)) is ∙ ap (λ k. points_in (slice_get (rows ++ u ∷ []) k)) (same ∙ sym many) ∙ ap points_in (last_there rows u)
    ∙ uses ∙ ap (λ k. uses_among k insns (length insns)) (sym same))
    (cases_lt q r)

pub next_is : (rows : List RegisterUses) (r : ℕ) (u : RegisterUses) (next : Option ℕ) → slice_get rows r ≡ Some u → next ≡ slice_get u.points u.passed → next ≡ next_in (slice_get rows r)
next_is rows r u next there is = is ∙ ap next_in (sym there)

set_here : {A : Type 0} (xs : List A) (i : ℕ) (v : A) → i < length xs → slice_get (slice_set xs i v) i ≡ Some v
set_here [] i v w = absurd (omega (arith, w))
set_here (x ∷ xs) zero v w = refl
set_here (x ∷ xs) (suc i) v w = set_here xs i v (omega (arith, w))

set_beside : {A : Type 0} (xs : List A) (i j : ℕ) (v : A) → j ≢ i → slice_get (slice_set xs i v) j ≡ slice_get xs j
set_beside [] i j v ne = refl
set_beside (x ∷ xs) zero zero v ne = absurd (ne refl)
set_beside (x ∷ xs) zero (suc j) v ne = refl
set_beside (x ∷ xs) (suc i) zero v ne = refl
set_beside (x ∷ xs) (suc i) (suc j) v ne = set_beside xs i j v (λ e. ne (ap suc e))

module _ (rows new : List RegisterUses) (r : ℕ) (u v : RegisterUses) (within : r < length rows) (there : slice_get rows r ≡ Some u) (is : new ≡ slice_set rows r v) where
  pub next_passed : (point : ℕ) → slice_get v.points v.passed ≡ find (λ p. nat_lt point p) u.points → next_in (slice_get new r) ≡ find (λ p. nat_lt point p) (points_in (slice_get rows r))
  next_passed point e =
      ap (λ z. next_in (slice_get z r)) is ∙ ap next_in (set_here rows r v within) ∙ e ∙ ap (λ o. find (λ p. nat_lt point p) (points_in o)) (sym there)

  pub others_passed : (q : ℕ) → q ≢ r → next_in (slice_get new q) ≡ next_in (slice_get rows q)
  others_passed q ne = ap (λ z. next_in (slice_get z q)) is ∙ ap next_in (set_beside rows r q v ne)

  pub uses_kept : v.points ≡ u.points → (q : ℕ) → points_in (slice_get new q) ≡ points_in (slice_get rows q)
  uses_kept same q = ⊎_elim
      (λ (e : q ≡ r). ap (λ z. points_in (slice_get z q)) is ∙ ap (λ k. points_in (slice_get (slice_set rows r v) k)) e ∙ ap points_in (set_here rows r v within) ∙ same
      ∙ ap points_in (sym there) ∙ ap (λ k. points_in (slice_get rows k)) (sym e))
      (λ (ne : q ≢ r). ap (λ z. points_in (slice_get z q)) is ∙ ap points_in (set_beside rows r q v ne))
      (cases_eq q r)

-- ---- the instructions of blocks

pub flat_next : (xs new : List TempInsn) (blocks : List (List TempInsn)) (i : ℕ) (block : List TempInsn) → slice_get blocks i ≡ Some block → new ≡ xs ++ block →
    xs ++ flat_map (λ insns. insns) (drop i blocks) ≡ flat_map (λ insns. insns) blocks → new ++ flat_map (λ insns. insns) (drop (i + 1) blocks) ≡ flat_map (λ insns. insns) blocks
flat_next xs new blocks i block there is before =
    ap (λ z. z ++ flat_map (λ insns. insns) (drop (i + 1) blocks)) is
    ∙ append_assoc xs block (flat_map (λ insns. insns) (drop (i + 1) blocks))
    ∙ ap (λ z. xs ++ (z ++ flat_map (λ insns. insns) (drop (i + 1) blocks))) (sym (get_or_from_slice_get blocks i block block there))
    ∙ ap (λ z. xs ++ z) (sym (at_drop_more (flat_map (λ insns. insns)) blocks i block (slice_get_within blocks i block there)))
    ∙ before

pub flat_done : (xs : List TempInsn) (blocks : List (List TempInsn)) (i : ℕ) → length blocks ≤ i → xs ++ flat_map (λ insns. insns) (drop i blocks) ≡ flat_map (λ insns. insns) blocks → xs ≡ flat_map (λ insns. insns) blocks
flat_done xs blocks i past before = sym (append-nil xs) ∙ ap (λ z. xs ++ z) (sym (at_drop_all (flat_map (λ insns. insns)) blocks i past)) ∙ before
