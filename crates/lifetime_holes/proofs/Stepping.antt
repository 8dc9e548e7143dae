-- What a walk over instructions does, one instruction after the other.
use Rattle.std.proofs.Common.{◌≡◌, ℕ, suc, ◌+◌, ◌*◌, ◌-◌, ◌<◌, ◌≤◌, Bool, true, false, List, [], ◌∷◌, refl, sym, ap, ◌∙◌, subst, ⊎_elim, length, arith}
use Rattle.std.proofs.lemmas.Bool.{cases_lt}
use Rattle.bk_bits.specs.Sets.{has}
use Rattle.bk_ilist.specs.Listing.{items}
use Rattle.temp_ir.specs.declared.insn.TempInsn.{TempInsn}
use Rattle.temp_ir.specs.Insns.{reads_of, writes_of}
use Rattle.bitvector_flow.specs.Lives.{has_register}
use Rattle.alloc_rules.specs.declared.scan.LifetimePart.{LifetimePart}
use Rattle.lifetime_holes.specs.model.Spans.{HasSpans, Stands, Points, JoinsSome, Marked, Changes, list_at}
use Rattle.lifetime_holes.specs.model.Walks.{AreVisited, AreNamed, AreWalked, AreCounted, AreSpanned, live_before}
use Rattle.lifetime_holes.proofs.Joining.{begun, visited, closed_live, closed_dead, closed_empty}
use Rattle.lifetime_holes.proofs.Pointing.{named}

-- ---- no instruction

none_walked : (start number : ℕ) (table : List (List LifetimePart)) → AreWalked start number [] table table
none_walked start number table = record {
  as_many = refl;
  each = λ test t bottom w agrees k. subst (λ n. Stands test start n bottom (list_at table t)) (let e : 2 * number ≡ 2 * (number + 0) = omega arith in e) k;
}

none_counted : (number : ℕ) (table : List (List ℕ)) → AreCounted number [] table table
none_counted number table = record {
  as_many = refl;
  each = λ test t w agrees k. subst (λ n. Points test n (list_at table t)) (let e : 2 * number ≡ 2 * (number + 0) = omega arith in e) k;
}

-- ---- one instruction more

more_walked : (start number : ℕ) (x : TempInsn) (xs : List TempInsn) (old one new : List (List LifetimePart)) → start ≤ 2 * number →
    AreVisited start number x old one → AreWalked start (suc number) xs one new → AreWalked start number (x ∷ xs) old new
more_walked start number x xs old one new w v k = record {
  as_many = k.as_many ∙ v.as_many;
  each = λ test t bottom inside agrees stands.
      subst (λ n. Stands test start n bottom (list_at new t)) (let e : 2 * (suc number + length xs) ≡ 2 * (number + suc (length xs)) = omega arith in e)
      (k.each test t bottom (let many = v.as_many in omega (arith, inside, many)) agrees.2
      (visited test start number (has_register (reads_of x) t) (has_register (writes_of x) t) (live_before t bottom xs) (list_at old t) (list_at one t) w agrees.0 agrees.1 stands (v.each t inside)));
}

more_counted : (number : ℕ) (x : TempInsn) (xs : List TempInsn) (old one new : List (List ℕ)) →
    AreNamed number x old one → AreCounted (suc number) xs one new → AreCounted number (x ∷ xs) old new
more_counted number x xs old one new v k = record {
  as_many = k.as_many ∙ v.as_many;
  each = λ test t inside agrees points.
      subst (λ n. Points test n (list_at new t)) (let e : 2 * (suc number + length xs) ≡ 2 * (number + suc (length xs)) = omega arith in e)
      (k.each test t (let many = v.as_many in omega (arith, inside, many)) agrees.2
      (named test number (has_register (reads_of x) t) (has_register (writes_of x) t) (list_at old t) (list_at one t) agrees.0 agrees.1 points (v.each t inside)));
}

-- ---- what is left leads to the whole

pub walk_begins : (start number : ℕ) (left : List (ℕ × TempInsn)) (whole : List TempInsn) (table : List (List LifetimePart)) → items left ≡ whole →
    (new : List (List LifetimePart)) → AreWalked start number (items left) table new → AreWalked start number whole table new
walk_begins start number left whole table e new k = subst (λ xs. AreWalked start number xs table new) e k

pub count_begins : (number : ℕ) (left : List (ℕ × TempInsn)) (whole : List TempInsn) (table : List (List ℕ)) → items left ≡ whole →
    (new : List (List ℕ)) → AreCounted number (items left) table new → AreCounted number whole table new
count_begins number left whole table e new k = subst (λ xs. AreCounted number xs table new) e k

pub walk_next : (start number next first : ℕ) (x : TempInsn) (rest all : List (ℕ × TempInsn)) (whole : List TempInsn) (id : ℕ) (old table one : List (List LifetimePart)) → all ≡ (id, x) ∷ rest → next ≡ number + 1 → start ≤ 2 * number →
    AreVisited start number x table one →
    ((new : List (List LifetimePart)) → AreWalked start number (items all) table new → AreWalked start first whole old new) →
    (new : List (List LifetimePart)) → AreWalked start next (items rest) one new → AreWalked start first whole old new
walk_next start number next first x rest all whole id old table one is step low v leads new k =
    leads new (subst (λ ps. AreWalked start number (items ps) table new) (sym is)
    (more_walked start number x (items rest) table one new low v (subst (λ n. AreWalked start n (items rest) one new) (let e : next ≡ suc number = omega (arith, step) in e) k)))

pub count_next : (number next first : ℕ) (x : TempInsn) (rest all : List (ℕ × TempInsn)) (whole : List TempInsn) (id : ℕ) (old table one : List (List ℕ)) → all ≡ (id, x) ∷ rest → next ≡ number + 1 →
    AreNamed number x table one →
    ((new : List (List ℕ)) → AreCounted number (items all) table new → AreCounted first whole old new) →
    (new : List (List ℕ)) → AreCounted next (items rest) one new → AreCounted first whole old new
count_next number next first x rest all whole id old table one is step v leads new k =
    leads new (subst (λ ps. AreCounted number (items ps) table new) (sym is)
    (more_counted number x (items rest) table one new v (subst (λ n. AreCounted n (items rest) one new) (let e : next ≡ suc number = omega (arith, step) in e) k)))

pub walk_done : (start number first : ℕ) (left : List (ℕ × TempInsn)) (whole : List TempInsn) (old table : List (List LifetimePart)) → left ≡ [] →
    ((new : List (List LifetimePart)) → AreWalked start number (items left) table new → AreWalked start first whole old new) → AreWalked start first whole old table
walk_done start number first left whole old table none leads =
    leads table (subst (λ ps. AreWalked start number (items ps) table table) (sym none) (none_walked start number table))

pub count_done : (number first : ℕ) (left : List (ℕ × TempInsn)) (whole : List TempInsn) (old table : List (List ℕ)) → left ≡ [] →
    ((new : List (List ℕ)) → AreCounted number (items left) table new → AreCounted first whole old new) → AreCounted first whole old table
count_done number first left whole old table none leads =
    leads table (subst (λ ps. AreCounted number (items ps) table table) (sym none) (none_counted number table))

-- ---- a block

module _ (number next : ℕ) (insns : List TempInsn) (bottom : List Bool) (old one new : List (List LifetimePart)) where
  pub block_spanned : next ≡ number + length insns → AreWalked (2 * number) number insns old one →
      (number < next → Changes (has bottom) (JoinsSome (2 * number) (2 * next - 1)) one new) → (next ≤ number → new ≡ one) →
      AreSpanned number insns bottom old new
  block_spanned is k closed kept = record {
    as_many = ⊎_elim (λ (w : number < next). (closed w).as_many ∙ k.as_many) (λ w. ap length (kept w) ∙ k.as_many) (cases_lt number next);
    each = λ test t inside agrees spans.
        let stands : Stands test (2 * number) (2 * next) (has bottom t) (list_at one t) =
        subst (λ n. Stands test (2 * number) (2 * n) (has bottom t) (list_at one t)) (sym is)
        (k.each test t (has bottom t) inside agrees (begun test (2 * number) spans.behind (live_before t (has bottom t) insns) (list_at old t) spans.spans)) in
        subst (λ n. HasSpans test (2 * n) (list_at new t)) is
        (⊎_elim
        (λ (w : number < next). by_live test t w (has bottom t) stands (let many = k.as_many in (closed w).each t (omega (arith, inside, many))))
        (λ (w : next ≤ number).
        let same : number ≡ next = omega (arith, w, is) in
        subst (λ l. HasSpans test (2 * next) (list_at l t)) (sym (kept w))
        (subst (λ n. HasSpans test (2 * n) (list_at one t)) same
        (closed_empty test (2 * number) (has bottom t) (list_at one t) (subst (λ n. Stands test (2 * number) (2 * n) (has bottom t) (list_at one t)) (sym same) stands))))
        (cases_lt number next));
  }
    where
      by_live : (test : ℕ → Bool) (t : ℕ) → number < next → (live : Bool) → Stands test (2 * number) (2 * next) live (list_at one t) →
          Marked live (JoinsSome (2 * number) (2 * next - 1)) (list_at one t) (list_at new t) → HasSpans test (2 * next) (list_at new t)
      by_live test t w true stands m = record {
        behind = 2 * next;
        spans = closed_live test (2 * number) (2 * next) (2 * next - 1) (list_at one t) (list_at new t) (omega (arith, w)) (omega (arith, w)) stands m;
      }
      by_live test t w false stands m = subst (HasSpans test (2 * next)) (sym m) (closed_dead test (2 * number) (2 * next) (list_at one t) stands)

-- ---- numbers in the loop

pub few_here : (next sum bound id : ℕ) (x : TempInsn) (all rest : List (ℕ × TempInsn)) → all ≡ (id, x) ∷ rest → next + length (items all) ≡ sum → sum < bound → next < bound
few_here next sum bound id x all rest is total few =
    let more : length (items all) ≡ suc (length (items rest)) = ap (λ ps. length (items ps)) is in omega (arith, total, few, more)

pub left_next : (next sum id after : ℕ) (x : TempInsn) (all rest : List (ℕ × TempInsn)) → all ≡ (id, x) ∷ rest → next + length (items all) ≡ sum → after ≡ next + 1 → after + length (items rest) ≡ sum
left_next next sum id after x all rest is total step =
    let more : length (items all) ≡ suc (length (items rest)) = ap (λ ps. length (items ps)) is in omega (arith, total, step, more)

pub all_behind : (next sum : ℕ) (left : List (ℕ × TempInsn)) → left ≡ [] → next + length (items left) ≡ sum → next ≡ sum
all_behind next sum left none total =
    let size : length (items left) ≡ 0 = ap (λ ps. length (items ps)) none in omega (arith, total, size)
