-- Sets of what is tested, and what flows by the tests and by the sets.
use Rattle.std.proofs.Common.{◌≡◌, ◌≢◌, ℕ, zero, suc, ◌+◌, ◌<◌, ◌≤◌, ◌==◌, ◌&&◌, ◌||◌, Bool, true, false, List, [], ◌∷◌, ◌++◌, refl, sym, ap, ◌∙◌, subst, ⊎_elim, length, get_or, replicate, arith}
use Rattle.std.specs.Prelude.{Contains, nat_lt}
use Rattle.std.specs.Bool.{MatchBool}
use Rattle.std.proofs.lemmas.Bool.{cases_lt, cases_eq, lt-ltb, le-ltb, eq-eqb, ne_eqb}
use Rattle.std.proofs.lemmas.List.{get_or_past, get_or_append_left}
use Rattle.std.proofs.Math.Seq.{get_or-append_seam}
use Rattle.bk_bits.specs.Sets.{has}
use Rattle.bitvector_flow.specs.Flows.{has_at, FlowsOut, FlowsIn, AreBounded, AreLeast}
use Rattle.bitvector_flow.specs.model.Flows.{AreFlows}
use Rattle.bitvector_flow.specs.Flows.FlowsOut.{IsMade, Passes}
use Rattle.bitvector_flow.specs.model.Rounds.{AreBelow}
use Rattle.bitvector_flow.specs.model.Tested.{AreTested}
use Rattle.bitvector_flow.proofs.Registers.{pushed_bounds, length_push}

-- ---- one number more

or_none : (b : Bool) → b ≡ (b || false)
or_none true = refl
or_none false = refl

pub test_more : (f : ℕ → Bool) (j k : ℕ) → ((nat_lt j k && f j) || ((k == j) && f k)) ≡ (nat_lt j (k + 1) && f j)
test_more f j k =
    ⊎_elim
    (λ (below : j < k).
    ap (λ b. (b && f j) || ((k == j) && f k)) (lt-ltb j k below) ∙ ap (λ b. f j || (b && f k)) (ne_eqb k j (λ e. omega (arith, below, e))) ∙ sym (or_none (f j))
    ∙ sym (ap (λ b. b && f j) (lt-ltb j (k + 1) (omega (arith, below)))))
    (λ (above : k ≤ j). ⊎_elim
    (λ (same : k ≡ j).
    ap (λ b. (b && f j) || ((k == j) && f k)) (le-ltb j k above) ∙ ap (λ b. b && f k) (eq-eqb k j same) ∙ ap f same
    ∙ sym (ap (λ b. b && f j) (lt-ltb j (k + 1) (omega (arith, same)))))
    (λ (apart : k ≢ j).
    ap (λ b. (b && f j) || ((k == j) && f k)) (le-ltb j k above) ∙ ap (λ b. b && f k) (ne_eqb k j apart)
    ∙ sym (ap (λ b. b && f j) (le-ltb j (k + 1) (further j k above apart))))
    (cases_eq k j))
    (cases_lt j k)
  where
    further : (j k : ℕ) → k ≤ j → k ≢ j → k + 1 ≤ j
    further j k above apart = omega (arith, above, apart)

pub member_more : (f : ℕ → Bool) (j k : ℕ) (old new test : Bool) → old ≡ (nat_lt j k && f j) → test ≡ f k → new ≡ (old || ((k == j) && test)) → new ≡ (nat_lt j (k + 1) && f j)
member_more f j k old new test old_is test_is new_is =
    new_is ∙ ap (λ b. b || ((k == j) && test)) old_is ∙ ap (λ b. (nat_lt j k && f j) || ((k == j) && b)) test_is ∙ test_more f j k

pub none_yet : (f : ℕ → Bool) (j : ℕ) (old : Bool) → old ≡ false → old ≡ (nat_lt j 0 && f j)
none_yet f j old is = is ∙ sym (ap (λ b. b && f j) (le-ltb j 0 (omega arith)))

pub empty_set : (set : List Bool) (n j : ℕ) → set ≡ replicate n false → has set j ≡ false
empty_set set n j is = ap (λ s. has s j) is ∙ none n j
  where
    none : (n j : ℕ) → has (replicate n false) j ≡ false
    none zero j = refl
    none (suc n) zero = refl
    none (suc n) (suc j) = none n j

pub test_all : (f : ℕ → Bool) (j k n size bound : ℕ) (b : Bool) → b ≡ (nat_lt j k && f j) → k ≡ size → size ≡ bound → b ≡ (nat_lt j bound && f j)
test_all f j k n size bound b is end same = is ∙ ap (λ m. nat_lt j m && f j) (end ∙ same)

-- ---- one set more

pub tested_none : (bound : ℕ) (test : (block k : ℕ) → Bool) (sets : List (List Bool)) → sets ≡ [] → AreTested 0 bound test sets
tested_none bound test sets none = record {
  bounded = record { as_many = ap length none; bounds = λ b below. absurd (omega (arith, below)) };
  are = λ b k below. absurd (omega (arith, below));
}

pub tested_push : (count bound : ℕ) (test : (block k : ℕ) → Bool) (sets : List (List Bool)) (s : List Bool) → AreTested count bound test sets → length s ≡ bound →
    ((k : ℕ) → has s k ≡ (nat_lt k bound && test count k)) → AreTested (count + 1) bound test (sets ++ s ∷ [])
tested_push count bound test sets s so size is =
    let many = so.bounded.as_many in
    let more = length_push sets s in
    record {
      bounded = record {
        as_many = omega (arith, many, more);
        bounds = λ b below. pushed_bounds bound sets s (λ j within. so.bounded.bounds j (omega (arith, within, many))) size b (omega (arith, below, many, more));
      };
      are = λ b k below. ⊎_elim
          (λ (early : b < count). ap (λ t. has t k) (get_or_append_left sets (s ∷ []) [] b (omega (arith, early, many))) ∙ so.are b k early)
          (λ (late : count ≤ b).
          let last : b ≡ length sets = omega (arith, late, below, many) in
          let same : count ≡ b = omega (arith, late, below) in
          ap (λ n. has (get_or (sets ++ s ∷ []) n []) k) last ∙ ap (λ t. has t k) (get_or-append_seam sets s [] []) ∙ is k ∙ ap (λ n. nat_lt k bound && test n k) same)
          (cases_lt b count);
    }

pub below_of : (count bound size : ℕ) (sets : List (List Bool)) → AreBounded count bound sets → size ≡ bound → AreBelow size sets
below_of count bound size sets are same b within = let many = are.as_many in are.bounds b (omega (arith, within, many)) ∙ sym same

-- ---- what flows

module _ (makes stops : (block k : ℕ) → Bool) (nexts : List (List ℕ)) (bound : ℕ) (made stopped : List (List Bool)) (ms : AreTested (length nexts) bound makes made)
    (ss : AreTested (length nexts) bound stops stopped) (k : ℕ) (within : k < bound) where
  next_inside : (block next : ℕ) → Contains (get_or nexts block []) next → block < length nexts
  next_inside block next (at, below, is) = ⊎_elim (λ inside. inside)
      (λ past. absurd (let none = ap length (get_or_past nexts block [] past) in omega (arith, none, below)))
      (cases_lt block (length nexts))

  same_made : (block : ℕ) → block < length nexts → has_at made block k ≡ makes block k
  same_made block inside = ms.are block k inside ∙ ap (λ b. b && makes block k) (lt-ltb k bound within)

  same_stopped : (block : ℕ) → block < length nexts → has_at stopped block k ≡ stops block k
  same_stopped block inside = ss.are block k inside ∙ ap (λ b. b && stops block k) (lt-ltb k bound within)

  pub there : (block : ℕ) → FlowsOut (has_at made) (has_at stopped) nexts k block → FlowsOut makes stops nexts k block
  there block (IsMade inside h) = IsMade inside (sym (same_made block inside) ∙ h)
  there block (Passes next goes is flows) = Passes next (sym (same_stopped block (next_inside block next is)) ∙ goes) is (there next flows)

  pub back : (block : ℕ) → FlowsOut makes stops nexts k block → FlowsOut (has_at made) (has_at stopped) nexts k block
  back block (IsMade inside h) = IsMade inside (same_made block inside ∙ h)
  back block (Passes next goes is flows) = Passes next (same_stopped block (next_inside block next is) ∙ goes) is (back next flows)

pub least_by_tests : (makes stops : (block k : ℕ) → Bool) (nexts : List (List ℕ)) (bound size count : ℕ) (made stopped shown outs ins : List (List Bool)) →
    size ≡ bound → count ≡ length nexts → shown ≡ stopped → AreTested count bound makes made → AreTested count bound stops stopped →
    AreFlows (has_at made) (has_at shown) nexts size outs ins → AreLeast makes stops nexts bound outs ins
least_by_tests makes stops nexts bound size count made stopped shown outs ins size_is count_is shown_is ms ss flows =
    finds (subst (λ n. AreTested n bound makes made) count_is ms) (subst (λ n. AreTested n bound stops stopped) count_is ss)
    (subst (λ s. AreFlows (has_at made) (has_at s) nexts bound outs ins) shown_is (subst (λ n. AreFlows (has_at made) (has_at shown) nexts n outs ins) size_is flows))
  where
    finds : AreTested (length nexts) bound makes made → AreTested (length nexts) bound stops stopped → AreFlows (has_at made) (has_at stopped) nexts bound outs ins → AreLeast makes stops nexts bound outs ins
    finds ms ss f = record {
      outs_bounded = f.outs_bounded;
      ins_bounded = f.ins_bounded;
      flows_out = λ block k within. (
        λ h. there makes stops nexts bound made stopped ms ss k within block ((f.flows_out block k).0 h),
        λ flow. (f.flows_out block k).1 (back makes stops nexts bound made stopped ms ss k within block flow),
      );
      flows_in = λ block k within. (
        λ h. let i = (f.flows_in block k).0 h in record { next = i.next; is_next = i.is_next; flows = there makes stops nexts bound made stopped ms ss k within i.next i.flows },
        λ i. (f.flows_in block k).1 (record { next = i.next; is_next = i.is_next; flows = back makes stops nexts bound made stopped ms ss k within i.next i.flows }),
      );
    }

pub if_true : (b : Bool) (A B : Type 0) → b ≡ true → A → MatchBool b A B
if_true true A B is a = a
if_true false A B is a = let no : ⊥ = cc in absurd no

pub if_false : (b : Bool) (A B : Type 0) → b ≡ false → B → MatchBool b A B
if_false true A B is a = let no : ⊥ = cc in absurd no
if_false false A B is a = a

pub least_shown : (makes stops : (block k : ℕ) → Bool) (nexts shown : List (List ℕ)) (bound : ℕ) (outs ins top bottom : List (List Bool)) → shown ≡ nexts → top ≡ outs → bottom ≡ ins →
    AreLeast makes stops shown bound outs ins → AreLeast makes stops nexts bound top bottom
least_shown makes stops nexts shown bound outs ins top bottom shown_is top_is bottom_is least =
    subst (λ t. AreLeast makes stops nexts bound t bottom) (sym top_is) (subst (AreLeast makes stops nexts bound outs) (sym bottom_is)
    (subst (λ n. AreLeast makes stops n bound outs ins) shown_is least))
