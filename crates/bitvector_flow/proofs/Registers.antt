-- What the instructions of blocks read first and write.
use Rattle.std.proofs.Common.{◌≡◌, ℕ, zero, suc, ◌+◌, ◌<◌, ◌≤◌, ◌==◌, ◌&&◌, ◌||◌, not, Bool, true, false, List, [], ◌∷◌, ◌++◌, refl, sym, ap, ◌∙◌, subst, length, get_or, take, arith, All, Some, None}
use Rattle.std.specs.Prelude.{slice_get}
use Rattle.std.proofs.lemmas.List.{take_more, take_all}
use Rattle.std.proofs.lemmas.Option.{slice_get_within, get_or_from_slice_get, none-some}
use Rattle.std.proofs.lemmas.List.Elements.{All-head, All-tail}
use Rattle.std.proofs.lemmas.List.Folds.{list_any-append}
use Rattle.bk_bits.specs.Sets.{has}
use Rattle.bk_ilist.specs.Listing.{items}
use Rattle.bitvector_flow.specs.Flows.{AreBounded}
use Rattle.bitvector_flow.specs.Lives.{has_register, reads_first, some_writes}
use Rattle.bitvector_flow.specs.model.Blocks.{AreSetsOf, IsPushed, AreBlockSets}
use Rattle.bitvector_flow.proofs.Unions.{or_false}

pub or_assoc : (a b c : Bool) → ((a || b) || c) ≡ (a || (b || c))
or_assoc true b c = refl
or_assoc false b c = refl

-- ---- one register more

pub names_more : (registers : List ℕ) (i register k : ℕ) → slice_get registers i ≡ Some register →
    has_register (take (i + 1) registers) k ≡ (has_register (take i registers) k || (register == k))
names_more registers i register k found =
    ap (λ rs. has_register rs k) (take_more registers i register (slice_get_within registers i register found))
    ∙ list_any-append (λ r. r == k) (take i registers) (get_or registers i register ∷ [])
    ∙ ap (λ b. has_register (take i registers) k || b) (sym (or_false (get_or registers i register == k)))
    ∙ ap (λ r. has_register (take i registers) k || (r == k)) (get_or_from_slice_get registers i register register found)

pub past_end : {A : Type 0} (xs : List A) (i : ℕ) → slice_get xs i ≡ None → length xs ≤ i
past_end [] i none = omega arith
past_end (x ∷ xs) zero none = absurd (none-some x (sym none))
past_end (x ∷ xs) (suc i) none = let rest = past_end xs i none in omega arith

pub names_all : (registers : List ℕ) (i k : ℕ) → length registers ≤ i → has_register (take i registers) k ≡ has_register registers k
names_all registers i k past = ap (λ rs. has_register rs k) (take_all i registers past)

and_or : (a b c d : Bool) → (a || (not b && (c || d))) ≡ ((a || (not b && c)) || (not b && d))
and_or true b c d = refl
and_or false true c d = refl
and_or false false c d = refl

pub read_more : (registers : List ℕ) (i register k : ℕ) (old now new written : Bool) → slice_get registers i ≡ Some register →
    now ≡ (old || (not written && has_register (take i registers) k)) → new ≡ (now || (not written && (register == k))) →
    new ≡ (old || (not written && has_register (take (i + 1) registers) k))
read_more registers i register k old now new written found now_is new_is =
    new_is ∙ ap (λ b. b || (not written && (register == k))) now_is
    ∙ sym (and_or old written (has_register (take i registers) k) (register == k))
    ∙ ap (λ b. old || (not written && b)) (sym (names_more registers i register k found))

pub write_more : (registers : List ℕ) (i register k : ℕ) (old now new : Bool) → slice_get registers i ≡ Some register →
    now ≡ (old || has_register (take i registers) k) → new ≡ (now || (register == k)) → new ≡ (old || has_register (take (i + 1) registers) k)
write_more registers i register k old now new found now_is new_is =
    new_is ∙ ap (λ b. b || (register == k)) now_is ∙ or_assoc old (has_register (take i registers) k) (register == k)
    ∙ ap (λ b. old || b) (sym (names_more registers i register k found))

-- ---- one instruction more

step_reads : (r w nr nw rest : Bool) → ((r || (not w && nr)) || (not (w || nw) && rest)) ≡ (r || (not w && (nr || (not nw && rest))))
step_reads true w nr nw rest = refl
step_reads false true nr nw rest = refl
step_reads false false nr nw rest = refl

module _ {I : Type 0} (reads writes : I → List ℕ) where
  pub insn_reads : (i : I) (rest all : List (ℕ × I)) (id k : ℕ) (r w r_new w_new whole : Bool) → all ≡ (id, i) ∷ rest →
      r_new ≡ (r || (not w && has_register (reads i) k)) → w_new ≡ (w || has_register (writes i) k) →
      (r || (not w && reads_first reads writes (items all) k)) ≡ whole →
      (r_new || (not w_new && reads_first reads writes (items rest) k)) ≡ whole
  insn_reads i rest all id k r w r_new w_new whole is r_is w_is so =
      ap (λ b. b || (not w_new && reads_first reads writes (items rest) k)) r_is
      ∙ ap (λ b. (r || (not w && has_register (reads i) k)) || (not b && reads_first reads writes (items rest) k)) w_is
      ∙ step_reads r w (has_register (reads i) k) (has_register (writes i) k) (reads_first reads writes (items rest) k)
      ∙ sym (ap (λ ps. r || (not w && reads_first reads writes (items ps) k)) is) ∙ so

  pub insn_writes : (i : I) (rest all : List (ℕ × I)) (id k : ℕ) (w w_new whole : Bool) → all ≡ (id, i) ∷ rest →
      w_new ≡ (w || has_register (writes i) k) → (w || some_writes writes (items all) k) ≡ whole → (w_new || some_writes writes (items rest) k) ≡ whole
  insn_writes i rest all id k w w_new whole is w_is so =
      ap (λ b. b || some_writes writes (items rest) k) w_is ∙ or_assoc w (has_register (writes i) k) (some_writes writes (items rest) k)
      ∙ sym (ap (λ ps. w || some_writes writes (items ps) k) is) ∙ so

pub first_left : {A : Type 0} (P : A → Type 0) (i : A) (rest all : List (ℕ × A)) (id : ℕ) → all ≡ (id, i) ∷ rest → All P (items all) → P i
first_left P i rest all id is every = All-head P i (items rest) (subst (λ ps. All P (items ps)) is every)

pub others_left : {A : Type 0} (P : A → Type 0) (i : A) (rest all : List (ℕ × A)) (id : ℕ) → all ≡ (id, i) ∷ rest → All P (items all) → All P (items rest)
others_left P i rest all id is every = All-tail P i (items rest) (subst (λ ps. All P (items ps)) is every)

-- ---- one block more

pushed_at : {A B : Type 0} (R : A → B → Type 0) (c : A) (d : B) → R c d → (xs : List A) (ys : List B) → length xs ≡ length ys →
    ((k : ℕ) → R (get_or xs k c) (get_or ys k d)) → (x : A) (y : B) → R x y → (k : ℕ) → R (get_or (xs ++ x ∷ []) k c) (get_or (ys ++ y ∷ []) k d)
pushed_at R c d ends [] [] same all x y last zero = last
pushed_at R c d ends [] [] same all x y last (suc k) = ends
pushed_at R c d ends [] (b ∷ ys) same all x y last k = absurd (omega (arith, same))
pushed_at R c d ends (a ∷ xs) [] same all x y last k = absurd (omega (arith, same))
pushed_at R c d ends (a ∷ xs) (b ∷ ys) same all x y last zero = all 0
pushed_at R c d ends (a ∷ xs) (b ∷ ys) same all x y last (suc k) = pushed_at R c d ends xs ys (omega (arith, same)) (λ j. all (suc j)) x y last k

pub pushed_bounds : (bound : ℕ) (xs : List (List Bool)) (x : List Bool) → ((b : ℕ) → b < length xs → length (get_or xs b []) ≡ bound) → length x ≡ bound →
    (b : ℕ) → b < length (xs ++ x ∷ []) → length (get_or (xs ++ x ∷ []) b []) ≡ bound
pushed_bounds bound [] x all last zero within = last
pushed_bounds bound [] x all last (suc b) within = absurd (omega (arith, within))
pushed_bounds bound (a ∷ xs) x all last zero within = all 0 (omega arith)
pushed_bounds bound (a ∷ xs) x all last (suc b) within = pushed_bounds bound xs x (λ k below. all (suc k) (omega (arith, below))) last b (omega (arith, within))

pub length_push : {A : Type 0} (xs : List A) (x : A) → length (xs ++ x ∷ []) ≡ suc (length xs)
length_push [] x = refl
length_push (y ∷ xs) x = ap suc (length_push xs x)

bounded_push : {A : Type 0} (bound : ℕ) (blocks : List A) (b : A) (sets : List (List Bool)) (s : List Bool) → AreBounded (length blocks) bound sets → length s ≡ bound → AreBounded (length (blocks ++ b ∷ [])) bound (sets ++ s ∷ [])
bounded_push bound blocks b sets s are last =
    let many = length_push sets s in
    let count = length_push blocks b in
    let same = are.as_many in
    record {
      as_many = omega (arith, many, count, same);
      bounds = λ k below. pushed_bounds bound sets s (λ j within. are.bounds j (omega (arith, within, same))) last k (omega (arith, below, many, count, same));
    }

module _ {I : Type 0} (reads writes : I → List ℕ) (registers : ℕ) where
  sets_more : (blocks : List (List I)) (b : List I) (firsts lasts : List (List Bool)) (first last : List Bool) → AreBlockSets reads writes registers blocks firsts lasts →
      AreSetsOf reads writes registers b first last → AreBlockSets reads writes registers (blocks ++ b ∷ []) (firsts ++ first ∷ []) (lasts ++ last ∷ [])
  sets_more blocks b firsts lasts first last are one = record {
    firsts_bounded = bounded_push registers blocks b firsts first are.firsts_bounded one.first_bound;
    lasts_bounded = bounded_push registers blocks b lasts last are.lasts_bounded one.last_bound;
    read = pushed_at (λ (s : List Bool) (insns : List I). (k : ℕ) → has s k ≡ reads_first reads writes insns k) [] [] (λ k. refl) firsts blocks are.firsts_bounded.as_many are.read first b one.read;
    written = pushed_at (λ (s : List Bool) (insns : List I). (k : ℕ) → has s k ≡ some_writes writes insns k) [] [] (λ k. refl) lasts blocks are.lasts_bounded.as_many are.written last b one.written;
  }

  no_sets : AreBlockSets reads writes registers [] [] []
  no_sets = record {
    firsts_bounded = record { as_many = refl; bounds = λ b below. absurd (omega (arith, below)) };
    lasts_bounded = record { as_many = refl; bounds = λ b below. absurd (omega (arith, below)) };
    read = λ b k. refl;
    written = λ b k. refl;
  }

  pub begun_sets : (firsts lasts : List (List Bool)) → firsts ≡ [] → lasts ≡ [] → AreBlockSets reads writes registers [] firsts lasts
  begun_sets firsts lasts no_firsts no_lasts =
      subst (λ fs. AreBlockSets reads writes registers [] fs lasts) (sym no_firsts) (subst (AreBlockSets reads writes registers [] []) (sym no_lasts) no_sets)

  pub sets_next : (blocks : List (List I)) (i : ℕ) (b : List I) (firsts firsts_new lasts lasts_new : List (List Bool)) → AreBlockSets reads writes registers (take i blocks) firsts lasts →
      IsPushed reads writes registers b firsts firsts_new lasts lasts_new → i < length blocks → b ≡ get_or blocks i b → AreBlockSets reads writes registers (take (i + 1) blocks) firsts_new lasts_new
  sets_next blocks i b firsts firsts_new lasts lasts_new are p within is =
      let list : take (i + 1) blocks ≡ take i blocks ++ b ∷ [] = take_more blocks i b within ∙ ap (λ x. take i blocks ++ x ∷ []) (sym is) in
      subst (λ bs. AreBlockSets reads writes registers bs firsts_new lasts_new) (sym list)
      (subst (λ fs. AreBlockSets reads writes registers (take i blocks ++ b ∷ []) fs lasts_new) (sym p.firsts_are)
      (subst (λ ls. AreBlockSets reads writes registers (take i blocks ++ b ∷ []) (firsts ++ p.first ∷ []) ls) (sym p.lasts_are)
      (sets_more (take i blocks) b firsts lasts p.first p.last are p.are)))

  pub sets_all : (blocks : List (List I)) (i : ℕ) (firsts lasts : List (List Bool)) → length blocks ≤ i → AreBlockSets reads writes registers (take i blocks) firsts lasts → AreBlockSets reads writes registers blocks firsts lasts
  sets_all blocks i firsts lasts past are = subst (λ bs. AreBlockSets reads writes registers bs firsts lasts) (take_all i blocks past) are

pub at_item : {A : Type 0} (P : A → Type 0) (xs : List A) (i : ℕ) (x : A) → All P xs → i < length xs → x ≡ get_or xs i x → P x
at_item P xs i x all within is = subst P (sym is) (all i x within)

pub same_bound : (xs : List ℕ) (a b : ℕ) → a ≡ b → All (λ t. t < b) xs → All (λ t. t < a) xs
same_bound xs a b same all = subst (λ n. All (λ t. t < n) xs) (sym same) all
