-- The code of each edge of an allocation.
use Rattle.std.proofs.Common.{◌≡◌, ◌≢◌, ◌⊎◌, ℕ, zero, suc, ◌+◌, ◌<◌, ◌≤◌, ◌==◌, ◌&&◌, nat_lt, List, [], ◌∷◌, ◌++◌, Bool, true, false, Some, if◌then◌else◌, refl, sym, ap, ◌∙◌, inl, inr, subst, length, take, append_assoc, append-nil, arith}
use Rattle.std.specs.Prelude.{All, Contains, find, slice_get, slice_index_or}
use Rattle.std.proofs.lemmas.Bool.{eqb-true, eq-eqb, lt-ltb, le-ltb}
use Rattle.std.proofs.lemmas.List.{map-append}
use Rattle.std.proofs.lemmas.List.Elements.{All-cons, All-nil, All-append}
use Rattle.pass_core.specs.Functions.{successors_of}
use Rattle.cfg.specs.Edges.{successors_from}
use Rattle.temp_ir.specs.declared.insn.TempInsn.{TempInsn}
use Rattle.temp_ir.specs.Insns.{targets_of, flows_on_of}
use Rattle.alloc_model.specs.declared.allocation.EdgeCode.{EdgeCode}
use Rattle.alloc_model.specs.Places.{code_in}
use Rattle.alloc_model.specs.Faithful.{sorted_targets, sorted_edges_from}
use Rattle.alloc_model.specs.declared.allocation.TempPlace.{TempPlace}
use Rattle.binpack_scan.specs.model.Edges.{IsMap, AreMaps, ends_of, edges_to}
use Rattle.binpack_blocks.proofs.Holders.{test_or_not}

-- ---- one edge behind others

pub ends_behind : (out new : List EdgeCode) (e : EdgeCode) → new ≡ out ++ e ∷ [] → ends_of new ≡ ends_of out ++ (e.from, e.to) ∷ []
ends_behind out new e is = ap ends_of is ∙ map-append {B = ℕ × ℕ} (λ (x : EdgeCode). (x.from, x.to)) out (e ∷ [])

pub all_behind : (P : EdgeCode → Type 0) (out new : List EdgeCode) (e : EdgeCode) → new ≡ out ++ e ∷ [] → P e → All P out → All P new
all_behind P out new e is one all = subst (All P) (sym is) (All-append P out (e ∷ []) all (All-cons P e [] one (All-nil P)))

pub map_there : (maps : List (List TempPlace)) (sets : List (List Bool)) (block : ℕ) (places : List TempPlace) → places ≡ slice_index_or maps block [] → AreMaps maps sets → IsMap places
map_there maps sets block places e are = subst IsMap (sym e) (are.each block)

-- ---- by rising number

pub rising_same : (xs : List ℕ) (a b : ℕ) → length xs ≡ 2 → a ≡ slice_index_or xs 0 a → b ≡ slice_index_or xs 1 b → a ≤ b → xs ≡ sorted_targets xs
rising_same [] a b two first second above = refl
rising_same (x ∷ []) a b two first second above = refl
rising_same (x ∷ y ∷ z ∷ xs) a b two first second above = refl
rising_same (x ∷ y ∷ []) a b two first second above =
    sym (ap (λ t. if t then y ∷ x ∷ [] else x ∷ y ∷ []) (le-ltb y x (omega (arith, first, second, above))))

pub rising_few : (xs : List ℕ) → length xs ≢ 2 → xs ≡ sorted_targets xs
rising_few [] few = refl
rising_few (a ∷ []) few = refl
rising_few (a ∷ b ∷ []) few = absurd (few refl)
rising_few (a ∷ b ∷ c ∷ xs) few = refl

pub rising_turned : (xs : List ℕ) (a b : ℕ) → length xs ≡ 2 → a ≡ slice_index_or xs 0 a → b ≡ slice_index_or xs 1 b → b < a → sorted_targets xs ≡ b ∷ a ∷ []
rising_turned [] a b two first second below = absurd (omega (arith, two))
rising_turned (x ∷ []) a b two first second below = absurd (omega (arith, two))
rising_turned (x ∷ y ∷ z ∷ xs) a b two first second below = absurd (omega (arith, two))
rising_turned (x ∷ y ∷ []) a b two first second below =
    ap (λ t. if t then y ∷ x ∷ [] else x ∷ y ∷ []) (lt-ltb y x (omega (arith, first, second, below)))
    ∙ ap (λ v. y ∷ v ∷ []) (sym first) ∙ ap (λ v. v ∷ a ∷ []) (sym second)

pub few_edges : (from : ℕ) (xs : List ℕ) (old new : List (ℕ × ℕ)) → new ≡ old ++ edges_to from xs → length xs ≢ 2 → new ≡ old ++ edges_to from (sorted_targets xs)
few_edges from xs old new e few = e ∙ ap (λ ys. old ++ edges_to from ys) (rising_few xs few)

pub same_edges : (from : ℕ) (xs : List ℕ) (a b : ℕ) (old new : List (ℕ × ℕ)) → new ≡ old ++ edges_to from xs → length xs ≡ 2 → a ≡ slice_index_or xs 0 a → b ≡ slice_index_or xs 1 b → a ≤ b → new ≡ old ++ edges_to from (sorted_targets xs)
same_edges from xs a b old new e two first second above = e ∙ ap (λ ys. old ++ edges_to from ys) (rising_same xs a b two first second above)

pub turned_edges : (from : ℕ) (xs : List ℕ) (a b : ℕ) (old one new : List (ℕ × ℕ)) → one ≡ old ++ (from, b) ∷ [] → new ≡ one ++ (from, a) ∷ [] → length xs ≡ 2 → a ≡ slice_index_or xs 0 a → b ≡ slice_index_or xs 1 b → b < a → new ≡ old ++ edges_to from (sorted_targets xs)
turned_edges from xs a b old one new e f two first second below =
    f ∙ ap (λ z. z ++ (from, a) ∷ []) e ∙ append_assoc old ((from, b) ∷ []) ((from, a) ∷ [])
    ∙ sym (ap (λ ys. old ++ edges_to from ys) (rising_turned xs a b two first second below))

-- ---- the blocks one after the other

edges_more : (start : ℕ) (blocks : List (List TempInsn)) (k n : ℕ) (d : List TempInsn) → n ≡ start + k → k < length blocks → sorted_edges_from start (take (suc k) blocks) ≡ sorted_edges_from start (take k blocks) ++ edges_to n (sorted_targets (successors_of targets_of flows_on_of n (slice_index_or blocks k d)))
edges_more start [] k n d e within = absurd (omega (arith, within))
edges_more start (b ∷ bs) zero n d e within =
    let same : start ≡ n = omega (arith, e) in
    append-nil (edges_to start (sorted_targets (successors_of targets_of flows_on_of start b))) ∙ ap (λ m. edges_to m (sorted_targets (successors_of targets_of flows_on_of m b))) same
edges_more start (b ∷ bs) (suc k) n d e within =
    ap (λ es. edges_to start (sorted_targets (successors_of targets_of flows_on_of start b)) ++ es) (edges_more (suc start) bs k n d (omega (arith, e)) (omega (arith, within)))
    ∙ sym (append_assoc (edges_to start (sorted_targets (successors_of targets_of flows_on_of start b))) (sorted_edges_from (suc start) (take k bs)) (edges_to n (sorted_targets (successors_of targets_of flows_on_of n (slice_index_or bs k d)))))

pub as_many : (start : ℕ) (blocks : List (List TempInsn)) → length (successors_from targets_of flows_on_of start blocks) ≡ length blocks
as_many start [] = refl
as_many start (b ∷ bs) = ap suc (as_many (suc start) bs)

followers_at : (start : ℕ) (blocks : List (List TempInsn)) (k n : ℕ) (d : List ℕ) (b : List TempInsn) → n ≡ start + k → k < length blocks → slice_index_or (successors_from targets_of flows_on_of start blocks) k d ≡ successors_of targets_of flows_on_of n (slice_index_or blocks k b)
followers_at start [] k n d b e within = absurd (omega (arith, within))
followers_at start (c ∷ bs) zero n d b e within =
    let same : start ≡ n = omega (arith, e) in
    ap (λ m. successors_of targets_of flows_on_of m c) same
followers_at start (c ∷ bs) (suc k) n d b e within = followers_at (suc start) bs k n d b (omega (arith, e)) (omega (arith, within))

pub edges_next : (blocks : List (List TempInsn)) (lists : List (List ℕ)) (at : ℕ) (followers d : List ℕ) (old new : List EdgeCode) → lists ≡ successors_from targets_of flows_on_of 0 blocks → at < length blocks → followers ≡ slice_index_or lists at d →
    ends_of new ≡ ends_of old ++ edges_to at (sorted_targets followers) → ends_of old ≡ sorted_edges_from 0 (take at blocks) → ends_of new ≡ sorted_edges_from 0 (take (at + 1) blocks)
edges_next blocks lists at followers d old new all within there is before =
    let next : at + 1 ≡ suc at = omega arith in
    let own : followers ≡ successors_of targets_of flows_on_of at (slice_index_or blocks at []) =
    there ∙ ap (λ ls. slice_index_or ls at d) all ∙ followers_at 0 blocks at at d [] (omega arith) within in
    is ∙ ap (λ es. es ++ edges_to at (sorted_targets followers)) before
    ∙ ap (λ fs. sorted_edges_from 0 (take at blocks) ++ edges_to at (sorted_targets fs)) own
    ∙ sym (edges_more 0 blocks at at [] (omega arith) within)
    ∙ ap (λ n. sorted_edges_from 0 (take n blocks)) (sym next)

-- ---- what is found

abbrev leads : (from to : ℕ) → EdgeCode → Bool
leads from to e = (e.from == from) && (e.to == to)

both_true : (b c : Bool) → (b && c) ≡ true → (b ≡ true) × (c ≡ true)
both_true true c e = (refl, e)
both_true false c e = absurd (cc)

-- the edge between two blocks
pub record IsFound (edges : List EdgeCode) (from to : ℕ) : Type 0 where
  pub e : EdgeCode
  pub there : Contains edges e
  pub starts : e.from ≡ from
  pub goes : e.to ≡ to
  pub is : code_in (find (λ e. (e.from == from) && (e.to == to)) edges) ≡ e.code

abbrev pair : ℕ → ℕ → ℕ × ℕ
pair a b = (a, b)

pair_first : (a b c d : ℕ) → pair a b ≡ pair c d → a ≡ c
pair_first a b c d e = ap (λ (p : ℕ × ℕ). p.0) e

pair_second : (a b c d : ℕ) → pair a b ≡ pair c d → b ≡ d
pair_second a b c d e = ap (λ (p : ℕ × ℕ). p.1) e

later : (x : EdgeCode) (edges : List EdgeCode) (from to : ℕ) → leads from to x ≡ false → IsFound edges from to → IsFound (x ∷ edges) from to
later x edges from to apart f = record {
  e = f.e;
  there = (suc f.there.0, (let within = f.there.1 in omega (arith, within)), f.there.2);
  starts = f.starts;
  goes = f.goes;
  is = ap (λ b. code_in (if b then Some x else find (λ e. (e.from == from) && (e.to == to)) edges)) apart ∙ f.is;
}

pub found : (edges : List EdgeCode) (from to : ℕ) → Contains (ends_of edges) (from, to) → IsFound edges from to
found [] from to (k, within, is) = absurd (omega (arith, within))
found (x ∷ edges) from to has = by (test_or_not (leads from to x)) (λ h. found edges from to h) has
  where
    by : (leads from to x ≡ true) ⊎ (leads from to x ≡ false) → (Contains (ends_of edges) (from, to) → IsFound edges from to) → Contains (ends_of (x ∷ edges)) (from, to) → IsFound (x ∷ edges) from to
    by (inl same) rest has =
        let both = both_true (x.from == from) (x.to == to) same in
        record {
          e = x;
          there = (0, omega arith, refl);
          starts = eqb-true x.from from both.0;
          goes = eqb-true x.to to both.1;
          is = ap (λ b. code_in (if b then Some x else find (λ e. (e.from == from) && (e.to == to)) edges)) same;
        }
    by (inr apart) rest (zero, within, is) =
        let yes : leads from to x ≡ true = ap (λ b. b && (x.to == to)) (eq-eqb x.from from (pair_first x.from x.to from to is)) ∙ eq-eqb x.to to (pair_second x.from x.to from to is) in
        absurd (cc)
    by (inr apart) rest (suc k, within, is) = later x edges from to apart (rest (k, omega (arith, within), is))

-- ---- the edges of a function

turned : (a b t : ℕ) → Contains (a ∷ b ∷ []) t → Contains (b ∷ a ∷ []) t
turned a b t (zero, within, is) = (1, omega arith, is)
turned a b t (suc zero, within, is) = (0, omega arith, is)
turned a b t (suc (suc k), within, is) = absurd (omega (arith, within))

rising_pair : (a b t : ℕ) (test : Bool) → Contains (a ∷ b ∷ []) t → Contains (if test then b ∷ a ∷ [] else a ∷ b ∷ []) t
rising_pair a b t true is = turned a b t is
rising_pair a b t false is = is

rising_has : (blocks : List ℕ) (t : ℕ) → Contains blocks t → Contains (sorted_targets blocks) t
rising_has [] t is = is
rising_has (a ∷ []) t is = is
rising_has (a ∷ b ∷ []) t is = rising_pair a b t (nat_lt b a) is
rising_has (a ∷ b ∷ c ∷ blocks) t is = is

pair_there : (from : ℕ) (ts : List ℕ) (to : ℕ) (rest : List (ℕ × ℕ)) → Contains ts to → Contains (edges_to from ts ++ rest) (from, to)
pair_there from [] to rest (k, within, is) = absurd (omega (arith, within))
pair_there from (t ∷ ts) to rest (zero, within, is) = (0, omega arith, ap (λ n. (from, n)) is)
pair_there from (t ∷ ts) to rest (suc k, within, is) = let i = pair_there from ts to rest (k, omega (arith, within), is) in let low = i.1 in (suc i.0, omega (arith, low), i.2)

pair_later : (from : ℕ) (ts : List ℕ) (rest : List (ℕ × ℕ)) (p : ℕ × ℕ) → Contains rest p → Contains (edges_to from ts ++ rest) p
pair_later from [] rest p has = has
pair_later from (t ∷ ts) rest p has = let i = pair_later from ts rest p has in let low = i.1 in (suc i.0, omega (arith, low), i.2)

pub edge_there : (start : ℕ) (blocks : List (List TempInsn)) (k from : ℕ) (insns : List TempInsn) (to : ℕ) → from ≡ start + k → slice_get blocks k ≡ Some insns → Contains (successors_of targets_of flows_on_of from insns) to → Contains (sorted_edges_from start blocks) (from, to)
edge_there start [] k from insns to e is has = absurd (cc)
edge_there start (b ∷ bs) zero from insns to e is has =
    let same : b ≡ insns = cc in
    let here : from ≡ start = omega (arith, e) in
    subst (λ s. Contains (edges_to s (sorted_targets (successors_of targets_of flows_on_of s b)) ++ sorted_edges_from (suc s) bs) (from, to)) here
    (pair_there from (sorted_targets (successors_of targets_of flows_on_of from b)) to (sorted_edges_from (suc from) bs)
    (rising_has (successors_of targets_of flows_on_of from b) to (subst (λ xs. Contains (successors_of targets_of flows_on_of from xs) to) (sym same) has)))
edge_there start (b ∷ bs) (suc k) from insns to e is has =
    pair_later start (sorted_targets (successors_of targets_of flows_on_of start b)) (sorted_edges_from (suc start) bs) (from, to)
    (edge_there (suc start) bs k from insns to (omega (arith, e)) is has)
