-- The slots of a table, by the blocks in use.
use Rattle.std.proofs.Common.{◌≡◌, ◌≢◌, ℕ, zero, suc, ◌+◌, ◌-◌, ◌*◌, ◌/◌, ◌%◌, ◌<◌, ◌≤◌, List, [], ◌∷◌, ◌++◌, length, get_or, set, replicate, refl, sym, ap, ◌∙◌, subst, arith, length-set, length-append, inl, inr}
use Rattle.std.proofs.lemmas.Bool.{cases_eq, cases_lt}
use Rattle.std.proofs.lemmas.List.{ext_get_or, get_or-set_same, get_or-set_other, get_or-replicate, length-replicate, get_or_past, get_or_append_left, get_or-append_right}
use Rattle.std.proofs.lemmas.List.FromFn.{length-map-range_with_len, get_or-map-range_with_len}
use Rattle.mem_model.specs.model.Table.{no_pointer, pointer_at, pointer_of_rank, table_of, free_blocks, IsTable}
use Rattle.mem_model.specs.declared.value.Ptr.{Ptr}

pub length-table : (ranks : List ℕ) (ps : List Ptr) → length (table_of ranks ps) ≡ 8 * length ranks
unfolding table_of
length-table ranks ps = length-map-range_with_len _ 0 (8 * length ranks)

get_or-table : (ranks : List ℕ) (ps : List Ptr) (j : ℕ) → j < 8 * length ranks → get_or (table_of ranks ps) j no_pointer ≡ pointer_of_rank ps (get_or ranks (j / 8) 0) (j % 8)
unfolding table_of
get_or-table ranks ps j within =
    get_or-map-range_with_len (λ slot. pointer_of_rank ps (get_or ranks (slot / 8) 0) (slot % 8)) 0 (8 * length ranks) j j no_pointer within (omega arith)

pub pointer_at-table : (ranks : List ℕ) (ps : List Ptr) (j : ℕ) → pointer_at (table_of ranks ps) j ≡ pointer_of_rank ps (get_or ranks (j / 8) 0) (j % 8)
pointer_at-table ranks ps j = elim (cases_lt j (8 * length ranks)) [
  | inl within ↦ get_or-table ranks ps j within
  | inr past ↦ get_or_past (table_of ranks ps) j no_pointer (omega (arith, length-table ranks ps))
      ∙ sym (ap (λ r. pointer_of_rank ps r (j % 8)) (get_or_past ranks (j / 8) 0 (omega arith)))
]

-- the pointer of a rank that is not 0
pub pointer_of_rank-some : (ps : List Ptr) (rank k : ℕ) → rank ≢ 0 → pointer_of_rank ps rank k ≡ pointer_at ps (8 * (rank - 1) + k)
pointer_of_rank-some ps zero k some = absurd (some refl)
pointer_of_rank-some ps (suc i) k some = let e : suc i - 1 ≡ i = omega arith in ap (λ n. pointer_at ps (8 * n + k)) (sym e)

pub pointer_of_rank-none : (ps : List Ptr) (rank k : ℕ) → rank ≡ 0 → pointer_of_rank ps rank k ≡ no_pointer
pointer_of_rank-none ps rank k none = ap (λ r. pointer_of_rank ps r k) none

-- two tables with the same slots
same_table : (xs ys : List ℕ) (ps qs : List Ptr) → length xs ≡ length ys → ((j : ℕ) → pointer_of_rank ps (get_or xs (j / 8) 0) (j % 8) ≡ pointer_of_rank qs (get_or ys (j / 8) 0) (j % 8)) → table_of xs ps ≡ table_of ys qs
same_table xs ys ps qs len each =
    ext_get_or no_pointer (table_of xs ps) (table_of ys qs) (length-table xs ps ∙ ap (λ n. 8 * n) len ∙ sym (length-table ys qs))
    (λ j h. pointer_at-table xs ps j ∙ each j ∙ sym (pointer_at-table ys qs j))

-- a block that comes into use
module _ (ranks : List ℕ) (ps : List Ptr) (block rank : ℕ) (table : IsTable ranks ps) (within : block < length ranks) (free : get_or ranks block 0 ≡ 0) (is : 8 * rank ≡ length ps + 8) where
  more : List Ptr
  more = ps ++ replicate 8 no_pointer

  here : get_or (set ranks block rank) block 0 ≡ rank
  here = get_or-set_same ranks block rank 0 within

  other : (b : ℕ) → b ≢ block → get_or (set ranks block rank) b 0 ≡ get_or ranks b 0
  other b ne = get_or-set_other ranks block b rank 0 ne

  -- what stood there stands there
  old_slot : (r k : ℕ) → 8 * r ≤ length ps → k < 8 → pointer_of_rank (ps ++ replicate 8 no_pointer) r k ≡ pointer_of_rank ps r k
  old_slot zero k small low = refl
  old_slot (suc i) k small low = get_or_append_left ps (replicate 8 no_pointer) no_pointer (8 * i + k) (omega arith)

  new_slot : (r k : ℕ) → 8 * r ≡ length ps + 8 → k < 8 → pointer_of_rank (ps ++ replicate 8 no_pointer) r k ≡ no_pointer
  new_slot zero k e low = refl
  new_slot (suc i) k e low =
      get_or-append_right ps (replicate 8 no_pointer) (length ps) (8 * i + k) no_pointer refl (omega arith)
      ∙ get_or-replicate 8 (8 * i + k - length ps) no_pointer no_pointer (omega arith)

  slot_same : (j : ℕ) → pointer_of_rank (ps ++ replicate 8 no_pointer) (get_or (set ranks block rank) (j / 8) 0) (j % 8) ≡ pointer_of_rank ps (get_or ranks (j / 8) 0) (j % 8)
  slot_same j = elim (cases_eq (j / 8) block) [
    | inl e ↦ ap (λ b. pointer_of_rank (ps ++ replicate 8 no_pointer) (get_or (set ranks block rank) b 0) (j % 8)) e
        ∙ ap (λ r. pointer_of_rank (ps ++ replicate 8 no_pointer) r (j % 8)) here ∙ new_slot rank (j % 8) is (omega arith)
        ∙ sym (ap (λ b. pointer_of_rank ps (get_or ranks b 0) (j % 8)) e ∙ ap (λ r. pointer_of_rank ps r (j % 8)) free)
    | inr ne ↦ ap (λ r. pointer_of_rank (ps ++ replicate 8 no_pointer) r (j % 8)) (other (j / 8) ne) ∙ old_slot (get_or ranks (j / 8) 0) (j % 8) (table.within (j / 8)) (omega arith)
  ]

  pub use_block-same : table_of (set ranks block rank) (ps ++ replicate 8 no_pointer) ≡ table_of ranks ps
  use_block-same = same_table (set ranks block rank) ranks (ps ++ replicate 8 no_pointer) ps (length-set ranks block rank) slot_same

  len : length (ps ++ replicate 8 no_pointer) ≡ length ps + 8
  len = length-append ps (replicate 8 no_pointer)

  -- no rank before was the new one
  new_rank : (b : ℕ) → get_or ranks b 0 ≡ rank → ⊥
  new_rank b e = let small = table.within b in omega arith

  apart-use : (b c : ℕ) → b ≢ c → get_or (set ranks block rank) b 0 ≡ get_or (set ranks block rank) c 0 → get_or (set ranks block rank) b 0 ≡ 0
  apart-use b c ne e = elim (cases_eq b block) [
    | inl at_b ↦ let c_other : c ≢ block = λ h. ne (at_b ∙ sym h) in
        absurd (new_rank c (sym (other c c_other) ∙ sym e ∙ ap (λ n. get_or (set ranks block rank) n 0) at_b ∙ here))
    | inr b_other ↦ elim (cases_eq c block) [
      | inl at_c ↦ absurd (new_rank b (sym (other b b_other) ∙ e ∙ ap (λ n. get_or (set ranks block rank) n 0) at_c ∙ here))
      | inr c_other ↦ other b b_other ∙ table.apart b c ne (sym (other b b_other) ∙ e ∙ other c c_other)
    ]
  ]

  within-use : (b : ℕ) → 8 * get_or (set ranks block rank) b 0 ≤ length (ps ++ replicate 8 no_pointer)
  within-use b = elim (cases_eq b block) [
    | inl e ↦ let r : get_or (set ranks block rank) b 0 ≡ rank = ap (λ n. get_or (set ranks block rank) n 0) e ∙ here in omega (arith, len)
    | inr ne ↦ let r = other b ne in let small = table.within b in omega (arith, len)
  ]

  pub use_block-table : IsTable (set ranks block rank) (ps ++ replicate 8 no_pointer)
  use_block-table = record { whole = let w = table.whole in omega (arith, len); within = within-use; apart = apart-use }

-- one block fewer is free
pub free_blocks-set : (ranks : List ℕ) (block rank : ℕ) → block < length ranks → get_or ranks block 0 ≡ 0 → 0 < rank → free_blocks (set ranks block rank) + 1 ≡ free_blocks ranks
free_blocks-set [] block rank within free some = absurd (omega arith)
free_blocks-set (zero ∷ ranks) zero zero within free some = absurd (omega arith)
free_blocks-set (zero ∷ ranks) zero (suc r) within free some = omega arith
free_blocks-set (suc x ∷ ranks) zero rank within free some = absurd (cc)
free_blocks-set (zero ∷ ranks) (suc block) rank within free some = let rest = free_blocks-set ranks block rank (omega arith) free some in omega arith
free_blocks-set (suc x ∷ ranks) (suc block) rank within free some = free_blocks-set ranks block rank (omega arith) free some

pub free_blocks-none : (blocks : ℕ) → free_blocks (replicate blocks 0) ≡ blocks
free_blocks-none zero = refl
free_blocks-none (suc blocks) = ap suc (free_blocks-none blocks)

-- a pointer that is put into a slot of a block in use
module _ (ranks : List ℕ) (ps : List Ptr) (slot at : ℕ) (pointer : Ptr) (table : IsTable ranks ps) (used : get_or ranks (slot / 8) 0 ≢ 0) (is : at ≡ 8 * (get_or ranks (slot / 8) 0 - 1) + slot % 8) where
  pub at-within : at < length ps
  at-within = let small = table.within (slot / 8) in omega arith

  -- another slot has another place
  other_place : (j : ℕ) → j ≢ slot → get_or ranks (j / 8) 0 ≢ 0 → 8 * (get_or ranks (j / 8) 0 - 1) + j % 8 ≢ at
  other_place j ne some e = elim (cases_eq (j / 8) (slot / 8)) [
    | inl same ↦ let r : get_or ranks (j / 8) 0 ≡ get_or ranks (slot / 8) 0 = ap (λ b. get_or ranks b 0) same in ne (omega arith)
    | inr differ ↦ elim (cases_eq (get_or ranks (j / 8) 0) (get_or ranks (slot / 8) 0)) [
      | inl r ↦ some (table.apart (j / 8) (slot / 8) differ r)
      | inr r ↦ absurd (omega arith)
    ]
  ]

  put_other : (j : ℕ) → j ≢ slot → pointer_of_rank (set ps at pointer) (get_or ranks (j / 8) 0) (j % 8) ≡ pointer_of_rank ps (get_or ranks (j / 8) 0) (j % 8)
  put_other j ne = elim (cases_eq (get_or ranks (j / 8) 0) 0) [
    | inl none ↦ pointer_of_rank-none (set ps at pointer) (get_or ranks (j / 8) 0) (j % 8) none ∙ sym (pointer_of_rank-none ps (get_or ranks (j / 8) 0) (j % 8) none)
    | inr some ↦ pointer_of_rank-some (set ps at pointer) (get_or ranks (j / 8) 0) (j % 8) some
        ∙ get_or-set_other ps at (8 * (get_or ranks (j / 8) 0 - 1) + j % 8) pointer no_pointer (other_place j ne some)
        ∙ sym (pointer_of_rank-some ps (get_or ranks (j / 8) 0) (j % 8) some)
  ]

  put_here : pointer_of_rank (set ps at pointer) (get_or ranks (slot / 8) 0) (slot % 8) ≡ pointer
  put_here =
      pointer_of_rank-some (set ps at pointer) (get_or ranks (slot / 8) 0) (slot % 8) used
      ∙ ap (λ n. get_or (set ps at pointer) n no_pointer) (sym is) ∙ get_or-set_same ps at pointer no_pointer at-within

  pub put_slot-value : slot < 8 * length ranks → table_of ranks (set ps at pointer) ≡ set (table_of ranks ps) slot pointer
  put_slot-value within =
      ext_get_or no_pointer (table_of ranks (set ps at pointer)) (set (table_of ranks ps) slot pointer)
      (length-table ranks (set ps at pointer) ∙ sym (length-table ranks ps) ∙ sym (length-set (table_of ranks ps) slot pointer))
      (λ j h. elim (cases_eq j slot) [
        | inl e ↦ ap (λ n. pointer_at (table_of ranks (set ps at pointer)) n) e ∙ pointer_at-table ranks (set ps at pointer) slot ∙ put_here
            ∙ sym (ap (λ n. pointer_at (set (table_of ranks ps) slot pointer) n) e ∙ get_or-set_same (table_of ranks ps) slot pointer no_pointer (omega (arith, length-table ranks ps)))
        | inr ne ↦ pointer_at-table ranks (set ps at pointer) j ∙ put_other j ne ∙ sym (pointer_at-table ranks ps j)
            ∙ sym (get_or-set_other (table_of ranks ps) slot j pointer no_pointer ne)
      ])

  pub put_slot-table : IsTable ranks (set ps at pointer)
  put_slot-table = record {
    whole = ap (λ n. n % 8) (length-set ps at pointer) ∙ table.whole;
    within = λ b. subst (λ n. 8 * get_or ranks b 0 ≤ n) (sym (length-set ps at pointer)) (table.within b);
    apart = table.apart;
  }

-- tables of no block in use
pub table-fresh : (ranks : List ℕ) (ps : List Ptr) (blocks : ℕ) → ranks ≡ replicate blocks 0 → table_of ranks ps ≡ replicate (8 * blocks) no_pointer
table-fresh ranks ps blocks is =
    ext_get_or no_pointer (table_of ranks ps) (replicate (8 * blocks) no_pointer)
    (length-table ranks ps ∙ ap (λ n. 8 * n) (ap length is ∙ length-replicate blocks 0) ∙ sym (length-replicate (8 * blocks) no_pointer))
    (λ j h. pointer_at-table ranks ps j ∙ pointer_of_rank-none ps (get_or ranks (j / 8) 0) (j % 8) (rank j) ∙ sym (get_or-replicate (8 * blocks) j no_pointer no_pointer (small j h)))
  where
    len : length ranks ≡ blocks
    len = ap length is ∙ length-replicate blocks 0

    small : (j : ℕ) → j < length (table_of ranks ps) → j < 8 * blocks
    small j h = omega (arith, length-table ranks ps, len)

    rank : (j : ℕ) → get_or ranks (j / 8) 0 ≡ 0
    rank j = elim (cases_lt (j / 8) blocks) [
      | inl within ↦ ap (λ l. get_or l (j / 8) 0) is ∙ get_or-replicate blocks (j / 8) 0 0 within
      | inr past ↦ get_or_past ranks (j / 8) 0 (omega (arith, len))
    ]

pub table-none : (ranks : List ℕ) (ps : List Ptr) → ranks ≡ [] → table_of ranks ps ≡ []
unfolding table_of
table-none ranks ps e = ap (λ l. table_of l ps) e

pub is_table-fresh : (ranks : List ℕ) (ps : List Ptr) (blocks : ℕ) → ranks ≡ replicate blocks 0 → ps ≡ [] → IsTable ranks ps
is_table-fresh ranks ps blocks is none = record {
  whole = ap (λ (l : List Ptr). length l % 8) none;
  within = λ b. let r = rank b in omega arith;
  apart = λ b c ne e. rank b;
}
  where
    rank : (b : ℕ) → get_or ranks b 0 ≡ 0
    rank b = elim (cases_lt b blocks) [
      | inl within ↦ ap (λ l. get_or l b 0) is ∙ get_or-replicate blocks b 0 0 within
      | inr past ↦ get_or_past ranks b 0 (let len : length ranks ≡ blocks = ap length is ∙ length-replicate blocks 0 in omega (arith, len))
    ]

-- what was put into a table stands there, and nothing else is changed
pub put-there : (ps qs : List Ptr) (slot : ℕ) (pointer : Ptr) → qs ≡ set ps slot pointer → slot < length ps → pointer_at qs slot ≡ pointer
put-there ps qs slot pointer is within = ap (λ l. pointer_at l slot) is ∙ get_or-set_same ps slot pointer no_pointer within

pub put-others : (ps qs : List Ptr) (slot : ℕ) (pointer : Ptr) → qs ≡ set ps slot pointer → (s : ℕ) → s ≢ slot → pointer_at qs s ≡ pointer_at ps s
put-others ps qs slot pointer is s ne = ap (λ l. pointer_at l s) is ∙ get_or-set_other ps slot s pointer no_pointer ne

pub free_blocks-some : (ranks : List ℕ) (block : ℕ) → block < length ranks → get_or ranks block 0 ≡ 0 → 0 < free_blocks ranks
free_blocks-some ranks block within free = let e = free_blocks-set ranks block 1 within free (omega arith) in omega arith

pub length-more : (ps qs : List Ptr) (made : ℕ) → qs ≡ ps ++ replicate made no_pointer → length qs ≡ length ps + made
length-more ps qs made is = ap length is ∙ length-append ps (replicate made no_pointer) ∙ ap (λ n. length ps + n) (length-replicate made no_pointer)

-- the table once the pointers of a block are all there
pub use_block-done : (ranks : List ℕ) (ps qs : List Ptr) (block rank made : ℕ) → IsTable ranks ps → block < length ranks → get_or ranks block 0 ≡ 0 → qs ≡ ps ++ replicate made no_pointer → made ≡ 8 → rank ≡ length qs / 8 →
    table_of (set ranks block rank) qs ≡ table_of ranks ps
use_block-done ranks ps qs block rank made table within free is eight rank_is =
    let whole = table.whole in
    let len = length-more ps qs made is in
    ap (table_of (set ranks block rank)) (is ∙ ap (λ n. ps ++ replicate n no_pointer) eight)
    ∙ use_block-same ranks ps block rank table within free (omega arith)
