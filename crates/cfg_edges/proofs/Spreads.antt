-- How many edges lead to each block after some blocks were split, by the edges before.
use Rattle.std.proofs.Common.{◌≡◌, ℕ, suc, ◌+◌, ◌<◌, ◌≤◌, ◌⊎◌, Bool, cond, List, [], ◌∷◌, map, refl, sym, ap, ◌∙◌, inl, inr, arith}
use Rattle.std.specs.Prelude.{All}
use Rattle.std.proofs.lemmas.Bool.{cases_lt, eq-eqb}
use Rattle.std.proofs.lemmas.Bool.Decides.{eqb_tells}
use Rattle.std.proofs.lemmas.List.Elements.{All-nil, All-cons, All-head, All-tail}
use Rattle.cfg_edges.proofs.Counts.{hits, total}

hits_same : (d n : ℕ) (ns : List ℕ) → n ≡ d → hits d (n ∷ ns) ≡ suc (hits d ns)
hits_same d n ns is = ap (λ (b : Bool). cond b (suc (hits d ns)) (hits d ns)) (eq-eqb n d is)

hits_other : (d n : ℕ) (ns : List ℕ) → (n ≡ d → ⊥) → hits d (n ∷ ns) ≡ hits d ns
hits_other d n ns apart = elim (eqb_tells n d) [
  | inl same ↦ absurd (apart same.1)
  | inr other ↦ ap (λ (b : Bool). cond b (suc (hits d ns)) (hits d ns)) other.0
]

hits_two : (d a b : ℕ) → hits d (a ∷ b ∷ []) ≡ hits d (a ∷ []) + hits d (b ∷ [])
hits_two d a b = elim (eqb_tells a d) [
  | inl same ↦ omega (arith, hits_same d a (b ∷ []) same.1, hits_same d a [] same.1)
  | inr other ↦ omega (arith, hits_other d a (b ∷ []) other.1, hits_other d a [] other.1)
]

-- two blocks of which one at most is d
pair_most : (d a b : ℕ) → (a ≡ b → ⊥) → hits d (a ∷ b ∷ []) ≤ 1
pair_most d a b apart = elim (eqb_tells a d) [
  | inl same ↦ omega (arith, hits_same d a (b ∷ []) same.1, hits_other d b [] (λ is. apart (same.1 ∙ sym is)))
  | inr other ↦ elim (eqb_tells b d) [
    | inl same ↦ omega (arith, hits_other d a (b ∷ []) other.1, hits_same d b [] same.1)
    | inr none ↦ omega (arith, hits_other d a (b ∷ []) other.1, hits_other d b [] none.1)
  ]
]

pair_none : (d a b : ℕ) → (a ≡ d → ⊥) → (b ≡ d → ⊥) → hits d (a ∷ b ∷ []) ≡ 0
pair_none d a b one two = hits_other d a (b ∷ []) one ∙ hits_other d b [] two

total_more : (d : ℕ) (ns : List ℕ) (lists : List (List ℕ)) → total d (ns ∷ lists) ≡ hits d ns + total d lists
total_more d ns lists = refl

-- The followers of blocks after some were split, by those before: number is the new number of a block, and there are limit
-- blocks
pub data Spreads (number : ℕ → ℕ) (limit : ℕ) : ℕ → List (List ℕ) → List (List ℕ) → Type 0 where
  NoBlock : {n : ℕ} → Spreads number limit n [] []
  IsWhole : {n : ℕ} {before after : List (List ℕ)} (nexts new : List ℕ) → new ≡ map number nexts → All (λ t. t < limit) nexts → Spreads number limit (suc n) before after → Spreads number limit n (nexts ∷ before) (new ∷ after)
  IsCut : {n : ℕ} {before after : List (List ℕ)} (nexts new fall jump : List ℕ) (target next : ℕ) → nexts ≡ target ∷ next ∷ [] → new ≡ (number n + 2) ∷ suc (number n) ∷ [] → fall ≡ number next ∷ [] → jump ≡ number target ∷ [] → n < limit → target < limit → next < limit → number n + 3 ≤ number (suc n) → Spreads number limit (suc n) before after → Spreads number limit n (nexts ∷ before) (new ∷ fall ∷ jump ∷ after)

module _ (number : ℕ → ℕ) (limit : ℕ) (rises : (b t : ℕ) → b < t → t ≤ limit → number b < number t) where
  not_less : (b t : ℕ) → b ≤ t → t ≤ limit → number b ≤ number t
  not_less b t below within = elim (cases_lt b t) [
    | inl less ↦ omega (arith, rises b t less within)
    | inr rest ↦ let same : b ≡ t = omega arith in let is : number b ≡ number t = ap number same in omega (arith, is)
  ]

  same_block : (x t : ℕ) → x < limit → t < limit → number x ≡ number t → x ≡ t
  same_block x t below there is = elim (cases_lt x t) [
    | inl before ↦ absurd (omega (arith, is, rises x t before (omega arith)))
    | inr rest ↦ elim (cases_lt t x) [
      | inl behind ↦ absurd (omega (arith, is, rises t x behind (omega arith)))
      | inr done ↦ omega arith
    ]
  ]

  -- edges to a block that was there
  hits_kept : (t : ℕ) (ns : List ℕ) → t < limit → All (λ x. x < limit) ns → hits (number t) (map number ns) ≡ hits t ns
  hits_kept t [] there all = refl
  hits_kept t (x ∷ ns) there all =
      let rest : hits (number t) (map number ns) ≡ hits t ns = hits_kept t ns there (All-tail (λ x. x < limit) x ns all) in
      elim (eqb_tells x t) [
        | inl same ↦ hits_same (number t) (number x) (map number ns) (ap number same.1) ∙ ap suc rest ∙ sym (hits_same t x ns same.1)
        | inr other ↦ hits_other (number t) (number x) (map number ns) (λ is. other.1 (same_block x t (All-head (λ x. x < limit) x ns all) there is)) ∙ rest ∙ sym (hits_other t x ns other.1)
      ]

  single_kept : (t x : ℕ) → t < limit → x < limit → hits (number t) (number x ∷ []) ≡ hits t (x ∷ [])
  single_kept t x there below = hits_kept t (x ∷ []) there (All-cons (λ y. y < limit) x [] below (All-nil (λ y. y < limit)))

  -- no block that was there has the number of one of the new blocks behind another
  not_between : (n t : ℕ) → n < limit → t < limit → number n + 3 ≤ number (suc n) → (number t ≤ number n) ⊎ (number n + 3 ≤ number t)
  not_between n t below there gap = elim (cases_lt n t) [
    | inl later ↦ inr (omega (arith, gap, not_less (suc n) t (omega arith) (omega arith)))
    | inr before ↦ inl (not_less t n before (omega arith))
  ]

  far : (n t at : ℕ) → (number t ≤ number n) ⊎ (number n + 3 ≤ number t) → 0 < at → at < 3 → number n + at ≡ number t → ⊥
  far n t at (inl low) some most is = omega arith
  far n t at (inr high) some most is = omega arith

  -- no more edges lead to a block that was there than before
  pub kept_most : {n : ℕ} {before after : List (List ℕ)} (t : ℕ) → Spreads number limit n before after → t < limit → total (number t) after ≤ total t before
  kept_most t NoBlock there = omega arith
  kept_most t (IsWhole {before = before} {after = after} nexts new is all rest) there =
      omega (arith, ap (hits (number t)) is, hits_kept t nexts there all, kept_most t rest there, total_more (number t) new after, total_more t nexts before)
  kept_most t (IsCut {n = n} {before = before} {after = after} nexts new fall jump target next nexts_is new_is fall_is jump_is here target_there next_there gap rest) there =
      let apart = not_between n t here there gap in
      let none : hits (number t) ((number n + 2) ∷ suc (number n) ∷ []) ≡ 0 =
      pair_none (number t) (number n + 2) (suc (number n)) (λ is. far n t 2 apart (omega arith) (omega arith) is) (λ is. far n t 1 apart (omega arith) (omega arith) (omega (arith, is))) in
      omega (
        arith,
        ap (hits t) nexts_is,
        ap (hits (number t)) new_is,
        ap (hits (number t)) fall_is,
        ap (hits (number t)) jump_is,
        none,
        hits_two t target next,
        single_kept t target there target_there,
        single_kept t next there next_there,
        kept_most t rest there,
        total_more t nexts before,
        total_more (number t) new (fall ∷ jump ∷ after),
        total_more (number t) fall (jump ∷ after),
        total_more (number t) jump after,
      )

  -- the number d of a new block behind block b
  module _ (b d : ℕ) (inside : b < limit) (low : number b < d) (high : d < number (suc b)) where
    never : (x : ℕ) → x < limit → number x ≡ d → ⊥
    never x below is = elim (cases_lt b x) [
      | inl later ↦ omega (arith, not_less (suc b) x (omega arith) (omega arith))
      | inr before ↦ omega (arith, not_less x b before (omega arith))
    ]

    hits_none : (ns : List ℕ) → All (λ x. x < limit) ns → hits d (map number ns) ≡ 0
    hits_none [] all = refl
    hits_none (x ∷ ns) all =
        hits_other d (number x) (map number ns) (never x (All-head (λ x. x < limit) x ns all)) ∙ hits_none ns (All-tail (λ x. x < limit) x ns all)

    single_none : (x : ℕ) → x < limit → hits d (number x ∷ []) ≡ 0
    single_none x below = hits_other d (number x) [] (never x below)

    -- from behind that block on no edge leads there
    pub new_past : {n : ℕ} {before after : List (List ℕ)} → Spreads number limit n before after → b < n → total d after ≡ 0
    new_past NoBlock past = refl
    new_past (IsWhole {after = after} nexts new is all rest) past =
        omega (arith, ap (hits d) is, hits_none nexts all, new_past rest (omega arith), total_more d new after)
    new_past (IsCut {n = n} {after = after} nexts new fall jump target next nexts_is new_is fall_is jump_is here target_there next_there gap rest) past =
        let behind : number (suc b) ≤ number n = not_less (suc b) n (omega arith) (omega arith) in
        omega (
          arith,
          ap (hits d) new_is,
          ap (hits d) fall_is,
          ap (hits d) jump_is,
          pair_none d (number n + 2) (suc (number n)) (λ is. omega arith) (λ is. omega arith),
          single_none target target_there,
          single_none next next_there,
          new_past rest (omega arith),
          total_more d new (fall ∷ jump ∷ after),
          total_more d fall (jump ∷ after),
          total_more d jump after,
        )

    -- one edge at most leads there
    pub new_once : {n : ℕ} {before after : List (List ℕ)} → Spreads number limit n before after → n ≤ b → total d after ≤ 1
    new_once NoBlock reached = omega arith
    new_once (IsWhole {n = n} {after = after} nexts new is all rest) reached = elim (cases_lt n b) [
      | inl more ↦ omega (arith, ap (hits d) is, hits_none nexts all, new_once rest (omega arith), total_more d new after)
      | inr last ↦ omega (arith, ap (hits d) is, hits_none nexts all, new_past rest (omega arith), total_more d new after)
    ]
    new_once (IsCut {n = n} {after = after} nexts new fall jump target next nexts_is new_is fall_is jump_is here target_there next_there gap rest) reached = elim (cases_lt n b) [
      | inl more ↦
          let before_it : number (suc n) ≤ number b = not_less (suc n) b (omega arith) (omega arith) in
          omega (
            arith,
            ap (hits d) new_is,
            ap (hits d) fall_is,
            ap (hits d) jump_is,
            pair_none d (number n + 2) (suc (number n)) (λ is. omega arith) (λ is. omega arith),
            single_none target target_there,
            single_none next next_there,
            new_once rest (omega arith),
            total_more d new (fall ∷ jump ∷ after),
            total_more d fall (jump ∷ after),
            total_more d jump after,
          )
      | inr last ↦
          omega (
            arith,
            ap (hits d) new_is,
            ap (hits d) fall_is,
            ap (hits d) jump_is,
            pair_most d (number n + 2) (suc (number n)) (λ is. omega arith),
            single_none target target_there,
            single_none next next_there,
            new_past rest (omega arith),
            total_more d new (fall ∷ jump ∷ after),
            total_more d fall (jump ∷ after),
            total_more d jump after,
          )
    ]
