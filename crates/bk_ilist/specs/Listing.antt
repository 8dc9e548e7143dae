-- What contracts see of an `IndexList`.
use Rattle.std.specs.Prelude.{◌≡◌, ℕ, ◌+◌, ◌^◌, ◌<◌, List, [], ◌∷◌, ◌++◌, map, All, Option, Some, None, nat_eq, refl}
use Rattle.std.specs.List.{IsDistinct}
use Rattle.std.specs.Coded.{Coded, code_by, coded×, coded_ℕ, coded_list}

-- the items in order, each with its id; how many more fit without memory; how many ids were given so far
pub record Listing (T : Type 0) : Type 0 where
  pub pairs : List (ℕ × T)
  pub spare : ℕ
  pub made : ℕ

-- a listing is stored as the tuple of its fields
abbrev pub listing_code : {T : Type 0} → Coded T → Coded (Listing T)
listing_code {T} code =
    code_by
    (List (ℕ × T) × (ℕ × ℕ))
    (coded× (coded_list (coded× coded_ℕ code)) (coded× coded_ℕ coded_ℕ))
    (λ l. (l.pairs, (l.spare, l.made)))
    (λ p. record { pairs = p.0; spare = p.1.0; made = p.1.1 })
    (λ _. refl)

module _ {T : Type 0} where
  -- the ids in order
  abbrev pub ids : List (ℕ × T) → List ℕ
  ids pairs = map (λ p. p.0) pairs

  -- the items in order
  abbrev pub items : List (ℕ × T) → List T
  items pairs = map (λ p. p.1) pairs

  -- the id of the first pair, or another where there is none
  abbrev pub first_or : List (ℕ × T) → Option ℕ → Option ℕ
  first_or [] other = other
  first_or (p ∷ pairs) other = Some p.0

  -- the id of the last pair, or another where there is none
  abbrev pub last_or : List (ℕ × T) → Option ℕ → Option ℕ
  last_or [] other = other
  last_or (p ∷ pairs) other = last_or pairs (Some p.0)

  abbrev pub first_id : List (ℕ × T) → Option ℕ
  first_id pairs = first_or pairs None

  abbrev pub last_id : List (ℕ × T) → Option ℕ
  last_id pairs = last_or pairs None

  -- a pair of this id stands somewhere in the list
  pub record HasId (pairs : List (ℕ × T)) (id : ℕ) : Type 0 where
    pub before : List (ℕ × T)
    pub item : T
    pub after : List (ℕ × T)
    pub split : pairs ≡ before ++ (id, item) ∷ after

  -- what holds of the item of this id, and of the pairs before and behind it
  abbrev pub AtId : List (ℕ × T) → ℕ → (List (ℕ × T) → T → List (ℕ × T) → Type 0) → Type 0
  AtId pairs id P =
      (before after : List (ℕ × T)) (item : T) → pairs ≡ before ++ (id, item) ∷ after → P before item after

  -- what holds of every list: no id stands twice, each was given, and ids and room fit 32 bits
  pub record IsListing (list : Listing T) : Type 0 where
    pub distinct : IsDistinct nat_eq (ids list.pairs)
    pub given : All (λ id. id < list.made) (ids list.pairs)
    pub fits : list.made + list.spare < 2 ^ 32
