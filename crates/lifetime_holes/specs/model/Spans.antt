-- The parts of a lifetime and its references so far, by tests for the points at which a temporary is present and named.
use Rattle.std.specs.Prelude.{◌≡◌, ℕ, suc, ◌<◌, ◌≤◌, max, Bool, true, false, List, [], ◌∷◌, ◌++◌, length, slice_get, slice_index_or, Contains, Some}
use Rattle.alloc_rules.specs.declared.scan.LifetimePart.{LifetimePart}

abbrev pub span : (first last : ℕ) → LifetimePart
span first last = record { first = first; last = last }

-- the greatest ranges of points below an end that pass a test, in order, and the point behind the last of them
pub data Spans (test : ℕ → Bool) : (end behind : ℕ) → List LifetimePart → Type 0 where
  NoSpan : {end : ℕ} {zs : List LifetimePart} → zs ≡ [] → ((q : ℕ) → q < end → test q ≡ false) → Spans test end 0 zs
  SpanBehind : {end : ℕ} {zs : List LifetimePart} → (xs : List LifetimePart) (x : LifetimePart) (b : ℕ) →
      zs ≡ xs ++ x ∷ [] → Spans test x.first b xs → x.first ≤ x.last → x.last < end →
      ((q : ℕ) → suc q ≡ x.first → test q ≡ false) →
      ((q : ℕ) → x.first ≤ q → q ≤ x.last → test q ≡ true) →
      ((q : ℕ) → x.last < q → q < end → test q ≡ false) → Spans test end (suc x.last) zs

pub record HasSpans (test : ℕ → Bool) (end : ℕ) (zs : List LifetimePart) : Type 0 where
  pub behind : ℕ
  pub spans : Spans test end behind zs

-- In a block that begins at a point, before another point: the ranges up to the last reference there, and all points
-- since then pass the test or none does
pub record Stands (test : ℕ → Bool) (start point : ℕ) (live : Bool) (zs : List LifetimePart) : Type 0 where
  pub behind : ℕ
  pub from : ℕ
  pub spans : Spans test from behind zs
  pub from_is : from ≡ max behind start
  pub reached : from ≤ point
  pub since : (q : ℕ) → from ≤ q → q < point → test q ≡ live

-- the points below an end that pass a test, in order
pub record Points (test : ℕ → Bool) (end : ℕ) (zs : List ℕ) : Type 0 where
  pub only : (k q : ℕ) → slice_get zs k ≡ Some q → (q < end) × (test q ≡ true)
  pub all : (q : ℕ) → q < end → test q ≡ true → Contains zs q
  pub rise : (k a b : ℕ) → slice_get zs k ≡ Some a → slice_get zs (suc k) ≡ Some b → a < b

-- ---- what is put behind

-- a range is put behind others, and joined to the last of them where that reaches it
pub data Joins (first last : ℕ) (old new : List LifetimePart) : Type 0 where
  Begins : old ≡ [] → new ≡ span first last ∷ [] → Joins first last old new
  Extends : (xs : List LifetimePart) (x : LifetimePart) → old ≡ xs ++ x ∷ [] → first ≤ suc x.last →
      new ≡ xs ++ span x.first last ∷ [] → Joins first last old new
  Follows : (xs : List LifetimePart) (x : LifetimePart) → old ≡ xs ++ x ∷ [] → suc x.last < first →
      new ≡ (xs ++ x ∷ []) ++ span first last ∷ [] → Joins first last old new

-- once or more often
pub data JoinsSome (first last : ℕ) (old : List LifetimePart) : (new : List LifetimePart) → Type 0 where
  Once : {new : List LifetimePart} → Joins first last old new → JoinsSome first last old new
  Again : {new : List LifetimePart} → (mid : List LifetimePart) → JoinsSome first last old mid →
      Joins first last mid new → JoinsSome first last old new

-- a point is put behind others, unless it is the last of them
pub data Puts (point : ℕ) (old new : List ℕ) : Type 0 where
  IsPut : ((xs : List ℕ) → ¬ (old ≡ xs ++ point ∷ [])) → new ≡ old ++ point ∷ [] → Puts point old new
  IsThere : (xs : List ℕ) → old ≡ xs ++ point ∷ [] → new ≡ old → Puts point old new

-- a list is changed so or it stays, as a truth value says
abbrev pub Marked : {A : Type 0} → (is_named : Bool) → (R : List A → List A → Type 0) → (old new : List A) → Type 0
Marked true R old new = R old new
Marked false R old new = new ≡ old

abbrev pub list_at : {A : Type 0} → List (List A) → (t : ℕ) → List A
list_at table t = slice_index_or table t []

-- in a table, the lists of those temporaries that are named are changed so, and the others stay
pub record Changes {A : Type 0} (named : ℕ → Bool) (R : List A → List A → Type 0) (old new : List (List A)) : Type 0 where
  pub as_many : length new ≡ length old
  pub each : (t : ℕ) → t < length old → Marked (named t) R (list_at old t) (list_at new t)
