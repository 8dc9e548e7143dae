-- How many edges lead to a block, as a sum over the lists of followers.
use Rattle.std.proofs.Common.{◌≡◌, ℕ, suc, ◌+◌, ◌≤◌, Bool, true, false, cond, eqb, List, [], ◌∷◌, ◌++◌, map, length, refl, ap, ◌∙◌, inl, inr, arith, length-append}
use Rattle.std.specs.Prelude.{filter}
use Rattle.std.proofs.lemmas.Bool.Decides.{eqb_tells}
use Rattle.std.proofs.lemmas.Bool.{eq-eqb}
use Rattle.std.proofs.lemmas.List.Elements.{filter-append}
use Rattle.cfg.specs.Edges.{edges_to, edges_from}
use Rattle.cfg_edges.specs.Critical.{count_to}
use Rattle.cfg.proofs.Bare.{length-map}

abbrev pub hits : ℕ → List ℕ → ℕ
hits d [] = 0
hits d (n ∷ ns) = cond (eqb n d) (suc (hits d ns)) (hits d ns)

abbrev pub total : ℕ → List (List ℕ) → ℕ
total d [] = 0
total d (ns ∷ rest) = hits d ns + total d rest

hits_of : (n d : ℕ) (ns : List ℕ) → length (filter (λ (e : ℕ × ℕ). eqb e.1 d) (edges_to n ns)) ≡ hits d ns
hits_of n d [] = refl
hits_of n d (x ∷ ns) = one (eqb x d) (filter (λ (e : ℕ × ℕ). eqb e.1 d) (edges_to n ns)) (hits_of n d ns)
  where
    one : (b : Bool) (es : List (ℕ × ℕ)) → length es ≡ hits d ns → length (cond b ((n, x) ∷ es) es) ≡ cond b (suc (hits d ns)) (hits d ns)
    one true es is = ap suc is
    one false es is = is

total_of : (n d : ℕ) (lists : List (List ℕ)) → length (filter (λ (e : ℕ × ℕ). eqb e.1 d) (edges_from n lists)) ≡ total d lists
total_of n d [] = refl
total_of n d (ns ∷ lists) =
    ap length (filter-append (λ (e : ℕ × ℕ). eqb e.1 d) (edges_to n ns) (edges_from (suc n) lists))
    ∙ omega (arith, length-append (filter (λ (e : ℕ × ℕ). eqb e.1 d) (edges_to n ns)) (filter (λ (e : ℕ × ℕ). eqb e.1 d) (edges_from (suc n) lists)), hits_of n d ns, total_of (suc n) d lists)

pub count_is : (lists : List (List ℕ)) (d : ℕ) → count_to lists d ≡ total d lists
count_is lists d = length-map (λ (e : ℕ × ℕ). e.0) (filter (λ (e : ℕ × ℕ). eqb e.1 d) (edges_from 0 lists)) ∙ total_of 0 d lists

pub total_append : (d : ℕ) (a b : List (List ℕ)) → total d (a ++ b) ≡ total d a + total d b
total_append d [] b = let none : total d b ≡ 0 + total d b = omega arith in none
total_append d (x ∷ a) b = omega (arith, total_append d a b)

either_more : (there here : Bool) (a b : ℕ) → a ≤ b → (there ≡ true → here ≡ true) → cond there (suc a) a ≤ cond here (suc b) b
either_more true true a b less tells = omega arith
either_more true false a b less tells = let clash : ⊥ = (let is = tells refl in cc) in absurd clash
either_more false true a b less tells = omega arith
either_more false false a b less tells = less

same_eqb : (x y : ℕ) → eqb x y ≡ true → x ≡ y
same_eqb x y is = elim (eqb_tells x y) [
  | inl same ↦ same.1
  | inr other ↦ let clash : ⊥ = (let no = other.0 in cc) in absurd clash
]

-- a renumbering under which no other block gets the number of one
pub hits_fewer : (number : ℕ → ℕ) (t : ℕ) (ns : List ℕ) → ((x : ℕ) → number x ≡ number t → x ≡ t) → hits (number t) (map number ns) ≤ hits t ns
hits_fewer number t [] alone = omega arith
hits_fewer number t (x ∷ ns) alone =
    either_more (eqb (number x) (number t)) (eqb x t) (hits (number t) (map number ns)) (hits t ns) (hits_fewer number t ns alone)
    (λ is. eq-eqb x t (alone x (same_eqb (number x) (number t) is)))

-- a block that has the number of none is gone to by none
pub hits_none : (number : ℕ → ℕ) (d : ℕ) (ns : List ℕ) → ((x : ℕ) → eqb (number x) d ≡ false) → hits d (map number ns) ≡ 0
hits_none number d [] never = refl
hits_none number d (x ∷ ns) never =
    ap (λ b. cond b (suc (hits d (map number ns))) (hits d (map number ns))) (never x) ∙ hits_none number d ns never
