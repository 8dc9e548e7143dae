-- An instruction that is put before the others.
use Rattle.std.proofs.Common.{◌≡◌, ℕ, List, [], ◌∷◌, ◌++◌, Option, Some, sym, ap, ◌∙◌}
use Rattle.std.proofs.lemmas.Option.{none-some, same_Some}
use Rattle.bk_ilist.specs.Listing.{items, first_id, HasId, AtId}

pub first_there : {T : Type 0} (pairs : List (ℕ × T)) (o : Option ℕ) (id : ℕ) → o ≡ first_id pairs → o ≡ Some id → HasId pairs id
first_there [] o id first is = absurd (none-some id (sym first ∙ is))
first_there (p ∷ pairs) o id first is = record {
  before = [];
  item = p.1;
  after = pairs;
  split = ap (λ n. (n, p.1) ∷ pairs) (same_Some p.0 id (sym first ∙ is));
}

pub front_put : {T : Type 0} (pairs new : List (ℕ × T)) (o : Option ℕ) (id made : ℕ) (insn : T) → o ≡ first_id pairs → o ≡ Some id →
    AtId pairs id (λ before other after. new ≡ before ++ (made, insn) ∷ (id, other) ∷ after) → items new ≡ insn ∷ items pairs
front_put [] new o id made insn first is put = absurd (none-some id (sym first ∙ is))
front_put (p ∷ pairs) new o id made insn first is put =
    let same = same_Some p.0 id (sym first ∙ is) in
    ap items (put [] pairs p.1 (ap (λ n. (n, p.1) ∷ pairs) same))
