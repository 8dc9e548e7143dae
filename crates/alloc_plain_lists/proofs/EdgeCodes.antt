-- The code of each edge.
use Rattle.std.proofs.Common.{◌≡◌, ◌≢◌, ℕ, zero, suc, ◌+◌, ◌==◌, ◌&&◌, List, [], ◌∷◌, ◌++◌, Bool, true, false, Some, if◌then◌else◌, refl, sym, ap, ◌∙◌, subst, ⊎_elim, map, arith}
use Rattle.std.specs.Prelude.{Contains, slice_get, find, nat_lt}
use Rattle.std.proofs.lemmas.Bool.{eqb-true, eq-eqb}
use Rattle.std.proofs.lemmas.List.{map-append}
use Rattle.std.proofs.lemmas.Option.{none-some, same_Some}
use Rattle.pass_core.specs.Functions.{last_of, successors_of}
use Rattle.temp_ir.specs.declared.insn.TempInsn.{TempInsn}
use Rattle.temp_ir.specs.Insns.{targets_of, flows_on_of}
use Rattle.alloc_model.specs.declared.allocation.EdgeCode.{EdgeCode}
use Rattle.alloc_model.specs.declared.allocation.Transfer.{Transfer}
use Rattle.alloc_model.specs.Places.{code_in}
use Rattle.alloc_model.specs.Faithful.{sorted_targets, sorted_edges_from}
use Rattle.alloc_plain_lists.specs.Plain.{stores_behind, edge_code, edges_behind, all_edges}
use Rattle.alloc_plain_lists.proofs.Sets.{test_or_not}

abbrev leads : (from to : ℕ) → EdgeCode → Bool
leads from to e = (e.from == from) && (e.to == to)

not_same : (a b : ℕ) → a ≢ b → (a == b) ≡ false
not_same a b ne = ⊎_elim (λ e. absurd (ne (eqb-true a b e))) (λ e. e) (test_or_not (a == b))

others_pass : (b : ℕ) (code : List Transfer) (ts : List ℕ) (rest : List EdgeCode) (from to : ℕ) → b ≢ from → find (leads from to) (map (edge_code b code) ts ++ rest) ≡ find (leads from to) rest
others_pass b code [] rest from to ne = refl
others_pass b code (t ∷ ts) rest from to ne =
    ap (λ test. if test && (t == to) then Some (edge_code b code t) else find (leads from to) (map (edge_code b code) ts ++ rest)) (not_same b from ne)
    ∙ others_pass b code ts rest from to ne

module _ (from : ℕ) (code : List Transfer) (t : ℕ) (ts : List ℕ) (rest : List EdgeCode) (to : ℕ)
    (further : Contains ts to → code_in (find (leads from to) (map (edge_code from code) ts ++ rest)) ≡ code) where
  left : (t == to) ≡ false → Contains (t ∷ ts) to → Contains ts to
  left e (zero, within, is) = let clash = eq-eqb t to is in absurd (cc)
  left e (suc k, within, is) = (k, omega (arith, within), is)

  here_or_further : Contains (t ∷ ts) to → code_in (find (leads from to) (map (edge_code from code) (t ∷ ts) ++ rest)) ≡ code
  here_or_further has =
      ap (λ test. code_in (if test && (t == to) then Some (edge_code from code t) else find (leads from to) (map (edge_code from code) ts ++ rest))) (eq-eqb from from refl)
      ∙ ⊎_elim
      (λ e. ap (λ test. code_in (if test then Some (edge_code from code t) else find (leads from to) (map (edge_code from code) ts ++ rest))) e)
      (λ e. ap (λ test. code_in (if test then Some (edge_code from code t) else find (leads from to) (map (edge_code from code) ts ++ rest))) e ∙ further (left e has))
      (test_or_not (t == to))

own_found : (from : ℕ) (code : List Transfer) (ts : List ℕ) (rest : List EdgeCode) (to : ℕ) → Contains ts to → code_in (find (leads from to) (map (edge_code from code) ts ++ rest)) ≡ code
own_found from code [] rest to (k, within, is) = absurd (omega (arith, within))
own_found from code (t ∷ ts) rest to has = here_or_further from code t ts rest to (own_found from code ts rest to) has

turned : (a b t : ℕ) → Contains (a ∷ b ∷ []) t → Contains (b ∷ a ∷ []) t
turned a b t (zero, within, is) = (1, omega arith, is)
turned a b t (suc zero, within, is) = (0, omega arith, is)
turned a b t (suc (suc k), within, is) = absurd (omega (arith, within))

rising_pair : (a b t : ℕ) (test : Bool) → Contains (a ∷ b ∷ []) t → Contains (if test then b ∷ a ∷ [] else a ∷ b ∷ []) t
rising_pair a b t true is = turned a b t is
rising_pair a b t false is = is

rising_has : (blocks : List ℕ) (t : ℕ) → Contains blocks t → Contains (sorted_targets blocks) t
rising_has [] t is = is
rising_has (a ∷ []) t is = is
rising_has (a ∷ b ∷ []) t is = rising_pair a b t (nat_lt b a) is
rising_has (a ∷ b ∷ c ∷ blocks) t is = is

-- the edge from a block to another has the stores of what the block's last instruction wrote
pub edge_found : (start : ℕ) (blocks : List (List TempInsn)) (k from : ℕ) (insns : List TempInsn) (to : ℕ) → from ≡ start + k → slice_get blocks k ≡ Some insns → Contains (successors_of targets_of flows_on_of from insns) to → code_in (find (leads from to) (all_edges start blocks)) ≡ stores_behind (last_of insns)
edge_found start [] k from insns to e is has = absurd (none-some insns is)
edge_found start (b ∷ bs) zero from insns to e is has =
    let same = same_Some b insns is in
    let here : from ≡ start = omega (arith, e) in
    subst (λ s. code_in (find (leads from to) (edges_behind s b ++ all_edges (suc s) bs)) ≡ stores_behind (last_of insns)) here
    (own_found from (stores_behind (last_of b)) (sorted_targets (successors_of targets_of flows_on_of from b)) (all_edges (suc from) bs) to
    (rising_has (successors_of targets_of flows_on_of from b) to (subst (λ xs. Contains (successors_of targets_of flows_on_of from xs) to) (sym same) has))
    ∙ ap (λ xs. stores_behind (last_of xs)) same)
edge_found start (b ∷ bs) (suc k) from insns to e is has =
    ap code_in (others_pass start (stores_behind (last_of b)) (sorted_targets (successors_of targets_of flows_on_of start b)) (all_edges (suc start) bs) from to (λ clash. omega (arith, clash, e)))
    ∙ edge_found (suc start) bs k from insns to (omega (arith, e)) is has

-- ---- the edges are those of the function

ends_of : (b : ℕ) (code : List Transfer) (ts : List ℕ) → map {B = ℕ × ℕ} (λ e. (e.from, e.to)) (map (edge_code b code) ts) ≡ map {B = ℕ × ℕ} (λ to. (b, to)) ts
ends_of b code [] = refl
ends_of b code (t ∷ ts) = ap (λ ps. (b, t) ∷ ps) (ends_of b code ts)

pub edges_all : (start : ℕ) (blocks : List (List TempInsn)) → map {B = ℕ × ℕ} (λ e. (e.from, e.to)) (all_edges start blocks) ≡ sorted_edges_from start blocks
edges_all start [] = refl
edges_all start (b ∷ bs) =
    map-append {B = ℕ × ℕ} (λ e. (e.from, e.to)) (edges_behind start b) (all_edges (suc start) bs)
    ∙ ap (λ ps. ps ++ map {B = ℕ × ℕ} (λ e. (e.from, e.to)) (all_edges (suc start) bs)) (ends_of start (stores_behind (last_of b)) (sorted_targets (successors_of targets_of flows_on_of start b)))
    ∙ ap (λ ps. map {B = ℕ × ℕ} (λ to. (start, to)) (sorted_targets (successors_of targets_of flows_on_of start b)) ++ ps) (edges_all (suc start) bs)
