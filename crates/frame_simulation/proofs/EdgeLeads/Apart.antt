-- Where no edge has to be split, no other block goes to where a block with a branch goes.
use Rattle.std.proofs.Common.{◌≡◌, ℕ, zero, suc, ◌+◌, ◌≤◌, Bool, true, false, List, [], ◌∷◌, ◌++◌, Option, Some, None, length, map, if◌then◌else◌, refl, sym, ap, ◌∙◌, subst, arith, ⊎_elim, eq-eqb}
use Rattle.std.specs.Prelude.{◌==◌, filter, slice_get, Contains}
use Rattle.std.proofs.lemmas.List.Elements.{Contains-append_left, Contains-append_right}
use Rattle.pass_core.specs.Functions.{last_of, successors_after, successors_of}
use Rattle.temp_ir.specs.declared.insn.TempInsn.{TempInsn}
use Rattle.temp_ir.specs.declared.insn.TempInsn.TheVariants as i
use Rattle.temp_ir.specs.Insns.{targets_of, flows_on_of}
use Rattle.frame_simulation.specs.flat_steps.Items.{is_temp_branch, ends_with_branch}
use Rattle.cfg.specs.Edges.{successors_from, edges_to, edges_from, sources_of}
use Rattle.cfg_edges.specs.Critical.{NoneCritical}
use Rattle.frame_simulation.specs.edge_leads.Leads.{IsEdge, BranchesGoApart}
use Rattle.frame_simulation.proofs.EdgeLeads.Lists.{get-index}

-- a list of at most one number has no two
one-only : (xs : List ℕ) (x y : ℕ) → length xs ≤ 1 → Contains xs x → Contains xs y → x ≡ y
one-only [] x y few (k, lt, is) b = absurd (omega (arith, lt))
one-only (z ∷ []) x y few (zero, lt, is) (zero, le, be) = sym is ∙ be
one-only (z ∷ []) x y few (suc k, lt, is) b = absurd (omega (arith, lt))
one-only (z ∷ []) x y few a (suc k, lt, is) = absurd (omega (arith, lt))
one-only (z ∷ w ∷ xs) x y few a b = absurd (omega (arith, few))

-- ---- the blocks that follow each, and the sources of edges

followers-of : (blocks : List (List TempInsn)) (n k : ℕ) (insns : List TempInsn) → slice_get blocks k ≡ Some insns → slice_get (successors_from targets_of flows_on_of n blocks) k ≡ Some (successors_of targets_of flows_on_of (n + k) insns)
followers-of [] n k insns e = absurd (cc)
followers-of (b ∷ blocks) n zero insns e =
    let is : b ≡ insns = cc in
    let sum : n ≡ n + 0 = omega arith in
    ap (λ z. Some (successors_of targets_of flows_on_of n z)) is ∙ ap (λ m. Some (successors_of targets_of flows_on_of m insns)) sum
followers-of (b ∷ blocks) n (suc k) insns e =
    let sum : suc n + k ≡ n + suc k = omega arith in
    followers-of blocks (suc n) k insns e ∙ ap (λ m. Some (successors_of targets_of flows_on_of m insns)) sum

sources-append : (xs ys : List (ℕ × ℕ)) (to : ℕ) → sources_of (xs ++ ys) to ≡ sources_of xs to ++ sources_of ys to
sources-append [] ys to = refl
sources-append (x ∷ xs) ys to = by_test (sources-append xs ys to) (x.1 == to) refl
  where
    by_test : sources_of (xs ++ ys) to ≡ sources_of xs to ++ sources_of ys to → (t : Bool) → (x.1 == to) ≡ t → sources_of ((x ∷ xs) ++ ys) to ≡ sources_of (x ∷ xs) to ++ sources_of ys to
    by_test ih true e =
        ap (λ t. map (λ (z : ℕ × ℕ). z.0) (if t then x ∷ filter (λ (z : ℕ × ℕ). z.1 == to) (xs ++ ys) else filter (λ (z : ℕ × ℕ). z.1 == to) (xs ++ ys))) e
        ∙ ap (λ l. x.0 ∷ l) ih
        ∙ sym (ap (λ t. map (λ (z : ℕ × ℕ). z.0) (if t then x ∷ filter (λ (z : ℕ × ℕ). z.1 == to) xs else filter (λ (z : ℕ × ℕ). z.1 == to) xs) ++ sources_of ys to) e)
    by_test ih false e =
        ap (λ t. map (λ (z : ℕ × ℕ). z.0) (if t then x ∷ filter (λ (z : ℕ × ℕ). z.1 == to) (xs ++ ys) else filter (λ (z : ℕ × ℕ). z.1 == to) (xs ++ ys))) e
        ∙ ih
        ∙ sym (ap (λ t. map (λ (z : ℕ × ℕ). z.0) (if t then x ∷ filter (λ (z : ℕ × ℕ). z.1 == to) xs else filter (λ (z : ℕ × ℕ). z.1 == to) xs) ++ sources_of ys to) e)

source-here : (n : ℕ) (nexts : List ℕ) (to : ℕ) → Contains nexts to → Contains (sources_of (edges_to n nexts) to) n
source-here n [] to (k, lt, is) = absurd (omega (arith, lt))
source-here n (x ∷ nexts) to (zero, lt, is) =
    subst (λ t. Contains (map (λ (z : ℕ × ℕ). z.0) (if t then (n, x) ∷ filter (λ (z : ℕ × ℕ). z.1 == to) (edges_to n nexts) else filter (λ (z : ℕ × ℕ). z.1 == to) (edges_to n nexts))) n) (sym (eq-eqb x to is)) (zero, omega arith, refl)
source-here n (x ∷ nexts) to (suc k, lt, is) = by_test (x == to) (source-here n nexts to (k, omega (arith, lt), is))
  where
    later : (k : ℕ) (xs : List ℕ) (y z : ℕ) → Contains xs z → Contains (y ∷ xs) z
    later k xs y z h = Contains-append_right (y ∷ []) xs z h

    by_test : (t : Bool) → Contains (sources_of (edges_to n nexts) to) n → Contains (map (λ (z : ℕ × ℕ). z.0) (if t then (n, x) ∷ filter (λ (z : ℕ × ℕ). z.1 == to) (edges_to n nexts) else filter (λ (z : ℕ × ℕ). z.1 == to) (edges_to n nexts))) n
    by_test true h = later 0 (sources_of (edges_to n nexts) to) n n h
    by_test false h = h

source-of : (followers : List (List ℕ)) (n k : ℕ) (nexts : List ℕ) (to : ℕ) → slice_get followers k ≡ Some nexts → Contains nexts to → Contains (sources_of (edges_from n followers) to) (n + k)
source-of [] n k nexts to e has = absurd (cc)
source-of (f ∷ followers) n zero nexts to e has =
    let is : f ≡ nexts = cc in
    let sum : n ≡ n + 0 = omega arith in
    subst (λ l. Contains l (n + 0)) (sym (sources-append (edges_to n f) (edges_from (suc n) followers) to))
    (subst (Contains (sources_of (edges_to n f) to ++ sources_of (edges_from (suc n) followers) to)) sum
    (Contains-append_left (sources_of (edges_to n f) to) (sources_of (edges_from (suc n) followers) to) n (source-here n f to (subst (λ l. Contains l to) (sym is) has))))
source-of (f ∷ followers) n (suc k) nexts to e has =
    let sum : suc n + k ≡ n + suc k = omega arith in
    subst (λ l. Contains l (n + suc k)) (sym (sources-append (edges_to n f) (edges_from (suc n) followers) to))
    (subst (Contains (sources_of (edges_to n f) to ++ sources_of (edges_from (suc n) followers) to)) sum
    (Contains-append_right (sources_of (edges_to n f) to) (sources_of (edges_from (suc n) followers) to) (suc n + k) (source-of followers (suc n) k nexts to e has)))

-- ---- branches

-- a block with a branch has two successors
two-successors : (block : ℕ) (o : Option TempInsn) → is_temp_branch o ≡ true → length (successors_after targets_of flows_on_of block o) ≤ 1 → ⊥
two-successors block None e few = cc
two-successors block (Some (i.Branch op source to)) e few = omega (arith, few)
two-successors block (Some x) e few = cc

module _ (blocks : List (List TempInsn)) (none : NoneCritical targets_of flows_on_of blocks) where
  is-source : (from to : ℕ) (e : IsEdge blocks from to) → Contains (sources_of (edges_from 0 (successors_from targets_of flows_on_of 0 blocks)) to) from
  is-source from to e =
      let sum : 0 + from ≡ from = omega arith in
      subst (Contains (sources_of (edges_from 0 (successors_from targets_of flows_on_of 0 blocks)) to)) sum
      (source-of (successors_from targets_of flows_on_of 0 blocks) 0 from (successors_of targets_of flows_on_of (0 + from) e.insns) to (followers-of blocks 0 from e.insns e.there)
      (subst (λ n. Contains (successors_of targets_of flows_on_of n e.insns) to) (sym sum) e.leads))

  apart : BranchesGoApart blocks
  apart branch other to e ends f =
      let sum : 0 + branch ≡ branch = omega arith in
      let last : is_temp_branch (last_of e.insns) ≡ true = sym (ap ends_with_branch (get-index blocks branch e.insns [] e.there)) ∙ ends in
      ⊎_elim
      (λ few. absurd (two-successors (0 + branch) (last_of e.insns) last few))
      (λ one. one-only (sources_of (edges_from 0 (successors_from targets_of flows_on_of 0 blocks)) to) other branch one (is-source other to f) (is-source branch to e))
      (none branch to (successors_of targets_of flows_on_of (0 + branch) e.insns) (followers-of blocks 0 branch e.insns e.there) (subst (λ n. Contains (successors_of targets_of flows_on_of n e.insns) to) (sym sum) e.leads))

pub split_branches_go_apart : (blocks : List (List TempInsn)) → NoneCritical targets_of flows_on_of blocks → BranchesGoApart blocks
split_branches_go_apart blocks none = apart blocks none
