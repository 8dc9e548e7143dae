-- How high a list of nodes is, element by element.
use Rattle.std.proofs.Common.{◌≡◌, ℕ, zero, suc, ◌+◌, ◌<◌, ◌≤◌, max, List, [], ◌∷◌, ◌++◌, length, get_or, take, sym, ap, ◌∙◌, arith, subst, Bool, true, false}
use Rattle.std.specs.Prelude.{IsTrue, ◌↔◌}
use Rattle.std.proofs.lemmas.List.{take_more}
use Rattle.c_tree.specs.Nodes.{Node, Nodes, node, none, more, two_nodes, append_nodes, nodes_of, node_height, nodes_height}

height-append : {A : Type 0} (f : A → Node) (xs : List A) (x : A) → nodes_height (nodes_of f (xs ++ x ∷ [])) ≡ max (nodes_height (nodes_of f xs)) (node_height (f x))
height-append f [] x = omega arith
height-append f (y ∷ ys) x = let e = height-append f ys x in omega (arith, e)

height-more : {A : Type 0} (f : A → Node) (xs : List A) (i : ℕ) (x : A) → i < length xs → x ≡ get_or xs i x
    → nodes_height (nodes_of f (take (i + 1) xs)) ≡ max (nodes_height (nodes_of f (take i xs))) (node_height (f x))
height-more f xs i x h is = ap (λ l. nodes_height (nodes_of f l)) (take_more xs i x h ∙ ap (λ y. take i xs ++ y ∷ []) (sym is)) ∙ height-append f (take i xs) x

height-at : {A : Type 0} (f : A → Node) (xs : List A) (i : ℕ) (x : A) → i < length xs → x ≡ get_or xs i x → node_height (f x) ≤ nodes_height (nodes_of f xs)
height-at f [] i x h is = omega arith
height-at f (y ∷ ys) zero x h is = rw is (omega arith)
height-at f (y ∷ ys) (suc i) x h is = let e = height-at f ys i x (omega arith) is in omega (arith, e)

-- a loop goes on by one element that is within the bound, and ends at one that is not
pub one_more : {A : Type 0} (f : A → Node) (xs : List A) (i : ℕ) (x : A) (ok : Bool) (most : ℕ) → i < length xs → x ≡ get_or xs i x
    → (IsTrue ok ↔ (node_height (f x) ≤ most)) → ok ≡ true → nodes_height (nodes_of f (take i xs)) ≤ most → nodes_height (nodes_of f (take (i + 1) xs)) ≤ most
one_more f xs i x ok most h is r holds before = let e = height-more f xs i x h is in let n = r.0 holds in omega (arith, e, n)

pub too_high : {A : Type 0} (f : A → Node) (xs : List A) (i : ℕ) (x : A) (ok : Bool) (most : ℕ) → i < length xs → x ≡ get_or xs i x
    → (IsTrue ok ↔ (node_height (f x) ≤ most)) → ok ≡ false → IsTrue false ↔ (nodes_height (nodes_of f xs) ≤ most)
too_high f xs i x ok most h is r fails =
    (λ z. absurd (let clash : ⊥ = cc in clash), λ all. sym fails ∙ r.1 (let e = height-at f xs i x h is in omega (arith, e)))

pub height-some : (n : Node) → 0 < node_height n
height-some (node line children) = omega arith

-- the height of what a call was given, under another name
pub height-is : (ok : Bool) (ms ns : Nodes) (most : ℕ) → ms ≡ ns → (IsTrue ok ↔ (nodes_height ms ≤ most)) → IsTrue ok ↔ (nodes_height ns ≤ most)
height-is ok ms ns most e h = subst (λ z. IsTrue ok ↔ (nodes_height z ≤ most)) e h

-- one node within the bound, and those behind it
pub rest-is : (ok : Bool) (n : Node) (ms ns : Nodes) (most : ℕ) → more n ms ≡ ns → node_height n ≤ most → (IsTrue ok ↔ (nodes_height ms ≤ most)) → IsTrue ok ↔ (nodes_height ns ≤ most)
rest-is ok n ms ns most e h g =
    subst (λ z. IsTrue ok ↔ (nodes_height z ≤ most)) e ((λ holds. let r = g.0 holds in omega (arith, h, r)), (λ all. g.1 (omega (arith, all))))

-- a node, by what stands under it
pub node-is : (ok : Bool) (line : List ℕ) (ms : Nodes) (n : Node) (below most : ℕ) → node line ms ≡ n → suc below ≡ most → (IsTrue ok ↔ (nodes_height ms ≤ below)) → IsTrue ok ↔ (node_height n ≤ most)
node-is ok line ms n below most e k g =
    subst (λ z. IsTrue ok ↔ (node_height z ≤ most)) e ((λ holds. let r = g.0 holds in omega (arith, k, r)), (λ all. g.1 (omega (arith, k, all))))

pub height-append_nodes : (ms ns : Nodes) → nodes_height (append_nodes ms ns) ≡ max (nodes_height ms) (nodes_height ns)
height-append_nodes none ns = omega arith
height-append_nodes (more m ms) ns = let e = height-append_nodes ms ns in omega (arith, e)

-- what stands before the last of the nodes within the bound, and the last
pub last-is : (ok : Bool) (ms : Nodes) (x y n : Node) (ns : Nodes) (most : ℕ) → append_nodes ms (more x (two_nodes y n)) ≡ ns → nodes_height (append_nodes ms (two_nodes x y)) ≤ most → (IsTrue ok ↔ (node_height n ≤ most)) → IsTrue ok ↔ (nodes_height ns ≤ most)
last-is ok ms x y n ns most e h g =
    let j = height-append_nodes ms (more x (two_nodes y n)) in let k = height-append_nodes ms (two_nodes x y) in
    subst (λ z. IsTrue ok ↔ (nodes_height z ≤ most)) e ((λ holds. let r = g.0 holds in omega (arith, h, j, k, r)), (λ all. g.1 (omega (arith, all, j))))

pub ruleset heights = (height-some, height-append_nodes)
