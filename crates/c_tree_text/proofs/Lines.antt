-- Lines that are put one behind the other.
use Rattle.std.proofs.Common.{◌≡◌, ℕ, List, [], ◌∷◌, ◌++◌, Result, Ok, Err, refl, sym, ap, ◌∙◌, ◌+◌, ◌<◌, length, take, get_or, append_assoc, append-nil}
use Rattle.std.specs.Prelude.{OnOk}
use Rattle.std.proofs.lemmas.List.{take_more}
use Rattle.c_tree.specs.Words.{spellings_text}
use Rattle.c_tree.specs.Nodes.{Node, Nodes, node, none, more, lone, two_nodes, append_nodes, nodes_of, node_text, nodes_text}
use Rattle.c_tree.specs.model.Parts.{line_text}

-- what follows where the call succeeds
pub on_ok : {A E P Q : Type 0} (r : Result A E) → OnOk r P → (P → Q) → OnOk r Q
on_ok (Ok v) p f = f p
on_ok (Err e) p f = tt

pub nodes_text-append_nodes : (p : List ℕ) (ms ns : Nodes) → nodes_text p (append_nodes ms ns) ≡ nodes_text p ms ++ nodes_text p ns
nodes_text-append_nodes p none ns = refl
nodes_text-append_nodes p (more m ms) ns = ap (λ r. node_text p m ++ r) (nodes_text-append_nodes p ms ns) ∙ sym (append_assoc (node_text p m) (nodes_text p ms) (nodes_text p ns))

nodes_of-append : {A : Type 0} (f : A → Node) (xs : List A) (x : A) → nodes_of f (xs ++ x ∷ []) ≡ append_nodes (nodes_of f xs) (more (f x) none)
nodes_of-append f [] x = refl
nodes_of-append f (y ∷ ys) x = ap (more (f y)) (nodes_of-append f ys x)

nodes_text-more : {A : Type 0} (p : List ℕ) (f : A → Node) (xs : List A) (i : ℕ) (x : A) → i < length xs → x ≡ get_or xs i x
    → nodes_text p (nodes_of f (take (i + 1) xs)) ≡ nodes_text p (nodes_of f (take i xs)) ++ node_text p (f x)
nodes_text-more p f xs i x h is =
    ap (λ l. nodes_text p (nodes_of f l)) (take_more xs i x h ∙ ap (λ y. take i xs ++ y ∷ []) (sym is)) ∙ ap (nodes_text p) (nodes_of-append f (take i xs) x)
    ∙ nodes_text-append_nodes p (nodes_of f (take i xs)) (more (f x) none) ∙ ap (λ r. nodes_text p (nodes_of f (take i xs)) ++ r) (append-nil (node_text p (f x)))

behind : (o0 o1 o2 a b : List ℕ) → o1 ≡ o0 ++ a → o2 ≡ o1 ++ b → o2 ≡ o0 ++ (a ++ b)
behind o0 o1 o2 a b h g = g ∙ ap (λ o. o ++ b) h ∙ append_assoc o0 a b

-- a loop goes on by one element
pub one_more : {A : Type 0} (o0 o1 o2 p : List ℕ) (f : A → Node) (xs : List A) (i : ℕ) (x : A) → i < length xs → x ≡ get_or xs i x
    → o1 ≡ o0 ++ nodes_text p (nodes_of f (take i xs)) → o2 ≡ o1 ++ node_text p (f x) → o2 ≡ o0 ++ nodes_text p (nodes_of f (take (i + 1) xs))
one_more o0 o1 o2 p f xs i x h is inv g = behind o0 o1 o2 _ _ inv g ∙ ap (λ r. o0 ++ r) (sym (nodes_text-more p f xs i x h is))

-- a line, and what stands under it
pub under : (o0 o1 o2 p q v w : List ℕ) (ns : Nodes) → o1 ≡ o0 ++ line_text p v → v ≡ w → o2 ≡ o1 ++ nodes_text q ns → q ≡ p ++ 32 ∷ 32 ∷ [] → o2 ≡ o0 ++ node_text p (node w ns)
under o0 o1 o2 p q v w ns h k g e =
    behind o0 o1 o2 (line_text p w) (nodes_text q ns) (h ∙ ap (λ z. o0 ++ line_text p z) k) g
    ∙ ap (λ r. o0 ++ r) (append_assoc (p ++ w) (10 ∷ []) (nodes_text q ns) ∙ ap (λ z. (p ++ w) ++ 10 ∷ nodes_text z ns) e)

pub one_under : (o0 o1 o2 p q v w : List ℕ) (n : Node) → o1 ≡ o0 ++ line_text p v → v ≡ w → o2 ≡ o1 ++ node_text q n → q ≡ p ++ 32 ∷ 32 ∷ [] → o2 ≡ o0 ++ node_text p (node w (lone n))
one_under o0 o1 o2 p q v w n h k g e = under o0 o1 o2 p q v w (lone n) h k (g ∙ ap (λ r. o1 ++ r) (sym (append-nil (node_text q n)))) e

-- the nodes of a call, under another name
pub nodes_are : {A E : Type 0} (r : Result A E) (o0 o1 p : List ℕ) (ms ns : Nodes) → ms ≡ ns → OnOk r (o1 ≡ o0 ++ nodes_text p ms) → OnOk r (o1 ≡ o0 ++ nodes_text p ns)
nodes_are r o0 o1 p ms ns e h = on_ok r h (λ g. g ∙ ap (λ k. o0 ++ nodes_text p k) e)

-- one node, and those behind it
pub first_and : {A E : Type 0} (r : Result A E) (o0 o1 o2 p : List ℕ) (x : Node) (ms ns : Nodes) → more x ms ≡ ns → o1 ≡ o0 ++ node_text p x → OnOk r (o2 ≡ o1 ++ nodes_text p ms) → OnOk r (o2 ≡ o0 ++ nodes_text p ns)
first_and r o0 o1 o2 p x ms ns e h g = on_ok r g (λ k. behind o0 o1 o2 (node_text p x) (nodes_text p ms) h k ∙ ap (λ z. o0 ++ nodes_text p z) e)

pub two : {A E : Type 0} (r : Result A E) (o0 o1 o2 p : List ℕ) (x y : Node) (ns : Nodes) → two_nodes x y ≡ ns → o1 ≡ o0 ++ node_text p x → OnOk r (o2 ≡ o1 ++ node_text p y) → OnOk r (o2 ≡ o0 ++ nodes_text p ns)
two r o0 o1 o2 p x y ns e h g = first_and r o0 o1 o2 p x (lone y) ns e h (on_ok r g (λ k. k ∙ ap (λ z. o1 ++ z) (sym (append-nil (node_text p y)))))

pub three : {A E : Type 0} (r : Result A E) (o0 o1 o2 o3 p : List ℕ) (x y z : Node) (ns : Nodes) → more x (two_nodes y z) ≡ ns → o1 ≡ o0 ++ node_text p x → o2 ≡ o1 ++ node_text p y → OnOk r (o3 ≡ o2 ++ node_text p z)
    → OnOk r (o3 ≡ o0 ++ nodes_text p ns)
three r o0 o1 o2 o3 p x y z ns e h g k = first_and r o0 o1 o3 p x (two_nodes y z) ns e h (two r o1 o2 o3 p y z (two_nodes y z) refl g k)

pub four : {A E : Type 0} (r : Result A E) (o0 o1 o2 o3 o4 p : List ℕ) (ms : Nodes) (x y z : Node) (ns : Nodes) → append_nodes ms (more x (two_nodes y z)) ≡ ns → o1 ≡ o0 ++ nodes_text p ms → o2 ≡ o1 ++ node_text p x → o3 ≡ o2 ++ node_text p y
    → OnOk r (o4 ≡ o3 ++ node_text p z) → OnOk r (o4 ≡ o0 ++ nodes_text p ns)
four r o0 o1 o2 o3 o4 p ms x y z ns e h g k l =
    on_ok r (three r o1 o2 o3 o4 p x y z (more x (two_nodes y z)) refl g k l) (λ m.
    behind o0 o1 o4 (nodes_text p ms) (nodes_text p (more x (two_nodes y z))) h m ∙ ap (λ w. o0 ++ w) (sym (nodes_text-append_nodes p ms (more x (two_nodes y z)))) ∙ ap (λ w. o0 ++ nodes_text p w) e)

pub both_is : {A B : Type 0} (f : A → Node) (g : B → Node) (x y : A) (v w : B) → x ≡ y → v ≡ w → two_nodes (f x) (g v) ≡ two_nodes (f y) (g w)
both_is f g x y v w h k = ap (λ z. two_nodes (f z) (g v)) h ∙ ap (λ z. two_nodes (f y) (g z)) k

pub more_is : {A : Type 0} (f : A → Node) (x y : A) (ms ns : Nodes) → x ≡ y → ms ≡ ns → more (f x) ms ≡ more (f y) ns
more_is f x y ms ns h k = ap (λ z. more (f z) ms) h ∙ ap (more (f y)) k

spellings_text-append : (xs : List (List ℕ)) (x : List ℕ) → spellings_text (xs ++ x ∷ []) ≡ spellings_text xs ++ 32 ∷ x
spellings_text-append [] x = ap (λ r. 32 ∷ r) (append-nil x)
spellings_text-append (y ∷ ys) x = ap (λ r. (32 ∷ y) ++ r) (spellings_text-append ys x) ∙ sym (append_assoc (32 ∷ y) (spellings_text ys) (32 ∷ x))

-- one more spelling
pub spellings_text-more : (v0 v1 v2 : List ℕ) (xs : List (List ℕ)) (i : ℕ) (x y : List ℕ) → i < length xs → x ≡ get_or xs i x → v0 ≡ spellings_text (take i xs) → v1 ≡ v0 ++ 32 ∷ [] → v2 ≡ v1 ++ y → y ≡ x → v2 ≡ spellings_text (take (i + 1) xs)
spellings_text-more v0 v1 v2 xs i x y h is e f g k =
    behind v0 v1 v2 (32 ∷ []) y f g ∙ ap (λ z. v0 ++ 32 ∷ z) k ∙ ap (λ z. z ++ 32 ∷ x) e
    ∙ sym (ap spellings_text (take_more xs i x h ∙ ap (λ z. take i xs ++ z ∷ []) (sym is)) ∙ spellings_text-append (take i xs) x)

-- a line, and two lists of nodes under it
pub two_lists : (o0 o1 o2 p q r w : List ℕ) (ms ns ks : Nodes) → o1 ≡ (o0 ++ line_text p w) ++ nodes_text q ms → o2 ≡ o1 ++ nodes_text r ks → q ≡ p ++ 32 ∷ 32 ∷ [] → r ≡ p ++ 32 ∷ 32 ∷ [] → ks ≡ ns
    → o2 ≡ o0 ++ node_text p (node w (append_nodes ms ns))
two_lists o0 o1 o2 p q r w ms ns ks h g e f k =
    let q' = p ++ 32 ∷ 32 ∷ [] in
    let all : o2 ≡ (o0 ++ line_text p w) ++ nodes_text q' (append_nodes ms ns) =
    behind (o0 ++ line_text p w) o1 o2 (nodes_text q' ms) (nodes_text q' ns) (h ∙ ap (λ z. (o0 ++ line_text p w) ++ nodes_text z ms) e) (g ∙ ap (λ z. o1 ++ nodes_text z ks) f ∙ ap (λ z. o1 ++ nodes_text q' z) k)
    ∙ ap (λ z. (o0 ++ line_text p w) ++ z) (sym (nodes_text-append_nodes q' ms ns)) in
    under o0 (o0 ++ line_text p w) o2 p q' w w (append_nodes ms ns) refl refl all refl

pub under_ok : {A E : Type 0} (r : Result A E) (o0 o1 o2 p q w : List ℕ) (ms : Nodes) (n : Node) → node w ms ≡ n → o1 ≡ o0 ++ line_text p w → q ≡ p ++ 32 ∷ 32 ∷ [] → OnOk r (o2 ≡ o1 ++ nodes_text q ms) → OnOk r (o2 ≡ o0 ++ node_text p n)
under_ok r o0 o1 o2 p q w ms n e h f g = on_ok r g (λ k. under o0 o1 o2 p q w w ms h refl k f ∙ ap (λ z. o0 ++ node_text p z) e)
