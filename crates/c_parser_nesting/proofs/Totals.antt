-- How far a token raises the nesting: by one at most.
use Rattle.std.proofs.Common.{◌≡◌, ℕ, ◌+◌, ◌≤◌, Bool, true, false, List, [], ◌∷◌, arith, refl}
use Rattle.c_parser_nesting.specs.declared.nesting.Role.{Role}
use Rattle.c_parser_nesting.specs.declared.nesting.Role.TheVariants.{Opens, Closes, ClosesBrace, Separates, Counts, Else, Plain}
use Rattle.c_parser_nesting.specs.declared.nesting.Group.{Group}
use Rattle.c_parser_nesting.specs.model.Walking.{State, empty, cost_of, with_one, with_group, at_token, close, act, step, total, total_of}

total-mono : (os : List Group) (a b : ℕ) → a ≤ b → total os a ≤ total os b
total-mono [] a b h = h
total-mono (o ∷ os) a b h = total-mono os (cost_of (with_group o a)) (cost_of (with_group o b)) (omega arith)

total-suc : (os : List Group) (a : ℕ) → total os (a + 1) ≤ total os a + 1
total-suc [] a = omega arith
total-suc (o ∷ os) a =
    let x : ℕ = cost_of (with_group o a) in
    let y : ℕ = cost_of (with_group o (a + 1)) in
    let up : y ≤ x + 1 = omega arith in
    let more : total os y ≤ total os (x + 1) = total-mono os y (x + 1) up in
    let one : total os (x + 1) ≤ total os x + 1 = total-suc os x in
    omega arith

pub total-ge : (os : List Group) (a : ℕ) → a ≤ total os a
total-ge [] a = omega arith
total-ge (o ∷ os) a =
    let x : ℕ = cost_of (with_group o a) in
    let up : a ≤ x = omega arith in
    let more : x ≤ total os x = total-ge os x in
    omega arith

pub cost_of-at_token : (ended : Bool) (role : Role) (g : Group) → cost_of (at_token ended role g) ≡ cost_of g
cost_of-at_token false role g = refl
cost_of-at_token true Opens g = omega arith
cost_of-at_token true Closes g = omega arith
cost_of-at_token true ClosesBrace g = omega arith
cost_of-at_token true Separates g = omega arith
cost_of-at_token true Counts g = omega arith
cost_of-at_token true Else g = refl
cost_of-at_token true Plain g = omega arith

-- the segment at hand costs no more than all
pub segment_within : (os : List Group) (g : Group) → g.count + g.value ≤ total os (cost_of g)
segment_within os g = let w : cost_of g ≤ total os (cost_of g) = total-ge os (cost_of g) in omega arith

raised : (os : List Group) (a b : ℕ) → a ≤ b + 1 → total os a ≤ total os b + 1
raised os a b h =
    let more : total os a ≤ total os (b + 1) = total-mono os a (b + 1) h in
    let one : total os (b + 1) ≤ total os b + 1 = total-suc os b in
    omega arith

total-close : (ends : Bool) (os : List Group) (g : Group) → total_of (close ends os g) ≡ total os (cost_of g)
total-close ends [] g = refl
total-close ends (o ∷ os) g = refl

act_raises : (role : Role) (os : List Group) (g : Group) → total_of (act role os g) ≤ total os (cost_of g) + 1
act_raises Opens os g = raised os (cost_of (with_group (with_one g) (cost_of empty))) (cost_of g) (omega arith)
act_raises Closes os g = omega (arith, total-close false os g)
act_raises ClosesBrace os g = omega (arith, total-close true os g)
act_raises Separates os g = omega arith
act_raises Counts os g = raised os (cost_of (with_one g)) (cost_of g) (omega arith)
act_raises Else os g = omega arith
act_raises Plain os g = omega arith

pub step_raises : (role : Role) (s : State) → total_of (step role s) ≤ total_of s + 1
step_raises role s =
    let more : total_of (act role s.outer (at_token s.ended role s.group)) ≤ total s.outer (cost_of (at_token s.ended role s.group)) + 1 = act_raises role s.outer (at_token s.ended role s.group) in
    rw (cost_of-at_token s.ended role s.group) at more

pub at_token_within : (ended : Bool) (role : Role) (os : List Group) (g : Group)
    → (at_token ended role g).count + (at_token ended role g).value ≤ total os (cost_of g)
at_token_within ended role os g =
    let w : (at_token ended role g).count + (at_token ended role g).value ≤ total os (cost_of (at_token ended role g)) = segment_within os (at_token ended role g) in
    rw (cost_of-at_token ended role g) at w
