-- The walk gives the nesting: what is left to read adds to what stands on the stack.
use Rattle.std.proofs.Common.{◌≡◌, ℕ, ◌+◌, max, Bool, true, false, List, [], ◌∷◌, refl, ap, ap₂, ◌∙◌, add-zero, arith}
use Rattle.std.proofs.Math.Nat.{max-zero}
use Rattle.c_parser_nesting.specs.declared.nesting.Role.{Role}
use Rattle.c_parser_nesting.specs.declared.nesting.Role.TheVariants.{Opens, Closes, ClosesBrace, Separates, Counts, Else, Plain}
use Rattle.c_parser_nesting.specs.declared.nesting.Group.{Group}
use Rattle.c_parser_nesting.specs.Nesting.{GroupItem, token, group, ends_segment, begins_else, segments, item_value, group_value, Levels, open_to_end, closed, inner_items, brace, levels_around, prepend, place_token, levels, outer_items, nesting}
use Rattle.c_parser_nesting.specs.Nesting.{count_of_item as counted_of}
use Rattle.c_parser_nesting.specs.model.Walking.{State, empty, start, cost_of, next_segment, with_one, with_group, at_token, close, act, step, total}
use Rattle.c_parser_nesting.proofs.Segments.{left_nesting, joined-zero, left-push, left-nil, left_next}

-- the greatest cost of the segments of a group that these items end
abbrev pub group_cost : Group → Bool → List GroupItem → ℕ
group_cost g ended items = max g.greatest (left_nesting ended g.count g.value items)

-- the nesting of the whole, where these groups are open and this is left
abbrev pub resume : List Group → Group → Bool → Levels → ℕ
resume [] g ended rest = group_cost g ended (outer_items rest)
resume (o ∷ os) g ended rest = resume os (with_group o (group_cost g ended (inner_items rest))) (brace rest) (levels_around rest)

abbrev pub resume_from : State → Levels → ℕ
resume_from s rest = resume s.outer s.group s.ended rest

-- ---- an item further

abbrev with_item : GroupItem → Group → Group
with_item x g = record { greatest = g.greatest; count = g.count + counted_of x; value = max g.value (item_value x) }

group_push : (g : Group) (x : GroupItem) (xs : List GroupItem) → group_cost g false (x ∷ xs) ≡ group_cost (with_item x g) (ends_segment x) xs
group_push g x xs = ap (λ n. max g.greatest n) (left-push g.count g.value x xs)

outside-prepend : (x : GroupItem) (rest : Levels) → outer_items (prepend x rest) ≡ x ∷ outer_items rest
outside-prepend x (open_to_end items) = refl
outside-prepend x (closed items bracket outer) = refl

resume-push : (os : List Group) (g : Group) (x : GroupItem) (rest : Levels) → resume os g false (prepend x rest) ≡ resume os (with_item x g) (ends_segment x) rest
resume-push [] g x rest = ap (λ items. group_cost g false items) (outside-prepend x rest) ∙ group_push g x (outer_items rest)
resume-push (o ∷ os) g x (open_to_end items) = ap (λ n. resume os (with_group o n) false (open_to_end [])) (group_push g x items)
resume-push (o ∷ os) g x (closed items bracket outer) = ap (λ n. resume os (with_group o n) (brace (closed items bracket outer)) outer) (group_push g x items)

-- ---- a segment that may have ended

record NoElse (rest : Levels) : Type 0 where
  inside : begins_else (inner_items rest) ≡ false
  outmost : begins_else (outer_items rest) ≡ false

group_next : (g : Group) (items : List GroupItem) → begins_else items ≡ false → group_cost g true items ≡ group_cost (next_segment g) false items
group_next g items h = let e = left_next (begins_else items) g.count g.value items h in omega (arith, e)

resume_next : (os : List Group) (g : Group) (rest : Levels) → NoElse rest → resume os g true rest ≡ resume os (next_segment g) false rest
resume_next [] g rest h = group_next g (outer_items rest) h.outmost
resume_next (o ∷ os) g rest h = ap (λ n. resume os (with_group o n) (brace rest) (levels_around rest)) (group_next g (inner_items rest) h.inside)

no_else : (x : GroupItem) (rest : Levels) → begins_else (x ∷ []) ≡ false → NoElse (prepend x rest)
no_else (group v b) (open_to_end items) h = record { inside = refl; outmost = refl }
no_else (group v b) (closed items bracket outer) h = record { inside = refl; outmost = refl }
no_else (token Else) rest h = absurd (cc h)
no_else (token Opens) (open_to_end items) h = record { inside = refl; outmost = refl }
no_else (token Opens) (closed items bracket outer) h = record { inside = refl; outmost = refl }
no_else (token Closes) (open_to_end items) h = record { inside = refl; outmost = refl }
no_else (token Closes) (closed items bracket outer) h = record { inside = refl; outmost = refl }
no_else (token ClosesBrace) (open_to_end items) h = record { inside = refl; outmost = refl }
no_else (token ClosesBrace) (closed items bracket outer) h = record { inside = refl; outmost = refl }
no_else (token Separates) (open_to_end items) h = record { inside = refl; outmost = refl }
no_else (token Separates) (closed items bracket outer) h = record { inside = refl; outmost = refl }
no_else (token Counts) (open_to_end items) h = record { inside = refl; outmost = refl }
no_else (token Counts) (closed items bracket outer) h = record { inside = refl; outmost = refl }
no_else (token Plain) (open_to_end items) h = record { inside = refl; outmost = refl }
no_else (token Plain) (closed items bracket outer) h = record { inside = refl; outmost = refl }

resume_else : (os : List Group) (g : Group) (rest : Levels) → resume os g true (prepend (token Else) rest) ≡ resume os g false (prepend (token Else) rest)
resume_else [] g (open_to_end items) = refl
resume_else [] g (closed items bracket outer) = refl
resume_else (o ∷ os) g (open_to_end items) = refl
resume_else (o ∷ os) g (closed items bracket outer) = refl

settles : (ended : Bool) (role : Role) (os : List Group) (g : Group) (rest : Levels)
    → resume os g ended (place_token role rest) ≡ resume os (at_token ended role g) false (place_token role rest)
settles false role os g rest = refl
settles true Opens os g rest = resume_next os g (place_token Opens rest) (no_else (group (group_value (inner_items rest)) (brace rest)) (levels_around rest) refl)
settles true Closes os g rest = resume_next os g (place_token Closes rest) (record { inside = refl; outmost = refl })
settles true ClosesBrace os g rest = resume_next os g (place_token ClosesBrace rest) (record { inside = refl; outmost = refl })
settles true Separates os g rest = resume_next os g (place_token Separates rest) (no_else (token Separates) rest refl)
settles true Counts os g rest = resume_next os g (place_token Counts rest) (no_else (token Counts) rest refl)
settles true Else os g rest = resume_else os g rest
settles true Plain os g rest = resume_next os g (place_token Plain rest) (no_else (token Plain) rest refl)

-- ---- a token further

plainly : (g : Group) → with_item (token Plain) g ≡ g
plainly g =
    let of : ℕ → ℕ → Group = λ c v. record { greatest = g.greatest; count = c; value = v } in
    ap₂ of (add-zero g.count) (max-zero g.value)

opens : (os : List Group) (g : Group) (rest : Levels) → resume os g false (place_token Opens rest) ≡ resume (with_one g ∷ os) empty false rest
opens os g rest =
    let v : group_value (inner_items rest) ≡ group_cost empty false (inner_items rest) = omega (arith, joined-zero (segments (inner_items rest))) in
    resume-push os g (group (group_value (inner_items rest)) (brace rest)) (levels_around rest) ∙ ap (λ n. resume os (with_group (with_one g) n) (brace rest) (levels_around rest)) v

closes : (os : List Group) (g : Group) (rest : Levels) → resume os g false (closed [] Closes rest) ≡ resume_from (close false os g) rest
closes [] g rest = group_push g (token Closes) (outer_items rest) ∙ ap (λ g. group_cost g false (outer_items rest)) (plainly g)
closes (o ∷ os) g rest = refl

closes_brace : (os : List Group) (g : Group) (rest : Levels) → resume os g false (closed [] ClosesBrace rest) ≡ resume_from (close true os g) rest
closes_brace [] g rest = group_push g (token ClosesBrace) (outer_items rest) ∙ ap (λ g. group_cost g false (outer_items rest)) (plainly g)
closes_brace (o ∷ os) g rest = refl

counts : (g : Group) → with_item (token Counts) g ≡ with_one g
counts g =
    let of : ℕ → Group = λ v. record { greatest = g.greatest; count = g.count + 1; value = v } in
    ap of (max-zero g.value)

acts : (role : Role) (os : List Group) (g : Group) (rest : Levels) → resume os g false (place_token role rest) ≡ resume_from (act role os g) rest
acts Opens os g rest = opens os g rest
acts Closes os g rest = closes os g rest
acts ClosesBrace os g rest = closes_brace os g rest
acts Separates os g rest = resume-push os g (token Separates) rest ∙ ap (λ g. resume os g true rest) (plainly g)
acts Counts os g rest = resume-push os g (token Counts) rest ∙ ap (λ g. resume os g false rest) (counts g)
acts Else os g rest = resume-push os g (token Else) rest ∙ ap (λ g. resume os g false rest) (plainly g)
acts Plain os g rest = resume-push os g (token Plain) rest ∙ ap (λ g. resume os g false rest) (plainly g)

-- A token read and a token left are one.
pub resume-step : (role : Role) (s : State) (rest : Levels) → resume_from s (place_token role rest) ≡ resume_from (step role s) rest
resume-step role s rest = settles s.ended role s.outer s.group rest ∙ acts role s.outer (at_token s.ended role s.group) rest

-- before the first token
pub resume-start : (roles : List Role) → resume_from start (levels roles) ≡ nesting roles
resume-start roles = omega (arith, joined-zero (segments (outer_items (levels roles))))

-- behind the last
pub resume-end : (os : List Group) (g : Group) (ended : Bool) → resume os g ended (levels []) ≡ total os (cost_of g)
resume-end [] g ended = ap (λ n. max g.greatest n) (left-nil ended g.count g.value)
resume-end (o ∷ os) g ended =
    ap (λ n. resume os (with_group o (max g.greatest n)) false (levels [])) (left-nil ended g.count g.value) ∙ resume-end os (with_group o (cost_of g)) false
