-- The laws of endings and of the meter, to be cited.
use Rattle.std.proofs.Common.{◌≡◌, ℕ, zero, suc, ◌+◌, List, [], ◌∷◌, drop, Some, None, refl, sym, ap, ◌∙◌, arith, subst}
use Rattle.std.specs.Prelude.{slice_get}
use Rattle.mem_model.specs.Memory.{Memory}
use Rattle.mem_model.specs.World.{Outer, Meter, World, with_memory, next_byte, take_byte, Rooms, turn_from, take_turn, with_turns}
use Rattle.mem_model.specs.Ending.{Ending, Done, Trap, Undefined, More, SameShown, EndsAs, Evaluation, Gives, Ends, GivesAs}
use Rattle.mem_model.specs.WorldLaws.{IsTurn, CallMeter}

pub same_shown-refl : (w : World) → SameShown w w
same_shown-refl w = record { output = refl; input = refl; takings = refl; turns = refl; peak = refl }

pub same_shown-trans : (u v w : World) → SameShown u v → SameShown v w → SameShown u w
same_shown-trans u v w p q = record { output = p.output ∙ q.output; input = p.input ∙ q.input; takings = p.takings ∙ q.takings; turns = p.turns ∙ q.turns; peak = p.peak ∙ q.peak }

pub ends_as_itself : (a : Ending) → EndsAs a a
ends_as_itself (Done w n) = (refl, same_shown-refl w)
ends_as_itself (Trap w n) = (refl, same_shown-refl w)
ends_as_itself (Undefined w k) = tt
ends_as_itself (More w) = same_shown-refl w

-- a is first; then b as a, and c as b
pub ends_as_through : (a b c : Ending) → EndsAs c b → EndsAs b a → EndsAs c a
ends_as_through (Undefined w k) b c p q = tt
ends_as_through (Done w n) (Done v m) (Done u k) p q = (p.0 ∙ q.0, same_shown-trans u v w p.1 q.1)
ends_as_through (Done w n) (Done v m) (Trap u k) p q = absurd p
ends_as_through (Done w n) (Done v m) (Undefined u k) p q = absurd p
ends_as_through (Done w n) (Done v m) (More u) p q = absurd p
ends_as_through (Done w n) (Trap v m) c p q = absurd q
ends_as_through (Done w n) (Undefined v m) c p q = absurd q
ends_as_through (Done w n) (More v) c p q = absurd q
ends_as_through (Trap w n) (Trap v m) (Trap u k) p q = (p.0 ∙ q.0, same_shown-trans u v w p.1 q.1)
ends_as_through (Trap w n) (Trap v m) (Done u k) p q = absurd p
ends_as_through (Trap w n) (Trap v m) (Undefined u k) p q = absurd p
ends_as_through (Trap w n) (Trap v m) (More u) p q = absurd p
ends_as_through (Trap w n) (Done v m) c p q = absurd q
ends_as_through (Trap w n) (Undefined v m) c p q = absurd q
ends_as_through (Trap w n) (More v) c p q = absurd q
ends_as_through (More w) (More v) (More u) p q = same_shown-trans u v w p q
ends_as_through (More w) (More v) (Done u k) p q = absurd p
ends_as_through (More w) (More v) (Trap u k) p q = absurd p
ends_as_through (More w) (More v) (Undefined u k) p q = absurd p
ends_as_through (More w) (Done v m) c p q = absurd q
ends_as_through (More w) (Trap v m) c p q = absurd q
ends_as_through (More w) (Undefined v m) c p q = absurd q

pub gives_as_itself : {A S : Type 0} → (a : Evaluation A S) → GivesAs a a
gives_as_itself (Gives v s) = refl
gives_as_itself (Ends (Done w n)) = refl
gives_as_itself (Ends (Trap w n)) = refl
gives_as_itself (Ends (Undefined w k)) = tt
gives_as_itself (Ends (More w)) = refl

-- a is first; then b as a, and c as b
pub gives_as_through : {A S : Type 0} → (a b c : Evaluation A S) → GivesAs c b → GivesAs b a → GivesAs c a
gives_as_through (Gives v s) b c p q = subst (GivesAs c) q p
gives_as_through (Ends (Done w n)) b c p q = subst (GivesAs c) q p
gives_as_through (Ends (Trap w n)) b c p q = subst (GivesAs c) q p
gives_as_through (Ends (Undefined w k)) b c p q = tt
gives_as_through (Ends (More w)) b c p q = subst (GivesAs c) q p

-- a meter that has a turn, by what is left of it
turn_is : (n : ℕ) (m t : Meter) → m.turns ≡ n → turn_from n m ≡ Some t → IsTurn m t
turn_is zero m t is e = absurd (cc)
turn_is (suc n) m t is e =
    let after : record m { turns = n } ≡ t = cc in
    let turns : t.turns ≡ n = ap (λ (u : Meter). u.turns) (sym after) in
    record {
      turns = omega arith;
      room = ap (λ (u : Meter). u.room) (sym after);
      peak = ap (λ (u : Meter). u.peak) (sym after);
      more = λ k.
          let left : m.turns + k ≡ suc (n + k) = omega arith in
          ap (λ j. turn_from j (with_turns k m)) left ∙ ap (λ (u : Meter). Some (with_turns k u)) after;
    }

pub turns_are_taken : (m t : Meter) → take_turn m ≡ Some t → IsTurn m t
turns_are_taken m t e = turn_is m.turns m t refl e

pub calls_are_metered : (rooms : Rooms) (function : ℕ) (m : Meter) → CallMeter rooms function m
calls_are_metered rooms function m = record { peak_rises = omega arith; room_within = omega arith; peak_stays = refl; room_back = omega arith; more_enter = λ k. refl; more_leave = λ k. refl }

first_byte : (bytes : List ℕ) (byte : ℕ) → slice_get bytes 0 ≡ Some byte → bytes ≡ byte ∷ drop 1 bytes
first_byte [] byte e = absurd (cc)
first_byte (b ∷ bs) byte e = let same : b ≡ byte = cc in ap (λ x. x ∷ bs) same

no_byte : (bytes : List ℕ) → slice_get bytes 0 ≡ None → (bytes ≡ []) × (drop 1 bytes ≡ [])
no_byte [] e = (refl, refl)
no_byte (b ∷ bs) e = absurd (cc)

pub bytes_are_taken : (o : Outer) (byte : ℕ) → next_byte o ≡ Some byte → o.input ≡ byte ∷ (take_byte o).input
bytes_are_taken o byte e = first_byte o.input byte e

pub none_is_taken : (o : Outer) → next_byte o ≡ None → (o.input ≡ []) × ((take_byte o).input ≡ [])
none_is_taken o e = no_byte o.input e

pub memories_are_hidden : (w : World) (m : Memory) → SameShown (with_memory w m) w
memories_are_hidden w m = record { output = refl; input = refl; takings = refl; turns = refl; peak = refl }
