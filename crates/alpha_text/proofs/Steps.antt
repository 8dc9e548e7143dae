-- How the lines that are left stand to those that were left before.
use Rattle.std.proofs.Common.{◌≡◌, ℕ, ◌+◌, List, [], ◌∷◌, refl, subst, inl, inr}
use Rattle.std.specs.Prelude.{IsTrue}
use Rattle.alpha_text.specs.Wrong.{lines_of, is_ended, TextSoFar, Form, with_form, Says, IsComplete, WrongFrom, WellFrom}
use Rattle.alpha_text.specs.model.Reaches.{Reaches}

pub reaches_here : (all : List (List ℕ)) (st : TextSoFar) (now : List ℕ × ℕ) → Reaches all st now st now
reaches_here all st now = record { wrong = λ n h. h; well = λ final h. h }

pub reaches_join : (all : List (List ℕ)) (a b d : TextSoFar) (p q r : List ℕ × ℕ) → Reaches all a p b q → Reaches all b q d r → Reaches all a p d r
reaches_join all a b d p q r f g = record { wrong = λ n h. f.wrong n (g.wrong n h); well = λ final h. f.well final (g.well final h) }

-- the next line of the text
pub record IsNextLine (now : List ℕ × ℕ) (line : List ℕ) (next : List ℕ × ℕ) : Type 0 where
  pub lines : lines_of now.0 ≡ line ∷ lines_of next.0
  pub ended : is_ended now.0 ≡ is_ended next.0
  pub count : next.1 ≡ now.1 + 1

pub reaches_step : (all : List (List ℕ)) (from st : TextSoFar) (start now next : List ℕ × ℕ) (line : List ℕ) (form : Form) → Reaches all from start st now → IsNextLine now line next → Says all st line form → Reaches all from start (with_form st form) next
reaches_step all from st start now next line form r is says = record { wrong = wrong; well = well }
  where
    wrong : (n : ℕ) → WrongFrom all (with_form st form) (next.1 + 1) (lines_of next.0) (is_ended next.0) n → WrongFrom all from (start.1 + 1) (lines_of start.0) (is_ended start.0) n
    wrong n h =
        let later : WrongFrom all (with_form st form) (now.1 + 1 + 1) (lines_of next.0) (is_ended next.0) n = subst (λ k. WrongFrom all (with_form st form) (k + 1) (lines_of next.0) (is_ended next.0) n) is.count h in
        let here : WrongFrom all st (now.1 + 1) (line ∷ lines_of next.0) (is_ended next.0) n = inr (form, says, later) in
        r.wrong n (rw (is.lines, is.ended) here)

    well : (final : TextSoFar) → WellFrom all (with_form st form) (lines_of next.0) (is_ended next.0) final → WellFrom all from (lines_of start.0) (is_ended start.0) final
    well final h =
        let here : WellFrom all st (line ∷ lines_of next.0) (is_ended next.0) final = (form, says, h) in
        r.well final (rw (is.lines, is.ended) here)

pub fault_line : (all : List (List ℕ)) (from st : TextSoFar) (start now next : List ℕ × ℕ) (line : List ℕ) → Reaches all from start st now → IsNextLine now line next → ((form : Form) → ¬ (Says all st line form)) → WrongFrom all from (start.1 + 1) (lines_of start.0) (is_ended start.0) next.1
fault_line all from st start now next line r is none =
    let here : WrongFrom all st (now.1 + 1) (line ∷ lines_of next.0) (is_ended next.0) next.1 = inl (none, is.count) in
    r.wrong next.1 (rw (is.lines, is.ended) here)

pub fault_end : (all : List (List ℕ)) (from st : TextSoFar) (start now : List ℕ × ℕ) → Reaches all from start st now → lines_of now.0 ≡ [] → ¬ (IsComplete st × IsTrue (is_ended now.0)) → WrongFrom all from (start.1 + 1) (lines_of start.0) (is_ended start.0) (now.1 + 1)
fault_end all from st start now r none missing =
    let here : WrongFrom all st (now.1 + 1) [] (is_ended now.0) (now.1 + 1) = (missing, refl) in
    r.wrong (now.1 + 1) (rw none here)

pub well_end : (all : List (List ℕ)) (from st : TextSoFar) (start now : List ℕ × ℕ) → Reaches all from start st now → lines_of now.0 ≡ [] → IsComplete st → IsTrue (is_ended now.0) → WellFrom all from (lines_of start.0) (is_ended start.0) st
well_end all from st start now r none complete ended =
    let here : WellFrom all st [] (is_ended now.0) st = (complete, ended, refl) in
    r.well st (rw none here)
