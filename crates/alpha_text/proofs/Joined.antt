-- The parts of a text, one after another, are the text.
use Rattle.std.proofs.Common.{◌≡◌, ℕ, ◌+◌, Option, None, List, [], Result, Ok, Err, length, sym, ◌∙◌, subst}
use Rattle.std.specs.Prelude.{IfErr, IsErrAnd, MatchResult}
use Rattle.alpha_items.specs.declared.item.AsmItem.{AsmItem}
use Rattle.alpha_items.specs.declared.item.Fix.{Fix}
use Rattle.alpha_text.specs.declared.fault.TextFault.{TextFault}
use Rattle.alpha_text.specs.declared.fault.TextFault.TheVariants as fault
use Rattle.alpha_text.specs.Wrong.{lines_of, is_ended, TextSoFar, Nothing, Text, Data, WrongFrom, WellFrom, NoneWrong}
use Rattle.alpha_text.specs.Read.{IsTextFault}
use Rattle.alpha_text.specs.model.Faults.{IsFaultOf}
use Rattle.alpha_text.specs.model.Reaches.{Reaches, IsFaultFrom}
use Rattle.alpha_text.proofs.Steps.{reaches_here, reaches_join}

pub fault_from : (text : List ℕ) (st : TextSoFar) (p : List ℕ × ℕ) (f : TextFault) → Reaches (lines_of text) Nothing (text, 0) st p → IsFaultFrom (lines_of text) st p f → IsTextFault text f
fault_from text st p (fault.Line n) r h = r.wrong n h
fault_from text st p (fault.Data n) r h = absurd h
fault_from text st p fault.NoMemory r h = h

-- the fault of a line that was judged
pub said_fault : {T E : Type 0} (all : List (List ℕ)) (st : TextSoFar) (start : List ℕ × ℕ) (found : Result (Option T) E) (line : ℕ) (f : TextFault) → IsFaultOf found line f
    → (found ≡ Ok None → WrongFrom all st (start.1 + 1) (lines_of start.0) (is_ended start.0) line) → IsFaultFrom all st start f
said_fault all st start found line (fault.Line n) h wrong = subst (λ k. WrongFrom all st (start.1 + 1) (lines_of start.0) (is_ended start.0) k) (sym h.1) (wrong h.0)
said_fault all st start found line (fault.Data n) h wrong = absurd h
said_fault all st start found line fault.NoMemory h wrong = h.1

pub raised_fault : {A : Type 0} (P : TextFault → Type 0) (r : Result A TextFault) (f : TextFault) → P f → IsErrAnd r (λ e. e ≡ f) → IfErr r P
raised_fault P (Ok a) f h e = tt
raised_fault P (Err g) f h e = subst P (sym e) h

pub raised_only : {A : Type 0} (P : A → Type 0) (r : Result A TextFault) (f g : TextFault) → f ≡ g → IsErrAnd r (λ e. e ≡ f) → MatchResult r P (λ e. e ≡ g)
raised_only P (Ok a) f g same e = absurd e
raised_only P (Err h) f g same e = e ∙ same

-- behind the head, behind the items, behind the bytes
pub behind_head : (text : List ℕ) (start p : List ℕ × ℕ) → start ≡ (text, 0) → ((all : List (List ℕ)) → Reaches all Nothing start (Text []) p) → Reaches (lines_of text) Nothing (text, 0) (Text []) p
behind_head text start p e head = subst (λ (s : List ℕ × ℕ). Reaches (lines_of text) Nothing s (Text []) p) e (head (lines_of text))

pub behind_items : (text named : List ℕ) (items : List AsmItem) (n : ℕ) (p q : List ℕ × ℕ) → named ≡ text → Reaches (lines_of text) Nothing (text, 0) (Text []) p → Reaches (lines_of named) (Text []) p (Data items n [] []) q → Reaches (lines_of text) Nothing (text, 0) (Data items n [] []) q
behind_items text named items n p q e head body = reaches_join (lines_of text) Nothing (Text []) (Data items n [] []) (text, 0) p q head (subst (λ (t : List ℕ). Reaches (lines_of t) (Text []) p (Data items n [] []) q) e body)

pub behind_bytes : (text : List ℕ) (items : List AsmItem) (n : ℕ) (bytes : List ℕ) (q r : List ℕ × ℕ) → Reaches (lines_of text) Nothing (text, 0) (Data items n [] []) q
    → ((all : List (List ℕ)) (items : List AsmItem) → Reaches all (Data items n [] []) q (Data items n bytes []) r) → Reaches (lines_of text) Nothing (text, 0) (Data items n bytes []) r
behind_bytes text items n bytes q r body rows = reaches_join (lines_of text) Nothing (Data items n [] []) (Data items n bytes []) (text, 0) q r body (rows (lines_of text) items)

-- a fault of a part is that of the text
pub head_fault : (text : List ℕ) (start : List ℕ × ℕ) (f : TextFault) → start ≡ (text, 0) → ((all : List (List ℕ)) → IsFaultFrom all Nothing start f) → IsTextFault text f
head_fault text start f e h = fault_from text Nothing (text, 0) f (reaches_here (lines_of text) Nothing (text, 0)) (subst (λ (s : List ℕ × ℕ). IsFaultFrom (lines_of text) Nothing s f) e (h (lines_of text)))

pub items_fault : (text named : List ℕ) (p : List ℕ × ℕ) (f : TextFault) → named ≡ text → Reaches (lines_of text) Nothing (text, 0) (Text []) p → IsFaultFrom (lines_of named) (Text []) p f → IsTextFault text f
items_fault text named p f e head h = fault_from text (Text []) p f head (subst (λ (t : List ℕ). IsFaultFrom (lines_of t) (Text []) p f) e h)

pub none_at : (text : List ℕ) (items : List AsmItem) (n : ℕ) (bytes : List ℕ) (fixes : List Fix) (r : List ℕ × ℕ) → Reaches (lines_of text) Nothing (text, 0) (Data items n bytes []) r → length bytes ≡ n
    → ((all : List (List ℕ)) (items : List AsmItem) (bytes : List ℕ) → length bytes ≡ n → WellFrom all (Data items n bytes []) (lines_of r.0) (is_ended r.0) (Data items n bytes fixes)) → NoneWrong text (Data items n bytes fixes)
none_at text items n bytes fixes r reach full end = reach.well (Data items n bytes fixes) (end (lines_of text) items bytes full)
