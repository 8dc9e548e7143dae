-- What steps note is added to what was noted.
use Rattle.std.proofs.Common.{◌≡◌, ℕ, Bool, true, false, ◌&&◌, IsTrue, List, [], ◌∷◌, ◌++◌, refl, ap, ◌∙◌, append_assoc}
use Rattle.std.specs.List.{list_all}
use Rattle.c_typing_state.specs.declared.notes.Notes.{Notes}
use Rattle.c_typing_judgements.specs.Leaves.{incomplete_struct}
use Rattle.c_typing_expression_sound.specs.c_note_laws.Steps.{is_sized, NoteSteps}
use Rattle.c_typing_expression_sound.specs.c_note_laws.Laws.{StandsFirst, OnlyAdds}

append_none : {A : Type 0} (xs : List A) → xs ≡ xs ++ []
append_none [] = refl
append_none (x ∷ xs) = ap (λ ys. x ∷ ys) (append_none xs)

itself : {A : Type 0} (xs : List A) → StandsFirst xs xs
itself xs = record { more = []; same = append_none xs }

one_more : {A : Type 0} (xs : List A) (x : A) → StandsFirst xs (xs ++ x ∷ [])
one_more xs x = record { more = x ∷ []; same = refl }

farther : {A : Type 0} (xs ys zs : List A) → StandsFirst xs ys → StandsFirst ys zs → StandsFirst xs zs
farther xs ys zs h g = record { more = h.more ++ g.more; same = g.same ∙ (ap (λ l. l ++ g.more) h.same ∙ append_assoc xs h.more g.more) }

all_more : (texts : List (List ℕ)) (text : List ℕ) → IsTrue (list_all is_sized texts) → IsTrue (is_sized text) → IsTrue (list_all is_sized (texts ++ text ∷ []))
all_more [] text h k = ap (λ b. b && true) k
all_more (x ∷ texts) text h k = by (is_sized x) h (λ rest. all_more texts text rest k)
  where
    by : (b : Bool) → IsTrue (b && list_all is_sized texts) → (IsTrue (list_all is_sized texts) → IsTrue (list_all is_sized (texts ++ text ∷ []))) → IsTrue (b && list_all is_sized (texts ++ text ∷ []))
    by true h f = f h
    by false h f = h

pub steps_add : {n later : Notes} → NoteSteps n later → OnlyAdds n later
steps_add {n = n} NoteSteps.Stays = record { structs = itself n.structs; faults = itself n.faults; texts = itself n.texts; first = refl; sized = λ h. h }
steps_add {n = n} (NoteSteps.Follows {m = m} {later = later} h g) =
    let a = steps_add h in
    let b = steps_add g in
    record {
      structs = farther n.structs m.structs later.structs a.structs b.structs;
      faults = farther n.faults m.faults later.faults a.faults b.faults;
      texts = farther n.texts m.texts later.texts a.texts b.texts;
      first = b.first ∙ a.first;
      sized = λ k. b.sized (a.sized k);
    }
steps_add {n = n} (NoteSteps.AddsFault at kind) = record { structs = itself n.structs; faults = one_more n.faults _; texts = itself n.texts; first = refl; sized = λ h. h }
steps_add {n = n} (NoteSteps.AddsUse number at) = record { structs = itself n.structs; faults = itself n.faults; texts = itself n.texts; first = refl; sized = λ h. h }
steps_add {n = n} (NoteSteps.ListsAddresses addressed) = record { structs = itself n.structs; faults = itself n.faults; texts = itself n.texts; first = refl; sized = λ h. h }
steps_add {n = n} (NoteSteps.AddsText bytes k) = record { structs = itself n.structs; faults = itself n.faults; texts = one_more n.texts bytes; first = refl; sized = λ h. all_more n.texts bytes h k }
steps_add {n = n} (NoteSteps.Aside inner) =
    let a = steps_add inner in
    record { structs = a.structs; faults = a.faults; texts = itself n.texts; first = a.first; sized = λ h. h }
steps_add {n = n} (NoteSteps.AddsEnum name) = record { structs = itself n.structs; faults = itself n.faults; texts = itself n.texts; first = refl; sized = λ h. h }
steps_add {n = n} (NoteSteps.AddsStruct name) = record { structs = one_more n.structs (incomplete_struct name); faults = itself n.faults; texts = itself n.texts; first = refl; sized = λ h. h }
