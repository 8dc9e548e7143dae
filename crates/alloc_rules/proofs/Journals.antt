-- Where temporaries are wanted is told by a function, so an allocation has one journal.
use Rattle.std.proofs.Common.{◌≡◌, ℕ, Bool, sym, ap, ◌∙◌}
use Rattle.std.proofs.Math.Path.{fun_ext}
use Rattle.alloc_model.specs.Places.{Plan}
use Rattle.alloc_rules.specs.Visits.{Wants, AreWants}
use Rattle.alloc_rules.specs.Journal.{journal_of, JournalsAreUnique}
use Rattle.alloc_rules.proofs.Sets.{same_bool}

module _ (a : Plan) (v w : Wants) (are : AreWants a v) (others : AreWants a w) where
  same_lives : v.live ≡ w.live
  same_lives =
      fun_ext (λ t. fun_ext (λ block. fun_ext (λ at. same_bool (v.live t block at) (w.live t block at)
      (λ h. (others.lives t block at).1 ((are.lives t block at).0 h)) (λ h. (are.lives t block at).1 ((others.lives t block at).0 h)))))

  same_presents : v.present ≡ w.present
  same_presents =
      fun_ext (λ t. fun_ext (λ point. same_bool (v.present t point) (w.present t point)
      (λ h. (others.presents t point).1 ((are.presents t point).0 h)) (λ h. (are.presents t point).1 ((others.presents t point).0 h))))

  pub same_journal : journal_of a v ≡ journal_of a w
  same_journal =
      ap (λ (live : (t block at : ℕ) → Bool). journal_of a (record { live = live; present = v.present })) same_lives
      ∙ ap (λ (present : (t point : ℕ) → Bool). journal_of a (record { live = w.live; present = present })) same_presents

pub one_journal : JournalsAreUnique
one_journal a journal other i j = i.is ∙ same_journal a i.wants j.wants i.are_wants j.are_wants ∙ sym j.is
