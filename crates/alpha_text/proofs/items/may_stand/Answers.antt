use Rattle.alpha_text.proofs.items.may_stand.Goals as goal

pub returns-in-Item : goal.returns-in-Item
returns-in-Item c = rw c.in-Item.is (c.fits.ensures c.args.items.now c.requires.seen)
