use Rattle.nd_picture_text.proofs.quoted_steps.+put_spaced.Given as goal

abbrev pub decreases-put_spaced : goal.decreases-put_spaced
decreases-put_spaced g l = l.count
