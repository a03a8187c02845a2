-- The lines of a text joined again are the text.
use Rattle.std.proofs.Common.{◌≡◌, ℕ, Bool, true, false, cond, eqb, List, [], ◌∷◌, refl, ap}
use Rattle.std.proofs.lemmas.Bool.{eqb-true}
use Rattle.nd_text.specs.LinesAndWords.{before_first, lines_of}
use Rattle.nd_text.specs.JoinedLinesLaw.{joined_lines, with_last_feed, LinesJoinAgain}

feed_by : (t : Bool) (c : ℕ) → [] ≡ cond t (c ∷ []) (c ∷ 10 ∷ []) → ⊥
feed_by true c e = absurd cc
feed_by false c e = absurd cc

some_feed : (c : ℕ) (cs : List ℕ) → [] ≡ with_last_feed (c ∷ cs) → ⊥
some_feed c [] e = feed_by (eqb c 10) c e
some_feed c (d ∷ ds) e = absurd cc

front_joined : (b c : ℕ) (cs : List ℕ) (parts : List (List ℕ)) → joined_lines parts ≡ with_last_feed (c ∷ cs) → joined_lines (before_first b parts) ≡ b ∷ with_last_feed (c ∷ cs)
front_joined b c cs [] e = absurd (some_feed c cs e)
front_joined b c cs (part ∷ parts) e = ap (λ (l : List ℕ). b ∷ l) e

join_by : (t : Bool) (b : ℕ) (bs : List ℕ) → eqb b 10 ≡ t → joined_lines (lines_of bs) ≡ with_last_feed bs → joined_lines (lines_of (b ∷ bs)) ≡ with_last_feed (b ∷ bs)
join_by true b [] is e = rw (is, eqb-true b 10 is) refl
join_by false b [] is e = rw is refl
join_by true b (c ∷ cs) is e = rw (is, eqb-true b 10 is) (ap (λ (l : List ℕ). 10 ∷ l) e)
join_by false b (c ∷ cs) is e = rw is (front_joined b c cs (lines_of (c ∷ cs)) e)

pub lines_join : LinesJoinAgain
lines_join [] = refl
lines_join (b ∷ bs) = join_by (eqb b 10) b bs refl (lines_join bs)
