-- Steps taken one after the other.
use Rattle.std.proofs.Common.{◌≡◌, ◌∙◌, ℕ, ◌+◌, ◌<◌, ◌≤◌, Bool, true, false, cond, List, [], ◌∷◌, length, get_or, drop, drop-cons, add-one, Result, Ok, Err, refl, sym, ap, subst, arith}
use Rattle.std.specs.Prelude.{slice_index, IfErr}
use Rattle.std.proofs.lemmas.List.{drop_all}
use Rattle.nd_array_core.specs.ArrayMeaning.{Meaning}
use Rattle.nd_picture_text.specs.declared.image_formats.Kind.{Kind}
use Rattle.nd_picture_text.specs.declared.step.Step.{Step}
use Rattle.nd_picture.specs.PictureChanges.{Picture, Shows}
use Rattle.nd_picture.specs.StepListResults.{fits, picture_after, kind_after, kind_after_each, after_all, after_each}

-- the number of a step that can't be taken is that of one of the steps
later : (number : ℕ) (end : Result Picture (ℕ × Step)) → IfErr end (λ refused. number + 1 ≤ refused.0) → IfErr end (λ refused. number ≤ refused.0)
later number (Ok p) h = tt
later number (Err n) h = omega (arith, h)

numbered_from : (maxval number : ℕ) (steps : List Step) (q : Picture) → IfErr (after_all maxval number steps q) (λ refused. number ≤ refused.0)
numbered_from maxval number [] q = tt
numbered_from maxval number (step ∷ steps) q = by_test (after_all maxval (number + 1) steps (picture_after maxval step q)) (fits maxval step q.height q.width) (numbered_from maxval (number + 1) steps (picture_after maxval step q))
  where
    by_test : (end : Result Picture (ℕ × Step)) (t : Bool) → IfErr end (λ refused. number + 1 ≤ refused.0) → IfErr (cond t end (Err (number, step))) (λ refused. number ≤ refused.0)
    by_test end true h = later number end h
    by_test end false h = omega arith

following : (nth : ℕ) (end : Result Picture (ℕ × Step)) → IfErr end (λ refused. nth + 1 + 1 ≤ refused.0) → IfErr end (λ refused. nth + 1 < refused.0)
following nth (Ok p) h = tt
following nth (Err n) h = omega (arith, h)

module _ (maxval nth : ℕ) (steps : List Step) (d : Step) (m : Meaning ℕ) (q : Picture) (all : Result Picture (ℕ × Step)) (shows : Shows m q) (so_far : after_all maxval (nth + 1) (drop nth steps) q ≡ all) where
  -- what is left begins with the step at hand
  cut : nth < length steps → after_all maxval (nth + 1) (get_or steps nth d ∷ drop (nth + 1) steps) q ≡ all
  cut inside =
      let parts : drop nth steps ≡ get_or steps nth d ∷ drop (nth + 1) steps = rw (add-one, drop-cons steps nth d) refl in
      ap (λ rest. after_all maxval (nth + 1) rest q) (sym parts) ∙ so_far

  fitting : (t : Bool) → fits maxval (get_or steps nth d) (slice_index m.shape 0) (slice_index m.shape 1) ≡ t → fits maxval (get_or steps nth d) q.height q.width ≡ t
  fitting t e = ap (λ ns. fits maxval (get_or steps nth d) (slice_index ns 0) (slice_index ns 1)) (sym shows.right_shape) ∙ e

  pub run_more : nth < length steps → fits maxval (get_or steps nth d) (slice_index m.shape 0) (slice_index m.shape 1) ≡ true → after_all maxval (nth + 1 + 1) (drop (nth + 1) steps) (picture_after maxval (get_or steps nth d) q) ≡ all
  run_more inside e = ap (λ t. cond t (after_all maxval (nth + 1 + 1) (drop (nth + 1) steps) (picture_after maxval (get_or steps nth d) q)) (Err (nth + 1, get_or steps nth d))) (sym (fitting true e)) ∙ cut inside

  pub run_stops : nth < length steps → fits maxval (get_or steps nth d) (slice_index m.shape 0) (slice_index m.shape 1) ≡ false → all ≡ Err (nth + 1, get_or steps nth d)
  run_stops inside e = sym (ap (λ t. cond t (after_all maxval (nth + 1 + 1) (drop (nth + 1) steps) (picture_after maxval (get_or steps nth d) q)) (Err (nth + 1, get_or steps nth d))) (sym (fitting false e)) ∙ cut inside)

  -- after a step that is taken comes the first that can't be, where there is one
  pub run_goes_on : nth < length steps → fits maxval (get_or steps nth d) (slice_index m.shape 0) (slice_index m.shape 1) ≡ true → IfErr all (λ refused. nth + 1 < refused.0)
  run_goes_on inside e =
      subst (λ end. IfErr end (λ refused. nth + 1 < refused.0)) (run_more inside e)
      (following nth (after_all maxval (nth + 1 + 1) (drop (nth + 1) steps) (picture_after maxval (get_or steps nth d) q)) (numbered_from maxval (nth + 1 + 1) (drop (nth + 1) steps) (picture_after maxval (get_or steps nth d) q)))

-- no step is left
pub run_ends : (maxval nth : ℕ) (steps : List Step) (q : Picture) (all : Result Picture (ℕ × Step)) → after_all maxval (nth + 1) (drop nth steps) q ≡ all → length steps ≤ nth → all ≡ Ok q
run_ends maxval nth steps q all so_far end = sym so_far ∙ ap (λ rest. after_all maxval (nth + 1) rest q) (drop_all nth steps end)

-- where all steps are taken, what they end with
pub each_taken : (maxval number : ℕ) (steps : List Step) (p q : Picture) → after_all maxval number steps p ≡ Ok q → q ≡ after_each maxval steps p
each_taken maxval number [] p q is = cc
each_taken maxval number (step ∷ steps) p q is = by_test (fits maxval step p.height p.width) (each_taken maxval (number + 1) steps (picture_after maxval step p) q) is
  where
    by_test : {left : Result Picture (ℕ × Step)} {end : Picture} (t : Bool) → (left ≡ Ok q → q ≡ end) → cond t left (Err (number, step)) ≡ Ok q → q ≡ end
    by_test true taken is = taken is
    by_test false taken is = absurd cc

-- the formats between the steps
pub kinds_more : (nth : ℕ) (steps : List Step) (d : Step) (last next whole : Kind) → nth < length steps → next ≡ kind_after (get_or steps nth d) last → kind_after_each (drop nth steps) last ≡ whole → kind_after_each (drop (nth + 1) steps) next ≡ whole
kinds_more nth steps d last next whole inside is so_far =
    let parts : drop nth steps ≡ get_or steps nth d ∷ drop (nth + 1) steps = rw (add-one, drop-cons steps nth d) refl in
    ap (kind_after_each (drop (nth + 1) steps)) is ∙ sym (ap (λ rest. kind_after_each rest last) parts) ∙ so_far

pub kinds_end : (nth : ℕ) (steps : List Step) (last whole : Kind) → length steps ≤ nth → kind_after_each (drop nth steps) last ≡ whole → last ≡ whole
kinds_end nth steps last whole end so_far = sym (ap (λ rest. kind_after_each rest last) (drop_all nth steps end)) ∙ so_far
