-- Steps that go row by row: how many rows and columns they make, and which rows of a picture a strip's rows become.
use Rattle.std.proofs.Common.{◌≡◌, ◌∙◌, ℕ, ◌+◌, ◌-◌, ◌*◌, ◌<◌, ◌≤◌, ◌^◌, min, Bool, true, false, cond, List, [], ◌∷◌, length, get_or, drop, drop-cons, add-one, Some, Ok, Err, refl, sym, ap, subst, arith, add-mul, subst₂}
use Rattle.std.specs.Prelude.{◌&&◌, ◌==◌, nat_lt, nat_le, slice_index, if◌then◌else◌}
use Rattle.std.proofs.lemmas.Nat.{div-add-mod', div_below, le-div, mod_below}
use Rattle.std.proofs.lemmas.Bool.Decides.{nat_tests}
use Rattle.std.proofs.lemmas.List.{drop_all}
use Rattle.nd_array_core.specs.ArrayMeaning.{Meaning, meaning_of}
use Rattle.nd_picture_text.specs.declared.step.Step.{Step}
use Rattle.nd_picture_text.specs.declared.step.Step.TheVariants.{Crop, Flip, Flop, RotateQuarter, RotateHalf, RotateBack, Transpose, ScaleDown, Threshold, Invert, Blur, Gray, Border, Shrink, Plain, Raw}
use Rattle.nd_picture.specs.declared.steps_on_row_strips.Strip.{Strip}
use Rattle.nd_picture.specs.PictureChanges.{Picture, Shows, ceiling, rows_from, picture_cropped, picture_flopped, picture_scaled_down, picture_changed, picture_inverted, picture_grayed, light_of, over}
use Rattle.nd_picture.specs.RowwiseSteps.{is_by_rows, are_by_rows, rows_made, rows_made_each, columns_made, HasFactor, TakesAll}
use Rattle.nd_picture.specs.StepListResults.{lie_within, fits, picture_after, after_all}
use Rattle.nd_picture.specs.RowStrips.{rows_in, row_after, IsStripOf, MeetsStep, IsStripAfter, MeetsSteps, IsStripAfterAll}
use Rattle.nd_picture.proofs.BlockMeans.{ceiling_low, block_begins}
use Rattle.nd_picture.proofs.ImageLimitsThroughSteps.{both}

-- ---- what a step that can be taken says of its numbers

pub some_kept : (k : ℕ) → (nat_lt 0 k && nat_lt k (2 ^ 63)) ≡ true → (0 < k) × (k < 2 ^ 63)
some_kept k e =
    let parts = both (nat_lt 0 k) (nat_lt k (2 ^ 63)) e in
    let low : 0 < k = grind (arith, nat_tests, parts.0) in
    let high : k < 2 ^ 63 = grind (arith, nat_tests, parts.1) in
    (low, high)

pub lies : (first count all : ℕ) → lie_within first count all ≡ true → (0 < count) × (first + count ≤ all)
lies first count all e =
    let parts = both (nat_lt 0 count) (nat_le (first + count) all) e in
    let some : 0 < count = grind (arith, nat_tests, parts.0) in
    let few : first + count ≤ all = grind (arith, nat_tests, parts.1) in
    (some, few)

pub factor_of : (maxval rows columns : ℕ) (step : Step) → fits maxval step rows columns ≡ true → HasFactor step
factor_of maxval rows columns (Crop top left height width) e = tt
factor_of maxval rows columns Flip e = tt
factor_of maxval rows columns Flop e = tt
factor_of maxval rows columns RotateQuarter e = tt
factor_of maxval rows columns RotateHalf e = tt
factor_of maxval rows columns RotateBack e = tt
factor_of maxval rows columns Transpose e = tt
factor_of maxval rows columns (ScaleDown k) e = (some_kept k e).0
factor_of maxval rows columns (Threshold limit) e = tt
factor_of maxval rows columns Invert e = tt
factor_of maxval rows columns Blur e = tt
factor_of maxval rows columns Gray e = tt
factor_of maxval rows columns (Border border value) e = tt
factor_of maxval rows columns (Shrink k) e = tt
factor_of maxval rows columns Plain e = tt
factor_of maxval rows columns Raw e = tt

-- ---- rows and columns

gray_sides : (maxval : ℕ) (p : Picture) → ((picture_grayed maxval p).height ≡ p.height) × ((picture_grayed maxval p).width ≡ p.width)
gray_sides maxval p = by_test (p.channels == 3)
  where
    by_test : (t : Bool) → ((if t then light_of maxval p else p).height ≡ p.height) × ((if t then light_of maxval p else p).width ≡ p.width)
    by_test true = (refl, refl)
    by_test false = (refl, refl)

pub sides_made : (maxval : ℕ) (step : Step) (p : Picture) → is_by_rows step ≡ true → fits maxval step p.height p.width ≡ true
    → ((picture_after maxval step p).height ≡ rows_made step p.height) × ((picture_after maxval step p).width ≡ columns_made step p.width)
sides_made maxval (Crop top left height width) p is e =
    let parts = both (lie_within top height p.height) (lie_within left width p.width) e in
    let rows = lies top height p.height parts.0 in
    (omega (arith, rows.1), refl)
sides_made maxval Flip p is e = absurd cc
sides_made maxval Flop p is e = (refl, refl)
sides_made maxval RotateQuarter p is e = absurd cc
sides_made maxval RotateHalf p is e = absurd cc
sides_made maxval RotateBack p is e = absurd cc
sides_made maxval Transpose p is e = absurd cc
sides_made maxval (ScaleDown k) p is e = (refl, refl)
sides_made maxval (Threshold limit) p is e = (refl, refl)
sides_made maxval Invert p is e = (refl, refl)
sides_made maxval Blur p is e = absurd cc
sides_made maxval Gray p is e = gray_sides maxval p
sides_made maxval (Border border value) p is e = absurd cc
sides_made maxval (Shrink k) p is e = absurd cc
sides_made maxval Plain p is e = (refl, refl)
sides_made maxval Raw p is e = (refl, refl)

-- no step makes more rows
pub fewer_rows : (step : Step) (n : ℕ) → HasFactor step → rows_made step n ≤ n
fewer_rows (Crop top left height width) n some = omega arith
fewer_rows Flip n some = omega arith
fewer_rows Flop n some = omega arith
fewer_rows RotateQuarter n some = omega arith
fewer_rows RotateHalf n some = omega arith
fewer_rows RotateBack n some = omega arith
fewer_rows Transpose n some = omega arith
fewer_rows (ScaleDown k) n some = ceiling_low n k some
fewer_rows (Threshold limit) n some = omega arith
fewer_rows Invert n some = omega arith
fewer_rows Blur n some = omega arith
fewer_rows Gray n some = omega arith
fewer_rows (Border border value) n some = omega arith
fewer_rows (Shrink k) n some = omega arith
fewer_rows Plain n some = omega arith
fewer_rows Raw n some = omega arith

-- more rows make as many or more
ceiling_rises : (n m k : ℕ) → 0 < k → n ≤ m → ceiling n k ≤ ceiling m k
ceiling_rises n m k some more =
    let whole = div-add-mod' (n + (k - 1)) k in
    le-div (ceiling n k) (m + (k - 1)) k some (omega (arith, whole, more))

pub rows_rise : (step : Step) (n m : ℕ) → HasFactor step → n ≤ m → rows_made step n ≤ rows_made step m
rows_rise (Crop top left height width) n m some more = omega (arith, more)
rows_rise Flip n m some more = more
rows_rise Flop n m some more = more
rows_rise RotateQuarter n m some more = more
rows_rise RotateHalf n m some more = more
rows_rise RotateBack n m some more = more
rows_rise Transpose n m some more = more
rows_rise (ScaleDown k) n m some more = ceiling_rises n m k some more
rows_rise (Threshold limit) n m some more = more
rows_rise Invert n m some more = more
rows_rise Blur n m some more = more
rows_rise Gray n m some more = more
rows_rise (Border border value) n m some more = more
rows_rise (Shrink k) n m some more = more
rows_rise Plain n m some more = more
rows_rise Raw n m some more = more

-- ---- a list of steps

pub taken_on : (maxval number : ℕ) (step : Step) (steps : List Step) (p q : Picture) → after_all maxval number (step ∷ steps) p ≡ Ok q
    → (fits maxval step p.height p.width ≡ true) × (after_all maxval (number + 1) steps (picture_after maxval step p) ≡ Ok q)
taken_on maxval number step steps p q is = by_test (fits maxval step p.height p.width) refl is
  where
    by_test : (t : Bool) → fits maxval step p.height p.width ≡ t → cond t (after_all maxval (number + 1) steps (picture_after maxval step p)) (Err (number, step)) ≡ Ok q
        → (fits maxval step p.height p.width ≡ true) × (after_all maxval (number + 1) steps (picture_after maxval step p) ≡ Ok q)
    by_test true e taken = (e, taken)
    by_test false e taken = absurd cc

pub take_on : (maxval number : ℕ) (step : Step) (steps : List Step) (p : Picture) → fits maxval step p.height p.width ≡ true → after_all maxval number (step ∷ steps) p ≡ after_all maxval (number + 1) steps (picture_after maxval step p)
take_on maxval number step steps p e = ap (λ t. cond t (after_all maxval (number + 1) steps (picture_after maxval step p)) (Err (number, step))) e

-- the number of the first step doesn't matter where all are taken
pub taken_from : (maxval n m : ℕ) (steps : List Step) (p q : Picture) → after_all maxval n steps p ≡ Ok q → after_all maxval m steps p ≡ Ok q
taken_from maxval n m [] p q is = is
taken_from maxval n m (step ∷ steps) p q is =
    let so = taken_on maxval n step steps p q is in
    take_on maxval m step steps p so.0 ∙ taken_from maxval (n + 1) (m + 1) steps (picture_after maxval step p) q so.1

-- ---- the rows of a strip

pub shown_like : (m : Meaning ℕ) (p q : Picture) → Shows m p → p.height ≡ q.height → p.width ≡ q.width → p.channels ≡ q.channels
    → ((row column channel : ℕ) → row < p.height → column < p.width → channel < p.channels → p.sample_at row column channel ≡ q.sample_at row column channel) → Shows m q
shown_like m p q shows height width channels same = record {
  right_shape = shows.right_shape ∙ (λ t. height t ∷ width t ∷ channels t ∷ []);
  right_samples = λ row column channel a b c.
      (let a' : row < p.height = omega (arith, a, height) in
      let b' : column < p.width = omega (arith, b, width) in
      let c' : channel < p.channels = omega (arith, c, channels) in
      shows.right_samples row column channel a' b' c' ∙ ap (λ s. Some s) (same row column channel a' b' c'));
}

pub rows_shown : (m : Meaning ℕ) (p : Picture) → Shows m p → slice_index m.shape 0 ≡ p.height
rows_shown m p shows = ap (λ ns. slice_index ns 0) shows.right_shape

pub columns_shown : (m : Meaning ℕ) (p : Picture) → Shows m p → slice_index m.shape 1 ≡ p.width
columns_shown m p shows = ap (λ ns. slice_index ns 1) shows.right_shape

-- a strip of a part
module _ (first count top left height width from to skipped : ℕ) (begins : from ≡ min (first - top) height) (ends : to ≡ min (first + count - top) height) (skips : skipped ≡ min (top + from - first) count) where
  pub crop_fits_rows : skipped + (to - from) ≤ count
  crop_fits_rows = omega (arith, begins, ends, skips)

  crop_ends : from + (to - from) ≡ min (first + count - top) height
  crop_ends = omega (arith, begins, ends)

  crop_shown : (m : Meaning ℕ) (p : Picture) → Shows m (picture_cropped skipped left (to - from) width (rows_from first count p)) → Shows m (rows_from from (to - from) (picture_cropped top left height width p))
  crop_shown m p shows =
      shown_like m (picture_cropped skipped left (to - from) width (rows_from first count p)) (rows_from from (to - from) (picture_cropped top left height width p)) shows refl refl refl
      (λ row column channel a b c.
      (let same : first + (skipped + row) ≡ top + (from + row) = omega (arith, begins, ends, skips, a) in
      ap (λ r. p.sample_at r (left + column) channel) same))

  pub crop_after : (s t : Strip) → s.first ≡ first → rows_in s ≡ count → t.first ≡ from
      → ((p : Picture) → Shows (meaning_of s.rows) p → Shows (meaning_of t.rows) (picture_cropped skipped left (to - from) width p))
      → MeetsStep 0 (Crop top left height width) s → IsStripAfter 0 (Crop top left height width) s t
  crop_after s t at counted starts cropped meets =
      let here : Shows (meaning_of s.rows) (rows_from first count meets.1) = subst₂ (λ f c. Shows (meaning_of s.rows) (rows_from f c meets.1)) at counted meets.2.2 in
      let rows : rows_in t ≡ to - from = rows_shown (meaning_of t.rows) _ (cropped (rows_from first count meets.1) here) in
      let last : row_after t ≡ min (row_after s - top) height = omega (arith, rows, starts, crop_ends, at, counted) in (
        λ p is e.
            (let parts = both (lie_within top height p.height) (lie_within left width p.width) e in
            let few = lies top height p.height parts.0 in
            let shown = crop_shown (meaning_of t.rows) p (cropped (rows_from first count p) (subst₂ (λ f c. Shows (meaning_of s.rows) (rows_from f c p)) at counted is.2)) in
            (omega (arith, is.0, few), omega (arith, last), subst₂ (λ f c. Shows (meaning_of t.rows) (rows_from f c (picture_cropped top left height width p))) (sym starts) (sym rows) shown)),
        starts ∙ begins ∙ ap (λ f. min (f - top) height) (sym at),
        last,
      )

-- a strip of every k-th row and column
module _ (first count k from skipped : ℕ) (some : 0 < k) (begins : from ≡ ceiling first k) (skips : skipped ≡ min (from * k - first) count) where
  from_high : first ≤ from * k
  from_high =
      let whole = div-add-mod' (first + (k - 1)) k in
      let below = mod_below (first + (k - 1)) k some in
      let at : from * k ≡ ceiling first k * k = ap (λ n. n * k) begins in
      omega (arith, whole, below, at)

  pub from_low : from * k ≤ first + (k - 1)
  from_low =
      let whole = div-add-mod' (first + (k - 1)) k in
      let at : from * k ≡ ceiling first k * k = ap (λ n. n * k) begins in
      omega (arith, whole, at)

  scale_rows : (row : ℕ) → row < ceiling (count - skipped) k → first + (skipped + row * k) ≡ (from + row) * k
  scale_rows row a =
      let inside : row * k < count - skipped = block_begins (count - skipped) k row some a in
      let both_rows : (from + row) * k ≡ from * k + row * k = add-mul from row k in
      omega (arith, skips, from_high, inside, both_rows)

  -- how many rows there are then
  scale_ends : from + ceiling (count - skipped) k ≡ ceiling (first + count) k
  scale_ends = by_rest (nat_lt skipped count) refl
    where
      by_rest : (t : Bool) → nat_lt skipped count ≡ t → from + ceiling (count - skipped) k ≡ ceiling (first + count) k
      by_rest true e =
          let less : skipped < count = grind (arith, nat_tests, e) in
          let whole = div-add-mod' (count - skipped + (k - 1)) k in
          let below = mod_below (count - skipped + (k - 1)) k some in
          let sum : (from + ceiling (count - skipped) k) * k ≡ from * k + ceiling (count - skipped) k * k = add-mul from (ceiling (count - skipped) k) k in
          let more : (from + ceiling (count - skipped) k + 1) * k ≡ (from + ceiling (count - skipped) k) * k + 1 * k = add-mul (from + ceiling (count - skipped) k) 1 k in
          let low : from + ceiling (count - skipped) k ≤ ceiling (first + count) k = le-div (from + ceiling (count - skipped) k) (first + count + (k - 1)) k some (omega (arith, sum, whole, skips, from_high, less)) in
          let high : ceiling (first + count) k < from + ceiling (count - skipped) k + 1 = div_below (first + count + (k - 1)) k (from + ceiling (count - skipped) k + 1) some (omega (arith, more, sum, whole, below, skips, from_high, less, some)) in
          omega (arith, low, high)
      by_rest false e =
          let all : count ≤ skipped = grind (arith, nat_tests, e) in
          let none : count - skipped ≡ 0 = omega (arith, all) in
          let nothing : ceiling (count - skipped) k < 1 = div_below (count - skipped + (k - 1)) k 1 some (omega (arith, none, some)) in
          let more : (from + 1) * k ≡ from * k + 1 * k = add-mul from 1 k in
          let low : from ≤ ceiling (first + count) k = le-div from (first + count + (k - 1)) k some (omega (arith, from_low)) in
          let high : ceiling (first + count) k < from + 1 = div_below (first + count + (k - 1)) k (from + 1) some (omega (arith, more, skips, all, from_high, some)) in
          omega (arith, nothing, low, high)

  scale_shown : (m : Meaning ℕ) (p : Picture) → Shows m (picture_scaled_down k (rows_from skipped (count - skipped) (rows_from first count p))) → Shows m (rows_from from (ceiling (count - skipped) k) (picture_scaled_down k p))
  scale_shown m p shows =
      shown_like m (picture_scaled_down k (rows_from skipped (count - skipped) (rows_from first count p))) (rows_from from (ceiling (count - skipped) k) (picture_scaled_down k p)) shows refl refl refl
      (λ row column channel a b c. ap (λ r. p.sample_at r (column * k) channel) (scale_rows row a))

  pub scale_after : (s t : Strip) → s.first ≡ first → rows_in s ≡ count → t.first ≡ from
      → ((p : Picture) → Shows (meaning_of s.rows) p → Shows (meaning_of t.rows) (picture_scaled_down k (rows_from skipped (count - skipped) p)))
      → MeetsStep 0 (ScaleDown k) s → IsStripAfter 0 (ScaleDown k) s t
  scale_after s t at counted starts scaled meets =
      let here : Shows (meaning_of s.rows) (rows_from first count meets.1) = subst₂ (λ f c. Shows (meaning_of s.rows) (rows_from f c meets.1)) at counted meets.2.2 in
      let rows : rows_in t ≡ ceiling (count - skipped) k = rows_shown (meaning_of t.rows) _ (scaled (rows_from first count meets.1) here) in
      let after : row_after s ≡ first + count = omega (arith, at, counted) in
      let last : row_after t ≡ ceiling (row_after s) k = (λ i. starts i + rows i) ∙ scale_ends ∙ ap (λ n. ceiling n k) (sym after) in (
        λ p is e.
            (let shown = scale_shown (meaning_of t.rows) p (scaled (rows_from first count p) (subst₂ (λ f c. Shows (meaning_of s.rows) (rows_from f c p)) at counted is.2)) in
            let high = ceiling_low p.height k some in
            let inside = ceiling_rises (row_after s) p.height k some is.1 in
            (omega (arith, is.0, high), omega (arith, last, inside), subst₂ (λ f c. Shows (meaning_of t.rows) (rows_from f c (picture_scaled_down k p))) (sym starts) (sym rows) shown)),
        starts ∙ begins ∙ ap (λ f. ceiling f k) (sym at),
        last,
      )

-- a strip whose rows are changed one by one
pub rows_kept : (maxval : ℕ) (step : Step) (s t : Strip) → ((n : ℕ) → rows_made step n ≡ n) → ((p : Picture) → (picture_after maxval step p).height ≡ p.height)
    → ((p : Picture) (first count : ℕ) → picture_after maxval step (rows_from first count p) ≡ rows_from first count (picture_after maxval step p))
    → t.first ≡ s.first → ((p : Picture) → Shows (meaning_of s.rows) p → Shows (meaning_of t.rows) (picture_after maxval step p)) → MeetsStep maxval step s → IsStripAfter maxval step s t
rows_kept maxval step s t keeps high each starts changed meets =
    let now : (p : Picture) → Shows (meaning_of s.rows) (rows_from s.first (rows_in s) p) → Shows (meaning_of t.rows) (rows_from s.first (rows_in s) (picture_after maxval step p))
    = λ p shows. subst (Shows (meaning_of t.rows)) (each p s.first (rows_in s)) (changed (rows_from s.first (rows_in s) p) shows) in
    let rows : rows_in t ≡ rows_in s = rows_shown (meaning_of t.rows) _ (now meets.1 meets.2.2) in
    let last : row_after t ≡ row_after s = (λ i. starts i + rows i) in (
      λ p is e. (
        omega (arith, is.0, high p),
        omega (arith, is.1, high p, last),
        subst₂ (λ f c. Shows (meaning_of t.rows) (rows_from f c (picture_after maxval step p))) (sym starts) (sym rows) (now p is.2),
      ),
      starts ∙ sym (keeps s.first),
      last ∙ sym (keeps (row_after s)),
    )

-- without colours
gray_rows : (maxval : ℕ) (p : Picture) (first count : ℕ) → picture_grayed maxval (rows_from first count p) ≡ rows_from first count (picture_grayed maxval p)
gray_rows maxval p first count = by_test (p.channels == 3)
  where
    by_test : (t : Bool) → (if t then light_of maxval (rows_from first count p) else rows_from first count p) ≡ rows_from first count (if t then light_of maxval p else p)
    by_test true = refl
    by_test false = refl

module _ (maxval : ℕ) (s t : Strip) (starts : t.first ≡ s.first) where
  pub flop_after : ((p : Picture) → Shows (meaning_of s.rows) p → Shows (meaning_of t.rows) (picture_flopped p)) → MeetsStep maxval Flop s → IsStripAfter maxval Flop s t
  flop_after changed meets = rows_kept maxval Flop s t (λ n. refl) (λ p. refl) (λ p first count. refl) starts changed meets

  pub over_after : (limit : ℕ) → ((p : Picture) → Shows (meaning_of s.rows) p → Shows (meaning_of t.rows) (picture_changed (over maxval limit) p)) → MeetsStep maxval (Threshold limit) s → IsStripAfter maxval (Threshold limit) s t
  over_after limit changed meets = rows_kept maxval (Threshold limit) s t (λ n. refl) (λ p. refl) (λ p first count. refl) starts changed meets

  pub invert_after : ((p : Picture) → Shows (meaning_of s.rows) p → Shows (meaning_of t.rows) (picture_inverted maxval p)) → MeetsStep maxval Invert s → IsStripAfter maxval Invert s t
  invert_after changed meets = rows_kept maxval Invert s t (λ n. refl) (λ p. refl) (λ p first count. refl) starts changed meets

  pub gray_after : ((p : Picture) → Shows (meaning_of s.rows) p → Shows (meaning_of t.rows) (picture_grayed maxval p)) → MeetsStep maxval Gray s → IsStripAfter maxval Gray s t
  gray_after changed meets = rows_kept maxval Gray s t (λ n. refl) (λ p. (gray_sides maxval p).0) (gray_rows maxval) starts changed meets

pub plain_after : (maxval : ℕ) (s : Strip) → MeetsStep maxval Plain s → IsStripAfter maxval Plain s s
plain_after maxval s meets = rows_kept maxval Plain s s (λ n. refl) (λ p. refl) (λ p first count. refl) refl (λ p shows. shows) meets

pub raw_after : (maxval : ℕ) (s : Strip) → MeetsStep maxval Raw s → IsStripAfter maxval Raw s s
raw_after maxval s meets = rows_kept maxval Raw s s (λ n. refl) (λ p. refl) (λ p first count. refl) refl (λ p shows. shows) meets

-- ---- all steps

module _ (maxval : ℕ) (step : Step) (steps : List Step) (s : Strip) where
  pub meets_first : MeetsSteps maxval (step ∷ steps) s → MeetsStep maxval step s
  meets_first meets =
      let rows = both (is_by_rows step) (are_by_rows steps) meets.0 in
      let so = taken_on maxval meets.3 step steps meets.1 meets.2 meets.5 in
      (rows.0, meets.1, meets.4, so.0)

  pub meets_rest : (t : Strip) → MeetsSteps maxval (step ∷ steps) s → IsStripAfter maxval step s t → MeetsSteps maxval steps t
  meets_rest t meets after =
      let rows = both (is_by_rows step) (are_by_rows steps) meets.0 in
      let so = taken_on maxval meets.3 step steps meets.1 meets.2 meets.5 in
      (rows.1, picture_after maxval step meets.1, meets.2, meets.3 + 1, after.0 meets.1 meets.4 so.0, so.1)

  pub after_more : (t u : Strip) → IsStripAfter maxval step s t → IsStripAfterAll maxval steps t u → IsStripAfterAll maxval (step ∷ steps) s u
  after_more t u one all = (
    λ p q number is taken.
        (let so = taken_on maxval number step steps p q taken in
        all.0 (picture_after maxval step p) q (number + 1) (one.0 p is so.0) so.1),
    all.1 ∙ ap (rows_made_each steps) one.1,
    all.2 ∙ ap (rows_made_each steps) one.2,
  )

pub after_none : (maxval : ℕ) (s : Strip) → IsStripAfterAll maxval [] s s
after_none maxval s = (λ p q number is taken. let same : p ≡ q = cc in subst (IsStripOf s) same is, refl, refl)

-- ---- the steps in turn

pub cut : (steps : List Step) (nth : ℕ) (d : Step) → nth < length steps → drop nth steps ≡ get_or steps nth d ∷ drop (nth + 1) steps
cut steps nth d inside = rw (add-one, drop-cons steps nth d) refl

-- whether the steps that are left go by rows
module _ (steps : List Step) (nth : ℕ) (d : Step) (all : Bool) (so_far : are_by_rows (drop nth steps) ≡ all) (inside : nth < length steps) where
  whole : (is_by_rows (get_or steps nth d) && are_by_rows (drop (nth + 1) steps)) ≡ all
  whole = sym (ap are_by_rows (cut steps nth d inside)) ∙ so_far

  pub rows_more : is_by_rows (get_or steps nth d) ≡ true → are_by_rows (drop (nth + 1) steps) ≡ all
  rows_more e = sym (ap (λ t. t && are_by_rows (drop (nth + 1) steps)) e) ∙ whole

  pub rows_stop : is_by_rows (get_or steps nth d) ≡ false → false ≡ all
  rows_stop e = sym (ap (λ t. t && are_by_rows (drop (nth + 1) steps)) e) ∙ whole

pub rows_end : (steps : List Step) (nth : ℕ) (all : Bool) → length steps ≤ nth → are_by_rows (drop nth steps) ≡ all → true ≡ all
rows_end steps nth all end so_far = sym (ap are_by_rows (drop_all nth steps end)) ∙ so_far

pub record AreSidesSoFar (maxval : ℕ) (steps : List Step) (rows columns nth height width : ℕ) : Type 0 where
  pub rest_by_rows : are_by_rows (drop nth steps) ≡ true
  pub runs : (p : Picture) → p.height ≡ rows → p.width ≡ columns → (q : Picture) × (number : ℕ) × (q.height ≡ height) × (q.width ≡ width) × (after_all maxval number (drop nth steps) q ≡ after_all maxval 1 steps p)

pub sides_none : (maxval : ℕ) (steps : List Step) (rows columns : ℕ) → are_by_rows steps ≡ true → AreSidesSoFar maxval steps rows columns 0 rows columns
sides_none maxval steps rows columns is = record { rest_by_rows = is; runs = λ p high wide. (p, 1, high, wide, refl) }

module _ (maxval : ℕ) (steps : List Step) (rows columns nth height width : ℕ) (d : Step) (inside : nth < length steps) (so : AreSidesSoFar maxval steps rows columns nth height width) (fitting : fits maxval (get_or steps nth d) height width ≡ true) where
  pub sides_more : (height' width' : ℕ) → height' ≡ rows_made (get_or steps nth d) height → width' ≡ columns_made (get_or steps nth d) width → AreSidesSoFar maxval steps rows columns (nth + 1) height' width'
  sides_more height' width' high wide =
      let step = get_or steps nth d in
      let these : (is_by_rows step && are_by_rows (drop (nth + 1) steps)) ≡ true = sym (ap are_by_rows (cut steps nth d inside)) ∙ so.rest_by_rows in
      let both_rows = both (is_by_rows step) (are_by_rows (drop (nth + 1) steps)) these in
      record {
        rest_by_rows = both_rows.1;
        runs = λ p at_first wide_first.
            (let was = so.runs p at_first wide_first in
            let q = was.0 in
            let fitted : fits maxval step q.height q.width ≡ true = (λ t. fits maxval step (was.2 t) (was.3 t)) ∙ fitting in
            let sides = sides_made maxval step q both_rows.0 fitted in (
              picture_after maxval step q,
              was.1 + 1,
              sides.0 ∙ ap (rows_made step) was.2 ∙ sym high,
              sides.1 ∙ ap (columns_made step) was.3 ∙ sym wide,
              sym (take_on maxval was.1 step (drop (nth + 1) steps) q fitted) ∙ sym (ap (λ rest. after_all maxval was.1 rest q) (cut steps nth d inside)) ∙ was.4,
            ));
      }

pub sides_end : (maxval : ℕ) (steps : List Step) (rows columns nth height width : ℕ) → length steps ≤ nth → AreSidesSoFar maxval steps rows columns nth height width → TakesAll maxval steps rows columns (height, width)
sides_end maxval steps rows columns nth height width end so p at_first wide_first =
    let was = so.runs p at_first wide_first in
    (was.0, sym was.4 ∙ ap (λ rest. after_all maxval was.1 rest was.0) (drop_all nth steps end), was.2, was.3)

pub record IsStripSoFar (maxval : ℕ) (steps : List Step) (s : Strip) (nth : ℕ) (t : Strip) : Type 0 where
  pub met : MeetsSteps maxval (drop nth steps) t
  pub goes_on : (u : Strip) → IsStripAfterAll maxval (drop nth steps) t u → IsStripAfterAll maxval steps s u

pub strip_none : (maxval : ℕ) (steps : List Step) (s : Strip) → MeetsSteps maxval steps s → IsStripSoFar maxval steps s 0 s
strip_none maxval steps s meets = record { met = meets; goes_on = λ u all. all }

module _ (maxval : ℕ) (steps : List Step) (s : Strip) (nth : ℕ) (t : Strip) (d : Step) (inside : nth < length steps) (so : IsStripSoFar maxval steps s nth t) where
  met_now : MeetsSteps maxval (get_or steps nth d ∷ drop (nth + 1) steps) t
  met_now = subst (λ rest. MeetsSteps maxval rest t) (cut steps nth d inside) so.met

  pub strip_meets : MeetsStep maxval (get_or steps nth d) t
  strip_meets = meets_first maxval (get_or steps nth d) (drop (nth + 1) steps) t met_now

  pub strip_more : (u : Strip) → IsStripAfter maxval (get_or steps nth d) t u → IsStripSoFar maxval steps s (nth + 1) u
  strip_more u after = record {
    met = meets_rest maxval (get_or steps nth d) (drop (nth + 1) steps) t u met_now after;
    goes_on = λ v all. so.goes_on v (subst (λ rest. IsStripAfterAll maxval rest t v) (sym (cut steps nth d inside)) (after_more maxval (get_or steps nth d) (drop (nth + 1) steps) t u v after all));
  }

pub strip_end : (maxval : ℕ) (steps : List Step) (s : Strip) (nth : ℕ) (t : Strip) → length steps ≤ nth → IsStripSoFar maxval steps s nth t → IsStripAfterAll maxval steps s t
strip_end maxval steps s nth t end so = so.goes_on t (subst (λ rest. IsStripAfterAll maxval rest t t) (sym (drop_all nth steps end)) (after_none maxval t))
