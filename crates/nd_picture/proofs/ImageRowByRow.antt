-- An image that is changed row by row: the rows so far, the next ones, and what they come to.
use Rattle.std.proofs.Common.{◌≡◌, ◌∙◌, ℕ, ◌+◌, ◌-◌, ◌*◌, ◌≤◌, Bool, true, false, cond, List, [], ◌∷◌, ◌++◌, length, length-append, length-drop, drop, Option, None, Some, IfSome, IfOk, IfErr, Result, Ok, Err, inl, inr, refl, sym, ap, subst, arith, subst₂}
use Rattle.std.specs.Prelude.{All, slice_index, ◌==◌}
use Rattle.std.proofs.lemmas.Bool.Decides.{nat_tests}
use Rattle.std.specs.Io.KnownBytes.{prepend_known}
use Rattle.std.proofs.lemmas.List.Elements.{All-append}
use Rattle.std.proofs.lemmas.Option.{get_or_from_slice_get}
use Rattle.nd_array_core.specs.ArrayMeaning.{Meaning, meaning_of}
use Rattle.nd_text.specs.declared.watched_streams.Watched.{Watched}
use Rattle.nd_text.specs.WatchedReadersAndWriters.{GetsFlushed}
use Rattle.nd_text.specs.BufferedPrinting.{Puts, TakesText}
use Rattle.nd_text.proofs.PrintingInTurn.{puts_nothing, puts_then, all_taken}
use Rattle.nd_picture_text.specs.declared.image_formats.Kind.{Kind}
use Rattle.nd_picture_text.specs.declared.image_formats.Kind.TheVariants.{PlainBitmap, PlainGrey, PlainColour, RawBitmap, RawGrey, RawColour}
use Rattle.nd_picture_text.specs.declared.image_formats.Header.{Header}
use Rattle.nd_picture_text.specs.declared.image_formats.Image.{Image}
use Rattle.nd_picture_text.specs.declared.step.Step.{Step}
use Rattle.nd_picture_text.specs.declared.step.Step.TheVariants.{Crop, Flip, Flop, RotateQuarter, RotateHalf, RotateBack, Transpose, ScaleDown, Threshold, Invert, Blur, Gray, Border, Shrink, Plain, Raw}
use Rattle.nd_picture_text.specs.declared.errors.ImageFlaw.{ImageFlaw}
use Rattle.nd_picture_text.specs.declared.rows_from_stream.RowsError.{RowsError}
use Rattle.nd_picture_text.specs.declared.rows_from_stream.RowsError.TheVariants as rows
use Rattle.nd_picture_text.specs.ImageFormatsAndHeaders.{Pixmap, pixmap_of, pixmap_with, IsHeader, IsWholeImage, channels_of, gray_kind, sample_count}
use Rattle.nd_picture_text.specs.NumbersInImageText.{◌>>=◌}
use Rattle.nd_picture_text.specs.ImageReading.{ImageStop, raster_in, image_header_in, image_in, counted}
use Rattle.nd_picture_text.specs.RowwiseImageReading.{with_rows, row_samples, samples_of_rows, raster_rows, TakesRows, IsBadRow, TellsBadRow, is_rows_failure}
use Rattle.nd_picture_text.specs.ImageWriting.{image_header_text, raster_text, image_text}
use Rattle.nd_picture_text.proofs.RawRows.{more_samples, no_samples, written_then, written_none}
use Rattle.nd_picture_text.proofs.TakenRows.{takes_read, takes_bad}
use Rattle.nd_picture.specs.declared.image_row_by_row.Plan.{Plan}
use Rattle.nd_picture.specs.declared.read_change_and_write.Fault.{Fault}
use Rattle.nd_picture.specs.declared.read_change_and_write.Fault.TheVariants.{BadStep, BadByte, Refused, Memory, ReadFailed}
use Rattle.nd_picture.specs.declared.steps_on_row_strips.Strip.{Strip}
use Rattle.nd_picture.specs.RowStrips.{rows_in, row_after, IsStripOf, MeetsSteps, IsStripAfterAll}
use Rattle.nd_picture.specs.RowByRowOutput.{GoesByRows, MakesOfFirst, BeginsRows, ArePictureRows, AreSomeRows, ShowsRowsMade, MakesRows, IsFaultAfter, IsRowFault, PutsMade, PutsFirst, PutsRows}
use Rattle.nd_picture.specs.OutputAndStatus.{is_failed_read, HasGoodSteps, Makes, IsTextBefore, WritesImage, WritesBefore}
use Rattle.nd_picture.specs.PictureSampleLists.{Lists, sample_number, picture_in, IsImageOf}
use Rattle.nd_picture.specs.PictureChanges.{Picture, Shows, rows_from, light_of, picture_grayed}
use Rattle.nd_picture.specs.RowwiseSteps.{is_by_rows, are_by_rows, rows_made, rows_made_each, rows_made_between}
use Rattle.nd_picture.specs.StepListResults.{picture_after, kind_after, kind_after_each, header_after, after_all}
use Rattle.nd_picture.proofs.ImageLimitsThroughSteps.{both, plain_channels, raw_channels, header_allowed, image_whole, picture_fits, steps_fit}
use Rattle.nd_picture.proofs.RowSampleLists.{rows_join, rows_split, first_rows, no_rows, all_rows, same_rows}
use Rattle.nd_picture.proofs.RowwiseSteps.{sides_made, taken_on, fewer_rows, factor_of, rows_shown, shown_like}
use Rattle.nd_picture.proofs.OutcomeOfFaultyInput.{some_header}

-- of no row none is made
none_made : (maxval number : ℕ) (steps : List Step) (p q : Picture) → after_all maxval number steps p ≡ Ok q → rows_made_each steps 0 ≡ 0
none_made maxval number [] p q taken = refl
none_made maxval number (step ∷ steps) p q taken =
    let so = taken_on maxval number step steps p q taken in
    let few = fewer_rows step 0 (factor_of maxval p.height p.width step so.0) in
    let none : rows_made step 0 ≡ 0 = omega (arith, few) in
    ap (rows_made_each steps) none ∙ none_made maxval (number + 1) steps _ q so.1

-- the rows of a picture that the steps make of all
each_high : (maxval number : ℕ) (steps : List Step) (p q : Picture) → are_by_rows steps ≡ true → after_all maxval number steps p ≡ Ok q → q.height ≡ rows_made_each steps p.height
each_high maxval number [] p q is taken = let same : p ≡ q = cc in ap (λ (r : Picture). r.height) (sym same)
each_high maxval number (step ∷ steps) p q is taken =
    let rows = both (is_by_rows step) (are_by_rows steps) is in
    let so = taken_on maxval number step steps p q taken in
    each_high maxval (number + 1) steps _ q rows.1 so.1 ∙ ap (rows_made_each steps) (sides_made maxval step p rows.0 so.0).0

-- ---- rows as a strip

-- the strip of an image that is some rows of a picture
strip_of : (steps : List Step) (first : ℕ) (image : Pixmap) (s : Strip) (p q : Picture) → s.first ≡ first → Shows (meaning_of s.rows) (picture_in image) → ArePictureRows steps first image p q → IsStripOf s p × (row_after s ≡ first + image.header.height)
strip_of steps first image s p q at shown of =
    let high : rows_in s ≡ image.header.height = rows_shown (meaning_of s.rows) (picture_in image) shown in
    let lists = of.4 in
    let now : Shows (meaning_of s.rows) (rows_from first image.header.height p) =
    shown_like (meaning_of s.rows) (picture_in image) (rows_from first image.header.height p) shown refl (sym of.2) (sym of.3)
    (λ row column channel a b c.
    (let here = lists.right_samples row column channel a (omega (arith, b, of.2)) (omega (arith, c, of.3)) in
    let place : sample_number image.header.width (channels_of image.header.kind) row column channel ≡ sample_number p.width p.channels row column channel = (λ i. sample_number (sym of.2 i) (sym of.3 i) row column channel) in
    ap (slice_index image.samples) place ∙ get_or_from_slice_get image.samples (sample_number p.width p.channels row column channel) (p.sample_at (first + row) column channel) 0 here)) in (
      (of.0, omega (arith, at, high, of.1), subst₂ (λ f c. Shows (meaning_of s.rows) (rows_from f c p)) (sym at) (sym high) now),
      (λ i. at i + high i),
    )

pub strip_meets_all : (steps : List Step) (first : ℕ) (image : Pixmap) (s : Strip) → s.first ≡ first → Shows (meaning_of s.rows) (picture_in image) → AreSomeRows steps first image → MeetsSteps image.header.maxval steps s
strip_meets_all steps first image s at shown some = (some.0, some.1, some.2, 1, (strip_of steps first image s some.1 some.2 at shown some.3).0, some.3.5)

-- and what the steps make of it
pub strip_shows : (steps : List Step) (first : ℕ) (image : Pixmap) (s t : Strip) (m : Meaning ℕ) → s.first ≡ first → Shows (meaning_of s.rows) (picture_in image) → IsStripAfterAll image.header.maxval steps s t
    → ((p : Picture) → Shows (meaning_of t.rows) p → Shows m p) → ShowsRowsMade steps first image m
strip_shows steps first image s t m at shown after laid p q of =
    let strip = strip_of steps first image s p q at shown of in
    let made = after.0 p q 1 strip.0 of.5 in
    let starts : t.first ≡ rows_made_each steps first = after.1 ∙ ap (rows_made_each steps) at in
    let ends : row_after t ≡ rows_made_each steps (first + image.header.height) = after.2 ∙ ap (rows_made_each steps) strip.1 in
    (rows_in t, (λ i. sym starts i + rows_in t) ∙ ends, laid _ (subst (λ f. Shows (meaning_of t.rows) (rows_from f (rows_in t) q)) starts made.2))

pub rows_listed : (steps : List Step) (first : ℕ) (image : Pixmap) (m : Meaning ℕ) (ys : List ℕ) → ShowsRowsMade steps first image m → ((p : Picture) → Shows m p → Lists ys p) → MakesRows steps first image ys
rows_listed steps first image m ys shows lists p q of =
    let made = shows p q of in
    (made.0, made.1, lists _ made.2)

-- and in which bytes it is written
pub rows_written : (steps : List Step) (first count : ℕ) (image : Pixmap) (m : Meaning ℕ) (after made : Header) (ys : List ℕ) → AreSomeRows steps first image → ShowsRowsMade steps first image m → count ≡ slice_index m.shape 0 → made ≡ with_rows count after
    → raster_text (pixmap_with made ys) ≡ raster_rows after (rows_made_between steps first image.header.height) ys
rows_written steps first count image m after made ys some shows high headed =
    let shown = shows some.1 some.2 some.3 in
    let rows : slice_index m.shape 0 ≡ shown.0 = rows_shown m _ shown.2 in
    let same : count ≡ rows_made_between steps first image.header.height = omega (arith, high, rows, shown.1) in
    ap (λ (h : Header). raster_text (pixmap_with h ys)) headed ∙ ap (λ n. raster_rows after n ys) same

-- ---- the channels of a picture after the steps

grayed_channels : (maxval : ℕ) (kind : Kind) (p : Picture) → p.channels ≡ channels_of kind → (picture_grayed maxval p).channels ≡ channels_of (gray_kind kind)
grayed_channels maxval kind p is = by_test (p.channels == 3) refl
  where
    three : (k : Kind) → channels_of k ≡ 3 → channels_of (gray_kind k) ≡ 1
    three PlainBitmap e = refl
    three PlainGrey e = refl
    three PlainColour e = refl
    three RawBitmap e = refl
    three RawGrey e = refl
    three RawColour e = refl

    other : (k : Kind) → (channels_of k == 3) ≡ false → channels_of k ≡ channels_of (gray_kind k)
    other PlainBitmap e = refl
    other PlainGrey e = refl
    other PlainColour e = absurd cc
    other RawBitmap e = refl
    other RawGrey e = refl
    other RawColour e = absurd cc

    by_test : (t : Bool) → (p.channels == 3) ≡ t → (cond t (light_of maxval p) p).channels ≡ channels_of (gray_kind kind)
    by_test true e = let all : p.channels ≡ 3 = grind (arith, nat_tests, e) in sym (three kind (sym is ∙ all))
    by_test false e = is ∙ other kind (ap (λ n. n == 3) (sym is) ∙ e)

step_channels : (maxval : ℕ) (step : Step) (kind : Kind) (p : Picture) → is_by_rows step ≡ true → p.channels ≡ channels_of kind → (picture_after maxval step p).channels ≡ channels_of (kind_after step kind)
step_channels maxval (Crop top left height width) kind p is e = e
step_channels maxval Flip kind p is e = absurd cc
step_channels maxval Flop kind p is e = e
step_channels maxval RotateQuarter kind p is e = absurd cc
step_channels maxval RotateHalf kind p is e = absurd cc
step_channels maxval RotateBack kind p is e = absurd cc
step_channels maxval Transpose kind p is e = absurd cc
step_channels maxval (ScaleDown k) kind p is e = e
step_channels maxval (Threshold limit) kind p is e = e
step_channels maxval Invert kind p is e = e
step_channels maxval Blur kind p is e = absurd cc
step_channels maxval Gray kind p is e = grayed_channels maxval kind p e
step_channels maxval (Border border value) kind p is e = absurd cc
step_channels maxval (Shrink k) kind p is e = absurd cc
step_channels maxval Plain kind p is e = e ∙ plain_channels kind
step_channels maxval Raw kind p is e = e ∙ raw_channels kind

each_channels : (maxval number : ℕ) (steps : List Step) (kind : Kind) (p q : Picture) → are_by_rows steps ≡ true → p.channels ≡ channels_of kind → after_all maxval number steps p ≡ Ok q → q.channels ≡ channels_of (kind_after_each steps kind)
each_channels maxval number [] kind p q is e taken = let same : p ≡ q = cc in ap (λ (r : Picture). r.channels) (sym same) ∙ e
each_channels maxval number (step ∷ steps) kind p q is e taken =
    let rows = both (is_by_rows step) (are_by_rows steps) is in
    let so = taken_on maxval number step steps p q taken in
    each_channels maxval (number + 1) steps (kind_after step kind) _ q rows.1 (step_channels maxval step kind p rows.0 e) so.1

-- an image that goes row by row
module _ (steps : List Step) (h after : Header) (is : IsHeader h) (goes : GoesByRows steps h after) where
  -- so many samples are made of the first rows
  made_samples : (n : ℕ) (xs ys : List ℕ) → length xs ≡ row_samples h n → MakesOfFirst steps h n xs ys → length ys ≡ row_samples after (rows_made_each steps n)
  made_samples n xs ys long makes =
      let p = picture_in (pixmap_with h xs) in
      let end = goes.1 p refl refl in
      let lists = makes p end.0 (refl, refl, refl) (first_rows h n xs long) end.1 in
      let channels = each_channels h.maxval 1 steps h.kind p end.0 goes.0 refl end.1 ∙ ap channels_of (sym (ap (λ (x : Header). x.kind) goes.2)) in
      lists.right_length ∙ (λ i. rows_made_each steps n * end.3 i * channels i)

  -- ---- the rows so far, and the next ones
  module _ (n : ℕ) (xs ys : List ℕ) (few : n ≤ h.height) (long : length xs ≡ row_samples h n) (makes : MakesOfFirst steps h n xs ys) (image : Image) (whole : IsWholeImage (pixmap_of image)) (headed : image.header ≡ with_rows image.header.height h)
      (fewer : image.header.height ≤ h.height - n) where
    abbrev count : ℕ
    count = image.header.height

    wide : image.header.width ≡ h.width
    wide = ap (λ (x : Header). x.width) headed

    kinds : image.header.kind ≡ h.kind
    kinds = ap (λ (x : Header). x.kind) headed

    maxvals : image.header.maxval ≡ h.maxval
    maxvals = ap (λ (x : Header). x.maxval) headed

    pub all_long : length (xs ++ image.samples.items) ≡ row_samples h (n + count)
    all_long = length-append xs image.samples.items ∙ (λ i. long i + (whole.all_samples ∙ ap sample_count headed) i) ∙ sym (more_samples h n count)

    -- they are rows of a picture
    pub next_are_rows : AreSomeRows steps n (pixmap_of image)
    next_are_rows =
        let p = picture_in (pixmap_with h (xs ++ image.samples.items)) in
        let end = goes.1 p refl refl in
        let all = first_rows h (n + count) (xs ++ image.samples.items) all_long in
        let parts = rows_split p n count xs image.samples.items long all in
        let end_taken : after_all image.header.maxval 1 steps p ≡ Ok end.0 = ap (λ v. after_all v 1 steps p) maxvals ∙ end.1 in
        (goes.0, p, end.0, (is.high.1, omega (arith, few, fewer), sym wide, sym (ap channels_of kinds), parts.1, end_taken))

    -- with them come those that the steps make of them
    pub makes_more : (zs : List ℕ) → MakesRows steps n (pixmap_of image) zs → MakesOfFirst steps h (n + count) (xs ++ image.samples.items) (ys ++ zs)
    makes_more zs makes_next p q sides lists taken_all =
        let size_of : length xs ≡ n * p.width * p.channels = long ∙ (λ i. n * sym sides.1 i * sym sides.2 i) in
        let parts = rows_split p n count xs image.samples.items size_of lists in
        let front = makes p q sides parts.0 taken_all in
        let low : p.height ≤ 1000000000 = omega (arith, is.high, sides.0) in
        let inside : n + count ≤ p.height = omega (arith, few, fewer, sides.0) in
        let made = makes_next p q (low, inside, sides.1 ∙ sym wide, sides.2 ∙ sym (ap channels_of kinds), parts.1, ap (λ v. after_all v 1 steps p) maxvals ∙ taken_all) in
        same_rows q (rows_made_each steps n + made.0) (rows_made_each steps (n + count)) (ys ++ zs) made.1 (rows_join q (rows_made_each steps n) made.0 ys zs front made.2)

  -- before any row
  none : rows_made_each steps 0 ≡ 0
  none = let end = goes.1 (picture_in (pixmap_with h [])) refl refl in none_made h.maxval 1 steps _ end.0 end.1

  pub first_none : {W : Type 0} (contents : W → Option (List ℕ)) (output : Watched W) (page : List ℕ) → PutsFirst contents steps h after 0 [] output page output page
  first_none {W} contents output page = (
    [],
    omega arith,
    sym (no_samples h),
    λ k d less. absurd (omega (arith, less)),
    λ p q sides lists taken. same_rows q 0 (rows_made_each steps 0) [] (sym (none_made h.maxval 1 steps p q taken)) (no_rows q),
    subst (Puts contents output page output page) (sym (written_none after) ∙ ap (λ n. raster_rows after n []) (sym none)) (puts_nothing output page),
  )

  module _ {W : Type 0} (contents : W → Option (List ℕ)) (n : ℕ) (xs : List ℕ) (output mid output' : Watched W) (page between page' : List ℕ) (image : Image) (so : PutsFirst contents steps h after n xs output page mid between) (whole : IsWholeImage (pixmap_of image))
      (headed : image.header ≡ with_rows image.header.height h) (fewer : image.header.height ≤ h.height - n) where
    are_rows : AreSomeRows steps n (pixmap_of image)
    are_rows = next_are_rows n xs so.0 so.1 so.2 so.4 image whole headed fewer

    -- the rows that are made of the next ones
    sums_up : PutsMade contents steps n (pixmap_of image) after mid between output' page' → rows_made_each steps (n + image.header.height) ≡ rows_made_each steps n + rows_made_between steps n image.header.height
    sums_up made =
        let sum = (made.1 are_rows.1 are_rows.2 are_rows.3).1 in
        omega (arith, sum)

    pub first_more : PutsMade contents steps n (pixmap_of image) after mid between output' page' → PutsFirst contents steps h after (n + image.header.height) (xs ++ image.samples.items) output page output' page'
    first_more made = (
      so.0 ++ made.0,
      omega (arith, so.1, fewer),
      all_long n xs so.0 so.1 so.2 so.4 image whole headed fewer,
      All-append (λ s. s ≤ h.maxval) xs image.samples.items so.3 (subst (λ v. All (λ s. s ≤ v) image.samples.items) (ap (λ (x : Header). x.maxval) headed) whole.none_above),
      makes_more n xs so.0 so.1 so.2 so.4 image whole headed fewer made.0 made.1,
      subst (Puts contents output page output' page') (sym (written_then after (rows_made_each steps n) (rows_made_between steps n image.header.height) (rows_made_each steps (n + image.header.height)) so.0 made.0 (sums_up made) (made_samples n xs so.0 so.2 so.4)))
          (puts_then so.5 made.2),
    )

-- ---- where the rows go wrong

bad_place : (h : Header) (before size byte : ℕ) (flaw : ImageFlaw) (old : Option (List ℕ)) → IfSome old (λ bytes. IsBadRow h h.height (size + byte) flaw bytes) → IsRowFault h before old (BadByte (before + size + byte) flaw)
bad_place h before size byte flaw None bad = tt
bad_place h before size byte flaw (Some bytes) bad = (size + byte, omega arith, bad.0, bad.1)

pub row_fault : (h : Header) (n size before : ℕ) (xs : List ℕ) (old new : Option (List ℕ)) (error : RowsError) (fault : Fault) (passed : ℕ) → n ≤ h.height → TakesRows h n size xs old new → TellsBadRow h (h.height - n) new error → passed ≡ before + size
    → IsFaultAfter passed error fault → IsRowFault h before old fault
row_fault h n size before xs old new (rows.BadByte byte flaw) fault passed few takes tells sum (inl is) =
    let place : passed + byte ≡ before + size + byte = ap (λ k. k + byte) sum in
    subst (IsRowFault h before old) (sym (is ∙ ap (λ k. BadByte k flaw) place)) (bad_place h before size byte flaw old (takes_bad h n h.height size byte flaw xs old new few takes tells))
row_fault h n size before xs old new (rows.BadByte byte flaw) fault passed few takes tells sum (inr is) = subst (IsRowFault h before old) (sym is.1) tt
row_fault h n size before xs old new rows.Memory fault passed few takes tells sum is = subst (IsRowFault h before old) (sym is) tt
row_fault h n size before xs old new rows.ReadFailed fault passed few takes tells sum is = subst (IsRowFault h before old) (sym is) tt

-- whether it is a failed read
pub fault_failed : (before : ℕ) (error : RowsError) (fault : Fault) (failed : Bool) → IsFaultAfter before error fault → failed ≡ is_rows_failure {X = ℕ} (Err error) → failed ≡ is_failed_read {X = ℕ} (Err fault)
fault_failed before (rows.BadByte byte flaw) fault failed (inl is) e = e ∙ sym (ap (λ (f : Fault). is_failed_read {X = ℕ} (Err f)) is)
fault_failed before (rows.BadByte byte flaw) fault failed (inr is) e = e ∙ sym (ap (λ (f : Fault). is_failed_read {X = ℕ} (Err f)) is.1)
fault_failed before rows.Memory fault failed is e = e ∙ sym (ap (λ (f : Fault). is_failed_read {X = ℕ} (Err f)) is)
fault_failed before rows.ReadFailed fault failed is e = e ∙ sym (ap (λ (f : Fault). is_failed_read {X = ℕ} (Err f)) is)

-- ---- all that comes of it

-- an image of a header and the samples after it
image_read : (bytes rest xs : List ℕ) (h : Header) → image_header_in bytes ≡ Ok (h, rest) → samples_of_rows h h.height rest ≡ Ok xs → image_in bytes ≡ Ok (pixmap_with h xs)
unfolding image_in
image_read bytes rest xs h headed read =
    ap (λ (r : Result (Header × List ℕ) ImageStop). r >>= λ x. raster_in x.0 x.1 >>= λ samples. Ok (pixmap_with x.0 samples)) headed
    ∙ ap (λ (r : Result (List ℕ) ImageStop). r >>= λ samples. Ok (pixmap_with h samples)) read

image_stops : (bytes rest : List ℕ) (h : Header) (stop : ImageStop) → image_header_in bytes ≡ Ok (h, rest) → samples_of_rows h h.height rest ≡ Err stop → image_in bytes ≡ Err stop
unfolding image_in
image_stops bytes rest h stop headed read =
    ap (λ (r : Result (Header × List ℕ) ImageStop). r >>= λ x. raster_in x.0 x.1 >>= λ samples. Ok (pixmap_with x.0 samples)) headed
    ∙ ap (λ (r : Result (List ℕ) ImageStop). r >>= λ samples. Ok (pixmap_with h samples)) read

module _ (steps : List Step) (h after : Header) (is : IsHeader h) (goes : GoesByRows steps h after) where
  -- the image that is read, and the one that is made of it
  module _ (rest xs ys bytes : List ℕ) (long : length xs ≡ row_samples h h.height) (read : samples_of_rows h h.height rest ≡ Ok xs) (low : All (λ s. s ≤ h.maxval) xs) (makes : MakesOfFirst steps h h.height xs ys)
      (headed : image_header_in bytes ≡ Ok (h, rest)) where
    abbrev image : Pixmap
    image = pixmap_with h xs

    abbrev made : Pixmap
    made = pixmap_with after ys

    whole : IsWholeImage image
    whole = record { header = is; all_samples = long; none_above = low }

    pub image_made : Makes steps bytes (Ok made)
    image_made =
        let p = picture_in image in
        let end = goes.1 p refl refl in
        let q = end.0 in
        let high : q.height ≡ rows_made_each steps h.height = each_high h.maxval 1 steps p q goes.0 end.1 in
        let lists = all_rows q (rows_made_each steps h.height) ys (sym high) (makes p q (refl, refl, refl) (first_rows h h.height xs long) end.1) in
        let same : after ≡ record { kind = (header_after steps h).kind; width = q.width; height = q.height; maxval = (header_after steps h).maxval } = goes.2 ∙ (λ i. record { kind = kind_after_each steps h.kind; width = sym end.3 i; height = sym end.2 i; maxval = h.maxval }) in
        let of : IsImageOf (header_after steps h) q made = record { headed = same; sampled = lists } in
        let limits = steps_fit h.maxval 1 steps h.kind p q end.1 (picture_fits image whole) in
        (image, image_read bytes rest xs h headed read, (q, end.1, of, image_whole (header_after steps h) q made (header_allowed steps h is) limits of))

  -- all rows are made of all rows
  all_made : rows_made_each steps h.height ≡ after.height
  all_made =
      let p = picture_in (pixmap_with h []) in
      let end = goes.1 p refl refl in
      sym (each_high h.maxval 1 steps p end.0 goes.0 end.1) ∙ end.2

  pub text_made : (n : ℕ) (ys : List ℕ) → n ≡ h.height → image_text (pixmap_with after ys) ≡ image_header_text after ++ raster_rows after (rows_made_each steps n) ys
  text_made n ys all = ap (λ m. image_header_text after ++ raster_rows after m ys) (sym (ap (rows_made_each steps) all ∙ all_made))

-- the position of a byte after the header
place_counted : (bytes rest : List ℕ) (size at byte : ℕ) (flaw : ImageFlaw) → length bytes ≡ size + length rest → byte ≡ size + at → at ≤ length rest → image_in bytes ≡ Err (length rest - at, flaw) → counted (length bytes) (image_in bytes) ≡ Err (byte, flaw)
place_counted bytes rest size at byte flaw long here inside stops =
    let place : length bytes - (length rest - at) ≡ byte = omega (arith, long, here, inside) in
    ap (counted (length bytes)) stops ∙ ap (λ n. Err (n, flaw)) place

module _ (steps : List Step) (plan : Plan) (is : IsHeader plan.header) (goes : GoesByRows steps plan.header plan.after) where
  abbrev h : Header
  h = plan.header

  abbrev after : Header
  after = plan.after

  -- where the bytes are known
  module _ (bytes dropped : List ℕ) (left : dropped ≡ drop plan.size bytes) (fits : plan.size ≤ length bytes) where
    long_by : (xs : List ℕ) → length (bytes ++ xs) ≡ plan.size + length (dropped ++ xs)
    long_by xs = omega (arith, length-append bytes xs, length-append dropped xs, ap length left, length-drop plan.size bytes, fits)

    headed_by : (xs : List ℕ) → image_header_in (bytes ++ xs) ≡ Ok (h, drop plan.size bytes ++ xs) → image_header_in (bytes ++ xs) ≡ Ok (h, dropped ++ xs)
    headed_by xs headed = headed ∙ ap (λ (l : List ℕ). Ok (h, l ++ xs)) (sym left)

    -- all rows were taken
    all_by : (known : Option (List ℕ)) (n : ℕ) (xs ys : List ℕ) → IfSome known (λ rest. image_header_in (bytes ++ rest) ≡ Ok (h, drop plan.size bytes ++ rest)) → IfSome (prepend_known dropped known) (λ rest. samples_of_rows h n rest ≡ Ok xs)
        → n ≡ h.height → length xs ≡ row_samples h n → All (λ s. s ≤ h.maxval) xs → MakesOfFirst steps h n xs ys
        → IfSome (prepend_known bytes known) (λ all. Makes steps all (Ok (pixmap_with after ys)))
    all_by None n xs ys headed read all long low makes = tt
    all_by (Some rest) n xs ys headed read all long low makes =
        image_made steps h after is goes (dropped ++ rest) xs ys (bytes ++ rest) (long ∙ ap (row_samples h) all) (ap (λ m. samples_of_rows h m (dropped ++ rest)) (sym all) ∙ read) low (subst (λ m. MakesOfFirst steps h m xs ys) all makes) (headed_by rest headed)

    -- some rows were taken, and then comes a fault
    fault_by : (known : Option (List ℕ)) (fault : Fault) → IfSome known (λ rest. image_header_in (bytes ++ rest) ≡ Ok (h, drop plan.size bytes ++ rest)) → IsRowFault h plan.size (prepend_known dropped known) fault → IfSome (prepend_known bytes known) (λ all. Makes steps all (Err fault))
    fault_by None fault headed fails = tt
    fault_by (Some rest) (BadByte byte flaw) headed fails =
        place_counted (bytes ++ rest) (dropped ++ rest) plan.size fails.0 byte flaw (long_by rest) fails.1 fails.2
        (image_stops (bytes ++ rest) (dropped ++ rest) h (length (dropped ++ rest) - fails.0, flaw) (headed_by rest headed) fails.3)
    fault_by (Some rest) Memory headed fails = some_header (bytes ++ rest) (h, drop plan.size bytes ++ rest) headed
    fault_by (Some rest) ReadFailed headed fails = tt
    fault_by (Some rest) (BadStep n w) headed fails = absurd fails
    fault_by (Some rest) (Refused n s) headed fails = absurd fails

    begins_by : (known : Option (List ℕ)) (n : ℕ) (xs ys : List ℕ) → IfSome known (λ rest. image_header_in (bytes ++ rest) ≡ Ok (h, drop plan.size bytes ++ rest)) → IfSome (prepend_known dropped known) (λ rest. samples_of_rows h n rest ≡ Ok xs)
        → n ≤ h.height → MakesOfFirst steps h n xs ys
        → IfSome (prepend_known bytes known) (λ all. BeginsRows steps all (image_header_text after ++ raster_rows after (rows_made_each steps n) ys))
    begins_by None n xs ys headed read few makes = tt
    begins_by (Some rest) n xs ys headed read few makes = (h, after, dropped ++ rest, headed_by rest headed, goes, n, xs, ys, few, read, makes, refl)

    -- an image that isn't one, or is one only in part
    text_by : (known : Option (List ℕ)) (fault : Fault) (text : List ℕ) → IsRowFault h plan.size (prepend_known dropped known) fault → IfSome (prepend_known bytes known) (λ all. BeginsRows steps all text) → IsTextBefore (are_by_rows steps ≡ true) (BeginsRows steps) (prepend_known bytes known) fault text
    text_by known (BadByte byte flaw) text fails begins = inr (goes.0, begins)
    text_by known Memory text fails begins = inr (goes.0, begins)
    text_by known ReadFailed text fails begins = inr (goes.0, begins)
    text_by known (BadStep n w) text fails begins = absurd fails
    text_by known (Refused n s) text fails begins = absurd fails

    module _ {W : Type 0} (contents : W → Option (List ℕ)) (known : Option (List ℕ)) (output headed done ended : Watched W) (page between : List ℕ) (start : IfSome known (λ rest. image_header_in (bytes ++ rest) ≡ Ok (h, drop plan.size bytes ++ rest)))
        (fresh : page ≡ []) (waits last : List ℕ) (put : Puts contents output page headed between (image_header_text after)) (finished : TakesText contents done ended last) (flushed : GetsFlushed done ended) where
      text_taken : (n : ℕ) (ys : List ℕ) → Puts contents headed between done last (raster_rows after n ys) → TakesText contents output ended (image_header_text after ++ raster_rows after n ys)
      text_taken n ys puts = all_taken fresh (puts_then put puts) finished

      never_flushed : (n : ℕ) (ys : List ℕ) → Puts contents headed between done last (raster_rows after n ys) → GetsFlushed output ended
      never_flushed n ys puts = λ never. flushed (puts.unflushed (put.unflushed never))

      pub rows_come : {X : Type 0} (result : Result X Fault) → PutsRows contents steps plan (prepend_known dropped known) headed between done last result
          → IfOk result (λ _. WritesImage contents steps (prepend_known bytes known) output ended) × IfErr result (λ fault. WritesBefore contents steps (prepend_known bytes known) fault output ended)
      rows_come {X} (Ok x) rows =
          let so = rows.5 in
          let read = takes_read h rows.0 rows.2 rows.1 (prepend_known dropped known) rows.3 rows.4 in
          let written : WritesImage contents steps (prepend_known bytes known) output ended = (
            pixmap_with after so.0,
            all_by known rows.0 rows.1 so.0 start read rows.6 so.2 so.3 so.4,
            subst (TakesText contents output ended) (sym (text_made steps h after is goes rows.0 so.0 rows.6)) (text_taken (rows_made_each steps rows.0) so.0 so.5),
            never_flushed (rows_made_each steps rows.0) so.0 so.5,
          ) in
          (written, tt)
      rows_come {X} (Err fault) rows =
          let so = rows.5 in
          let read = takes_read h rows.0 rows.2 rows.1 (prepend_known dropped known) rows.3 rows.4 in
          let begins = begins_by known rows.0 rows.1 so.0 start read so.1 so.4 in
          let before : WritesBefore contents steps (prepend_known bytes known) fault output ended = (
            fault_by known fault start rows.6,
            image_header_text after ++ raster_rows after (rows_made_each steps rows.0) so.0,
            text_by known fault _ rows.6 begins,
            text_taken (rows_made_each steps rows.0) so.0 so.5,
            inr (never_flushed (rows_made_each steps rows.0) so.0 so.5),
          ) in
          (tt, before)

-- the steps were good where rows were read
pub rows_good : {W X : Type 0} (contents : W → Option (List ℕ)) (steps : List Step) (plan : Plan) (given : Option (List ℕ)) (output output' : Watched W) (page page' : List ℕ) (result : Result X Fault) → PutsRows contents steps plan given output page output' page' result → HasGoodSteps result
rows_good {W} {X} contents steps plan given output output' page page' (Ok x) rows = tt
rows_good {W} {X} contents steps plan given output output' page page' (Err (BadStep n w)) rows = absurd rows.6
rows_good {W} {X} contents steps plan given output output' page page' (Err (BadByte n w)) rows = tt
rows_good {W} {X} contents steps plan given output output' page page' (Err (Refused n s)) rows = tt
rows_good {W} {X} contents steps plan given output output' page page' (Err Memory) rows = tt
rows_good {W} {X} contents steps plan given output output' page page' (Err ReadFailed) rows = tt
