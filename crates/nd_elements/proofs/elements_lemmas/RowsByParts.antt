-- Lanes of one length, by their parts: each part goes on after the ones before it, and the exchanged parts are the rows.
use Rattle.nd_elements.proofs.NamesFromOtherCrates.{◌≡◌, ℕ, ◌+◌, ◌*◌, ◌-◌, ◌/◌, ◌%◌, ◌<◌, ◌≤◌, true, List, length, take, slice_set, ℤ, refl, ap, sym, ◌∙◌, arith, get_or-take, Option, None, Some, IsTrue, is_some, slice_get, div-add-mod', row_fits, mul_comm, length-set, get_or_from_slice_get, slice_get-get_or, slice_get_within, Numbered, along, Lane, set_there, set_elsewhere}
use Rattle.std.proofs.Common.{length-take-le}
use Rattle.nd_elements.specs.LackOfMemory.{MayLackBelow}
use Rattle.nd_elements.specs.EqualClones.{ClonesAreEqual}
use Rattle.nd_elements.specs.CollectedElements.{collected}
use Rattle.nd_elements.specs.StoragePlaces.{stored_at, names_place}
use Rattle.nd_elements.specs.elements.TransposedRowParts.{place_along, columns_of_lanes, rows_by_parts, part_by_parts, turned_number, GoesOnAs, IsTurnedBelow, AreLong, IsRowAt, HasRows}
use Rattle.nd_elements.proofs.BoolAndResultCases.{by_order}
use Rattle.nd_elements.proofs.elements_lemmas.ElementsCollectedInOrder.{collected_alike, length-collected, get-collected, listed_by}
use Rattle.nd_elements.proofs.along_lemmas.LaneNumbers.{number_lane, lane_number}
use Rattle.nd_elements.proofs.elements_lemmas.TransposedRowParts.{column_below, turned_at, kept_at, turned_below, turned_back}

-- a part of a lane goes on as one row of the columns
pub row_goes_on : (lanes : List Lane) (from count nth : ℕ) (lane part : Lane) → slice_get lanes nth ≡ Some lane → nth < length lanes → part.count ≡ count
    → ((k : ℕ) → k < count → (along part).place k ≡ (along lane).place (from + k)) → GoesOnAs (columns_of_lanes lanes from count) (nth * count) (along part)
row_goes_on lanes from count nth lane part is on long places = record {
  within = let fit = row_fits nth count (length lanes) count on (omega arith) in omega (arith, fit, long);
  same = λ k below.
      let under : k < count = omega (arith, below, long) in
      let at = lane_number count nth k under in
      places k under ∙ sym (ap (λ o. place_along o (from + k)) is) ∙ sym ((λ i. place_along (slice_get lanes (at.0 i)) (from + at.1 i)));
}

module _ (lanes : List Lane) (part width : ℕ) (fits : length lanes * part ≤ width) where
  -- a column of a row
  column_at : (a k : ℕ) → k < width → (columns_of_lanes lanes 0 width).place (a * width + k) ≡ place_along (slice_get lanes a) k
  column_at a k below =
      let at = lane_number width a k below in
      (λ i. place_along (slice_get lanes (at.0 i)) (0 + at.1 i)) ∙ ap (place_along (slice_get lanes a)) (omega arith)

  module _ (nth : ℕ) (on : nth < length lanes) where
    pub columns_go_on : GoesOnAs (part_by_parts lanes part width nth) 0 (columns_of_lanes lanes (nth * part) part)
    columns_go_on = record {
      within = omega (arith, fits);
      same = λ k below.
          let at = number_lane (length lanes) part k below in
          let is : nth * width + (0 + k) ≡ nth * width + (k / part * part + k % part) = omega (arith, div-add-mod' k part) in
          sym
          (ap (λ n. (rows_by_parts lanes part width).place n) is
          ∙ ap (λ n. (columns_of_lanes lanes 0 width).place n) (turned_at (length lanes) part width fits nth (k / part) (k % part) on at.0 at.1)
          ∙ column_at (k / part) (nth * part + k % part) (omega (arith, column_below (length lanes) part width fits nth (k % part) on at.1, fits)));
    }

    pub rest_goes_on : (lane rest : Lane) → slice_get lanes nth ≡ Some lane → rest.count ≡ width - length lanes * part
        → ((k : ℕ) → k < width - length lanes * part → (along rest).place k ≡ (along lane).place (length lanes * part + k)) → GoesOnAs (part_by_parts lanes part width nth) (length lanes * part) (along rest)
    rest_goes_on lane rest is long places = record {
      within = omega (arith, fits, long);
      same = λ k below.
          let under : length lanes * part + k < width = omega (arith, fits, long, below) in
          places k (omega (arith, below, long))
          ∙ sym
          (ap (λ n. (columns_of_lanes lanes 0 width).place n) (kept_at (length lanes) part width fits nth (length lanes * part + k) on (omega arith) under)
          ∙ column_at nth (length lanes * part + k) under
          ∙ ap (λ o. place_along o (length lanes * part + k)) is);
    }

    pub part_goes_on : GoesOnAs (rows_by_parts lanes part width) (nth * width) (part_by_parts lanes part width nth)
    part_goes_on = record {
      within = let fit = row_fits nth width (length lanes) width on (omega arith) in omega (arith, fit);
      same = λ k below. refl;
    }

-- as many parts as rows fit
pub parts_fit : (rows width : ℕ) → 0 < rows → rows * (width / rows) ≤ width
parts_fit rows width some = let whole = div-add-mod' width rows in let turned = mul_comm rows (width / rows) in omega (arith, whole, turned)

-- numbered places whose numbers change places
module _ (rows part width : ℕ) (fits : rows * part ≤ width) (place : ℕ → ℤ) {A : Type 0} (stored : ℕ → Option A) where
  abbrev at : ℕ → Option A
  at k = stored_at stored (place k)

  abbrev by_parts : ℕ → Option A
  by_parts k = at (turned_number rows part width k)

  pub turned_holds : ((k : ℕ) → k < rows * width → IsTrue (names_place stored (place k))) → (k : ℕ) → k < rows * width → IsTrue (names_place stored (place (turned_number rows part width k)))
  turned_holds holds k below = holds (turned_number rows part width k) (turned_below rows part width fits k below)

  pub turned_clones : (is_clone : A → A → Type 0) → ((k : ℕ) (x : A) → k < rows * width → at k ≡ Some x → ClonesAreEqual is_clone x) → (k : ℕ) (x : A) → k < rows * width → by_parts k ≡ Some x → ClonesAreEqual is_clone x
  turned_clones is_clone equal k x below is = equal (turned_number rows part width k) x (turned_below rows part width fits k below) is

  pub turned_refused : (is_infallible : A → Type 0) → MayLackBelow is_infallible by_parts (rows * width) → MayLackBelow is_infallible at (rows * width)
  turned_refused is_infallible refused = (turned_number rows part width refused.0, refused.1, turned_below rows part width fits refused.0 refused.2, refused.3, refused.4)

  some_of : (o : Option A) → is_some o ≡ true → (x : A) × (o ≡ Some x)
  some_of None e = absurd cc
  some_of (Some x) e = (x, refl)

  -- a list by parts whose parts are then exchanged
  pub parts_exchanged : ((k : ℕ) → k < rows * width → is_some (at k) ≡ true) → (xs ys : List A) → xs ≡ collected by_parts (rows * width) → IsTurnedBelow rows part width (rows * width) xs ys → ys ≡ collected at (rows * width)
  parts_exchanged holds xs ys listed done =
      let has : (j : ℕ) → j < rows * width → is_some (by_parts j) ≡ true = λ j below. holds (turned_number rows part width j) (turned_below rows part width fits j below) in
      let long : length ys ≡ rows * width = done.long ∙ ap length listed ∙ length-collected by_parts (rows * width) has in
      listed_by at ys
      (λ k d below.
      let under : k < rows * width = omega (arith, below, long) in
      let there = some_of (at k) (holds k under) in
      let got : slice_get xs (turned_number rows part width k) ≡ Some there.0 =
      ap (λ zs. slice_get zs (turned_number rows part width k)) listed
      ∙ get-collected by_parts (rows * width) (turned_number rows part width k) (turned_below rows part width fits k under) has
      ∙ ap at (turned_back rows part width fits k under)
      ∙ there.1 in
      there.1 ∙ ap Some (sym (done.early k d under under ∙ get_or_from_slice_get xs (turned_number rows part width k) there.0 d got)))
      ∙ ap (collected at) long

-- one more lane in a slice
pub row_put : (at : Numbered) (width : ℕ) (rows : List Lane) (nth : ℕ) (lane : Lane) → nth < length rows → ((a : ℕ) → a < nth → IsRowAt at width a rows) → lane.count ≡ width
    → (rank : ℕ) → rank ≡ nth * width → ((k : ℕ) → k < lane.count → (along lane).place k ≡ at.place (rank + k))
    → (length (slice_set rows nth lane) ≡ length rows) × ((a : ℕ) → a < nth + 1 → IsRowAt at width a (slice_set rows nth lane))
row_put at width rows nth lane on so_far wide rank is places = (length-set rows nth lane, each)
  where
    each : (a : ℕ) → a < nth + 1 → IsRowAt at width a (slice_set rows nth lane)
    each a below =
        by_order a nth
        (λ before.
        let row = so_far a before in
        record {
          lane = row.lane;
          is = set_elsewhere rows nth a lane (λ e. absurd (omega (arith, before, e))) ∙ row.is;
          long = row.long;
          places = row.places;
        })
        (λ past.
        let same : a ≡ nth = omega (arith, past, below) in
        record {
          lane = lane;
          is = ap (slice_get (slice_set rows nth lane)) same ∙ set_there rows nth lane on;
          long = wide;
          places = λ k under. places k (omega (arith, under, wide)) ∙ ap (λ r. at.place (r + k)) (is ∙ ap (λ b. b * width) (sym same));
        })

-- the lanes that are rows of numbered places, as a list of their own
module _ (at : Numbered) (size width : ℕ) (lanes : List Lane) (rows : ℕ) (has : HasRows at size width lanes rows) where
  pub first_rows : length (take rows lanes) ≡ rows
  first_rows = length-take-le rows lanes has.few

  row_of : (a : ℕ) → (below : a < rows) → slice_get (take rows lanes) a ≡ Some (has.each a below).lane
  row_of a below =
      let row = has.each a below in
      slice_get-get_or (take rows lanes) a row.lane (omega (arith, below, first_rows))
      ∙ ap Some (get_or-take rows lanes a row.lane below ∙ get_or_from_slice_get lanes a row.lane row.lane row.is)

  pub rows_long : AreLong width (take rows lanes)
  rows_long a lane is =
      let below : a < rows = omega (arith, slice_get_within (take rows lanes) a lane is, first_rows) in
      let row = has.each a below in
      ap (λ (l : Lane). l.count) (some_same lane row.lane (sym is ∙ row_of a below)) ∙ row.long
    where
      some_same : (x y : Lane) → Some x ≡ Some y → x ≡ y
      some_same x y e = cc

  -- their columns are the numbered places
  pub rows_found : (n : ℕ) → n < rows * width → (columns_of_lanes (take rows lanes) 0 width).place n ≡ at.place n
  rows_found n below =
      let in_row = number_lane rows width n below in
      let none : 0 + n % width ≡ n % width = omega arith in
      (λ i. place_along (row_of (n / width) in_row.0 i) (none i)) ∙ (has.each (n / width) in_row.0).places (n % width) in_row.1 ∙ ap at.place (div-add-mod' n width)

  module _ (whole : size ≡ at.count) {A : Type 0} (stored : ℕ → Option A) where
    many : length (take rows lanes) * width ≡ rows * width
    many = ap (λ r. r * width) first_rows

    within : (n : ℕ) → n < length (take rows lanes) * width → n < rows * width
    within n below = let e = many in omega (arith, e, below)

    inside : (n : ℕ) → n < rows * width → n < at.count
    inside n below = let e = has.all in omega (arith, e, whole, below)

    pub rows_hold : ((n : ℕ) → n < at.count → IsTrue (names_place stored (at.place n))) → (n : ℕ) → n < length (take rows lanes) * width → IsTrue (names_place stored ((columns_of_lanes (take rows lanes) 0 width).place n))
    rows_hold holds n below = ap (λ z. is_some (stored_at stored z)) (rows_found n (within n below)) ∙ holds n (inside n (within n below))

    pub rows_clones : (is_clone : A → A → Type 0) → ((n : ℕ) (x : A) → n < at.count → stored_at stored (at.place n) ≡ Some x → ClonesAreEqual is_clone x)
        → (n : ℕ) (x : A) → n < length (take rows lanes) * width → stored_at stored ((columns_of_lanes (take rows lanes) 0 width).place n) ≡ Some x → ClonesAreEqual is_clone x
    rows_clones is_clone equal n x below is = equal n x (inside n (within n below)) (ap (stored_at stored) (sym (rows_found n (within n below))) ∙ is)

    pub rows_refused : (is_infallible : A → Type 0) → MayLackBelow is_infallible (λ n. stored_at stored ((columns_of_lanes (take rows lanes) 0 width).place n)) (length (take rows lanes) * width) → MayLackBelow is_infallible (λ n. stored_at stored (at.place n)) at.count
    rows_refused is_infallible refused =
        let below = within refused.0 refused.2 in
        (refused.0, refused.1, inside refused.0 below, ap (stored_at stored) (sym (rows_found refused.0 below)) ∙ refused.3, refused.4)

    pub rows_listed : collected (λ n. stored_at stored ((columns_of_lanes (take rows lanes) 0 width).place n)) (length (take rows lanes) * width) ≡ collected (λ n. stored_at stored (at.place n)) at.count
    rows_listed =
        collected_alike (λ n. stored_at stored ((columns_of_lanes (take rows lanes) 0 width).place n)) (λ n. stored_at stored (at.place n)) (length (take rows lanes) * width) (λ n below. ap (stored_at stored) (rows_found n (within n below)))
        ∙ ap (collected (λ n. stored_at stored (at.place n))) (many ∙ has.all ∙ whole)
