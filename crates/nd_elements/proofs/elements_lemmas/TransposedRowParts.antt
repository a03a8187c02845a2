-- Rows by their parts: which number changes places with which, and that a second exchange leads back.
use Rattle.nd_elements.proofs.NamesFromOtherCrates.{◌≡◌, ℕ, ◌+◌, ◌*◌, ◌-◌, ◌/◌, ◌%◌, ◌<◌, ◌≤◌, true, false, List, length, get_or, nat_lt, refl, ap, sym, subst, ◌∙◌, arith, rules, ⊎_elim, inl, inr, ◌⊎◌, div-add-mod', row_fits}
use Rattle.nd_elements.specs.elements.TransposedRowParts.{turned_number, AreExchanged, IsTurnedBelow}
use Rattle.nd_elements.proofs.BoolAndResultCases.{by_order}
use Rattle.nd_elements.proofs.along_lemmas.LaneNumbers.{number_lane, lane_number}

is_less : (a b : ℕ) → a < b → nat_lt a b ≡ true
is_less a b below = search rules

not_less : (a b : ℕ) → b ≤ a → nat_lt a b ≡ false
not_less a b past = search rules

module _ (rows part width : ℕ) (fits : rows * part ≤ width) where
  -- a column of a part of a row lies in the row
  pub column_below : (b t : ℕ) → b < rows → t < part → b * part + t < rows * part
  column_below b t on below = let all = row_fits b part rows part on (omega arith) in omega (arith, all, below)

  -- what two rows exchange lies in both
  pub parts_lie : (a b : ℕ) → a < b → b < rows → (a * width + b * part + part ≤ b * width + a * part) × (b * width + a * part + part ≤ rows * width)
  parts_lie a b less on = (
    omega (arith, row_fits b part rows part on (omega arith), row_fits a width b width less (omega arith), fits),
    omega (arith, row_fits a part rows part (omega (arith, less, on)) (omega arith), row_fits b width rows width on (omega arith), fits),
  )

  pub turned_at : (a b t : ℕ) → a < rows → b < rows → t < part → turned_number rows part width (a * width + (b * part + t)) ≡ b * width + (a * part + t)
  turned_at a b t on there below =
      let column = column_below b t there below in
      let at = lane_number width a (b * part + t) (omega (arith, column, fits)) in
      let in_part = lane_number part b t below in
      rw (at.0, at.1, is_less (b * part + t) (rows * part) column, in_part.0, in_part.1) refl

  -- what is left over at the end of a row
  pub kept_at : (a k : ℕ) → a < rows → rows * part ≤ k → k < width → turned_number rows part width (a * width + k) ≡ a * width + k
  kept_at a k on past below = let at = lane_number width a k below in rw (at.0, at.1, not_less k (rows * part) past) refl

  -- a number is of a part, or is left over
  pub record IsInPart (n : ℕ) : Type 0 where
    pub row : ℕ
    pub part_of : ℕ
    pub step : ℕ
    pub on : row < rows
    pub there : part_of < rows
    pub below : step < part
    pub is : n ≡ row * width + (part_of * part + step)
    pub turned : turned_number rows part width n ≡ part_of * width + (row * part + step)

  pub record IsLeftOver (n : ℕ) : Type 0 where
    pub row : ℕ
    pub column : ℕ
    pub on : row < rows
    pub past : rows * part ≤ column
    pub below : column < width
    pub is : n ≡ row * width + column
    pub turned : turned_number rows part width n ≡ n

  pub number_cases : (n : ℕ) → n < rows * width → IsInPart n ⊎ IsLeftOver n
  number_cases n below =
      let at = number_lane rows width n below in
      let whole = div-add-mod' n width in
      by_order (n % width) (rows * part)
      (λ early.
      let in_row = number_lane rows part (n % width) early in
      let column = div-add-mod' (n % width) part in
      let is : n ≡ n / width * width + (n % width / part * part + n % width % part) = omega (arith, whole, column) in
      inl
      (record {
        row = n / width;
        part_of = n % width / part;
        step = n % width % part;
        on = at.0;
        there = in_row.0;
        below = in_row.1;
        is = is;
        turned = ap (turned_number rows part width) is ∙ turned_at (n / width) (n % width / part) (n % width % part) at.0 in_row.0 in_row.1;
      }))
      (λ past.
      let is : n ≡ n / width * width + n % width = omega (arith, whole) in
      inr
      (record {
        row = n / width;
        column = n % width;
        on = at.0;
        past = past;
        below = at.1;
        is = is;
        turned = ap (turned_number rows part width) is ∙ kept_at (n / width) (n % width) at.0 past at.1 ∙ sym is;
      }))

  pub turned_below : (n : ℕ) → n < rows * width → turned_number rows part width n < rows * width
  turned_below n below =
      ⊎_elim
      (λ (p : IsInPart n).
      let e = p.turned in omega (arith, column_below p.row p.step p.on p.below, row_fits p.part_of width rows width p.there (omega arith), e, fits))
      (λ (p : IsLeftOver n). let e = p.turned in omega (arith, e, below))
      (number_cases n below)

  pub turned_back : (n : ℕ) → n < rows * width → turned_number rows part width (turned_number rows part width n) ≡ n
  turned_back n below =
      ⊎_elim
      (λ (p : IsInPart n). ap (turned_number rows part width) p.turned ∙ turned_at p.part_of p.row p.step p.there p.on p.below ∙ sym p.is)
      (λ (p : IsLeftOver n). ap (turned_number rows part width) p.turned ∙ p.turned)
      (number_cases n below)

  -- a number between the ends of a row is of that row
  same_row : (a i k : ℕ) → k < width → a * width ≤ i * width + k → i * width + k < a * width + width → i ≡ a
  same_row a i k below from to =
      by_order i a
      (λ less. let fit = row_fits i width a width less (omega arith) in absurd (omega (arith, fit, below, from)))
      (λ past.
      by_order a i
      (λ more. let fit = row_fits a width i width more (omega arith) in absurd (omega (arith, fit, to)))
      (λ most. omega (arith, past, most)))

  -- whatever changes places between two numbers stays
  abbrev StayBetween : ℕ → ℕ → Type 0
  StayBetween from to = (n : ℕ) → n < rows * width → from ≤ n → n < to → from ≤ turned_number rows part width n → turned_number rows part width n ≡ n

  module _ {A : Type 0} (xs ys : List A) where
    further_same : (from to : ℕ) → from ≤ to → StayBetween from to → IsTurnedBelow rows part width from xs ys → IsTurnedBelow rows part width to xs ys
    further_same from to up stay so_far = record {
      long = so_far.long;
      early = λ n d below less.
          by_order n from
          (λ before. so_far.early n d below before)
          (λ past.
          by_order (turned_number rows part width n) from
          (λ before. so_far.paired n d below before)
          (λ after. so_far.left n d below past after ∙ ap (λ m. get_or xs m d) (sym (stay n below past less after))));
      paired = λ n d below less.
          by_order (turned_number rows part width n) from
          (λ before. so_far.paired n d below before)
          (λ after.
          by_order n from
          (λ before. so_far.early n d below before)
          (λ past.
          let back = turned_back n below in
          let same = stay (turned_number rows part width n) (turned_below n below) after less (omega (arith, back, past)) in
          so_far.left n d below past after ∙ ap (λ m. get_or xs m d) (sym back ∙ same)));
      left = λ n d below past after. so_far.left n d below (omega (arith, up, past)) (omega (arith, up, after));
    }

  pub none_turned : {A : Type 0} (xs : List A) → IsTurnedBelow rows part width 0 xs xs
  none_turned xs = record {
    long = refl;
    early = λ n d below less. absurd (omega (arith, less));
    paired = λ n d below less. absurd (omega (arith, less));
    left = λ n d below past after. refl;
  }

  module _ (a : ℕ) (on : a < rows) where
    own_stay : StayBetween (a * width) (a * width + (a + 1) * part)
    own_stay n below past less after =
        ⊎_elim
        (λ (p : IsInPart n).
        let column = column_below p.part_of p.step p.there p.below in
        let other = column_below a p.step on p.below in
        let first = row_fits a part rows part on (omega arith) in
        let up : (a + 1) * part ≡ a * part + part = omega arith in
        let is = p.is in
        let row = same_row a p.row (p.part_of * part + p.step) (omega (arith, column, fits)) (omega (arith, is, past)) (omega (arith, is, less, up, first, fits)) in
        let rest = ap (λ r. r * width) row in
        by_order p.part_of a
        (λ early.
        let fit = row_fits p.part_of width a width early (omega arith) in
        let at = p.turned ∙ ap (λ r. p.part_of * width + (r * part + p.step)) row in
        absurd (omega (arith, fit, at, after, other, fits)))
        (λ late.
        by_order a p.part_of
        (λ more. let fit = row_fits a part p.part_of part more (omega arith) in absurd (omega (arith, fit, is, rest, less, up)))
        (λ most.
        let same : p.part_of ≡ p.row = omega (arith, late, most, row) in
        p.turned ∙ ap (λ r. r * width + (p.row * part + p.step)) same ∙ ap (λ r. p.row * width + (r * part + p.step)) (sym same) ∙ sym is)))
        (λ (p : IsLeftOver n). p.turned)
        (number_cases n below)

    rest_stay : StayBetween (a * width + rows * part) (a * width + width)
    rest_stay n below past less after =
        ⊎_elim
        (λ (p : IsInPart n).
        let column = column_below p.part_of p.step p.there p.below in
        absurd (omega (arith, p.is, ap (λ r. r * width) (same_row a p.row (p.part_of * part + p.step) (omega (arith, column, fits)) (omega (arith, p.is, past)) (omega (arith, p.is, less))), column, past)))
        (λ (p : IsLeftOver n). p.turned)
        (number_cases n below)

    module _ {A : Type 0} (xs ys : List A) where
      -- those before the row, and those of the row that stay
      pub row_begun : IsTurnedBelow rows part width (a * width) xs ys → IsTurnedBelow rows part width (a * width + (a + 1) * part) xs ys
      row_begun = further_same xs ys (a * width) (a * width + (a + 1) * part) (omega arith) own_stay

      pub row_done : IsTurnedBelow rows part width (a * width + rows * part) xs ys → IsTurnedBelow rows part width (a * width + width) xs ys
      row_done = further_same xs ys (a * width + rows * part) (a * width + width) (omega (arith, fits)) rest_stay

    module _ (b : ℕ) (later : a < b) (there : b < rows) where
      abbrev one : ℕ
      one = a * width + b * part

      abbrev other : ℕ
      other = b * width + a * part

      pub apart : a * width + b * part + part ≤ b * width + a * part
      apart =
          omega (arith, row_fits a width b width later (omega arith), row_fits b part rows part there (omega arith), fits)

      one_turned : (k : ℕ) → k < part → turned_number rows part width (one + k) ≡ other + k
      one_turned k below =
          let is : one + k ≡ a * width + (b * part + k) = omega arith in
          let to : b * width + (a * part + k) ≡ other + k = omega arith in
          ap (turned_number rows part width) is ∙ turned_at a b k on there below ∙ to

      other_turned : (k : ℕ) → k < part → turned_number rows part width (other + k) ≡ one + k
      other_turned k below =
          let is : other + k ≡ b * width + (a * part + k) = omega arith in
          let to : a * width + (b * part + k) ≡ one + k = omega arith in
          ap (turned_number rows part width) is ∙ turned_at b a k there on below ∙ to

      below_all : (k : ℕ) → k < part → (one + k < rows * width) × (other + k < rows * width)
      below_all k below =
          let fit = row_fits b width rows width there (omega arith) in
          let last = row_fits a part rows part on (omega arith) in
          let before = apart in (omega (arith, fit, last, before, fits, below), omega (arith, fit, last, fits, below))

      module _ {A : Type 0} (xs ys zs : List A) (so_far : IsTurnedBelow rows part width (a * width + b * part) xs ys) (long : length zs ≡ length ys) (put : AreExchanged (a * width + b * part) (b * width + a * part) part ys zs) where
        -- a number of neither run
        stays : (n : ℕ) (d : A) → ((k : ℕ) → k < part → ¬ (n ≡ one + k)) → ((k : ℕ) → k < part → ¬ (n ≡ other + k)) → get_or zs n d ≡ get_or ys n d
        stays n d not_one not_other =
            by_order n one
            (λ before. put.before n d before)
            (λ past.
            by_order n (one + part)
            (λ inside. absurd (not_one (n - one) (omega (arith, past, inside)) (omega (arith, past))))
            (λ after.
            by_order n other
            (λ between. put.between n d after between)
            (λ up.
            by_order n (other + part)
            (λ inside. absurd (not_other (n - other) (omega (arith, up, inside)) (omega (arith, up))))
            (λ last. put.after n d last))))

        one_is : (k : ℕ) (d : A) → k < part → get_or zs (one + k) d ≡ get_or xs (other + k) d
        one_is k d below =
            put.first k d below ∙ so_far.left (other + k) d (below_all k below).1 (omega (arith, apart)) (omega (arith, other_turned k below))

        other_is : (k : ℕ) (d : A) → k < part → get_or zs (other + k) d ≡ get_or xs (one + k) d
        other_is k d below =
            put.second k d below ∙ so_far.left (one + k) d (below_all k below).0 (omega arith) (omega (arith, one_turned k below, apart))

        pub part_turned : IsTurnedBelow rows part width (a * width + (b + 1) * part) xs zs
        part_turned = record {
          long = long ∙ so_far.long;
          early = λ n d below less.
              by_order n one
              (λ before. put.before n d before ∙ so_far.early n d below before)
              (λ past.
              let up : (b + 1) * part ≡ b * part + part = omega arith in
              let inside : n - one < part = omega (arith, past, less, up) in
              let is : one + (n - one) ≡ n = omega (arith, past) in
              subst (λ m. get_or zs m d ≡ get_or xs (turned_number rows part width m) d) is
              (one_is (n - one) d inside ∙ ap (λ m. get_or xs m d) (sym (one_turned (n - one) inside))));
          paired = λ n d below less.
              by_order (turned_number rows part width n) one
              (λ before.
              stays n d
              (λ k under e. let to = ap (turned_number rows part width) e ∙ one_turned k under in let far = apart in omega (arith, to, before, far))
              (λ k under e. let to = ap (turned_number rows part width) e ∙ other_turned k under in omega (arith, to, before))
              ∙ so_far.paired n d below before)
              (λ past.
              let up : (b + 1) * part ≡ b * part + part = omega arith in
              let k = turned_number rows part width n - one in
              let inside : k < part = omega (arith, past, less, up) in
              let is : one + k ≡ turned_number rows part width n = omega (arith, past) in
              let from : other + k ≡ n = sym (one_turned k inside) ∙ ap (turned_number rows part width) is ∙ turned_back n below in
              ap (λ m. get_or zs m d) (sym from) ∙ other_is k d inside ∙ ap (λ m. get_or xs m d) is);
          left = λ n d below past after.
              let up : (b + 1) * part ≡ b * part + part = omega arith in
              stays n d
              (λ k under e. omega (arith, e, under, past, up))
              (λ k under e. let to = ap (turned_number rows part width) e ∙ other_turned k under in omega (arith, to, under, after, up))
              ∙ so_far.left n d below (omega (arith, past, up)) (omega (arith, after, up));
        }
