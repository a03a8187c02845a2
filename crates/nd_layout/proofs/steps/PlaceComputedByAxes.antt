-- A place that is computed axis by axis: on the way every index of the axes left has a place.
use Rattle.nd_layout.proofs.NamesFromOtherCrates.{◌≡◌, ℕ, ◌+◌, ◌<◌, ◌≤◌, true, List, [], ◌∷◌, length, drop, get_or, replicate, ℤ, pos, ◌+ℤ◌, ◌*ℤ◌, refl, ap, sym, ◌∙◌, arith, add-one, drop-cons, drop_all, ints, nat_tests, in_box, displacement_of, place_of, in_box-cons, zeros_in_box, displacement_of-origin}
use Rattle.nd_layout.specs.ValidMemoryPlaces.{is_place, ReachesPlaces}

-- a place is below 2^63
pub place_below : (p : ℕ) → is_place (pos p) ≡ true → p < 9223372036854775808
place_below p h = grind (arith, nat_tests)

pub offset_is_place : (p : ℕ) (ns is : List ℕ) (ss : List ℤ) → in_box ns is ≡ true → ReachesPlaces p ns ss → p < 9223372036854775808
offset_is_place p ns is ss h reach =
    let origin = reach (replicate (length ns) 0) (zeros_in_box ns is h) in
    let here : pos p +ℤ displacement_of ss (replicate (length ns) 0) ≡ pos p = ap (λ z. pos p +ℤ z) (displacement_of-origin ss (length ns)) ∙ omega (arith, ints) in
    place_below p (sym (ap is_place here) ∙ origin)

add_zero : (p c : ℕ) (s : ℤ) → pos p +ℤ ((pos c *ℤ s) +ℤ pos 0) ≡ pos p +ℤ (pos c *ℤ s)
add_zero p c s = omega (arith, ints)

regroup : (p : ℕ) (a b : ℤ) → pos p +ℤ (a +ℤ b) ≡ (pos p +ℤ a) +ℤ b
regroup p a b = omega (arith, ints)

-- the next place on the way
pub next_is_place : (p n c : ℕ) (ns is : List ℕ) (s : ℤ) (ss : List ℤ) → in_box (n ∷ ns) (c ∷ is) ≡ true → ReachesPlaces p (n ∷ ns) (s ∷ ss) → is_place (pos p +ℤ (pos c *ℤ s)) ≡ true
next_is_place p n c ns is s ss h reach =
    let parts = in_box-cons n ns c is h in
    let zeros = replicate (length ns) 0 in
    let inside : in_box (n ∷ ns) (c ∷ zeros) ≡ true = grind (arith, nat_tests, parts.0, zeros_in_box ns is parts.1) in
    let at = reach (c ∷ zeros) inside in
    let here : pos p +ℤ ((pos c *ℤ s) +ℤ displacement_of ss zeros) ≡ pos p +ℤ (pos c *ℤ s) = ap (λ z. pos p +ℤ ((pos c *ℤ s) +ℤ z)) (displacement_of-origin ss (length ns)) ∙ add_zero p c s in
    sym (ap is_place here) ∙ at

-- and from there every index of the axes left has a place
pub next_reaches : (p q n c : ℕ) (ns : List ℕ) (s : ℤ) (ss : List ℤ) → c < n → pos q ≡ pos p +ℤ (pos c *ℤ s) → ReachesPlaces p (n ∷ ns) (s ∷ ss) → ReachesPlaces q ns ss
next_reaches p q n c ns s ss lt e reach i h =
    let inside : in_box (n ∷ ns) (c ∷ i) ≡ true = grind (arith, nat_tests, lt, h) in
    let here : pos p +ℤ ((pos c *ℤ s) +ℤ displacement_of ss i) ≡ pos q +ℤ displacement_of ss i = regroup p (pos c *ℤ s) (displacement_of ss i) ∙ ap (λ z. z +ℤ displacement_of ss i) (sym e) in
    sym (ap is_place here) ∙ reach (c ∷ i) inside

-- the whole index keeps its place
pub next_same : (p q c : ℕ) (is : List ℕ) (s : ℤ) (ss : List ℤ) (z : ℤ) → pos q ≡ pos p +ℤ (pos c *ℤ s) → pos p +ℤ displacement_of (s ∷ ss) (c ∷ is) ≡ z → pos q +ℤ displacement_of ss is ≡ z
next_same p q c is s ss z e same =
    ap (λ y. y +ℤ displacement_of ss is) e ∙ (sym (regroup p (pos c *ℤ s) (displacement_of ss is)) ∙ same)

-- the axes from this one on are still to be gone: from the place reached, every index of them has a place, and the
-- index itself has its own
pub record IsOnTheWay (offset axis place : ℕ) (lengths index : List ℕ) (strides : List ℤ) : Type 0 where
  pub reach : ReachesPlaces place (drop axis lengths) (drop axis strides)
  pub inside : in_box (drop axis lengths) (drop axis index) ≡ true
  pub same : pos place +ℤ displacement_of (drop axis strides) (drop axis index) ≡ place_of offset strides index

-- the lists of what is left, with the axis at the front
pub record AtAxis (axis : ℕ) (lengths index : List ℕ) (strides : List ℤ) : Type 0 where
  pub lengths_at : drop axis lengths ≡ get_or lengths axis 0 ∷ drop (axis + 1) lengths
  pub index_at : drop axis index ≡ get_or index axis 0 ∷ drop (axis + 1) index
  pub strides_at : drop axis strides ≡ get_or strides axis (pos 0) ∷ drop (axis + 1) strides

pub at_axis : (axis : ℕ) (lengths index : List ℕ) (strides : List ℤ) → axis < length lengths → length index ≡ length lengths → length strides ≡ length lengths → AtAxis axis lengths index strides
at_axis axis lengths index strides lt e f =
    let i : axis < length index = omega arith in
    let s : axis < length strides = omega arith in
    record {
      lengths_at = rw (add-one, drop-cons lengths axis 0) refl;
      index_at = rw (add-one, drop-cons index axis 0) refl;
      strides_at = rw (add-one, drop-cons strides axis (pos 0)) refl;
    }

module _ (offset axis place : ℕ) (lengths index : List ℕ) (strides : List ℤ) (at : AtAxis axis lengths index strides) (way : IsOnTheWay offset axis place lengths index strides) where
  here_inside : in_box (get_or lengths axis 0 ∷ drop (axis + 1) lengths) (get_or index axis 0 ∷ drop (axis + 1) index) ≡ true
  here_inside = rw (at.lengths_at, at.index_at) at way.inside

  here_reach : ReachesPlaces place (get_or lengths axis 0 ∷ drop (axis + 1) lengths) (get_or strides axis (pos 0) ∷ drop (axis + 1) strides)
  here_reach = rw (at.lengths_at, at.strides_at) at way.reach

  pub way_from : place < 9223372036854775808
  way_from = offset_is_place place (drop axis lengths) (drop axis index) (drop axis strides) way.inside way.reach

  pub way_to : is_place (pos place +ℤ (pos (get_or index axis 0) *ℤ get_or strides axis (pos 0))) ≡ true
  way_to = next_is_place place (get_or lengths axis 0) (get_or index axis 0) (drop (axis + 1) lengths) (drop (axis + 1) index) (get_or strides axis (pos 0)) (drop (axis + 1) strides) here_inside here_reach

  pub way_next : (q : ℕ) → pos q ≡ pos place +ℤ (pos (get_or index axis 0) *ℤ get_or strides axis (pos 0)) → IsOnTheWay offset (axis + 1) q lengths index strides
  way_next q e =
      let parts = in_box-cons (get_or lengths axis 0) (drop (axis + 1) lengths) (get_or index axis 0) (drop (axis + 1) index) here_inside in
      let whole = rw (at.strides_at, at.index_at) at way.same in
      record {
        reach = next_reaches place q (get_or lengths axis 0) (get_or index axis 0) (drop (axis + 1) lengths) (get_or strides axis (pos 0)) (drop (axis + 1) strides) parts.0 e here_reach;
        inside = parts.1;
        same = next_same place q (get_or index axis 0) (drop (axis + 1) index) (get_or strides axis (pos 0)) (drop (axis + 1) strides) (place_of offset strides index) e whole;
      }

nothing_left : (p : ℕ) (z : ℤ) (ss : List ℤ) (is : List ℕ) → is ≡ [] → pos p +ℤ displacement_of ss is ≡ z → pos p ≡ z
nothing_left p z ss is e h = sym (ap (λ x. pos p +ℤ x) (ap (displacement_of ss) e ∙ no_displacement ss) ∙ at_end p) ∙ h
  where
    no_displacement : (ss : List ℤ) → displacement_of ss [] ≡ pos 0
    no_displacement [] = refl
    no_displacement (s ∷ ss) = refl

    at_end : (p : ℕ) → pos p +ℤ pos 0 ≡ pos p
    at_end p = omega (arith, ints)

pub way_ends : (offset axis place : ℕ) (lengths index : List ℕ) (strides : List ℤ) → length index ≤ axis → IsOnTheWay offset axis place lengths index strides → pos place ≡ place_of offset strides index
way_ends offset axis place lengths index strides h way =
    nothing_left place (place_of offset strides index) (drop axis strides) (drop axis index) (drop_all axis index h) way.same
