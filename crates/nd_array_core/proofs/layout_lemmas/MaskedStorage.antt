-- A storage that keeps, of its places, those that pass a test: what it still has of a layout all of whose places pass.
use Rattle.nd_array_core.proofs.NamesFromOtherCrates.{◌≡◌, ℕ, Bool, true, false, List, ℤ, pos, negsuc, refl, ap, ◌∙◌, Option, None, if◌then◌else◌, ◌||◌, place_of, in_box, named_at, Placement, kept_at, stored_at, seen_inside}
use Rattle.std.specs.Option.{is_some}
use Rattle.nd_shape_and_slice.specs.declared.dimension.Dimension as dimension
use Rattle.nd_shape_and_slice.specs.declared.dimension.AxisCount as axis_count
use Rattle.nd_shape_and_slice.specs.declared.dimension.StrideList as stride_list
use Rattle.nd_elements.specs.declared.storage.Data as data_trait
use Rattle.nd_array_core.specs.declared.base.array.ArrayBase.{ArrayBase}
use Rattle.nd_array_core.specs.layout.MultiSlice.{HoldsOnceBy, TakenBy, TwoHeld, ThreeHeld, FourHeld}
use Rattle.nd_array_core.specs.layout.SeveralMutableViews.{named_of, pass_either, pass_any_of_three, pass_any_of_four}

-- each place of the placement passes the test
abbrev pub AllPass : Placement → (ℕ → Bool) → Type 0
AllPass l test = (p : ℕ) → named_of l p ≡ true → test p ≡ true

passes_first : (b c : Bool) → b ≡ true → (b || c) ≡ true
passes_first true c e = refl
passes_first false c e = cc

passes_second : (b c : Bool) → c ≡ true → (b || c) ≡ true
passes_second true c e = refl
passes_second false c e = e

first_pass : (l : Placement) (test : ℕ → Bool) → AllPass l (pass_either (named_of l) test)
unfolding pass_either
first_pass l test p e = passes_first (named_of l p) (test p) e

others_pass : (l : Placement) (f test : ℕ → Bool) → AllPass l test → AllPass l (pass_either f test)
unfolding pass_either
others_pass l f test all p e = passes_second (f p) (test p) (all p e)

-- each of several placements passes the test for their places together
pub two_pass : (a b : Placement) → let test = pass_either (named_of a) (named_of b) in AllPass a test × AllPass b test
two_pass a b = (first_pass a (named_of b), others_pass b (named_of a) (named_of b) (λ p e. e))

pub three_pass : (a b c : Placement) → let test = pass_any_of_three (named_of a) (named_of b) (named_of c) in AllPass a test × AllPass b test × AllPass c test
three_pass a b c =
    let test = pass_either (named_of b) (named_of c) in let last = two_pass b c in
    (first_pass a test, others_pass b (named_of a) test last.0, others_pass c (named_of a) test last.1)

pub four_pass : (a b c d : Placement) → let test = pass_any_of_four (named_of a) (named_of b) (named_of c) (named_of d) in AllPass a test × AllPass b test × AllPass c test × AllPass d test
four_pass a b c d =
    let test = pass_any_of_three (named_of b) (named_of c) (named_of d) in let last = three_pass b c d in
    (first_pass a test, others_pass b (named_of a) test last.0, others_pass c (named_of a) test last.1, others_pass d (named_of a) test last.2)

module _ {A : Type 0} (m kept : ℕ → Option A) (test : ℕ → Bool) (is : (p : ℕ) → kept p ≡ kept_at test m p) where
  module _ (l : Placement) (all : AllPass l test) where
    same_there : (z : ℤ) (i : List ℕ) → in_box l.lengths i ≡ true → place_of l.offset l.strides i ≡ z → stored_at kept z ≡ stored_at m z
    unfolding named_of
    same_there (pos p) i h e = is p ∙ ap (λ (b : Bool). if b then m p else None) (all p (named_at l.offset l.lengths l.strides p i h e))
    same_there (negsuc n) i h e = refl

    masked_held : HoldsOnceBy m l → HoldsOnceBy kept l
    masked_held held = record { holds = λ i h. ap is_some (same_there (place_of l.offset l.strides i) i h refl) ∙ held.holds i h; own_places = held.own_places }

    -- a view that is taken there shows what the storage had before
    pub masked_taken : {S D T R : Type 0} {s : data_trait.Ghosts S A} {d : dimension.Ghosts D R} {n : axis_count.Ghosts D} {r : stride_list.Ghosts R} {t : stride_list.Ghosts T} (v : ArrayBase S D T A R s d n r t) → TakenBy kept l v → TakenBy m l v
    masked_taken v taken = (
      record {
        shape_is = taken.0.shape_is;
        strides_are = taken.0.strides_are;
        elements = λ i. taken.0.elements i ∙ seen_inside l.lengths i (stored_at kept (place_of l.offset l.strides i)) (stored_at m (place_of l.offset l.strides i)) (λ h. same_there (place_of l.offset l.strides i) i h refl);
        places = taken.0.places;
      },
      taken.1,
    )

-- what several placements name is still held where the storage keeps just that
module _ {A : Type 0} (m kept : ℕ → Option A) where
  pub two_masked : (a b : Placement) → ((p : ℕ) → kept p ≡ kept_at (pass_either (named_of a) (named_of b)) m p) → TwoHeld m a b → TwoHeld kept a b
  two_masked a b is held =
      let all = two_pass a b in let test = pass_either (named_of a) (named_of b) in (masked_held m kept test is a all.0 held.0, masked_held m kept test is b all.1 held.1)

  pub three_masked : (a b c : Placement) → ((p : ℕ) → kept p ≡ kept_at (pass_any_of_three (named_of a) (named_of b) (named_of c)) m p) → ThreeHeld m a b c → ThreeHeld kept a b c
  three_masked a b c is held =
      let all = three_pass a b c in let test = pass_any_of_three (named_of a) (named_of b) (named_of c) in (masked_held m kept test is a all.0 held.0, (masked_held m kept test is b all.1 held.1.0, masked_held m kept test is c all.2 held.1.1))

  pub four_masked : (a b c d : Placement) → ((p : ℕ) → kept p ≡ kept_at (pass_any_of_four (named_of a) (named_of b) (named_of c) (named_of d)) m p) → FourHeld m a b c d → FourHeld kept a b c d
  four_masked a b c d is held =
      let all = four_pass a b c d in let test = pass_any_of_four (named_of a) (named_of b) (named_of c) (named_of d) in (masked_held m kept test is a all.0 held.0, (masked_held m kept test is b all.1 held.1.0, (masked_held m kept test is c all.2 held.1.1.0, masked_held m kept test is d all.3 held.1.1.1)))
